mod Counts
mod Joins
mod Lengths
