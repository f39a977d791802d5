mod Choosing
mod Cycles
mod Seeds
