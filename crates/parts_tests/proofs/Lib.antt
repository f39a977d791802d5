mod Bounds
mod Pacing
