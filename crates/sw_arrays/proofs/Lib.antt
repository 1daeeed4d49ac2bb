pub mod Blocks
pub mod Fits
pub mod Knows
pub mod Rows
pub mod Steps
