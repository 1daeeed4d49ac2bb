pub mod Asked
pub mod Blocks
pub mod Columns
