pub mod Commands
pub mod Lines
pub mod Rows
pub mod Shelled
pub mod Talks
pub mod Traffic
