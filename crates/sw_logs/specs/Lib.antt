pub mod Openings
pub mod Orders
pub mod Readings
pub mod Steps
