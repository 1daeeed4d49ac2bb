pub mod Given
pub mod Knowing
pub mod Lines
