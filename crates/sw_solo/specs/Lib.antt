pub mod Called
pub mod Seats
