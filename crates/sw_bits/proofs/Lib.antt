pub mod Places
pub mod Refined
pub mod Words
