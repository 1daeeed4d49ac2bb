pub mod Around
pub mod Places
pub mod Steps
pub mod Kept
pub mod Moved
pub mod InPlace
