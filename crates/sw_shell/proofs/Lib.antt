pub mod Selecting
pub mod Shelling
pub mod Talking
