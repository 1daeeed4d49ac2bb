pub mod Areas
pub mod Preparing
pub mod Merging
pub mod Replying
