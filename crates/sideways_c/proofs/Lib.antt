pub mod Executing
pub mod Inserts
pub mod Opens
pub mod Replying
pub mod Selected
pub mod Texts
pub mod Unmade
pub mod Values
