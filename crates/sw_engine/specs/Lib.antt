pub mod Published
pub mod Desk
pub mod Locked
pub mod Headline
pub mod Later
pub mod Own
pub mod Sessions
pub mod Leading
