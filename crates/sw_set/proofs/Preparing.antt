pub mod Ends
pub mod Needing
pub mod Noting
pub mod Queried
pub mod Ranges
pub mod Tails
pub mod Trying
