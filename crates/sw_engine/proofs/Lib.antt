mod Examples
pub mod Ties
pub mod Latches
pub mod Backlog
pub mod Turns
pub mod Published
pub mod Later
pub mod Owned
pub mod Placed
pub mod Whole
pub mod Shelves
pub mod Closing
pub mod Visits
pub mod Called
pub mod AtRest
pub mod Together
