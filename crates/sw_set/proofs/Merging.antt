pub mod Merges
pub mod Positions
pub mod Removals
pub mod Restarts
pub mod Stretches
