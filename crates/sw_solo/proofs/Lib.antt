pub mod Follows
pub mod Served
pub mod Settles
pub mod Stands
