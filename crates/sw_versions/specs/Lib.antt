pub mod Lists
pub mod Rules
pub mod Known
pub mod Pending
pub mod Copied
pub mod Refused
