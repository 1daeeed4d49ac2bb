pub mod Examples
pub mod Opening
pub mod Asking
