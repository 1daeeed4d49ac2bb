pub mod Cutting
pub mod Known
pub mod Parsing
pub mod Printed
pub mod Progress
