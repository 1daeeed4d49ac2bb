pub mod Appended
pub mod Flags
pub mod Gone
pub mod Keys
pub mod Left
