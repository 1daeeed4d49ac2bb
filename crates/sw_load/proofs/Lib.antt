pub mod Appended
pub mod Flagged
pub mod Halves
pub mod Places
pub mod Rising
pub mod Skipping
pub mod Without
