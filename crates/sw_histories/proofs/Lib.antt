pub mod Back
pub mod Found
pub mod Related
