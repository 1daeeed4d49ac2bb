pub mod Numbering
pub mod Computed
pub mod Merging
