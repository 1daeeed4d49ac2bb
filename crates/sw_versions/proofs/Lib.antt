pub mod Batches
pub mod Adding
pub mod Prefixes
pub mod Writing
pub mod Refusals
pub mod Drafts
