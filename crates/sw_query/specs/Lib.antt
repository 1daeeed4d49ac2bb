pub mod Bounds
pub mod Outcomes
pub mod Refusals
pub mod Replies
pub mod Scan
pub mod Spans
