pub mod ReplyLemmas
pub mod ScanLemmas
