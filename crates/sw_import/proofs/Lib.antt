pub mod MadeLemmas
pub mod NumberedLemmas
pub mod PlainLemmas
pub mod RecordLemmas
pub mod RowLemmas
pub mod TakenLemmas
