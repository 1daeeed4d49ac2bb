pub mod GroupLemmas
pub mod CellLemmas
pub mod CellSpelling
pub mod SeenLemmas
pub mod NumberedLemmas
pub mod RecordLemmas
pub mod TableLemmas
pub mod TableSpelling
