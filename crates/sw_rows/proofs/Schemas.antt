pub mod ColumnLemmas
pub mod DomainLaws
pub mod HeaderSpelling
pub mod SchemaLaws
pub mod SlotColumns
pub mod SlotLemmas
pub mod TextLaws
pub mod TextLemmas
