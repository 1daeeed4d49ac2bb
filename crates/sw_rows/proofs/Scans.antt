pub mod RowLaws
pub mod TextRowLaws
