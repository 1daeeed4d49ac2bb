pub mod Beginnings
pub mod CutLaws
pub mod PartLaws
pub mod TextPartLaws
