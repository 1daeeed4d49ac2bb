pub mod RenamingLemmas
