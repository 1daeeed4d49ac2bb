pub mod OtherCalls
pub mod OtherCodes
pub mod OtherFiles
pub mod OtherHistories
pub mod OtherTexts
pub mod RecordGrammar
