mod CsvBack
mod JsonBack
pub mod Making
mod Numbers
pub mod Pieces
mod RecordsBack
mod TableBack
mod ValueTexts
