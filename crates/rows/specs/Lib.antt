-- Document 01, "Rows and the batch", with request C-18's sixth kind.
pub mod Rows
pub mod Reading
pub mod Batch
pub mod Keys
