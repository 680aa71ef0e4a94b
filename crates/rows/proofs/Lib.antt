-- The laws of rows, batches, sets, keys and the order of rows; first what is computed of rows and their bytes.
pub mod Pins
pub mod Same
pub mod Reading
pub mod Batch
pub mod Sets
pub mod ByteOrder
pub mod Keys
pub mod RowOrder
