-- The laws of the record, of its gate and of each call on it.
pub mod Standing
pub mod Whole
pub mod Gate
pub mod Batches
pub mod Rounded
pub mod Phases
pub mod Written
pub mod Marked
