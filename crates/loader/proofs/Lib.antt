-- The laws of the loader.
pub mod Putting
pub mod Heads
pub mod Meeting
pub mod Limits
pub mod Taking
pub mod Batches
pub mod Ordering
pub mod Completing
