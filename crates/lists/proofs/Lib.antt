-- The laws of lists that all crates share.
pub mod Deciding
pub mod Counting
pub mod Sorting
pub mod Growing
pub mod Writing
pub mod Places
pub mod Gaps
