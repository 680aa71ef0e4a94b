-- The definitions about lists that all crates share.
pub mod Tests
pub mod Order
pub mod Growing
pub mod Writing
