-- The promises of the checker.
pub mod Promise
