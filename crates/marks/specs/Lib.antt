-- The marks of a machine as a record, and what the functions on it promise.
pub mod Record
pub mod Promise
