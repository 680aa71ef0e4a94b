-- The rounds of a machine in arrays, and what the rounds promise.
pub mod Arrays
pub mod Promises
