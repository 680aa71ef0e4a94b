-- What the masks of some rows are, and the promises of the functions that make them.
pub mod Promise
pub mod Striking
pub mod Passed
