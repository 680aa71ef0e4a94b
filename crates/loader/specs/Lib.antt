-- What is met of a batch in the arrays of the loader, and the promises of its functions.
pub mod Arrays
pub mod Met
pub mod Sorting
pub mod Promise
