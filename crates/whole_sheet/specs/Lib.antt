-- What is printed, as the arrays have it, and the promises of printing.
pub mod Text
pub mod Promise
pub mod Saving
