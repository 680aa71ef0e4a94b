-- What the arrays of a table hold, and the promises of the functions on them.
pub mod Arrays
pub mod Letters
pub mod Promise
