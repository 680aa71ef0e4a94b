-- What a line of a session says.
pub mod Digits
pub mod Meaning
pub mod Table
pub mod Promise
