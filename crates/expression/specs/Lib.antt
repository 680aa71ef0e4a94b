-- What an expression is made of as the arrays have it, how long it is, and what is promised of both.
pub mod Texts
pub mod Frames
pub mod Lengths
pub mod Promise
