-- What an answer is as a number and a place.
pub mod Coding
