-- Which cause has a number.
pub mod Numbers
