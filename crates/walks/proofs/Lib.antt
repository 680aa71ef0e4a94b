-- The laws that the proofs of `walks` share.
pub mod Layers
pub mod Choices
pub mod Following
pub mod Descending
pub mod Standing
pub mod Courses
pub mod Answers
pub mod Chained
