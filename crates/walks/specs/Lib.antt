-- The definitions that the contracts of `walks` cite.
pub mod Found
pub mod Layers
pub mod Choices
pub mod Walks
