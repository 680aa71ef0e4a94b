-- The laws of chains.
pub mod Linking
pub mod Passing
