-- The laws of codes, and the codes computed.
pub mod Coding
pub mod Pins
