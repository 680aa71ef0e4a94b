-- The definitions that the contracts of `chains` cite.
pub mod Chains
pub mod Passing
