-- The definitions that the contracts of `lacks` cite.
pub mod Lacks
