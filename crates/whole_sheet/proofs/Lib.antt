-- The laws that the proofs of `whole_sheet` share.
pub mod Automata
pub mod Measuring
pub mod Printing
pub mod Saving
pub mod Parts
