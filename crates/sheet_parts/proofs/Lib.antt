-- The laws that the proofs of `sheet_parts` share.
pub mod Upto
pub mod Lines
pub mod ByRound
pub mod Openings
pub mod Walks
pub mod Items
