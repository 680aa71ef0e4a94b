-- The laws that the proofs of `buchi_rows` share: rows written one after another, and the edges that are left.
pub mod Kept
pub mod EdgesLeft
