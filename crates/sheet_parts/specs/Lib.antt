-- The definitions that the contracts of `sheet_parts` cite.
pub mod Openings
pub mod Lines
