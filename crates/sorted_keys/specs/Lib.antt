-- The definitions that the contracts of `sorted_keys` cite.
pub mod Keys
pub mod Shifts
