-- The definitions that the contracts of `causes` cite.
pub mod Numbers
