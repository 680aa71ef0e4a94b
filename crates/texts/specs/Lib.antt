-- Texts as the writers make them.
pub mod Digits
