-- What calls from a fresh session handed back, one call after another.
pub mod Handed
pub mod Variants
pub mod Expressions
pub mod Files
