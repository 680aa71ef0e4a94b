-- What a caller from C or Rust is promised of a list of calls.
pub mod Promise
