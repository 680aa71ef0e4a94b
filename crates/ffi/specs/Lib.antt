-- What a caller from C or Rust is promised.
pub mod Promise
