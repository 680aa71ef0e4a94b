-- What the search reads, and what its promises say.
pub mod Graph
pub mod Masked
pub mod Hops
pub mod Promises
pub mod Passes
