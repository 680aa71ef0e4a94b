-- The session record as a function of the plain machine, and the promises of the calls.
pub mod Record
pub mod Promise
pub mod Standing
