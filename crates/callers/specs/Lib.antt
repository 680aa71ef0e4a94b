-- What a caller that makes a list of calls comes to.
pub mod Handed
