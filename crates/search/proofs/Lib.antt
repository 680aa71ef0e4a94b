-- The laws that the proofs of `search` share.
pub mod Parts
pub mod Incidence
pub mod Chains
pub mod Hops
pub mod Steps
pub mod Joining
pub mod Walks
pub mod Saying
pub mod Passing
pub mod Pulling
pub mod Adding
pub mod Accepting
pub mod Lettering
pub mod Reaching
pub mod Opening
