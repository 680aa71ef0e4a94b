-- The laws that the proofs of `tours` share.
pub mod Coming
pub mod Standing
pub mod Showing
pub mod Laid
pub mod Piecing
