-- What programs read.
pub mod Input
