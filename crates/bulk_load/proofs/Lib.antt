-- Laws of keys put in, of the rows that masks and words give, and of the rows of a table by their kinds.
pub mod Growing
pub mod Lines
pub mod ByKind
