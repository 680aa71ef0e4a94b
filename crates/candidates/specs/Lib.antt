-- What a round opens, by the masks, and where it is awaited.
pub mod Promises
