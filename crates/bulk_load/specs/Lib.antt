-- What writing the keys of rows out of masks promises.
pub mod Writing
