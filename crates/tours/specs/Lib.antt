-- What is written out, leg by leg and part by part, and where a cursor stands in it.
pub mod Frames
pub mod Laid
pub mod Parts
pub mod Cursors
pub mod Coming
