-- The laws that the proofs of `hoa_files` share, in the order of the argument.

-- bytes: texts and numbers at a place
pub mod Starting
pub mod Numerals
-- the lines of a file: where they end, what refuses them, what they tell, which may come next, and what their bytes are
pub mod Breaks
pub mod Causes
pub mod Telling
pub mod Following
pub mod LineTexts
-- what is read so far: states, lines that a file may begin with, masks, the body and the head
pub mod States
pub mod Completing
pub mod Masking
pub mod PartRead
pub mod BodyRead
pub mod HeadRead
-- the rows: as they are written, in order, all of them, of every automaton, and into a fresh machine
pub mod Ordered
pub mod FromMasks
pub mod IntoMasks
pub mod Fresh
-- the call and the program
pub mod Converting
pub mod Outputs
-- the verdict, and all of it
pub mod Cycling
pub mod Verdicts
pub mod Every
-- a file byte by byte
pub mod Pins
