-- Document 01, "The session as a plain machine", "Rounds", "The sheet", "Causes and numbers" and "Sheets to check".
pub mod Machine
pub mod Order
pub mod Search
pub mod Text
pub mod Sheet
pub mod Word
pub mod Expression
pub mod Calls
pub mod Causes
pub mod Program
pub mod WellFormed
pub mod Marks
pub mod Statements
pub mod Labels
