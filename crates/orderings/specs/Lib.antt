-- Document 01, "Steps and claims" and "Rounds", with requests C-16 of gaps and C-18 of struck states; request C-15 of two tables; request
-- C-22 of sets by rising size.
pub mod Steps
pub mod Claims
pub mod Systems
pub mod Rounds
pub mod Timelines
pub mod Decide
pub mod Rising
pub mod MoreRows
