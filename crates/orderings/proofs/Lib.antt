-- The laws of orderings: first what is computed, then walks, depths and verdicts, and the tests that decide them.
pub mod Drift
pub mod Walks
pub mod Steps
pub mod Depths
pub mod Verdicts
pub mod Timelines
pub mod Members
pub mod Reach
pub mod Deciding
pub mod Claims
pub mod MoreRows
pub mod Gaps
pub mod Struck
pub mod Rising
