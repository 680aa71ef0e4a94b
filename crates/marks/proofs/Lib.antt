-- The laws of names and of marks in their record.
pub mod Naming
pub mod Placing
pub mod Packing
