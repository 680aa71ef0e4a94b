-- The rows of a Büchi automaton, from its masks.
pub mod Writing
