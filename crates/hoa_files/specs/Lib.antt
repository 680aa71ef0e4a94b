-- Request C-21: automata and their files, causes, rows and verdicts; and what promises need of the code's values.
pub mod Automata
pub mod Files
pub mod Tables
pub mod Cycles
pub mod Reading
pub mod Promise
