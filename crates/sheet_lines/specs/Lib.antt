-- Lines as the writers make them.
pub mod Lines
