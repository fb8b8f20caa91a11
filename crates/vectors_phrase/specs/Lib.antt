-- When a phrase may be asked.
pub mod Asked
