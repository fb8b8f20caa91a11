-- The laws of the walk, and of the pages that it gives.
pub mod Left
pub mod Pages
pub mod Walking
