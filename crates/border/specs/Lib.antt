-- How the entries answer at the border.
pub mod Border
pub mod Write
