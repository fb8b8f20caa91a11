-- One call of each entry at the border, and what demand 3 says of such calls.
pub mod Calls
pub mod Pages
