-- Demand 3 at the border, each theorem after the laws that it uses.
pub mod Contracts
pub mod Entries
pub mod Hits
pub mod Pages
pub mod Alone
pub mod Example
