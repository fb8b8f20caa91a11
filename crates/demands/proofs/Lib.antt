-- Demand 3 as theorems about the definitions, each after the laws that it uses.
pub mod Lists
pub mod Rising
pub mod Pages
pub mod Ranked
pub mod Accepting
pub mod Rankable
pub mod Search
pub mod Hits
pub mod Example
