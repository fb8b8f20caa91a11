-- A lot withdrawn between two runs, as theorems about the definitions, each after the laws that it uses.
pub mod Bits
pub mod Live
pub mod Same
pub mod Lists
pub mod Full
pub mod Refusals
pub mod Hits
pub mod Search
pub mod Examples
