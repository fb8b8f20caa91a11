-- What the words of a query's scorer tree are when they are written.
pub mod Parts
