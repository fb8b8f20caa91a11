-- What the contracts of this crate name: what is read of a record, the sums of a window, and what the scores of a node
-- and of some children's parts ask and give.
pub mod Words
pub mod Sums
pub mod Places
pub mod Asked
