-- The word of each kind stands for that kind alone.
pub mod KindLaws
pub mod Scorers
pub mod Windows
