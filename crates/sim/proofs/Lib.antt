-- SmallFloat's codes and lengths, and the bounds of inverses and scores: for the crates above.
pub mod Codes
pub mod ByteLengths
pub mod Tables
pub mod Inverses
pub mod ScoreBounds
