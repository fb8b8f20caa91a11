-- What a page leaves, so that the next step may go on from it.
pub mod Standings
