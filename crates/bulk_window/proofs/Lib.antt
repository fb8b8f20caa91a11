-- The loop over windows: the live documents of one, those that match, their scores, and what is collected so far.
pub mod Lists
pub mod Live
pub mod Places
pub mod Scores
pub mod Window
pub mod Loop
