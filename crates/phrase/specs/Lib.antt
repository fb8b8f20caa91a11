-- What the words of a phrase's terms say, the steps to their common part, what Place answers, and the words for an
-- index.
pub mod Terms
pub mod Step
pub mod Place
pub mod Words
