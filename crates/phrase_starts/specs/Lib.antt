-- What the words of a phrase's terms say, and the common part of lists.
pub mod Terms
pub mod Common
