-- The laws of the numbers of an index, and of those of Search and Page, some of which Place has too.
pub mod Rooms
pub mod Answered
pub mod Refusing
pub mod CallConditions
