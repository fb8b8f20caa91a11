-- The Place entry: the words of a phrase's terms in a document, its refusals, and what it finds.
pub mod TermWords
pub mod PlaceApart
pub mod PlaceEntry
