-- The clauses of a Boolean as the code writes them, and a whole tree's part.
pub mod Found
pub mod BooleanParts
pub mod PlacingLists
pub mod PlacingParts
pub mod PlacingBooleans
pub mod PlacingBelow
pub mod Root
