-- The laws of a root that matches everything, and of one that has an only child.
pub mod AnyRoot
pub mod OnlyChild
