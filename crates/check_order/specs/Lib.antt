-- What the contracts of this crate say beside document 01's definitions.
pub mod WorkOf
