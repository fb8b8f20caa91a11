-- The border's answers from those of the entries behind it, one law for each way through.
pub mod Short
pub mod Told
pub mod WriteTold
