-- What the contracts of this crate name beside the definitions of `meaning` and `tree_weight`.
pub mod Asked
