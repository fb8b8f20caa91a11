-- What the contracts of this crate name beside the definitions of `meaning`.
pub mod Places
