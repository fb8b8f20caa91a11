-- What tokens are known to be where 15 does not hold.
pub mod TokensOk
