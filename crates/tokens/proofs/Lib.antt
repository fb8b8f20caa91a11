-- One token's tests, as refusal 15 says them.
pub mod OneToken
