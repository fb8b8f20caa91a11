-- What request 2026-01 says of an index in which one live bit is cleared.
pub mod Withdrawal
