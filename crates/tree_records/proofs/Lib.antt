-- Node states as records: copied to the words and back, record by record.
pub mod Turns
