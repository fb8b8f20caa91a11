-- What the program prints.
pub mod Text
