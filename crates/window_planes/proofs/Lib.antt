-- Bit planes: adding one at some places, and comparing with a number.
pub mod Planes
