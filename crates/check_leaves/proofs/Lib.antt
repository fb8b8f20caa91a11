-- Leaves whose runs follow one another: what is gathered of them, block by block, shows that none is wrong.
pub mod Plainly
pub mod Blocks
pub mod Adjoined
pub mod Stretches
