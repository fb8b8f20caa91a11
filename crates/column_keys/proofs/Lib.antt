-- Keys lie in the order of the values, and a range is an interval of keys.
pub mod Tests
pub mod KeyOrder
