pub mod Digits
pub mod ElementCodec
pub mod Shortest
