pub mod NumberBytes
pub mod Steps
pub mod Codec
pub mod Many
pub mod Machines
pub mod Appended
