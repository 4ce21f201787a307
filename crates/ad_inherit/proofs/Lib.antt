pub mod CopyFlags
pub mod Passing
pub mod Wholes
