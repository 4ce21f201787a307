pub mod Symbols
pub mod ReadBytes
pub mod MadeSchema
pub mod SoundText
