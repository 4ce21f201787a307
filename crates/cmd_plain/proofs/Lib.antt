pub mod RequestCodec
pub mod Refusals
pub mod SddlReplies
