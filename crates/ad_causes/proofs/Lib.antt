pub mod CountLemmas
pub mod TextLemmas
pub mod MemberLemmas
pub mod EntryLemmas
pub mod NoCause
