pub mod EachLemmas
pub mod MemberLemmas
