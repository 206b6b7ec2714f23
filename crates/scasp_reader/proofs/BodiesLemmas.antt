pub mod CountLemmas
pub mod ZeroRow
