pub mod TableLemmas
pub mod PlaceLemmas
pub mod AloneLemmas
pub mod EventLemmas
pub mod NumberLemmas
pub mod RoomLemmas
pub mod CountLemmas
