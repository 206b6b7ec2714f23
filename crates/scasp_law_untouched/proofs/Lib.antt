pub mod FaultLemmas
pub mod LineLemmas
pub mod RoomLemmas
pub mod SameLemmas
pub mod UntouchedLemmas
pub mod WalkLemmas
