pub mod PlacesLemmas
pub mod DuesLemmas
