pub mod FillLemmas
pub mod PlanLemmas
