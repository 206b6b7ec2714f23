pub mod Leads
pub mod TreeLeads
pub mod BlockLeads
