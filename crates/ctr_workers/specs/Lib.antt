pub mod Workers
pub mod Leads
