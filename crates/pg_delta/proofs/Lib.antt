pub mod Ends
pub mod Fronts
pub mod Chains
pub mod Leads
pub mod Laid
pub mod Computed
