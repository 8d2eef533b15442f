pub mod Trace
pub mod Agreement
pub mod Lookups
pub mod CeilingOnAreas
pub mod DryRunOnAreas
pub mod ExchangeOnAreas
pub mod ContractTrace
