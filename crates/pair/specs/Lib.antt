pub mod Sides
pub mod Pair
pub mod Search
pub mod Rules
pub mod Evidence
pub mod ByTraces
pub mod TraceCheck
