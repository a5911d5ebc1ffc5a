pub mod Source
pub mod Sink
pub mod Faults
pub mod Told
pub mod Plan
pub mod Clock
pub mod Accept
