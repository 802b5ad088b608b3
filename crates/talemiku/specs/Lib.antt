pub mod AfterParticles
pub mod AfterRecords
pub mod Pass
pub mod Told
