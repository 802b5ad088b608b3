pub mod ChargeChain
pub mod ChargeLaws
