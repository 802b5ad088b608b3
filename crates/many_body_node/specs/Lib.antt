pub mod NodePull
