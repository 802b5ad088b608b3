pub mod ManyBody
