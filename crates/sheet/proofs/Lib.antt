pub mod Lists
pub mod Checked
pub mod Sheets
pub mod Columns
pub mod Turns
pub mod PairLists
