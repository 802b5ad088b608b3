mod Inserting
mod Removals
mod Turns
