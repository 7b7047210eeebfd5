pub mod Rewriting
pub mod Sets
pub mod Slots
pub mod Marks
