pub mod LentLists
