-- Lemmas on lists.
pub mod Members
pub mod Rises
pub mod Changes
pub mod Bodies
pub mod Pushed
