pub mod Collecting
pub mod Condemning
pub mod Copying
pub mod Filling
pub mod Noting
pub mod TablesState
pub mod Writing
