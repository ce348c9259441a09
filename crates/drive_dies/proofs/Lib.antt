pub mod EachDie
pub mod HandedDies
pub mod MountedDies
