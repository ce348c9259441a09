pub mod Actors
pub mod Ended
pub mod Hinted
pub mod Known
pub mod Replying
pub mod Served
