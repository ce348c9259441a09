pub mod Asked
pub mod BrokenOff
pub mod ChannelCalls
pub mod Draining
pub mod OnOne
pub mod Seen
pub mod Served
