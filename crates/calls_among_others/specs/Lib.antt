pub mod ActorsCalls
pub mod CallsAmong
pub mod HostCalls
pub mod Parts
pub mod StepsAmong
pub mod WholeCalls
pub mod TwoActors
