pub mod DrainSteps
pub mod GeneratedBytes
pub mod LentChannels
pub mod SeenChannels
pub mod ServedCalls
pub mod ServedVerbs
pub mod StandingChannels
