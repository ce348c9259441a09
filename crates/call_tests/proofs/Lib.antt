mod TriedCalls
mod SmallStart
