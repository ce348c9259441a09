mod SmallStart
mod TriedSteps
