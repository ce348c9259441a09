pub mod SmallCalls
