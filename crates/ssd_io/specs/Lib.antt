pub mod Adapters
pub mod FaultCounts
pub mod ListedCalls
pub mod MemSink
pub mod MemSource
pub mod Pieces
pub mod Told
pub mod Writes
