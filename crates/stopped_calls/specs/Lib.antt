pub mod StoppedCalls
