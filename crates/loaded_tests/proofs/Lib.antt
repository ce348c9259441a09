mod CollectingCalls
mod LoadedStart
mod LoneCalls
