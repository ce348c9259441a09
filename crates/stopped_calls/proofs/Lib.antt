mod RoundStops
mod StoppedCalls
