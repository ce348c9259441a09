pub mod AloneCalls
