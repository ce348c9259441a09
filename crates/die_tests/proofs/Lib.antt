pub mod StripeSteps
pub mod ThreeDies
