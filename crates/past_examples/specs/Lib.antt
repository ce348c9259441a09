pub mod CollectExamples
pub mod CountExamples
pub mod DrainExamples
pub mod HintExamples
pub mod RefreshExamples
pub mod RunExamples
pub mod ViewExamples
pub mod WorkedRuns
