pub mod WellFormedCases
pub mod SecrecyExamples
pub mod IntegrityExamples
pub mod Instances
