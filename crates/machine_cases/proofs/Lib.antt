pub mod Cases
pub mod SecrecyExamples
pub mod IntegrityExamples
pub mod Instances
