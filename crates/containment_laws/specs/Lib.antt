pub mod SimplePaths
pub mod Lines
pub mod LineExamples
pub mod Accepted
