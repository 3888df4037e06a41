pub mod PathTests
