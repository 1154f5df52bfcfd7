pub mod Structure
pub mod Reading
pub mod Work
pub mod Refusal
pub mod Spans
