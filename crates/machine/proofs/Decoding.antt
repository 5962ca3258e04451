-- What validation gives.
pub mod Proper
pub mod Groups
pub mod ParserLaws
pub mod ProperFrom
pub mod WiderParsing
