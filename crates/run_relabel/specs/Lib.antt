pub mod AnswerPut
pub mod Spelled
pub mod Answered
