pub mod Answers
pub mod BothStates
pub mod ChangesText
pub mod Inner
pub mod Requests
pub mod WhyText
pub mod PathTexts
