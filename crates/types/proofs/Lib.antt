pub mod Injective
pub mod InjectiveAnswers
