-- The proofs of the answer words.
pub mod Outcomes
pub mod AnswerWords
pub mod FewItems
pub mod SmallAnswers
pub mod SmallFeeds
pub mod SmallTips
pub mod SmallNear
pub mod SmallStores
pub mod SmallCuts
pub mod Claims
