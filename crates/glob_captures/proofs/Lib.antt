pub mod ByteLemmas
pub mod FrontLemmas
pub mod RestLemmas
pub mod StepLemmas
pub mod WritingLemmas
