pub mod ContentLemmas
pub mod DiskLemmas
pub mod LoopLemmas
pub mod MemoryLemmas
pub mod ReceivedLemmas
pub mod StraysLemmas
pub mod SystemLemmas
