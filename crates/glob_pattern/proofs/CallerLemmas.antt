-- What proofs of callers use of `IsAccepted`, `IsFault`, `Matches`, `TokensMatch` and `IsShort`, which are opaque
-- there.
pub use Rattle.glob_pattern.proofs.GrammarLemmas.Accepting.{accepted_by_units, accepted_by_tokens, units_of_accepted, tokens_of_accepted}
pub use Rattle.glob_pattern.proofs.GrammarLemmas.Accepted.{one_reading, no_fault, one_fault, some_fault}
pub use Rattle.glob_pattern.proofs.GrammarLemmas.FaultKinds.{kind_of_message, message_of_kind}
pub use Rattle.glob_pattern.proofs.GrammarLemmas.Reading.{tokens_by_reading, fault_by_reading}
pub use Rattle.glob_pattern.proofs.MatchingLemmas.Matched.{tokens_match_by_pieces, pieces_of_match, match_by_tokens}
pub use Rattle.glob_pattern.proofs.MatchingLemmas.Matched.{tokens_of_match, accepted_by_match, short_by_tokens}
pub use Rattle.glob_pattern.proofs.MatchingLemmas.Matched.{short_by_length}
pub use Rattle.glob_pattern.proofs.MatchingLemmas.Deciding.{Decides-TokensMatch}
pub use Rattle.glob_pattern.proofs.MatchingLemmas.Computed.{accepted_by_reading, refused_by_reading, match_decided}
pub use Rattle.glob_pattern.proofs.MatchingLemmas.Computed.{match_by_computing, no_match_by_computing}
pub use Rattle.glob_pattern.proofs.MatchingLemmas.Computed.{no_match_by_fault}
