-- Acceptance and matches from computed answers, which `refl` proves for literal texts.
use Rattle.std.proofs.Common.{◌≡◌, ◌∙◌, true, false, List, Decides, Ok, Err, sym}
use Rattle.std.proofs.lemmas.Bool.{false≢true}
use Rattle.glob_text.specs.Text.{Text}
use Rattle.glob_pattern.specs.Grammar.Tokens.{Token}
use Rattle.glob_pattern.specs.Grammar.Units.{IsAccepted}
use Rattle.glob_pattern.specs.Grammar.Faults.{Fault, IsFault}
use Rattle.glob_pattern.specs.Matching.Texts.{Matches}
use Rattle.glob_pattern.specs.Computing.Reading.{reading_of}
use Rattle.glob_pattern.specs.Computing.Deciding.{is_match}
use Rattle.glob_pattern.specs.declared.options.MatchOptions.{MatchOptions}
use Rattle.glob_pattern.proofs.GrammarLemmas.Accepted.{reading_of-Ok, no_fault}
use Rattle.glob_pattern.proofs.GrammarLemmas.Accepting.{accepted_by_tokens}
use Rattle.glob_pattern.proofs.GrammarLemmas.Reading.{tokens_by_reading, fault_by_reading}
use Rattle.glob_pattern.proofs.MatchingLemmas.Deciding.{Decides-Matches}
use Rattle.glob_pattern.proofs.MatchingLemmas.Matched.{accepted_by_match}

-- A text that is read as tokens is accepted.
pub accepted_by_reading : (text : Text) (tokens : List Token) → reading_of text ≡ Ok tokens → IsAccepted text
accepted_by_reading text tokens e = accepted_by_tokens text tokens (tokens_by_reading text tokens e)

-- A text that is read as a fault is not accepted.
pub refused_by_reading : (text : Text) (fault : Fault) → reading_of text ≡ Err fault → ¬ (IsAccepted text)
refused_by_reading text fault e accepted = no_fault text fault accepted (fault_by_reading text fault e)

-- The computed answer is yes exactly for the texts that the pattern matches.
pub match_decided : (o : MatchOptions) (pattern text : Text) → Decides (is_match o pattern text) (Matches o pattern text)
match_decided o pattern text = Decides-Matches o pattern text (λ tokens. (
  (reading_of-Ok pattern tokens).1,
  (reading_of-Ok pattern tokens).0,
))

-- A pattern matches a text for which the computed answer is yes.
pub match_by_computing : (o : MatchOptions) (pattern text : Text) → is_match o pattern text ≡ true → Matches o pattern text
match_by_computing o pattern text = (match_decided o pattern text).0

-- It matches no text for which the answer is no.
pub no_match_by_computing : (o : MatchOptions) (pattern text : Text) → is_match o pattern text ≡ false → ¬ (Matches o pattern text)
no_match_by_computing o pattern text e matches = false≢true (sym e ∙ (match_decided o pattern text).1 matches)

-- What has a fault matches nothing.
pub no_match_by_fault : (o : MatchOptions) (pattern text : Text) (fault : Fault) → IsFault pattern fault → ¬ (Matches o pattern text)
no_match_by_fault o pattern text fault is matches = no_fault pattern fault (accepted_by_match o pattern text matches) is
