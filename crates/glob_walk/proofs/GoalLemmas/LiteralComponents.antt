-- Case-sensitively, a component without wildcards matches only itself.
use Rattle.std.proofs.Common.{◌≡◌, true, refl, ap}
use Rattle.std.specs.Str.{chars, is_utf8, IsUtf8}
use Rattle.std.proofs.lemmas.Str.{IsUtf8-from_is_utf8}
use Rattle.glob_text.specs.Text.{Text}
use Rattle.glob_walk.specs.Components.{is_literal, matches_name}
use Rattle.glob_pattern.specs.declared.options.MatchOptions.{MatchOptions}
use Rattle.glob_pattern.proofs.GrammarLemmas.Accepted.{one_reading}
use Rattle.glob_pattern.proofs.MatchingLemmas.Computed.{match_decided}
use Rattle.glob_pattern.proofs.MatchingLemmas.PlainPatterns.{plain_matches_itself}
use Rattle.glob_walk.proofs.GoalLemmas.Characters.{literal-chars, chars_same}

matches-itself : (o : MatchOptions) → o.case_sensitive ≡ true → (t n : Text) → is_literal t ≡ true → IsUtf8 t
    → IsUtf8 n → (matches_name o t n ≡ true → t ≡ n) × (t ≡ n → matches_name o t n ≡ true)
matches-itself o case t n literal a b =
    let plain = literal-chars t a literal in
    let both = plain_matches_itself one_reading o (chars t) (chars n) plain case in
    let decides = match_decided o (chars t) (chars n) in (
      (λ h. chars_same t n a b (both.0 (decides.0 h))),
      (λ e. decides.1 (both.1 (ap chars e))),
    )

pub own_only : (o : MatchOptions) → o.case_sensitive ≡ true → (t n : Text) → is_literal t ≡ true → is_utf8 t ≡ true
    → is_utf8 n ≡ true → matches_name o t n ≡ true → t ≡ n
own_only o case t n literal a b = (matches-itself o case t n literal (IsUtf8-from_is_utf8 t a) (IsUtf8-from_is_utf8 n b)).0

pub own_name : (o : MatchOptions) → o.case_sensitive ≡ true → (t : Text) → is_literal t ≡ true → is_utf8 t ≡ true
    → matches_name o t t ≡ true
own_name o case t literal a = (matches-itself o case t t literal (IsUtf8-from_is_utf8 t a) (IsUtf8-from_is_utf8 t a)).1 refl
