-- The records of escaped texts, one after another.
use Rattle.std.proofs.Common.{◌≡◌, ℕ, ◌+◌, ◌<◌, ◌≤◌, List, [], ◌++◌, length, get_or, drop, map, refl, sym, subst}
use Rattle.std.proofs.Common.{append-nil, append_assoc, Bor}
use Rattle.std.proofs.lemmas.List.{drop_all, drop_more}
use Rattle.std.specs.Prelude.{encode_utf8}
use Rattle.std.specs.Str.{chars}
use Rattle.glob_text.specs.Text.{Text}
use Rattle.glob_set.specs.BraceEscaping.{StandsFor, escaped_text}
use Rattle.globs.specs.Escaping.{AreEscaped}

-- the records so far and the records of the texts that are left are the records of all texts
abbrev pub Continues : (end : ℕ) → (texts : List (Bor Text)) → (i : ℕ) → (records : Text) → Type 0
Continues end texts i records = (rest : Text) → AreEscaped end (map (λ t. t.now) (drop i texts)) rest →
    AreEscaped end (map (λ t. t.now) texts) (records ++ rest)

-- one more record
pub one_more : (end : ℕ) (texts : List (Bor Text)) (i : ℕ) (none : Bor Text) (records escaped : Text) →
    i < length texts → chars escaped ≡ escaped_text (chars (get_or texts i none).now) → StandsFor escaped (get_or texts i none).now
    → Continues end texts i records → Continues end texts (i + 1) ((records ++ escaped) ++ encode_utf8 end)
one_more end texts i none records escaped below right alone so rest are =
    subst (AreEscaped end (map (λ t. t.now) texts)) (simp append_assoc)
    (so ((escaped ++ encode_utf8 end) ++ rest)
    (subst (λ ts. AreEscaped end (map (λ t. t.now) ts) ((escaped ++ encode_utf8 end) ++ rest)) (sym (drop_more texts i none below))
    (escaped ++ encode_utf8 end, rest, (escaped, right, alone, refl), are, refl)))

-- no text is left
pub all_records : (end : ℕ) (texts : List (Bor Text)) (i : ℕ) (records : Text) → length texts ≤ i →
    Continues end texts i records → AreEscaped end (map (λ t. t.now) texts) records
all_records end texts i records past so =
    subst (AreEscaped end (map (λ t. t.now) texts)) (append-nil records)
    (so [] (subst (λ ts. AreEscaped end (map (λ t. t.now) ts) []) (sym (drop_all i texts past)) refl))
