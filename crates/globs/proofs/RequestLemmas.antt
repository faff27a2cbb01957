-- What words ask for, once the first word is read.
use Rattle.std.proofs.Common.{◌≡◌, ℕ, ◌-◌, ◌<◌, ◌≤◌, ◌≢◌, ◌||◌, false, List, [], ◌∷◌, Some, None, Ok, length, get_or, take}
use Rattle.std.proofs.Common.{drop, map, refl, sym, subst, ap, Bor, arith}
use Rattle.std.proofs.lemmas.List.{take_rest}
use Rattle.std.proofs.lemmas.Bool.{false_from_ne_true}
use Rattle.std.proofs.lemmas.Slice.Eq.{bytes_eq-Decides}
use Rattle.std.specs.Prelude.{bytes_eq, codes}
use Rattle.globs.specs.Chosen.{Chosen}
use Rattle.globs.specs.CommandLine.{command_asked, is_help, name_of, operands_asked, reading, request_asked, request_of_reading}
use Rattle.globs.specs.Reading.{Reading}
use Rattle.globs.specs.Requests.{IsWrong, IsWrongRequest}
use Rattle.globs.specs.Options.{new_options, value_taken, valued_of}
use Rattle.globs.specs.Spelling.{attached, with_flags}
use Rattle.globs.specs.declared.name.Name.{Name}
use Rattle.globs.specs.declared.options.Settings.{Settings}
use Rattle.globs.specs.declared.options.Valued.{Valued}
use Rattle.globs.specs.declared.usage.UsageFault.{UsageFault}
use Rattle.globs.specs.declared.usage.UsageFault.TheVariants.{Word, Memory}

-- the words behind the first one
abbrev pub behind : List (Bor (List ℕ)) → List (Bor (List ℕ))
behind words = take (length words - 1) (drop 1 words)

module _ (name : Name) (o : Chosen) where
  at_flags : (settings : Settings) (word : List ℕ) (words : List (List ℕ)) → is_help word ≡ false →
      valued_of name word ≡ None → attached name word ≡ None → with_flags name word o.settings ≡ Some settings
      → reading name o (word ∷ words) ≡ reading name (record o { settings = settings }) words
  at_flags settings word [] page valued apart flags = rw page (rw valued (rw apart (rw flags refl)))
  at_flags settings word (next ∷ words) page valued apart flags =
      rw (reading, page) (rw (reading, valued) (rw (reading, apart) (rw (reading, flags) refl)))

  -- at options without values
  pub reading_flags : (settings : Settings) (none : Bor (List ℕ)) (words : List (Bor (List ℕ))) → 1 ≤ length words
      → is_help (get_or words 0 none).now ≡ false → valued_of name (get_or words 0 none).now ≡ None →
      attached name (get_or words 0 none).now ≡ None → with_flags name (get_or words 0 none).now o.settings ≡ Some settings
      → reading name o (map (λ w. w.now) words) ≡ reading name (record o { settings = settings }) (map (λ w. w.now) (behind words))
  reading_flags settings none [] long page valued apart flags = absurd (omega (arith, long))
  reading_flags settings none (word ∷ words) long page valued apart flags =
      rw (take_rest (word ∷ words) 1) (at_flags settings word.now (map (λ w. w.now) words) page valued apart flags)

  at_attached : (v : Valued) (value : List ℕ) (taken : Chosen) (word : List ℕ) (words : List (List ℕ)) → is_help word ≡
      false → valued_of name word ≡ None → attached name word ≡ Some (v, value) → value_taken v value o ≡ Ok taken
      → reading name o (word ∷ words) ≡ reading name taken words
  at_attached v value taken word [] page valued has is = rw page (rw valued (rw has (rw is refl)))
  at_attached v value taken word (next ∷ words) page valued has is =
      rw (reading, page) (rw (reading, valued) (rw (reading, has) (rw (reading, is) refl)))

  -- at an option whose word has its value
  pub reading_attached : (v : Valued) (value : List ℕ) (taken : Chosen) (none : Bor (List ℕ))
      (words : List (Bor (List ℕ))) → 1 ≤ length words
      → is_help (get_or words 0 none).now ≡ false → valued_of name (get_or words 0 none).now ≡ None →
      attached name (get_or words 0 none).now ≡ Some (v, value) → value_taken v value o ≡ Ok taken
      → reading name o (map (λ w. w.now) words) ≡ reading name taken (map (λ w. w.now) (behind words))
  reading_attached v value taken none [] long page valued has is = absurd (omega (arith, long))
  reading_attached v value taken none (word ∷ words) long page valued has is =
      rw (take_rest (word ∷ words) 1) (at_attached v value taken word.now (map (λ w. w.now) words) page valued has is)

  -- at an option and its value, before other words
  pub reading_value : (v : Valued) (taken : Chosen) (none other : Bor (List ℕ)) (words : List (Bor (List ℕ))) →
      1 ≤ length words → 1 ≤ length (behind words) → 1 ≤ length (behind (behind words))
      → is_help (get_or words 0 none).now ≡ false → valued_of name (get_or words 0 none).now ≡ Some v →
      value_taken v (get_or (behind words) 0 other).now o ≡ Ok taken
      → reading name o (map (λ w. w.now) words) ≡ reading name taken (map (λ w. w.now) (behind (behind words)))
  reading_value v taken none other [] long more after page valued value = absurd (omega (arith, long))
  reading_value v taken none other (word ∷ []) long more after page valued value = absurd (omega (arith, more))
  reading_value v taken none other (word ∷ next ∷ []) long more after page valued value = absurd (omega (arith, after))
  reading_value v taken none other (word ∷ next ∷ third ∷ words) long more after page valued value =
      let rest : behind (word ∷ next ∷ third ∷ words) ≡ next ∷ third ∷ words = take_rest (word ∷ next ∷ third ∷ words) 1 in
      subst (λ l. value_taken v (get_or l 0 other).now o ≡ Ok taken →
      reading name o (map (λ w. w.now) (word ∷ next ∷ third ∷ words)) ≡ reading name taken (map (λ w. w.now) (behind l)))
      (sym rest) (λ value. rw (take_rest (next ∷ third ∷ words) 1)
      (rw (reading, page) (rw (reading, valued) (rw (reading, value) refl)))) value

  -- after the last option, the operands follow, if there are any
  pub reading_none : (words : List (Bor (List ℕ))) → length words < 1
      → reading name o (map (λ w. w.now) words) ≡ operands_asked name o (map (λ w. w.now) words)
  reading_none [] none = refl
  reading_none (word ∷ words) none = absurd (omega (arith, none))

other : (word literal : List ℕ) → word ≢ literal → bytes_eq word literal ≡ false
other word literal apart = false_from_ne_true (bytes_eq word literal) (λ same. apart ((bytes_eq-Decides word literal).0 same))

first_asked : (word : List ℕ) (words : List (List ℕ)) → bytes_eq word (codes "--version") ≡ false →
    (bytes_eq word (codes "-h") || bytes_eq word (codes "--help")) ≡ false → bytes_eq word (codes "help") ≡ false
    → request_asked (word ∷ words) ≡ command_asked word words
unfolding request_asked
first_asked word words version page help = rw version (rw page (rw help refl))

-- if the first word asks for neither a page nor the version
pub asked_command : (none : Bor (List ℕ)) (words : List (Bor (List ℕ))) → 1 ≤ length words
    → (get_or words 0 none).now ≢ codes "--version" → (get_or words 0 none).now ≢ codes "-h" →
    (get_or words 0 none).now ≢ codes "--help" → (get_or words 0 none).now ≢ codes "help"
    → request_asked (map (λ w. w.now) words) ≡ command_asked (get_or words 0 none).now
    (map (λ w. w.now) (take (length words - 1) (drop 1 words)))
asked_command none [] long version short page help = absurd (omega (arith, long))
asked_command none (word ∷ words) long version short page help =
    rw (take_rest (word ∷ words) 1) (first_asked word.now (map (λ w. w.now) words) (other _ _ version)
    (rw (other _ _ short) (other _ _ page)) (other _ _ help))

-- what a command's words ask for
pub asked_words : (word : List ℕ) (words : List (List ℕ)) (name : Name) (read : Reading) → name_of word ≡ Some name
    → reading name (new_options name) words ≡ read → command_asked word words ≡ request_of_reading name read
unfolding command_asked
asked_words word words name read named is = rw named (ap (request_of_reading name) is)

-- a wrong word of a command is a wrong word of the program
pub wrong_words : (word : List ℕ) (words : List (List ℕ)) (name : Name) (fault : UsageFault) → name_of word ≡ Some name
    → IsWrong (reading name (new_options name) words) fault →
    IsWrongRequest (command_asked word words) (record { name = Some name; fault = fault })
unfolding command_asked
wrong_words word words name (Word w text) named is = rw named (ap (request_of_reading name) is)
wrong_words word words name Memory named is = tt
