-- The lists on the way down to a start, name by name.
use Rattle.std.proofs.Common.{◌≡◌, ℕ, ◌+◌, ◌-◌, ◌<◌, ◌≤◌, Bool, true, false, ◌||◌, List, [], ◌∷◌, ◌++◌, length, map, take, drop, get_or}
use Rattle.std.proofs.Common.{Option, Some, ◌⊎◌, inl, inr, refl, sym, ap, ap₂, ◌∙◌, arith}
use Rattle.std.proofs.lemmas.Bool.{false≢true}
use Rattle.std.proofs.lemmas.List.{drop_more, map-append, take_rest}
use Rattle.std.specs.Prelude.{None, String, codes, is_some, option_map, string_bytes, suc, if◌then◌else◌}
use Rattle.std.specs.Option.{option_or}
use Rattle.glob_rules.specs.Deciding.{naming_rule}
use Rattle.glob_rules.specs.Lists.{Ignores, rules_of}
use Rattle.glob_rules.specs.declared.rule.Rule.{Rule}
use Rattle.glob_search.specs.Aims.{outer_of}
use Rattle.glob_search.specs.Asking.{Last, Origin}
use Rattle.glob_search.specs.Searching.{entered, ignores_directory}
use Rattle.glob_search.specs.declared.outer.OuterRules.{OuterRules}
use Rattle.glob_text.specs.Text.{Text}
use Rattle.glob_tree.specs.Content.{Key}
use Rattle.glob_tree.specs.Paths.{join}
use Rattle.globs.specs.Find.Above.{file_above, file_at, files_above, files_down, is_ignored_down, lists_at_top, lists_in}
use Rattle.globs.specs.Find.Above.{lists_down, outer_decision, read_at, rule_down, rule_from, start_rule}

or_assoc : (a b c : Bool) → ((a || b) || c) ≡ (a || (b || c))
or_assoc true b c = refl
or_assoc false b c = refl

or_either : (x y z : Option (Origin × Rule)) → option_or (option_or x y) z ≡ option_or x (option_or y z)
or_either None y z = refl
or_either (Some r) y z = refl

or_none : (x : Option (Origin × Rule)) → option_or x None ≡ x
or_none None = refl
or_none (Some r) = refl

either_branch : (b i : Bool) (r f d : Option (Origin × Rule))
    → option_or (option_or r (if b then None else (if i then f else None))) (if b || i then None else d)
    ≡ option_or r (if b then None else (if i then f else d))
either_branch true i r f d = or_none (option_or r None)
either_branch false true r f d = or_none (option_or r f)
either_branch false false r f d = ap (λ x. option_or x d) (or_none r)

-- in the top, its own file with exclusions is read
pub top-read : (known : Text → Option Text) (lists : List (Text × Ignores)) (place : Key) (file : Text) (levels : ℕ)
    → file ≡ file_above levels (codes ".git/info/exclude") → levels ≡ length place → lists ≡ read_at known file
    → lists ≡ lists_at_top known place
top-read known lists place file levels at many reads =
    reads ∙ ap (read_at known) (at ∙ ap (λ k. file_above k (codes ".git/info/exclude")) many)

-- in each directory on the way its ignore file is read, before the next is entered
module _ (known : Text → Option Text) (here read deeper : List (Text × Ignores)) (left : Key) (n : Text) (ns : Key)
    (file : Text) (levels : ℕ) (is : left ≡ n ∷ ns) (at : file ≡ file_above levels (codes ".gitignore"))
    (many : levels ≡ length left) (reads : read ≡ here ++ read_at known file) (enters : deeper ≡ entered n read) where
  read-in : read ≡ lists_in known here (n ∷ ns)
  read-in =
      reads ∙ ap (λ f. here ++ read_at known f) (at ∙ ap (λ k. file_above k (codes ".gitignore")) (many ∙ ap length is))

  pub lists-next : lists_down known deeper ns ≡ lists_down known here left
  lists-next = ap (λ ls. lists_down known ls ns) (enters ∙ ap (entered n) read-in) ∙ ap (lists_down known here) (sym is)

  pub rule-next : (before between after : Bool) (rule read_rule next : Option (ℕ × Rule)) → between ≡ before
      → after ≡ (between || ignores_directory read n) → read_rule ≡ rule
      → outer_decision next ≡ option_or (outer_decision read_rule)
      (if between then None else (if ignores_directory read n then rule_from 0 read n else None))
      → option_or (outer_decision next) (if after then None else rule_down known deeper ns)
      ≡ option_or (outer_decision rule) (if before then None else rule_down known here left)
  rule-next before between after rule read_rule next same says same_rule says_rule =
      ap₂ (λ x y. option_or x (if y then None else rule_down known deeper ns)) says_rule says
      ∙ either_branch between (ignores_directory read n) (outer_decision read_rule) (rule_from 0 read n) (rule_down known deeper ns)
      ∙ ap₂ (λ r b. option_or (outer_decision r) (if b then None
      else (if ignores_directory read n then rule_from 0 read n else rule_down known deeper ns))) same_rule same
      ∙ ap₂ (λ ls ds. option_or (outer_decision rule) (if before then None
      else (if ignores_directory ls n then rule_from 0 ls n else rule_down known ds ns))) read-in (enters ∙ ap (entered n) read-in)
      ∙ ap (λ names. option_or (outer_decision rule) (if before then None else rule_down known here names)) (sym is)

  pub ignored-next : (before between after : Bool) → between ≡ before → after ≡ (between || ignores_directory read n)
      → (after || is_ignored_down known deeper ns) ≡ (before || is_ignored_down known here left)
  ignored-next before between after same says =
      ap₂ (λ i ls. i || is_ignored_down known ls ns) (says ∙ ap₂ (λ b ls. b || ignores_directory ls n) same read-in)
      (enters ∙ ap (entered n) read-in)
      ∙ or_assoc before (ignores_directory (lists_in known here (n ∷ ns)) n)
      (is_ignored_down known (entered n (lists_in known here (n ∷ ns))) ns)
      ∙ ap (λ names. before || is_ignored_down known here names) (sym is)

-- the first name, and the names after it
pub first-name : {S : Type 0} (text : S → Text) (names : List S) (none : S) → 1 ≤ length names
    → map text names ≡ text (get_or names 0 none) ∷ map text (take (length names - 1) (drop 1 names))
first-name text [] none some = absurd (omega (arith, some))
first-name text (n ∷ ns) none some = ap (λ ms. text n ∷ map text ms) (sym (take_rest (n ∷ ns) 1))

-- there is a first name
pub first-there : {S : Type 0} (text : S → Text) (names : List S) → 1 ≤ length names
    → (n : Text) × (map text names ≡ n ∷ map text (take (length names - 1) (drop 1 names)))
first-there text [] some = absurd (omega (arith, some))
first-there text (n ∷ ns) some = (text n, ap (λ ms. text n ∷ map text ms) (sym (take_rest (n ∷ ns) 1)))

-- the rules of one more file
pub read-more : {A : Type 0} (old new : List (OuterRules A)) (rules : OuterRules A) (known : Text → Option Text) (path text : Text)
    → new ≡ old ++ rules ∷ [] → string_bytes rules.prefix ≡ [] → rules.list ≡ rules_of text → Some text ≡ known path
    → outer_of new ≡ outer_of old ++ read_at known path
read-more old new rules known path text pushed prefix list read =
    ap outer_of pushed
    ∙ map-append (λ l. (string_bytes l.prefix, l.list)) old (rules ∷ [])
    ∙ ap₂ (λ p l. outer_of old ++ (p, l) ∷ []) prefix list
    ∙ ap (λ t. outer_of old ++ read_at (λ at. t) path) read

-- a directory above ignores the start, or this directory does
pub or-first : (a b r : Bool) → a ≡ true → r ≡ a → r ≡ (a || b)
or-first true b r e is = is
or-first false b r e is = absurd (false≢true e)

pub or-second : (a b r : Bool) → a ≡ false → r ≡ b → r ≡ (a || b)
or-second true b r e is = absurd (false≢true (sym e))
or-second false b r e is = is

-- the path of a file after a lead, without which it is the path itself
pub unled : (lead path led : Text) → lead ≡ [] → (led ≡ lead ++ path) ⊎ (led ≡ path) → led ≡ path
unled lead path led none (inl is) = is ∙ ap (λ l. l ++ path) none
unled lead path led none (inr is) = is

-- one more file
pub file-more : {A : Type 0} (old new : List (String A)) (led : String A) (known : Text → Option Text) (path text : Text)
    → new ≡ old ++ led ∷ [] → string_bytes led ≡ path → Some text ≡ known path
    → map string_bytes new ≡ map string_bytes old ++ file_at known path
file-more old new led known path text pushed is read =
    ap (map string_bytes) pushed
    ∙ map-append string_bytes old (led ∷ [])
    ∙ ap (λ p. map string_bytes old ++ p ∷ []) is
    ∙ ap (λ t. map string_bytes old ++ (if is_some t then path ∷ [] else [])) read

-- in the top, its own file with exclusions is the first
pub top-file : (known : Text → Option Text) (files : List Text) (place : Key) (file : Text) (levels : ℕ)
    → file ≡ file_above levels (codes ".git/info/exclude") → levels ≡ length place → files ≡ file_at known file
    → files_down known files place ≡ files_above known place
top-file known files place file levels at many is =
    ap (λ fs. files_down known fs place)
    (is ∙ ap (file_at known) (at ∙ ap (λ k. file_above k (codes ".git/info/exclude")) many))

-- in each directory on the way its ignore file is the next
pub files-next : (known : Text → Option Text) (here read : List Text) (left : Key) (n : Text) (ns : Key) (file : Text)
    (levels : ℕ) → left ≡ n ∷ ns → file ≡ file_above levels (codes ".gitignore") → levels ≡ length left
    → read ≡ here ++ file_at known file → files_down known read ns ≡ files_down known here left
files-next known here read left n ns file levels is at many reads =
    ap (λ fs. files_down known fs ns) (reads ∙ ap (λ f. here ++ file_at known f)
    (at ∙ ap (λ k. file_above k (codes ".gitignore")) (many ∙ ap length is)))
    ∙ ap (files_down known here) (sym is)

-- what one more list says comes before what the earlier ones say
pub rule-more : (index : ℕ) (lists : List (Text × Ignores)) (l : Text × Ignores) (rest : List (Text × Ignores)) (name : Text)
    (last new : Option (ℕ × Rule)) (all : Option (Origin × Rule)) → lists ≡ l ∷ rest
    → option_or (rule_from index lists name) (outer_decision last) ≡ all
    → outer_decision new ≡ option_or (option_map (λ rule. (Last index, rule)) (naming_rule l.1 (join l.0 name) true)) (outer_decision last)
    → option_or (rule_from (suc index) rest name) (outer_decision new) ≡ all
rule-more index lists l rest name last new all split before says =
    ap (option_or (rule_from (suc index) rest name)) says
    ∙ sym (or_either (rule_from (suc index) rest name)
    (option_map (λ rule. (Last index, rule)) (naming_rule l.1 (join l.0 name) true)) (outer_decision last))
    ∙ ap (λ ls. option_or (rule_from index ls name) (outer_decision last)) (sym split)
    ∙ before

-- at the top no rule ignores anything yet
pub rule-start : (known : Text → Option Text) (rule : Option (ℕ × Rule)) (ignored : Bool) (lists : List (Text × Ignores))
    (place : Key) → rule ≡ None → ignored ≡ false → lists ≡ lists_at_top known place
    → option_or (outer_decision rule) (if ignored then None else rule_down known lists place) ≡ start_rule known place
rule-start known rule ignored lists place none not_ignored top =
    ap₂ (λ r i. option_or (outer_decision r) (if i then None else rule_down known lists place)) none not_ignored
    ∙ ap (λ ls. rule_down known ls place) top

-- at the start the rule is found, if there is one
pub rule-end : (known : Text → Option Text) (rule all : Option (Origin × Rule)) (ignored : Bool)
    (lists : List (Text × Ignores)) (left : Key) → left ≡ []
    → option_or rule (if ignored then None else rule_down known lists left) ≡ all → rule ≡ all
rule-end known rule all true lists left none is = sym (or_none rule) ∙ is
rule-end known rule all false lists left none is =
    sym (or_none rule) ∙ ap (λ names. option_or rule (rule_down known lists names)) (sym none) ∙ is

-- none of the lists is left
pub rules-done : (index : ℕ) (lists : List (Text × Ignores)) (name : Text) (rule all : Option (Origin × Rule)) → lists ≡ []
    → option_or (rule_from index lists name) rule ≡ all → rule ≡ all
rules-done index lists name rule all none is = ap (λ ls. option_or (rule_from index ls name) rule) (sym none) ∙ is

-- one more list, which is asked about the directory with this name
pub rules-step : {A : Type 0} (lists : List (OuterRules A)) (i later : ℕ) (rules : OuterRules A) (name path : Text)
    (rule : Option Rule) (last new : Option (ℕ × Rule)) (all : Option (Origin × Rule)) → i < length lists → later ≡ i + 1
    → rules ≡ get_or lists i rules → path ≡ join (string_bytes rules.prefix) name → rule ≡ naming_rule rules.list path true
    → outer_decision new ≡ option_or (option_map (λ r. (Last i, r)) rule) (outer_decision last)
    → option_or (rule_from i (outer_of (drop i lists)) name) (outer_decision last) ≡ all
    → option_or (rule_from later (outer_of (drop later lists)) name) (outer_decision new) ≡ all
rules-step lists i later rules name path rule last new all lt next is at says one before =
    let split : outer_of (drop i lists) ≡ (string_bytes rules.prefix, rules.list) ∷ outer_of (drop later lists) =
    ap outer_of (drop_more lists i rules lt ∙ ap₂ (λ f k. f ∷ drop k lists) (sym is) (sym next)) in
    let step : later ≡ suc i = omega (arith, next) in
    ap (λ k. option_or (rule_from k (outer_of (drop later lists)) name) (outer_decision new)) step
    ∙ rule-more i (outer_of (drop i lists)) (string_bytes rules.prefix, rules.list) (outer_of (drop later lists)) name last new
    all split before
    (one ∙ ap (λ r. option_or (option_map (λ r. (Last i, r)) r) (outer_decision last)) (says ∙ ap (λ p. naming_rule rules.list p true) at))

either_decided : (before rule : Option (ℕ × Rule))
    → outer_decision (option_or before rule) ≡ option_or (outer_decision before) (outer_decision rule)
either_decided None rule = refl
either_decided (Some r) rule = refl

-- the rule that ignores a directory, if nothing above is ignored
pub rule-here : (ign here : Bool) (before rule new : Option (ℕ × Rule)) (f : Option (Origin × Rule)) → ign ≡ false → here ≡ true
    → new ≡ option_or before rule → outer_decision rule ≡ f
    → outer_decision new ≡ option_or (outer_decision before) (if ign then None else (if here then f else None))
rule-here true here before rule new f not_above ignored is says = absurd (false≢true (sym not_above))
rule-here false false before rule new f not_above ignored is says = absurd (false≢true ignored)
rule-here false true before rule new f not_above ignored is says =
    ap outer_decision is ∙ either_decided before rule ∙ ap (option_or (outer_decision before)) says

-- no new rule, if something above is ignored
pub rule-above : (ign here : Bool) (before new : Option (ℕ × Rule)) (f : Option (Origin × Rule)) → ign ≡ true → new ≡ before
    → outer_decision new ≡ option_or (outer_decision before) (if ign then None else (if here then f else None))
rule-above false here before new f above is = absurd (false≢true above)
rule-above true here before new f above is = ap outer_decision is ∙ sym (or_none (outer_decision before))

-- nor if the directory is not ignored
pub rule-nowhere : (ign here : Bool) (before new : Option (ℕ × Rule)) (f : Option (Origin × Rule)) → here ≡ false → new ≡ before
    → outer_decision new ≡ option_or (outer_decision before) (if ign then None else (if here then f else None))
rule-nowhere true here before new f not_here is = ap outer_decision is ∙ sym (or_none (outer_decision before))
rule-nowhere false true before new f not_here is = absurd (false≢true (sym not_here))
rule-nowhere false false before new f not_here is = ap outer_decision is ∙ sym (or_none (outer_decision before))
