-- Where a path leads after a name is appended.
use Rattle.std.proofs.Common.{◌≡◌, ℕ, ◌+◌, ◌-◌, ◌<◌, Bool, true, false, cond, not, ◌||◌, List, [], ◌∷◌, ◌++◌, length}
use Rattle.std.proofs.Common.{take, Option, Some, None, refl, ap, sym, ◌∙◌, arith}
use Rattle.std.specs.Prelude.{slice_index, ◌==◌, option_and_then, bytes_eq}
use Rattle.std.specs.List.{list_all, onto_first}
use Rattle.std.specs.Path.{has_no_slash, parent_dir}
use Rattle.std.proofs.lemmas.Bool.{eqb-true, ne_eqb, or_right, or_from, and_parts, cond-true, cond-false, not-true}
use Rattle.std.proofs.lemmas.List.{append_assoc, append-nil, length-append, take_all, take_more}
use Rattle.std.proofs.lemmas.List.Splits.{length-slice_split}
use Rattle.std.proofs.lemmas.List.Sums.{fold-append}
use Rattle.std.proofs.lemmas.Option.{option_and_then_some, none-some, same_Some}
use Rattle.glob_text.specs.Characters.{slash, dot}
use Rattle.glob_text.specs.Text.{Text}
use Rattle.glob_text.specs.Pieces.{pieces, ends_with, begins_with}
use Rattle.glob_tree.specs.Paths.{join, child, stays, is_here}
use Rattle.glob_tree.specs.Content.{Content, Key, is_dir_at, child_key, step, steps, origin, resolve}

cut_more : (b : Bool) (c : ℕ) (ps qs : List Text) → 0 < length ps → cond b ([] ∷ (ps ++ qs)) (onto_first c (ps ++ qs))
    ≡ cond b ([] ∷ ps) (onto_first c ps) ++ qs
cut_more b c [] qs h = absurd (omega (arith, h))
cut_more true c (p ∷ ps) qs h = refl
cut_more false c (p ∷ ps) qs h = refl

pub pieces_some : (path : Text) → 0 < length (pieces path)
pieces_some path = omega (arith, length-slice_split (λ c. c == slash) path)

-- a separator divides the pieces before it from the pieces after it
pub pieces-append : (path more : Text) → pieces (path ++ slash ∷ more) ≡ pieces path ++ pieces more
pieces-append [] more = refl
pieces-append (c ∷ cs) more =
    ap (λ ps. cond (c == slash) ([] ∷ ps) (onto_first c ps)) (pieces-append cs more) ∙ cut_more (c == slash) c
    (pieces cs) (pieces more) (pieces_some cs)

-- a text without a separator is its only piece
pub pieces_one : (text : Text) → has_no_slash text ≡ true → pieces text ≡ text ∷ []
pieces_one [] h = refl
pieces_one (c ∷ cs) h =
    let parts = and_parts (not (c == slash)) (has_no_slash cs) h in
    rw (not-true (c == slash) parts.0, pieces_one cs parts.1) refl

-- a path that ends in c
pub front_and_end : (c : ℕ) (path : Text) → ends_with c path ≡ true → 0 < length path → path ≡ take (length path - 1) path ++ c ∷ []
front_and_end c path e h =
    let n = length path - 1 in
    let more : n + 1 ≡ length path = omega (arith, h) in
    let end : slice_index path n ≡ c = eqb-true (slice_index path n) c e in
    sym (take_all (n + 1) path (omega (arith, more))) ∙ (take_more path n 0 (omega (arith, h)) ∙ ap (λ x. take n path ++ x ∷ []) end)

pub origin-append : (c : Content) (path more : Text) → 0 < length path → origin c (path ++ more) ≡ origin c path
origin-append c [] more h = absurd (omega (arith, h))
origin-append c (x ∷ path) more h = refl

pub resolve_steps : (c : Content) (path : Text) → 0 < length path → resolve c path ≡ steps c (Some (origin c path)) (pieces path)
unfolding resolve
resolve_steps c [] h = absurd (omega (arith, h))
resolve_steps c (x ∷ path) h = refl

pub resolve_empty : (c : Content) → resolve c [] ≡ None
unfolding resolve
resolve_empty c = refl

pub steps_last : (c : Content) (k : Option Key) (ps : List Text) (p : Text) → steps c k (ps ++ p ∷ []) ≡
    option_and_then (step c p) (steps c k ps)
steps_last c k ps p = fold-append (λ at piece. option_and_then (step c piece) at) k ps (p ∷ [])

-- a path that leads somewhere is not empty
pub resolve_some : (c : Content) (path : Text) (k : Key) → resolve c path ≡ Some k → 0 < length path
resolve_some c [] k h = absurd (none-some k (sym (resolve_empty c) ∙ h))
resolve_some c (x ∷ path) k h = omega arith

-- a piece that stays leads from a directory to itself
pub step_stays : (c : Content) (piece : Text) (k l : Key) → stays piece ≡ true → step c piece k ≡ Some l → (k ≡ l) × (is_dir_at c k ≡ true)
step_stays c piece k l s h = from_directory (is_dir_at c k) k l (rw s at h)
  where
    from_directory : (b : Bool) (k l : Key) → cond (not b) None (Some k) ≡ Some l → (k ≡ l) × (b ≡ true)
    from_directory true k l e = (same_Some k l e, refl)
    from_directory false k l e = absurd (none-some l e)

-- nothing leads on from nowhere
pub steps_none : (c : Content) (ps : List Text) → steps c None ps ≡ None
steps_none c [] = refl
steps_none c (p ∷ ps) = steps_none c ps

-- pieces that stay lead from a directory to itself
pub steps_stay : (c : Content) (ps : List Text) (o : Option Key) (l : Key) → list_all stays ps ≡ true → steps c o ps ≡ Some l → o ≡ Some l
steps_stay c [] o l s h = h
steps_stay c (p ∷ ps) o l s h =
    let both = and_parts (stays p) (list_all stays ps) s in
    let at = steps_stay c ps (option_and_then (step c p) o) l both.1 h in
    option_and_then_some (step c p) o l at (λ k was leads. was ∙ ap Some (step_stays c p k l both.0 leads).0)

-- a name after a separator leads on from where the path before it leads
resolve_after : (c : Content) (front name : Text) → has_no_slash name ≡ true
    → resolve c (front ++ slash ∷ name) ≡ option_and_then (step c name) (steps c (Some (origin c (front ++ slash ∷ []))) (pieces front))
resolve_after c front name plain =
    let long : 0 < length (front ++ slash ∷ name) = omega (arith, length-append front (slash ∷ name)) in
    let some : 0 < length (front ++ slash ∷ []) = omega (arith, length-append front (slash ∷ [])) in
    let same : front ++ slash ∷ name ≡ (front ++ slash ∷ []) ++ name = sym (append_assoc front (slash ∷ []) name) in
    let from : origin c (front ++ slash ∷ name) ≡ origin c (front ++ slash ∷ []) = ap (origin c) same ∙ origin-append c
    (front ++ slash ∷ []) name some in
    let cut : pieces (front ++ slash ∷ name) ≡ pieces front ++ name ∷ [] = pieces-append front name ∙ ap
    (λ ps. pieces front ++ ps) (pieces_one name plain) in
    resolve_steps c (front ++ slash ∷ name) long
    ∙ ap (λ k. steps c (Some k) (pieces (front ++ slash ∷ name))) from
    ∙ ap (λ ps. steps c (Some (origin c (front ++ slash ∷ []))) ps) cut
    ∙ steps_last c (Some (origin c (front ++ slash ∷ []))) (pieces front) name

-- a path that ends in a separator
resolve_ended : (c : Content) (front name : Text) (k : Key) → resolve c (front ++ slash ∷ []) ≡ Some k → has_no_slash name ≡ true
    → resolve c ((front ++ slash ∷ []) ++ name) ≡ step c name k
resolve_ended c front name k h plain =
    option_and_then_some (step c []) (steps c (Some (origin c (front ++ slash ∷ []))) (pieces front)) k
    (sym (resolve_after c front [] refl) ∙ h) (λ m was leads.
    ap (resolve c) (append_assoc front (slash ∷ []) name)
    ∙ resolve_after c front name plain
    ∙ ap (option_and_then (step c name)) (was ∙ ap Some (step_stays c [] m k refl leads).0))

-- a path that does not end in a separator
resolve_open : (c : Content) (path name : Text) (k : Key) → resolve c path ≡ Some k → has_no_slash name ≡ true
    → resolve c ((path ++ slash ∷ []) ++ name) ≡ step c name k
resolve_open c path name k h plain =
    let some = resolve_some c path k h in
    let at : steps c (Some (origin c (path ++ slash ∷ []))) (pieces path) ≡ Some k =
    ap (λ l. steps c (Some l) (pieces path)) (origin-append c path (slash ∷ []) some) ∙ (sym (resolve_steps c path some) ∙ h) in
    ap (resolve c) (append_assoc path (slash ∷ []) name)
    ∙ resolve_after c path name plain
    ∙ ap (option_and_then (step c name)) at

pub join_ended : (path name : Text) → ends_with slash path ≡ true → join path name ≡ path ++ name
unfolding join
join_ended path name e = ap (λ p. p ++ name) (cond-true (length path == 0 || ends_with slash path) path
    (path ++ slash ∷ []) (or_right (length path == 0) (ends_with slash path) e))

pub join_open : (path name : Text) → 0 < length path → ends_with slash path ≡ false → join path name ≡ (path ++ slash ∷ []) ++ name
unfolding join
join_open path name h e =
    let some : (length path == 0) ≡ false = ne_eqb (length path) 0 (λ z. omega (arith, z, h)) in
    ap (λ p. p ++ name) (cond-false (length path == 0 || ends_with slash path) path (path ++ slash ∷ [])
    (or_from (length path == 0) (ends_with slash path) some e))

-- a name in the directory that a path leads to
pub resolve_join : (c : Content) (path name : Text) (k : Key) → resolve c path ≡ Some k → has_no_slash name ≡ true
    → resolve c (join path name) ≡ step c name k
resolve_join c path name k h plain = by_end (ends_with slash path) refl
  where
    by_end : (b : Bool) → ends_with slash path ≡ b → resolve c (join path name) ≡ step c name k
    by_end true e =
        let whole = front_and_end slash path e (resolve_some c path k h) in
        let front = take (length path - 1) path in
        ap (resolve c) (join_ended path name e ∙ ap (λ p. p ++ name) whole)
        ∙ resolve_ended c front name k (ap (resolve c) (sym whole) ∙ h) plain
    by_end false e = ap (resolve c) (join_open path name (resolve_some c path k h) e) ∙ resolve_open c path name k h plain

-- `.`, `./` and the like lead to the current directory
pub resolve_here : (c : Content) (path : Text) (k : Key) → is_here path ≡ true → resolve c path ≡ Some k → c.current ≡ k
resolve_here c path k here h =
    let both = and_parts (begins_with dot path) (list_all stays (pieces path)) here in
    let relative : begins_with slash path ≡ false = not_slash both.0 in
    let at = steps_stay c (pieces path) (Some (origin c path)) k both.1 (sym (resolve_steps c path (resolve_some c path k h)) ∙ h) in
    sym (cond-false (begins_with slash path) [] c.current relative) ∙ same_Some (origin c path) k at
  where
    not_slash : begins_with dot path ≡ true → begins_with slash path ≡ false
    not_slash e = ap (λ b. b == slash) (eqb-true (slice_index path 0) dot e)

-- a name by itself leads on from the current directory
pub resolve_one : (c : Content) (name : Text) → 0 < length name → has_no_slash name ≡ true → resolve c name ≡ step c name c.current
resolve_one c [] h plain = absurd (omega (arith, h))
resolve_one c (x ∷ xs) h plain =
    let parts = and_parts (not (x == slash)) (has_no_slash xs) plain in
    resolve_steps c (x ∷ xs) h
    ∙ ap (λ k. steps c (Some k) (pieces (x ∷ xs))) (cond-false (x == slash) [] c.current (not-true (x == slash) parts.0))
    ∙ ap (λ ps. steps c (Some c.current) ps) (pieces_one (x ∷ xs) plain)

-- the path of a name in a directory leads to that name
pub resolve_child : (c : Content) (path name : Text) (k : Key) → resolve c path ≡ Some k → 0 < length name
    → has_no_slash name ≡ true → resolve c (child path name) ≡ step c name k
unfolding child
resolve_child c path name k h some plain = by_here (is_here path) refl
  where
    by_here : (b : Bool) → is_here path ≡ b → resolve c (child path name) ≡ step c name k
    by_here true e =
        ap (resolve c) (cond-true (is_here path) name (join path name) e)
        ∙ resolve_one c name some plain
        ∙ ap (step c name) (resolve_here c path k e h)
    by_here false e = ap (resolve c) (cond-false (is_here path) name (join path name) e) ∙ resolve_join c path name k h plain

-- where each piece leads from a key
pub step_none : (c : Content) (k : Key) (piece : Text) → is_dir_at c k ≡ false → step c piece k ≡ None
step_none c k piece d = rw d refl

pub step_here : (c : Content) (k : Key) (piece : Text) → is_dir_at c k ≡ true → stays piece ≡ true → step c piece k ≡ Some k
step_here c k piece d here = rw (d, here) refl

pub step_down : (c : Content) (k : Key) (piece : Text) → is_dir_at c k ≡ true → stays piece ≡ false → bytes_eq piece
    parent_dir ≡ false → step c piece k ≡ child_key c k piece
step_down c k piece d leads down = rw (d, leads, down) refl

join_empty : join [] [] ≡ []
unfolding join
join_empty = refl

-- a path that leads nowhere still leads nowhere with a separator at its end
pub resolve_join_none : (c : Content) (path : Text) → resolve c path ≡ None → resolve c (join path []) ≡ None
resolve_join_none c [] h = ap (resolve c) join_empty ∙ h
resolve_join_none c (x ∷ xs) h = by_end (ends_with slash (x ∷ xs)) refl
  where
    by_end : (b : Bool) → ends_with slash (x ∷ xs) ≡ b → resolve c (join (x ∷ xs) []) ≡ None
    by_end true e = ap (resolve c) (join_ended (x ∷ xs) [] e ∙ append-nil (x ∷ xs)) ∙ h
    by_end false e =
        let some : 0 < length (x ∷ xs) = omega arith in
        let from : steps c (Some (origin c ((x ∷ xs) ++ slash ∷ []))) (pieces (x ∷ xs)) ≡ None =
        ap (λ k. steps c (Some k) (pieces (x ∷ xs))) (origin-append c (x ∷ xs) (slash ∷ []) some) ∙
        (sym (resolve_steps c (x ∷ xs) some) ∙ h) in
        ap (resolve c) (join_open (x ∷ xs) [] some e ∙ append-nil ((x ∷ xs) ++ slash ∷ []))
        ∙ resolve_after c (x ∷ xs) [] refl
        ∙ ap (option_and_then (step c [])) from
