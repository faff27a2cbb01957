-- A measure that each turn of a search lowers, so that the search ends.
use Rattle.std.specs.Prelude.{◌≡◌, ℕ, ◌+◌, ◌-◌, ◌*◌, ◌<◌, ◌≤◌, false, List, [], ◌∷◌, Option, Some, None, Result, Ok, Err, vec_len, sum_by}
use Rattle.glob_search.specs.States.{is_last}
use Rattle.glob_search.specs.declared.fault.SearchFault.{SearchFault}
use Rattle.glob_search.specs.declared.frame.Frame.{Frame}
use Rattle.glob_search.specs.declared.frame.Opening.{Opening}
use Rattle.glob_search.specs.declared.meter.Meter.{Meter}
use Rattle.glob_search.specs.declared.way.Way.{Way}
use Rattle.glob_search.specs.declared.way.Work.{Work}
use Rattle.glob_search.specs.declared.way.Work.TheVariants.{Enter, Read, Meet, Leave}

abbrev pub frame_weight : {A : Type 0} → Frame A → ℕ
frame_weight f = 2 * vec_len f.entries + 1

abbrev pub opening_weight : {A : Type 0} → Option (Opening A) → ℕ
opening_weight None = 0
opening_weight (Some o) = 1

abbrev pub way_weight : {A : Type 0} → Way A → ℕ
way_weight w = opening_weight w.entering + sum_by frame_weight w.frames.items

-- what is left of the limit, together with what is left of the way
abbrev pub weight : {A : Type 0} → Meter → Way A → ℕ
weight m w = 3 * (m.limit - m.spent) + way_weight w

abbrev pub work_weight : {A : Type 0} → Work A → ℕ
work_weight (Enter o) = 1
work_weight (Read n) = 0
work_weight (Meet e) = 2
work_weight (Leave n) = 1

-- entries that are still to be met
abbrev pub unmet : {A : Type 0} → Way A → ℕ
unmet w = sum_by (λ f. vec_len f.entries) w.frames.items

-- a unit of the limit that is left, or an entry that was charged: each pays for one path or fault
abbrev pub stock : {A : Type 0} → Meter → Way A → ℕ
stock m w = (m.limit - m.spent) + unmet w

abbrev pub work_stock : {A : Type 0} → Work A → ℕ
work_stock (Enter o) = 0
work_stock (Read n) = 0
work_stock (Meet e) = 1
work_stock (Leave n) = 0

-- 1 for the last fault, which may still come, or 0 once the search has ended
abbrev pub last_left : {A : Type 0} → Option (Opening A) → List (Frame A) → ℕ
last_left (Some o) fs = 1
last_left None [] = 0
last_left None (f ∷ fs) = 1

-- at most this many paths and faults are still to come
abbrev pub items_left : {A : Type 0} → Meter → Way A → ℕ
items_left m w = stock m w + last_left w.entering w.frames.items

-- what a turn takes from the stock
abbrev pub Takes : {A B : Type 0} → (before after : ℕ) → Result (Option B) (SearchFault A) → Type 0
Takes before after (Ok None) = after ≤ before
Takes before after (Ok (Some found)) = after < before
Takes before after (Err f) = is_last f ≡ false → after < before
