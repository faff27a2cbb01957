-- A search that has asked nothing has all gifts left.
use Rattle.std.proofs.Common.{◌≡◌, ℕ, ◌+◌, ◌-◌, ◌<◌, ◌≤◌, true, cond, [], ◌++◌, flat_map, length, Option, Some}
use Rattle.std.proofs.Common.{None, arith, ap, sym, subst, ◌∙◌}
use Rattle.std.specs.Prelude.{nat_lt, reverse, string_bytes, sum_by, vec_len}
use Rattle.std.specs.Option.{ForSome}
use Rattle.std.specs.Path.{cur_dir}
use Rattle.std.proofs.lemmas.Bool.{cond-true, lt-ltb}
use Rattle.std.proofs.lemmas.List.{append-nil}
use Rattle.std.proofs.lemmas.Option.{same_Some}
use Rattle.glob_text.specs.Text.{Text}
use Rattle.glob_tree.specs.Content.{Content, is_content, is_dir_at}
use Rattle.glob_tree.proofs.ContentLemmas.Contents.{IsContent-from_test}
use Rattle.glob_search.specs.Aims.{path_of}
use Rattle.glob_search.specs.Searching.{Aim}
use Rattle.glob_search.specs.States.{HasGiven}
use Rattle.glob_search.specs.Visiting.{gifts}
use Rattle.glob_search.specs.Private.Engine.{AreFrames, IsBelow, IsFor, IsOpening, IsReady, Ready, file_names, lists_of}
use Rattle.glob_search.specs.Private.Finding.{Find, state_of}
use Rattle.glob_search.specs.Private.Active.{active_lists}
use Rattle.glob_search.specs.Private.Nodes.{AreAlive}
use Rattle.glob_search.specs.Private.Ways.{frame_left, names_in, opening_left, search_left, visited}
use Rattle.glob_search.specs.Private.Weights.{last_left, unmet}
use Rattle.glob_search.specs.declared.frame.Frame.{Frame}
use Rattle.glob_search.specs.declared.frame.Opening.{Opening}
use Rattle.glob_search.specs.declared.searcher.Searcher.{Searcher}
use Rattle.glob_search.specs.declared.way.Way.{Way}
use Rattle.glob_search.proofs.EngineLemmas.Ending.{last_left-most}
use Rattle.glob_search.proofs.EngineLemmas.Visits.{gifts-visited}

module _ {A : Type 0} (c : Content) (content : is_content c ≡ true) (known : Text → Option Text) (a : Aim) (s : Searcher A)
    (for : IsFor a s) (active : active_lists s.active.files.items ≡ []) (none : s.way.frames.items ≡ []) where
  no-frames : reverse s.way.frames.items ≡ []
  no-frames = ap reverse none

  begun : ForSome s.way.entering (IsOpening c s.beginnings (reverse s.way.frames.items)) → IsReady c a s
  begun opening = record {
    for = for;
    frames = subst (AreFrames c a s.beginnings (length (file_names s))) (sym no-frames) tt;
    opening = opening;
    active = active ∙ sym (ap (lists_of a) no-frames);
  }

  left-of : search_left c a s ≡ opening_left c a s.way.entering
  left-of = ap (λ fs. opening_left c a s.way.entering ++ flat_map (frame_left c a) fs) no-frames ∙ append-nil
      (opening_left c a s.way.entering)

  -- the start is entered next
  pub fresh-start : (o : Opening A) → s.way.entering ≡ Some o → string_bytes o.path ≡ cur_dir → AreAlive s.beginnings
      [] o.alive.items → 0 < s.depth → HasGiven {P = Find A} (gifts c a) c a known [] (state_of s)
  fresh-start o is named living deep =
      let w = IsContent-from_test c content in
      let names : names_in (string_bytes o.path) ≡ [] = ap names_in named in
      let opening : IsOpening c s.beginnings (reverse s.way.frames.items) o = record {
        directory = record {
          path = named ∙ sym (ap path_of names);
          there = ap (λ k. is_dir_at c (c.current ++ k)) names ∙ ap (is_dir_at c) (append-nil c.current) ∙ w.current;
          alive = subst (λ k. AreAlive s.beginnings k o.alive.items) (sym names) living;
        };
        below = subst (IsBelow (names_in (string_bytes o.path))) (sym no-frames) names;
      } in
      record {
        agrees = Ready (begun (subst (λ e. ForSome e (IsOpening c s.beginnings (reverse s.way.frames.items))) (sym is)
            (λ d h. subst (IsOpening c s.beginnings (reverse s.way.frames.items)) (same_Some o d h) opening)));
        upto = gifts-visited c a
            ∙ cond-true (nat_lt 0 a.depth) (visited c a []) [] (lt-ltb 0 a.depth (subst (λ n. 0 < n) (sym for.depth) deep))
            ∙ ap (visited c a) (sym names)
            ∙ sym (left-of ∙ ap (opening_left c a) is);
      }

  -- nothing is entered next
  pub fresh-none : s.way.entering ≡ None → s.depth ≡ 0 → HasGiven {P = Find A} (gifts c a) c a known [] (state_of s)
  fresh-none is flat = record {
    agrees = Ready (begun (subst (λ e. ForSome e (IsOpening c s.beginnings (reverse s.way.frames.items))) (sym is) (λ d h. absurd (cc))));
    upto = gifts-visited c a
        ∙ ap (λ n. cond (nat_lt 0 n) (visited c a []) []) (for.depth ∙ flat)
        ∙ sym (left-of ∙ ap (opening_left c a) is);
  }

-- each unit of the limit gives at most one item, and there may be a last fault
pub fresh-few : {A : Type 0} (limit : ℕ) (w : Way A) → w.frames.items ≡ []
    → ((limit - 0) + unmet w) + last_left w.entering w.frames.items ≤ limit + 1
fresh-few {A} limit w none =
    let unmet-none : unmet w ≡ 0 = ap (sum_by (λ (f : Frame A). vec_len f.entries)) none in
    omega (arith, unmet-none, last_left-most w.entering w.frames.items)
