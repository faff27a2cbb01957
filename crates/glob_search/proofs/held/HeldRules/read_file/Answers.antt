use Rattle.std.proofs.Common.{◌≡◌, ◌++◌, ◌∷◌, [], Some, None, string_bytes, ap, ◌∙◌, length, arith}
use Rattle.std.specs.Prelude.{option_map}
use Rattle.std.proofs.lemmas.Bool.{both_ways}
use Rattle.std.proofs.lemmas.Result.{on_ok_weaker}
use Rattle.glob_rules.specs.Lists.{rules_of}
use Rattle.glob_tree.specs.Paths.{join}
use Rattle.glob_search.specs.Aims.{path_of}
use Rattle.glob_search.specs.Private.Active.{above_of, active_lists}
use Rattle.glob_search.specs.Private.Reading.{sources_of}
use Rattle.glob_search.specs.States.{is_last}
use Rattle.glob_search.proofs.ActiveLemmas.{active_lists-push}
use Rattle.glob_search.proofs.ReadLemmas.{path-above, path-joined, read-none, read-some, source-none, source-some}
use Rattle.glob_search.proofs.held.HeldRules.read_file.Goals as goal

pub returns-in-Ok-None-clause-reads : goal.returns-in-Ok-None-clause-reads
returns-in-Ok-None-clause-reads g c = λ known same directory proper at.
    let name = c.args.name.now in
    let path-is : string_bytes c.in_ok-path.path ≡ path_of (directory ++ name ∷ []) =
    path-joined directory name (string_bytes c.in_ok-path.path) proper (c.in_ok-path.ensures ∙ ap (λ d. join d name) at) in
    let none : None ≡ option_map rules_of (known (path_of (directory ++ name ∷ []))) =
    (rw c.in-Ok-None.field-0-is at (c.in-Ok-None.ensures.list known same))
    ∙ ap (λ p. option_map rules_of (known p)) (c.as_str.ensures.value ∙ path-is) in
    record {
      lists = read-none directory (known (path_of (directory ++ name ∷ []))) (active_lists c.args.self.now.active.files.items) none;
      sources = source-none directory name (known (path_of (directory ++ name ∷ []))) (sources_of c.args.self.now) none;
    }

pub returns-in_ok-push-in-Ok-Some-clause-first : goal.returns-in_ok-push-in-Ok-Some-clause-first
returns-in_ok-push-in-Ok-Some-clause-first g c = ap (λ a. a.first) c.hear.ensures.active

pub returns-in_ok-push-in-Ok-Some-clause-last : goal.returns-in_ok-push-in-Ok-Some-clause-last
returns-in_ok-push-in-Ok-Some-clause-last g c = ap (λ a. a.last) c.hear.ensures.active

pub returns-in_ok-push-in-Ok-Some-clause-reads : goal.returns-in_ok-push-in-Ok-Some-clause-reads
returns-in_ok-push-in-Ok-Some-clause-reads g c = λ known same. on_ok_weaker c.hear.result (λ heard directory proper at.
    let name = c.args.name.now in
    let files = c.args.self.now.active.files.items in
    let list = c.in-Ok-Some.list in
    let path-is : string_bytes c.in_ok-path.path ≡ path_of (directory ++ name ∷ []) =
    path-joined directory name (string_bytes c.in_ok-path.path) proper (c.in_ok-path.ensures ∙ ap (λ d. join d name) at) in
    let above : c.saturating_sub-above.result ≡ above_of directory =
    omega (
      arith,
      c.saturating_sub-above.ensures,
      c.len.ensures,
      c.in_ok-path.path.bytes.ok.0,
      ap length path-is,
      path-above directory name,
    ) in
    let rules : Some list ≡ option_map rules_of (known (path_of (directory ++ name ∷ []))) =
    (rw c.in-Ok-Some.field-0-is at (c.in-Ok-Some.ensures.list known same))
    ∙ ap (λ p. option_map rules_of (known p)) (c.as_str.ensures.value ∙ path-is) in
    record {
      lists = ap (λ a. active_lists a.files.items) c.hear.ensures.active
          ∙ ap active_lists c.in_ok-push-in-Ok-Some.ensures.items
          ∙ active_lists-push files (record { above = c.saturating_sub-above.result; list = list })
          ∙ ap (λ ls. active_lists files ++ ls)
          (read-some directory c.saturating_sub-above.result list (known (path_of (directory ++ name ∷ []))) above rules);
      sources = heard ∙ ap (λ p. sources_of c.args.self.now ++ p ∷ []) path-is
          ∙ ap (λ ls. sources_of c.args.self.now ++ ls)
          (source-some directory name list (known (path_of (directory ++ name ∷ []))) rules);
    }) c.hear.ensures.sources

pub returns-in-Err-clause-reads : goal.returns-in-Err-clause-reads
returns-in-Err-clause-reads g c = λ known same.
    on_ok_weaker c.add.result (λ lasts_not. absurd (both_ways (is_last c.in-Err.fault) lasts_not (c.in-Err.ensures.last known same)))
    c.add.ensures
