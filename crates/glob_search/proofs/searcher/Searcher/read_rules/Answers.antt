use Rattle.std.proofs.Common.{◌≡◌, ◌≢◌, refl, ◌-◌, ◌<◌, ◌++◌, ◌∷◌, [], Some, None, get_or, length, string_bytes, ap, sym}
use Rattle.std.proofs.Common.{◌∙◌, eq-eqb, arith}
use Rattle.std.specs.Prelude.{option_map, slice_get, vec_len}
use Rattle.std.proofs.lemmas.Bool.{false≢true, ltb-true}
use Rattle.std.proofs.lemmas.List.{get_or-map, length-map}
use Rattle.std.proofs.lemmas.Result.{err_from_is_err_and}
use Rattle.glob_rules.specs.Lists.{refusals_of, rules_of}
use Rattle.glob_search.specs.Private.Engine.{file_names, frame_names}
use Rattle.glob_search.specs.Private.Active.{above_of, active_lists}
use Rattle.glob_search.specs.Aims.{path_of}
use Rattle.glob_tree.proofs.ContentLemmas.Contents.{IsContent-from_test}
use Rattle.glob_tree.specs.Paths.{child}
use Rattle.glob_search.proofs.EngineLemmas.Ending.{named-file}
use Rattle.glob_search.proofs.EngineLemmas.Paths.{directory-proper}
use Rattle.glob_search.proofs.ActiveLemmas.{active_lists-push, child-long, files-push, text-of}
use Rattle.glob_search.proofs.EngineLemmas.Reading.{last-get, path-in, read-same, reads-keeps, refused-at}
use Rattle.glob_search.proofs.ReadLemmas.{path-above, read-none, read-some}
use Rattle.glob_search.proofs.searcher.Searcher.read_rules.Goals as goal

pub returns-in_err-push-clause-reads : goal.returns-in_err-push-clause-reads
returns-in_err-push-clause-reads g c = λ content a known good same fit (r, now, within).
    let p = err_from_is_err_and c.from_residual-in_err-push.result c.from_residual-in_err-push.ensures.1 in
    rw (p.1, p.2) tt

pub returns-in_default-2-clause-reads : goal.returns-in_default-2-clause-reads
returns-in_default-2-clause-reads g c = λ content a known good same fit (r, now, within).
    let s = c.args.self.now in
    let n = c.args.number in
    let name = string_bytes c.in-Some-get.name.now in
    let names = frame_names r.last in
    let f-is : c.in-Some.frame.now ≡ r.last =
    last-get s.way.frames.items r.above r.last c.in-Some.frame.now r.frames (c.in-Some.ensures.value ∙ ap
    (λ xs. slice_get xs (length xs - 1)) c.deref.ensures.value) in
    let inside : n < length s.rule_files.items = simp length-map at within in
    let named : get_or (file_names s) n [] ≡ name =
    get_or-map (λ f. string_bytes f) s.rule_files.items n c.in-Some-get.name.now [] inside
    ∙ ap (λ f. string_bytes f) (sym (c.in-Some-get.ensures.lookup.1 ∙ ap (λ xs. get_or xs n c.in-Some-get.name.now)
    c.deref-2.ensures.value)) in
    let path-is : string_bytes c.in_ok-path.path ≡ path_of (names ++ name ∷ []) =
    path-in names name c.as_str.result.now c.as_str-2.result.now (string_bytes c.in_ok-path.path)
    (directory-proper content (IsContent-from_test content good) names r.frame.directory.there)
    (c.as_str.ensures.value ∙ ap (λ f. string_bytes f.path) f-is ∙ r.frame.directory.path) c.as_str-2.ensures.value c.in_ok-path.ensures in
    let at = c.as_str-3.ensures.value ∙ path-is in
    let t = record s { meter = c.charge.new.self } in
    let none : None ≡ option_map rules_of (known (path_of (names ++ name ∷ []))) =
    (rw c.in_default-2.is at (c.in_ok-list.ensures.list known same)) ∙ ap (λ p. option_map rules_of (known p)) at in
    reads-keeps content a known s n r now within name named t (read-same s t c.charge.new.self s.active.files refl)
    (read-none names (known (path_of (names ++ name ∷ []))) (active_lists s.active.files.items) none)

pub returns-then-is_empty-clause-reads : goal.returns-then-is_empty-clause-reads
returns-then-is_empty-clause-reads g c = λ content a known good same fit (r, now, within).
    let s = c.args.self.now in
    let n = c.args.number in
    let name = string_bytes c.in-Some-get.name.now in
    let names = frame_names r.last in
    let f-is : c.in-Some.frame.now ≡ r.last =
    last-get s.way.frames.items r.above r.last c.in-Some.frame.now r.frames (c.in-Some.ensures.value ∙ ap
    (λ xs. slice_get xs (length xs - 1)) c.deref.ensures.value) in
    let inside : n < length s.rule_files.items = simp length-map at within in
    let named : get_or (file_names s) n [] ≡ name =
    get_or-map (λ f. string_bytes f) s.rule_files.items n c.in-Some-get.name.now [] inside
    ∙ ap (λ f. string_bytes f) (sym (c.in-Some-get.ensures.lookup.1 ∙ ap (λ xs. get_or xs n c.in-Some-get.name.now)
    c.deref-2.ensures.value)) in
    let path-is : string_bytes c.in_ok-path.path ≡ path_of (names ++ name ∷ []) =
    path-in names name c.as_str.result.now c.as_str-2.result.now (string_bytes c.in_ok-path.path)
    (directory-proper content (IsContent-from_test content good) names r.frame.directory.there)
    (c.as_str.ensures.value ∙ ap (λ f. string_bytes f.path) f-is ∙ r.frame.directory.path) c.as_str-2.ensures.value c.in_ok-path.ensures in
    let at = c.as_str-3.ensures.value ∙ path-is in
    let above : c.saturating_sub-above.result ≡ above_of names =
    omega (
      arith,
      c.saturating_sub-above.ensures,
      c.len.ensures,
      c.len-2.ensures,
      c.in_ok-path.path.bytes.ok.0,
      c.in-Some-get.name.now.bytes.ok.0,
      ap length path-is,
      path-above names name,
    ) in
    let list = c.in-Some-2.list in
    let rules : Some list ≡ option_map rules_of (known (path_of (names ++ name ∷ []))) =
    (rw c.in-Some-2.is at (c.in_ok-list.ensures.list known same)) ∙ ap (λ p. option_map rules_of (known p)) at in
    let t = record s { meter = c.charge.new.self; active = record s.active { files = c.push.new.self } } in
    let keeps = reads-keeps content a known s n r now within name named t
    (read-same s t c.charge.new.self c.push.new.self refl)
    (ap active_lists c.in_ok-push.ensures.items
    ∙ active_lists-push s.active.files.items (record { above = c.saturating_sub-above.result; list = list })
    ∙ ap (λ ls. active_lists s.active.files.items ++ ls)
    (read-some names c.saturating_sub-above.result list (known (path_of (names ++ name ∷ []))) above rules)) in
    keeps

pub returns-clause-reads : goal.returns-clause-reads
returns-clause-reads g c = λ content a known good same fit (r, now, within).
    let s = c.args.self.now in
    let n = c.args.number in
    let name = string_bytes c.in-Some-get.name.now in
    let names = frame_names r.last in
    let f-is : c.in-Some.frame.now ≡ r.last =
    last-get s.way.frames.items r.above r.last c.in-Some.frame.now r.frames (c.in-Some.ensures.value ∙ ap
    (λ xs. slice_get xs (length xs - 1)) c.deref.ensures.value) in
    let inside : n < length s.rule_files.items = simp length-map at within in
    let named : get_or (file_names s) n [] ≡ name =
    get_or-map (λ f. string_bytes f) s.rule_files.items n c.in-Some-get.name.now [] inside
    ∙ ap (λ f. string_bytes f) (sym (c.in-Some-get.ensures.lookup.1 ∙ ap (λ xs. get_or xs n c.in-Some-get.name.now)
    c.deref-2.ensures.value)) in
    let path-is : string_bytes c.in_ok-path.path ≡ path_of (names ++ name ∷ []) =
    path-in names name c.as_str.result.now c.as_str-2.result.now (string_bytes c.in_ok-path.path)
    (directory-proper content (IsContent-from_test content good) names r.frame.directory.there)
    (c.as_str.ensures.value ∙ ap (λ f. string_bytes f.path) f-is ∙ r.frame.directory.path) c.as_str-2.ensures.value c.in_ok-path.ensures in
    let at = c.as_str-3.ensures.value ∙ path-is in
    let above : c.saturating_sub-above.result ≡ above_of names =
    omega (
      arith,
      c.saturating_sub-above.ensures,
      c.len.ensures,
      c.len-2.ensures,
      c.in_ok-path.path.bytes.ok.0,
      c.in-Some-get.name.now.bytes.ok.0,
      ap length path-is,
      path-above names name,
    ) in
    let list = c.in-Some-2.list in
    let rules : Some list ≡ option_map rules_of (known (path_of (names ++ name ∷ []))) =
    (rw c.in-Some-2.is at (c.in_ok-list.ensures.list known same)) ∙ ap (λ p. option_map rules_of (known p)) at in
    let t = record s { meter = c.charge.new.self; active = record s.active { files = c.push.new.self } } in
    let keeps = reads-keeps content a known s n r now within name named t
    (read-same s t c.charge.new.self c.push.new.self refl)
    (ap active_lists c.in_ok-push.ensures.items
    ∙ active_lists-push s.active.files.items (record { above = c.saturating_sub-above.result; list = list })
    ∙ ap (λ ls. active_lists s.active.files.items ++ ls)
    (read-some names c.saturating_sub-above.result list (known (path_of (names ++ name ∷ []))) above rules)) in
    let refusals = c.in-Some-2.refusals in
    let are : Some refusals.items ≡ option_map refusals_of (known (string_bytes c.in_ok-path.path)) =
    (rw c.in-Some-2.is at (c.in_ok-list.ensures.refusals known same))
    ∙ ap (λ p. option_map refusals_of (known p)) c.as_str-3.ensures.value in
    let is : Some list ≡ option_map rules_of (known (string_bytes c.in_ok-path.path)) =
    (rw c.in-Some-2.is at (c.in_ok-list.ensures.list known same))
    ∙ ap (λ p. option_map rules_of (known p)) c.as_str-3.ensures.value in
    let some : refusals.items ≢ [] = λ none.
    false≢true (sym c.if-is_empty.false ∙ c.is_empty.ensures
    ∙ eq-eqb (vec_len refusals) 0 (omega (arith, ap length none, refusals.ok.0))) in
    record {
      refused = refused-at content a known s n r now within name named t refl (string_bytes c.in_ok-path.path) path-is list
          refusals.items is are some;
      keeps = keeps;
    }

pub returns-in_err-list-clause-fails : goal.returns-in_err-list-clause-fails
returns-in_err-list-clause-fails g c =
    let p = err_from_is_err_and c.from_residual-in_err-list.result c.from_residual-in_err-list.ensures.1 in
    let files = c.args.self.now.rule_files.items in
    let name = c.in-Some-get.name.now in
    rw (p.1, p.2) (c.in_err-list.ensures.fails (file_names c.args.self.now) (record {
      directory = c.as_str.result.now;
      file = string_bytes name;
      named = named-file files c.args.number name (omega (
        arith,
        ltb-true _ _ (sym c.in-Some-get.ensures.lookup.0),
        ap length c.deref-2.ensures.value,
      ))
          (c.in-Some-get.ensures.lookup.1 ∙ ap (λ xs. get_or xs c.args.number name) c.deref-2.ensures.value);
      at = c.as_str-3.ensures.value ∙ c.in_ok-path.ensures ∙ ap (child c.as_str.result.now) c.as_str-2.ensures.value;
    }))

pub returns-clause-fails : goal.returns-clause-fails
returns-clause-fails g c =
    let files = c.args.self.now.rule_files.items in
    let name = c.in-Some-get.name.now in
    record {
      directory = c.as_str.result.now;
      file = string_bytes name;
      named = named-file files c.args.number name (omega (
        arith,
        ltb-true _ _ (sym c.in-Some-get.ensures.lookup.0),
        ap length c.deref-2.ensures.value,
      ))
          (c.in-Some-get.ensures.lookup.1 ∙ ap (λ xs. get_or xs c.args.number name) c.deref-2.ensures.value);
      at = c.in_ok-path.ensures ∙ ap (child c.as_str.result.now) c.as_str-2.ensures.value;
    }

pub returns-then-is_empty-clause-read : goal.returns-then-is_empty-clause-read
returns-then-is_empty-clause-read g c = λ known same were.
    let s = c.args.self.now in
    let names = file_names s in
    let files = s.rule_files.items in
    let name = c.in-Some-get.name.now in
    let file = string_bytes name in
    let directory = c.as_str.result.now in
    let path-is : string_bytes c.in_ok-path.path ≡ child directory file =
    c.in_ok-path.ensures ∙ ap (child directory) c.as_str-2.ensures.value in
    let text = text-of c.in-Some-2.list (known c.as_str-3.result.now) (rw c.in-Some-2.is at (c.in_ok-list.ensures.list known same)) in
    files-push known names s.active.files.items c.push.new.self.items
    (record { above = c.saturating_sub-above.result; list = c.in-Some-2.list }) c.in_ok-push.ensures.items were (record {
      directory = directory;
      file = file;
      named = named-file files c.args.number name (omega (
        arith,
        ltb-true _ _ (sym c.in-Some-get.ensures.lookup.0),
        ap length c.deref-2.ensures.value,
      ))
          (c.in-Some-get.ensures.lookup.1 ∙ ap (λ xs. get_or xs c.args.number name) c.deref-2.ensures.value);
      text = text.0;
      held = ap known (sym (c.as_str-3.ensures.value ∙ path-is)) ∙ text.1;
      rules = text.2;
      below = omega (
        arith,
        c.saturating_sub-above.ensures,
        c.len.ensures,
        c.len-2.ensures,
        c.in_ok-path.path.bytes.ok.0,
        name.bytes.ok.0,
        ap length path-is,
        child-long directory file,
      );
    })

pub returns-clause-read : goal.returns-clause-read
returns-clause-read g c = λ known same were.
    let s = c.args.self.now in
    let names = file_names s in
    let files = s.rule_files.items in
    let name = c.in-Some-get.name.now in
    let file = string_bytes name in
    let directory = c.as_str.result.now in
    let path-is : string_bytes c.in_ok-path.path ≡ child directory file =
    c.in_ok-path.ensures ∙ ap (child directory) c.as_str-2.ensures.value in
    let text = text-of c.in-Some-2.list (known c.as_str-3.result.now) (rw c.in-Some-2.is at (c.in_ok-list.ensures.list known same)) in
    files-push known names s.active.files.items c.push.new.self.items
    (record { above = c.saturating_sub-above.result; list = c.in-Some-2.list }) c.in_ok-push.ensures.items were (record {
      directory = directory;
      file = file;
      named = named-file files c.args.number name (omega (
        arith,
        ltb-true _ _ (sym c.in-Some-get.ensures.lookup.0),
        ap length c.deref-2.ensures.value,
      ))
          (c.in-Some-get.ensures.lookup.1 ∙ ap (λ xs. get_or xs c.args.number name) c.deref-2.ensures.value);
      text = text.0;
      held = ap known (sym (c.as_str-3.ensures.value ∙ path-is)) ∙ text.1;
      rules = text.2;
      below = omega (
        arith,
        c.saturating_sub-above.ensures,
        c.len.ensures,
        c.len-2.ensures,
        c.in_ok-path.path.bytes.ok.0,
        name.bytes.ok.0,
        ap length path-is,
        child-long directory file,
      );
    })
