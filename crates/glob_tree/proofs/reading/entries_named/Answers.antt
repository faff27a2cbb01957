use Rattle.std.proofs.Common.{◌≡◌, false, ◌∷◌, [], ◌++◌, map, take, refl, ap, sym, subst, ◌∙◌}
use Rattle.std.specs.Prelude.{All, slice_index_or}
use Rattle.std.specs.String.{string_bytes}
use Rattle.std.proofs.lemmas.List.Elements.{All-nil}
use Rattle.glob_text.specs.Text.{Text}
use Rattle.glob_tree.specs.Answers.{entries_of, names_of}
use Rattle.glob_tree.specs.FileSystems.{IsHeld}
use Rattle.glob_tree.specs.Private.Listing.{AreSaid, IsSaid, IsNameError, are_names_taken, is_dir_in, said_entries}
use Rattle.glob_tree.specs.Private.Looking.{AreDirect, IsSeen}
use Rattle.glob_tree.specs.Strays.{and_then, strays_of}
use Rattle.glob_tree.proofs.MemoryLemmas.Refusing.{fails_by}
use Rattle.glob_tree.proofs.StraysLemmas.{and_then-nil, and_then-append}
use Rattle.glob_tree.proofs.SystemLemmas.Naming.{taken_fault, stray_fault, text_next, text_said, no_stray_next}
use Rattle.glob_tree.proofs.SystemLemmas.Naming.{stray_next, no_text_next, said_none}
use Rattle.glob_tree.proofs.SystemLemmas.Saying.{said_nothing, said_pushed, none_pushed}
use Rattle.glob_tree.proofs.reading.entries_named.Goals as goal
use Rattle.glob_tree.proofs.reading.entries_named.Goals.{in-Ok+in_ok-entry_named-in-Ok+in_ok-push-in-Ok, in-Err+in_ok-receive-in-Err}

pub loop-name-init : goal.loop-name-init
loop-name-init g c = record {
  path = refl;
  files = refl;
  links = refl;
  receives = refl;
  names = ap (λ es. names_of (entries_of es)) c.new-entries.ensures.items;
  strays = sym (and_then-nil (g.R.Reader.names c.args.reader.now));
  kinds = λ f seen direct looked. ap entries_of c.new-entries.ensures.items ∙ sym (said_none _);
  said = λ f held direct looked.
      subst (λ es. AreSaid (g.R.Reader.receives c.args.reader.now) (g.R.Reader.links c.args.reader.now) f (string_bytes c.args.path.now)
      (entries_of es) (g.R.Reader.paths c.args.reader.now) (g.R.Reader.paths c.args.reader.now))
      (sym c.new-entries.ensures.items) (said_nothing (g.R.Reader.receives c.args.reader.now) (g.R.Reader.links c.args.reader.now) f
      (string_bytes c.args.path.now) (g.R.Reader.paths c.args.reader.now));
  unseen = λ is. refl;
  left_out = λ is. subst (λ es. All (λ e. e.1 ≡ false) (entries_of es)) (sym c.new-entries.ensures.items) (All-nil _);
}

pub returns-in_err-entry_named-in-Ok-clause-fails : goal.returns-in_err-entry_named-in-Ok-clause-fails
returns-in_err-entry_named-in-Ok-clause-fails g c =
    fails_by (IsNameError (are_names_taken (g.R.Reader.receives c.args.reader.now) (map (λ n. n.now) c.args.names.now)))
    c.from_residual.result c.in_err-entry_named-in-Ok.field-0.0 c.from_residual.ensures.1
    (taken_fault c.args.names.now c.loop-name.name-index _ c.loop-name-test.true (g.R.Reader.receives c.args.reader.now)
    c.in_err-entry_named-in-Ok.field-0.0 c.in-Ok.name.now c.in-Ok.ensures.cases.0 c.in-Ok.ensures.cases.1
    c.in_err-entry_named-in-Ok.ensures.fails)

pub loop-name-preserved : goal.loop-name-preserved
loop-name-preserved g c = elim c.match-from_utf8.branch [
  | in-Ok+in_ok-entry_named-in-Ok+in_ok-push-in-Ok w ↦ rw (w.reader-is, w.path-is, w.entries-is) (record {
    path = w.in_ok-entry_named-in-Ok.ensures.path ∙ c.loop-name.invariant.path;
    files = w.in_ok-entry_named-in-Ok.ensures.files ∙ c.loop-name.invariant.files;
    links = w.in_ok-entry_named-in-Ok.ensures.links ∙ c.loop-name.invariant.links;
    receives = w.in_ok-entry_named-in-Ok.ensures.receives ∙ c.loop-name.invariant.receives;
    names = ap (λ es. names_of (entries_of es)) w.in_ok-push-in-Ok.ensures.items
        ∙ text_next c.args.names.now c.loop-name.name-index _ c.loop-name-test.true c.loop-name.entries.items
        w.in_ok-entry_named-in-Ok.field-0 c.loop-name.invariant.names
        (w.in_ok-entry_named-in-Ok.ensures.name ∙ w.in-Ok.ensures.cases.0) w.in-Ok.ensures.cases.1;
    strays = w.in_ok-entry_named-in-Ok.ensures.strays ∙ c.loop-name.invariant.strays
        ∙ ap (and_then (g.R.Reader.names c.args.reader.now))
        (sym (no_stray_next c.args.names.now c.loop-name.name-index _ c.loop-name-test.true
        w.in-Ok.ensures.cases.1));
    kinds = λ f seen direct looked. ap entries_of w.in_ok-push-in-Ok.ensures.items
        ∙ text_said c.args.names.now c.loop-name.name-index _ c.loop-name-test.true (is_dir_in f.content)
        (string_bytes c.args.path.now) (string_bytes c.loop-name.path) c.loop-name.invariant.path
        c.loop-name.entries.items w.in_ok-entry_named-in-Ok.field-0 w.in-Ok.name.now (c.loop-name.invariant.kinds f
        seen direct looked) w.in_ok-entry_named-in-Ok.ensures.name
        w.in-Ok.ensures.cases.0 w.in-Ok.ensures.cases.1
        (w.in_ok-entry_named-in-Ok.ensures.kind f
        (subst (λ l. IsSeen l (g.R.Reader.files c.loop-name.reader) f) (sym c.loop-name.invariant.links)
        (subst (λ o. IsSeen (g.R.Reader.links c.args.reader.now) o f) (sym c.loop-name.invariant.files) seen))
        (subst (AreDirect f) (sym c.loop-name.invariant.path) direct) looked);
    said = λ f held direct looked.
        subst (λ es. AreSaid (g.R.Reader.receives c.args.reader.now) (g.R.Reader.links c.args.reader.now) f (string_bytes c.args.path.now)
        (entries_of es) (g.R.Reader.paths c.args.reader.now) (g.R.Reader.paths w.entry_named.new.reader))
        (sym w.in_ok-push-in-Ok.ensures.items)
        (said_pushed (g.R.Reader.receives c.args.reader.now) (g.R.Reader.links c.args.reader.now) f (string_bytes c.args.path.now)
        (string_bytes c.loop-name.path) w.in-Ok.name.now c.loop-name.invariant.path
        c.loop-name.entries.items w.in_ok-entry_named-in-Ok.field-0 w.in_ok-entry_named-in-Ok.ensures.name _ _ _
        (c.loop-name.invariant.said f held direct looked)
        (subst (λ b. IsSaid b (g.R.Reader.links c.args.reader.now) f (string_bytes c.loop-name.path ++ w.in-Ok.name.now)
        w.in_ok-entry_named-in-Ok.field-0.is_dir (g.R.Reader.paths c.loop-name.reader) (g.R.Reader.paths w.entry_named.new.reader))
        c.loop-name.invariant.receives
        (subst (λ l. IsSaid (g.R.Reader.receives c.loop-name.reader) l f (string_bytes c.loop-name.path ++ w.in-Ok.name.now)
        w.in_ok-entry_named-in-Ok.field-0.is_dir (g.R.Reader.paths c.loop-name.reader) (g.R.Reader.paths w.entry_named.new.reader))
        c.loop-name.invariant.links
        (w.in_ok-entry_named-in-Ok.ensures.said f (subst (λ o. IsHeld o f) (sym c.loop-name.invariant.files) held)
        (subst (AreDirect f) (sym c.loop-name.invariant.path) direct) looked))));
    unseen = λ is. w.in_ok-entry_named-in-Ok.ensures.unseen is ∙ c.loop-name.invariant.unseen is;
    left_out = λ is. subst (λ es. All (λ e. e.1 ≡ false) (entries_of es)) (sym w.in_ok-push-in-Ok.ensures.items)
        (none_pushed c.loop-name.entries.items w.in_ok-entry_named-in-Ok.field-0 (c.loop-name.invariant.left_out is)
        (w.in_ok-entry_named-in-Ok.ensures.left_out is));
  })
  | in-Err+in_ok-receive-in-Err w ↦ let item : Text = (slice_index_or c.args.names.now c.loop-name.name-index
      (record { ref_ptr = (0, 0); now = [] })).now in
      rw (w.reader-is, w.path-is, w.entries-is) (record {
        path = c.loop-name.invariant.path;
        files = w.in_ok-receive-in-Err.ensures.files ∙ c.loop-name.invariant.files;
        links = w.in_ok-receive-in-Err.ensures.links ∙ c.loop-name.invariant.links;
        receives = w.in_ok-receive-in-Err.ensures.receives ∙ c.loop-name.invariant.receives;
        names = c.loop-name.invariant.names ∙ sym (no_text_next c.args.names.now c.loop-name.name-index _
            c.loop-name-test.true w.in-Err.ensures.cases.0);
        strays = w.in_ok-receive-in-Err.ensures.names
            ∙ ap (λ known. and_then known (item ∷ [])) c.loop-name.invariant.strays
            ∙ and_then-append (g.R.Reader.names c.args.reader.now) (strays_of (map (λ n. n.now)
            (take c.loop-name.name-index c.args.names.now))) (item ∷ [])
            ∙ ap (and_then (g.R.Reader.names c.args.reader.now))
            (sym (stray_next c.args.names.now c.loop-name.name-index _ c.loop-name-test.true
            w.in-Err.ensures.cases.0));
        kinds = λ f seen direct looked. c.loop-name.invariant.kinds f seen direct looked
            ∙ ap (said_entries (is_dir_in f.content (string_bytes c.args.path.now)))
            (sym (no_text_next c.args.names.now c.loop-name.name-index _ c.loop-name-test.true
            w.in-Err.ensures.cases.0));
        said = λ f held direct looked.
            subst (AreSaid (g.R.Reader.receives c.args.reader.now) (g.R.Reader.links c.args.reader.now) f (string_bytes c.args.path.now)
            (entries_of c.loop-name.entries.items) (g.R.Reader.paths c.args.reader.now))
            (sym w.in_ok-receive-in-Err.ensures.paths) (c.loop-name.invariant.said f held direct looked);
        unseen = λ is. w.in_ok-receive-in-Err.ensures.paths ∙ c.loop-name.invariant.unseen is;
        left_out = c.loop-name.invariant.left_out;
      })
]

pub returns-in_err-receive-in-Err-clause-fails : goal.returns-in_err-receive-in-Err-clause-fails
returns-in_err-receive-in-Err-clause-fails g c =
    fails_by (IsNameError (are_names_taken (g.R.Reader.receives c.args.reader.now) (map (λ n. n.now) c.args.names.now)))
    c.from_residual-in_err-receive-in-Err.result c.in_err-receive-in-Err.field-0.0 c.from_residual-in_err-receive-in-Err.ensures.1
    (subst (λ b. IsNameError (are_names_taken b (map (λ n. n.now) c.args.names.now)) c.in_err-receive-in-Err.field-0.0)
    c.loop-name.invariant.receives
    (stray_fault c.args.names.now c.loop-name.name-index _ c.loop-name-test.true (g.R.Reader.receives c.loop-name.reader)
    c.in_err-receive-in-Err.field-0.0 c.in-Err.ensures.cases.0 c.in_err-receive-in-Err.ensures.fails))
