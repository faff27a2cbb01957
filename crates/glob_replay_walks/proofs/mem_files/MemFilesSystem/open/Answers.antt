use Rattle.std.proofs.Common.{[], ◌∷◌, ◌++◌, Some, ap, sym, ◌∙◌}
use Rattle.std.specs.Prelude.{option_map}
use Rattle.glob_replay_walks.specs.MemFiles.{key_of, names_at, strays_at}
use Rattle.glob_tree.specs.Private.Listing.{name_bytes}
use Rattle.std.proofs.lemmas.List.{append_assoc}
use Rattle.glob_replay_walks.proofs.FileLemmas.{value-same}
use Rattle.glob_replay_walks.proofs.HeldLemmas.{fails_nowhere, fails_at_other, fails_at_none, opened_shut, opened_dir}
use Rattle.glob_replay_walks.proofs.mem_files.MemFilesSystem.open.Goals as goal

pub returns-in-None-clause-fails : goal.returns-in-None-clause-fails
returns-in-None-clause-fails g c = λ f held direct non.
    fails_nowhere c.args.self.now.kinds.items c.args.self.now.links.items c.args.self.now.strays.items f held.0 c.args.path.now
    (ap (option_map (λ k. key_of k.items)) (sym c.in-None.is) ∙ c.in_ok-key.ensures) _

pub returns-in-Some-Dir-clause-opened : goal.returns-in-Some-Dir-clause-opened
returns-in-Some-Dir-clause-opened g c = λ f held direct.
    let kinds = c.args.self.now.kinds.items in
    let k = key_of c.in-Some.key.items in
    let strays = c.args.self.now.strays.items in
    opened_dir kinds c.args.self.now.links.items strays f held c.args.path.now k
    (ap (option_map (λ key. key_of key.items)) (sym c.in-Some.is) ∙ c.in_ok-key.ensures)
    (sym (c.in-Some-Dir.is ∙ ap Some c.in-Some-Dir.field-0-is) ∙
    value-same c.value_at.result _ c.in-Some.key.items _ kinds c.value_at.ensures c.as_slice-2.ensures.value c.as_slice.ensures.value)
    c.from-names.result.items
    (c.from-names.ensures.0 ∙ c.in_ok-names-in-Some-Dir.ensures
    ∙ ap (λ ks. name_bytes (strays_at (key_of ks) strays) ++ (46 ∷ 0 ∷ 46 ∷ 46 ∷ 0 ∷ []) ++
    name_bytes (names_at (key_of ks) kinds)) c.as_slice-in-Some-Dir.ensures.value
    ∙ append_assoc (name_bytes (strays_at k strays)) (46 ∷ 0 ∷ 46 ∷ 46 ∷ 0 ∷ []) (name_bytes (names_at k kinds)))

pub returns-in-Some-Shut-clause-opened : goal.returns-in-Some-Shut-clause-opened
returns-in-Some-Shut-clause-opened g c = λ f held direct.
    let kinds = c.args.self.now.kinds.items in
    opened_shut kinds c.args.self.now.links.items c.args.self.now.strays.items f held.0 c.args.path.now (key_of c.in-Some.key.items)
    (ap (option_map (λ key. key_of key.items)) (sym c.in-Some.is) ∙ c.in_ok-key.ensures) c.in-Some-Shut.kind
    (sym (c.in-Some-Shut.is ∙ ap Some c.in-Some-Shut.field-0-is) ∙
    value-same c.value_at.result _ c.in-Some.key.items _ kinds c.value_at.ensures c.as_slice-2.ensures.value c.as_slice.ensures.value)
    c.new.result.items

pub returns-in-Some-Other-clause-fails : goal.returns-in-Some-Other-clause-fails
returns-in-Some-Other-clause-fails g c = λ f held direct non.
    let kinds = c.args.self.now.kinds.items in
    fails_at_other kinds c.args.self.now.links.items c.args.self.now.strays.items f held.0 c.args.path.now (key_of c.in-Some.key.items)
    (ap (option_map (λ key. key_of key.items)) (sym c.in-Some.is) ∙ c.in_ok-key.ensures)
    (sym (c.in-Some-Other.is ∙ ap Some c.in-Some-Other.field-0-is) ∙
    value-same c.value_at.result _ c.in-Some.key.items _ kinds c.value_at.ensures c.as_slice-2.ensures.value c.as_slice.ensures.value) _

pub returns-clause-fails : goal.returns-clause-fails
returns-clause-fails g c = λ f held direct non.
    let kinds = c.args.self.now.kinds.items in
    fails_at_none kinds c.args.self.now.links.items c.args.self.now.strays.items f held.0 c.args.path.now (key_of c.in-Some.key.items)
    (ap (option_map (λ key. key_of key.items)) (sym c.in-Some.is) ∙ c.in_ok-key.ensures)
    (sym c.in-None-value_at.is ∙ value-same c.value_at.result _ c.in-Some.key.items _ kinds c.value_at.ensures
    c.as_slice-2.ensures.value c.as_slice.ensures.value) _
