use Rattle.std.proofs.Common.{◌≡◌, ◌++◌, ◌∷◌, [], sym, ap, subst, ◌∙◌}
use Rattle.glob_tree.specs.Content.{kind_at}
use Rattle.glob_tree.specs.Memory.{MemoryTree}
use Rattle.glob_tree.specs.Private.Places.{IsPlace}
use Rattle.glob_tree.specs.Private.Nodes.{key_numbered, content_at}
use Rattle.glob_tree.proofs.MemoryLemmas.Memory.{kind_any, inside_more, is_content-more}
use Rattle.glob_tree.proofs.mem_tree.MemTree.add.Goals as goal

pub add-requires-clause-free : goal.add-requires-clause-free
add-requires-clause-free g c =
    let place = subst (λ (t : MemoryTree). IsPlace t.content c.args.path.now c.in_ok-directory.directory
    c.in_ok-directory.name.now) (sym c.self.view_is) c.in_ok-directory.ensures in
    let k = (key_numbered c.self.inside.nodes c.in_ok-directory.directory) in
    kind_any c.self.inside.nodes [] (key_numbered c.self.inside.nodes c.self.inside.current) (k ++ c.in_ok-name.name ∷ [])
    ∙ ap (λ name. kind_at (content_at c.self.inside.nodes c.self.inside.current) (k ++ name ∷ [])) c.in_ok-name.ensures
    ∙ place.free

pub invariant_of-self-2 : goal.invariant_of-self-2
invariant_of-self-2 g c =
    let place = subst (λ (t : MemoryTree). IsPlace t.content c.args.path.now c.in_ok-directory.directory
    c.in_ok-directory.name.now) (sym c.self.view_is) c.in_ok-directory.ensures in
    let more : c.add.new.self ≡ c.self.inside.nodes ++ (
      (key_numbered c.self.inside.nodes c.in_ok-directory.directory)
          ++ c.in_ok-directory.name.now ∷ [],
      c.args.kind,
    ) ∷ [] =
    c.in_ok-add.ensures.added
    ∙ ap (λ name. c.self.inside.nodes ++ (
      (key_numbered c.self.inside.nodes c.in_ok-directory.directory) ++ name ∷ [],
      c.args.kind,
    ) ∷ []) c.in_ok-name.ensures in
    rw more (
      inside_more c.self.inside.nodes c.self.inside.current c.args.path.now c.in_ok-directory.directory
          c.in_ok-directory.name.now place c.self.invariant.1 c.self.invariant.0 c.args.kind,
      is_content-more c.self.inside.nodes c.self.inside.current c.args.path.now c.in_ok-directory.directory
          c.in_ok-directory.name.now place c.self.invariant.1 c.self.invariant.0 c.args.kind,
    )

pub returns-clause-content : goal.returns-clause-content
returns-clause-content g c =
    let place = subst (λ (t : MemoryTree). IsPlace t.content c.args.path.now c.in_ok-directory.directory
    c.in_ok-directory.name.now) (sym c.self.view_is) c.in_ok-directory.ensures in
    let more : c.add.new.self ≡ c.self.inside.nodes ++ (
      (key_numbered c.self.inside.nodes c.in_ok-directory.directory)
          ++ c.in_ok-directory.name.now ∷ [],
      c.args.kind,
    ) ∷ [] =
    c.in_ok-add.ensures.added
    ∙ ap (λ name. c.self.inside.nodes ++ (
      (key_numbered c.self.inside.nodes c.in_ok-directory.directory) ++ name ∷ [],
      c.args.kind,
    ) ∷ []) c.in_ok-name.ensures in
    rw more (is_content-more c.self.inside.nodes c.self.inside.current c.args.path.now c.in_ok-directory.directory
    c.in_ok-directory.name.now place c.self.invariant.1 c.self.invariant.0 c.args.kind)
