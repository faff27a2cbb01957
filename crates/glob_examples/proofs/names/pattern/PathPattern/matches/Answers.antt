use Rattle.std.proofs.Common.{◌≡◌, ◌<◌, ◌^◌, ◌∙◌, [], get_or, length, map, ap, arith}
use Rattle.std.proofs.lemmas.List.{length-map}
use Rattle.std.proofs.lemmas.Result.{IfOk-weaker}
use Rattle.glob_pattern.proofs.Counts.{product_fits}
use Rattle.glob_examples.specs.Names.{split_names}
use Rattle.glob_examples.specs.NameTable.{shape_of, table_of}
use Rattle.glob_examples.proofs.NameSplits.{NamesSplit-by_table}
use Rattle.glob_examples.proofs.names.pattern.PathPattern.matches.Goals as goal

pub new-judge-requires : goal.new-judge-requires
new-judge-requires g c = λ k d below.
    let row = c.in_ok-rows.ensures.each k [] d (omega (arith, c.in_ok-rows.ensures.count, ap length c.deref.ensures.value)) in
    let components : c.len.result ≡ length c.args.self.now = omega
    (arith, c.len.ensures, c.self.inside.components.ok.0, ap length c.self.view_is) in
    rw c.deref.ensures.value (omega (arith, (get_or c.in_ok-rows.rows.items k d).ok.0, row.count, components))

pub run_positions-requires-clause-tokens : goal.run_positions-requires-clause-tokens
unfolding table_of
run_positions-requires-clause-tokens g c =
    let shapes : length c.as_slice.result.now ≡ length c.self.inside.components.items =
    ap length (c.as_slice.ensures.value ∙ c.self.invariant) ∙ length-map c.self.inside.components.items shape_of in
    omega (arith, shapes, c.new-judge.ensures.components, c.len.ensures, c.self.inside.components.ok.0)

pub run_positions-requires-clause-room : goal.run_positions-requires-clause-room
unfolding table_of
run_positions-requires-clause-room g c =
    let rows : length (map (λ row. row.items) c.new-judge.result.rows.now) ≡ length c.deref.result.now =
    length-map c.new-judge.result.rows.now (λ row. row.items) ∙ ap length c.new-judge.ensures.rows in
    let few : length (map (λ row. row.items) c.new-judge.result.rows.now) < 2 ^ 64 = omega (arith, rows, c.deref.type_inv.0) in
    omega (
      arith,
      c.new-judge.ensures.count,
      product_fits (length c.as_slice.result.now)
          (length (map (λ row. row.items) c.new-judge.result.rows.now)) c.as_slice.type_inv.0 few,
    )

pub returns : goal.returns
returns g c =
    let components : c.new-judge.result.components ≡ length c.args.self.now =
    omega (arith, c.new-judge.ensures.components, c.len.ensures, c.self.inside.components.ok.0, ap length c.self.view_is) in
    IfOk-weaker c.run_positions.result _ _
    (λ yes decided. NamesSplit-by_table c.args.self.now (split_names c.args.path.now) c.in_ok-rows.rows.items c.in_ok-rows.ensures
    _ _ _ components (c.new-judge.ensures.rows ∙ c.deref.ensures.value)
    (c.as_slice.ensures.value ∙ c.self.invariant ∙ ap (map shape_of) c.self.view_is) decided)
    c.run_positions.ensures.answer
