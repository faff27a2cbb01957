use Rattle.std.proofs.Common.{◌≡◌, ◌∙◌, ◌||◌, ◌++◌, Option, Some, length, map, string_bytes, refl, sym, ap, ap₂}
use Rattle.std.proofs.lemmas.List.{length-map}
use Rattle.glob_search.specs.Aims.{outer_of}
use Rattle.glob_text.specs.Text.{Text}
use Rattle.globs.specs.Find.Above.{file_at, is_ignored_down, lists_at_top, lists_down, read_at}
use Rattle.globs.proofs.AboveLemmas.{files-next, first-name, first-there, ignored-next, lists-next, rule-next, rule-start, top-file}
use Rattle.globs.proofs.AboveLemmas.{top-read}
use Rattle.globs.proofs.above.rules_above.Goals as goal

pub loop-left-init : goal.loop-left-init
loop-left-init g c =
    let place = map (λ n. n.now) c.args.place.now in
    let exclude = string_bytes c.in_ok-exclude.exclude in
    let read = outer_of c.read.new.self.lists.items in
    let top : (known : Text → Option Text) → g.X.RuleTexts.texts c.read.new.texts ≡ Some known → read ≡ lists_at_top known place =
    λ known is.
    top-read known read place exclude (length c.args.place.now) c.in_ok-exclude.ensures (sym (length-map c.args.place.now (λ n. n.now)))
    (c.in_ok-read.ensures.lists known (sym c.read.ensures.kept ∙ is)
    ∙ ap (λ ls. outer_of ls ++ read_at known exclude) c.none-above.ensures.lists) in
    record {
      kept = refl;
      lists = λ known is. ap (λ ls. lists_down known ls place) (top known is);
      ignored = λ known is.
          ap₂ (λ i ls. i || is_ignored_down known ls place) (c.read.ensures.ignored ∙ c.none-above.ensures.ignored) (top known is);
      files = λ known is bare.
          top-file known (map string_bytes c.read.new.self.files.items) place exclude (length c.args.place.now)
          c.in_ok-exclude.ensures (sym (length-map c.args.place.now (λ n. n.now)))
          (c.in_ok-read.ensures.files known (sym c.read.ensures.kept ∙ is) bare
          ∙ ap (λ fs. map string_bytes fs ++ file_at known exclude) c.none-above.ensures.files);
      rule = λ known is.
          rule-start known c.read.new.self.ignoring c.read.new.self.is_ignored read place
          (c.read.ensures.rule ∙ c.none-above.ensures.rule) (c.read.ensures.ignored ∙ c.none-above.ensures.ignored) (top known is);
    }

pub loop-left-preserved : goal.loop-left-preserved
loop-left-preserved g c =
    let left = c.loop-left.left.now in
    let here = outer_of c.loop-left.above.lists.items in
    let read = outer_of c.read-in-len1-up.new.self.lists.items in
    let deeper = outer_of c.in_ok-above.above.lists.items in
    let file = string_bytes c.in_ok-file.file in
    let many : length left ≡ length (map (λ n. n.now) left) = sym (length-map left (λ n. n.now)) in
    record {
      kept = c.read-in-len1-up.ensures.kept ∙ c.loop-left.invariant.kept;
      lists = λ known is.
          lists-next known here read deeper (map (λ n. n.now) left) _ _ file (length left)
          (first-name (λ n. n.now) left _ c.in-len1-up.len_at_least) c.in_ok-file.ensures many
          (c.in_ok-read-2.ensures.lists known (c.loop-left.invariant.kept ∙ is)) c.in_ok-above.ensures.lists
          ∙ c.loop-left.invariant.lists known is;
      ignored = λ known is.
          ignored-next known here read deeper (map (λ n. n.now) left) _ _ file (length left)
          (first-name (λ n. n.now) left _ c.in-len1-up.len_at_least) c.in_ok-file.ensures many
          (c.in_ok-read-2.ensures.lists known (c.loop-left.invariant.kept ∙ is)) c.in_ok-above.ensures.lists
          c.loop-left.above.is_ignored c.read-in-len1-up.new.self.is_ignored c.in_ok-above.above.is_ignored
          c.read-in-len1-up.ensures.ignored c.in_ok-above.ensures.ignored
          ∙ c.loop-left.invariant.ignored known is;
      files = λ known is bare.
          let (n, first) = first-there (λ n. n.now) left c.in-len1-up.len_at_least in
          files-next known (map string_bytes c.loop-left.above.files.items)
          (map string_bytes c.in_ok-above.above.files.items) (map (λ n. n.now) left) n _ file (length left)
          first c.in_ok-file.ensures many
          (ap (λ fs. map string_bytes fs.items) c.in_ok-above.ensures.files
          ∙ c.in_ok-read-2.ensures.files known (c.loop-left.invariant.kept ∙ is) bare)
          ∙ c.loop-left.invariant.files known is bare;
      rule = λ known is.
          rule-next known here read deeper (map (λ n. n.now) left) _ _ file (length left)
          (first-name (λ n. n.now) left _ c.in-len1-up.len_at_least) c.in_ok-file.ensures many
          (c.in_ok-read-2.ensures.lists known (c.loop-left.invariant.kept ∙ is)) c.in_ok-above.ensures.lists
          c.loop-left.above.is_ignored c.read-in-len1-up.new.self.is_ignored c.in_ok-above.above.is_ignored
          c.loop-left.above.ignoring c.read-in-len1-up.new.self.ignoring c.in_ok-above.above.ignoring
          c.read-in-len1-up.ensures.ignored c.in_ok-above.ensures.ignored c.read-in-len1-up.ensures.rule c.in_ok-above.ensures.rule
          ∙ c.loop-left.invariant.rule known is;
    }
