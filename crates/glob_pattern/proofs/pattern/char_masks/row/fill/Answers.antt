use Rattle.std.proofs.Common.{◌≡◌, ◌≤◌, get_or, ◌∙◌, arith}
use Rattle.std.proofs.lemmas.List.{get_or_default}
use Rattle.glob_pattern.specs.Private.Classes.{partition_of, class_in}
use Rattle.glob_pattern.specs.declared.token.Token.TheVariants.{AnyChar}
use Rattle.glob_pattern.proofs.MaskLemmas.Words.{IsMask-zero, IsMask-more}
use Rattle.glob_pattern.proofs.pattern.char_masks.row.fill.Goals as goal

pub loop-n-init : goal.loop-n-init
loop-n-init g c =
    let tokens = c.args.tokens.now in
    let start = c.args.start in
    let p = partition_of c.args.classes in
    record {
      plain = record {
        listed = λ d. rw (c.requires.empty (class_in p d)) (IsMask-zero tokens start _);
        others = IsMask-zero tokens start _;
        brackets = IsMask-zero tokens start _;
        recursive = IsMask-zero tokens start _;
      };
      folded = record {
        listed = λ d. rw (c.requires.empty_folded (class_in p d)) (IsMask-zero tokens start _);
        others = IsMask-zero tokens start _;
        brackets = IsMask-zero tokens start _;
        recursive = IsMask-zero tokens start _;
      };
    }

pub loop-n-preserved : goal.loop-n-preserved
loop-n-preserved g c =
    let tokens = c.args.tokens.now in
    let start = c.args.start in
    let n = c.loop-n.n in
    let token = c.index-tokens-n.result in
    let from : start ≤ n = omega arith in
    let is : token ≡ get_or tokens n AnyChar = c.index-tokens-n.is ∙ get_or_default tokens n _ _ (omega arith) in
    let put = c.list_token-kinds.ensures in
    let before = c.loop-n.invariant in
    record {
      plain = record {
        listed = λ d. IsMask-more tokens start n _ token _ _ from is (before.plain.listed d) (put.plain d);
        others = IsMask-more tokens start n _ token _ _ from is before.plain.others put.others;
        brackets = IsMask-more tokens start n _ token _ _ from is before.plain.brackets put.brackets;
        recursive = IsMask-more tokens start n _ token _ _ from is before.plain.recursive put.recursive;
      };
      folded = record {
        listed = λ d. IsMask-more tokens start n _ token _ _ from is (before.folded.listed d) (put.folded d);
        others = IsMask-more tokens start n _ token _ _ from is before.folded.others put.others;
        brackets = IsMask-more tokens start n _ token _ _ from is before.folded.brackets put.brackets;
        recursive = IsMask-more tokens start n _ token _ _ from is before.folded.recursive put.recursive;
      };
    }

pub returns-clause-plain : goal.returns-clause-plain
returns-clause-plain g c = c.finish.ensures c.args.tokens.now c.args.start c.loop-n.n c.loop-n.invariant.plain
    (λ j lt. (λ before. let most = c.loop-n.auto.n-end (omega arith) in omega (arith, most), λ below. omega arith))

pub returns-clause-folded : goal.returns-clause-folded
returns-clause-folded g c = c.finish-2.ensures c.args.tokens.now c.args.start c.loop-n.n c.loop-n.invariant.folded
    (λ j lt. (λ before. let most = c.loop-n.auto.n-end (omega arith) in omega (arith, most), λ below. omega arith))
