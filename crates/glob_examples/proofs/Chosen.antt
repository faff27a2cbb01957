-- The paths of a walk that the rules choose.
use Rattle.std.proofs.Common.{◌≡◌, ◌≢◌, Less, ◌↔◌, Bool, true, false, not, IsTrue, List, refl, subst}
use Rattle.std.proofs.lemmas.Bool.{false≢true}
use Rattle.glob.specs.Content.{Content}
use Rattle.glob.specs.Lines.{AreKept}
use Rattle.glob.specs.Goal.{path_cmp}
use Rattle.glob.specs.Text.{Text}
use Rattle.glob.proofs.KeptTexts.{AreKept-exact, AreKept-AllPairs}
use Rattle.glob_set.specs.Sets.{AnyMatch}
use Rattle.glob_examples.specs.Copying.{CopyRules, Copies, AreToCopy}
use Rattle.glob_examples.specs.Sources.{AreSources}

module _ (rules : CopyRules) (path : Text) where
  -- a path that no include pattern matches is not copied
  pub Copies-not_included : ¬ (AnyMatch rules.include.options rules.include.patterns path) → ¬ (Copies rules path)
  unfolding Copies
  Copies-not_included none copies = none copies.0

  -- any other path is copied, unless an exclude pattern matches it
  pub Copies-unless : AnyMatch rules.include.options rules.include.patterns path → (excluded : Bool) →
      (IsTrue excluded ↔ AnyMatch rules.exclude.options rules.exclude.patterns path)
      → IsTrue (not excluded) ↔ Copies rules path
  unfolding Copies
  Copies-unless included true tells = (λ no. absurd (false≢true no), λ copies. absurd (copies.1 (tells.0 refl)))
  Copies-unless included false tells = (λ _. (included, λ any. false≢true (tells.1 any)), λ _. refl)

-- the sources that were kept are the ones to be copied
pub AreToCopy-kept : (c : Content) (pattern : Text) (rules : CopyRules) (found files : List Text) → AreSources c pattern found
    → AreKept (Copies rules) found files → AreToCopy c pattern rules files
AreToCopy-kept c pattern rules found files are keeps =
    let P = Copies rules in record {
      exact = λ path.
          let among = AreKept-exact P found files keeps path in (
            λ h. ((are.exact path).0 (among.0 h).0, (among.0 h).1),
            λ both. among.1 ((are.exact path).1 both.0, both.1),
          );
      orderly = record {
        once = λ one. AreKept-AllPairs P (λ path later. path ≢ later) found files keeps (are.orderly.once one);
        ascending = λ one few. AreKept-AllPairs P (λ path later. path_cmp path later ≡ Less) found files keeps
            (are.orderly.ascending one few);
      };
      listed = subst (λ paths. AreKept P paths files) are.listed keeps;
    }
