-- What a fault gives to the caller.
use Rattle.std.proofs.Common.{◌≡◌, true, Option, List, [], ◌∷◌, ◌++◌, map, Err, Some, string_bytes, ap, sym, subst, ◌∙◌}
use Rattle.std.specs.IoError.{error_kind}
use Rattle.std.proofs.lemmas.List.{append_assoc}
use Rattle.glob_text.specs.Text.{Text}
use Rattle.glob_tree.specs.Content.{Content}
use Rattle.glob_search.specs.Aims.{AreRefused}
use Rattle.glob_search.specs.Searching.{Aim}
use Rattle.glob_search.specs.States.{GivesNext, is_last}
use Rattle.glob_search.specs.Visiting.{Gift, Unread}
use Rattle.glob_search.specs.Private.Engine.{FaultGives, IsSound, Ready, file_names}
use Rattle.glob_search.specs.Private.Finding.{Find, state_of}
use Rattle.glob_search.specs.Private.Ways.{search_left}
use Rattle.glob_search.specs.declared.fault.SearchFault.{SearchFault}
use Rattle.glob_search.specs.declared.fault.SearchFault.TheVariants as fault
use Rattle.glob_search.specs.declared.searcher.Searcher.{Searcher}

pub same-files : {A : Type 0} (s t : Searcher A) → t.rule_files ≡ s.rule_files → file_names t ≡ file_names s
same-files s t is = ap (λ v. map (λ f. string_bytes f) v.items) is

-- after the last fault there is no claim
pub ends-fault : {A : Type 0} (c : Content) (a : Aim) (known : Text → Option Text) (all given : List Gift) (f : SearchFault A)
    (s : Searcher A) → is_last f ≡ true → GivesNext {P = Find A} all c a known given (Some (Err f)) (state_of s)
ends-fault c a known all given (fault.Unread path e) s h = absurd (cc)
ends-fault c a known all given (fault.UnreadRules path e) s h = absurd (cc)
ends-fault c a known all given (fault.RefusedRules path refusals) s h = absurd (cc)
ends-fault c a known all given fault.Limit s h = tt
ends-fault c a known all given fault.Memory s h = tt

pub gives-fault : {A : Type 0} (c : Content) (a : Aim) (known : Text → Option Text) (all given : List Gift) (f : SearchFault A)
    (s t : Searcher A) (before : List Gift) → t ≡ s → all ≡ given ++ before
    → FaultGives c a known before f s → GivesNext {P = Find A} all c a known given (Some (Err f)) (state_of t)
gives-fault c a known all given (fault.Unread path e) s t before same upto x = record {
  names = x.names;
  path = x.path;
  goes = record {
    agrees = subst (IsSound c a known) (sym same) (Ready x.ready);
    upto = upto ∙ ap (λ gs. given ++ gs) x.rest ∙ sym (append_assoc given (Unread x.names (error_kind e) ∷ []) (search_left c a s))
        ∙ ap (λ u. (given ++ Unread x.names (error_kind e) ∷ []) ++ search_left c a u) (sym same);
  };
}
gives-fault c a known all given (fault.UnreadRules path e) s t before same upto x = x
gives-fault c a known all given (fault.RefusedRules path refusals) s t before same upto x = record {
  refused = subst (λ u. AreRefused known (file_names u) (string_bytes path) refusals.items) (sym same) x.refused;
  goes = record {
    agrees = subst (IsSound c a known) (sym same) x.keeps.sound;
    upto = upto ∙ ap (λ gs. given ++ gs) x.keeps.rest ∙ ap (λ u. given ++ search_left c a u) (sym same);
  };
}
gives-fault c a known all given fault.Limit s t before same upto x = tt
gives-fault c a known all given fault.Memory s t before same upto x = tt
