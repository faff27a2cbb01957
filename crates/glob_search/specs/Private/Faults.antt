-- Which faults a part of a search may have.
use Rattle.std.specs.Prelude.{ℕ, ◌<◌, List, string_bytes, ⊤}
use Rattle.glob_text.specs.Text.{Text}
use Rattle.glob_search.specs.States.{IsRuleFile}
use Rattle.glob_search.specs.declared.fault.SearchFault.{SearchFault}
use Rattle.glob_search.specs.declared.fault.SearchFault.TheVariants as fault

-- the fault is that a directory cannot be listed, which costs something, or it is the last fault
abbrev pub IsOfListing : {A : Type 0} → (before after : ℕ) → SearchFault A → Type 0
IsOfListing before after (fault.Unread path e) = before < after
IsOfListing before after (fault.UnreadRules path e) = ⊥
IsOfListing before after (fault.RefusedRules path refusals) = ⊥
IsOfListing before after fault.Limit = ⊤
IsOfListing before after fault.Memory = ⊤

-- it is about an ignore file with one of these names, or it is the last fault
abbrev pub IsOfRules : {A : Type 0} → (files : List Text) → SearchFault A → Type 0
IsOfRules files (fault.Unread path e) = ⊥
IsOfRules files (fault.UnreadRules path e) = IsRuleFile files (string_bytes path)
IsOfRules files (fault.RefusedRules path refusals) = IsRuleFile files (string_bytes path)
IsOfRules files fault.Limit = ⊤
IsOfRules files fault.Memory = ⊤
