-- Which paths are written, by their kinds.
use Rattle.std.specs.Prelude.{Bool, true, false, ◌||◌, if◌then◌else◌, List, Option, Some, option_map}
use Rattle.std.specs.List.{filter}
use Rattle.glob_search.specs.Aims.{path_of}
use Rattle.glob_search.specs.Visiting.{Gift, Found, Unread}
use Rattle.glob_text.specs.Text.{Text}
use Rattle.globs.specs.declared.find.kinds.PathKind.{PathKind}
use Rattle.globs.specs.declared.find.kinds.PathKind.TheVariants.{Directory, File, Link, Other}
use Rattle.globs.specs.declared.find.kinds.Sieve.{Sieve}
use Rattle.globs.specs.declared.options.Kinds.{Kinds}

-- more has to be known about a path than whether it is a directory
abbrev pub sifts : Kinds → Bool
sifts kinds = kinds.files || kinds.links

-- the kind is among these
abbrev pub is_of : Kinds → PathKind → Bool
is_of kinds Directory = kinds.directories
is_of kinds File = kinds.files
is_of kinds Link = kinds.links
is_of kinds Other = false

-- which found paths are written, if their kinds are known where they matter
abbrev pub keeps_of : Kinds → (known : Option (Text → PathKind)) → Option (Text → Bool)
keeps_of kinds known =
    if sifts kinds then option_map (λ kind_at path. is_of kinds (kind_at path)) known else Some (λ path. true)

-- the same for a sieve
abbrev pub sieved : {F : Type 0} → (kinds_in : F → (follows : Bool) → (place : Text) → Option (Text → PathKind))
    → Sieve F → Option (Text → Bool)
sieved kinds_in sieve = keeps_of sieve.kinds (kinds_in sieve.files.now sieve.follows sieve.place.now)

-- a path is written if it is kept, and each directory that cannot be listed is reported
abbrev pub keeps_gift : (keeps : Text → Bool) → Gift → Bool
keeps_gift keeps (Found names) = keeps (path_of names)
keeps_gift keeps (Unread names kind) = true

-- what is kept of what a search gives
abbrev pub kept : (keeps : Text → Bool) → List Gift → List Gift
kept keeps gifts = filter (keeps_gift keeps) gifts
