-- Why each premise of a headline promise is needed: a small content where the promise fails without it, computed from
-- the definitions.
use Rattle.std.specs.Prelude.{◌≡◌, true, false, Bool, List, [], ◌∷◌, map, codes, refl}
use Prim.Native.String.{String}
use Rattle.std.specs.Str.{chars, is_utf8}
use lib.Utf8.{encode}
use Rattle.std.specs.declared.io.ErrorKind.{ErrorKind}
use Rattle.std.specs.declared.io.ErrorKind.TheVariants.{PermissionDenied}
use Rattle.glob_text.specs.Pieces.{pieces}
use Rattle.glob_tree.specs.Content.{Content, Key, is_content, kind_at, children, resolve, look_result, list_result}
use Rattle.glob_tree.specs.Paths.{join, child}
use Rattle.glob_tree.specs.declared.kind.Kind.{Kind}
use Rattle.glob_tree.specs.declared.kind.Kind.TheVariants.{Dir, Shut, Other}
use Rattle.glob_pattern.specs.Computing.Deciding.{is_match, tokens_match}
use Rattle.glob_pattern.specs.Computing.Reading.{units_from}
use Rattle.glob_pattern.specs.Matching.Options.{new_options, default_options}
use Rattle.glob_pattern.specs.declared.options.MatchOptions.{MatchOptions}
use Rattle.glob_walk.specs.Components.{components, walk_fault}
use Rattle.glob_walk.specs.Goal.{goal, is_plain, is_readable, matches_undivided, text_below, walk_takes}
use Rattle.glob_walk.specs.Goal.{after_first_recursive, has_one_recursive}
use Rattle.glob_walk.specs.Walks.{listing, descent, enter, meet, Found, Unread, items, front, paths}

-- makes the definitions compute in the rows
unfoldable computed : Unit {0}
unfolding chars is_utf8 encode units_from is_match tokens_match join child kind_at children resolve look_result
    list_result is_content descent enter meet listing walk_fault is_plain goal
computed = tt

abbrev new : MatchOptions
new = new_options

abbrev dot_rule : MatchOptions
dot_rule = record new { require_literal_leading_dot = true }

abbrev no_case : MatchOptions
no_case = default_options

-- a key, written as its names joined by separators
abbrev key : String → Key
key names = pieces (codes names)

abbrev dir : String → Key × Kind
dir names = (key names, Dir)

abbrev file : String → Key × Kind
file names = (key names, Other)

abbrev shut : ErrorKind → String → Key × Kind
shut kind names = (key names, Shut kind)

-- a content with its root as the current directory
abbrev at_root : List (Key × Kind) → Content
at_root entries = record { kinds = ([], Dir) ∷ entries; current = [] }

-- the paths that the walk gives, and the goal
abbrev IsGiven : Content → MatchOptions → (pattern : String) → List String → Type 0
IsGiven c o pattern wanted = paths (items (listing c o (codes pattern))) ≡ map codes wanted

abbrev IsGoal : Content → MatchOptions → (pattern : String) → List String → Type 0
IsGoal c o pattern wanted = goal c o (codes pattern) ≡ map codes wanted

abbrev one_file : Content
one_file = at_root (file "a" ∷ [])

abbrev nested : Content
nested = at_root (dir "a" ∷ dir "a/a" ∷ file "a/a/b" ∷ [])

abbrev crossed : Content
crossed = at_root (dir "a" ∷ dir "a/c" ∷ file "a/c/d" ∷ file "a/x" ∷ [])

-- case-insensitively, a walk finds some things that the pattern does not match case-sensitively, and misses others
case_counts :
    IsGiven one_file no_case "[A]" ("a" ∷ []) × IsGoal one_file no_case "[A]" []
    × IsGiven (at_root (file "A" ∷ [])) no_case "[!a]" [] × IsGoal (at_root (file "A" ∷ [])) no_case "[!a]" ("A" ∷ [])
unfolding computed
case_counts = (refl, refl, refl, refl)

-- a wildcard component that begins with a dot finds the special names; a walk goes through `.`, `..` and an empty
-- component
plain_counts :
    (is_plain (codes ".*") ≡ false) × IsGiven one_file new ".*" ("./.." ∷ "./." ∷ []) × IsGoal one_file new ".*" []
    × (is_plain (codes "./a") ≡ false) × IsGiven one_file new "./a" ("a" ∷ []) × IsGoal one_file new "./a" []
    × (is_plain (codes "a//a") ≡ false) × IsGiven nested new "a//a" ("a/a" ∷ []) × IsGoal nested new "a//a" []
    × (is_plain (codes "a/../a") ≡ false) × IsGiven nested new "a/../a" ("a/../a" ∷ []) × IsGoal nested new "a/../a" []
    × (is_plain (codes "**//") ≡ false) × IsGiven nested new "**//" [] × IsGoal nested new "**//" ("a" ∷ "a/a" ∷ [])
unfolding computed
plain_counts = (refl, refl, refl, refl, refl, refl, refl, refl, refl, refl, refl, refl, refl, refl, refl)

-- the goal uses the dot rule as the options set it
dots_count :
    IsGoal (at_root (file ".a" ∷ [])) dot_rule "*" []
    × IsGoal (at_root (file ".a" ∷ [])) new "*" (".a" ∷ [])
unfolding computed
dots_count = (refl, refl)

-- only directories are the goal of a pattern that ends in a separator or in `**`
kinds_count :
    IsGoal (at_root (dir "a" ∷ file "b" ∷ [])) new "*/" ("a" ∷ [])
    × IsGoal (at_root (dir "a" ∷ file "b" ∷ [])) new "**" ("a" ∷ [])
unfolding computed
kinds_count = (refl, refl)

-- the goal of a pattern that begins with a separator has texts from the root
rooted_counts :
    IsGiven crossed new "/a/*" ("/a/c" ∷ "/a/x" ∷ []) × IsGoal crossed new "/a/*" ("/a/c" ∷ "/a/x" ∷ [])
    × IsGiven crossed new "/**" ("/a" ∷ "/a/c" ∷ []) × IsGoal crossed new "/**" ("/a" ∷ "/a/c" ∷ [])
unfolding computed
rooted_counts = (refl, refl, refl, refl)

-- `**` in two places gives a path twice, and two components after it break the order
runs_count :
    (has_one_recursive (codes "**/a/**/b") ≡ false) × IsGiven nested new "**/a/**/b" ("a/a/b" ∷ "a/a/b" ∷ [])
    × (has_one_recursive (codes "**/*/*") ≡ true)
    × (after_first_recursive (components (codes "**/*/*")) ≡ codes "*" ∷ codes "*" ∷ [])
    × IsGiven crossed new "**/*/*" ("a/c" ∷ "a/x" ∷ "a/c/d" ∷ [])
unfolding computed
runs_count = (refl, refl, refl, refl, refl)

-- what is below a shut directory is a goal that the walk does not find: it gives the error instead
abbrev closed : Content
closed = at_root (dir "a" ∷ file "a/x" ∷ shut PermissionDenied "b" ∷ file "b/x" ∷ [])

readable_counts :
    (is_readable closed (codes "*/*") ≡ false)
    × (items (listing closed new (codes "*/*")) ≡ Found (codes "a/x") ∷ Unread (codes "b") PermissionDenied ∷ [])
    × IsGoal closed new "*/*" ("a/x" ∷ "b/x" ∷ [])
unfolding computed is_readable
readable_counts = (refl, refl, refl)

-- within a limit the walk finds only goals, but not all of them
whole_counts :
    (paths (items (front 5 (listing crossed new (codes "**")))) ≡ codes "a" ∷ [])
    × IsGoal crossed new "**" ("a" ∷ "a/c" ∷ [])
unfolding computed
whole_counts = (refl, refl)

-- over keys that are not a content, since `a` is missing, a walk does not find what the pattern matches
abbrev no_content : Content
no_content = at_root (file "a/b" ∷ [])

content_counts : (is_content no_content ≡ false) × IsGiven no_content new "*/*" [] × IsGoal no_content new "*/*" ("a/b" ∷ [])
unfolding computed
content_counts = (refl, refl, refl)

-- for joined names: whether the undivided pattern matches them, whether the components take them, and whether it is
-- plain
abbrev row : MatchOptions → String → List String → List Bool
row o pattern names =
    matches_undivided o (codes pattern) (text_below (codes pattern) (map codes names))
    ∷ walk_takes o false (components (codes pattern)) (map codes names)
    ∷ is_plain (codes pattern) ∷ []

-- the start is not a goal, though `**` matches the empty text
names_count : row new "**" [] ≡ true ∷ false ∷ true ∷ []
unfolding computed
names_count = refl

-- a bracket with `/` in it, and an empty component after `**`
components_count : (row new "[a/b]" ("a" ∷ []) ≡ true ∷ false ∷ false ∷ []) × (row new "**//" ("a" ∷ []) ≡ true ∷ false ∷ false ∷ [])
unfolding computed
components_count = (refl, refl)

-- without the separator rule, `*` takes a path of two names
separators_count :
    (is_match new (codes "*") (codes "a/b") ≡ true)
    × (walk_takes new false (codes "*" ∷ []) (codes "a" ∷ codes "b" ∷ []) ≡ false)
unfolding computed
separators_count = (refl, refl)
