-- What to write instead of the options and commands of other tools, as lines about wrong words say.
use Rattle.std.specs.Prelude.{ℕ, ◌||◌, ◌&&◌, ◌==◌, ◌∷◌, Bool, false, if◌then◌else◌, List, [], bytes_eq, codes, length, nat_lt}
use Rattle.std.specs.List.{before_first, list_any, position_or_len}
use Rattle.glob_text.specs.Pieces.{is_empty}
use Rattle.glob_text.specs.Text.{Text}
use Rattle.glob_console.specs.Words.{is_option}
use Rattle.globs.specs.Near.{near_command_words, near_help_words}
use Rattle.globs.specs.Spelling.{is_equals}
use Rattle.globs.specs.declared.name.Name.{Name}
use Rattle.globs.specs.declared.name.Name.TheVariants.{Find, Match, Ignore, Explain, Escape}

-- the word is one of these
abbrev pub is_one_of : (word : Text) → List Text → Bool
is_one_of word [] = false
is_one_of word (first ∷ words) = bytes_eq word first || is_one_of word words

-- what is before the first `=` of a word: the option, if a value is attached
abbrev pub option_part : (word : Text) → Text
option_part word =
    if nat_lt (position_or_len is_equals word) (length word) then before_first is_equals word else word

-- for `find`, instead of an option with a value in the same word, or else the nearest option
unfoldable pub joined_words : (word : Text) → Text
joined_words [] = near_help_words []
joined_words (dash ∷ []) = near_help_words (dash ∷ [])
joined_words (dash ∷ letter ∷ []) = near_help_words (dash ∷ letter ∷ [])
joined_words (dash ∷ letter ∷ first ∷ value) =
    if dash == 45 && (letter == 67 || (letter == 120 || letter == 110))
    then codes "; a value is the next word, or follows ="
    else (if dash == 45 && letter == 116
    then codes "; use -t f, -t d or -t l"
    else (if dash == 45 && letter == 106
    then codes "; leave it out, as it is not needed"
    else near_help_words (dash ∷ letter ∷ first ∷ value)))

-- for `find`, instead of an option that is a rare test of find(1)
unfoldable pub rare_test_words : (word : Text) → Text
rare_test_words word =
    if is_one_of word (codes "-cmin" ∷ codes "-amin" ∷ codes "-anewer" ∷ codes "-cnewer" ∷
    codes "-uid" ∷ codes "-gid" ∷ codes "-nouser" ∷ codes "-nogroup" ∷ [])
    then codes "; find has it: globs find -0 PATTERN | find -files0-from - -maxdepth 0 TEST"
    else (if is_one_of word (codes "-lname" ∷ codes "-ilname" ∷ codes "-fstype" ∷ codes "-used" ∷
    codes "-context" ∷ [])
    then codes "; find has it: globs find -0 PATTERN | find -files0-from - -maxdepth 0 TEST"
    else joined_words word)

-- for `find`, instead of an option that is a test of find(1)
unfoldable pub find_test_words : (word : Text) → Text
find_test_words word =
    if is_one_of word (codes "-size" ∷ codes "--size" ∷ codes "-S" ∷ codes "-mtime" ∷
    codes "-newer" ∷ codes "--changed-within" ∷ codes "-empty" ∷ codes "-perm" ∷ [])
    then codes "; find has it: globs find -0 PATTERN | find -files0-from - -maxdepth 0 TEST"
    else (if is_one_of word (codes "-user" ∷ codes "-xdev" ∷ codes "-xtype" ∷
    codes "--changed-before" ∷ codes "-mmin" ∷ codes "-ctime" ∷ codes "-atime" ∷ [])
    then codes "; find has it: globs find -0 PATTERN | find -files0-from - -maxdepth 0 TEST"
    else (if is_one_of word (codes "-executable" ∷ codes "-readable" ∷ codes "-writable" ∷
    codes "-group" ∷ codes "--owner" ∷ codes "-links" ∷ codes "-inum" ∷ [])
    then codes "; find has it: globs find -0 PATTERN | find -files0-from - -maxdepth 0 TEST"
    else (if is_one_of word (codes "-samefile" ∷ codes "--newer" ∷ codes "-newermt" ∷
    codes "-mount" ∷ codes "--one-file-system" ∷ codes "--max-filesize" ∷ [])
    then codes "; find has it: globs find -0 PATTERN | find -files0-from - -maxdepth 0 TEST"
    else rare_test_words word)))

-- for `find`, instead of an option of a habit: to read a list of paths, to search contents, or to run a program
unfoldable pub find_habit_words : (word : Text) → Text
find_habit_words word =
    if is_one_of word (codes "-" ∷ codes "-files0-from" ∷ codes "--stdin" ∷ codes "--files0-from" ∷
    codes "--files-from" ∷ [])
    then codes "; find reads no list of paths: globs match and globs ignore do"
    else (if is_one_of word (codes "-w" ∷ codes "--word-regexp" ∷ codes "--files-with-matches" ∷
    codes "--line-number" ∷ codes "-c" ∷ [])
    then codes "; find looks at names, not into files: use -0, and pipe the paths to xargs -0 grep"
    else (if bytes_eq word (codes "-x")
    then codes "; -x RULE runs nothing: to run a program use -0 and xargs -0"
    else (if is_one_of word (codes "--unrestricted" ∷ codes "--no-ignore-parent" ∷
    codes "--no-ignore-global" ∷ codes "--no-hidden" ∷ [])
    then codes "; nothing is hidden or ignored by default"
    else (if is_one_of word (codes "-noleaf" ∷ codes "-warn" ∷ codes "-nowarn" ∷ codes "-daystart" ∷
    codes "-xautofs" ∷ codes "--no-messages" ∷ codes "--show-errors" ∷ codes "--hyperlink" ∷ [])
    then codes "; leave it out, as it is not needed"
    else find_test_words word))))

-- for `find`, instead of an option that is not needed, or that git has
unfoldable pub find_needless_words : (word : Text) → Text
find_needless_words word =
    if is_one_of word (codes "-print" ∷ codes "-P" ∷ codes "-j" ∷ codes "--threads" ∷
    codes "--color" ∷ codes "--sort" ∷ codes "--colour" ∷ codes "--name-only" ∷ [])
    then codes "; leave it out, as it is not needed"
    else (if is_one_of word (codes "--strip-cwd-prefix" ∷ codes "--no-heading" ∷ codes "--stats" ∷
    codes "--relative" ∷ codes "--dry-run" ∷ codes "--verbose" ∷ codes "--no-follow" ∷
    codes "--sort-files" ∷ [])
    then codes "; leave it out, as it is not needed"
    else (if is_one_of word (codes "-r" ∷ codes "-R" ∷ codes "--recursive" ∷ codes "-Recurse" ∷ [])
    then codes "; a pattern that begins with **/ searches below: '**/*.rs'"
    else (if is_one_of word (codes "--absolute-path" ∷ codes "--absolute" ∷ [])
    then codes "; a pattern that begins with / gives such paths: \"$PWD/**/*.rs\""
    else (if is_one_of word (codes "--modified" ∷ codes "--untracked" ∷ codes "--ignored" ∷
    codes "--stage" ∷ codes "--deleted" ∷ codes "-m" ∷ [])
    then codes "; pipe the paths of git ls-files to globs match -s"
    else (if is_one_of word (codes "-V" ∷ codes "--version" ∷ [])
    then codes "; use globs --version"
    else find_habit_words word)))))

-- for `find`, instead of an option about what is done with the paths
unfoldable pub find_output_words : (word : Text) → Text
find_output_words word =
    if is_one_of word (codes "-print0" ∷ codes "--print0" ∷ codes "-z" ∷ codes "--null" ∷
    codes "--zero" ∷ [])
    then codes "; use -0"
    else (if is_one_of word (codes "-exec" ∷ codes "-execdir" ∷ codes "-ok" ∷ codes "-okdir" ∷
    codes "--exec" ∷ codes "--exec-batch" ∷ [])
    then codes "; use -0, and pipe the paths to xargs -0"
    else (if is_one_of word (codes "-delete" ∷ codes "--delete" ∷ [])
    then codes "; use -0, and pipe the paths to xargs -0r rm --"
    else (if is_one_of word (codes "-l" ∷ codes "-ls" ∷ codes "--list-details" ∷ codes "-la" ∷
    codes "-al" ∷ codes "-lh" ∷ codes "-lt" ∷ codes "--long" ∷ [])
    then codes "; use -0, and pipe the paths to xargs -0r ls -ld --"
    else (if is_one_of word (codes "-printf" ∷ codes "--format" ∷ [])
    then codes "; use -0, and pipe the paths to xargs -0r stat -c FORMAT --"
    else (if is_one_of word (codes "-1" ∷ codes "-quit" ∷ codes "--max-results" ∷ codes "--limit" ∷
    codes "--head" ∷ codes "--max-count" ∷ [])
    then codes "; pipe the paths to head"
    else (if bytes_eq word (codes "--count")
    then codes "; pipe the paths to wc -l"
    else (if is_one_of word (codes "-depth" ∷ codes "--sortr" ∷ codes "--reverse" ∷ [])
    then codes "; pipe the paths to sort -r"
    else (if is_one_of word (codes "-q" ∷ codes "--quiet" ∷ [])
    then codes "; redirect the output to /dev/null"
    else (if is_one_of word (codes "-fprint" ∷ codes "-fls" ∷ codes "--output" ∷ [])
    then codes "; redirect the output to a file: >FILE"
    else (if is_one_of word (codes "-o" ∷ codes "-or" ∷ [])
    then codes "; give several patterns"
    else find_needless_words word))))))))))

-- for `find`, instead of an option about what is left out, or where to search
unfoldable pub find_rule_words : (word : Text) → Text
find_rule_words word =
    if is_one_of word (codes "-not" ∷ codes "--not" ∷ codes "-prune" ∷ codes "-E" ∷ codes "--exclude" ∷
    codes "-T" ∷ codes "--type-not" ∷ [])
    then codes "; use -x RULE"
    else (if is_one_of word (codes "--prune" ∷ codes "-v" ∷ codes "--invert" ∷
    codes "--invert-match" ∷ codes "-Exclude" ∷ [])
    then codes "; use -x RULE"
    else (if is_one_of word (codes "-H" ∷ codes "--hidden" ∷ codes "-u" ∷ codes "-uu" ∷
    codes "-uuu" ∷ codes "-I" ∷ codes "-HI" ∷ codes "-a" ∷ [])
    then codes "; nothing is hidden or ignored by default"
    else (if is_one_of word (codes "-A" ∷ codes "--all" ∷ codes "--no-ignore" ∷ codes "--no-git" ∷
    codes "-Force" ∷ codes "-Hidden" ∷ codes "--no-ignore-vcs" ∷ [])
    then codes "; nothing is hidden or ignored by default"
    else (if is_one_of word (codes "--ignore-file" ∷ codes "--exclude-from" ∷ [])
    then codes "; use --ignore FILE"
    else (if bytes_eq word (codes "-X")
    then codes "; use --ignore FILE, or to run a program -0 and xargs -0"
    else (if bytes_eq word (codes "--exclude-per-directory")
    then codes "; use --ignore-files NAME"
    else (if is_one_of word (codes "--exclude-standard" ∷ codes "--gitignore" ∷ codes "-git" ∷
    codes "--others" ∷ codes "--cached" ∷ codes "-co" ∷ [])
    then codes "; use --git"
    else (if is_one_of word (codes "-follow" ∷ codes "--follow" ∷ codes "--dereference" ∷ [])
    then codes "; use -L"
    else (if is_one_of word (codes "--base-directory" ∷ codes "--search-path" ∷ codes "--" ∷
    codes "--root" ∷ codes "--cwd" ∷ codes "--path" ∷ codes "-Path" ∷ codes "--dir" ∷ [])
    then codes "; use -C DIR to search DIR"
    else (if bytes_eq word (codes "--files")
    then codes "; use -t f '**'"
    else find_output_words word))))))))))

-- for `find`, instead of an option that says which names or kinds are wanted
unfoldable pub find_pattern_words : (word : Text) → Text
find_pattern_words word =
    if is_one_of word (codes "-type" ∷ codes "--type" ∷ codes "-tf" ∷ codes "-td" ∷
    codes "-tl" ∷ [])
    then codes "; use -t f, -t d or -t l"
    else (if is_one_of word (codes "-File" ∷ codes "-Directory" ∷ codes "--dirs" ∷
    codes "--only-dirs" ∷ codes "--only-files" ∷ [])
    then codes "; use -t f, -t d or -t l"
    else (if is_one_of word (codes "-maxdepth" ∷ codes "--maxdepth" ∷ codes "-max-depth" ∷
    codes "--depth" ∷ codes "-Depth" ∷ codes "--level" ∷ [])
    then codes "; use --max-depth N"
    else (if is_one_of word (codes "-mindepth" ∷ codes "--mindepth" ∷ codes "--min-depth" ∷
    codes "--exact-depth" ∷ [])
    then codes "; a pattern says how deep: '*/*/**'"
    else (if is_one_of word (codes "-name" ∷ codes "-path" ∷ codes "-wholename" ∷ codes "-g" ∷
    codes "--glob" ∷ codes "-e" ∷ codes "--extension" ∷ [])
    then codes "; use a pattern: '**/*.rs'"
    else (if is_one_of word (codes "--ext" ∷ codes "--include" ∷ codes "--name" ∷
    codes "--pattern" ∷ codes "-Filter" ∷ codes "-Include" ∷ [])
    then codes "; use a pattern: '**/*.rs'"
    else (if is_one_of word (codes "-iname" ∷ codes "-ipath" ∷ codes "--iglob" ∷ [])
    then codes "; use -i and a pattern: -i '**/*.rs'"
    else (if is_one_of word (codes "-regex" ∷ codes "-iregex" ∷ codes "--regex" ∷
    codes "-regextype" ∷ [])
    then codes "; a pattern is not a regular expression: '**/*.rs'"
    else (if is_one_of word (codes "--ignore-case" ∷ codes "--nocase" ∷
    codes "--case-insensitive" ∷ codes "--smart-case" ∷ [])
    then codes "; use -i"
    else (if is_one_of word (codes "-s" ∷ codes "--case-sensitive" ∷ [])
    then codes "; leave it out: without -i case counts"
    else (if is_one_of word (codes "-F" ∷ codes "--fixed-strings" ∷ [])
    then codes "; globs escape writes a pattern for a name"
    else (if is_one_of word (codes "-p" ∷ codes "--full-path" ∷ [])
    then codes "; leave it out: a pattern matches a whole path"
    else find_rule_words word)))))))))))

-- for `match`, instead of an option about what is done with the lines
unfoldable pub match_line_words : (word : Text) → Text
match_line_words word =
    if is_one_of word (codes "-w" ∷ codes "--word-regexp" ∷ codes "-o" ∷
    codes "--only-matching" ∷ [])
    then codes "; a pattern matches a whole line: '*a*' if the line contains a"
    else (if is_one_of word (codes "-c" ∷ codes "--count" ∷ [])
    then codes "; pipe the lines to wc -l"
    else (if is_one_of word (codes "-m" ∷ codes "--max-count" ∷ codes "-m1" ∷ [])
    then codes "; pipe the lines to head"
    else (if is_one_of word (codes "-n" ∷ codes "--line-number" ∷ [])
    then codes "; number the lines first, as in cat -n FILE | globs match '*.rs'"
    else (if is_one_of word (codes "-q" ∷ codes "--quiet" ∷ [])
    then codes "; redirect the output to /dev/null"
    else (if is_one_of word (codes "-f" ∷ codes "--file" ∷ [])
    then codes "; give the patterns as words"
    else (if is_one_of word (codes "-H" ∷ codes "--color" ∷ codes "--colour" ∷
    codes "--line-buffered" ∷ [])
    then codes "; leave it out, as it is not needed"
    else (if is_one_of word (codes "-g" ∷ codes "--glob" ∷ codes "--include" ∷ codes "--exclude" ∷
    codes "--exclude-dir" ∷ codes "-t" ∷ codes "--type" ∷ [])
    then codes "; globs find searches directories"
    else (if is_one_of word (codes "-A" ∷ codes "-B" ∷ codes "-C" ∷ codes "--context" ∷ [])
    then codes "; leave it out: only the lines that match are copied"
    else []))))))))

-- for `match`
unfoldable pub match_words : (word : Text) → Text
match_words word =
    if is_one_of word (codes "-z" ∷ codes "--null" ∷ codes "--null-data" ∷ [])
    then codes "; use -0"
    else (if is_one_of word (codes "--invert-match" ∷ codes "--not" ∷ codes "-not" ∷ [])
    then codes "; use -v"
    else (if is_one_of word (codes "--ignore-case" ∷ codes "--smart-case" ∷ codes "-S" ∷ [])
    then codes "; use -i"
    else (if is_one_of word (codes "-e" ∷ codes "--regexp" ∷ [])
    then codes "; give several patterns"
    else (if is_one_of word (codes "-E" ∷ codes "-P" ∷ codes "-G" ∷ [])
    then codes "; a pattern is not a regular expression"
    else (if is_one_of word (codes "-F" ∷ codes "--fixed-strings" ∷ [])
    then codes "; globs escape writes a pattern for a text"
    else (if is_one_of word (codes "-r" ∷ codes "-R" ∷ codes "--recursive" ∷ [])
    then codes "; globs find searches directories"
    else (if bytes_eq word (codes "-")
    then codes "; lines are always read from standard input"
    else (if is_one_of word (codes "-V" ∷ codes "--version" ∷ [])
    then codes "; use globs --version"
    else (if is_one_of word (codes "-x" ∷ codes "--line-regexp" ∷ [])
    then codes "; leave it out: a pattern matches a whole line"
    else match_line_words word)))))))))

-- for `ignore`, instead of an option that names files of rules, or about the paths
unfoldable pub ignore_file_words : (word : Text) → Text
ignore_file_words word =
    if is_one_of word (codes "--ignore" ∷ codes "--ignore-file" ∷ codes "--ignore-files" ∷
    codes "--exclude-from" ∷ codes "-X" ∷ codes "-f" ∷ [])
    then codes "; give the FILE as a word"
    else (if is_one_of word (codes "--exclude-standard" ∷ codes "--gitignore" ∷ codes "-git" ∷ [])
    then codes "; use --git"
    else (if is_one_of word (codes "-n" ∷ codes "--non-matching" ∷ [])
    then codes "; without -v the paths that no rule ignores are written"
    else (if is_one_of word (codes "-C" ∷ codes "--directory" ∷ [])
    then codes "; go there first: (cd DIR && git ls-files | globs ignore .gitignore)"
    else [])))

-- for `ignore`
unfoldable pub ignore_words : (word : Text) → Text
ignore_words word =
    if is_one_of word (codes "-z" ∷ codes "--null" ∷ [])
    then codes "; use -0"
    else (if is_one_of word (codes "--stdin" ∷ codes "-" ∷ [])
    then codes "; paths are always read from standard input"
    else (if is_one_of word (codes "-x" ∷ codes "-e" ∷ codes "--exclude" ∷ [])
    then codes "; write the rule into a FILE"
    else (if is_one_of word (codes "-q" ∷ codes "--quiet" ∷ [])
    then codes "; redirect the output to /dev/null"
    else (if bytes_eq word (codes "--verbose")
    then codes "; use -v"
    else (if is_one_of word (codes "-i" ∷ codes "--ignore-case" ∷ [])
    then codes "; a rule lists both cases in brackets: *.[oO]"
    else (if bytes_eq word (codes "--no-index")
    then codes "; leave it out, as it is not needed"
    else ignore_file_words word))))))

-- what to write instead of any word where texts are taken that may begin with a hyphen
abbrev pub text_words : Text
text_words = codes "; write -- first if a text begins with -"

-- for `explain`
unfoldable pub explain_words : (word : Text) → Text
explain_words word =
    if is_one_of word (codes "--ignore-case" ∷ codes "--nocase" ∷ [])
    then codes "; use -i"
    else (if is_one_of word (codes "-v" ∷ codes "--verbose" ∷ [])
    then codes "; leave it out, as it is not needed"
    else (if is_one_of word (codes "--git" ∷ codes "-x" ∷ codes "--ignore" ∷ [])
    then codes "; globs ignore -v says which rule ignores a path"
    else text_words))

-- for `escape`
unfoldable pub escape_words : (word : Text) → Text
escape_words word =
    if is_one_of word (codes "-z" ∷ codes "--null" ∷ codes "--zero" ∷ [])
    then codes "; use -0"
    else (if is_one_of word (codes "-" ∷ codes "--stdin" ∷ [])
    then codes "; texts are words: for lines of input use xargs -d '\\n' globs escape --"
    else text_words)

-- the character is in patterns and paths, and in no command
abbrev pub is_of_path : ℕ → Bool
is_of_path c = c == 42 || (c == 46 || c == 47)

-- instead of an option, a pattern or a path in the place of a command
unfoldable pub first_words : (word : Text) → Text
first_words word =
    if is_option word then codes "; a command comes before its options"
    else (if list_any is_of_path word
    then codes "; use globs find"
    else codes "; the commands are find, match, ignore, explain and escape")

-- instead of a word in the place of a command that is nearly one, or an option, a pattern or a path
abbrev pub slip_words : (word : Text) → Text
slip_words word = if is_empty (near_command_words word) then first_words word else near_command_words word

-- instead of a word that somebody may guess to be a command
unfoldable pub guess_words : (word : Text) → Text
guess_words word =
    if is_one_of word (codes "glob" ∷ codes "locate" ∷ codes "walk" ∷ codes "tree" ∷
    codes "where" ∷ [])
    then codes "; use globs find"
    else (if bytes_eq word (codes "fnmatch")
    then codes "; use globs match"
    else (if bytes_eq word (codes "exclude")
    then codes "; use globs ignore"
    else (if is_one_of word (codes "why" ∷ codes "test" ∷ codes "check" ∷ codes "--explain" ∷ [])
    then codes "; use globs explain"
    else (if is_one_of word (codes "man" ∷ codes "usage" ∷ codes "-?" ∷ codes "/?" ∷ codes "-help" ∷ [])
    then codes "; use globs help"
    else slip_words word))))

-- instead of a word in the place of a command
unfoldable pub habit_words : (word : Text) → Text
habit_words word =
    if is_one_of word (codes "Find" ∷ codes "FIND" ∷ codes "--find" ∷ codes "finds" ∷
    codes "search" ∷ codes "ls" ∷ [])
    then codes "; use globs find"
    else (if is_one_of word (codes "ls-files" ∷ codes "list" ∷ codes "fd" ∷ codes "files" ∷
    codes "--files" ∷ codes "dir" ∷ [])
    then codes "; use globs find"
    else (if is_one_of word (codes "Match" ∷ codes "MATCH" ∷ codes "--match" ∷ codes "matches" ∷
    codes "filter" ∷ codes "grep" ∷ codes "rg" ∷ codes "findstr" ∷ [])
    then codes "; use globs match"
    else (if is_one_of word (codes "check-ignore" ∷ codes "ignores" ∷ codes "gitignore" ∷
    codes "--ignore" ∷ [])
    then codes "; use globs ignore"
    else (if is_one_of word (codes "quote" ∷ codes "--escape" ∷ [])
    then codes "; use globs escape"
    else (if is_one_of word (codes "-v" ∷ codes "-V" ∷ codes "version" ∷ [])
    then codes "; use globs --version"
    else guess_words word)))))

-- what to write instead of an option that the command does not have
abbrev pub foreign_words : Name → (word : Text) → Text
foreign_words Find word = find_pattern_words (option_part word)
foreign_words Match word = match_words (option_part word)
foreign_words Ignore word = ignore_words (option_part word)
foreign_words Explain word = explain_words (option_part word)
foreign_words Escape word = escape_words (option_part word)

-- all options of a command
abbrev pub option_list : Name → Text
option_list Find =
    codes "; the options are -0, -C, -d, -i, -L, -n, -t, -x, --directory, --git, --ignore, --ignore-files, --max-depth and --utf8-only"
option_list Match = codes "; the options are -0, -d, -i, -s and -v"
option_list Ignore = codes "; the options are -0, -v and --git"
option_list Explain = codes "; the options are -d, -i and -s"
option_list Escape = codes "; the only option is -0"

-- what to write instead of an option that the command does not have, if it is certain, or else the command's options
abbrev pub unknown_words : Name → (word : Text) → Text
unknown_words name word =
    if is_empty (foreign_words name word) then option_list name else foreign_words name word
