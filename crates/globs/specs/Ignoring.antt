-- The rules of ignore files and of single options.
use Rattle.std.specs.Prelude.{◌≡◌, ◌≢◌, ◌⊎◌, List, [], ◌∷◌, ◌++◌, Option, None, Some, ⊤, map, string_bytes, encode_utf8}
use Rattle.std.specs.IoError.{error_kind}
use Rattle.std.specs.declared.io.Error.{Error}
use Rattle.std.specs.declared.io.ErrorKind.TheVariants.{OutOfMemory, InvalidData}
use Rattle.glob_lines.specs.Lines.{line_feed, with_ends}
use Rattle.glob_rules.specs.Lists.{AreTaken, Ignores, rules_of}
use Rattle.glob_text.specs.Text.{Text}
use Rattle.globs.specs.declared.ignoring.RulesFault.{RulesFault}
use Rattle.globs.specs.declared.ignoring.RulesFault.TheVariants.{NoText, Unread, Refused, Rule, Memory}
use Rattle.globs.specs.declared.ignoring.Source.{Source}

-- the byte order mark
abbrev pub mark : Text
mark = encode_utf8 65279

-- the other text is the text without a byte order mark at its start
abbrev pub IsUnmarked : (text other : Text) → Type 0
IsUnmarked text other = (text ≡ mark ++ other) ⊎ (((rest : Text) → text ≢ mark ++ rest) × (other ≡ text))

-- the texts of some sources
abbrev pub texts_of : {A : Type 0} → List (Source A) → List Text
texts_of sources = map (λ s. string_bytes s.text) sources

-- the text of a file, if it is known, without a byte order mark; any text if it is not known
abbrev pub IsRead : (known : Option Text) → (text : Text) → Type 0
IsRead None text = (held : Text) × IsUnmarked held text
IsRead (Some held) text = IsUnmarked held text

-- the texts of the files with these names, without byte order marks
abbrev pub AreRead : (holds : Text → Option Text) → (names texts : List Text) → Type 0
AreRead holds [] [] = ⊤
AreRead holds [] (text ∷ texts) = ⊥
AreRead holds (name ∷ names) [] = ⊥
AreRead holds (name ∷ names) (text ∷ texts) = IsRead (holds name) text × AreRead holds names texts

-- the list has the rules of the files with these names and then the single rules, and all are accepted
unfoldable pub HasRules : (holds : Text → Option Text) → (names rules : List Text) → Ignores → Type 0
HasRules holds names rules list =
    (texts : List Text) × AreRead holds names texts × AreTaken (with_ends line_feed (texts ++ rules))
    × (list ≡ rules_of (with_ends line_feed (texts ++ rules)))

-- the fault for an error of reading the file: out of memory, a file that is not UTF-8, or the system's error
abbrev pub IsReadFault : (file : Text) → Error → RulesFault → Type 0
IsReadFault file error Memory = error_kind error ≡ OutOfMemory
IsReadFault file error (NoText name) = (error_kind error ≡ InvalidData) × (name.now ≡ file)
IsReadFault file error (Unread name e) =
    (error_kind error ≢ OutOfMemory) × (error_kind error ≢ InvalidData) × (name.now ≡ file) × (e ≡ error)
IsReadFault file error (Refused name line reason) = ⊥
IsReadFault file error (Rule text reason) = ⊥
