-- A tree with one file.
use Rattle.std.specs.Prelude.{[], ◌∷◌, Option, Some, None}
use Rattle.glob.specs.Content.{Content, Key}
use Rattle.glob.specs.Text.{Text}
use Rattle.glob.specs.Types.{Look}
use Rattle.glob.specs.Variants.Kind.{Dir, Other}
use Rattle.glob.specs.Variants.Look as look

-- a root, which is the current directory, with a file of this name
abbrev pub one_file : (name : Text) → Content
one_file name = record {
  kinds = ([], Dir) ∷ (name ∷ [], Other) ∷ [];
  current = [];
}

-- the key at which a look has this result, if it found something
abbrev pub key_seen : (name : Text) → Look → Option Key
key_seen name look.Dir = Some []
key_seen name look.Other = Some (name ∷ [])
key_seen name look.Missing = None
