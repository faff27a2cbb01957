-- The entries so far are those of the UTF-8 names so far, and the other names were received.
use Rattle.std.proofs.Common.{◌≡◌, false, map, take}
use Rattle.std.specs.Prelude.{All}
use Rattle.std.specs.String.{string_bytes}
use Rattle.glob_tree.specs.Answers.{entries_of, names_of}
use Rattle.glob_tree.specs.FileSystems.{FileSystem, IsHeld}
use Rattle.glob_tree.specs.Private.Listing.{AreSaid, is_dir_in, said_entries}
use Rattle.glob_tree.specs.Private.Looking.{AreDirect, IsSeen}
use Rattle.glob_tree.specs.Strays.{and_then, texts_of, strays_of}
use Rattle.glob_tree.specs.declared.reading.Kinds.TheVariants.{LookedUp, LeftOut}
use Rattle.glob_tree.proofs.reading.entries_named.Given as goal

abbrev pub invariant-loop-name : goal.invariant-loop-name
invariant-loop-name g l = record {
  path : string_bytes l.path ≡ string_bytes l.initial.path;
  files : g.R.Reader.files l.reader ≡ g.R.Reader.files l.initial.reader;
  links : g.R.Reader.links l.reader ≡ g.R.Reader.links l.initial.reader;
  receives : g.R.Reader.receives l.reader ≡ g.R.Reader.receives l.initial.reader;
  names : names_of (entries_of l.entries.items) ≡ texts_of (map (λ n. n.now) (take l.name-index l.names));
  strays : g.R.Reader.names l.reader ≡ and_then (g.R.Reader.names l.initial.reader) (strays_of (map (λ n. n.now)
      (take l.name-index l.names)));
  kinds : (f : FileSystem) → IsSeen (g.R.Reader.links l.initial.reader) (g.R.Reader.files l.initial.reader) f
      → AreDirect f (string_bytes l.initial.path) → l.kinds ≡ LookedUp
      → entries_of l.entries.items ≡ said_entries (is_dir_in f.content (string_bytes l.initial.path))
      (texts_of (map (λ n. n.now) (take l.name-index l.names)));
  said : (f : FileSystem) → IsHeld (g.R.Reader.files l.initial.reader) f → AreDirect f (string_bytes l.initial.path)
      → l.kinds ≡ LookedUp
      → AreSaid (g.R.Reader.receives l.initial.reader) (g.R.Reader.links l.initial.reader) f (string_bytes l.initial.path)
      (entries_of l.entries.items) (g.R.Reader.paths l.initial.reader) (g.R.Reader.paths l.reader);
  unseen : l.kinds ≡ LeftOut → g.R.Reader.paths l.reader ≡ g.R.Reader.paths l.initial.reader;
  left_out : l.kinds ≡ LeftOut → All (λ e. e.1 ≡ false) (entries_of l.entries.items);
}
