-- What an opened directory gives to read: bytes with its names, and then the end, or an error of some kind.
use Rattle.std.specs.Prelude.{◌≡◌, ◌≢◌, ℕ, Bool, ◌&&◌, not, ◌==◌, List, [], Option, Some, None, bytes_eq, ⊤}
use Rattle.std.specs.IoError.{error_kind}
use Rattle.std.specs.List.{filter, slice_split}
use Rattle.std.specs.Path.{parent_dir}
use Rattle.std.specs.declared.io.Error.{Error}
use Rattle.std.specs.declared.io.ErrorKind.{ErrorKind}
use Rattle.std.specs.declared.io.ErrorKind.TheVariants.{OutOfMemory}
use Rattle.glob_text.specs.Text.{Text}
use Rattle.glob_tree.specs.Paths.{nul, stays}
use Rattle.glob_tree.specs.declared.tree.ListError.{ListError}
use Rattle.glob_tree.specs.declared.tree.ListError.TheVariants.{Read, Memory}

-- the piece names an entry: it is not empty, `.` or `..`
abbrev pub is_listed : Text → Bool
is_listed piece = not (stays piece) && not (bytes_eq piece parent_dir)

-- the names of the entries, in order: each is followed by a NUL
unfoldable pub names_in : List ℕ → List Text
names_in bytes = filter is_listed (slice_split (λ b. b == nul) bytes)

-- nothing is left to read, and no error will come
abbrev pub HasEnded : (left : Option (List ℕ)) → (fault : Option ErrorKind) → Type 0
HasEnded None fault = ⊤
HasEnded (Some bytes) fault = (bytes ≡ []) × (fault ≡ None)

-- a read may fail with this error: memory ran out, or it is the error that comes after the last byte
abbrev pub ReadMayFail : (left : Option (List ℕ)) → (fault : Option ErrorKind) → Error → Type 0
ReadMayFail None fault e = ⊤
ReadMayFail (Some bytes) fault e = error_kind e ≢ OutOfMemory → (bytes ≡ []) × (fault ≡ Some (error_kind e))

-- reading a directory to its end may fail with this error
abbrev pub ReadToEndMayFail : (fault : Option ErrorKind) → ListError → Type 0
ReadToEndMayFail fault (Read e) = fault ≡ Some (error_kind e)
ReadToEndMayFail fault Memory = ⊤
