-- Why a walk could not read a path.
use Rattle.std.specs.Prelude.{◌≡◌, ⊤}
use Rattle.std.specs.declared.io.ErrorKind.{ErrorKind}
use Rattle.std.specs.declared.io.ErrorKind.TheVariants.{OutOfMemory, Other}
use Rattle.glob_walk.specs.declared.error.GlobCause.{GlobCause}
use Rattle.glob_walk.specs.declared.error.GlobCause.TheVariants.{Read, Memory, Limit}

-- The kind of I/O error for a cause; for a failed read, any kind.
abbrev pub HasKind : GlobCause → ErrorKind → Type 0
HasKind Read kind = ⊤
HasKind Memory kind = kind ≡ OutOfMemory
HasKind Limit kind = kind ≡ Other
