-- The parts of a walk's error, and how it prints.
use Rattle.std.specs.Prelude.{ℕ, List, ◌++◌, Option, Some, None, codes, option_map}
use Rattle.std.specs.Path.{path_buf_bytes}
use Rattle.std.specs.declared.io.Error.{Error}
use Rattle.glob_pattern.specs.Words.{out_of_memory}
use Rattle.glob_walk.specs.declared.error.GlobError.{GlobError}
use Rattle.glob_walk.specs.declared.error.GlobCause.{GlobCause}
use Rattle.glob_walk.specs.declared.error.GlobCause.TheVariants.{Read, Memory, Limit}

-- the path, as its bytes
abbrev pub path_of : {A : Type 0} → GlobError A → List ℕ
path_of e = path_buf_bytes e.path

-- the I/O error
abbrev pub error_of : {A : Type 0} → GlobError A → Error
error_of e = e.error

-- the cause
abbrev pub cause_of : {A : Type 0} → GlobError A → GlobCause
cause_of e = e.cause

-- the text for a cause; nothing is promised for an I/O error
abbrev pub cause_words : GlobCause → Option (List ℕ)
cause_words Read = None
cause_words Memory = Some out_of_memory
cause_words Limit = Some (codes "walk limit reached")

abbrev pub glob_error_words : {A : Type 0} → GlobError A → Option (List ℕ)
glob_error_words e =
    option_map (λ tail. codes "attempting to read `" ++ path_of e ++ codes "` resulted in an error: " ++ tail)
    (cause_words (cause_of e))
