-- How the errors of trees print.
use Rattle.std.specs.Prelude.{ℕ, List, Option, None, Some, codes}
use Rattle.glob_tree.specs.declared.refusal.TreeRefusal.{TreeRefusal}
use Rattle.glob_tree.specs.declared.refusal.TreeRefusal.TheVariants.{Improper, NoParent, Taken, NoDirectory, Memory}
use Rattle.glob_tree.specs.declared.tree.ListError.{ListError}
use Rattle.glob_tree.specs.declared.tree.ListError.TheVariants as list_error

abbrev pub tree_refusal_words : TreeRefusal → List ℕ
tree_refusal_words Improper = codes "improper path"
tree_refusal_words NoParent = codes "no parent directory"
tree_refusal_words Taken = codes "path already exists"
tree_refusal_words NoDirectory = codes "not a directory"
tree_refusal_words Memory = codes "out of memory"

-- the message of a listing's error; `None` for an I/O error, whose text is not promised
abbrev pub list_error_words : ListError → Option (List ℕ)
list_error_words (list_error.Read e) = None
list_error_words list_error.Memory = Some (codes "out of memory")
