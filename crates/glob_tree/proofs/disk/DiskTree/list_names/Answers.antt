use Rattle.std.specs.Prelude.{IfErr, IfOk}
use Rattle.glob_tree.specs.Answers.{IsListError, IsNamesAnswer, entries_of}
use Rattle.glob_tree.proofs.SystemLemmas.Answering.{of_content}
use Rattle.glob_tree.proofs.disk.DiskTree.list_names.Goals as goal

pub returns-clause-names : goal.returns-clause-names
returns-clause-names g c = λ x told.
    of_content c.args.self.now.files x told c.args.path.now (λ a. IfOk c.listing.result (λ v. IsNamesAnswer a
    (entries_of v.items))) c.listing.ensures.entries

pub returns-clause-fails : goal.returns-clause-fails
returns-clause-fails g c = λ x told.
    of_content c.args.self.now.files x told c.args.path.now (λ a. IfErr c.listing.result (λ e. IsListError a e)) c.listing.ensures.fails
