use Rattle.std.proofs.Common.{rules, ◌≡◌, length}
use Rattle.std.specs.String.{string_bytes}
use Rattle.glob_tree.proofs.DiskLemmas.{split_at_seam}
use Rattle.glob_tree.proofs.reading.is_dir_in.Goals as goal

pub truncate-requires : goal.truncate-requires
truncate-requires g c within =
    let at : c.len-length.result ≡ length (string_bytes c.args.path.now) = search rules in
    split_at_seam _ _ _ _ c.in_ok-push_str.ensures.bytes at c.utf8.name
