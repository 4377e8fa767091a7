use Rattle.std.proofs.Common.{◌≡◌, false, drop}
use Rattle.pg_base.specs.declared.id.FileId.{FileId}
use Rattle.pg_index.specs.Ids.{is_one_of}
use Rattle.pg_store.proofs.settling.set_of.Given as goal

abbrev pub invariant-loop-file : goal.invariant-loop-file
invariant-loop-file l =
    (q : FileId) → is_one_of q l.ids ≡ false → is_one_of q (drop l.file-index l.files) ≡ false
    → is_one_of q l.files ≡ false
