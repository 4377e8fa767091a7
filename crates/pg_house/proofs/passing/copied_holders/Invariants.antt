use Rattle.std.proofs.Common.{◌≡◌, ◌||◌, drop}
use Rattle.pg_base.specs.declared.id.FileId.{FileId}
use Rattle.pg_index.specs.Ids.{is_one_of}
use Rattle.pg_names.specs.Calm.{holders}
use Rattle.pg_house.proofs.passing.copied_holders.Given as goal

-- what was put in, and what is still to come
abbrev pub invariant-loop-dir : goal.invariant-loop-dir
invariant-loop-dir l =
    (q : FileId) → (is_one_of q l.ids || is_one_of q (drop l.dir-index l.dir-items)) ≡ is_one_of q (holders l.names l.file)
