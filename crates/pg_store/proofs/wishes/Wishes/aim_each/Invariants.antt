use Rattle.std.proofs.Common.{◌≡◌, drop}
use Rattle.pg_store.specs.Wishes.{aim_each}
use Rattle.pg_store.proofs.wishes.Wishes.aim_each.Given as goal

abbrev pub invariant-loop-file : goal.invariant-loop-file
invariant-loop-file l = aim_each l.self (drop l.file-index l.files) l.to ≡ aim_each l.fn.self l.files l.to
