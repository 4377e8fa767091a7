use Rattle.std.proofs.Common.{◌≡◌, drop}
use Rattle.pg_intentions.specs.Inviting.{invite_each}
use Rattle.pg_intentions.proofs.inviting.invite_each.Given as goal

abbrev pub invariant-loop-file : goal.invariant-loop-file
invariant-loop-file l = invite_each l.store (drop l.file-index l.files) l.work ≡ invite_each l.store l.files l.initial.work
