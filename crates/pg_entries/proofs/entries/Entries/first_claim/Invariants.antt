use Rattle.std.proofs.Common.{◌≡◌, None, drop}
use Rattle.std.specs.List.{fold}
use Rattle.pg_entries.specs.Slots.{take_listed}
use Rattle.pg_entries.proofs.entries.Entries.first_claim.Given as goal

abbrev pub invariant-loop-child : goal.invariant-loop-child
invariant-loop-child l =
    fold (take_listed l.self l.dir l.name) l.first (drop l.child-index l.child-items) ≡ fold (take_listed l.self l.dir l.name) None l.child-items
