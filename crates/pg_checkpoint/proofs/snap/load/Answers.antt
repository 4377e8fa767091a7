use Rattle.std.proofs.Common.{rules, ◌≡◌, ℕ, Option, None, Some, MatchOption, subst}
use Rattle.pg_disk.specs.Told.{Told, given}
use Rattle.pg_checkpoint.specs.Heads.{slot_of}
use Rattle.pg_checkpoint.specs.Saves.{Loads}
use Rattle.pg_checkpoint.specs.declared.head.Entry.{Entry}
use Rattle.pg_checkpoint.proofs.snap.load.Goals as goal

pub returns-in-None-clause-loaded : goal.returns-in-None-clause-loaded
returns-in-None-clause-loaded g c = λ tells.
    let old : Told = g.D.Disk.told c.args.disk.now in
    let is : c.in_ok-found.found ≡ None = search rules in
    subst (λ (f : Option (ℕ × Entry)). MatchOption f (Loads old None) (λ f. Loads old (Some (slot_of f.1 (given old f.0))))) is (c.in_ok-found.ensures.found tells)
