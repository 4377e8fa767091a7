use Rattle.std.proofs.Common.{Option, Some, None, MatchOption, subst}
use Rattle.pg_checkpoint.specs.Saves.{Loads}
use Rattle.pg_checkpoint.specs.declared.snap.Saved.{Saved}
use Rattle.pg_saving.proofs.loading.load_state.Goals as goal

pub returns-in_ok-usable-in-Some-clause-loaded : goal.returns-in_ok-usable-in-Some-clause-loaded
returns-in_ok-usable-in-Some-clause-loaded g c = λ tells. (
  Some (record { number = c.in-Some.saved.number; folded = c.in-Some.saved.folded; state = c.in-Some.saved.bytes }),
  subst (λ (found : Option Saved). MatchOption found (Loads (g.D.Disk.told c.args.disk.now) None)
      (λ (s : Saved). Loads (g.D.Disk.told c.args.disk.now) (Some (record { number = s.number; folded = s.folded; state = s.bytes }))))
      c.in-Some.is (c.in_ok-load.ensures.loaded tells),
  c.in_ok-usable-in-Some.ensures.is,
)
