use Rattle.std.proofs.Common.{◌≡◌, false, drop}
use Rattle.pg_base.specs.declared.id.FileId.{FileId}
use Rattle.pg_store.specs.Seekers.{is_marked, is_touched}
use Rattle.pg_store.proofs.seekers.Seekers.mark_each.Given as goal

abbrev pub invariant-loop-it : goal.invariant-loop-it
invariant-loop-it l =
    ((q : FileId) → is_marked l.self q ≡ false → is_touched q (drop l.it-index l.touched) ≡ false
    → (is_touched q l.touched ≡ false) × (is_marked l.fn.self q ≡ false))
    × (l.self.walkers ≡ l.fn.self.walkers) × (l.self.whole ≡ false)
