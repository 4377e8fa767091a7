-- What the entries of a directory keep.
use Rattle.std.specs.Prelude.{◌≡◌}
use Rattle.std.specs.List.{All}
use Rattle.pg_entries.specs.declared.entries.Entries.TheInside.{Inside}
use Rattle.pg_entries.specs.Slots.{AreFit, AreNamed}

-- each entry stands at its own child, which has an id's numbers, and which the index lists at the
-- slot of its name where it stands, if its place is live
pub record IsIndexed (s : Inside) : Type 0 where
  pub own : All (λ e. e.0 ≡ e.1.child) s.entries.entries
  pub fit : AreFit s.entries.entries
  pub named : AreNamed s.entries.entries s.named
