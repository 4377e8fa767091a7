-- What the fields of the edges keep.
use Rattle.std.specs.Prelude.{ℕ, List}
use Rattle.pg_edges.specs.declared.edge.Edge.{Edge}
use Rattle.pg_edges.specs.declared.edges.Edges.TheInside.{Inside}
use Rattle.pg_edges.specs.Edges.{AscendFrom, AreCleanBelow, peers}

pub record AreSound (es : List Edge) (count : ℕ) : Type 0 where
  pub by_peer : AscendFrom 0 (peers es)
  pub clean : AreCleanBelow es count

abbrev pub AreKept : Inside → Type 0
AreKept a = AreSound a.edges.items a.clean
