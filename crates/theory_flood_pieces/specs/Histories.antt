-- Contents whose heads are versions of one history.
use Rattle.std.specs.Prelude.{List}
use Rattle.pg_content.specs.Content.{ContentValue}
use Rattle.pg_content.specs.Covering.{AreVersionsOf}
use Rattle.pg_content.specs.History.{IsHistory, Made}
use Rattle.pg_content.specs.StandsFor.{InStrictOrder}

-- whole, in the order of their stamps, no two with one stamp
pub record IsOfHistory (h : List Made) (c : ContentValue) : Type 0 where
  pub history : IsHistory h
  pub order : InStrictOrder c.heads
  pub versions : AreVersionsOf c.policy h c.heads
