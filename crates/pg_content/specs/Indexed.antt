-- What holds of the fields of a content: its heads are in order, and the index is theirs.
use Rattle.std.specs.Prelude.{IfSome}
use Rattle.pg_content.specs.declared.content.Content.TheInside.{Inside}
use Rattle.pg_content.specs.Content.{InStampOrder}
use Rattle.pg_content.specs.Index.{IsIndex}

pub record IsIndexed (c : Inside) : Type 0 where
  pub order : InStampOrder c.heads.items
  pub index : IfSome c.index (λ i. IsIndex i c.heads.items)
