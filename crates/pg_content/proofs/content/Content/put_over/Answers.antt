use Rattle.std.proofs.Common.{IfSome, List, sym, subst}
use Rattle.pg_base.specs.Version.{VersionValue}
use Rattle.pg_content.specs.Content.{InStampOrder}
use Rattle.pg_content.specs.Index.{IsIndex}
use Rattle.pg_content.proofs.StampOrder.{InStampOrder-put}
use Rattle.pg_content.proofs.content.Content.put_over.Goals as goal

pub invariant_of-self-2 : goal.invariant_of-self-2
invariant_of-self-2 c =
    let P : List VersionValue → Type 0 = λ vs. IfSome c.index_of_many.result (λ i. IsIndex i vs) in
    record {
      order = subst InStampOrder (sym c.in_ok-put_version.ensures.ok) (InStampOrder-put c.args.v c.self.inside.heads.items c.self.invariant.order);
      index = subst P c.deref.ensures.value c.index_of_many.ensures;
    }
