use Rattle.std.proofs.Common.{IfSome, List, Option, ap, sym, subst, ◌∙◌}
use Rattle.pg_base.specs.Version.{VersionValue, stamp_of}
use Rattle.pg_content.specs.Shown.{inserted}
use Rattle.pg_content.specs.Content.{ContentValue, InStampOrder, covers_version}
use Rattle.pg_content.specs.Index.{IndexValue, IsIndex}
use Rattle.pg_content.proofs.StampOrder.{InStampOrder-inserted}
use Rattle.pg_content.proofs.Indexes.{none_kept, index_inserted}
use Rattle.pg_content.proofs.content.Content.put_beside.Goals as goal

pub index_or_new-requires : goal.index_or_new-requires
index_or_new-requires c =
    let P : Option IndexValue → Type 0 = λ o. IfSome o (λ i. IsIndex i c.self.inside.heads.items) in
    let Q : List VersionValue → Type 0 = λ vs. IfSome c.index_with-index.result (λ i. IsIndex i vs) in
    subst Q (sym (c.deref.ensures.value ∙ c.in_ok-insert_version.ensures.ok))
    (index_inserted c.take.result c.index_with-index.result c.args.v c.self.inside.heads.items c.index_with-index.ensures (subst P (sym c.take.ensures.value) c.self.invariant.index))

pub invariant_of-self-2 : goal.invariant_of-self-2
invariant_of-self-2 c =
    let P : List VersionValue → Type 0 = λ vs. IfSome c.index_or_new.result (λ i. IsIndex i vs) in
    record {
      order = subst InStampOrder (sym c.in_ok-insert_version.ensures.ok) (InStampOrder-inserted c.args.v c.self.inside.heads.items c.self.invariant.order);
      index = subst P c.deref.ensures.value c.index_or_new.ensures;
    }

pub returns-clause-put : goal.returns-clause-put
returns-clause-put c =
    let view = ap (λ (v : ContentValue). v.heads) c.self.view_is in
    let heads = c.in_ok-insert_version.ensures.ok ∙ ap (inserted stamp_of c.args.v) (view ∙ sym (none_kept (covers_version c.args.v.head.vector) c.args.self.now.heads c.requires)) in
    λ i. record { policy = (c.self.view_is i).policy; heads = heads i }
