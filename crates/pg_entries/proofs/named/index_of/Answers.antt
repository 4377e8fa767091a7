use Rattle.std.proofs.Common.{Option, subst}
use Rattle.std.specs.Map.Iter.{deref_pair}
use Rattle.std.proofs.lemmas.Map.Iter.{rest_more}
use Rattle.pg_base.specs.declared.id.FileId.{FileId}
use Rattle.pg_entries.specs.declared.entry.Entry.{Entry}
use Rattle.pg_entries.proofs.Indexing.{Adds, names_on}
use Rattle.pg_entries.proofs.named.index_of.Goals as goal
use denote.Ref.{Bor}

pub loop-child-preserved : goal.loop-child-preserved
loop-child-preserved c =
    let x : FileId × Entry = (c.in-Some.child.now, c.in-Some.entry.now) in
    let r : Bor FileId × Bor Entry = (c.in-Some.child, c.in-Some.entry) in
    let P : Option FileId → Type 0 = (λ o. Adds o c.in-Some.child.now c.loop-child.named c.enter.new.named) in
    names_on c.args.entries.now.entries c.loop-child.named c.enter.new.named c.loop-child.child-iterator x c.next.new.self c.loop-child.invariant
    (rest_more deref_pair c.loop-child.child-iterator c.next.new.self c.next.result r c.in-Some.is c.next.ensures.steps)
    (subst P c.slot_in.ensures c.in_ok-enter.ensures.ok)
