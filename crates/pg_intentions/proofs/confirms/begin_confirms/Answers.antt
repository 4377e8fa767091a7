use Rattle.std.proofs.Common.{rules, ◌≡◌, ◌∙◌, ap, []}
use Rattle.std.specs.Map.{keys_of}
use Rattle.std.specs.Map.Iter.{deref}
use Rattle.std.proofs.lemmas.Map.Iter.{rest_more}
use Rattle.pg_intentions.specs.Intending.{add_slots, in_order}
use Rattle.pg_intentions.specs.Confirms.{begin_confirm, begin_confirms}
use Rattle.pg_graph.proofs.pg_pieces.Each.{begins, one_each}
use Rattle.pg_intentions.proofs.confirms.begin_confirms.Goals as goal

pub loop-slot-init : goal.loop-slot-init
loop-slot-init c =
    let s = c.args.store.now in
    let w = c.args.work.now in
    let same : c.in_ok-slots.slots.entries ≡ add_slots [] w.unsure = search rules in
    begins begin_confirm s w _ (in_order w.unsure) (c.into_iter-slot-iterator.ensures.into_iter_gives ∙ c.keys-slot-items.ensures.rest ∙ ap keys_of same)

pub loop-slot-preserved : goal.loop-slot-preserved
loop-slot-preserved c =
    one_each begin_confirm c.loop-slot.store _ c.loop-slot.work _ c.loop-slot.slot-iterator c.next.new.self c.in-Some.slot.now (begin_confirms c.args.store.now c.args.work.now)
    (rest_more deref c.loop-slot.slot-iterator c.next.new.self c.next.result c.in-Some.slot c.in-Some.is c.next.ensures.steps)
    c.in_ok-begin_confirm.ensures.store c.in_ok-begin_confirm.ensures.work c.loop-slot.invariant
