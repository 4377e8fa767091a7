use Rattle.std.proofs.Common.{◌≡◌, Some, sym, ap, ◌∙◌, subst}
use Rattle.std.specs.Map.{lookup}
use Rattle.std.specs.BTreeMap.{is_at}
use Rattle.pg_base.proofs.Orders.{file_order_is}
use Rattle.pg_index.proofs.Members.{Order}
use Rattle.pg_entries.specs.Entry.{joined_to}
use Rattle.pg_entries.specs.Slots.{slot_at, slot_in}
use Rattle.pg_entries.proofs.named.slots_of_join.Goals as goal

pub returns-in-Some-clause-held : goal.returns-in-Some-clause-held
returns-in-Some-clause-held c =
    let Q : Order → Type 0 = (λ r. lookup (is_at (r c.args.entry.now.child)) c.args.entries.now.entries ≡ Some c.in-Some.held.now) in
    c.slots_behind.ensures.held ∙ sym (ap slot_at (subst Q file_order_is (sym c.in-Some.ensures.value)))

pub returns-in-Some-clause-next : goal.returns-in-Some-clause-next
returns-in-Some-clause-next c =
    let Q : Order → Type 0 = (λ r. lookup (is_at (r c.args.entry.now.child)) c.args.entries.now.entries ≡ Some c.in-Some.held.now) in
    c.slots_behind.ensures.next ∙ sym (ap (λ o. slot_in (joined_to o c.args.entry.now).place) (subst Q file_order_is (sym c.in-Some.ensures.value)))
