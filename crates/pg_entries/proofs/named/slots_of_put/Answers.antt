use Rattle.std.proofs.Common.{◌≡◌, Some, sym, ap, ◌∙◌, subst}
use Rattle.std.specs.Map.{lookup}
use Rattle.std.specs.BTreeMap.{is_at}
use Rattle.pg_base.proofs.Orders.{file_order_is}
use Rattle.pg_index.proofs.Members.{Order}
use Rattle.pg_entries.specs.Slots.{slot_at}
use Rattle.pg_entries.proofs.named.slots_of_put.Goals as goal

pub returns-in-Some-clause-held : goal.returns-in-Some-clause-held
returns-in-Some-clause-held c =
    let Q : Order → Type 0 = (λ r. lookup (is_at (r c.args.entry.now.child)) c.args.entries.now.entries ≡ Some c.in-Some.held.now) in
    c.slot_in.ensures ∙ sym (ap slot_at (subst Q file_order_is (sym c.in-Some.ensures.value)))
