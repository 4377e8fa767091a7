use Rattle.std.proofs.Common.{◌≡◌, rules, ap, ◌∙◌, subst}
use Rattle.std.specs.BTreeMap.{insert_entry}
use Rattle.pg_base.specs.Id.{Fits}
use Rattle.pg_base.proofs.Orders.{file_order_is}
use Rattle.pg_index.proofs.Members.{Order}
use Rattle.pg_entries.specs.Entry.{put_entry}
use Rattle.pg_entries.proofs.Indexing.{Kept, keeps_more, keeps_put}
use Rattle.pg_entries.proofs.entries.Entries.put.Goals as goal

pub invariant_of-self-in_err-insert : goal.invariant_of-self-in_err-insert
invariant_of-self-in_err-insert c =
    let s = c.self.inside in
    let was : Kept s.entries.entries s.named = (c.self.invariant.own, c.self.invariant.fit, c.self.invariant.named) in
    let k = keeps_more s.entries.entries c.insert.new.self.entries s.named c.enter.new.named c.slots_of_put-slots.result.next c.args.entry.child was c.in_ok-enter.ensures.ok c.in_err-insert.ensures.err in
    record { own = k.0; fit = k.1; named = k.2 }

pub invariant_of-self-2 : goal.invariant_of-self-2
invariant_of-self-2 c =
    let e = c.args.entry in
    let s = c.self.inside in
    let was : Kept s.entries.entries s.named = (c.self.invariant.own, c.self.invariant.fit, c.self.invariant.named) in
    let fits : Fits c.args.entry.child = record { server = search rules; number = search rules } in
    let R : Order → Type 0 = (λ r. c.insert.new.self.entries ≡ insert_entry r s.entries.entries e.child e) in
    let k =
    keeps_put s.entries.entries c.insert.new.self.entries s.named c.enter.new.named c.leave.new.named c.slots_of_put-slots.result.held c.slots_of_put-slots.result.next e was c.in_ok-enter.ensures.ok c.slots_of_put-slots.ensures.next fits
    (subst R file_order_is c.in_ok-insert.ensures.entries) c.leave.ensures in
    record { own = k.0; fit = k.1; named = k.2 }

pub returns-clause-ok : goal.returns-clause-ok
returns-clause-ok c =
    let e = c.args.entry in
    let es = c.self.inside.entries.entries in
    let R : Order → Type 0 = (λ r. c.insert.new.self.entries ≡ insert_entry r es e.child e) in
    subst R file_order_is c.in_ok-insert.ensures.entries ∙ ap (λ xs. put_entry xs e) c.self.view_is
