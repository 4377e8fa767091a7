use Rattle.std.proofs.Common.{◌≡◌, ◌≢◌, ◌↔◌, rules, IsTrue, true, List, Option, Some, None, sym, ap, ◌∙◌, subst}
use Rattle.std.specs.declared.cmp.Ordering.{Ordering}
use Rattle.std.specs.List.Sorted.{IsStrictlySortedBy}
use Rattle.std.specs.Map.{lookup, set_value, keys_of}
use Rattle.std.specs.BTreeMap.{BTreeMap, is_at, insert_entry}
use Rattle.pg_base.specs.declared.id.FileId.{FileId}
use Rattle.pg_base.specs.Id.{Fits}
use Rattle.pg_base.proofs.Orders.{file_order_is}
use Rattle.pg_index.proofs.Members.{Order}
use Rattle.pg_entries.specs.declared.entry.Entry.{Entry}
use Rattle.pg_entries.specs.Entry.{entry_of, join_entry, joined_to, brings}
use Rattle.pg_entries.specs.Slots.{slot_in}
use Rattle.pg_entries.proofs.Indexing.{Kept, keeps_more, keeps_moved, keeps_new, keeps_set}
use Rattle.pg_entries.proofs.Joining.{joined_there, joined_new, set_changes, new_changes}
use Rattle.pg_entries.proofs.entries.Entries.join_cell.Goals as goal

pub invariant_of-self-in_err-changed-in-Some : goal.invariant_of-self-in_err-changed-in-Some
invariant_of-self-in_err-changed-in-Some c =
    let e = c.args.entry in
    let s = c.self.inside in
    let w = c.take.new.self in
    let next = c.slots_of_join-slots.result.next in
    let was : Kept s.entries.entries s.named = (c.self.invariant.own, c.self.invariant.fit, c.self.invariant.named) in
    let P : Order → Type 0 = (λ r. (c.get_mut.follows.lender w).entries ≡ set_value (is_at (r e.child)) s.entries.entries w) in
    let Q : Order → Type 0 = (λ r. lookup (is_at (r e.child)) s.entries.entries ≡ Some c.in-Some.held.now) in
    let there = subst Q file_order_is (sym c.in-Some.ensures.value) in
    let slot : next ≡ slot_in w.place = c.slots_of_join-slots.ensures.next ∙ ap (λ o. slot_in (joined_to o e).place) there ∙ ap slot_in (sym c.take.ensures.place) in
    let k =
    keeps_set s.entries.entries (c.get_mut.follows.lender w).entries s.named c.enter.new.named next e.child c.in-Some.held.now w was c.in_ok-enter.ensures.ok there c.take.ensures.child slot (subst P file_order_is (c.get_mut.follows.holds w).0) in
    record { own = k.0; fit = k.1; named = k.2 }

pub invariant_of-self-in-Some : goal.invariant_of-self-in-Some
invariant_of-self-in-Some c =
    let e = c.args.entry in
    let s = c.self.inside in
    let w = c.take.new.self in
    let next = c.slots_of_join-slots.result.next in
    let was : Kept s.entries.entries s.named = (c.self.invariant.own, c.self.invariant.fit, c.self.invariant.named) in
    let P : Order → Type 0 = (λ r. (c.get_mut.follows.lender w).entries ≡ set_value (is_at (r e.child)) s.entries.entries w) in
    let Q : Order → Type 0 = (λ r. lookup (is_at (r e.child)) s.entries.entries ≡ Some c.in-Some.held.now) in
    let there = subst Q file_order_is (sym c.in-Some.ensures.value) in
    let slot : next ≡ slot_in w.place = c.slots_of_join-slots.ensures.next ∙ ap (λ o. slot_in (joined_to o e).place) there ∙ ap slot_in (sym c.take.ensures.place) in
    let k =
    keeps_moved s.entries.entries (c.get_mut.follows.lender w).entries s.named c.enter.new.named c.leave.new.named c.slots_of_join-slots.result.held next e.child c.in-Some.held.now w was c.in_ok-enter.ensures.ok there c.take.ensures.child slot
    (subst P file_order_is (c.get_mut.follows.holds w).0) c.leave.ensures in
    record { own = k.0; fit = k.1; named = k.2 }

pub returns-in_ok-changed-in-Some-clause-joined : goal.returns-in_ok-changed-in-Some-clause-joined
returns-in_ok-changed-in-Some-clause-joined c =
    let w = c.take.new.self in
    let es = c.self.inside.entries.entries in
    let e = c.args.entry in
    let P : Order → Type 0 = (λ r. (c.get_mut.follows.lender w).entries ≡ set_value (is_at (r e.child)) es w) in
    let Q : Order → Type 0 = (λ r. lookup (is_at (r e.child)) es ≡ Some c.in-Some.held.now) in
    let S : Order → Type 0 = (λ r. IsStrictlySortedBy r (keys_of es)) in
    joined_there es _ e c.in-Some.held.now w (subst S file_order_is c.get_mut.ensures.ordered) (subst Q file_order_is (sym c.in-Some.ensures.value)) c.in_ok-changed-in-Some.ensures.joined (subst P file_order_is (c.get_mut.follows.holds w).0)
    ∙ ap (λ xs. join_entry xs e) c.self.view_is

pub returns-in_ok-changed-in-Some-clause-news : goal.returns-in_ok-changed-in-Some-clause-news
returns-in_ok-changed-in-Some-clause-news c =
    let e = c.args.entry in
    let Q : Order → Type 0 = (λ r. lookup (is_at (r e.child)) c.self.inside.entries.entries ≡ Some c.in-Some.held.now) in
    let there = subst Q file_order_is (sym c.in-Some.ensures.value) in
    c.in_ok-changed-in-Some.ensures.news ∙ sym (ap (λ (o : Option Entry). brings o e) there) ∙ ap (λ (xs : List (FileId × Entry)). brings (entry_of xs e.child) e) c.self.view_is

pub returns-in_ok-changed-in-Some-clause-changed : goal.returns-in_ok-changed-in-Some-clause-changed
returns-in_ok-changed-in-Some-clause-changed c =
    let w = c.take.new.self in
    let es = c.self.inside.entries.entries in
    let ns = (c.get_mut.follows.lender w).entries in
    let r = c.in_ok-changed-in-Some.changed in
    let P : List (FileId × Entry) → Type 0 = (λ xs. IsTrue r ↔ (ns ≢ xs)) in
    subst P c.self.view_is (set_changes _ c.in-Some.held.now w es ns r (sym c.in-Some.ensures.value) (c.get_mut.follows.holds w).0 c.in_ok-changed-in-Some.ensures.changed)

put_new : {K X : Type 0} (m n o : BTreeMap K X) (R : K → K → Ordering) (k : K) (v : X) → n ≡ m → o.entries ≡ insert_entry R n.entries k v → o.entries ≡ insert_entry R m.entries k v
put_new {K} {X} m n o R k v same put = put ∙ ap (λ (x : BTreeMap K X). insert_entry R x.entries k v) same

pub invariant_of-self-in_err-insert-in-None : goal.invariant_of-self-in_err-insert-in-None
invariant_of-self-in_err-insert-in-None c =
    let s = c.self.inside in
    let was : Kept s.entries.entries s.named = (c.self.invariant.own, c.self.invariant.fit, c.self.invariant.named) in
    let same = c.in_err-insert-in-None.ensures.err ∙ ap (λ (m : BTreeMap FileId Entry). m.entries) c.get_mut.follows.holds-at-none in
    let k = keeps_more s.entries.entries c.insert.new.self.entries s.named c.enter.new.named c.slots_of_join-slots.result.next c.args.entry.child was c.in_ok-enter.ensures.ok same in
    record { own = k.0; fit = k.1; named = k.2 }

pub invariant_of-self-in-None : goal.invariant_of-self-in-None
invariant_of-self-in-None c =
    let e = c.args.entry in
    let s = c.self.inside in
    let was : Kept s.entries.entries s.named = (c.self.invariant.own, c.self.invariant.fit, c.self.invariant.named) in
    let fits : Fits c.args.entry.child = record { server = search rules; number = search rules } in
    let R : Order → Type 0 = (λ r. c.insert.new.self.entries ≡ insert_entry r s.entries.entries e.child e) in
    let Q : Order → Type 0 = (λ r. ◌≡◌ {A = Option Entry} (lookup (is_at (r e.child)) s.entries.entries) None) in
    let none = subst Q file_order_is (sym c.in-None.ensures.value) in
    let slot = c.slots_of_join-slots.ensures.next ∙ ap (λ o. slot_in (joined_to o e).place) none in
    let k =
    keeps_new s.entries.entries c.insert.new.self.entries s.named c.enter.new.named c.slots_of_join-slots.result.next e was c.in_ok-enter.ensures.ok slot fits
    (subst R file_order_is (put_new s.entries _ c.insert.new.self _ e.child e c.get_mut.follows.holds-at-none c.in_ok-insert-in-None.ensures.entries)) in
    record { own = k.0; fit = k.1; named = k.2 }

pub returns-in_ok-insert-in-None-clause-joined : goal.returns-in_ok-insert-in-None-clause-joined
returns-in_ok-insert-in-None-clause-joined c =
    let e = c.args.entry in
    let es = c.self.inside.entries.entries in
    let R : Order → Type 0 = (λ r. c.insert.new.self.entries ≡ insert_entry r es e.child e) in
    let Q : Order → Type 0 = (λ r. ◌≡◌ {A = Option Entry} (lookup (is_at (r e.child)) es) None) in
    joined_new es _ e (subst Q file_order_is (sym c.in-None.ensures.value))
    (subst R file_order_is (put_new c.self.inside.entries _ c.insert.new.self _ e.child e c.get_mut.follows.holds-at-none c.in_ok-insert-in-None.ensures.entries))
    ∙ ap (λ xs. join_entry xs e) c.self.view_is

pub returns-in_ok-insert-in-None-clause-news : goal.returns-in_ok-insert-in-None-clause-news
returns-in_ok-insert-in-None-clause-news c =
    let e = c.args.entry in
    let es = c.self.inside.entries.entries in
    let Q : Order → Type 0 = (λ r. ◌≡◌ {A = Option Entry} (lookup (is_at (r e.child)) es) None) in
    let none = subst Q file_order_is (sym c.in-None.ensures.value) in
    sym (ap (λ (o : Option Entry). brings o e) none) ∙ ap (λ (xs : List (FileId × Entry)). brings (entry_of xs e.child) e) c.self.view_is

pub returns-in_ok-insert-in-None-clause-changed : goal.returns-in_ok-insert-in-None-clause-changed
returns-in_ok-insert-in-None-clause-changed c =
    let es = c.self.inside.entries.entries in
    let ns = c.insert.new.self.entries in
    let P : List (FileId × Entry) → Type 0 = (λ xs. IsTrue true ↔ (ns ≢ xs)) in
    subst P c.self.view_is (new_changes _ c.args.entry es ns (sym c.in-None.ensures.value) c.in_ok-insert-in-None.ensures.updates.1)
