-- Slots: their order is total and exact, and the derived one is that of the definition.
use Rattle.std.proofs.Common.{◌≡◌, refl, ap}
use Rattle.std.specs.Ordering.{ordering_then}
use Rattle.std.specs.Cmp.{IsTotalOrder, on_total, then_total}
use Rattle.std.proofs.lemmas.Map.Lookups.{exact_pairs, CmpEqualImpliesEq}
use mathlib.Core.Path.{fun_ext}
use Rattle.pg_base.specs.declared.id.FileId.{FileId}
use Rattle.pg_base.specs.Id.{file_cmp}
use Rattle.pg_base.proofs.Orders.{file_exact, file_order_is, file_total}
use Rattle.pg_msg.specs.Work.{slot_cmp}
use Rattle.pg_msg.specs.declared.work.Slot.{Slot}
use Rattle.pg_msg.specs.contracts.work.SlotOrd.TheImpl as derived

order_of : (a b : Slot) → (derived.cmp-value).it a b ≡ slot_cmp a b
order_of a b = ap (λ r. ordering_then (r a.dir b.dir) (r a.child b.child)) file_order_is

-- the derived order of slots is the one of the definition
pub slot_order_is : (derived.cmp-value).it ≡ slot_cmp
slot_order_is = fun_ext (λ (a : Slot). fun_ext (λ (b : Slot). order_of a b))

pub slot_total : IsTotalOrder slot_cmp
slot_total = then_total (on_total (λ (s : Slot). s.dir) file_total) (on_total (λ (s : Slot). s.child) file_total)

pub slot_of_parts : (d e c f : FileId) → d ≡ e → c ≡ f → ◌≡◌ {A = Slot} (record { dir = d; child = c }) (record { dir = e; child = f })
slot_of_parts d e c f p q = cc

-- slots that compare alike are one
pub slot_exact : CmpEqualImpliesEq slot_cmp
slot_exact a b h =
    let e = exact_pairs file_cmp file_cmp file_exact file_exact (a.dir, a.child) (b.dir, b.child) h in
    slot_of_parts a.dir b.dir a.child b.child (ap (λ (p : FileId × FileId). p.0) e) (ap (λ (p : FileId × FileId). p.1) e)
