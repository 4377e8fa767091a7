-- Dues: their order is total and exact, and the derived one is that of the definition.
use Rattle.std.proofs.Common.{◌≡◌, true, ap, ◌∙◌}
use Rattle.std.specs.declared.cmp.Ordering.{Ordering}
use Rattle.std.specs.Ordering.{ordering_then, is_eq}
use Rattle.std.specs.Cmp.{IsTotalOrder, on_total, then_total, tied_itself}
use Rattle.std.proofs.lemmas.Map.Lookups.{exact_pairs, CmpEqualImpliesEq}
use mathlib.Core.Path.{fun_ext}
use Rattle.pg_base.specs.declared.id.FileId.{FileId}
use Rattle.pg_base.specs.Id.{file_cmp}
use Rattle.pg_base.proofs.Orders.{file_exact, file_order_is, file_total, is_eq-true}
use Rattle.pg_edges.specs.declared.key.Key.{Key}
use Rattle.pg_edges.specs.Key.{key_cmp}
use Rattle.pg_edges.specs.contracts.key.KeyOrd.TheImpl as key
use Rattle.pg_edges.proofs.Orders.{key_exact, key_order_is, key_total}
use Rattle.pg_unacked.specs.declared.due.Due.{Due}
use Rattle.pg_unacked.specs.Due.{due_cmp, is_same_due}
use Rattle.pg_unacked.specs.contracts.due.DueOrd.TheImpl as derived

order_of : (a b : Due) → (derived.cmp-value).it a b ≡ due_cmp a b
order_of a b =
    ap (λ (r : FileId → FileId → Ordering). ordering_then (r a.file b.file) ((key.cmp-value).it a.key b.key)) file_order_is
    ∙ ap (λ (r : Key → Key → Ordering). ordering_then (file_cmp a.file b.file) (r a.key b.key)) key_order_is

-- the derived order of dues is the one of the definition
pub due_order_is : (derived.cmp-value).it ≡ due_cmp
due_order_is = fun_ext (λ (a : Due). fun_ext (λ (b : Due). order_of a b))

pub due_total : IsTotalOrder due_cmp
due_total = then_total (on_total (λ (d : Due). d.file) file_total) (on_total (λ (d : Due). d.key) key_total)

due_of_parts : (f g : FileId) (k l : Key) → f ≡ g → k ≡ l → ◌≡◌ {A = Due} (record { file = f; key = k }) (record { file = g; key = l })
due_of_parts f g k l h e = cc

-- dues that compare alike are one
pub due_exact : CmpEqualImpliesEq due_cmp
due_exact a b h =
    let e = exact_pairs file_cmp key_cmp file_exact key_exact (a.file, a.key) (b.file, b.key) h in
    due_of_parts a.file b.file a.key b.key (ap (λ (p : FileId × Key). p.0) e) (ap (λ (p : FileId × Key). p.1) e)

pub is_same_due-true : (a b : Due) → is_same_due a b ≡ true → a ≡ b
is_same_due-true a b h = due_exact a b (is_eq-true (due_cmp a b) h)

-- and a due compares alike to itself
pub is_same_due-refl : (a : Due) → is_same_due a a ≡ true
is_same_due-refl a = ap is_eq (tied_itself due_total a)
