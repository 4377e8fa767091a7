-- Keys of notes: their order is total and exact, and the derived one is that of the definition.
use Rattle.std.proofs.Common.{◌≡◌, ap, subst, Some, None, sym, ◌∙◌}
use Rattle.std.specs.Ordering.{ordering_then}
use Rattle.std.specs.declared.cmp.Ordering.{Ordering}
use Rattle.std.specs.BTreeMap.{is_at}
use Rattle.std.specs.Cmp.{IsTotalOrder, on_total, then_total}
use Rattle.std.specs.Map.{lookup, set_value}
use Rattle.std.proofs.lemmas.Map.Lookups.{CmpEqualImpliesEq, exact_pairs}
use mathlib.Core.Path.{fun_ext}
use Rattle.pg_base.specs.declared.id.FileId.{FileId}
use Rattle.pg_base.specs.declared.stamp.Stamp.{Stamp}
use Rattle.pg_base.specs.Id.{file_cmp}
use Rattle.pg_base.specs.Stamp.{stamp_cmp}
use Rattle.pg_base.proofs.Orders.{file_exact, file_order_is, file_total, stamp_exact, stamp_total}
use Rattle.pg_announced.specs.Announced.{NotesValue, change_note, changed, key_cmp}
use Rattle.pg_announced.specs.declared.announced.Announced.{Announced}
use Rattle.pg_announced.specs.declared.announced.NoteKey.{NoteKey}
use Rattle.pg_announced.specs.contracts.announced.NoteKeyOrd.TheImpl as derived

order_of : (a b : NoteKey) → (derived.cmp-value).it a b ≡ key_cmp a b
order_of a b = ap (λ r. ordering_then (r a.file b.file) (stamp_cmp a.stamp b.stamp)) file_order_is

pub key_order_is : (derived.cmp-value).it ≡ key_cmp
key_order_is = fun_ext (λ (a : NoteKey). fun_ext (λ (b : NoteKey). order_of a b))

pub key_total : IsTotalOrder key_cmp
key_total = then_total (on_total (λ (k : NoteKey). k.file) file_total) (on_total (λ (k : NoteKey). k.stamp) stamp_total)

key_of_parts : (f g : FileId) (s t : Stamp) → f ≡ g → s ≡ t
    → ◌≡◌ {A = NoteKey} (record { file = f; stamp = s }) (record { file = g; stamp = t })
key_of_parts f g s t p q = cc

pub key_exact : CmpEqualImpliesEq key_cmp
key_exact a b h =
    let e = exact_pairs file_cmp stamp_cmp file_exact stamp_exact (a.file, a.stamp) (b.file, b.stamp) h in
    key_of_parts a.file b.file a.stamp b.stamp (ap (λ (p : FileId × Stamp). p.0) e) (ap (λ (p : FileId × Stamp). p.1) e)

-- a change of what was found is a change
pub changed_there : (f : Announced → Announced) (R : NoteKey → NoteKey → Ordering) → R ≡ key_cmp → (old new : NotesValue)
    (k : NoteKey) (n : Announced) → lookup (is_at (R k)) old ≡ Some n → new ≡ set_value (is_at (R k)) old (f n)
    → new ≡ change_note f old k
changed_there f R e old new k n found is =
    let P : (NoteKey → NoteKey → Ordering) → Type 0 =
    λ r. lookup (is_at (r k)) old ≡ Some n → new ≡ set_value (is_at (r k)) old (f n) → new ≡ change_note f old k in
    subst P (sym e) (λ there now. now ∙ ap (λ o. changed f old k o) (sym there)) found is

pub changed_none : (f : Announced → Announced) (R : NoteKey → NoteKey → Ordering) → R ≡ key_cmp → (old new : NotesValue)
    (k : NoteKey) → lookup (is_at (R k)) old ≡ None → new ≡ old → new ≡ change_note f old k
changed_none f R e old new k found is =
    let P : (NoteKey → NoteKey → Ordering) → Type 0 =
    λ r. lookup (is_at (r k)) old ≡ None → new ≡ change_note f old k in
    subst P (sym e) (λ there. is ∙ ap (λ o. changed f old k o) (sym there)) found

-- the same, where the new value is known by an equation
pub changed_by : (f : Announced → Announced) (R : NoteKey → NoteKey → Ordering) → R ≡ key_cmp → (old new : NotesValue)
    (k : NoteKey) (n w : Announced) → lookup (is_at (R k)) old ≡ Some n → new ≡ set_value (is_at (R k)) old w → w ≡ f n
    → new ≡ change_note f old k
changed_by f R e old new k n w found is same =
    changed_there f R e old new k n found (is ∙ ap (λ z. set_value (is_at (R k)) old z) same)
