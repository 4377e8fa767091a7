-- The entries of a directory after an entry came.
use Rattle.std.proofs.Common.{◌≡◌, ◌≢◌, ◌↔◌, IsTrue, ◌⊎◌, inl, inr, Bool, true, false, cond, Option, None, Some, List, [], ◌∷◌, refl, sym, ap, ◌∙◌, Less, Equal, Greater}
use Rattle.std.specs.declared.cmp.Ordering.{Ordering}
use Rattle.std.specs.Ordering.{match_ordering, is_eq}
use Rattle.std.specs.List.{All}
use Rattle.std.specs.List.Sorted.{IsStrictlySortedBy}
use Rattle.std.specs.Map.{lookup, set_value, keys_of}
use Rattle.std.specs.BTreeMap.{is_at, insert_entry}
use Rattle.std.proofs.lemmas.Map.{lookup-none}
use Rattle.std.proofs.lemmas.Map.Steps.{set_value_same}
use Rattle.std.proofs.lemmas.Map.Keys.{sorted_tail}
use Rattle.std.proofs.lemmas.Map.Entries.{none_below_head}
use Rattle.std.proofs.lemmas.List.Elements.{All-nil, All-cons, All-head, All-tail}
use Rattle.pg_base.specs.declared.id.FileId.{FileId}
use Rattle.pg_base.specs.Id.{file_cmp}
use Rattle.pg_base.proofs.Orders.{file_total, is_same_file-true}
use Rattle.pg_entries.specs.declared.entry.Entry.{Entry}
use Rattle.pg_entries.specs.Entry.{joined, joined_to, entry_of, join_entry}

-- where a key stands, putting a value there sets it
set_by : (k : FileId) (v w : Entry) (e : FileId × Entry) (es : List (FileId × Entry)) (o : Ordering) → file_cmp k e.0 ≡ o → IsStrictlySortedBy file_cmp (keys_of (e ∷ es)) → lookup (is_at (file_cmp k)) (e ∷ es) ≡ Some v
    → (lookup (is_at (file_cmp k)) es ≡ Some v → insert_entry file_cmp es k w ≡ set_value (is_at (file_cmp k)) es w)
    → match_ordering o ((k, w) ∷ e ∷ es) ((e.0, w) ∷ es) (e ∷ insert_entry file_cmp es k w) ≡ cond (is_eq o) ((e.0, w) ∷ es) (e ∷ set_value (is_at (file_cmp k)) es w)
set_by k v w e es Less o s there more = absurd (let none : lookup (is_at (file_cmp k)) (e ∷ es) ≡ None = lookup-none (is_at (file_cmp k)) (e ∷ es) (none_below_head file_total k e es s o) in let x : None ≡ Some v = sym none ∙ there in cc)
set_by k v w e es Equal o s there more = refl
set_by k v w e es Greater o s there more = ap (λ xs. e ∷ xs) (more (sym (ap (λ r. cond (is_eq r) (Some e.1) (lookup (is_at (file_cmp k)) es)) o) ∙ there))

pub insert_there : (k : FileId) (v w : Entry) (es : List (FileId × Entry)) → IsStrictlySortedBy file_cmp (keys_of es) → lookup (is_at (file_cmp k)) es ≡ Some v → insert_entry file_cmp es k w ≡ set_value (is_at (file_cmp k)) es w
insert_there k v w [] s there = cc
insert_there k v w (e ∷ es) s there =
    set_by k v w e es (file_cmp k e.0) refl s there (insert_there k v w es (sorted_tail file_cmp e.0 (keys_of es) s))

-- an entry joined where one of its child stands
pub joined_there : (es ns : List (FileId × Entry)) (e held new : Entry) → IsStrictlySortedBy file_cmp (keys_of es) → entry_of es e.child ≡ Some held → new ≡ joined held e → ns ≡ set_value (is_at (file_cmp e.child)) es new → ns ≡ join_entry es e
joined_there es ns e held new s there is set =
    set ∙ sym (insert_there e.child held new es s there) ∙ ap (insert_entry file_cmp es e.child) (is ∙ sym (ap (λ o. joined_to o e) there))

-- and where none stands
pub joined_new : (es ns : List (FileId × Entry)) (e : Entry) → entry_of es e.child ≡ None → ns ≡ insert_entry file_cmp es e.child e → ns ≡ join_entry es e
joined_new es ns e none put = put ∙ ap (insert_entry file_cmp es e.child) (sym (ap (λ o. joined_to o e) none))

-- each entry stands at its own child
abbrev pub Attributes : FileId × Entry → Type 0
Attributes e = e.0 ≡ e.1.child

own_set_by : (p : FileId → Bool) (v w : Entry) (e : FileId × Entry) (es : List (FileId × Entry)) (t : Bool) → p e.0 ≡ t → lookup p (e ∷ es) ≡ Some v → w.child ≡ v.child → All Attributes (e ∷ es)
    → (lookup p es ≡ Some v → All Attributes (set_value p es w)) → All Attributes (cond t ((e.0, w) ∷ es) (e ∷ set_value p es w))
own_set_by p v w e es true o there same own more =
    let is : ◌≡◌ {A = Option Entry} (Some e.1) (Some v) = sym (ap (λ r. cond r (Some e.1) (lookup p es)) o) ∙ there in
    let one : e.1 ≡ v = cc in
    All-cons Attributes (e.0, w) es (All-head Attributes e es own ∙ ap (λ (x : Entry). x.child) one ∙ sym same) (All-tail Attributes e es own)
own_set_by p v w e es false o there same own more = All-cons Attributes e (set_value p es w) (All-head Attributes e es own) (more (sym (ap (λ r. cond r (Some e.1) (lookup p es)) o) ∙ there))

pub own_set : (p : FileId → Bool) (v w : Entry) (es : List (FileId × Entry)) → lookup p es ≡ Some v → w.child ≡ v.child → All Attributes es → All Attributes (set_value p es w)
own_set p v w [] there same own = All-nil Attributes
own_set p v w (e ∷ es) there same own = own_set_by p v w e es (p e.0) refl there same own (λ h. own_set p v w es h same (All-tail Attributes e es own))

own_insert_by : (w : Entry) (e : FileId × Entry) (es : List (FileId × Entry)) (o : Ordering) → file_cmp w.child e.0 ≡ o → All Attributes (e ∷ es) → All Attributes (insert_entry file_cmp es w.child w)
    → All Attributes (match_ordering o ((w.child, w) ∷ e ∷ es) ((e.0, w) ∷ es) (e ∷ insert_entry file_cmp es w.child w))
own_insert_by w e es Less o own more = All-cons Attributes (w.child, w) (e ∷ es) refl own
own_insert_by w e es Equal o own more = All-cons Attributes (e.0, w) es (sym (is_same_file-true w.child e.0 (ap is_eq o))) (All-tail Attributes e es own)
own_insert_by w e es Greater o own more = All-cons Attributes e (insert_entry file_cmp es w.child w) (All-head Attributes e es own) more

pub own_insert : (w : Entry) (es : List (FileId × Entry)) → All Attributes es → All Attributes (insert_entry file_cmp es w.child w)
own_insert w [] own = All-cons Attributes (w.child, w) [] refl (All-nil Attributes)
own_insert w (e ∷ es) own = own_insert_by w e es (file_cmp w.child e.0) refl own (own_insert w es (All-tail Attributes e es own))

-- ---- whether something changed

set_found_by : (p : FileId → Bool) (w : Entry) (e : FileId × Entry) (es : List (FileId × Entry)) (t : Bool) → p e.0 ≡ t → lookup p (set_value p es w) ≡ Some w ⊎ (lookup p es ≡ None) → lookup p (cond t ((e.0, w) ∷ es) (e ∷ set_value p es w)) ≡ Some w ⊎ (cond t (Some e.1) (lookup p es) ≡ None)
set_found_by p w e es true o more = inl (ap (λ r. cond r (Some w) (lookup p es)) o)
set_found_by p w e es false o (inl more) = inl (ap (λ r. cond r (Some e.1) (lookup p (set_value p es w))) o ∙ more)
set_found_by p w e es false o (inr none) = inr none

set_found : (p : FileId → Bool) (w : Entry) (es : List (FileId × Entry)) → lookup p (set_value p es w) ≡ Some w ⊎ (lookup p es ≡ None)
set_found p w [] = inr refl
set_found p w (e ∷ es) = set_found_by p w e es (p e.0) refl (set_found p w es)

set_changed : (p : FileId → Bool) (v w : Entry) (es : List (FileId × Entry)) → lookup p es ≡ Some v → set_value p es w ≡ es → w ≡ v
set_changed p v w es there same =
    elim (set_found p w es) [
      | inl found ↦ let x : ◌≡◌ {A = Option Entry} (Some w) (Some v) = sym found ∙ ap (lookup p) same ∙ there in (let y : w ≡ v = cc in y)
      | inr none ↦ absurd (let x : ◌≡◌ {A = Option Entry} None (Some v) = sym none ∙ there in cc)
    ]

-- the entries changed where the entry of the child did
pub set_changes : (p : FileId → Bool) (v w : Entry) (es ns : List (FileId × Entry)) (changed : Bool) → lookup p es ≡ Some v → ns ≡ set_value p es w → IsTrue changed ↔ (w ≢ v) → IsTrue changed ↔ (ns ≢ es)
set_changes p v w es ns true there set h = (λ _ same. h.0 refl (set_changed p v w es there (sym set ∙ same)), λ _. refl)
set_changes p v w es ns false there set h = (
  λ k. absurd (let x : false ≡ true = k in cc),
  λ other. absurd (let no : IsTrue false → ⊥ = (λ k. (let x : false ≡ true = k in cc)) in
      no (h.1 (λ same. other (set ∙ ap (set_value p es) same ∙ set_value_same p es v there)))),
)

-- a new child changes the entries
pub new_changes : (p : FileId → Bool) (e : Entry) (es ns : List (FileId × Entry)) → lookup p es ≡ None → lookup p ns ≡ Some e → IsTrue true ↔ (ns ≢ es)
new_changes p e es ns none there = (λ _ same. (let x : ◌≡◌ {A = Option Entry} None (Some e) = sym none ∙ sym (ap (lookup p) same) ∙ there in cc), λ _. refl)
