-- A thing that is held no longer: all else is held as before.
use Rattle.std.proofs.Common.{ℕ, ◌≡◌, Bool, true, false, cond, not, filter, List, [], ◌∷◌, Option, None, refl, sym, ap, subst, ◌∙◌}
use Rattle.std.specs.declared.cmp.Ordering.{Ordering}
use Rattle.std.specs.List.Sorted.{IsStrictlySortedBy}
use Rattle.std.specs.Map.{keys_of, lookup}
use Rattle.std.specs.BTreeMap.{is_at}
use Rattle.std.proofs.lemmas.List.Kept.{IsStrictlySortedBy-filter}
use Rattle.pg_base.specs.declared.id.FileId.{FileId}
use Rattle.pg_base.specs.Id.{file_cmp}
use Rattle.pg_base.proofs.Entries.{entries_from_lookup}
use Rattle.pg_base.proofs.Maps.{lookup-where_key}
use Rattle.pg_base.proofs.Orders.{file_exact, file_total}
use Rattle.pg_names.specs.Names.{InodeValue, NamesValue}

abbrev Order : Type 0
Order = FileId → FileId → Ordering

abbrev Things : Type 0
Things = List (FileId × InodeValue)

-- ---- those whose keys pass

keys_by : (p : FileId → Bool) (e : FileId × InodeValue) (es left : Things) (t : Bool) → p e.0 ≡ t → keys_of left ≡ filter p (keys_of es)
    → keys_of (cond t (e ∷ left) left) ≡ cond t (e.0 ∷ filter p (keys_of es)) (filter p (keys_of es))
keys_by p e es left true is rest = ap (λ ks. e.0 ∷ ks) rest
keys_by p e es left false is rest = rest

keys_where : (p : FileId → Bool) (es : Things) → keys_of (filter (λ e. p e.0) es) ≡ filter p (keys_of es)
keys_where p [] = refl
keys_where p (e ∷ es) = keys_by p e es (filter (λ (x : FileId × InodeValue). p x.0) es) (p e.0) refl (keys_where p es)

pub sorted_where : (p : FileId → Bool) (es : Things) → IsStrictlySortedBy file_cmp (keys_of es)
    → IsStrictlySortedBy file_cmp (keys_of (filter (λ e. p e.0) es))
sorted_where p es s = subst (IsStrictlySortedBy file_cmp) (sym (keys_where p es)) (IsStrictlySortedBy-filter file_cmp p (keys_of es) s)

-- ---- what is held then

abbrev pub without : FileId → FileId → Bool
without file k = not (is_at (file_cmp file) k)

turned : (t : Bool) (o : Option InodeValue) → cond t None o ≡ cond (not t) o None
turned true o = refl
turned false o = refl

pub taken_out : (R : Order) → R ≡ file_cmp → (held left : Things) (file : FileId)
    → IsStrictlySortedBy R (keys_of held) → IsStrictlySortedBy R (keys_of left)
    → ((q : FileId) → lookup (is_at (R q)) left ≡ cond (is_at (R file) q) None (lookup (is_at (R q)) held))
    → left ≡ filter (λ e. not (is_at (file_cmp file) e.0)) held
taken_out R o held left file sorted ordered less =
    let L : Order → Type 0 = λ r. (q : FileId) → lookup (is_at (r q)) left ≡ cond (is_at (r file) q) None (lookup (is_at (r q)) held) in
    let S : Order → Type 0 = λ r. IsStrictlySortedBy r (keys_of held) in
    let T : Order → Type 0 = λ r. IsStrictlySortedBy r (keys_of left) in
    let gone : L file_cmp = subst L o less in
    entries_from_lookup file_cmp file_total file_exact left (filter (λ e. without file e.0) held) (subst T o ordered)
    (sorted_where (without file) held (subst S o sorted))
    (λ q. gone q ∙ turned (is_at (file_cmp file) q) (lookup (is_at (file_cmp q)) held)
    ∙ sym (lookup-where_key file_cmp (without file) q (λ x e. ap (without file) (sym (file_exact q x e))) held))

-- ---- names by their parts

abbrev pub of_parts : ℕ → ℕ → List ℕ → Things → NamesValue
of_parts server last removed held = record { server = server; last = last; removed = removed; held = held }
