-- A number of an own flag at the clock's end is one of a thing that is not calm.
use Rattle.std.proofs.Common.{◌≡◌, ◌<◌, Bool, true, false, ◌||◌, cond, List, [], ◌∷◌, length, get_or, Option, None, Some, refl, sym, ap, ◌∙◌, arith, inl, inr, ◌⊎◌}
use Rattle.std.specs.List.{list_any}
use Rattle.std.specs.List.Sorted.{IsStrictlySortedBy}
use Rattle.std.specs.Map.{keys_of, lookup, values_of}
use Rattle.std.specs.BTreeMap.{is_at}
use Rattle.std.proofs.lemmas.Bool.{false≢true, or_left, or_right, or_parts}
use Rattle.std.proofs.lemmas.List.{get_or-map}
use Rattle.std.proofs.lemmas.List.Folds.{list_any_none}
use Rattle.std.proofs.lemmas.Map.Entries.{length-values_of}
use Rattle.std.proofs.lemmas.Option.{none-some, same_Some}
use Rattle.pg_base.specs.declared.id.FileId.{FileId}
use Rattle.pg_base.specs.Id.{file_cmp, is_same_file}
use Rattle.pg_base.proofs.Orders.{file_total, is_same_file-true}
use Rattle.pg_base.proofs.Entries.{lookup-place}
use Rattle.pg_register.specs.Place.{root}
use Rattle.pg_index.specs.Ids.{is_one_of}
use Rattle.pg_names.specs.Names.{InodeValue, NamesValue, known}
use Rattle.pg_names.specs.Calm.{AreCalm}
use Rattle.pg_store.specs.Store.{have_own_flag_at_end, is_end_at, is_end_of, is_own_flag_at_end}

-- what is found among the entries is among the values
found_by : (p : InodeValue → Bool) (x : InodeValue) (e : FileId × InodeValue) (es : List (FileId × InodeValue)) (o : Option InodeValue) (t : Bool) → p x ≡ true → cond t (Some e.1) o ≡ Some x → (o ≡ Some x → list_any p (values_of es) ≡ true) → (p e.1 || list_any p (values_of es)) ≡ true
found_by p x e es o true h g rest = or_left (p e.1) _ (ap p (same_Some e.1 x g) ∙ h)
found_by p x e es o false h g rest = or_right (p e.1) _ (rest g)

found : (p : InodeValue → Bool) (q : FileId) (x : InodeValue) (es : List (FileId × InodeValue)) → p x ≡ true → lookup (is_at (file_cmp q)) es ≡ Some x → list_any p (values_of es) ≡ true
found p q x [] h g = absurd (none-some x g)
found p q x (e ∷ es) h g = found_by p x e es (lookup (is_at (file_cmp q)) es) (is_at (file_cmp q) e.0) h g (found p q x es h)

or_cases : (a b : Bool) → (a || b) ≡ true → (a ≡ true) ⊎ (b ≡ true)
or_cases true b h = inl refl
or_cases false b h = inr h

some : (p : FileId → Bool) (ks : List FileId) → list_any p ks ≡ true → (q : FileId) × (p q ≡ true)
some p [] h = absurd (false≢true h)
some p (k ∷ ks) h =
    elim (or_cases (p k) (list_any p ks) h) [
      | inl here ↦ (k, here)
      | inr later ↦ some p ks later
    ]

none_at : (p : FileId → Bool) (q k : FileId) (ks : List FileId) → (is_same_file q k ≡ true) ⊎ (is_one_of q ks ≡ true) → p k ≡ false → ((is_one_of q ks ≡ true) → p q ≡ false) → p q ≡ false
none_at p q k ks (inl same) none rest = ap p (is_same_file-true q k same) ∙ none
none_at p q k ks (inr later) none rest = rest later

none_of : (p : FileId → Bool) (ks : List FileId) (q : FileId) → list_any p ks ≡ false → is_one_of q ks ≡ true → p q ≡ false
none_of p [] q none h = absurd (false≢true h)
none_of p (k ∷ ks) q none h =
    let both = or_parts (p k) (list_any p ks) none in
    none_at p q k ks (or_cases (is_same_file q k) (is_one_of q ks) h) both.0 (none_of p ks q both.1)

module _ (s : NamesValue) (ids : List FileId) (calm : AreCalm s ids) where
  abbrev Test : FileId → Bool
  Test = is_end_at s

  end_known : (q : FileId) (o : Option InodeValue) → known s q ≡ o → is_end_of s.server o ≡ true → (x : InodeValue) × (known s q ≡ Some x) × (is_own_flag_at_end s.server x ≡ true)
  end_known q None h e = absurd (false≢true e)
  end_known q (Some x) h e = (x, h, e)

  there : list_any Test ids ≡ true → have_own_flag_at_end s ≡ true
  there h =
      let q = some Test ids h in
      let x = end_known q.0 (known s q.0) refl q.1 in
      found (is_own_flag_at_end s.server) q.0 x.0 s.held x.2 x.1

  -- of what is not dirty the number is not at the end
  not_end : list_any Test ids ≡ false → (q : FileId) (x : InodeValue) → known s q ≡ Some x → (t : Bool) → is_one_of q ids ≡ t → is_own_flag_at_end s.server x ≡ false
  not_end none q x h false out = (calm q x h out).number
  not_end none q x h true among = sym (ap (is_end_of s.server) h) ∙ none_of Test ids q none among

  none_there : IsStrictlySortedBy file_cmp (keys_of s.held) → list_any Test ids ≡ false → have_own_flag_at_end s ≡ false
  none_there sorted none =
      let es = s.held in
      list_any_none (is_own_flag_at_end s.server) (values_of es) (λ i x lt.
      let inside : i < length es = let e = length-values_of es in omega (arith, lt) in
      let e = get_or es i (root, x) in
      ap (is_own_flag_at_end s.server) (get_or-map (λ (y : FileId × InodeValue). y.1) es i (root, x) x inside)
      ∙ not_end none e.0 e.1 (lookup-place file_cmp file_total e.0 e.1 es i (root, x) sorted inside refl) (is_one_of e.0 ids) refl)

  end_by : IsStrictlySortedBy file_cmp (keys_of s.held) → (t : Bool) → list_any Test ids ≡ t → t ≡ have_own_flag_at_end s
  end_by sorted true h = sym (there h)
  end_by sorted false h = sym (none_there sorted h)

  pub dirty_end : IsStrictlySortedBy file_cmp (keys_of s.held) → list_any Test ids ≡ have_own_flag_at_end s
  dirty_end sorted = end_by sorted (list_any Test ids) refl
