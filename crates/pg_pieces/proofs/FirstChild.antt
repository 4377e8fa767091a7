-- The least thing with a live place in a directory is the root, or the first of those that stand there.
use Rattle.std.proofs.Common.{◌≡◌, ℕ, Bool, true, false, ◌&&◌, ◌||◌, not, cond, List, [], ◌∷◌, get_or, Option, None, Some, is_some, refl, sym, ap, ◌∙◌, subst, arith, inl, inr, ◌⊎◌, ◌==◌, nat_lt, All, Less, Equal, Greater}
use Rattle.std.specs.declared.cmp.Ordering.{Ordering}
use Rattle.std.specs.Ordering.{nat_cmp, ordering_then}
use Rattle.std.proofs.lemmas.Bool.Decides.{nat_tests}
use Rattle.std.specs.List.{AllByRecursion, filter, find}
use Rattle.std.specs.List.Sorted.{IsStrictlySortedBy}
use Rattle.std.specs.Option.{option_map}
use Rattle.std.specs.Map.{keys_of, lookup}
use Rattle.std.specs.BTreeMap.{is_at}
use Rattle.std.proofs.lemmas.Bool.{false≢true, and_from}
use Rattle.std.proofs.lemmas.List.Elements.{All-head, All-tail}
use Rattle.std.proofs.lemmas.Map.Keys.{sorted_head, sorted_tail}
use Rattle.pg_base.specs.declared.id.FileId.{FileId}
use Rattle.pg_base.specs.Id.{file_cmp, is_same_file, rank}
use Rattle.pg_base.proofs.Orders.{file_total, is_same_file-true}
use Rattle.pg_base.proofs.Entries.{lookup-place}
use Rattle.pg_register.specs.Place.{root}
use Rattle.pg_store.specs.pg_names.Names.{InodeValue, NamesValue, known, own_of}
use Rattle.pg_store.specs.pg_names.Calm.{children, is_in, is_placed, is_root}
use Rattle.pg_store.specs.pg_house.Facts.{is_among}
use Rattle.pg_store.proofs.pg_house.Truths.{or_cases}
use Rattle.pg_store.proofs.pg_house.Among.{among_keys}
use Rattle.pg_pieces.specs.Parting.{first_child, is_child_at, is_child_of}

-- ---- the root is the least id

not_below_0 : (n : ℕ) → nat_lt n 0 ≡ false
not_below_0 n = grind (arith, nat_tests)

not_less_by : (b c : Bool) → b ≡ false → cond b Less (cond c Equal Greater) ≡ Less → ⊥
not_less_by true c h e = absurd (false≢true (sym h))
not_less_by false true h e = cc
not_less_by false false h e = cc

not_less : (n : ℕ) → nat_cmp n 0 ≡ Less → ⊥
not_less n h = not_less_by (nat_lt n 0) (n == 0) (not_below_0 n) h

neither : (a b : Ordering) → (a ≡ Less → ⊥) → (b ≡ Less → ⊥) → ordering_then a b ≡ Less → ⊥
neither Less b f g h = f refl
neither Equal b f g h = g h
neither Greater b f g h = cc

not_below : (k : FileId) → file_cmp k root ≡ Less → ⊥
not_below k h =
    neither (nat_cmp (rank k.kind) 0) (ordering_then (nat_cmp k.server 0) (nat_cmp k.number 0)) (not_less (rank k.kind))
    (neither (nat_cmp k.server 0) (nat_cmp k.number 0) (not_less k.server) (not_less k.number)) h

above_by : (k q x : FileId) (xs : List FileId) → (is_same_file x q ≡ true) ⊎ (is_among q xs ≡ true) → file_cmp k x ≡ Less → ((is_among q xs ≡ true) → file_cmp k q ≡ Less) → file_cmp k q ≡ Less
above_by k q x xs (inl same) h rest = subst (λ (y : FileId). file_cmp k y ≡ Less) (is_same_file-true x q same) h
above_by k q x xs (inr later) h rest = rest later

above : (k q : FileId) (xs : List FileId) → AllByRecursion (λ y. file_cmp k y ≡ Less) xs → is_among q xs ≡ true → file_cmp k q ≡ Less
above k q [] h among = absurd (false≢true among)
above k q (x ∷ xs) h among = above_by k q x xs (or_cases (is_same_file x q) (is_among q xs) among) h.0 (above k q xs h.1)

first_by : (p : FileId → Bool) (k : FileId) (ks : List FileId) → IsStrictlySortedBy file_cmp (k ∷ ks) → (is_same_file k root ≡ true) ⊎ (is_among root ks ≡ true) → p root ≡ true → cond (p k) (Some k) (find p ks) ≡ Some root
first_by p k ks sorted (inl same) h =
    let e : k ≡ root = is_same_file-true k root same in
    ap (λ t. cond t (Some k) (find p ks)) (ap p e ∙ h) ∙ ap (λ (q : FileId). Some q) e
first_by p k ks sorted (inr later) h = absurd (not_below k (above k root ks (sorted_head file_cmp k ks sorted) later))

root_first : (p : FileId → Bool) (ks : List FileId) → IsStrictlySortedBy file_cmp ks → is_among root ks ≡ true → p root ≡ true → find p ks ≡ Some root
root_first p [] sorted among h = absurd (false≢true among)
root_first p (k ∷ ks) sorted among h = first_by p k ks sorted (or_cases (is_same_file k root) (is_among root ks) among) h

-- ---- those that fail a test are not found

where_by : (p g : FileId → Bool) (k : FileId) (ks : List FileId) (t s : Bool) → p k ≡ t → g k ≡ s → ((t ≡ true) → s ≡ true) → find p (filter g ks) ≡ find p ks
    → find p (cond s (k ∷ filter g ks) (filter g ks)) ≡ cond t (Some k) (find p ks)
where_by p g k ks true true h e all rest = ap (λ b. cond b (Some k) (find p (filter g ks))) h
where_by p g k ks false true h e all rest = ap (λ b. cond b (Some k) (find p (filter g ks))) h ∙ rest
where_by p g k ks true false h e all rest = absurd (false≢true (all refl))
where_by p g k ks false false h e all rest = rest

find_where : (p g : FileId → Bool) → ((q : FileId) → p q ≡ true → g q ≡ true) → (ks : List FileId) → find p (filter g ks) ≡ find p ks
find_where p g all [] = refl
find_where p g all (k ∷ ks) = where_by p g k ks (p k) (g k) refl refl (all k) (find_where p g all ks)

-- ---- children

module _ (s : NamesValue) (dir : FileId) where
  abbrev Is : FileId → Bool
  Is q = is_child_at dir q (known s q)

  abbrev AreFound : List (FileId × InodeValue) → Type 0
  AreFound es = All (λ (e : FileId × InodeValue). known s e.0 ≡ Some e.1) es

  mapped : (e : FileId × InodeValue) (o : Option (FileId × InodeValue)) (t : Bool) → option_map (λ (h : FileId × InodeValue). h.0) (cond t (Some e) o) ≡ cond t (Some e.0) (option_map (λ (h : FileId × InodeValue). h.0) o)
  mapped e o true = refl
  mapped e o false = refl

  by_ids : (es : List (FileId × InodeValue)) → AreFound es → option_map (λ (h : FileId × InodeValue). h.0) (find (is_child_of dir) es) ≡ find Is (keys_of es)
  by_ids [] found = refl
  by_ids (e ∷ es) found =
      let P : FileId × InodeValue → Type 0 = λ e. known s e.0 ≡ Some e.1 in
      mapped e (find (is_child_of dir) es) (is_child_of dir e)
      ∙ ap (λ o. cond (is_child_of dir e) (Some e.0) o) (by_ids es (All-tail P e es found))
      ∙ sym (ap (λ o. cond (is_child_at dir e.0 o) (Some e.0) (find Is (keys_of es))) (All-head P e es found))

  placed_by : (o : Option InodeValue) (q : FileId) → not (is_root q) ≡ true → is_child_at dir q o ≡ true → is_in true dir q (own_of o) ≡ true
  placed_by None q other h = absurd (false≢true h)
  placed_by (Some x) q other h = and_from (not (is_root q)) _ other h

  not_root : Is root ≡ false → (q : FileId) (t : Bool) → is_root q ≡ t → Is q ≡ true → not t ≡ true
  not_root out q false h is = refl
  not_root out q true h is = absurd (false≢true (sym (ap Is (is_same_file-true q root h) ∙ out) ∙ is))

  placed : Is root ≡ false → (q : FileId) → Is q ≡ true → is_placed s true dir q ≡ true
  placed out q is = placed_by (known s q) q (not_root out q (is_root q) refl is) is

  held_root : (o : Option InodeValue) → known s root ≡ o → is_child_at dir root o ≡ true → is_among root (keys_of s.held) ≡ true
  held_root None h is = absurd (false≢true is)
  held_root (Some x) h is = among_keys root s.held ∙ ap (λ (o : Option InodeValue). is_some o) h

  module _ (sorted : IsStrictlySortedBy file_cmp (keys_of s.held)) where
    first_is : first_child s dir ≡ find Is (keys_of s.held)
    first_is = by_ids s.held (λ i d lt. lookup-place file_cmp file_total (get_or s.held i d).0 (get_or s.held i d).1 s.held i d sorted lt refl)

    pub first_root : Is root ≡ true → Some root ≡ first_child s dir
    first_root is = sym (first_is ∙ root_first Is (keys_of s.held) sorted (held_root (known s root) refl is) is)

    pub first_other : Is root ≡ false → find Is (children s dir) ≡ first_child s dir
    first_other out = find_where Is (is_placed s true dir) (placed out) (keys_of s.held) ∙ sym first_is

-- who is none is passed over
pub passed : (P : FileId → Bool) (q : FileId) (qs : List FileId) → P q ≡ false → find P qs ≡ find P (q ∷ qs)
passed P q qs h = sym (ap (λ t. cond t (Some q) (find P qs)) h)
