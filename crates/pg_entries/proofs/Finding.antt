-- How a name is looked up: the first claim goes by the children at the name's slot, and the one who
-- shows a name is one of two.
use Rattle.std.proofs.Common.{ℕ, ◌≡◌, ◌+◌, ◌⊎◌, inl, inr, Bool, true, false, cond, ◌||◌, ◌&&◌, Option, None, Some, option_map, List, [], ◌∷◌, ◌++◌, refl, sym, ap, ◌∙◌, arith, Less, Equal, Greater}
use Rattle.std.specs.declared.cmp.Ordering.{Ordering}
use Rattle.std.specs.Ordering.{nat_cmp, ordering_reverse, ordering_then, is_lt, is_eq}
use Rattle.std.specs.Cmp.{tied_itself}
use Rattle.std.specs.List.{All, AllByRecursion, find, fold, list_any}
use Rattle.std.specs.List.Sorted.{IsStrictlySortedBy}
use Rattle.std.specs.Map.{keys_of, values_of}
use Rattle.std.proofs.lemmas.Bool.{and_parts, and_from, false_from_ne_true}
use Rattle.std.proofs.lemmas.Bool.Decides.{nat_tests}
use Rattle.std.proofs.lemmas.List.Elements.{All-head, All-tail}
use Rattle.std.proofs.lemmas.List.Folds.{Any-from_list_any, list_any-from_Any}
use Rattle.std.proofs.lemmas.Map.Keys.{sorted_head, sorted_tail}
use Rattle.std.proofs.lemmas.Map.Lookups.{CmpEqualImpliesEq, exact_pairs}
use Rattle.pg_base.specs.declared.id.FileId.{FileId}
use Rattle.pg_base.specs.declared.stamp.Stamp.{Stamp}
use Rattle.pg_base.specs.Id.{Fits, file_cmp, is_same_file}
use Rattle.pg_base.specs.Stamp.{stamp_cmp}
use Rattle.pg_base.proofs.Orders.{file_exact, file_total, is_same_file-refl, is_same_file-true, stamp_exact}
use Rattle.pg_index.specs.Ids.{is_one_of}
use Rattle.pg_index.proofs.Members.{same_sym}
use Rattle.pg_register.specs.Place.{tilde_name}
use Rattle.pg_register.proofs.Joining.{or-false, or_assoc}
use Rattle.pg_entries.specs.declared.entry.Entry.{Entry}
use Rattle.pg_entries.specs.declared.claim.Claim.{Claim}
use Rattle.pg_entries.specs.Entry.{IsByChild, entry_of, is_listed}
use Rattle.pg_entries.specs.Names.{same_name}
use Rattle.pg_entries.specs.Shown.{claim_cmp, claim_of, find_of, first_claim, is_beaten, is_hidden, is_rival, shown_name, shows}
use Rattle.pg_entries.specs.Slots.{AreFit, lesser_of, shown_by, shown_found, take_found, take_listed}
use Rattle.pg_entries.proofs.Claims.{claim_total, fold_beats, is_hidden-first, same_name-is, same_name-true, take_beats_by}
use Rattle.pg_entries.proofs.Differ.{tied_by}

abbrev Entries : Type 0
Entries = List (FileId × Entry)

no : {P : Type 0} → true ≡ false → P
no h = cc

none_is : {X : Type 0} {P : Type 0} (a : X) → None ≡ Some a → P
none_is a e = cc

some_is : {X : Type 0} (a b : X) → Some a ≡ Some b → a ≡ b
some_is a b e = cc

both_ways : (p q : Bool) → (p ≡ true → q ≡ true) → (q ≡ true → p ≡ true) → p ≡ q
both_ways true q h k = sym (h refl)
both_ways false true h k = k refl
both_ways false false h k = refl

-- ---- claims are told apart by whom they beat

claim_of_parts : (s t : Stamp) (a b : FileId) → s ≡ t → a ≡ b → ◌≡◌ {A = Claim} (record { stamp = s; child = a }) (record { stamp = t; child = b })
claim_of_parts s t a b e f = cc

claim_exact : CmpEqualImpliesEq claim_cmp
claim_exact a b h =
    let e = exact_pairs stamp_cmp file_cmp stamp_exact file_exact (a.stamp, a.child) (b.stamp, b.child) h in
    claim_of_parts a.stamp b.stamp a.child b.child (ap (λ (p : Stamp × FileId). p.0) e) (ap (λ (p : Stamp × FileId). p.1) e)

-- a claim that goes behind this one
abbrev later : Claim → Claim
later c = record { stamp = record { time = c.stamp.time + 1; server = c.stamp.server }; child = c.child }

less_more : (n : ℕ) → nat_cmp n (n + 1) ≡ Less
less_more n = grind (arith, nat_tests)

before_later : (c : Claim) → is_lt (claim_cmp c (later c)) ≡ true
before_later c =
    ap (λ o. is_lt (ordering_then (ordering_then o (nat_cmp c.stamp.server c.stamp.server)) (file_cmp c.child c.child))) (less_more c.stamp.time)

not_itself : (c : Claim) → is_lt (claim_cmp c c) ≡ false
not_itself c = ap is_lt (tied_itself claim_total c)

one_claim : (a b : Claim) → is_lt (claim_cmp a b) ≡ false → is_lt (claim_cmp b a) ≡ false → a ≡ b
one_claim a b h k = claim_exact a b (tied_by (claim_cmp a b) (claim_cmp b a) (claim_total.antisymm a b) h k)

beats_alike : (o p : Option Claim) → ((c : Claim) → is_beaten o c ≡ is_beaten p c) → o ≡ p
beats_alike None None same = refl
beats_alike None (Some b) same = no (sym (before_later b) ∙ sym (same (later b)))
beats_alike (Some a) None same = no (sym (before_later a) ∙ same (later a))
beats_alike (Some a) (Some b) same = ap Some (one_claim a b (same b ∙ not_itself b) (sym (same a) ∙ not_itself a))

-- ---- what is found, and what passes a test

above_by : (x : FileId) (y : FileId × Entry) (ys : Entries) (q : FileId) (e : Entry) (t : Bool) → is_same_file q y.0 ≡ t → file_cmp x y.0 ≡ Less → cond t (Some y.1) (entry_of ys q) ≡ Some e → (entry_of ys q ≡ Some e → file_cmp x q ≡ Less) → file_cmp x q ≡ Less
above_by x y ys q e true same up there more = ap (file_cmp x) (is_same_file-true q y.0 same) ∙ up
above_by x y ys q e false other up there more = more there

-- a later child is above the first
above_at : (x : FileId) (es : Entries) → AllByRecursion (λ y. file_cmp x y ≡ Less) (keys_of es) → (q : FileId) (e : Entry) → entry_of es q ≡ Some e → file_cmp x q ≡ Less
above_at x [] up q e there = none_is e there
above_at x (y ∷ ys) up q e there = above_by x y ys q e (is_same_file q y.0) refl up.0 there (above_at x ys up.1 q e)

head_apart : (x : FileId × Entry) (es : Entries) → IsStrictlySortedBy file_cmp (keys_of (x ∷ es)) → (q : FileId) (e : Entry) → entry_of es q ≡ Some e → is_same_file q x.0 ≡ false
head_apart x es sorted q e there = same_sym q x.0 ∙ ap is_eq (above_at x.0 es (sorted_head file_cmp x.0 (keys_of es) sorted) q e there)

-- so what is found behind the first is found in all
found_on : (x : FileId × Entry) (es : Entries) → IsStrictlySortedBy file_cmp (keys_of (x ∷ es)) → (q : FileId) (e : Entry) → entry_of es q ≡ Some e → entry_of (x ∷ es) q ≡ Some e
found_on x es sorted q e there = ap (λ t. cond t (Some x.1) (entry_of es q)) (head_apart x es sorted q e there) ∙ there

found_first : (x : FileId × Entry) (es : Entries) → entry_of (x ∷ es) x.0 ≡ Some x.1
found_first x es = ap (λ t. cond t (Some x.1) (entry_of es x.0)) (is_same_file-refl x.0)

-- an entry of a child that passes a test
abbrev Passing : (Entry → Bool) → Entries → Type 0
Passing p es = (q : FileId) × (e : Entry) × (entry_of es q ≡ Some e) × (p e ≡ true)

passing_by : (p : Entry → Bool) (x : FileId × Entry) (es : Entries) (t : Bool) → p x.1 ≡ t → IsStrictlySortedBy file_cmp (keys_of (x ∷ es)) → (t || list_any p (values_of es)) ≡ true → (list_any p (values_of es) ≡ true → Passing p es) → Passing p (x ∷ es)
passing_by p x es true passes sorted h more = (x.0, x.1, found_first x es, passes)
passing_by p x es false fails sorted h more = (let r = more h in (r.0, r.1, found_on x es sorted r.0 r.1 r.2, r.3))

passing : (p : Entry → Bool) (es : Entries) → IsStrictlySortedBy file_cmp (keys_of es) → list_any p (values_of es) ≡ true → Passing p es
passing p [] sorted h = no (sym h)
passing p (x ∷ es) sorted h = passing_by p x es (p x.1) refl sorted h (passing p es (sorted_tail file_cmp x.0 (keys_of es) sorted))

or_true : (b : Bool) → (b || true) ≡ true
or_true true = refl
or_true false = refl

passes_by : (p : Entry → Bool) (x : FileId × Entry) (es : Entries) (q : FileId) (e : Entry) (t : Bool) → p e ≡ true → cond t (Some x.1) (entry_of es q) ≡ Some e → (entry_of es q ≡ Some e → list_any p (values_of es) ≡ true) → (p x.1 || list_any p (values_of es)) ≡ true
passes_by p x es q e true passes there more = ap (λ b. b || list_any p (values_of es)) (ap p (some_is x.1 e there) ∙ passes)
passes_by p x es q e false passes there more = ap (λ b. p x.1 || b) (more there) ∙ or_true (p x.1)

passes : (p : Entry → Bool) (es : Entries) (q : FileId) (e : Entry) → entry_of es q ≡ Some e → p e ≡ true → list_any p (values_of es) ≡ true
passes p [] q e there h = none_is e there
passes p (x ∷ es) q e there h = passes_by p x es q e (is_same_file q x.0) h there (λ more. passes p es q e more h)

own_by : (x : FileId × Entry) (es : Entries) (q : FileId) (e : Entry) (t : Bool) → is_same_file q x.0 ≡ t → x.0 ≡ x.1.child → cond t (Some x.1) (entry_of es q) ≡ Some e → (entry_of es q ≡ Some e → q ≡ e.child) → q ≡ e.child
own_by x es q e true same own there more = is_same_file-true q x.0 same ∙ own ∙ ap (λ (y : Entry). y.child) (some_is x.1 e there)
own_by x es q e false other own there more = more there

-- what is found of a child is its own
own_found : (es : Entries) → All (λ e. e.0 ≡ e.1.child) es → (q : FileId) (e : Entry) → entry_of es q ≡ Some e → q ≡ e.child
own_found [] own q e there = none_is e there
own_found (x ∷ es) own q e there =
    own_by x es q e (is_same_file q x.0) refl (All-head (λ e. e.0 ≡ e.1.child) x es own) there (own_found es (All-tail (λ e. e.0 ≡ e.1.child) x es own) q e)

-- ---- the first claim, by the children at a slot

-- a rival of this name whose claim goes before c
abbrev Beats : FileId → List ℕ → Claim → Entry → Bool
Beats dir name c o = is_rival dir name o && is_lt (claim_cmp (claim_of o) c)

abbrev beats_found : FileId → List ℕ → Claim → Option Entry → Bool
beats_found dir name c None = false
beats_found dir name c (Some o) = Beats dir name c o

take_beats : (dir : FileId) (name : List ℕ) (c : Claim) (first : Option Claim) (o : Option Entry) → is_beaten (take_found dir name first o) c ≡ (is_beaten first c || beats_found dir name c o)
take_beats dir name c first None = sym (or-false (is_beaten first c))
take_beats dir name c first (Some e) = take_beats_by first e c (is_rival dir name e)

module _ (es : Entries) (dir : FileId) (name : List ℕ) where
  fold_listed : (c : Claim) (ids : List FileId) (first : Option Claim) → is_beaten (fold (take_listed es dir name) first ids) c ≡ (is_beaten first c || list_any (λ q. beats_found dir name c (entry_of es q)) ids)
  fold_listed c [] first = sym (or-false (is_beaten first c))
  fold_listed c (q ∷ ids) first =
      fold_listed c ids (take_listed es dir name first q)
      ∙ ap (λ t. t || list_any (λ q. beats_found dir name c (entry_of es q)) ids) (take_beats dir name c first (entry_of es q))
      ∙ or_assoc (is_beaten first c) (beats_found dir name c (entry_of es q)) (list_any (λ q. beats_found dir name c (entry_of es q)) ids)

  found_beats : (c : Claim) (q : FileId) (o : Option Entry) → entry_of es q ≡ o → beats_found dir name c o ≡ true → list_any (Beats dir name c) (values_of es) ≡ true
  found_beats c q None there h = no (sym h)
  found_beats c q (Some e) there h = passes (Beats dir name c) es q e there h

  module _ (sorted : IsStrictlySortedBy file_cmp (keys_of es)) (ids : List FileId) (listed : (q : FileId) (e : Entry) → entry_of es q ≡ Some e → is_rival dir name e ≡ true → is_one_of q ids ≡ true) where
    at_slot : (c : Claim) → Passing (Beats dir name c) es → list_any (λ q. beats_found dir name c (entry_of es q)) ids ≡ true
    at_slot c r =
        let rival = and_parts (is_rival dir name r.1) (is_lt (claim_cmp (claim_of r.1) c)) r.3 in
        let one = Any-from_list_any (is_same_file r.0) ids (listed r.0 r.1 r.2 rival.0) in
        let is : r.0 ≡ one.1 = is_same_file-true r.0 one.1 one.4 in
        list_any-from_Any (λ q. beats_found dir name c (entry_of es q)) ids (one.0, one.1, one.2, one.3, ap (λ q. beats_found dir name c (entry_of es q)) (sym is) ∙ ap (beats_found dir name c) r.2 ∙ r.3)

    same_beats : (c : Claim) → list_any (λ q. beats_found dir name c (entry_of es q)) ids ≡ list_any (Beats dir name c) (values_of es)
    same_beats c =
        both_ways _ _ (λ h. let one = Any-from_list_any (λ q. beats_found dir name c (entry_of es q)) ids h in found_beats c one.1 (entry_of es one.1) refl one.4)
        (λ h. at_slot c (passing (Beats dir name c) es sorted h))

    pub first_listed : fold (take_listed es dir name) None ids ≡ first_claim es dir name
    first_listed =
        beats_alike (fold (take_listed es dir name) None ids) (first_claim es dir name) (λ c. fold_listed c ids None ∙ same_beats c ∙ sym (fold_beats dir name c (values_of es) None))

-- ---- the one who shows a name

module _ (es : Entries) (dir : FileId) where
  first_beats : (name : List ℕ) (c : Claim) → is_beaten (first_claim es dir name) c ≡ list_any (Beats dir name c) (values_of es)
  first_beats name c = fold_beats dir name c (values_of es) None

  -- who is beaten by none has the first claim
  unbeaten : (name : List ℕ) (q : FileId) (e : Entry) (o : Option Claim) → ((c : Claim) → is_beaten o c ≡ list_any (Beats dir name c) (values_of es)) → entry_of es q ≡ Some e → is_rival dir name e ≡ true → is_beaten o (claim_of e) ≡ false → o ≡ Some (claim_of e)
  unbeaten name q e None beats there rival none =
      no (sym (passes (Beats dir name (later (claim_of e))) es q e there (and_from (is_rival dir name e) _ rival (before_later (claim_of e)))) ∙ sym (beats (later (claim_of e))))
  unbeaten name q e (Some c) beats there rival none =
      let other : is_lt (claim_cmp (claim_of e) c) ≡ false =
      false_from_ne_true _ (λ h. no (sym (passes (Beats dir name c) es q e there (and_from (is_rival dir name e) _ rival h)) ∙ sym (beats c) ∙ not_itself c)) in
      ap Some (one_claim c (claim_of e) none other)

  shows_parts : (shown : List ℕ) (e : Entry) → shows es dir shown e ≡ true → (is_listed dir e ≡ true) × (shown_name es dir e ≡ shown)
  shows_parts shown e h =
      let p = and_parts (is_listed dir e) (same_name (shown_name es dir e) shown) h in
      (p.0, same_name-true (shown_name es dir e) shown p.1)

reverse_lt : (o : Ordering) → is_lt o ≡ true → is_lt (ordering_reverse o) ≡ false
reverse_lt Less h = refl
reverse_lt Equal h = no (sym h)
reverse_lt Greater h = no (sym h)

file_itself : (a : FileId) → is_lt (file_cmp a a) ≡ false
file_itself a = ap is_lt (tied_itself file_total a)

same_id : (a b : FileId) → Some a ≡ Some b → is_lt (file_cmp b a) ≡ false
same_id a b e = ap (λ (x : FileId). is_lt (file_cmp x a)) (sym (some_is a b e)) ∙ file_itself a

module _ (p : Entry → Bool) where
  abbrev first_passing : Entries → Option FileId
  first_passing es = option_map (λ (e : Entry). e.child) (find p (values_of es))

  none_by : (x : FileId × Entry) (es : Entries) (t : Bool) → p x.1 ≡ t → ((q : FileId) (e : Entry) → entry_of (x ∷ es) q ≡ Some e → p e ≡ true → ⊥) → first_passing es ≡ None → option_map (λ (e : Entry). e.child) (cond t (Some x.1) (find p (values_of es))) ≡ None
  none_by x es true h none more = absurd (none x.0 x.1 (found_first x es) h)
  none_by x es false h none more = more

  -- where none passes
  none_first : (es : Entries) → IsStrictlySortedBy file_cmp (keys_of es) → ((q : FileId) (e : Entry) → entry_of es q ≡ Some e → p e ≡ true → ⊥) → first_passing es ≡ None
  none_first [] sorted none = refl
  none_first (x ∷ es) sorted none =
      none_by x es (p x.1) refl none (none_first es (sorted_tail file_cmp x.0 (keys_of es) sorted) (λ q e there. none q e (found_on x es sorted q e there)))

  abbrev IsLeast : Entries → FileId → Type 0
  IsLeast es id = (q : FileId) (e : Entry) → entry_of es q ≡ Some e → p e ≡ true → is_lt (file_cmp q id) ≡ false

  head_is : (x : FileId × Entry) (es : Entries) (id : FileId) (e : Entry) (s : Bool) → is_same_file id x.0 ≡ s → IsStrictlySortedBy file_cmp (keys_of (x ∷ es)) → x.0 ≡ x.1.child → cond s (Some x.1) (entry_of es id) ≡ Some e → is_lt (file_cmp x.0 id) ≡ false
      → x.1.child ≡ id
  head_is x es id e true same sorted own there least = sym own ∙ sym (is_same_file-true id x.0 same)
  head_is x es id e false other sorted own there least = no (sym (ap is_lt (above_at x.0 es (sorted_head file_cmp x.0 (keys_of es) sorted) id e there)) ∙ least)

  tail_has : (x : FileId × Entry) (es : Entries) (id : FileId) (e : Entry) (s : Bool) → p x.1 ≡ false → p e ≡ true → cond s (Some x.1) (entry_of es id) ≡ Some e → entry_of es id ≡ Some e
  tail_has x es id e true fails h there = no (sym h ∙ sym (ap p (some_is x.1 e there)) ∙ fails)
  tail_has x es id e false fails h there = there

  least_by : (x : FileId × Entry) (es : Entries) (id : FileId) (e : Entry) (t : Bool) → p x.1 ≡ t → IsStrictlySortedBy file_cmp (keys_of (x ∷ es)) → x.0 ≡ x.1.child → entry_of (x ∷ es) id ≡ Some e → p e ≡ true → IsLeast (x ∷ es) id
      → (entry_of es id ≡ Some e → first_passing es ≡ Some id) → option_map (λ (e : Entry). e.child) (cond t (Some x.1) (find p (values_of es))) ≡ Some id
  least_by x es id e true passes sorted own there h least more =
      ap (λ (q : FileId). Some q) (head_is x es id e (is_same_file id x.0) refl sorted own there (least x.0 x.1 (found_first x es) passes))
  least_by x es id e false fails sorted own there h least more = more (tail_has x es id e (is_same_file id x.0) fails h there)

  -- the least of those that pass is the first of them
  least_first : (es : Entries) → IsStrictlySortedBy file_cmp (keys_of es) → All (λ e. e.0 ≡ e.1.child) es → (id : FileId) (e : Entry) → entry_of es id ≡ Some e → p e ≡ true → IsLeast es id → first_passing es ≡ Some id
  least_first [] sorted own id e there h least = none_is e there
  least_first (x ∷ es) sorted own id e there h least =
      least_by x es id e (p x.1) refl sorted (All-head (λ e. e.0 ≡ e.1.child) x es own) there h least
      (λ behind. least_first es (sorted_tail file_cmp x.0 (keys_of es) sorted) (All-tail (λ e. e.0 ≡ e.1.child) x es own) id e behind h (λ q y more. least q y (found_on x es sorted q y more)))

  -- a candidate passes
  abbrev Passes : Entries → Option FileId → Type 0
  Passes es None = Unit {0}
  Passes es (Some q) = (e : Entry) × (entry_of es q ≡ Some e) × (p e ≡ true)

  -- whoever passes is one of two
  abbrev AreAll : Entries → Option FileId → Option FileId → Type 0
  AreAll es a b = (q : FileId) (e : Entry) → entry_of es q ≡ Some e → p e ≡ true → (a ≡ Some q) ⊎ (b ≡ Some q)

  two_by : (es : Entries) (x y : FileId) (t : Bool) → is_lt (file_cmp y x) ≡ t → IsByChild es → Passes es (Some x) → Passes es (Some y) → AreAll es (Some x) (Some y) → cond t (Some y) (Some x) ≡ first_passing es
  two_by es x y true lt by a b all =
      sym (least_first es by.rising by.own y b.0 b.1 b.2 (λ q e there h.
      elim (all q e there h) [
        | inl is ↦ ap (λ (z : FileId). is_lt (file_cmp z y)) (sym (some_is x q is)) ∙ ap is_lt (file_total.antisymm x y) ∙ reverse_lt (file_cmp y x) lt
        | inr is ↦ same_id y q is
      ]))
  two_by es x y false up by a b all =
      sym (least_first es by.rising by.own x a.0 a.1 a.2 (λ q e there h.
      elim (all q e there h) [
        | inl is ↦ same_id x q is
        | inr is ↦ ap (λ (z : FileId). is_lt (file_cmp z x)) (sym (some_is y q is)) ∙ up
      ]))

  -- so the lesser of the two is the first that passes
  lesser_first : (es : Entries) (a b : Option FileId) → IsByChild es → Passes es a → Passes es b → AreAll es a b → lesser_of a b ≡ first_passing es
  lesser_first es None None by a b all =
      sym (none_first es by.rising (λ q e there h.
      elim (all q e there h) [
        | inl is ↦ none_is q is
        | inr is ↦ none_is q is
      ]))
  lesser_first es None (Some y) by a b all =
      sym (least_first es by.rising by.own y b.0 b.1 b.2 (λ q e there h.
      elim (all q e there h) [
        | inl is ↦ none_is q is
        | inr is ↦ same_id y q is
      ]))
  lesser_first es (Some x) None by a b all =
      sym (least_first es by.rising by.own x a.0 a.1 a.2 (λ q e there h.
      elim (all q e there h) [
        | inl is ↦ same_id x q is
        | inr is ↦ none_is q is
      ]))
  lesser_first es (Some x) (Some y) by a b all = two_by es x y (is_lt (file_cmp y x)) refl by a b all

module _ (es : Entries) (dir : FileId) (shown : List ℕ) where
  abbrev test : Entry → Bool
  test = shows es dir shown

  shown_if : (q : FileId) (e : Entry) → entry_of es q ≡ Some e → test e ≡ true → shown_by es dir shown (Some q) ≡ Some q
  shown_if q e there h = ap (shown_found es dir shown q) there ∙ ap (λ t. cond t (Some q) None) h

  -- a candidate that was tested shows the name
  shown_if_by : (q : FileId) (e : Entry) (t : Bool) → entry_of es q ≡ Some e → test e ≡ t → Passes test es (cond t (Some q) None)
  shown_if_by q e true there h = (e, there, h)
  shown_if_by q e false there h = tt

  shown_at : (q : FileId) (o : Option Entry) → entry_of es q ≡ o → Passes test es (shown_found es dir shown q o)
  shown_at q None there = tt
  shown_at q (Some e) there = shown_if_by q e (test e) there refl

  all_shown : (o : Option FileId) → Passes test es (shown_by es dir shown o)
  all_shown None = tt
  all_shown (Some q) = shown_at q (entry_of es q) refl

  abbrev claimant : Option FileId
  claimant = option_map (λ (c : Claim). c.child) (first_claim es dir shown)

  -- whoever shows the name has the first claim on it, or its own id behind the last tilde
  candidate_by : (behind : Option FileId) (q : FileId) (e : Entry) (t : Bool) → is_hidden es dir e ≡ t → q ≡ e.child → Fits q → ((name : List ℕ) (id : FileId) → Fits id → shown ≡ name ++ tilde_name id → behind ≡ Some id)
      → entry_of es q ≡ Some e → is_listed dir e ≡ true → cond t (e.place.name ++ tilde_name e.child) e.place.name ≡ shown → (claimant ≡ Some q) ⊎ (behind ≡ Some q)
  candidate_by behind q e false plain own fits read there listed is =
      let rival : is_rival dir shown e ≡ true = and_from (is_listed dir e) _ listed (same_name-is e.place.name shown is) in
      let none : is_beaten (first_claim es dir shown) (claim_of e) ≡ false = ap (λ n. is_beaten (first_claim es dir n) (claim_of e)) (sym is) ∙ sym (is_hidden-first es dir e) ∙ plain in
      inl (ap (λ (o : Option Claim). option_map (λ (c : Claim). c.child) o) (unbeaten es dir shown q e (first_claim es dir shown) (first_beats es dir shown) there rival none) ∙ ap (λ (x : FileId). Some x) (sym own))
  candidate_by behind q e true hidden own fits read there listed is = inr (read e.place.name q fits (sym is ∙ ap (λ (x : FileId). e.place.name ++ tilde_name x) (sym own)))

  candidate : (behind : Option FileId) → IsByChild es → AreFit es → ((name : List ℕ) (id : FileId) → Fits id → shown ≡ name ++ tilde_name id → behind ≡ Some id)
      → AreAll test es (shown_by es dir shown claimant) (shown_by es dir shown behind)
  candidate behind by fit read q e there h =
      let p = shows_parts es dir shown e h in
      elim (candidate_by behind q e (is_hidden es dir e) refl (own_found es by.own q e there) (fit q e there) read there p.0 p.1) [
        | inl is ↦ inl (ap (shown_by es dir shown) is ∙ shown_if q e there h)
        | inr is ↦ inr (ap (shown_by es dir shown) is ∙ shown_if q e there h)
      ]

  pub find_is : (behind : Option FileId) → IsByChild es → AreFit es → ((name : List ℕ) (id : FileId) → Fits id → shown ≡ name ++ tilde_name id → behind ≡ Some id)
      → lesser_of (shown_by es dir shown (option_map (λ (c : Claim). c.child) (first_claim es dir shown))) (shown_by es dir shown behind) ≡ find_of es dir shown
  find_is behind by fit read =
      lesser_first test es (shown_by es dir shown claimant) (shown_by es dir shown behind) by (all_shown claimant) (all_shown behind) (candidate behind by fit read)
