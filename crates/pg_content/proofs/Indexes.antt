-- Indexes of heads: what all heads know, whether an entry covers one of them, and what a version
-- more makes of the index.
use Rattle.std.proofs.Common.{◌≡◌, ℕ, ◌+◌, ◌<◌, ◌≤◌, max, min, Bool, true, false, cond, not, nat_le, ◌||◌, ◌&&◌, None, Some, Option, IfSome, Result, Ok, Err, IfOk, List, [], ◌∷◌, ◌++◌, length, take, drop, inl, inr, refl, sym, ap, subst, ◌∙◌, arith}
use Rattle.std.specs.declared.alloc.AllocError.{AllocError}
use Rattle.std.specs.List.{All, filter, list_any, position_or_len, slice_get}
use Rattle.std.specs.Map.{lookup}
use Rattle.std.specs.Ordering.{eq_by_cmp}
use Rattle.std.specs.BTreeMap.{is_at, insert_entry}
use Rattle.std.proofs.lemmas.Bool.{cases_lt}
use Rattle.std.proofs.lemmas.Bool.Decides.{nat_tests}
use Rattle.std.proofs.lemmas.List.{drop_all, drop_more, take-append-drop}
use Rattle.std.proofs.lemmas.Option.{get_or_from_slice_get, slice_get_cases, slice_get_within}
use Rattle.std.proofs.lemmas.Cmp.{eq_by_cmp_equiv}
use Rattle.std.proofs.lemmas.Map.Views.{tells_apart}
use Rattle.std.proofs.lemmas.List.Elements.{All-head, All-tail, All-cons}
use mathlib.Core.Path.{fun_ext}
use Rattle.pg_base.specs.declared.vector.Actor.{Actor}
use Rattle.pg_base.specs.Vector.{IsVector, actor_cmp, number_at, raised, joined}
use Rattle.pg_base.proofs.Maps.{lookup-insert_entry}
use Rattle.pg_base.proofs.Vectors.{Entry, IsVector-joined, IsVector-tail, Above-tail, actor_exact, actor_total, number_at-above, number_at-cons, number_at-joined, vector_from_numbers}
use Rattle.pg_base.specs.declared.head.Head.{Head}
use Rattle.pg_base.specs.Version.{VersionValue, IsVersion, actor_of, stamp_of}
use Rattle.pg_content.specs.Shown.{inserted}
use Rattle.pg_content.specs.Content.{join_of, is_covered, covers_version}
use Rattle.pg_content.proofs.Inserting.{stops, insert_at_stop}
use Rattle.pg_content.proofs.Joins.{covered_join, greatest, known_below, join_number, join_vector, vectors}
use Rattle.pg_content.specs.Index.{has_upto, covers_least, is_from, covers_by_entry, IsSound, IsIndex, IndexValue}

-- ---- a version more

first_second : (a b c : Bool) → (a || (b || c)) ≡ (b || (a || c))
first_second true true c = refl
first_second true false c = refl
first_second false b c = refl

module _ (v : VersionValue) where
  sound_between : (front back : List VersionValue) → All IsSound (front ++ back) → IsSound v → All IsSound (front ++ v ∷ back)
  sound_between [] back sound one = All-cons IsSound v back one sound
  sound_between (w ∷ front) back sound one = All-cons IsSound w (front ++ v ∷ back) (All-head IsSound w (front ++ back) sound) (sound_between front back (All-tail IsSound w (front ++ back) sound) one)

  greatest_between : (front back : List VersionValue) (q : Actor) → greatest (vectors (front ++ v ∷ back)) q ≡ max (number_at v.head.vector q) (greatest (vectors (front ++ back)) q)
  greatest_between [] back q = refl
  greatest_between (w ∷ front) back q = omega (arith, greatest_between front back q)

  any_between : (test : VersionValue → Bool) (front back : List VersionValue) → list_any test (front ++ v ∷ back) ≡ (test v || list_any test (front ++ back))
  any_between test [] back = refl
  any_between test (w ∷ front) back = ap (λ b. test w || b) (any_between test front back) ∙ first_second (test w) (test v) (list_any test (front ++ back))

-- the index of some versions, raised to what one more knows and lowered to its number, is that of
-- all of these
added : (old new : IndexValue) (v : VersionValue) (front back : List VersionValue) → IsSound v → new.known ≡ joined v.head.vector old.known → ((e : Entry) → covers_least new.least e ≡ (covers_by_entry e v || covers_least old.least e))
    → IsIndex old (front ++ back) → IsIndex new (front ++ v ∷ back)
added old new v front back one knows lowers is =
    let vs = front ++ back in
    let sound = sound_between v front back is.sound one in
    let was = join_vector vs is.sound in
    let made : new.known ≡ joined v.head.vector (join_of vs) = knows ∙ ap (joined v.head.vector) is.all in
    record {
      sound = sound;
      all = made ∙ vector_from_numbers (joined v.head.vector (join_of vs)) (join_of (front ++ v ∷ back)) (IsVector-joined v.head.vector (join_of vs) one.vector was) (join_vector (front ++ v ∷ back) sound) (λ q.
          omega (arith, number_at-joined v.head.vector (join_of vs) one.vector q, join_number vs is.sound q, join_number (front ++ v ∷ back) sound q, greatest_between v front back q));
      some = λ e. lowers e ∙ ap (λ b. covers_by_entry e v || b) (is.some e) ∙ sym (any_between v (covers_by_entry e) front back);
    }

-- the same, as the steps of the program have it
pub added_by : (old inside : IndexValue) (known least : List Entry) (v : VersionValue) (head : Head) (actor : Actor) → inside ≡ old → head ≡ v.head → actor ≡ actor_of head → IsVersion v → IsVector head.vector
    → known ≡ joined head.vector inside.known → ((e : Entry) → covers_least least e ≡ (is_from actor head.number e || covers_least inside.least e)) → (front back : List VersionValue) → IsIndex old (front ++ back) → IsIndex (record { known = known; least = least }) (front ++ v ∷ back)
added_by old inside known least v head actor view is by version vector knows lowers front back =
    added old (record { known = known; least = least }) v front back (record { vector = subst (λ (h : Head). IsVector h.vector) is vector; some = version.some })
    (knows ∙ (λ i. joined (is i).vector (view i).known)) (λ e. lowers e ∙ ap (λ a. is_from a head.number e || covers_least inside.least e) by ∙ (λ i. is_from (actor_of (is i)) (is i).number e || covers_least (view i).least e))

-- the entries from an index on, the first of them last
pub joined_from : (es rest : List Entry) (k : ℕ) (e : Entry) → slice_get es k ≡ Some e → joined (drop k es) rest ≡ raised (joined (drop (k + 1) es) rest) e.0 e.1
joined_from es rest k e at =
    ap (λ xs. joined xs rest) (drop_more es k e (slice_get_within es k e at)) ∙ ap (λ (x : Entry). raised (joined (drop (k + 1) es) rest) x.0 x.1) (get_or_from_slice_get es k e e at)

past : (es : List Entry) (k : ℕ) → slice_get es k ≡ None → length es ≤ k
past es k none = elim (slice_get_cases es k).1 [
  | inl here ↦ absurd (let z : None ≡ Some here.0 = sym none ∙ here.2 in cc)
  | inr there ↦ there.0
]

pub joined_past : (es rest : List Entry) (k : ℕ) → slice_get es k ≡ None → joined (drop k es) rest ≡ joined (drop (k + 1) es) rest
joined_past es rest k none = let le = past es k none in ap (λ xs. joined xs rest) (drop_all k es le ∙ sym (drop_all (k + 1) es (omega arith)))

-- ---- a number that goes down

-- the lesser of the two, if there were two
abbrev pub lowest : Option ℕ → ℕ → ℕ
lowest None n = n
lowest (Some m) n = min n m

lowered_at : (p : Option ℕ) (number n : ℕ) → has_upto (Some (lowest p number)) n ≡ (nat_le number n || has_upto p n)
lowered_at None number n = grind (arith, nat_tests)
lowered_at (Some m) number n = grind (arith, nat_tests)

lowered_by : (t : Bool) (o p : Option ℕ) (number n : ℕ) → (t ≡ true → o ≡ p) → has_upto (cond t (Some (lowest p number)) o) n ≡ ((t && nat_le number n) || has_upto o n)
lowered_by true o p number n same = lowered_at p number n ∙ ap (λ r. nat_le number n || has_upto r n) (sym (same refl))
lowered_by false o p number n same = refl

pub lowered : (old new : List Entry) (actor : Actor) (number least : ℕ) → least ≡ lowest (lookup (is_at (actor_cmp actor)) old) number → new ≡ insert_entry actor_cmp old actor least → (e : Entry) → covers_least new e ≡ (is_from actor number e || covers_least old e)
lowered old new actor number least low made e =
    ap (λ es. covers_least es e) made
    ∙ ap (λ o. has_upto o e.1) (lookup-insert_entry actor_cmp actor_total e.0 actor least old)
    ∙ ap (λ m. has_upto (cond (eq_by_cmp actor_cmp e.0 actor) (Some m) (lookup (is_at (actor_cmp e.0)) old)) e.1) low
    ∙ lowered_by (eq_by_cmp actor_cmp e.0 actor) (lookup (is_at (actor_cmp e.0)) old) (lookup (is_at (actor_cmp actor)) old) number e.1 (λ t. ap (λ q. lookup (is_at (actor_cmp q)) old) (tells_apart actor_exact e.0 actor t))

-- ---- a number that some version knows

or_false : (b : Bool) → (b || false) ≡ b
or_false true = refl
or_false false = refl

-- nothing is to be known
upto_any : (n m : ℕ) → n ≡ 0 → nat_le n m ≡ true
upto_any n m none = grind (arith, nat_tests)

covered_none : (v : VersionValue) (vs : List VersionValue) (q : Actor) (n : ℕ) → n ≡ 0 → is_covered (v ∷ vs) q n ≡ true
covered_none v vs q n none = ap (λ b. b || is_covered vs q n) (upto_any n (number_at v.head.vector q) none)

covered_by_index : (i : IndexValue) (vs : List VersionValue) → IsIndex i vs → 0 < length vs → (q : Actor) (n : ℕ) → is_covered vs q n ≡ nat_le n (number_at i.known q)
covered_by_index i [] is some q n = absurd (omega arith)
covered_by_index i (v ∷ vs) is some q n =
    elim (cases_lt 0 n) [
      | inl more ↦ covered_join (v ∷ vs) is.sound q n more ∙ ap (λ es. nat_le n (number_at es q)) (sym is.all)
      | inr none ↦ covered_none v vs q n (omega arith) ∙ sym (upto_any n (number_at i.known q) (omega arith))
    ]

-- ---- heads that a vector covers

middle_ones : (a b c d : Bool) → ((a || b) || (c || d)) ≡ ((a || c) || (b || d))
middle_ones true b c d = refl
middle_ones false true true d = refl
middle_ones false true false d = refl
middle_ones false false c d = refl

any_none : {B : Type 0} (ys : List B) → list_any (λ y. false) ys ≡ false
any_none [] = refl
any_none (y ∷ ys) = any_none ys

any_either : {B : Type 0} (p q : B → Bool) (ys : List B) → (list_any p ys || list_any q ys) ≡ list_any (λ y. p y || q y) ys
any_either p q [] = refl
any_either p q (y ∷ ys) = middle_ones (p y) (list_any p ys) (q y) (list_any q ys) ∙ ap (λ b. (p y || q y) || b) (any_either p q ys)

module _ {A B : Type 0} (test : A → B → Bool) where
  -- whichever of the two lists is gone through first
  any_swapped : (xs : List A) (ys : List B) → list_any (λ x. list_any (test x) ys) xs ≡ list_any (λ y. list_any (λ x. test x y) xs) ys
  any_swapped [] ys = sym (any_none ys)
  any_swapped (x ∷ xs) ys = ap (λ b. list_any (test x) ys || b) (any_swapped xs ys) ∙ any_either (test x) (λ y. list_any (λ z. test z y) xs) ys

entry_by : (t : Bool) (n m k : ℕ) (rest : Bool) → 0 < n → (t ≡ true → k ≡ 0) → rest ≡ nat_le n k → ((t && nat_le n m) || rest) ≡ nat_le n (cond t m k)
entry_by true n m k rest some none same = let e = none refl in let f : rest ≡ false = same ∙ grind (arith, nat_tests) in ap (λ b. nat_le n m || b) f ∙ or_false (nat_le n m)
entry_by false n m k rest some none same = same

-- an entry of the vector is the actor's and has the number, exactly where the vector covers the
-- number
covered_entry : (es : List Entry) (b : Actor) (n : ℕ) → IsVector es → 0 < n → list_any (is_from b n) es ≡ nat_le n (number_at es b)
covered_entry [] b n is some = let none : number_at [] b ≡ 0 = refl in grind (arith, nat_tests)
covered_entry (e ∷ es) b n is some =
    ap (λ t. (t && nat_le n e.1) || list_any (is_from b n) es) ((eq_by_cmp_equiv actor_total).symm e.0 b)
    ∙ entry_by (eq_by_cmp actor_cmp b e.0) n e.1 (number_at es b) (list_any (is_from b n) es) some (λ t. ap (number_at es) (tells_apart actor_exact b e.0 t) ∙ number_at-above e.0 es (Above-tail e es is)) (covered_entry es b n (IsVector-tail e es is) some)
    ∙ ap (nat_le n) (sym (number_at-cons b e es))

covered_heads : (es : List Entry) (vs : List VersionValue) → IsVector es → All IsSound vs → list_any (λ v. list_any (λ e. covers_by_entry e v) es) vs ≡ list_any (covers_version es) vs
covered_heads es [] is sound = refl
covered_heads es (v ∷ vs) is sound = λ i. covered_entry es (actor_of v.head) v.head.number is (All-head IsSound v vs sound).some i || covered_heads es vs is (All-tail IsSound v vs sound) i

some_covered : (i : IndexValue) (vs : List VersionValue) (es : List Entry) → IsIndex i vs → IsVector es → list_any (covers_least i.least) es ≡ list_any (covers_version es) vs
some_covered i vs es is vector = ap (λ f. list_any f es) (fun_ext is.some) ∙ any_swapped covers_by_entry es vs ∙ covered_heads es vs vector is.sound

-- ---- the heads and their index

kept_by : (v : VersionValue) (vs kept : List VersionValue) (t b : Bool) → (t || b) ≡ false → (b ≡ false → kept ≡ vs) → cond (not t) (v ∷ kept) kept ≡ v ∷ vs
kept_by v vs kept true b h rest = absurd (let z : true ≡ false = h in cc)
kept_by v vs kept false b h rest = ap (λ xs. v ∷ xs) (rest h)

-- where no head is covered all stay
pub none_kept : (test : VersionValue → Bool) (vs : List VersionValue) → list_any test vs ≡ false → filter (λ v. not (test v)) vs ≡ vs
none_kept test [] h = refl
none_kept test (v ∷ vs) h = kept_by v vs (filter (λ w. not (test w)) vs) (test v) (list_any test vs) h (none_kept test vs)

-- a version in its order among these
pub index_inserted : (o new : Option IndexValue) (v : VersionValue) (vs : List VersionValue)
    → ((front back : List VersionValue) → IfSome o (λ i. IsIndex i (front ++ back)) → IfSome new (λ i. IsIndex i (front ++ v ∷ back)))
    → IfSome o (λ i. IsIndex i vs) → IfSome new (λ i. IsIndex i (inserted stamp_of v vs))
index_inserted o new v vs adds is =
    let k = position_or_len (stops stamp_of v.head.stamp) vs in
    let P : List VersionValue → Type 0 = λ ws. IfSome o (λ i. IsIndex i ws) in
    let Q : List VersionValue → Type 0 = λ ws. IfSome new (λ i. IsIndex i ws) in
    subst Q (insert_at_stop stamp_of v.head.stamp v vs k refl refl) (adds (take k vs) (drop k vs) (subst P (sym (take-append-drop k vs)) is))

-- ---- a content's index

module _ (o : Option IndexValue) (i : IndexValue) (inside vs : List VersionValue) (view : inside ≡ vs) where
  index_is : IfSome o (λ x. IsIndex x inside) → o ≡ Some i → IsIndex i vs
  index_is h e =
      let P : Option IndexValue → Type 0 = λ p. IfSome p (λ x. IsIndex x inside) in
      subst (IsIndex i) view (subst P e h)

  pub covers_is : (q : Actor) (n number : ℕ) (known : List Entry) → IfSome o (λ x. IsIndex x inside) → o ≡ Some i → 0 < length inside → number ≡ number_at known q → known ≡ i.known → nat_le n number ≡ is_covered vs q n
  covers_is q n number known h e some read same = ap (nat_le n) (read ∙ ap (λ es. number_at es q) same) ∙ sym (covered_by_index i vs (index_is h e) (subst (λ xs. 0 < length xs) view some) q n)

  pub replaces_is : (t : Bool) (head : Head) (v : VersionValue) → IfSome o (λ x. IsIndex x inside) → o ≡ Some i → t ≡ list_any (covers_least i.least) head.vector → IsVector head.vector → head ≡ v.head → t ≡ list_any (covers_version v.head.vector) vs
  replaces_is t head v h e some vector same = some ∙ some_covered i vs head.vector (index_is h e) vector ∙ ap (λ (x : Head). list_any (covers_version x.vector) vs) same

  pub most_is : (r : Result (List Entry) AllocError) (known : List Entry) → IfSome o (λ x. IsIndex x inside) → o ≡ Some i → IfOk r (λ v. v ≡ known) → known ≡ i.known
      → IfOk r (λ v. (q : Actor) (n : ℕ) → 0 < n → All (λ w. number_at w.head.vector q < n) vs → number_at v q < n)
  most_is (Ok v) known h e same is = λ q n some below. subst (λ es. number_at es q < n) (sym (same ∙ is)) (known_below vs i.known (index_is h e).sound (index_is h e).all q n some below)
  most_is (Err x) known h e same is = tt
