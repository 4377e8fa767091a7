-- Joins of several vectors: at each actor the greatest of their numbers, and how many actors there
-- are.
use Rattle.std.proofs.Common.{◌≡◌, ℕ, ◌+◌, ◌-◌, ◌<◌, ◌≤◌, ◌^◌, take, max, min, Bool, true, false, cond, not, nat_le, nat_lt, ◌||◌, List, [], ◌∷◌, ◌++◌, length, get_or, map, ◌⊎◌, inl, inr, refl, sym, ap, subst, ◌∙◌, arith}
use Rattle.std.specs.List.{All, fold, count_by}
use Rattle.std.proofs.lemmas.Bool.{cases_lt}
use Rattle.std.proofs.lemmas.Bool.Decides.{nat_tests}
use Rattle.std.proofs.lemmas.List.{take_all, take_more}
use Rattle.std.proofs.lemmas.List.Elements.{All-head, All-tail, All-cons, All-nil}
use Rattle.std.proofs.lemmas.List.Sums.{fold-append}
use mathlib.Core.Path.{fun_ext}
use Rattle.pg_base.specs.declared.vector.Actor.{Actor}
use Rattle.pg_base.specs.Vector.{IsVector, number_at, joined}
use Rattle.pg_base.specs.declared.head.Head.{Head}
use Rattle.pg_base.specs.Version.{VersionValue, IsVersion}
use Rattle.pg_base.proofs.Lengths.{length-joined, length-raised}
use Rattle.pg_base.proofs.Vectors.{Entry, IsVector-nil, IsVector-joined, joined-comm, number_at-joined}
use Rattle.pg_content.specs.Content.{Among, actor_limit, is_covered, join_of, joined_all, next_vector}
use Rattle.pg_content.specs.Index.{IsSound}

-- the greatest number of the actor in one of the vectors
abbrev pub greatest : List (List Entry) → Actor → ℕ
greatest [] q = 0
greatest (v ∷ vs) q = max (number_at v q) (greatest vs q)

folded : (vs : List (List Entry)) (start : List Entry) → IsVector start → All IsVector vs
    → IsVector (fold joined start vs) × ((q : Actor) → number_at (fold joined start vs) q ≡ max (number_at start q) (greatest vs q))
folded [] start is each = (is, λ q. omega arith)
folded (v ∷ vs) start is each =
    let first = All-head IsVector v vs each in
    let rest = folded vs (joined start v) (IsVector-joined start v is first) (All-tail IsVector v vs each) in
    (rest.0, λ q. omega (arith, rest.1 q, number_at-joined start v is q))

pub empty_vector : IsVector []
empty_vector = IsVector-nil [] refl

pub IsVector-all : (vs : List (List Entry)) → All IsVector vs → IsVector (joined_all vs)
IsVector-all vs each = (folded vs [] empty_vector each).0

pub number_at-all : (vs : List (List Entry)) → All IsVector vs → (q : Actor) → number_at (joined_all vs) q ≡ greatest vs q
number_at-all vs each q =
    let all = (folded vs [] empty_vector each).1 q in
    let none : number_at [] q ≡ 0 = refl in
    omega arith

greatest_upto : (vs : List (List Entry)) (v : List Entry) (q : Actor) → Among v vs → number_at v q ≤ greatest vs q
greatest_upto [] v q k = absurd k
greatest_upto (w ∷ vs) v q k = elim k [
  | inl same ↦ (let e : number_at v q ≡ number_at w q = ap (λ u. number_at u q) same in omega arith)
  | inr later ↦ (let rest = greatest_upto vs v q later in omega arith)
]

greatest_from : (vs : List (List Entry)) (q : Actor) → (greatest vs q ≡ 0) ⊎ ((v : List Entry) × Among v vs × (greatest vs q ≡ number_at v q))
greatest_from [] q = inl refl
greatest_from (w ∷ vs) q =
    elim (cases_lt (greatest vs q) (number_at w q)) [
      | inl less ↦ inr (w, inl refl, omega arith)
      | inr more ↦ elim (greatest_from vs q) [
        | inl none ↦ inl (omega arith)
        | inr r ↦ (let e = r.2 in inr (r.0, inr r.1, omega arith))
      ]
    ]

-- what each knows the join knows
pub all_upto : (vs : List (List Entry)) → All IsVector vs → (v : List Entry) → Among v vs → (q : Actor) → number_at v q ≤ number_at (joined_all vs) q
all_upto vs each v k q = let e = number_at-all vs each q in let le = greatest_upto vs v q k in omega arith

-- and what the join knows one of them knows
pub all_from : (vs : List (List Entry)) → All IsVector vs → (q : Actor) → (number_at (joined_all vs) q ≡ 0) ⊎ ((v : List Entry) × Among v vs × (number_at (joined_all vs) q ≡ number_at v q))
all_from vs each q =
    let e = number_at-all vs each q in
    elim (greatest_from vs q) [
      | inl none ↦ inl (e ∙ none)
      | inr r ↦ inr (r.0, r.1, e ∙ r.2)
    ]

-- ---- of versions

abbrev pub vectors : List VersionValue → List (List Entry)
vectors vs = map (λ v. v.head.vector) vs

pub sound_vectors : (vs : List VersionValue) → All IsSound vs → All IsVector (vectors vs)
sound_vectors [] sound = All-nil IsVector
sound_vectors (v ∷ vs) sound = All-cons IsVector v.head.vector (vectors vs) (All-head IsSound v vs sound).vector (sound_vectors vs (All-tail IsSound v vs sound))

pub join_vector : (vs : List VersionValue) → All IsSound vs → IsVector (join_of vs)
join_vector vs sound = IsVector-all (vectors vs) (sound_vectors vs sound)

pub join_number : (vs : List VersionValue) → All IsSound vs → (q : Actor) → number_at (join_of vs) q ≡ greatest (vectors vs) q
join_number vs sound q = number_at-all (vectors vs) (sound_vectors vs sound) q

upto_either : (n m k : ℕ) → (nat_le n m || nat_le n k) ≡ nat_le n (max m k)
upto_either n m k = grind (arith, nat_tests)

upto_zero : (n : ℕ) → 0 < n → nat_le n 0 ≡ false
upto_zero n some = grind (arith, nat_tests)

-- some version covers a number where the greatest of their numbers reaches it
pub covered_greatest : (vs : List VersionValue) (q : Actor) (n : ℕ) → 0 < n → is_covered vs q n ≡ nat_le n (greatest (vectors vs) q)
covered_greatest [] q n some = sym (upto_zero n some)
covered_greatest (v ∷ vs) q n some =
    ap (λ b. nat_le n (number_at v.head.vector q) || b) (covered_greatest vs q n some) ∙ upto_either n (number_at v.head.vector q) (greatest (vectors vs) q)

pub covered_join : (vs : List VersionValue) → All IsSound vs → (q : Actor) (n : ℕ) → 0 < n → is_covered vs q n ≡ nat_le n (number_at (join_of vs) q)
covered_join vs sound q n some = covered_greatest vs q n some ∙ ap (nat_le n) (sym (join_number vs sound q))

-- no version knows more than all of them, and they no more than one of them
pub greatest_below : (vs : List VersionValue) (q : Actor) (n : ℕ) → 0 < n → All (λ v. number_at v.head.vector q < n) vs → greatest (vectors vs) q < n
greatest_below [] q n some below = some
greatest_below (v ∷ vs) q n some below =
    let P : VersionValue → Type 0 = λ w. number_at w.head.vector q < n in
    let first = All-head P v vs below in
    let rest = greatest_below vs q n some (All-tail P v vs below) in
    omega arith

pub join_below : (vs : List VersionValue) → All IsSound vs → (q : Actor) (n : ℕ) → 0 < n → All (λ v. number_at v.head.vector q < n) vs → number_at (join_of vs) q < n
join_below vs sound q n some below = let e = join_number vs sound q in let most = greatest_below vs q n some below in omega arith

-- ---- one version after another

sound_behind : (vs : List VersionValue) (v : VersionValue) → All IsSound vs → IsSound v → All IsSound (vs ++ v ∷ [])
sound_behind [] v sound one = All-cons IsSound v [] one (All-nil IsSound)
sound_behind (w ∷ vs) v sound one = All-cons IsSound w (vs ++ v ∷ []) (All-head IsSound w vs sound) (sound_behind vs v (All-tail IsSound w vs sound) one)

vectors_behind : (vs : List VersionValue) (v : VersionValue) → vectors (vs ++ v ∷ []) ≡ vectors vs ++ v.head.vector ∷ []
vectors_behind [] v = refl
vectors_behind (w ∷ vs) v = ap (λ xs. w.head.vector ∷ xs) (vectors_behind vs v)

join_behind : (vs : List VersionValue) (v : VersionValue) → join_of (vs ++ v ∷ []) ≡ joined (join_of vs) v.head.vector
join_behind vs v = ap joined_all (vectors_behind vs v) ∙ fold-append joined [] (vectors vs) (v.head.vector ∷ [])

-- what a loop over versions has joined so far
pub record IsJoin (vs : List VersionValue) (i : ℕ) (known : List Entry) : Type 0 where
  pub sound : All IsSound (take i vs)
  pub all : known ≡ join_of (take i vs)

pub join_more : (vs : List VersionValue) (i : ℕ) (d : VersionValue) (old new : List Entry) → i < length vs → IsSound (get_or vs i d) → new ≡ joined old (get_or vs i d).head.vector → IsJoin vs i old → IsJoin vs (i + 1) new
join_more vs i d old new lt one made is =
    let more = sym (take_more vs i d lt) in
    record {
      sound = subst (All IsSound) more (sound_behind (take i vs) (get_or vs i d) is.sound one);
      all = made ∙ ap (λ es. joined es (get_or vs i d).head.vector) is.all ∙ sym (join_behind (take i vs) (get_or vs i d)) ∙ ap join_of more;
    }

pub join_whole : (vs : List VersionValue) (i : ℕ) (known : List Entry) → length vs ≤ i → IsJoin vs i known → All IsSound vs × (known ≡ join_of vs)
join_whole vs i known le is = let whole = take_all i vs le in (subst (All IsSound) whole is.sound, is.all ∙ ap join_of whole)

pub known_below : (vs : List VersionValue) (known : List Entry) → All IsSound vs → known ≡ join_of vs → (q : Actor) (n : ℕ) → 0 < n → All (λ v. number_at v.head.vector q < n) vs → number_at known q < n
known_below vs known sound is q n some below = subst (λ es. number_at es q < n) (sym is) (join_below vs sound q n some below)

-- ---- how many actors

module _ (vs : List VersionValue) (sound : All IsSound vs) (es : List Entry) (is : IsVector es) where
  same_new : (e : Entry) → not (nat_le 1 (number_at (join_of vs) e.0)) ≡ not (is_covered vs e.0 1)
  same_new e = ap not (sym (covered_join vs sound e.0 1 (omega arith)))

  pub length-join_more : length (joined (join_of vs) es) ≡ length (join_of vs) + count_by (λ e. not (is_covered vs e.0 1)) es
  length-join_more =
      ap length (joined-comm (join_of vs) es (join_vector vs sound) is) ∙ length-joined es (join_of vs) is (join_vector vs sound)
      ∙ ap (λ p. length (join_of vs) + count_by p es) (fun_ext same_new)

-- what a count of actors has come to, behind so many versions
pub record AreCounted (vs : List VersionValue) (i n : ℕ) : Type 0 where
  pub sound : All IsSound (take i vs)
  pub count : n ≡ min (length (join_of (take i vs))) (2 ^ 64 - 1)

pub counted_more : (vs : List VersionValue) (i old new count : ℕ) (d : VersionValue) → i < length vs → IsSound (get_or vs i d)
    → count ≡ count_by (λ e. not (is_covered (take i vs) e.0 1)) (get_or vs i d).head.vector → new ≡ min (old + count) (2 ^ 64 - 1)
    → AreCounted vs i old → AreCounted vs (i + 1) new
counted_more vs i old new count d lt one some made is =
    let v = get_or vs i d in
    let more = sym (take_more vs i d lt) in
    let sound = sound_behind (take i vs) v is.sound one in
    let size : length (join_of (take i vs ++ v ∷ [])) ≡ length (join_of (take i vs)) + count = ap length (join_behind (take i vs) v) ∙ length-join_more (take i vs) is.sound v.head.vector one.vector ∙ ap (λ n. length (join_of (take i vs)) + n) (sym some) in
    let before = is.count in
    record {
      sound = subst (All IsSound) more sound;
      count = subst (λ ws. new ≡ min (length (join_of ws)) (2 ^ 64 - 1)) more (omega arith);
    }

pub counted_whole : (vs : List VersionValue) (i n : ℕ) → length vs ≤ i → AreCounted vs i n → All IsSound vs × (n ≡ min (length (join_of vs)) (2 ^ 64 - 1))
counted_whole vs i n le is = let whole = take_all i vs le in (subst (All IsSound) whole is.sound, is.count ∙ ap (λ ws. min (length (join_of ws)) (2 ^ 64 - 1)) whole)

-- how many the next version of an actor knows
module _ (vs : List VersionValue) (sound : All IsSound vs) (a : Actor) where
  length_next : length (next_vector vs a) + cond (is_covered vs a 1) 1 0 ≡ length (join_of vs) + 1
  length_next =
      ap (λ b. length (next_vector vs a) + cond b 1 0) (covered_join vs sound a 1 (omega arith))
      ∙ length-raised (join_of vs) a (number_at (join_of vs) a + 1) (join_vector vs sound) (omega arith)

  pub many_by : (b : Bool) (n : ℕ) → is_covered vs a 1 ≡ b → n ≡ min (length (join_of vs)) (2 ^ 64 - 1) → cond b (nat_lt 256 n) (nat_le 256 n) ≡ nat_lt actor_limit (length (next_vector vs a))
  many_by true n e count =
      let size : length (next_vector vs a) + 1 ≡ length (join_of vs) + 1 = sym (ap (λ b. length (next_vector vs a) + cond b 1 0) e) ∙ length_next in
      grind (arith, nat_tests)
  many_by false n e count =
      let size : length (next_vector vs a) + 0 ≡ length (join_of vs) + 1 = sym (ap (λ b. length (next_vector vs a) + cond b 1 0) e) ∙ length_next in
      grind (arith, nat_tests)

-- ---- what the program's steps say

pub sound_from : (v w : VersionValue) (h : Head) → v ≡ w → h ≡ v.head → IsVersion v → IsVector h.vector → IsSound w
sound_from v w h is same version vector =
    let P : Head → Type 0 = λ g. IsVector g.vector in
    subst IsSound is (record { vector = subst P same vector; some = version.some })
