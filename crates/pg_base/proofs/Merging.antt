-- A join of two vectors, one entry at a time from the front.
use Rattle.std.proofs.Common.{◌≡◌, ℕ, zero, suc, ◌+◌, ◌-◌, take, drop, ◌<◌, ◌≤◌, max, cond, Some, unwrap_or, List, [], ◌∷◌, ◌++◌, length, get_or, ◌⊎◌, inl, inr, refl, sym, ap, subst, ◌∙◌, arith, Less, Equal, Greater}
use Rattle.std.specs.Ordering.{is_eq, match_ordering, ordering_reverse}
use Rattle.std.specs.Cmp.{tied_itself}
use Rattle.std.specs.Map.{lookup}
use Rattle.std.specs.BTreeMap.{is_at, insert_entry}
use Rattle.std.proofs.lemmas.List.{drop_more, drop_all, take_rest, append_assoc, append-nil}
use Rattle.std.proofs.lemmas.List.Elements.{All-head, All-tail, All-cons, All-weaker}
use Rattle.pg_base.specs.declared.vector.Actor.{Actor}
use Rattle.pg_base.specs.Vector.{actor_cmp, IsVector, number_at, raised, joined}
use Rattle.pg_base.proofs.Entries.{insert_entry-above, All-insert_entry}
use Rattle.pg_base.proofs.Vectors.{Entry, actor_total, actor_exact, Above, Above-tail, IsVector-tail, IsEntry-head, IsVector-joined, number_at-joined, number_at-above, raised-more}

-- ---- a join, one entry at a time from the front
raised-above : (a : Actor) (n : ℕ) (es : List Entry) → 1 ≤ n → Above a es → raised es a n ≡ (a, n) ∷ es
raised-above a n es more h =
    let none : max (number_at es a) n ≡ n = omega (arith, number_at-above a es h) in
    raised-more es a n more ∙ ap (insert_entry actor_cmp es a) none ∙ insert_entry-above actor_cmp a n es h

raised-below : (e : Entry) (es : List Entry) (a : Actor) (n : ℕ) → 1 ≤ n → actor_cmp e.0 a ≡ Less → raised (e ∷ es) a n ≡ e ∷ raised es a n
raised-below e es a n more less =
    let past : actor_cmp a e.0 ≡ Greater = actor_total.antisymm a e.0 ∙ ap ordering_reverse less in
    let other : number_at (e ∷ es) a ≡ number_at es a = ap (λ o. unwrap_or (cond (is_eq o) (Some e.1) (lookup (is_at (actor_cmp a)) es)) 0) past in
    raised-more (e ∷ es) a n more
    ∙ ap (λ m. insert_entry actor_cmp (e ∷ es) a (max m n)) other
    ∙ ap (λ o. match_ordering o ((a, max (number_at es a) n) ∷ e ∷ es) ((e.0, max (number_at es a) n) ∷ es) (e ∷ insert_entry actor_cmp es a (max (number_at es a) n))) past
    ∙ ap (λ xs. e ∷ xs) (sym (raised-more es a n more))

raised-here : (e : Entry) (es : List Entry) (a : Actor) (n : ℕ) → 1 ≤ n → a ≡ e.0 → raised (e ∷ es) a n ≡ (e.0, max e.1 n) ∷ es
raised-here e es a n more same =
    let tied : actor_cmp a e.0 ≡ Equal = subst (λ x. actor_cmp a x ≡ Equal) same (tied_itself actor_total a) in
    let number : number_at (e ∷ es) a ≡ e.1 = ap (λ o. unwrap_or (cond (is_eq o) (Some e.1) (lookup (is_at (actor_cmp a)) es)) 0) tied in
    raised-more (e ∷ es) a n more
    ∙ ap (λ m. insert_entry actor_cmp (e ∷ es) a (max m n)) number
    ∙ ap (λ o. match_ordering o ((a, max e.1 n) ∷ e ∷ es) ((e.0, max e.1 n) ∷ es) (e ∷ insert_entry actor_cmp es a (max e.1 n))) tied

Above-raised : (a : Actor) (es : List Entry) (b : Actor) (n : ℕ) → 1 ≤ n → Above a es → actor_cmp a b ≡ Less → Above a (raised es b n)
Above-raised a es b n more h less =
    subst (Above a) (sym (raised-more es b n more)) (All-insert_entry actor_cmp (λ (e : Entry). actor_cmp a e.0 ≡ Less) b (max (number_at es b) n) es h less (λ e t. subst (λ x. actor_cmp a x ≡ Less) (actor_exact b e.0 t) less))

Above-joined : (a : Actor) (xs ys : List Entry) → IsVector xs → Above a xs → Above a ys → Above a (joined xs ys)
Above-joined a [] ys v h g = g
Above-joined a (x ∷ xs) ys v h g =
    Above-raised a (joined xs ys) x.0 x.1 (IsEntry-head x xs v).least (Above-joined a xs ys (IsVector-tail x xs v) (All-tail (λ (e : Entry). actor_cmp a e.0 ≡ Less) x xs h) g) (All-head (λ (e : Entry). actor_cmp a e.0 ≡ Less) x xs h)

pub joined-nil : (xs : List Entry) → IsVector xs → joined xs [] ≡ xs
joined-nil [] v = refl
joined-nil (x ∷ xs) v = ap (λ es. raised es x.0 x.1) (joined-nil xs (IsVector-tail x xs v)) ∙ raised-above x.0 x.1 xs (IsEntry-head x xs v).least (Above-tail x xs v)

-- the second's first is below all of the first
joined-second : (y : Entry) (xs ys : List Entry) → IsVector xs → Above y.0 xs → joined xs (y ∷ ys) ≡ y ∷ joined xs ys
joined-second y [] ys v h = refl
joined-second y (x ∷ xs) ys v h =
    ap (λ es. raised es x.0 x.1) (joined-second y xs ys (IsVector-tail x xs v) (All-tail (λ (e : Entry). actor_cmp y.0 e.0 ≡ Less) x xs h))
    ∙ raised-below y (joined xs ys) x.0 x.1 (IsEntry-head x xs v).least (All-head (λ (e : Entry). actor_cmp y.0 e.0 ≡ Less) x xs h)

below_all : (a b : Actor) (es : List Entry) → actor_cmp a b ≡ Less → Above b es → Above a es
below_all a b es less h = All-weaker (λ (e : Entry). actor_cmp b e.0 ≡ Less) (λ (e : Entry). actor_cmp a e.0 ≡ Less) (λ e t. actor_total.trans a b e.0 less t) es h

Above-cons : (a : Actor) (e : Entry) (es : List Entry) → actor_cmp a e.0 ≡ Less → IsVector (e ∷ es) → Above a (e ∷ es)
Above-cons a e es less v = All-cons (λ (e : Entry). actor_cmp a e.0 ≡ Less) e es less (below_all a e.0 es less (Above-tail e es v))

pub joined-less : (x y : Entry) (xs ys : List Entry) → IsVector (x ∷ xs) → IsVector (y ∷ ys) → actor_cmp x.0 y.0 ≡ Less → joined (x ∷ xs) (y ∷ ys) ≡ x ∷ joined xs (y ∷ ys)
joined-less x y xs ys v w less =
    raised-above x.0 x.1 (joined xs (y ∷ ys)) (IsEntry-head x xs v).least (Above-joined x.0 xs (y ∷ ys) (IsVector-tail x xs v) (Above-tail x xs v) (Above-cons x.0 y ys less w))

pub joined-greater : (x y : Entry) (xs ys : List Entry) → IsVector (x ∷ xs) → IsVector (y ∷ ys) → actor_cmp x.0 y.0 ≡ Greater → joined (x ∷ xs) (y ∷ ys) ≡ y ∷ joined (x ∷ xs) ys
joined-greater x y xs ys v w greater =
    joined-second y (x ∷ xs) ys v (Above-cons y.0 x xs (actor_total.antisymm y.0 x.0 ∙ ap ordering_reverse greater) v)

pub joined-equal : (x y : Entry) (xs ys : List Entry) → IsVector (x ∷ xs) → IsVector (y ∷ ys) → actor_cmp x.0 y.0 ≡ Equal → joined (x ∷ xs) (y ∷ ys) ≡ (x.0, max x.1 y.1) ∷ joined xs ys
joined-equal x y xs ys v w equal =
    let same = actor_exact x.0 y.0 equal in
    let number : max y.1 x.1 ≡ max x.1 y.1 = omega arith in
    ap (λ es. raised es x.0 x.1) (joined-second y xs ys (IsVector-tail x xs v) (subst (λ a. Above a xs) same (Above-tail x xs v)))
    ∙ raised-here y (joined xs ys) x.0 x.1 (IsEntry-head x xs v).least same
    ∙ (λ i. (sym same i, number i) ∷ joined xs ys)

-- ---- a merge, which has come to index i of the first and to index j of the second
IsVector-drop : (i : ℕ) (es : List Entry) → IsVector es → IsVector (drop i es)
IsVector-drop zero es v = v
IsVector-drop (suc i) [] v = v
IsVector-drop (suc i) (e ∷ es) v = IsVector-drop i es (IsVector-tail e es v)

module _ (xs ys : List Entry) (v : IsVector xs) (w : IsVector ys) (i j : ℕ) where
  one_more : (out rest : List Entry) (e : Entry) → joined (drop i xs) (drop j ys) ≡ e ∷ rest → (out ++ e ∷ []) ++ rest ≡ out ++ joined (drop i xs) (drop j ys)
  one_more out rest e same = append_assoc out (e ∷ []) rest ∙ ap (λ es. out ++ es) (sym same)

  module _ (d : Entry) (in_xs : i < length xs) (in_ys : j < length ys) where
    first : IsVector (get_or xs i d ∷ drop (i + 1) xs)
    first = subst IsVector (drop_more xs i d in_xs) (IsVector-drop i xs v)

    second : IsVector (get_or ys j d ∷ drop (j + 1) ys)
    second = subst IsVector (drop_more ys j d in_ys) (IsVector-drop j ys w)

    opened : joined (drop i xs) (drop j ys) ≡ joined (get_or xs i d ∷ drop (i + 1) xs) (get_or ys j d ∷ drop (j + 1) ys)
    opened = λ k. joined (drop_more xs i d in_xs k) (drop_more ys j d in_ys k)

    pub merge_less : (out new : List Entry) → actor_cmp (get_or xs i d).0 (get_or ys j d).0 ≡ Less → new ≡ out ++ get_or xs i d ∷ [] → new ++ joined (drop (i + 1) xs) (drop j ys) ≡ out ++ joined (drop i xs) (drop j ys)
    merge_less out new less e =
        ap (λ es. es ++ joined (drop (i + 1) xs) (drop j ys)) e
        ∙ one_more out (joined (drop (i + 1) xs) (drop j ys)) (get_or xs i d) (opened ∙ joined-less (get_or xs i d) (get_or ys j d) (drop (i + 1) xs) (drop (j + 1) ys) first second less ∙ ap (λ zs. get_or xs i d ∷ joined (drop (i + 1) xs) zs) (sym (drop_more ys j d in_ys)))

    pub merge_greater : (out new : List Entry) → actor_cmp (get_or xs i d).0 (get_or ys j d).0 ≡ Greater → new ≡ out ++ get_or ys j d ∷ [] → new ++ joined (drop i xs) (drop (j + 1) ys) ≡ out ++ joined (drop i xs) (drop j ys)
    merge_greater out new greater e =
        ap (λ es. es ++ joined (drop i xs) (drop (j + 1) ys)) e
        ∙ one_more out (joined (drop i xs) (drop (j + 1) ys)) (get_or ys j d) (opened ∙ joined-greater (get_or xs i d) (get_or ys j d) (drop (i + 1) xs) (drop (j + 1) ys) first second greater ∙ ap (λ zs. get_or ys j d ∷ joined zs (drop (j + 1) ys)) (sym (drop_more xs i d in_xs)))

    pub merge_equal : (out new : List Entry) (n : ℕ) → actor_cmp (get_or xs i d).0 (get_or ys j d).0 ≡ Equal → n ≡ max (get_or xs i d).1 (get_or ys j d).1 → new ≡ out ++ ((get_or xs i d).0, n) ∷ [] → new ++ joined (drop (i + 1) xs) (drop (j + 1) ys) ≡ out ++ joined (drop i xs) (drop j ys)
    merge_equal out new n equal number e =
        ap (λ es. es ++ joined (drop (i + 1) xs) (drop (j + 1) ys)) (e ∙ ap (λ m. out ++ ((get_or xs i d).0, m) ∷ []) number)
        ∙ one_more out (joined (drop (i + 1) xs) (drop (j + 1) ys)) ((get_or xs i d).0, max (get_or xs i d).1 (get_or ys j d).1) (opened ∙ joined-equal (get_or xs i d) (get_or ys j d) (drop (i + 1) xs) (drop (j + 1) ys) first second equal)

  -- one of the two has come to its end
  pub merge_rest : (length xs ≤ i) ⊎ (length ys ≤ j) → (out mid new : List Entry) → mid ≡ out ++ take (length xs - i) (drop i xs) → new ≡ mid ++ take (length ys - j) (drop j ys) → new ≡ out ++ joined (drop i xs) (drop j ys)
  merge_rest h out mid new e f =
      let all : new ≡ out ++ (drop i xs ++ drop j ys) = f ∙ ap (λ es. mid ++ es) (take_rest ys j) ∙ ap (λ es. es ++ drop j ys) (e ∙ ap (λ es. out ++ es) (take_rest xs i)) ∙ append_assoc out (drop i xs) (drop j ys) in
      all ∙ ap (λ es. out ++ es) (elim h [
        | inl past ↦ ap (λ es. es ++ drop j ys) (drop_all i xs past) ∙ sym (ap (λ es. joined es (drop j ys)) (drop_all i xs past))
        | inr past ↦ ap (λ es. drop i xs ++ es) (drop_all j ys past) ∙ append-nil (drop i xs) ∙ sym (joined-nil (drop i xs) (IsVector-drop i xs v)) ∙ sym (ap (joined (drop i xs)) (drop_all j ys past))
      ])

-- what a merge of two vectors made
pub vectors_joined : (made start mine theirs xs ys : List Entry) → IsVector mine → IsVector theirs → start ≡ [] → xs ≡ mine → ys ≡ theirs → made ≡ start ++ joined xs ys → IsVector made × ((q : Actor) → number_at made q ≡ max (number_at mine q) (number_at theirs q))
vectors_joined made start mine theirs xs ys v w none first second e =
    let is : made ≡ joined mine theirs = e ∙ ap (λ es. es ++ joined xs ys) none ∙ (λ i. joined (first i) (second i)) in
    (subst IsVector (sym is) (IsVector-joined mine theirs v w), λ q. ap (λ es. number_at es q) is ∙ number_at-joined mine theirs v q)
