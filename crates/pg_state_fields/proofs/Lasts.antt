-- What is behind the last key comes last.
use Rattle.std.proofs.Common.{◌≡◌, true, List, [], ◌∷◌, ◌++◌, Option, None, Some, Less, Equal, Greater, refl, ap, ◌∙◌}
use Rattle.std.specs.declared.cmp.Ordering.{Ordering}
use Rattle.std.specs.Ordering.{is_lt, match_ordering, ordering_reverse}
use Rattle.std.specs.Cmp.{IsTotalOrder}
use Rattle.std.specs.List.{AllByRecursion}
use Rattle.std.specs.BTreeMap.{insert_entry}
use Rattle.pg_state_fields.specs.Orders.{is_behind}

-- whatever is behind the last key is behind all
abbrev pub Up : {K X : Type 0} → (K → K → Ordering) → Option K → List (K × X) → Type 0
Up {K = K} {X = X} R last es = (k : K) → is_behind R last k ≡ true → AllByRecursion (λ (e : K × X). R k e.0 ≡ Greater) es

pub insert_last : {K X : Type 0} (R : K → K → Ordering) (k : K) (v : X) (es : List (K × X)) → AllByRecursion (λ (e : K × X). R k e.0 ≡ Greater) es
    → insert_entry R es k v ≡ es ++ (k, v) ∷ []
insert_last R k v [] all = refl
insert_last R k v (e ∷ es) all =
    ap (λ r. match_ordering r ((k, v) ∷ e ∷ es) ((e.0, v) ∷ es) (e ∷ insert_entry R es k v)) all.0 ∙ ap (λ xs. e ∷ xs) (insert_last R k v es all.1)

pub less_of : (o : Ordering) → is_lt o ≡ true → o ≡ Less
less_of Less h = refl
less_of Equal h = cc
less_of Greater h = cc

pub greater_of : {K : Type 0} (R : K → K → Ordering) → IsTotalOrder R → (k q : K) → R k q ≡ Less → R q k ≡ Greater
greater_of R o k q less = o.antisymm q k ∙ ap ordering_reverse less

behind_also : {K : Type 0} (R : K → K → Ordering) → IsTotalOrder R → (last : Option K) (k q : K) → is_behind R last k ≡ true → R k q ≡ Less
    → is_behind R last q ≡ true
behind_also R o None k q behind less = refl
behind_also R o (Some l) k q behind less = ap is_lt (o.trans l k q (less_of (R l k) behind) less)

pub all_last : {K X : Type 0} (R : K → K → Ordering) (q k : K) (v : X) (es : List (K × X)) → AllByRecursion (λ (e : K × X). R q e.0 ≡ Greater) es → R q k ≡ Greater
    → AllByRecursion (λ (e : K × X). R q e.0 ≡ Greater) (es ++ (k, v) ∷ [])
all_last R q k v [] all one = (one, tt)
all_last R q k v (e ∷ es) all one = (all.0, all_last R q k v es all.1 one)

pub up_more : {K X : Type 0} (R : K → K → Ordering) → IsTotalOrder R → (last : Option K) (k : K) (v : X) (es : List (K × X)) → Up R last es → is_behind R last k ≡ true
    → Up R (Some k) (es ++ (k, v) ∷ [])
up_more R o last k v es up behind q after =
    let less = less_of (R k q) after in
    all_last R q k v es (up q (behind_also R o last k q behind less)) (greater_of R o k q less)

pub none_up : {K : Type 0} (X : Type 0) (R : K → K → Ordering) → Up {X = X} R None []
none_up X R k behind = tt
