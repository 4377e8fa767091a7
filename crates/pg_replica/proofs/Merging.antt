-- Going over a part of a map's keys in place of all its entries.
use Rattle.std.proofs.Common.{◌≡◌, Bool, true, false, cond, Option, None, Some, is_some, List, [], ◌∷◌, ◌++◌, map, get_or, refl, sym, ap, subst, ◌∙◌, Equal}
use Rattle.std.specs.declared.cmp.Ordering.{Ordering}
use Rattle.std.specs.Option.{option_map}
use Rattle.std.specs.Cmp.{IsTotalOrder}
use Rattle.std.specs.List.{AllByRecursion, filter, flat_map}
use Rattle.std.specs.List.Sorted.{IsStrictlySortedBy}
use Rattle.std.specs.Map.{keys_of, lookup}
use Rattle.std.specs.BTreeMap.{is_at}
use Rattle.std.proofs.lemmas.List.Elements.{recursion_from_All}
use Rattle.std.proofs.lemmas.List.Folds.{flat_map-map}
use Rattle.std.proofs.lemmas.List.Kept.{IsStrictlySortedBy-filter}
use Rattle.std.proofs.lemmas.Map.Lookups.{CmpEqualImpliesEq}
use Rattle.std.proofs.lemmas.Map.Made.{lookup-map_values, keys_of-map_values}
use Rattle.pg_base.proofs.Maps.{lookup-where_key}
use Rattle.pg_base.proofs.Entries.{entries_from_lookup, lookup-place}

-- pieces that are empty may be left out
pub flat_map-filter : {X A : Type 0} (f : X → List A) (p : X → Bool) (xs : List X) → ((x : X) → p x ≡ false → f x ≡ []) → flat_map f (filter p xs) ≡ flat_map f xs
flat_map-filter f p [] none = refl
flat_map-filter f p (x ∷ xs) none =
    elim (p x) as (λ b. p x ≡ b → flat_map f (cond b (x ∷ filter p xs) (filter p xs)) ≡ f x ++ flat_map f xs) [
      | true ↦ λ h. ap (λ l. f x ++ l) (flat_map-filter f p xs none)
      | false ↦ λ h. flat_map-filter f p xs none ∙ sym (ap (λ l. l ++ flat_map f xs) (none x h))
    ] refl

keys_of-filter : {K X : Type 0} (p : K → Bool) (es : List (K × X)) → keys_of (filter (λ (e : K × X). p e.0) es) ≡ filter p (keys_of es)
keys_of-filter p [] = refl
keys_of-filter {K} {X} p (e ∷ es) =
    elim (p e.0) as (λ b. keys_of (cond b (e ∷ filter (λ (f : K × X). p f.0) es) (filter (λ (f : K × X). p f.0) es)) ≡ cond b (e.0 ∷ filter p (keys_of es)) (filter p (keys_of es))) [
      | true ↦ ap (λ ks. e.0 ∷ ks) (keys_of-filter p es)
      | false ↦ keys_of-filter p es
    ]

is_some-false : {X : Type 0} (o : Option X) → is_some o ≡ false → o ≡ None
is_some-false None h = refl
is_some-false (Some x) h = cc

both_ways : {X : Type 0} (u : Option (Unit {0})) (x : Option X) → cond (is_some x) u None ≡ option_map (λ (y : X). tt) (cond (is_some u) x None)
both_ways None None = refl
both_ways None (Some x) = refl
both_ways (Some u) None = refl
both_ways (Some u) (Some x) = refl

module _ {K : Type 0} (R : K → K → Ordering) where
  alike : CmpEqualImpliesEq R → (p : K → Bool) (q x : K) → R q x ≡ Equal → p x ≡ p q
  alike exact p q x e = ap p (sym (exact q x e))

  -- the entries whose keys pass are in order too
  pub sorted_filter : {X : Type 0} (p : K → Bool) (es : List (K × X)) → IsStrictlySortedBy R (keys_of es) → IsStrictlySortedBy R (keys_of (filter (λ (e : K × X). p e.0) es))
  sorted_filter p es s = subst (IsStrictlySortedBy R) (sym (keys_of-filter p es)) (IsStrictlySortedBy-filter R p (keys_of es) s)

  module _ {X : Type 0} where
    -- each entry of a list by keys is found at its key
    all_there : IsTotalOrder R → (es : List (K × X)) → IsStrictlySortedBy R (keys_of es) → AllByRecursion (λ (e : K × X). lookup (is_at (R e.0)) es ≡ Some e.1) es
    all_there o es s = recursion_from_All (λ (e : K × X). lookup (is_at (R e.0)) es ≡ Some e.1) es (λ i d lt. lookup-place R o (get_or es i d).0 (get_or es i d).1 es i d s lt refl)

    -- the pieces of the entries whose keys pass, by their keys
    by_keys : {A : Type 0} (f : K × X → List A) (g : K → Option X → List A) (all : List (K × X)) (p : K → Bool) → ((e : K × X) → g e.0 (Some e.1) ≡ f e) → ((e : K × X) → lookup (is_at (R e.0)) all ≡ Some e.1 → p e.0 ≡ false → f e ≡ [])
        → (es : List (K × X)) → AllByRecursion (λ (e : K × X). lookup (is_at (R e.0)) all ≡ Some e.1) es
        → flat_map (λ (k : K). g k (lookup (is_at (R k)) all)) (keys_of (filter (λ (e : K × X). p e.0) es)) ≡ flat_map f es
    by_keys f g all p same none [] there = refl
    by_keys f g all p same none (e ∷ es) there =
        elim (p e.0) as (λ b. p e.0 ≡ b → flat_map (λ (k : K). g k (lookup (is_at (R k)) all)) (keys_of (cond b (e ∷ filter (λ (x : K × X). p x.0) es) (filter (λ (x : K × X). p x.0) es))) ≡ f e ++ flat_map f es) [
          | true ↦ λ h. ap (λ l. l ++ flat_map (λ (k : K). g k (lookup (is_at (R k)) all)) (keys_of (filter (λ (x : K × X). p x.0) es))) (ap (g e.0) there.0 ∙ same e) ∙ ap (λ l. f e ++ l) (by_keys f g all p same none es there.1)
          | false ↦ λ h. by_keys f g all p same none es there.1 ∙ sym (ap (λ l. l ++ flat_map f es) (none e there.0 h))
        ] refl

    -- the keys that two lists by keys have both
    common : IsTotalOrder R → CmpEqualImpliesEq R → (us : List (K × Unit {0})) (es : List (K × X)) → IsStrictlySortedBy R (keys_of us) → IsStrictlySortedBy R (keys_of es)
        → filter (λ (u : K × Unit {0}). is_some (lookup (is_at (R u.0)) es)) us ≡ map (λ (e : K × X). (e.0, tt)) (filter (λ (e : K × X). is_some (lookup (is_at (R e.0)) us)) es)
    common total exact us es su se =
        let in_es : K → Bool = λ k. is_some (lookup (is_at (R k)) es) in
        let in_us : K → Bool = λ k. is_some (lookup (is_at (R k)) us) in
        let kept : List (K × X) = filter (λ (e : K × X). in_us e.0) es in
        entries_from_lookup R total exact _ _ (sorted_filter in_es us su) (subst (IsStrictlySortedBy R) (sym (keys_of-map_values (λ (x : X). tt) kept)) (sorted_filter in_us es se))
        (λ q. lookup-where_key R in_es q (alike exact in_es q) us ∙ both_ways (lookup (is_at (R q)) us) (lookup (is_at (R q)) es)
        ∙ sym (lookup-map_values (λ (x : X). tt) (is_at (R q)) kept ∙ ap (option_map (λ (x : X). tt)) (lookup-where_key R in_us q (alike exact in_us q) es)))

    -- the pieces of all entries are those at the keys of a list that leaves out only empty ones
    pub by_index : {A : Type 0} → IsTotalOrder R → CmpEqualImpliesEq R → (f : K × X → List A) (g : K → Option X → List A) (us : List (K × Unit {0})) (es : List (K × X)) → IsStrictlySortedBy R (keys_of us) → IsStrictlySortedBy R (keys_of es)
        → ((e : K × X) → g e.0 (Some e.1) ≡ f e) → ((k : K) → g k None ≡ []) → ((k : K) (x : X) → lookup (is_at (R k)) es ≡ Some x → lookup (is_at (R k)) us ≡ None → f (k, x) ≡ [])
        → flat_map (λ (k : K). g k (lookup (is_at (R k)) es)) (keys_of us) ≡ flat_map f es
    by_index {A} total exact f g us es su se same no_g no_f =
        let at : K → List A = λ k. g k (lookup (is_at (R k)) es) in
        let in_us : K → Bool = λ k. is_some (lookup (is_at (R k)) us) in
        let kept : List (K × X) = filter (λ (e : K × X). in_us e.0) es in
        flat_map-map at (λ (u : K × Unit {0}). u.0) us
        ∙ sym (flat_map-filter (λ (u : K × Unit {0}). at u.0) (λ (u : K × Unit {0}). is_some (lookup (is_at (R u.0)) es)) us (λ u h. ap (g u.0) (is_some-false (lookup (is_at (R u.0)) es) h) ∙ no_g u.0))
        ∙ ap (flat_map (λ (u : K × Unit {0}). at u.0)) (common total exact us es su se)
        ∙ flat_map-map (λ (u : K × Unit {0}). at u.0) (λ (e : K × X). (e.0, tt)) kept
        ∙ sym (flat_map-map at (λ (e : K × X). e.0) kept)
        ∙ by_keys f g es in_us same (λ e there h. no_f e.0 e.1 there (is_some-false (lookup (is_at (R e.0)) us) h)) es (all_there total es se)
