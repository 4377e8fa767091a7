-- Which dues peers have after the dues of some were written.
use Rattle.std.proofs.Common.{ℕ, ◌≡◌, ◌==◌, Bool, true, false, ◌&&◌, not, cond, List, [], ◌∷◌, Option, None, Some, refl, sym, ap, subst, ◌∙◌, filter, arith, Less}
use Rattle.std.specs.Ordering.{nat_cmp, is_eq}
use Rattle.std.specs.Cmp.{eq_by_cmp_equiv, nat_cmp_total}
use Rattle.std.specs.Option.{IsSome}
use Rattle.std.specs.List.{AllByRecursion}
use Rattle.std.specs.List.Sorted.{IsStrictlySortedBy}
use Rattle.std.specs.Map.{keys_of, lookup, set_value}
use Rattle.std.specs.Map.Calls.{RetainsPairs}
use Rattle.std.specs.BTreeMap.{is_at}
use Rattle.std.proofs.lemmas.Bool.{eqb-true}
use Rattle.std.proofs.lemmas.Bool.Decides.{nat_tests}
use Rattle.std.proofs.lemmas.Map.{lookup-set_value}
use Rattle.std.proofs.lemmas.Map.Keys.{sorted_head, sorted_tail}
use Rattle.std.proofs.lemmas.Map.Views.{any-filter_same}
use Rattle.pg_unacked.specs.declared.due.Due.{Due}
use Rattle.pg_unacked.specs.Due.{UnackedValue, dues_to, has_due, is_due, is_same_due, or_none}
use Rattle.pg_unacked.proofs.Orders.{is_same_due-true}

cmp_is : (a b : ℕ) → is_eq (nat_cmp a b) ≡ (a == b)
cmp_is a b = grind (arith, nat_tests)

-- the peer's dues are these, and those of others as before
abbrev pub IsWritten : UnackedValue → UnackedValue → ℕ → List Due → Type 0
IsWritten old new peer dues = (p : ℕ) → dues_to new p ≡ cond (peer == p) dues (dues_to old p)

chosen : (t : Bool) (w : List Due) (o : Option (List Due)) → or_none (cond t (Some w) o) ≡ cond t w (or_none o)
chosen true w o = refl
chosen false w o = refl

taken : (t : Bool) (o : Option (List Due)) → or_none (cond t None o) ≡ cond t [] (or_none o)
taken true o = refl
taken false o = refl

alike : (a x y : ℕ) → is_eq (nat_cmp a x) ≡ true → is_eq (nat_cmp a y) ≡ is_eq (nat_cmp x y)
alike a x y h = ap (λ q. is_eq (nat_cmp q y)) (eqb-true a x (sym (cmp_is a x) ∙ h))

-- what is found of a peer, and what of it was written
abbrev pub IsFound : UnackedValue → ℕ → Option (List Due) → Type 0
IsFound unacked peer o = lookup (is_at (nat_cmp peer)) unacked ≡ o

pub written_there : (old new : UnackedValue) (peer : ℕ) (dues w : List Due) → IsFound old peer (Some dues) → new ≡ set_value (is_at (nat_cmp peer)) old w → IsWritten old new peer w
written_there old new peer dues w there set p =
    ap or_none
    (ap (λ xs. lookup (is_at (nat_cmp p)) xs) set
    ∙ lookup-set_value (eq_by_cmp_equiv nat_cmp_total) (is_at (nat_cmp peer)) (alike peer) p w old (subst IsSome (sym there) refl)
    ∙ ap (λ b. cond b (Some w) (lookup (is_at (nat_cmp p)) old)) (cmp_is peer p))
    ∙ chosen (peer == p) w (lookup (is_at (nat_cmp p)) old)

abbrev pub IsOut : UnackedValue → UnackedValue → ℕ → Type 0
IsOut old new peer = (q : ℕ) → lookup (is_at (nat_cmp q)) new ≡ cond (is_at (nat_cmp peer) q) None (lookup (is_at (nat_cmp q)) old)

twice : (t : Bool) (w xs ys : List Due) → w ≡ [] → xs ≡ cond t w ys → cond t [] xs ≡ cond t w ys
twice true w xs ys none h = sym none
twice false w xs ys none h = h

-- an empty list goes
pub written_out : (old mid new : UnackedValue) (peer : ℕ) (w : List Due) → IsWritten old mid peer w → w ≡ [] → IsOut mid new peer → IsWritten old new peer w
written_out old mid new peer w put none out p =
    ap or_none (out p ∙ ap (λ b. cond b None (lookup (is_at (nat_cmp p)) mid)) (cmp_is peer p))
    ∙ taken (peer == p) (lookup (is_at (nat_cmp p)) mid) ∙ twice (peer == p) w (dues_to mid p) (dues_to old p) none (put p)

-- ---- some dues less

pub filtered : (t : Due → Bool) (d : Due) (dues : List Due) → is_due d (filter (λ x. not (t x)) dues) ≡ (not (t d) && is_due d dues)
filtered t d dues = any-filter_same (is_same_due d) (λ x. not (t x)) (not (t d)) (λ x same. ap (λ y. not (t y)) (sym (is_same_due-true d x same))) dues

less_by : (t : Due → Bool) (old : UnackedValue) (peer p : ℕ) (d : Due) (w : List Due) (b : Bool) → (peer == p) ≡ b → w ≡ filter (λ x. not (t x)) (dues_to old peer) → is_due d (cond b w (dues_to old p)) ≡ (not (b && t d) && has_due old p d)
less_by t old peer p d w true e is = ap (is_due d) is ∙ filtered t d (dues_to old peer) ∙ ap (λ q. not (t d) && has_due old q d) (eqb-true peer p e)
less_by t old peer p d w false e is = refl

pub less : (t : Due → Bool) (old new : UnackedValue) (peer : ℕ) (w : List Due) → IsWritten old new peer w → w ≡ filter (λ x. not (t x)) (dues_to old peer) → (p : ℕ) (d : Due) → has_due new p d ≡ (not (peer == p && t d) && has_due old p d)
less t old new peer w put is p d = ap (is_due d) (put p) ∙ less_by t old peer p d w (peer == p) refl is

-- at a peer that had some
module _ (t : Due → Bool) (old new view : UnackedValue) (peer : ℕ) (dues w : List Due) (there : IsFound old peer (Some dues)) (set : new ≡ set_value (is_at (nat_cmp peer)) old w) (is : old ≡ view) (took : w ≡ filter (λ x. not (t x)) dues) where
  put : IsWritten old new peer w
  put = written_there old new peer dues w there set

  less_in : (after : UnackedValue) → IsWritten old after peer w → (p : ℕ) (d : Due) → has_due after p d ≡ (not (peer == p && t d) && has_due view p d)
  less_in after written p d =
      less t old after peer w written (took ∙ ap (λ o. filter (λ x. not (t x)) (or_none o)) (sym there)) p d ∙ ap (λ u. not (peer == p && t d) && has_due u p d) is

  pub less_there : (p : ℕ) (d : Due) → has_due new p d ≡ (not (peer == p && t d) && has_due view p d)
  less_there = less_in new put

  -- and that is let go where it has no more
  pub less_gone : w ≡ [] → (gone : UnackedValue) → IsOut new gone peer → (p : ℕ) (d : Due) → has_due gone p d ≡ (not (peer == p && t d) && has_due view p d)
  less_gone none gone out = less_in gone (written_out old new gone peer w put none out)

-- ---- at each peer

-- none of these keys is the peer's
above_none : {X : Type 0} (q k : ℕ) (es : List (ℕ × X)) → is_eq (nat_cmp q k) ≡ true → AllByRecursion (λ y. nat_cmp k y ≡ Less) (keys_of es) → lookup (is_at (nat_cmp q)) es ≡ None
above_none q k [] same all = refl
above_none q k (e ∷ es) same all =
    ap (λ b. cond b (Some e.1) (lookup (is_at (nat_cmp q)) es)) (ap (λ x. is_eq (nat_cmp x e.0)) (eqb-true q k (sym (cmp_is q k) ∙ same)) ∙ ap is_eq all.0)
    ∙ above_none q k es same all.1

module _ {F : Type 0} (T : F → ℕ → List Due → Bool → List Due → F → Type 0) (t : Due → Bool) where
  -- the test fails of none of these
  abbrev rest_of : List Due → List Due
  rest_of dues = filter (λ x. not (t x)) dues

  kept_by : (p : ℕ) (e : ℕ × List Due) (es rest : UnackedValue) (w : List Due) (b s : Bool) → is_eq (nat_cmp p e.0) ≡ s → w ≡ rest_of e.1 → (b ≡ false → w ≡ [])
      → (is_eq (nat_cmp p e.0) ≡ true → dues_to es p ≡ []) → dues_to rest p ≡ rest_of (dues_to es p) → dues_to (cond b ((e.0, w) ∷ rest) rest) p ≡ rest_of (or_none (cond s (Some e.1) (lookup (is_at (nat_cmp p)) es)))
  kept_by p e es rest w true true here is none apart next = ap (λ x. or_none (cond x (Some w) (lookup (is_at (nat_cmp p)) rest))) here ∙ is
  kept_by p e es rest w true false here is none apart next = ap (λ x. or_none (cond x (Some w) (lookup (is_at (nat_cmp p)) rest))) here ∙ next
  kept_by p e es rest w false true here is none apart next = next ∙ ap rest_of (apart here) ∙ sym (none refl) ∙ is
  kept_by p e es rest w false false here is none apart next = next

  -- what a closure leaves that takes these off at each peer, and lets a peer go that has no more
  pub left : (f : F) → ((k : ℕ) (v : List Due) (b : Bool) (w : List Due) (f' : F) → T f k v b w f' → (w ≡ rest_of v) × (b ≡ false → w ≡ []) × (f' ≡ f))
      → (es kept : UnackedValue) → IsStrictlySortedBy nat_cmp (keys_of es) → RetainsPairs T f es kept → (p : ℕ) → dues_to kept p ≡ rest_of (dues_to es p)
  left f h [] kept sorted went p = ap (λ u. dues_to u p) went
  left f h (e ∷ es) kept sorted (b, w, f', rest, step, went, made) p =
      let facts = h e.0 e.1 b w f' step in
      let next = left f h es rest (sorted_tail nat_cmp e.0 (keys_of es) sorted) (subst (λ g. RetainsPairs T g es rest) facts.2 went) p in
      ap (λ u. dues_to u p) made
      ∙ kept_by p e es rest w b (is_eq (nat_cmp p e.0)) refl facts.0 facts.1 (λ here. ap or_none (above_none p e.0 es here (sorted_head nat_cmp e.0 (keys_of es) sorted))) next

  pub forgotten : (f : F) → ((k : ℕ) (v : List Due) (b : Bool) (w : List Due) (f' : F) → T f k v b w f' → (w ≡ rest_of v) × (b ≡ false → w ≡ []) × (f' ≡ f))
      → (es kept view : UnackedValue) → IsStrictlySortedBy nat_cmp (keys_of es) → RetainsPairs T f es kept → es ≡ view → (p : ℕ) (d : Due) → has_due kept p d ≡ (not (t d) && has_due view p d)
  forgotten f h es kept view sorted went is p d =
      ap (is_due d) (left f h es kept sorted went p) ∙ filtered t d (dues_to es p) ∙ ap (λ u. not (t d) && has_due u p d) is
