-- Lists of intentions: what stood, and behind it what began, in order.
use Rattle.std.proofs.Common.{ℕ, ◌≡◌, ◌<◌, ◌++◌, ◌||◌, ◌⊎◌, Bool, true, false, cond, List, [], ◌∷◌, map, inl, inr, refl, sym, ap, subst, ◌∙◌, arith}
use Rattle.std.specs.List.{AllByRecursion}
use Rattle.std.specs.List.Sorted.{IsStrictlySortedBy}
use Rattle.std.specs.Ordering.{nat_cmp, ordering_then}
use Rattle.std.specs.declared.cmp.Ordering.{Ordering}
use Rattle.std.specs.declared.cmp.Ordering.TheVariants.{Less, Equal}
use Rattle.std.proofs.lemmas.Bool.{false≢true}
use Rattle.std.proofs.lemmas.Bool.Decides.{nat_tests}
use Rattle.std.proofs.lemmas.Cmp.{nat_cmp_total, tied_itself}
use Rattle.std.proofs.lemmas.List.{append_assoc}
use Rattle.std.proofs.lemmas.List.Folds.{list_any-append}
use Rattle.pg_run.specs.pg_base.Id.{file_cmp}
use Rattle.pg_run.specs.pg_intent.declared.intent.Intent.{Intent}
use Rattle.pg_run.specs.pg_intent.declared.intent.Intent.TheVariants as intent
use Rattle.pg_run.specs.pg_intent.declared.key.IntentKey.{IntentKey}
use Rattle.pg_run.specs.pg_intent.declared.key.IntentKey.TheVariants as key
use Rattle.pg_run.specs.pg_intent.Intent.{aimed_at, key_of, rejoined}
use Rattle.pg_run.specs.pg_intent.Intents.{begun, changed, has_key, stands}
use Rattle.pg_run.specs.pg_intent.Key.{key_cmp, rank, same_rank_cmp}
use Rattle.pg_run.proofs.pg_base.Orders.{file_total}
use Rattle.pg_run.proofs.pg_intent.SameKey.{is_same_key-true}

-- ---- the order of keys

less_than_equal : Equal ≡ Less → ⊥
less_than_equal h = cc

both_tied : (a b : Ordering) → a ≡ Equal → b ≡ Equal → ordering_then a b ≡ Equal
both_tied a b h g = ap (λ o. ordering_then o b) h ∙ g

key_tied : (k : IntentKey) → key_cmp k k ≡ Equal
key_tied (key.Bye file birth peer) =
    both_tied (file_cmp file file) (ordering_then (nat_cmp birth birth) (nat_cmp peer peer)) (tied_itself file_total file)
    (both_tied (nat_cmp birth birth) (nat_cmp peer peer) (tied_itself nat_cmp_total birth) (tied_itself nat_cmp_total peer))
key_tied (key.Patch dir child) =
    both_tied (file_cmp dir dir) (file_cmp child child) (tied_itself file_total dir) (tied_itself file_total child)
key_tied (key.Fill file) = tied_itself file_total file
key_tied (key.Seek file) = tied_itself file_total file
key_tied (key.Confirm dir child) =
    both_tied (file_cmp dir dir) (file_cmp child child) (tied_itself file_total dir) (tied_itself file_total child)
key_tied (key.Leave file) = tied_itself file_total file

less : (a b : ℕ) → a < b → nat_cmp a b ≡ Less
less a b h = grind (arith, nat_tests)

pub rank_less : (a b : IntentKey) → rank a < rank b → key_cmp a b ≡ Less
rank_less a b h = ap (λ o. ordering_then o (same_rank_cmp a b)) (less (rank a) (rank b) h)

-- ---- lists

all_push : {A : Type 0} (P : A → Type 0) (xs : List A) (x : A) → AllByRecursion P xs → P x → AllByRecursion P (xs ++ x ∷ [])
all_push P [] x all p = (p, tt)
all_push P (y ∷ ys) x all p = (all.0, all_push P ys x all.1 p)

pub all_to : {A : Type 0} (P Q : A → Type 0) → ((x : A) → P x → Q x) → (xs : List A) → AllByRecursion P xs → AllByRecursion Q xs
all_to P Q so [] all = tt
all_to P Q so (x ∷ xs) all = (so x all.0, all_to P Q so xs all.1)

-- what began comes before this key
abbrev pub Before : IntentKey → List Intent → Type 0
Before k new = AllByRecursion (λ i. key_cmp (key_of i) k ≡ Less) new

above_push : (k : IntentKey) (new : List Intent) (i : Intent) → AllByRecursion (λ y. key_cmp k y ≡ Less) (map key_of new) → key_cmp k (key_of i) ≡ Less
    → AllByRecursion (λ y. key_cmp k y ≡ Less) (map key_of (new ++ i ∷ []))
above_push k [] i all h = (h, tt)
above_push k (j ∷ js) i all h = (all.0, above_push k js i all.1 h)

sorted_push : (new : List Intent) (i : Intent) → IsStrictlySortedBy key_cmp (map key_of new) → Before (key_of i) new
    → IsStrictlySortedBy key_cmp (map key_of (new ++ i ∷ []))
unfolding IsStrictlySortedBy
sorted_push [] i sorted before = (tt, tt)
sorted_push (j ∷ js) i sorted before =
    (above_push (key_of j) js i sorted.0 before.0, sorted_push js i sorted.1 before.1)

none_sorted : IsStrictlySortedBy key_cmp (map key_of [])
unfolding IsStrictlySortedBy
none_sorted = tt

-- none of those before it has the key
none_at : (k : IntentKey) (i : Intent) (is : List Intent) (t : Bool) → has_key k i ≡ t → key_cmp (key_of i) k ≡ Less → stands is k ≡ false
    → (t || stands is k) ≡ false
none_at k i is true has before rest =
    let same : k ≡ key_of i = is_same_key-true k (key_of i) has in
    absurd (less_than_equal (sym (key_tied k) ∙ ap (λ j. key_cmp j k) same ∙ before))
none_at k i is false has before rest = rest

none_stands : (k : IntentKey) (new : List Intent) → Before k new → stands new k ≡ false
none_stands k [] before = refl
none_stands k (i ∷ is) before = none_at k i is (has_key k i) refl before.0 (none_stands k is before.1)

-- ---- changes in place

same_at : (k : IntentKey) (f : Intent → Intent) (i : Intent) (is new : List Intent) (t : Bool) → (t || stands is k) ≡ true
    → (stands is k ≡ true → changed f (is ++ new) k ≡ changed f is k ++ new)
    → ◌≡◌ {A = List Intent} (cond t (f i ∷ (is ++ new)) (i ∷ changed f (is ++ new) k)) (cond t (f i ∷ is) (i ∷ changed f is k) ++ new)
same_at k f i is new true h rest = refl
same_at k f i is new false h rest = ap (λ (js : List Intent). i ∷ js) (rest h)

changed_front : (k : IntentKey) (f : Intent → Intent) (old new : List Intent) → stands old k ≡ true → changed f (old ++ new) k ≡ changed f old k ++ new
changed_front k f [] new h = absurd (false≢true h)
changed_front k f (i ∷ is) new h = same_at k f i is new (has_key k i) h (changed_front k f is new)

-- its key stays
abbrev pub KeepsKey : (Intent → Intent) → Type 0
KeepsKey f = (i : Intent) → key_of (f i) ≡ key_of i

old_at : (Old : IntentKey → Type 0) (k : IntentKey) (f : Intent → Intent) → KeepsKey f → (i : Intent) (is : List Intent) (t : Bool)
    → AllByRecursion (λ j. Old (key_of j)) (i ∷ is) → AllByRecursion (λ j. Old (key_of j)) (changed f is k)
    → AllByRecursion (λ j. Old (key_of j)) (cond t (f i ∷ is) (i ∷ changed f is k))
old_at Old k f keeps i is true all rest = (subst Old (sym (keeps i)) all.0, all.1)
old_at Old k f keeps i is false all rest = (all.0, rest)

changed_old : (Old : IntentKey → Type 0) (k : IntentKey) (f : Intent → Intent) → KeepsKey f → (is : List Intent)
    → AllByRecursion (λ i. Old (key_of i)) is → AllByRecursion (λ i. Old (key_of i)) (changed f is k)
changed_old Old k f keeps [] all = tt
changed_old Old k f keeps (i ∷ is) all = old_at Old k f keeps i is (has_key k i) all (changed_old Old k f keeps is all.1)

pub aims_keep : (to : ℕ) → KeepsKey (aimed_at to)
aims_keep to (intent.Bye f b p n) = refl
aims_keep to (intent.Seek f t) = refl
aims_keep to (intent.Fill f b t) = refl
aims_keep to (intent.Patch d e t) = refl
aims_keep to (intent.Confirm d c t) = refl
aims_keep to (intent.Leave f p n) = refl

rejoins_keep : (i : Intent) → KeepsKey (λ held. rejoined held i)
rejoins_keep i (intent.Bye f b p n) = refl
rejoins_keep i (intent.Seek f t) = refl
rejoins_keep i (intent.Fill f b t) = refl
rejoins_keep (intent.Patch d e t) (intent.Patch dir entry target) = refl
rejoins_keep (intent.Bye f b p n) (intent.Patch dir entry target) = refl
rejoins_keep (intent.Seek f t) (intent.Patch dir entry target) = refl
rejoins_keep (intent.Fill f b t) (intent.Patch dir entry target) = refl
rejoins_keep (intent.Confirm d c t) (intent.Patch dir entry target) = refl
rejoins_keep (intent.Leave f p n) (intent.Patch dir entry target) = refl
rejoins_keep i (intent.Confirm d c t) = refl
rejoins_keep i (intent.Leave f p n) = refl

-- ---- what stood, and what began

module _ (Old : IntentKey → Type 0) (First : Intent → Type 0) where
  pub record Parts (is : List Intent) : Type 0 where
    pub old : List Intent
    pub new : List Intent
    pub parts : is ≡ old ++ new
    pub stood : AllByRecursion (λ i. Old (key_of i)) old
    pub order : IsStrictlySortedBy key_cmp (map key_of new)
    pub first : AllByRecursion First new

  -- nothing more began, or one with this key
  pub record More (before : List Intent) (k : IntentKey) (is : List Intent) : Type 0 where
    pub now : Parts is
    pub grows : (now.new ≡ before) ⊎ ((i : Intent) × (key_of i ≡ k) × (now.new ≡ before ++ i ∷ []))

  pub none_began : (is : List Intent) → AllByRecursion (λ i. Old (key_of i)) is → is ≡ is ++ [] → (p : Parts is) × (p.new ≡ [])
  none_began is all same =
      (record { old = is; new = []; parts = same; stood = all; order = none_sorted; first = tt }, refl)

  pub no_more : (is : List Intent) (p : Parts is) (k : IntentKey) → More p.new k is
  no_more is p k = record { now = p; grows = inl refl }

  one_more : (is : List Intent) (p : Parts is) (i : Intent) → First i → Before (key_of i) p.new → More p.new (key_of i) (is ++ i ∷ [])
  one_more is p i first before = record {
    now = record {
      old = p.old;
      new = p.new ++ i ∷ [];
      parts = ap (λ (js : List Intent). js ++ i ∷ []) p.parts ∙ append_assoc p.old p.new (i ∷ []);
      stood = p.stood;
      order = sorted_push p.new i p.order before;
      first = all_push First p.new i p.first first;
    };
    grows = inr (i, refl, refl);
  }

  stood_before : (is : List Intent) (p : Parts is) (k : IntentKey) → Before k p.new → stands is k ≡ true → stands p.old k ≡ true
  stood_before is p k before h = by (stands p.old k) refl
    where
      all : (stands p.old k || stands p.new k) ≡ true
      all = sym (list_any-append (has_key k) p.old p.new) ∙ ap (λ (js : List Intent). stands js k) (sym p.parts) ∙ h

      by : (t : Bool) → stands p.old k ≡ t → t ≡ true
      by true e = refl
      by false e =
          absurd (false≢true (sym (ap (λ t. t || stands p.new k) e ∙ none_stands k p.new before) ∙ all))

  pub in_place : (is : List Intent) (p : Parts is) (k : IntentKey) (f : Intent → Intent) → KeepsKey f → Before k p.new → stands is k ≡ true
      → More p.new k (changed f is k)
  in_place is p k f keeps before h = record {
    now = record {
      old = changed f p.old k;
      new = p.new;
      parts = ap (λ (js : List Intent). changed f js k) p.parts ∙ changed_front k f p.old p.new (stood_before is p k before h);
      stood = changed_old Old k f keeps p.old p.stood;
      order = p.order;
      first = p.first;
    };
    grows = inl refl;
  }

  pub begun_more : (is : List Intent) (p : Parts is) (i : Intent) → First i → Before (key_of i) p.new → More p.new (key_of i) (begun is i)
  begun_more is p i first before = by (stands is (key_of i)) refl
    where
      by : (t : Bool) → stands is (key_of i) ≡ t
          → More p.new (key_of i) (cond t (changed (λ held. rejoined held i) is (key_of i)) (is ++ i ∷ []))
      by true h = in_place is p (key_of i) (λ held. rejoined held i) (rejoins_keep i) before h
      by false h = one_more is p i first before
