-- What is wished for behind the view that a server enters.
use Rattle.std.proofs.Common.{ℕ, ◌≡◌, ◌==◌, ◌||◌, ◌++◌, ◌⊎◌, ◌∙◌, Bool, true, false, cond, Option, None, Some, List, [], ◌∷◌, inl, inr, refl, sym, ap}
use Rattle.std.specs.List.{list_any}
use Rattle.std.specs.Option.{option_map}
use Rattle.std.proofs.lemmas.Bool.{false≢true}
use Rattle.pg_base.specs.declared.id.FileId.{FileId}
use Rattle.pg_base.specs.Id.{is_same_file}
use Rattle.pg_base.proofs.Orders.{is_same_file-refl, is_same_file-true}
use Rattle.pg_names.proofs.Lookups.{apart_back}
use Rattle.pg_store.specs.declared.store.Store.{Store}
use Rattle.pg_store.specs.declared.wishes.Wish.{Wish}
use Rattle.pg_store.specs.Births.{wish_at}
use Rattle.pg_store.specs.Servers.{next_target}
use Rattle.pg_store.specs.Views.{enter}
use Rattle.pg_store.specs.Wishes.{WishesValue, aim_each, aim_wish, aimed, aimed_at, wish_in, wished_of}
use Rattle.pg_store.proofs.Aiming.{aim_found}
use Rattle.pg_store.proofs.Entering.{Cut, entered_as_before}

same_wish : (x y : Wish) → ◌≡◌ {A = Option Wish} (Some x) (Some y) → x ≡ y
same_wish x y e = cc

-- ---- a wish that asks another server

module _ (to : ℕ) where
  abbrev Aimed : Option Wish → Option Wish
  Aimed o = option_map (aimed_at to) o

  here : (f q : FileId) → is_same_file q f ≡ true → is_same_file f q ≡ true
  here f q e = ap (is_same_file f) (is_same_file-true q f e) ∙ is_same_file-refl f

  none_by : (ws : WishesValue) (f q : FileId) (t : Bool) → is_same_file q f ≡ t → wish_in ws f ≡ None
      → wish_in ws q ≡ cond t (Aimed (wish_in ws q)) (wish_in ws q)
  none_by ws f q true e none =
      let gone : wish_in ws q ≡ None = ap (wish_in ws) (is_same_file-true q f e) ∙ none in
      gone ∙ sym (ap Aimed gone)
  none_by ws f q false e none = refl

  some_by : (ws : WishesValue) (f q : FileId) (x : Wish) (t : Bool) → is_same_file q f ≡ t → wish_in ws f ≡ Some x
      → cond (is_same_file f q) (Some (aimed_at to x)) (wish_in ws q) ≡ cond t (Aimed (wish_in ws q)) (wish_in ws q)
  some_by ws f q x true e there =
      ap (λ b. cond b (Some (aimed_at to x)) (wish_in ws q)) (here f q e)
      ∙ sym (ap Aimed (ap (wish_in ws) (is_same_file-true q f e) ∙ there))
  some_by ws f q x false e there = ap (λ b. cond b (Some (aimed_at to x)) (wish_in ws q)) (apart_back q f e)

  one_by : (ws : WishesValue) (f q : FileId) (o : Option Wish) → wish_in ws f ≡ o
      → wish_in (aimed ws f to o) q ≡ cond (is_same_file q f) (Aimed (wish_in ws q)) (wish_in ws q)
  one_by ws f q None none = none_by ws f q (is_same_file q f) refl none
  one_by ws f q (Some x) there = aim_found ws f q to x there ∙ some_by ws f q x (is_same_file q f) refl there

  -- those of some things
  pub aims_found : (fs : List FileId) (ws : WishesValue) (q : FileId)
      → wish_in (aim_each ws fs to) q ≡ cond (list_any (is_same_file q) fs) (Aimed (wish_in ws q)) (wish_in ws q)
  aims_found [] ws q = refl
  aims_found (f ∷ fs) ws q =
      aims_found fs (aim_wish ws f to) q
      ∙ by (is_same_file q f) (list_any (is_same_file q) fs) (wish_in ws q) (wish_in (aim_wish ws f to) q) (one_by ws f q (wish_in ws f) refl)
    where
      twice : (o : Option Wish) → Aimed (Aimed o) ≡ Aimed o
      twice None = refl
      twice (Some x) = refl

      by : (t u : Bool) (o p : Option Wish) → p ≡ cond t (Aimed o) o → cond u (Aimed p) p ≡ cond (t || u) (Aimed o) o
      by true true o p e = ap Aimed e ∙ twice o
      by true false o p e = e
      by false u o p e = ap (λ r. cond u (Aimed r) r) e

-- ---- those that asked a server

-- one that asks it is among them
asking_found : (server : ℕ) (ws : WishesValue) (q : FileId) (v : Wish) → wish_in ws q ≡ Some v → (v.target == server) ≡ true
    → list_any (is_same_file q) (wished_of server ws) ≡ true
asking_found server [] q v there e = absurd (let z : ◌≡◌ {A = Option Wish} None (Some v) = there in cc)
asking_found server (x ∷ ws) q v there e = by (is_same_file q x.0) (x.1.target == server) refl refl there (λ h. asking_found server ws q v h e)
  where
    by : (t u : Bool) → is_same_file q x.0 ≡ t → (x.1.target == server) ≡ u → cond t (Some x.1) (wish_in ws q) ≡ Some v
        → (wish_in ws q ≡ Some v → list_any (is_same_file q) (wished_of server ws) ≡ true)
        → list_any (is_same_file q) (cond u (x.0 ∷ []) [] ++ wished_of server ws) ≡ true
    by true true s u k rest = ap (λ b. b || list_any (is_same_file q) (wished_of server ws)) s
    by true false s u k rest = absurd (false≢true (sym u ∙ ap (λ (z : Wish). z.target == server) (same_wish x.1 v k) ∙ e))
    by false true s u k rest = ap (λ b. b || list_any (is_same_file q) (wished_of server ws)) s ∙ rest k
    by false false s u k rest = rest k

module _ (ws : WishesValue) (server to : ℕ) (q : FileId) (wish : Wish) where
  abbrev pub Was : Type 0
  Was = (was : Wish) × (wish_in ws q ≡ Some was) × (was.birth ≡ wish.birth)
      × ((wish.target ≡ to) ⊎ ((wish ≡ was) × ((was.target == server) ≡ false)))

  not_asking : (v : Wish) (t : Bool) → wish_in ws q ≡ Some v → list_any (is_same_file q) (wished_of server ws) ≡ false
      → (v.target == server) ≡ t → (v.target == server) ≡ false
  not_asking v false there none e = e
  not_asking v true there none e = absurd (false≢true (sym none ∙ asking_found server ws q v there e))

  was_by : (o : Option Wish) (t : Bool) → wish_in ws q ≡ o → list_any (is_same_file q) (wished_of server ws) ≡ t
      → cond t (option_map (aimed_at to) o) o ≡ Some wish → Was
  was_by None true there e k = absurd (let z : ◌≡◌ {A = Option Wish} None (Some wish) = k in cc)
  was_by None false there e k = absurd (let z : ◌≡◌ {A = Option Wish} None (Some wish) = k in cc)
  was_by (Some v) true there e k =
      let same : aimed_at to v ≡ wish = same_wish (aimed_at to v) wish k in
      (v, there, ap (λ (z : Wish). z.birth) same, inl (sym (ap (λ (z : Wish). z.target) same)))
  was_by (Some v) false there e k =
      let same : v ≡ wish = same_wish v wish k in
      (v, there, ap (λ (z : Wish). z.birth) same, inr (sym same, not_asking v (v.target == server) there e refl))

  pub turned_wish : wish_in (aim_each ws (wished_of server ws) to) q ≡ Some wish → Was
  turned_wish there =
      was_by (wish_in ws q) (list_any (is_same_file q) (wished_of server ws)) refl refl
      (sym (aims_found to (wished_of server ws) ws q) ∙ there)

pub enter_wished : (a : Store) (server : ℕ) (file : FileId) (wish : Wish) → wish_at (enter a server) file ≡ Some wish
    → (was : Wish) × (wish_at a file ≡ Some was) × (was.birth ≡ wish.birth)
    × ((wish.target ≡ next_target (enter a server) server) ⊎ ((wish ≡ was) × ((was.target == server) ≡ false)))
enter_wished a server file wish there =
    let b = Cut server a in
    let k = turned_wish b.wishes server (next_target b server) file wish there in
    (k.0, (entered_as_before server a).wishes file k.0 k.1, k.2, k.3)
