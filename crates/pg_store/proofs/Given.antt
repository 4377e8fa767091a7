-- What is said of births stays so: where nothing begins, and where a replica, a wish or a Fill
-- does.
use Rattle.std.proofs.Common.{ℕ, ◌≡◌, ◌≤◌, ◌&&◌, ◌||◌, arith, Bool, true, false, cond, not, Option, None, Some, is_some, ◌⊎◌, inl, inr, refl, sym, ap, subst, ◌∙◌}
use Rattle.std.specs.Option.{option_map}
use Rattle.std.proofs.lemmas.Bool.{eqb-true}
use Rattle.pg_base.specs.declared.id.FileId.{FileId}
use Rattle.pg_base.specs.declared.policy.Policy.{Policy}
use Rattle.pg_base.specs.Id.{file_cmp, is_same_file}
use Rattle.pg_base.proofs.Maps.{lookup-insert_entry}
use Rattle.pg_base.proofs.Orders.{file_total, is_same_file-true}
use Rattle.pg_intent.specs.declared.intent.Intent.{Intent}
use Rattle.pg_intent.specs.declared.intent.Intent.TheVariants as intent
use Rattle.pg_names.specs.declared.attributes.Attributes.{Attributes}
use Rattle.pg_names.specs.Names.{InodeValue, known, new_held}
use Rattle.pg_names.proofs.Holding.{begun_known}
use Rattle.pg_names.proofs.Lookups.{apart_back}
use Rattle.pg_replica.specs.declared.replica.Replica.{Replica}
use Rattle.pg_replica.specs.Replica.{new_replica}
use Rattle.pg_store.specs.declared.store.Store.{Store}
use Rattle.pg_store.specs.declared.wishes.Wish.{Wish}
use Rattle.pg_store.specs.Store.{is_held, replica_at}
use Rattle.pg_store.specs.Births.{fill_at, is_fill_at, is_pending, wish_at}
use Rattle.pg_store.specs.Wishes.{is_with_birth}
use Rattle.pg_store.specs.Beginning.{begin, patches_of, put_new}
use Rattle.pg_store.specs.Together.{AreBirths, HoldsAsBefore, IsGiven, MayBegin, birth_at}
use Rattle.pg_store.proofs.Pairs.{patches_as_before}
use Rattle.pg_store.proofs.Wanted.{wish_behind}

-- ---- nothing begins

none_by : (o p : Option Intent) → ((i : Intent) → o ≡ Some i → p ≡ Some i) → p ≡ None → o ≡ None
none_by None p up none = refl
none_by (Some i) p up none = absurd (let k : ◌≡◌ {A = Option Intent} None (Some i) = sym none ∙ up i refl in cc)

module _ (a b : Store) (same : HoldsAsBefore a b) where
  given_by : (m n k : ℕ) → m ≤ n → (1 ≤ k) × (k ≤ m) → (1 ≤ k) × (k ≤ n)
  given_by m n k h g = (g.0, let l = g.1 in omega arith)

  still_given : (birth : ℕ) → IsGiven a birth → IsGiven b birth
  still_given birth g = given_by a.births b.births birth same.given g

  pub births_as_before : AreBirths a → AreBirths b
  births_as_before h = record {
    replicas = λ q birth there. still_given birth (h.replicas q birth (sym (same.births q) ∙ there));
    wishes = λ q wish there. still_given wish.birth (h.wishes q wish (same.wishes q wish there));
    fills = λ q f birth target there. still_given birth (h.fills q f birth target (same.fills q (intent.Fill f birth target) there));
    wished = λ q wish there. (
        let k = h.wished q wish (same.wishes q wish there) in
        (same.held q ∙ k.0, none_by (fill_at b q) (fill_at a q) (same.fills q) k.1));
    own = λ q f birth target there held.
        same.births q ∙ h.own q f birth target (same.fills q (intent.Fill f birth target) there) (sym (same.held q) ∙ held);
  }

-- ---- a birth that is pending may begin

pub same_fill : (f g : FileId) (b c t u : ℕ) → ◌≡◌ {A = Option Intent} (Some (intent.Fill f b t)) (Some (intent.Fill g c u)) → b ≡ c
same_fill f g b c t u e = cc

module _ (a : Store) (file : FileId) (birth : ℕ) (h : AreBirths a) where
  by_wish : (w : Option Wish) → wish_at a file ≡ w → is_with_birth w birth ≡ true → MayBegin a file birth
  by_wish None there e = cc
  by_wish (Some wish) there e =
      let k = h.wished file wish there in
      let same : wish.birth ≡ birth = eqb-true wish.birth birth e in
      record {
        away = k.0;
        given = subst (IsGiven a) same (h.wishes file wish there);
        fill = λ f to_fill target fill.
            absurd (let z : ◌≡◌ {A = Option Intent} None (Some (intent.Fill f to_fill target)) = sym k.1 ∙ fill in cc);
      }

  by_fill : (o : Option Intent) → fill_at a file ≡ o → is_held a file ≡ false → is_fill_at o birth ≡ true → MayBegin a file birth
  by_fill (Some (intent.Fill f to_fill target)) there away e =
      let same : to_fill ≡ birth = eqb-true to_fill birth e in
      record {
        away = away;
        given = subst (IsGiven a) same (h.fills file f to_fill target there);
        fill = λ g c u fill. same_fill g f c to_fill u target (sym fill ∙ there) ∙ same;
      }
  by_fill None there away e = cc
  by_fill (Some i) there away e = cc

  pending_by : (wished held filled : Bool) → is_with_birth (wish_at a file) birth ≡ wished → is_held a file ≡ held
      → is_fill_at (fill_at a file) birth ≡ filled → (wished || (not held && filled)) ≡ true → MayBegin a file birth
  pending_by true held filled w e f any = by_wish (wish_at a file) refl w
  pending_by false false true w e f any = by_fill (fill_at a file) refl e f
  pending_by false false false w e f any = cc
  pending_by false true filled w e f any = cc

  pub pending_may : is_pending a file birth ≡ true → MayBegin a file birth
  pending_may any = pending_by (is_with_birth (wish_at a file) birth) (is_held a file) (is_fill_at (fill_at a file) birth) refl refl refl any

-- ---- a replica begins

pub left_by : (o : Option Wish) (wish : Wish) (t : Bool) → cond (not t) o None ≡ Some wish → (t ≡ false) × (o ≡ Some wish)
left_by o wish true there = cc
left_by o wish false there = (refl, there)

pub born_by : (birth b : ℕ) (o : Option Replica) (x : Replica) (t : Bool) → x.birth ≡ birth
    → option_map (λ (y : Replica). y.birth) (cond t (Some x) o) ≡ Some b
    → ((t ≡ true) × (birth ≡ b)) ⊎ ((t ≡ false) × (option_map (λ (y : Replica). y.birth) o ≡ Some b))
born_by birth b o x true same there = inl (refl, let z : x.birth ≡ b = (let k : ◌≡◌ {A = Option ℕ} (Some x.birth) (Some b) = there in cc) in sym same ∙ z)
born_by birth b o x false same there = inr (refl, there)

module _ (a : Store) (file : FileId) (birth : ℕ) (policy : Policy) (own : Attributes) (full : Bool) where
  abbrev pub After : Store
  After = put_new a file birth policy own full

  pub held_behind : (q : FileId) → is_held After q ≡ is_some (cond (is_same_file q file) (Some (new_held own full)) (known a.names q))
  held_behind q = ap (λ (o : Option InodeValue). is_some o) (begun_known a.names file own full q)

  pub born_behind : (q : FileId) → birth_at After q ≡ option_map (λ (y : Replica). y.birth) (cond (is_same_file q file) (Some (new_replica birth policy)) (replica_at a q))
  born_behind q =
      ap (option_map (λ (y : Replica). y.birth)) (lookup-insert_entry file_cmp file_total q file (new_replica birth policy) a.replicas)

  module _ (h : AreBirths a) (may : MayBegin a file birth) where
    own_by : (q f : FileId) (b target : ℕ) (t : Bool) → is_same_file q file ≡ t → fill_at a q ≡ Some (intent.Fill f b target)
        → is_some (cond t (Some (new_held own full)) (known a.names q)) ≡ true
        → option_map (λ (y : Replica). y.birth) (cond t (Some (new_replica birth policy)) (replica_at a q)) ≡ Some b
    own_by q f b target true e there held =
        let F : FileId → Type 0 = λ k. fill_at a k ≡ Some (intent.Fill f b target) in
        sym (ap (λ n. Some n) (may.fill f b target (subst F (is_same_file-true q file e) there)))
    own_by q f b target false e there held = h.own q f b target there held

    new_births : AreBirths After
    new_births = record {
      replicas = λ q b there.
          elim (born_by birth b (replica_at a q) (new_replica birth policy) (is_same_file q file) refl (sym (born_behind q) ∙ there)) [
            | inl k ↦ subst (IsGiven a) k.1 may.given
            | inr k ↦ h.replicas q b k.1
          ];
      wishes = λ q wish there. h.wishes q wish (left_by (wish_at a q) wish (is_same_file file q) (sym (wish_behind a.wishes file q) ∙ there)).1;
      fills = λ q f b target there. h.fills q f b target there;
      wished = λ q wish there. (
          let left = left_by (wish_at a q) wish (is_same_file file q) (sym (wish_behind a.wishes file q) ∙ there) in
          let k = h.wished q wish left.1 in
          (held_behind q ∙ ap (λ t. is_some (cond t (Some (new_held own full)) (known a.names q))) (apart_back file q left.0) ∙ k.0, k.1));
      own = λ q f b target there held.
          born_behind q ∙ own_by q f b target (is_same_file q file) refl there (sym (held_behind q) ∙ held);
    }

    pub begin_births : AreBirths (begin a file birth policy own full)
    begin_births =
        births_as_before After (begin a file birth policy own full) (patches_as_before After file (patches_of file a.intents)) new_births
