-- What is said of births stays so where a wish or a Fill begins, and it is so at the start.
use Rattle.std.proofs.Common.{ℕ, ◌≡◌, arith, Bool, true, false, cond, [], Option, None, Some, ◌⊎◌, inl, inr, refl, sym, ap, subst, ◌∙◌}
use Rattle.std.specs.Option.{option_map}
use Rattle.pg_base.specs.declared.id.FileId.{FileId}
use Rattle.pg_base.specs.Id.{file_cmp, is_same_file}
use Rattle.pg_base.proofs.Maps.{lookup-insert_entry}
use Rattle.pg_base.proofs.Orders.{file_total, is_same_file-true}
use Rattle.pg_register.specs.Place.{root}
use Rattle.pg_intent.specs.declared.intent.Intent.{Intent}
use Rattle.pg_intent.specs.declared.intent.Intent.TheVariants as intent
use Rattle.pg_intent.specs.declared.key.IntentKey.TheVariants as intent_key
use Rattle.pg_intent.specs.Intents.{begun, begun_on}
use Rattle.pg_intent.proofs.Found.{begun_found}
use Rattle.pg_replica.specs.declared.replica.Replica.{Replica}
use Rattle.pg_replica.specs.Root.{first_root}
use Rattle.pg_store.specs.declared.store.Store.{Store}
use Rattle.pg_store.specs.declared.wishes.Wish.{Wish}
use Rattle.pg_store.specs.Store.{is_held, new_store}
use Rattle.pg_store.specs.Births.{fill_at, wish_at, with_wish}
use Rattle.pg_store.specs.Beginning.{with_intents}
use Rattle.pg_store.specs.Together.{AreBirths, IsGiven, birth_at}
use Rattle.pg_store.proofs.Given.{same_fill}

-- ---- a wish

put_by : (o : Option Wish) (new w : Wish) (t : Bool) → cond t (Some new) o ≡ Some w
    → ((t ≡ true) × (new ≡ w)) ⊎ (o ≡ Some w)
put_by o new w true there = inl (refl, let z : new ≡ w = cc in z)
put_by o new w false there = inr there

module _ (a : Store) (file : FileId) (wish : Wish) where
  pub wish_there : (q : FileId) (w : Wish) → wish_at (with_wish a file wish) q ≡ Some w
      → ((is_same_file q file ≡ true) × (wish ≡ w)) ⊎ (wish_at a q ≡ Some w)
  wish_there q w there =
      put_by (wish_at a q) wish w (is_same_file q file)
      (sym (lookup-insert_entry file_cmp file_total q file wish a.wishes) ∙ there)

  module _ (h : AreBirths a) (away : is_held a file ≡ false) (gap : fill_at a file ≡ None) (given : IsGiven a wish.birth) where
    pub wish_births : AreBirths (with_wish a file wish)
    wish_births = record {
      replicas = h.replicas;
      wishes = λ q w there. elim (wish_there q w there) [
        | inl k ↦ subst (λ (z : Wish). IsGiven a z.birth) k.1 given
        | inr k ↦ h.wishes q w k
      ];
      fills = h.fills;
      wished = λ q w there. elim (wish_there q w there) [
        | inl k ↦ (ap (is_held a) (is_same_file-true q file k.0) ∙ away, ap (fill_at a) (is_same_file-true q file k.0) ∙ gap)
        | inr k ↦ h.wished q w k
      ];
      own = h.own;
    }

-- ---- a Fill, of what has no wish

module _ (a : Store) (file : FileId) (birth target : ℕ) where
  abbrev pub Filled : Store
  Filled = with_intents a (begun a.intents (intent.Fill file birth target))

  pub fill_behind : (q : FileId) → fill_at Filled q
      ≡ cond (is_same_file q file) (Some (begun_on (fill_at a q) (intent.Fill file birth target))) (fill_at a q)
  fill_behind q = begun_found a.intents (intent.Fill file birth target) (intent_key.Fill q)

  module _ (gap : fill_at a file ≡ None) where
    fill_by : (q f : FileId) (b u : ℕ) (t : Bool) → is_same_file q file ≡ t
        → cond t (Some (begun_on (fill_at a q) (intent.Fill file birth target))) (fill_at a q) ≡ Some (intent.Fill f b u)
        → ((is_same_file q file ≡ true) × (birth ≡ b)) ⊎ (fill_at a q ≡ Some (intent.Fill f b u))
    fill_by q f b u true e there =
        let none : fill_at a q ≡ None = ap (fill_at a) (is_same_file-true q file e) ∙ gap in
        inl (
          e,
          same_fill file f birth b target u
              (sym (ap (λ o. Some (begun_on o (intent.Fill file birth target))) none) ∙ there),
        )
    fill_by q f b u false e there = inr there

    pub fill_there : (q f : FileId) (b u : ℕ) → fill_at Filled q ≡ Some (intent.Fill f b u)
        → ((is_same_file q file ≡ true) × (birth ≡ b)) ⊎ (fill_at a q ≡ Some (intent.Fill f b u))
    fill_there q f b u there = fill_by q f b u (is_same_file q file) refl (sym (fill_behind q) ∙ there)

  module _ (h : AreBirths a) (unwished : wish_at a file ≡ None) (gap : fill_at a file ≡ None) (given : IsGiven a birth)
      (own : is_held a file ≡ true → birth_at a file ≡ Some birth) where
    unfilled_by : (q : FileId) (w : Wish) (t : Bool) → is_same_file q file ≡ t → wish_at a q ≡ Some w → fill_at a q ≡ None
        → cond t (Some (begun_on (fill_at a q) (intent.Fill file birth target))) (fill_at a q) ≡ None
    unfilled_by q w true e there none =
        absurd (let z : ◌≡◌ {A = Option Wish} None (Some w) = sym (ap (wish_at a) (is_same_file-true q file e) ∙ unwished) ∙ there in cc)
    unfilled_by q w false e there none = none

    pub fill_births : AreBirths Filled
    fill_births = record {
      replicas = h.replicas;
      wishes = h.wishes;
      fills = λ q f b u there. elim (fill_there gap q f b u there) [
        | inl k ↦ subst (IsGiven a) k.1 given
        | inr k ↦ h.fills q f b u k
      ];
      wished = λ q w there. (
          let k = h.wished q w there in
          (k.0, fill_behind q ∙ unfilled_by q w (is_same_file q file) refl there k.1));
      own = λ q f b u there held. elim (fill_there gap q f b u there) [
        | inl k ↦ (
            let same = is_same_file-true q file k.0 in
            ap (birth_at a) same ∙ own (sym (ap (is_held a) same) ∙ held) ∙ ap (λ n. Some n) k.1)
        | inr k ↦ h.own q f b u k held
      ];
    }

-- ---- the start: the root's replica has the first birth

first_by : (x : Replica) (t : Bool) (b : ℕ) → x.birth ≡ 1
    → option_map (λ (y : Replica). y.birth) (cond t (Some x) None) ≡ Some b → b ≡ 1
first_by x true b one there = (let z : x.birth ≡ b = (let k : ◌≡◌ {A = Option ℕ} (Some x.birth) (Some b) = there in cc) in sym z ∙ one)
first_by x false b one there = cc

pub start_births : (servers server : ℕ) → AreBirths (new_store servers server)
start_births servers server = record {
  replicas = λ q b there. (
      let one : b ≡ 1 = first_by (first_root server servers) (is_same_file q root) b refl
      (sym (ap (option_map (λ (y : Replica). y.birth)) (lookup-insert_entry file_cmp file_total q root (first_root server servers) []))
      ∙ there) in
      subst (IsGiven (new_store servers server)) (sym one) (omega arith, omega arith));
  wishes = λ q w there. absurd (let z : ◌≡◌ {A = Option Wish} None (Some w) = there in cc);
  fills = λ q f b u there. absurd (let z : ◌≡◌ {A = Option Intent} None (Some (intent.Fill f b u)) = there in cc);
  wished = λ q w there. absurd (let z : ◌≡◌ {A = Option Wish} None (Some w) = there in cc);
  own = λ q f b u there held. absurd (let z : ◌≡◌ {A = Option Intent} None (Some (intent.Fill f b u)) = there in cc);
}
