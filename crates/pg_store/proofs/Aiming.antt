-- What is said of births stays so where an intention or a wish asks another server, and where
-- wishes end.
use Rattle.std.proofs.Common.{ℕ, ◌≡◌, ◌≤◌, arith, Bool, true, false, cond, not, [], Option, None, Some, refl, sym, ap, subst, ◌∙◌}
use Rattle.std.specs.Cmp.{eq_by_cmp_equiv}
use Rattle.std.specs.Option.{IsSome, option_map}
use Rattle.std.specs.BTreeMap.{is_at}
use Rattle.std.proofs.lemmas.Map.{lookup-set_value}
use Rattle.pg_base.specs.declared.id.FileId.{FileId}
use Rattle.pg_base.specs.Id.{file_cmp, is_same_file}
use Rattle.pg_base.proofs.Orders.{file_total, is_same_file-true}
use Rattle.pg_intent.specs.declared.intent.Intent.{Intent}
use Rattle.pg_intent.specs.declared.intent.Intent.TheVariants as intent
use Rattle.pg_intent.specs.declared.key.IntentKey.{IntentKey}
use Rattle.pg_intent.specs.declared.key.IntentKey.TheVariants as intent_key
use Rattle.pg_intent.specs.Key.{is_same_key}
use Rattle.pg_intent.specs.Intent.{aimed_at}
use Rattle.pg_intent.specs.Intents.{aimed}
use Rattle.pg_intent.proofs.Found.{aimed_found}
use Rattle.pg_store.specs.declared.store.Store.{Store}
use Rattle.pg_store.specs.declared.wishes.Wish.{Wish}
use Rattle.pg_store.specs.Births.{fill_at, wish_at, with_wishes}
use Rattle.pg_store.specs.Wishes as wishes
use Rattle.pg_store.specs.Wishes.{WishesValue, aim_wish, wish_in, without_wish}
use Rattle.pg_store.specs.Beginning.{with_intents}
use Rattle.pg_store.specs.Together.{AreBirths, HoldsAsBefore}
use Rattle.pg_store.proofs.Wanted.{wish_behind}

-- ---- an intention

-- a Fill that asks another server has its birth from before
fill_aimed : (target : ℕ) (i : Intent) (f : FileId) (b u : ℕ) → aimed_at target i ≡ intent.Fill f b u
    → (t : ℕ) × (i ≡ intent.Fill f b t)
fill_aimed target (intent.Fill file birth t) f b u e =
    (t, let one : file ≡ f = cc in let two : birth ≡ b = cc in cc)
fill_aimed target (intent.Bye file birth peer peer_birth) f b u e = cc
fill_aimed target (intent.Seek file t) f b u e = cc
fill_aimed target (intent.Patch dir entry t) f b u e = cc
fill_aimed target (intent.Confirm dir child t) f b u e = cc
fill_aimed target (intent.Leave file peer peer_birth) f b u e = cc

same_intent : (i j : Intent) → ◌≡◌ {A = Option Intent} (Some i) (Some j) → i ≡ j
same_intent i j e = cc

some_aimed : (i : Intent) (target : ℕ) (f : FileId) (b u : ℕ) → (t : ℕ) × (i ≡ intent.Fill f b t)
    → (v : ℕ) × (◌≡◌ {A = Option Intent} (Some i) (Some (intent.Fill f b v)))
some_aimed i target f b u k = (k.0, ap (λ (j : Intent). Some j) k.1)

aimed_by : (o : Option Intent) (target : ℕ) (t : Bool) (f : FileId) (b u : ℕ)
    → cond t (option_map (aimed_at target) o) o ≡ Some (intent.Fill f b u) → (v : ℕ) × (o ≡ Some (intent.Fill f b v))
aimed_by None target true f b u there = cc
aimed_by None target false f b u there = cc
aimed_by (Some i) target true f b u there =
    some_aimed i target f b u (fill_aimed target i f b u (same_intent (aimed_at target i) (intent.Fill f b u) there))
aimed_by (Some i) target false f b u there = (u, there)

none_aimed : (o : Option Intent) (target : ℕ) (t : Bool) → o ≡ None → cond t (option_map (aimed_at target) o) o ≡ None
none_aimed None target true none = refl
none_aimed None target false none = refl
none_aimed (Some i) target t none = cc

module _ (a : Store) (k : IntentKey) (target : ℕ) where
  abbrev pub Aimed : Store
  Aimed = with_intents a (aimed a.intents k target)

  pub aimed_there : (q f : FileId) (b u : ℕ) → fill_at Aimed q ≡ Some (intent.Fill f b u)
      → (v : ℕ) × (fill_at a q ≡ Some (intent.Fill f b v))
  aimed_there q f b u there =
      aimed_by (fill_at a q) target (is_same_key (intent_key.Fill q) k) f b u
      (sym (aimed_found a.intents k target (intent_key.Fill q)) ∙ there)

  module _ (h : AreBirths a) where
    -- one that asks another server
    pub aimed_births : AreBirths Aimed
    aimed_births = record {
      replicas = h.replicas;
      wishes = h.wishes;
      fills = λ q f b u there. (let was = aimed_there q f b u there in h.fills q f b was.0 was.1);
      wished = λ q w there. (
          let was = h.wished q w there in (
            was.0,
            aimed_found a.intents k target (intent_key.Fill q)
                ∙ none_aimed (fill_at a q) target (is_same_key (intent_key.Fill q) k) was.1,
          ));
      own = λ q f b u there held. (let was = aimed_there q f b u there in h.own q f b was.0 was.1 held);
    }

-- ---- a wish

-- ids that are one compare alike to any other
alike_at : (d x y : FileId) → is_same_file d x ≡ true → is_same_file d y ≡ is_same_file x y
alike_at d x y h = ap (λ (q : FileId). is_same_file q y) (is_same_file-true d x h)

wish_some : (o : Option Wish) (x : Wish) → o ≡ Some x → IsSome o
wish_some o x there = subst IsSome (sym there) refl

pub aim_found : (ws : WishesValue) (file q : FileId) (target : ℕ) (x : Wish) → wish_in ws file ≡ Some x
    → wish_in (wishes.aimed ws file target (Some x)) q
    ≡ cond (is_same_file file q) (Some (wishes.aimed_at target x)) (wish_in ws q)
aim_found ws file q target x there =
    lookup-set_value (eq_by_cmp_equiv file_total) (is_at (file_cmp file)) (alike_at file) q (wishes.aimed_at target x) ws
    (wish_some (wish_in ws file) x there)

aim_by : (ws : WishesValue) (file q : FileId) (target : ℕ) (x w : Wish) (t : Bool) → is_same_file file q ≡ t
    → wish_in ws file ≡ Some x → cond t (Some (wishes.aimed_at target x)) (wish_in ws q) ≡ Some w
    → (v : Wish) × (wish_in ws q ≡ Some v) × (v.birth ≡ w.birth)
aim_by ws file q target x w true e here there =
    let same : wishes.aimed_at target x ≡ w = cc in
    (x, ap (wish_in ws) (sym (is_same_file-true file q e)) ∙ here, ap (λ (z : Wish). z.birth) same)
aim_by ws file q target x w false e here there = (w, there, refl)

aim_from : (ws : WishesValue) (file q : FileId) (target : ℕ) (w : Wish) (o : Option Wish) → wish_in ws file ≡ o
    → wish_in (wishes.aimed ws file target o) q ≡ Some w → (v : Wish) × (wish_in ws q ≡ Some v) × (v.birth ≡ w.birth)
aim_from ws file q target w None here there = (w, there, refl)
aim_from ws file q target w (Some x) here there =
    aim_by ws file q target x w (is_same_file file q) refl here (sym (aim_found ws file q target x here) ∙ there)

given_as : (n m k : ℕ) → m ≡ k → (1 ≤ m) × (m ≤ n) → (1 ≤ k) × (k ≤ n)
given_as n m k same g = let P : ℕ → Type 0 = λ z. (1 ≤ z) × (z ≤ n) in subst P same g

module _ (a : Store) (file : FileId) (target : ℕ) where
  abbrev pub Asked : Store
  Asked = with_wishes a (aim_wish a.wishes file target)

  pub aim_was : (q : FileId) (w : Wish) → wish_at Asked q ≡ Some w
      → (v : Wish) × (wish_at a q ≡ Some v) × (v.birth ≡ w.birth)
  aim_was q w there = aim_from a.wishes file q target w (wish_in a.wishes file) refl there

  module _ (h : AreBirths a) where
    -- one that asks another server
    pub aim_births : AreBirths Asked
    aim_births = record {
      replicas = h.replicas;
      wishes = λ q w there. (
          let was = aim_was q w there in
          given_as a.births was.0.birth w.birth was.2 (h.wishes q was.0 was.1));
      fills = h.fills;
      wished = λ q w there. (let was = aim_was q w there in h.wished q was.0 was.1);
      own = h.own;
    }

-- ---- wishes that end

-- wishes of which none came
pub wishes_as_before : (a : Store) (ws : WishesValue) → ((q : FileId) (w : Wish) → wish_in ws q ≡ Some w → wish_at a q ≡ Some w)
    → HoldsAsBefore a (with_wishes a ws)
wishes_as_before a ws was = record {
  held = λ q. refl;
  births = λ q. refl;
  given = (let h : a.births ≤ a.births = omega arith in h);
  wishes = was;
  fills = λ q i there. there;
}

gone_by : (t : Bool) (o : Option Wish) (w : Wish) → cond (not t) o None ≡ Some w → o ≡ Some w
gone_by true o w there = cc
gone_by false o w there = there

-- that for a thing
pub gone_as_before : (a : Store) (file : FileId) → HoldsAsBefore a (with_wishes a (without_wish a.wishes file))
gone_as_before a file =
    wishes_as_before a (without_wish a.wishes file) (λ q w there.
    gone_by (is_same_file file q) (wish_at a q) w (sym (wish_behind a.wishes file q) ∙ there))

-- all of them, and what is noted of versions
pub unwished_as_before : (a : Store) → HoldsAsBefore a (record a { announced = []; wishes = [] })
unwished_as_before a = record {
  held = λ q. refl;
  births = λ q. refl;
  given = (let h : a.births ≤ a.births = omega arith in h);
  wishes = λ q w there. absurd (let z : ◌≡◌ {A = Option Wish} None (Some w) = there in cc);
  fills = λ q i there. there;
}
