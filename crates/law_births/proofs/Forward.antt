-- A birth that is to come when an event ends its first effect is there, or is to come, when the
-- event ends.
use Rattle.std.proofs.Common.{ℕ, ◌≡◌, ◌⊎◌, Bool, true, false, cond, not, List, [], ◌∷◌, Option, None, Some, inl, inr, refl, sym, ap, ◌∙◌, length, drop}
use Rattle.pg_run.specs.pg_base.declared.id.FileId.{FileId}
use Rattle.pg_run.specs.pg_base.Id.{is_same_file}
use Rattle.pg_run.proofs.pg_base.Orders.{is_same_file-refl, is_same_file-true}
use Rattle.pg_run.specs.pg_intent.declared.intent.Intent.{Intent}
use Rattle.pg_run.specs.pg_intent.declared.intent.Intent.TheVariants as intent
use Rattle.pg_run.specs.pg_intent.declared.key.IntentKey.TheVariants as intent_key
use Rattle.pg_run.specs.pg_intent.Intent.{key_of}
use Rattle.pg_run.specs.pg_intent.Intents.{begun_on}
use Rattle.pg_run.specs.pg_intent.Key.{is_same_key}
use Rattle.pg_run.proofs.pg_intent.Found.{aimed_found}
use Rattle.pg_run.specs.pg_msg.declared.work.Touched.{Touched}
use Rattle.pg_run.specs.pg_msg.declared.work.Work.{Work}
use Rattle.pg_run.specs.pg_register.declared.flag.Flag.{Flag}
use Rattle.pg_run.specs.pg_house.House.{house}
use Rattle.pg_run.specs.pg_house.Work.{state_of}
use Rattle.pg_run.specs.pg_store.declared.store.Store.{Store}
use Rattle.pg_run.specs.pg_store.declared.wishes.Wish.{Wish}
use Rattle.pg_run.specs.pg_store.Births.{birth_of, fill_at, wish_at, with_wishes}
use Rattle.pg_run.specs.pg_store.Servers.{first_target}
use Rattle.pg_run.specs.pg_store.Store.{is_held, is_newer_flag, put_flag, take_flag, touch, with_names}
use Rattle.pg_run.specs.pg_store.Wishes.{without_wish}
use Rattle.pg_run.proofs.pg_store.Wanted.{wish_behind}
use Rattle.pg_run.proofs.pg_store.Wishing.{fill_behind}
use Rattle.pg_run.specs.pg_pieces.Done.{Done, idle}
use Rattle.pg_run.specs.pg_pieces.Making.{own_next}
use Rattle.pg_run.specs.pg_cells.Settling.{rules, settle, touch_all}
use Rattle.pg_run.proofs.pg_cells.Settled.{settle_keeps}
use Rattle.pg_run.specs.pg_intentions.Beginning.{begin_end}
use Rattle.pg_run.specs.pg_intentions.Confirms.{confirm_of}
use Rattle.pg_run.specs.pg_intentions.Fills.{with_fill_birth, wished_birth, without_wished}
use Rattle.pg_run.specs.pg_intentions.Intending.{begin_intent}
use Rattle.pg_run.specs.pg_intentions.Patches.{patch_of}
use Rattle.pg_run.specs.pg_intentions.Seeks.{aim_seek, seek_target}
use Rattle.pg_run.proofs.pg_intentions.Standing.{begun_other}
use Rattle.pg_run.proofs.theory_flood_pieces.Choices.{chosen}
use Rattle.law_order.proofs.law_frame.Ended.{intents_keep}
use Rattle.law_births.proofs.Has.{IsFilled, IsWished}
use Rattle.law_births.proofs.Intends.{With, none_of}

-- it is wished for, or to be filled
abbrev pub Comes : Store → FileId → ℕ → Type 0
Comes a f n = IsWished a f n ⊎ IsFilled a f n

module _ (f : FileId) (n : ℕ) where
  -- where names, wishes and Fills are the same
  pub same_comes : (a b : Store) → is_held b f ≡ is_held a f → wish_at b f ≡ wish_at a f → fill_at b f ≡ fill_at a f → Comes a f n → Comes b f n
  same_comes a b held wish fill k = elim k [
    | inl w ↦ inl (w.0, wish ∙ w.1, w.2)
    | inr g ↦ inr (held ∙ g.0, (g.1.0, g.1.1, fill ∙ g.1.2))
  ]

  -- ---- the house rules

  touches_wish : (ts : List Touched) (a : Store) → wish_at (touch_all a ts) f ≡ wish_at a f
  touches_wish [] a = refl
  touches_wish (t ∷ ts) a = touches_wish ts (touch a t.file t.key)

  rules_wish : (a : Store) (work : Work) → IsWished a f n → IsWished (rules a work).store f n
  rules_wish a work k =
      let st = house work.now (state_of a.names work) in
      (k.0, touches_wish (drop (length work.touched) st.work.touched) (with_names a st.names) ∙ k.1, k.2)

  flag_wish : (a : Store) (file : FileId) (flag : Flag) → IsWished a f n → IsWished (take_flag a file flag) f n
  flag_wish a file flag k =
      chosen (λ (b : Store). IsWished b f n) (is_newer_flag a file flag) (put_flag a file flag) a k k

  pub settle_wish : (a : Store) (work : Work) → IsWished a f n → IsWished (settle a work).store f n
  settle_wish a work k =
      settle_keeps (λ (b : Store) (w : Work). IsWished b f n) rules_wish
      (λ b file w is h. flag_wish b file (own_next b file true) h) a work k

  -- ---- a Fill begins

  module _ (s : Store) (g : FileId) (gap : fill_at s g ≡ None) (target : ℕ) where
    -- of another thing, or with other wishes
    fill_stays : (base : Store) (birth : ℕ) → is_held base f ≡ is_held s f → fill_at base f ≡ fill_at s f → IsFilled s f n
        → IsFilled (With s g gap target base birth) f n
    fill_stays base birth held fill k = at (is_same_file f g) refl
      where
        at : (t : Bool) → is_same_file f g ≡ t → IsFilled (With s g gap target base birth) f n
        at true e = absurd (let z : ◌≡◌ {A = Option Intent} None (Some (intent.Fill k.1.0 n k.1.1)) =
            sym gap ∙ sym (ap (fill_at s) (is_same_file-true f g e)) ∙ k.1.2 in cc)
        at false e = (
          held ∙ k.0,
          (
            k.1.0,
            k.1.1,
            fill_behind base g birth target f
                ∙ ap (λ t. cond t (Some (begun_on (fill_at base f) (intent.Fill g birth target))) (fill_at base f)) e
                ∙ fill ∙ k.1.2,
          ),
        )

    wish_by : (x v : Wish) (t : Bool) → is_same_file g f ≡ t → wish_at s f ≡ Some x → x.birth ≡ n → wish_at s g ≡ Some v → is_held s g ≡ false
        → Comes (With s g gap target (with_wishes s (without_wish s.wishes g)) v.birth) f n
    wish_by x v true e there birth other away =
        let same : g ≡ f = is_same_file-true g f e in
        let one : v ≡ x = (let z : ◌≡◌ {A = Option Wish} (Some v) (Some x) = sym other ∙ ap (wish_at s) same ∙ there in cc) in
        let turned : is_same_file f g ≡ true = ap (λ (z : FileId). is_same_file f z) same ∙ is_same_file-refl f in
        let base = with_wishes s (without_wish s.wishes g) in
        inr (
          sym (ap (is_held s) same) ∙ away,
          (
            g,
            target,
            fill_behind base g v.birth target f
                ∙ ap (λ t. cond t (Some (begun_on (fill_at base f) (intent.Fill g v.birth target))) (fill_at base f)) turned
                ∙ ap (λ (o : Option Intent). Some (begun_on o (intent.Fill g v.birth target))) (sym (ap (fill_at s) same) ∙ gap)
                ∙ ap (λ (m : ℕ). Some (intent.Fill g m target)) (ap (λ (z : Wish). z.birth) one ∙ birth),
          ),
        )
    wish_by x v false e there birth other away =
        inl (x, wish_behind s.wishes g f ∙ ap (λ t. cond (not t) (wish_at s f) None) e ∙ there, birth)

    away_comes : (o : Option Wish) → wish_at s g ≡ o → is_held s g ≡ false → Comes s f n
        → Comes (With s g gap target (without_wished s g o) (wished_birth s o)) f n
    away_comes None there away k = elim k [
      | inl w ↦ inl w
      | inr c ↦ inr (fill_stays (without_wished s g None) (wished_birth s None) refl refl c)
    ]
    away_comes (Some v) there away k = elim k [
      | inl w ↦ wish_by w.0 v (is_same_file g f) refl w.1 w.2 there away
      | inr c ↦ inr (fill_stays (without_wished s g (Some v)) (wished_birth s (Some v)) refl refl c)
    ]

    filled_comes : (h : Bool) → is_held s g ≡ h → Comes s f n
        → Comes (With s g gap target (cond h s (without_wished s g (wish_at s g))) (cond h (birth_of s g) (wished_birth s (wish_at s g)))) f n
    filled_comes true held k = elim k [
      | inl w ↦ inl w
      | inr c ↦ inr (fill_stays s (birth_of s g) refl refl c)
    ]
    filled_comes false away k = away_comes (wish_at s g) refl away k

  -- ---- all of it

  -- a Patch, a Confirm or a Seek begins
  other_comes : (d : Done) (i : Intent) → is_same_key (intent_key.Fill f) (key_of i) ≡ false → Comes d.store f n → Comes (begin_intent d.store i d.work).store f n
  other_comes d i other k =
      same_comes d.store (begin_intent d.store i d.work).store refl refl (begun_other d.store i d.work (intent_key.Fill f) other) k

  -- a wish stays one until the end, or becomes a Fill
  pub wish_comes : (s : Store) (w : Work) → IsWished s f n → Comes (begin_end s w).store f n
  wish_comes s w wished =
      intents_keep (idle s w) (λ (d : Done). Comes d.store f n) (record {
        ends = λ k. inl wished;
        patches = λ d slot is k. other_comes d (patch_of d.store slot d.work) refl k;
        fills = λ d g none k. (
            let b = d.store in
            let target = first_target (with_fill_birth b g) d.work.from in
            filled_comes b g (none_of (fill_at b g) none) target (is_held b g) refl k);
        seeks = λ d g is k. other_comes d (intent.Seek g (seek_target d.store g)) refl k;
        aims_seek = λ d g k. (
            let to = seek_target d.store g in
            same_comes d.store (aim_seek d.store g) refl refl (aimed_found d.store.intents (intent_key.Seek g) to (intent_key.Fill f)) k);
        confirms = λ d slot is k. other_comes d (confirm_of d.store slot) refl k;
      }) (inl wished)
