-- Births where a wish or a Fill comes, where these ask another server, and where a replica begins.
use Rattle.std.proofs.Common.{ℕ, ◌≡◌, ◌≤◌, ◌+◌, ◌⊎◌, arith, Bool, true, false, cond, Option, None, Some, is_some, inl, inr, refl, sym, ap, subst, ◌∙◌}
use Rattle.pg_run.specs.pg_base.declared.id.FileId.{FileId}
use Rattle.pg_run.specs.pg_base.declared.policy.Policy.{Policy}
use Rattle.pg_run.specs.pg_base.Id.{is_same_file}
use Rattle.pg_run.proofs.pg_base.Orders.{is_same_file-true}
use Rattle.pg_run.specs.pg_intent.declared.intent.Intent.{Intent}
use Rattle.pg_run.specs.pg_intent.declared.intent.Intent.TheVariants as intent
use Rattle.pg_run.specs.pg_intent.declared.key.IntentKey.{IntentKey}
use Rattle.pg_run.specs.pg_names.declared.attributes.Attributes.{Attributes}
use Rattle.pg_run.specs.pg_names.Names.{known, new_held}
use Rattle.pg_run.specs.pg_replica.Replica.{new_replica}
use Rattle.pg_run.specs.pg_store.declared.store.Store.{Store}
use Rattle.pg_run.specs.pg_store.declared.wishes.Wish.{Wish}
use Rattle.pg_run.specs.pg_store.Store.{is_held, replica_at}
use Rattle.pg_run.specs.pg_store.Beginning.{begin, patches_of, put_new, with_intents}
use Rattle.pg_run.specs.pg_store.Births.{draw_birth, fill_at, is_pending, wish_at, with_birth, with_wish, with_wishes}
use Rattle.pg_run.specs.pg_store.Wishes.{aim_wish}
use Rattle.pg_run.specs.pg_store.Together.{AreBirths, IsGiven, MayBegin}
use Rattle.pg_run.specs.pg_intent.Intents.{aimed}
use Rattle.pg_run.proofs.pg_store.Pairs.{begin_together, patches_as_before}
use Rattle.pg_run.proofs.pg_store.Given.{begin_births, born_behind, born_by, held_behind, left_by, pending_may}
use Rattle.pg_run.proofs.pg_store.Wanted.{wish_behind}
use Rattle.pg_run.proofs.pg_store.Wishing.{wish_births, wish_there}
use Rattle.pg_run.proofs.pg_store.Aiming.{aim_births, aim_was, aimed_births, aimed_there}
use Rattle.law_births.proofs.Has.{Goes, Has, IsAlone, has_back, none_new, one_new, to_has}

-- a birth that was given out is not forgotten
pub fresh_given : (a : Store) → IsGiven (with_birth a) (draw_birth a)
fresh_given a = (omega arith, omega arith)

-- ---- a wish with a fresh birth

pub behind_birth : (a : Store) → AreBirths a → AreBirths (with_birth a)
behind_birth a h = record {
  replicas = λ q n e. (let g = h.replicas q n e in (g.0, let l = g.1 in omega arith));
  wishes = λ q w e. (let g = h.wishes q w e in (g.0, let l = g.1 in omega arith));
  fills = λ q f n t e. (let g = h.fills q f n t e in (g.0, let l = g.1 in omega arith));
  wished = h.wished;
  own = h.own;
}

module _ (a : Store) (file : FileId) (wish : Wish) (fresh : wish.birth ≡ draw_birth a) (away : is_held a file ≡ false)
    (gap : fill_at a file ≡ None) where
  abbrev Wishing : Store
  Wishing = with_wish (with_birth a) file wish

  wish_given : IsGiven (with_birth a) wish.birth
  wish_given = subst (IsGiven (with_birth a)) (sym fresh) (fresh_given a)

  wish_back : (f : FileId) (n : ℕ) → Has Wishing f n → Has a f n ⊎ ((f ≡ file) × (n ≡ a.births + 1))
  wish_back f n has = elim has [
    | inl e ↦ inl (inl e)
    | inr p ↦ elim p [
      | inl w ↦ elim (wish_there (with_birth a) file wish f w.0 w.1) [
        | inl here ↦ inr (is_same_file-true f file here.0, sym w.2 ∙ ap (λ (v : Wish). v.birth) (sym here.1) ∙ fresh)
        | inr was ↦ inl (inr (inl (w.0, was, w.2)))
      ]
      | inr g ↦ inl (inr (inr g))
    ]
  ]

  pub wish_goes : Goes a Wishing
  wish_goes =
      one_new a Wishing file (λ k. k.together)
      (λ k. wish_births (with_birth a) file wish (behind_birth a k.births) away gap wish_given)
      (let h : a.births ≤ a.births + 1 = omega arith in h) wish_back

-- ---- a replica begins

module _ (a : Store) (file : FileId) (birth : ℕ) (policy : Policy) (own : Attributes) (full : Bool) where
  abbrev New : Store
  New = put_new a file birth policy own full

  held_by : (q : FileId) (t : Bool) → is_some (cond t (Some (new_held own full)) (known a.names q)) ≡ false → is_held a q ≡ false
  held_by q true none = absurd (let z : true ≡ false = none in cc)
  held_by q false none = none

  new_back : (f : FileId) (n : ℕ) → Has New f n → Has a f n ⊎ ((f ≡ file) × (n ≡ birth))
  new_back f n has = elim has [
    | inl e ↦ elim (born_by birth n (replica_at a f) (new_replica birth policy) (is_same_file f file) refl (sym (born_behind a file birth policy own full f) ∙ e)) [
      | inl here ↦ inr (is_same_file-true f file here.0, sym here.1)
      | inr was ↦ inl (inl was.1)
    ]
    | inr p ↦ inl (inr (elim p [
      | inl w ↦ inl (w.0, (left_by (wish_at a f) w.0 (is_same_file file f) (sym (wish_behind a.wishes file f) ∙ w.1)).1, w.2)
      | inr g ↦ inr (held_by f (is_same_file f file) (sym (held_behind a file birth policy own full f) ∙ g.0), g.1)
    ]))
  ]

  pub begin_back : (f : FileId) (n : ℕ) → Has (begin a file birth policy own full) f n → Has a f n ⊎ ((f ≡ file) × (n ≡ birth))
  begin_back f n has =
      new_back f n (has_back New (begin a file birth policy own full) (patches_as_before New file (patches_of file a.intents)) f n has)

-- ---- one that was pending

module _ (a : Store) (file : FileId) (birth : ℕ) (policy : Policy) (own : Attributes) (full : Bool) (pending : is_pending a file birth ≡ true) where
  abbrev Granted : Store
  Granted = begin a file birth policy own full

  granted_back : (f : FileId) (n : ℕ) → Has Granted f n → Has a f n
  granted_back f n has = elim (begin_back a file birth policy own full f n has) [
    | inl was ↦ was
    | inr new ↦ subst (λ (q : FileId). Has a q n) (sym new.0) (subst (Has a file) (sym new.1) (to_has a file birth (inr pending)))
  ]

  granted_births : IsAlone a → AreBirths Granted
  granted_births k = begin_births a file birth policy own full k.births (pending_may a file birth k.births pending)

  pub granted_goes : Goes a Granted
  granted_goes =
      none_new a Granted (λ k. begin_together a file birth policy own full k.together) granted_births
      (patches_as_before (put_new a file birth policy own full) file (patches_of file a.intents)).given granted_back

more_given : (m n : ℕ) → m + 1 ≤ n → m ≤ n
more_given m n h = omega arith

-- ---- one of a new thing

module _ (a : Store) (file : FileId) (policy : Policy) (own : Attributes) (full : Bool) (away : is_held a file ≡ false)
    (gap : fill_at a file ≡ None) where
  abbrev Made : Store
  Made = begin (with_birth a) file (draw_birth a) policy own full

  made_may : MayBegin (with_birth a) file (draw_birth a)
  made_may = record {
    away = away;
    given = fresh_given a;
    fill = λ f n t there. absurd (let z : ◌≡◌ {A = Option Intent} None (Some (intent.Fill f n t)) = sym gap ∙ there in cc);
  }

  made_back : (f : FileId) (n : ℕ) → Has Made f n → Has a f n ⊎ ((f ≡ file) × (n ≡ a.births + 1))
  made_back f n has = begin_back (with_birth a) file (draw_birth a) policy own full f n has

  made_count : a.births ≤ Made.births
  made_count =
      let drawn = put_new (with_birth a) file (draw_birth a) policy own full in
      more_given a.births Made.births (patches_as_before drawn file (patches_of file a.intents)).given

  pub made_goes : Goes a Made
  made_goes =
      one_new a Made file (λ k. begin_together (with_birth a) file (draw_birth a) policy own full k.together)
      (λ k. begin_births (with_birth a) file (draw_birth a) policy own full (behind_birth a k.births) made_may) made_count made_back

-- ---- an intention or a wish asks another server

pub aim_goes : (a : Store) (k : IntentKey) (target : ℕ) → Goes a (with_intents a (aimed a.intents k target))
aim_goes a k target =
    none_new a (with_intents a (aimed a.intents k target)) (λ o. o.together) (λ o. aimed_births a k target o.births)
    (let h : a.births ≤ a.births = omega arith in h)
    (λ f n has. elim has [
      | inl e ↦ inl e
      | inr p ↦ inr (elim p [
        | inl w ↦ inl w
        | inr g ↦ (let was = aimed_there a k target f g.1.0 n g.1.1 g.1.2 in inr (g.0, (g.1.0, was.0, was.1)))
      ])
    ])

pub turn_goes : (a : Store) (file : FileId) (target : ℕ) → Goes a (with_wishes a (aim_wish a.wishes file target))
turn_goes a file target =
    none_new a (with_wishes a (aim_wish a.wishes file target)) (λ o. o.together) (λ o. aim_births a file target o.births)
    (let h : a.births ≤ a.births = omega arith in h)
    (λ f n has. elim has [
      | inl e ↦ inl e
      | inr p ↦ inr (elim p [
        | inl w ↦ (let was = aim_was a file target f w.0 w.1 in inl (was.0, was.1, was.2 ∙ w.2))
        | inr g ↦ inr g
      ])
    ])
