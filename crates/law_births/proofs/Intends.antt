-- Births behind the end of an event: intentions end and begin, and what is to be filled has a
-- birth.
use Rattle.std.proofs.Common.{ℕ, ◌≡◌, ◌≤◌, ◌+◌, ◌⊎◌, arith, Bool, true, false, cond, not, filter, Option, None, Some, is_some, inl, inr, refl, sym, ap, ◌∙◌}
use Rattle.std.specs.Option.{option_map}
use Rattle.std.proofs.lemmas.Bool.{false≢true}
use Rattle.pg_run.specs.pg_base.declared.id.FileId.{FileId}
use Rattle.pg_run.specs.pg_base.Id.{is_same_file}
use Rattle.pg_run.proofs.pg_base.Orders.{is_same_file-refl, is_same_file-true}
use Rattle.pg_run.specs.pg_intent.declared.intent.Intent.{Intent}
use Rattle.pg_run.specs.pg_intent.declared.intent.Intent.TheVariants as intent
use Rattle.pg_run.specs.pg_intent.declared.key.IntentKey.TheVariants as intent_key
use Rattle.pg_run.specs.pg_intent.Intent.{key_of}
use Rattle.pg_run.specs.pg_intent.Intents.{begun, has_key}
use Rattle.pg_run.specs.pg_intent.Key.{is_same_key}
use Rattle.pg_run.specs.pg_msg.declared.work.Work.{Work}
use Rattle.pg_run.specs.pg_replica.Index.{Files}
use Rattle.pg_run.specs.pg_replica.declared.replica.Replica.{Replica}
use Rattle.pg_run.specs.pg_replica.Replicas.{or_nothing}
use Rattle.pg_run.specs.pg_store.declared.store.Store.{Store}
use Rattle.pg_run.specs.pg_store.declared.wishes.Wish.{Wish}
use Rattle.pg_run.specs.pg_store.Store.{is_held, replica_at}
use Rattle.pg_run.specs.pg_store.Beginning.{with_intents}
use Rattle.pg_run.specs.pg_store.Births.{birth_of, draw_birth, fill_at, wish_at, with_birth, with_wishes}
use Rattle.pg_run.specs.pg_store.Servers.{first_target}
use Rattle.pg_run.specs.pg_store.Wishes.{without_wish}
use Rattle.pg_run.specs.pg_store.Together.{AreBirths, AreTogether, birth_at}
use Rattle.pg_run.proofs.pg_store.Pairs.{intents_as_before}
use Rattle.pg_run.proofs.pg_store.Given.{births_as_before, left_by}
use Rattle.pg_run.proofs.pg_store.Wanted.{wish_behind}
use Rattle.pg_run.proofs.pg_store.Wishing.{fill_births, fill_there}
use Rattle.pg_run.proofs.pg_store.Aiming.{gone_as_before}
use Rattle.pg_run.specs.pg_pieces.Done.{Done, idle}
use Rattle.pg_run.specs.pg_intentions.Beginning.{begin_end, end_others, still_stands}
use Rattle.pg_run.specs.pg_intentions.Confirms.{confirm_of}
use Rattle.pg_run.specs.pg_intentions.Fills.{files_to_fill, is_in, wished_birth, with_fill_birth, without_wished}
use Rattle.pg_run.specs.pg_intentions.Intending.{begin_intent}
use Rattle.pg_run.specs.pg_intentions.Patches.{patch_of}
use Rattle.pg_run.specs.pg_intentions.Seeks.{seek_target}
use Rattle.pg_run.proofs.pg_intentions.Standing.{filtered}
use Rattle.law_order.proofs.law_frame.Ended.{intents_keep}
use Rattle.law_births.proofs.Has.{Goes, Has, IsAlone, before_goes, goes_itself, goes_then, has_given, none_new, one_new}
use Rattle.law_births.proofs.Begins.{aim_goes, behind_birth, fresh_given}
use Rattle.law_births.proofs.Leaves.{begun_stays}
use Rattle.law_births.proofs.Moving.{stays_goes}

-- ---- some end

module _ (f : FileId) (a : Store) (files : Files) where
  tested : (i : Intent) → has_key (intent_key.Fill f) i ≡ true → still_stands a files i ≡ is_in files f
  tested (intent.Bye file birth peer peer_birth) h = absurd (false≢true h)
  tested (intent.Seek file target) h = absurd (false≢true h)
  tested (intent.Fill file birth target) h = sym (ap (is_in files) (is_same_file-true f file h))
  tested (intent.Patch dir entry target) h = absurd (false≢true h)
  tested (intent.Confirm dir child target) h = absurd (false≢true h)
  tested (intent.Leave file peer peer_birth) h = absurd (false≢true h)

kept : (t : Bool) (o : Option Intent) (i : Intent) → cond t o None ≡ Some i → o ≡ Some i
kept true o i there = there
kept false o i there = cc

ended_goes : (a : Store) (files : Files) → Goes a (end_others a files)
ended_goes a files =
    before_goes a (end_others a files)
    (intents_as_before a (filter (still_stands a files) a.intents) (λ q i there.
    kept (is_in files q) (fill_at a q) i
    (sym (filtered (intent_key.Fill q) (still_stands a files) (is_in files q) (tested q a files) a.intents) ∙ there)))

-- ---- a Fill begins

module _ (s : Store) (file : FileId) (gap : fill_at s file ≡ None) (target : ℕ) where
  abbrev pub With : Store → ℕ → Store
  With base birth = with_intents base (begun base.intents (intent.Fill file birth target))

  yes_no : is_held s file ≡ true → is_held s file ≡ false → ⊥
  yes_no stays no_more = false≢true (sym no_more ∙ stays)

  -- of what is held it has the birth of the replica
  unwished : AreBirths s → is_held s file ≡ true → (o : Option Wish) → wish_at s file ≡ o → wish_at s file ≡ None
  unwished h held None there = there
  unwished h held (Some w) there = absurd (yes_no held (h.wished file w there).0)

  own_by : (o : Option Replica) → is_some o ≡ true → option_map (λ (x : Replica). x.birth) o ≡ Some (or_nothing o).birth
  own_by None e = cc
  own_by (Some x) e = refl

  own_birth : AreTogether s → is_held s file ≡ true → birth_at s file ≡ Some (birth_of s file)
  own_birth together held = own_by (replica_at s file) (together file ∙ held)

  held_births : (held : is_held s file ≡ true) → IsAlone s → AreBirths (With s (birth_of s file))
  held_births held k =
      let own = own_birth k.together held in
      fill_births s file (birth_of s file) target k.births (unwished k.births held (wish_at s file) refl) gap
      (has_given s k.births file (birth_of s file) (inl own)) (λ stays. own)

  held_back : is_held s file ≡ true → (f : FileId) (n : ℕ) → Has (With s (birth_of s file)) f n → Has s f n
  held_back held f n has = elim has [
    | inl e ↦ inl e
    | inr p ↦ elim p [
      | inl w ↦ inr (inl w)
      | inr g ↦ elim (fill_there s file (birth_of s file) target gap f g.1.0 n g.1.1 g.1.2) [
        | inl here ↦ absurd (yes_no held (ap (is_held s) (sym (is_same_file-true f file here.0)) ∙ g.0))
        | inr was ↦ inr (inr (g.0, (g.1.0, g.1.1, was)))
      ]
    ]
  ]

  held_goes : is_held s file ≡ true → Goes s (With s (birth_of s file))
  held_goes held =
      none_new s (With s (birth_of s file)) (λ k. k.together) (held_births held) (let h : s.births ≤ s.births = omega arith in h) (held_back held)

  -- of what is not held and not wished for it has a fresh one
  fresh_back : (f : FileId) (n : ℕ) → Has (With (with_birth s) (draw_birth s)) f n → Has s f n ⊎ ((f ≡ file) × (n ≡ s.births + 1))
  fresh_back f n has = elim has [
    | inl e ↦ inl (inl e)
    | inr p ↦ elim p [
      | inl w ↦ inl (inr (inl w))
      | inr g ↦ elim (fill_there (with_birth s) file (draw_birth s) target gap f g.1.0 n g.1.1 g.1.2) [
        | inl here ↦ inr (is_same_file-true f file here.0, sym here.1)
        | inr was ↦ inl (inr (inr (g.0, (g.1.0, g.1.1, was))))
      ]
    ]
  ]

  fresh_births : is_held s file ≡ false → wish_at s file ≡ None → IsAlone s → AreBirths (With (with_birth s) (draw_birth s))
  fresh_births away none k =
      fill_births (with_birth s) file (draw_birth s) target (behind_birth s k.births) none gap (fresh_given s)
      (λ stays. absurd (yes_no stays away))

  fresh_goes : is_held s file ≡ false → wish_at s file ≡ None → Goes s (With (with_birth s) (draw_birth s))
  fresh_goes away none =
      one_new s (With (with_birth s) (draw_birth s)) file (λ k. k.together) (fresh_births away none)
      (let h : s.births ≤ s.births + 1 = omega arith in h) fresh_back

  -- and else that of the wish, which ends
  module _ (w : Wish) (wished : wish_at s file ≡ Some w) (away : is_held s file ≡ false) where
    abbrev Gone : Store
    Gone = with_wishes s (without_wish s.wishes file)

    no_wish : wish_at Gone file ≡ None
    no_wish =
        wish_behind s.wishes file file ∙ ap (λ t. cond (not t) (wish_at s file) None) (is_same_file-refl file)

    wish_back : (f : FileId) (n : ℕ) → Has (With Gone w.birth) f n → Has s f n
    wish_back f n has = elim has [
      | inl e ↦ inl e
      | inr p ↦ inr (elim p [
        | inl v ↦ inl (v.0, (left_by (wish_at s f) v.0 (is_same_file file f) (sym (wish_behind s.wishes file f) ∙ v.1)).1, v.2)
        | inr g ↦ elim (fill_there Gone file w.birth target gap f g.1.0 n g.1.1 g.1.2) [
          | inl here ↦ inl (w, ap (wish_at s) (is_same_file-true f file here.0) ∙ wished, here.1)
          | inr was ↦ inr (g.0, (g.1.0, g.1.1, was))
        ]
      ])
    ]

    wish_births : IsAlone s → AreBirths (With Gone w.birth)
    wish_births k =
        fill_births Gone file w.birth target (births_as_before s Gone (gone_as_before s file) k.births) no_wish gap
        (k.births.wishes file w wished) (λ stays. absurd (yes_no stays away))

    wish_goes : Goes s (With Gone w.birth)
    wish_goes =
        none_new s (With Gone w.birth) (λ k. k.together) wish_births (let h : s.births ≤ s.births = omega arith in h) wish_back

  away_goes : (o : Option Wish) → wish_at s file ≡ o → is_held s file ≡ false → Goes s (With (without_wished s file o) (wished_birth s o))
  away_goes None there away = fresh_goes away there
  away_goes (Some w) there away = wish_goes w there away

  pub filled_goes : (h : Bool) → is_held s file ≡ h
      → Goes s (With (cond h s (without_wished s file (wish_at s file))) (cond h (birth_of s file) (wished_birth s (wish_at s file))))
  filled_goes true held = held_goes held
  filled_goes false away = away_goes (wish_at s file) refl away

pub none_of : (o : Option Intent) → is_some o ≡ false → o ≡ None
none_of None e = refl
none_of (Some i) e = cc

-- ---- all of it

-- a Patch, a Confirm or a Seek begins
other_goes : (s : Store) (d : Done) (i : Intent) → ((q : FileId) → is_same_key (intent_key.Fill q) (key_of i) ≡ false) → Goes s d.store
    → Goes s (begin_intent d.store i d.work).store
other_goes s d i other k = goes_then k (stays_goes (begun_stays d.store i d.work other))

pub begin_end_goes : (s : Store) (w : Work) → Goes s (begin_end s w).store
begin_end_goes s w =
    intents_keep (idle s w) (λ (d : Done). Goes s d.store) (record {
      ends = λ k. goes_then k (ended_goes s (files_to_fill s.names));
      patches = λ d slot is k. other_goes s d (patch_of d.store slot d.work) (λ q. refl) k;
      fills = λ d file none k. (
          let b = d.store in
          let target = first_target (with_fill_birth b file) d.work.from in
          goes_then k (filled_goes b file (none_of (fill_at b file) none) target (is_held b file) refl));
      seeks = λ d file is k. other_goes s d (intent.Seek file (seek_target d.store file)) (λ q. refl) k;
      aims_seek = λ d file k. goes_then k (aim_goes d.store (intent_key.Seek file) (seek_target d.store file));
      confirms = λ d slot is k. other_goes s d (confirm_of d.store slot) (λ q. refl) k;
    }) (goes_itself s)
