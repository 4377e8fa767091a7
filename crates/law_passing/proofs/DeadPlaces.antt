-- Passing gives a directory no dead place, unless its maker is removed; nor does a live place that
-- is made, nor a flag.
use Rattle.std.proofs.Common.{ℕ, ◌≡◌, ◌&&◌, not, Bool, true, false, cond, List, [], ◌∷◌, ◌++◌, map, refl, sym, ap, subst, ◌∙◌, inl, inr, ◌⊎◌}
use Rattle.std.proofs.lemmas.Bool.{false≢true}
use Rattle.pg_run.specs.pg_base.declared.id.FileId.{FileId}
use Rattle.pg_run.specs.pg_base.Id.{is_same_file}
use Rattle.pg_run.specs.pg_base.Stamp.{is_before}
use Rattle.pg_run.proofs.pg_base.Orders.{UpTo-same, UpTo-trans, is_before-false}
use Rattle.pg_run.specs.pg_content.Content.{Among}
use Rattle.pg_run.specs.pg_register.declared.place.Place.{Place}
use Rattle.pg_run.specs.pg_register.Flag.{is_removed}
use Rattle.pg_run.specs.pg_msg.declared.update.Update.{Update}
use Rattle.pg_run.specs.pg_msg.declared.update.Update.TheVariants as update
use Rattle.pg_run.specs.pg_names.Names.{is_dir}
use Rattle.pg_run.specs.theory_flood_pieces.UpTo.{IsPlaceUpTo}
use Rattle.pg_run.specs.Took.{Take, latest_place, own_place, places_taken, take_of}
use Rattle.pg_run.specs.Took.Take.{TookPlace}
use Rattle.pg_run.specs.Took.Taker.{Itself}
use Rattle.pg_run.specs.Passed.{passed, passed_with, places_known, top}
use Rattle.pg_run.proofs.Knowing.{Within, passed_within, told_itself, within_back, within_parts, within_then}
use Rattle.pg_run.proofs.Lists.{among_front}
use Rattle.law_passing.specs.Gets.{IsBrought}
use Rattle.law_passing.specs.Newest.{IsAnyOf, IsLatest}
use Rattle.law_passing.specs.Tells.{AreApart, HasPlace, KnowsPlace}
use Rattle.law_passing.proofs.Apart.{apart_within, one_more}
use Rattle.law_passing.proofs.Brought.{brought_or_old, old_there, place_brought, same_places}
use Rattle.law_passing.proofs.Latest.{any_of, any_up, first_up, latest_of, latest_same}
use Rattle.law_passing.proofs.Takes.{known_place, place_known, place_there, there_place}

-- ---- updates that are made

-- where it is a place, a live one
abbrev pub IsLiveMade : Update → Type 0
IsLiveMade u = (f : FileId) (p : Place) → u ≡ update.Place f p → p.live ≡ true

newer_dead : (a p : Place) (t : Bool) → p.live ≡ true → (cond t p a).live ≡ false → cond t p a ≡ a
newer_dead a p true live dead = absurd (false≢true (sym dead ∙ live))
newer_dead a p false live dead = refl

-- what is dead, later than the own place, and of a server that is not removed is held back
not_back : (dir live later gone : Bool) → dir ≡ true → (dir && (not live && (later && not gone))) ≡ false
    → (live ≡ true) ⊎ ((later ≡ false) ⊎ (gone ≡ true))
not_back true true later gone is h = inl refl
not_back true false false gone is h = inr (inl refl)
not_back true false true true is h = inr (inr refl)
not_back true false true false is h = absurd (false≢true (sym h))
not_back false live later gone is h = absurd (false≢true is)

module _ (d : FileId) (is : is_dir d ≡ true) (R : List ℕ) where
  own_latest : (takes : List Take) → IsLatest d (HasPlace takes Itself d) (own_place d takes)
  own_latest takes = latest_same {f = d} (place_there Itself d takes) (there_place Itself d takes) (own_place d takes) (latest_of d (places_taken Itself d takes))

  top_latest : (takes : List Take) → IsLatest d (KnowsPlace takes d) (top d takes)
  top_latest takes = latest_same {f = d} (place_known d takes) (known_place d takes) (top d takes) (latest_of d (places_known d takes))

  -- ---- passing

  module _ (takes : List Take) (apart : AreApart takes) where
    abbrev Then : List Take
    Then = passed R takes

    abbrev Old : Place
    Old = own_place d takes

    abbrev New : Place
    New = own_place d Then

    abbrev IsKnown : Place → Type 0
    IsKnown = IsAnyOf d (KnowsPlace takes d)

    one : (a b : Place) → IsKnown a → IsKnown b → IsPlaceUpTo a b → IsPlaceUpTo b a → a ≡ b
    one a b h k up down = apart.places d a b h k (UpTo-same a.stamp b.stamp up down)

    new_known : IsKnown New
    new_known = any_of d (HasPlace Then Itself d) (KnowsPlace takes d) (λ p h. same_places R takes d p (Itself, h)) New (own_latest Then).there

    old_known : IsKnown Old
    old_known = any_of d (HasPlace takes Itself d) (KnowsPlace takes d) (λ p h. (Itself, h)) Old (own_latest takes).there

    -- it is no earlier than before
    grown : IsPlaceUpTo Old New
    grown =
        any_up (own_latest Then) Old
        (any_of d (HasPlace takes Itself d) (HasPlace Then Itself d) (λ p h. old_there R takes (TookPlace Itself d p) h) Old (own_latest takes).there)

    as_before : IsPlaceUpTo New Old → New ≡ Old
    as_before up = one New Old new_known old_known up grown

    -- what is brought is known, and not held back
    brought : IsBrought R takes (TookPlace Itself d New) → New.live ≡ false → is_removed R New.stamp.server ≡ false → New ≡ Old
    brought b dead there =
        let t = top d takes in
        let up : IsPlaceUpTo New t = (top_latest takes).up New b.1 in
        let at = any_of d (KnowsPlace takes d) (HasPlace Then Itself d) (λ p h. place_brought R takes d p Itself b.0 h b.2) t (top_latest takes).there in
        let same : New ≡ t = one New t new_known (top_latest takes).there up (any_up (own_latest Then) t at) in
        elim (not_back (is_dir d) t.live (is_before Old.stamp t.stamp) (is_removed R t.stamp.server) is b.2.1) [
          | inl live ↦ absurd (false≢true (sym dead ∙ ap (λ (p : Place). p.live) same ∙ live))
          | inr (inl early) ↦ as_before (UpTo-trans New.stamp t.stamp Old.stamp up (is_before-false Old.stamp t.stamp early))
          | inr (inr gone) ↦ absurd (false≢true (sym there ∙ ap (λ (p : Place). is_removed R p.stamp.server) same ∙ gone))
        ]

    passed_dead : New.live ≡ false → is_removed R New.stamp.server ≡ false → New ≡ Old
    passed_dead dead there = elim (own_latest Then).there [
      | inl first ↦ (let P : Place → Type 0 = λ x. IsPlaceUpTo x Old in as_before (subst P (sym first) (first_up d Old)))
      | inr has ↦ elim (brought_or_old R takes (TookPlace Itself d New) has) [
        | inl new ↦ brought new dead there
        | inr was ↦ as_before ((own_latest takes).up New was)
      ]
    ]

  -- ---- an update is made

  made_dead : (u : Update) (takes : List Take) → IsLiveMade u → (own_place d (take_of u ∷ takes)).live ≡ false → own_place d (take_of u ∷ takes) ≡ own_place d takes
  made_dead (update.Version v) takes live dead = refl
  made_dead (update.Flag f g) takes live dead = refl
  made_dead (update.Place f p) takes live dead = by (is_same_file f d) dead
    where
      by : (t : Bool) → (latest_place d (cond t (p ∷ []) [] ++ places_taken Itself d takes)).live ≡ false
          → latest_place d (cond t (p ∷ []) [] ++ places_taken Itself d takes) ≡ own_place d takes
      by true gone = let old = own_place d takes in newer_dead old p (is_before old.stamp p.stamp) (live f p refl) gone
      by false gone = refl

  -- ---- all of it

  abbrev IsDead : List Take → Type 0
  IsDead takes = (own_place d takes).live ≡ false

  abbrev IsStill : List Take → Type 0
  IsStill takes = is_removed R (own_place d takes).stamp.server ≡ false

  dead_on : (a b : List Take) → own_place d a ≡ own_place d b → IsDead a → IsDead b
  dead_on a b same dead = sym (ap (λ (p : Place). p.live) same) ∙ dead

  still_on : (a b : List Take) → own_place d a ≡ own_place d b → IsStill a → IsStill b
  still_on a b same still = sym (ap (λ (p : Place). is_removed R p.stamp.server) same) ∙ still

  -- WHERE THE OWN PLACE IS DEAD, and its maker is not removed, IT WAS THERE BEFORE
  pub dead_behind : (us : List Update) (takes : List Take) → ((u : Update) → Among u us → IsLiveMade u) → AreApart (map take_of us ++ takes)
      → IsDead (passed_with R (passed R takes) us) → IsStill (passed_with R (passed R takes) us)
      → own_place d (passed_with R (passed R takes) us) ≡ own_place d takes
  dead_behind [] takes live apart dead still = passed_dead takes apart dead still
  dead_behind (u ∷ us) takes live apart dead still =
      let next = passed R takes in
      let since = take_of u ∷ next in
      let end = passed_with R (passed R since) us in
      let made = map take_of us in
      let all = take_of u ∷ (made ++ takes) in
      let first : Within takes (made ++ takes) = within_back made takes in
      let mine : Within since all = one_more (take_of u) next (made ++ takes) (within_then next takes (made ++ takes) (passed_within R takes) first) in
      let rest : Within (made ++ since) all = within_parts made since all (λ v k. told_itself v all (inr (among_front v made takes k))) mine in
      let before : Within takes all = within_then takes (made ++ takes) all first (within_back (take_of u ∷ []) (made ++ takes)) in
      let a = dead_behind us since (λ v h. live v (inr h)) (apart_within (made ++ since) all rest apart) dead still in
      let at_since = dead_on end since a dead in
      let b = made_dead u next (live u (inl refl)) at_since in
      a ∙ b ∙ passed_dead takes (apart_within takes all before apart) (dead_on since next b at_since) (still_on since next b (still_on end since a still))
