-- The first part of a step in which what was lost is given up.
use Rattle.std.proofs.Common.{ℕ, ◌≡◌, true, false, length, List, [], ◌∷◌, Option, None, Some, refl, sym, ap, subst, ◌∙◌, inl, inr, ◌⊎◌}
use Rattle.std.proofs.lemmas.Option.{same_Some}
use Rattle.pg_run.specs.pg_base.declared.id.FileId.{FileId}
use Rattle.pg_run.specs.pg_base.declared.policy.Policy.TheVariants.{Last}
use Rattle.pg_run.specs.pg_calls.Forgetting.{bare_entry, begin_lost, begun_at, begun_with, dead_at, dead_by, dirs_of, fill_lost, forget_lost, has_blank_place, is_wanted, last_listing, last_place, mark, marked_each, placed_lost, root_place, strike_out, struck_out, unfilled, unwished}
use Rattle.pg_run.specs.pg_calls.Making.{make_place}
use Rattle.pg_run.specs.pg_calls.Naming.{raised}
use Rattle.pg_run.specs.pg_pieces.Done.{Done, idle}
use Rattle.pg_run.specs.pg_entries.declared.entry.Entry.{Entry}
use Rattle.pg_run.specs.pg_house.Facts.{IsOneOf}
use Rattle.pg_run.specs.pg_intent.declared.key.IntentKey.TheVariants as intent_key
use Rattle.pg_run.specs.pg_intent.Intents.{intent_at, stands}
use Rattle.pg_run.proofs.pg_intent.Found.{ended_found}
use Rattle.theory_listing.specs.Rule.{IsToldAt}
use Rattle.theory_listing.proofs.Handlers.{cells_first}
use Rattle.pg_run.specs.pg_msg.declared.update.Update.TheVariants as update
use Rattle.pg_run.specs.pg_msg.declared.work.Work.{Work}
use Rattle.pg_run.specs.pg_msg.Work.{new_work, with_made}
use Rattle.pg_run.specs.pg_names.declared.attributes.Attributes.{Attributes}
use Rattle.pg_run.specs.pg_names.Names.{blank_own, cell_at, is_dir}
use Rattle.pg_run.proofs.theory_flood_pieces.Choices.{chosen, decided}
use Rattle.pg_run.specs.pg_register.declared.place.Place.{Place}
use Rattle.pg_run.specs.Intending.{IntendsInOrder, PatchesStand}
use Rattle.pg_run.specs.pg_store.declared.store.Store.{Store}
use Rattle.pg_run.specs.pg_store.Births.{draw_birth, with_birth}
use Rattle.pg_run.specs.pg_store.Seen.{removed_of, view_of}
use Rattle.pg_run.specs.pg_store.Store.{is_held, take_entry}
use Rattle.law_listings.specs.Letters.{Letter, patch_place}
use Rattle.law_listings.proofs.Alike.{Alike, Alike-refl, Alike-trans, alike_by, alike_first, before_alike, behind_alike}
use Rattle.law_listings.proofs.Heard.{IsBehind, IsFirst, idle_first, plainly}
use Rattle.law_listings.proofs.Joined as joined
use Rattle.law_listings.proofs.Leaving.{ended_alike}
use Rattle.law_listings.proofs.Placed.{IsNoted, noted_from, noted_on, place_first, place_noted, same_noted}
use Rattle.law_listings.proofs.PlacesAlone.{IsPart, of_places}
use Rattle.law_listings.proofs.Starting.{IsStarted, started, started_first, started_noted, then_placed}
use Rattle.law_listings.proofs.Unseen.{fill_alike, fill_left, raised_alike, raised_left}
use Rattle.law_listings.proofs.Views.{told_earlier}

-- ---- cells of what is not held take a dead place

-- cells grow, and where one has a new place that is dead; all else is as it was
record IsStruck (a m : Store) : Type 0 where
  own : (f : FileId) → of_places.own m f ≡ of_places.own a f
  grows : (d c : FileId) (q : Place) → of_places.cell a d c ≡ Some q → IsToldAt of_places m d c q.stamp
  cells : (d c : FileId) (q : Place) → of_places.cell m d c ≡ Some q → (of_places.cell a d c ≡ Some q) ⊎ (q.live ≡ false)
  intents : m.intents ≡ a.intents
  removed : removed_of m ≡ removed_of a

struck_itself : (a m : Store) → m.names ≡ a.names → m.intents ≡ a.intents → IsStruck a m
struck_itself a m names intents =
    let k = alike_by a m names intents in
    record {
      own = k.own;
      grows = λ d c q h. (q, k.cells d c ∙ h, inl refl);
      cells = λ d c q h. inl (sym (k.cells d c) ∙ h);
      intents = intents;
      removed = k.removed;
    }

module _ (a b : Store) (dir : FileId) (e : Entry) (dead : e.place.live ≡ false) (k : IsStruck a b) where
  abbrev Took : Store
  Took = take_entry b dir e

  abbrev Was : FileId → FileId → Place → Type 0
  Was d c q = (of_places.cell a d c ≡ Some q) ⊎ (q.live ≡ false)

  cell_here : (q : Place) → of_places.cell Took dir e.child ≡ Some q → Was dir e.child q
  cell_here q h = elim (joined.at_then b dir e) [
    | inl old ↦ k.cells dir e.child q (sym old ∙ h)
    | inr new ↦ inr (ap (λ (p : Place). p.live) (sym (same_Some e.place q (sym new.0 ∙ h))) ∙ dead)
  ]

  cell_by : (d c : FileId) (q : Place) → of_places.cell Took d c ≡ Some q → Was d c q
  cell_by d c q h = elim (joined.others_then b dir e d c) [
    | inr same ↦ k.cells d c q (sym same ∙ h)
    | inl at ↦
        let P : FileId → FileId → Type 0 = λ x y. of_places.cell Took x y ≡ Some q → Was x y q in
        subst (λ (x : FileId). P x c) (sym at.0) (subst (P dir) (sym at.1) (cell_here q)) h
  ]

  -- one more cell takes it
  struck_more : IsStruck a Took
  struck_more = record {
    own = λ f. joined.own_then b dir e f ∙ k.own f;
    grows = λ d c q h. (
        let t = k.grows d c q h in
        let more = joined.grows_then b dir e d c t.0 t.1 in
        told_earlier Took d c q.stamp t.0.stamp t.2 more);
    cells = cell_by;
    intents = joined.intents_then b dir e ∙ k.intents;
    removed = joined.removed_then b dir e ∙ k.removed;
  }

all_struck : (a : Store) (f : FileId) (place : Place) → place.live ≡ false → (ds : List FileId) (b : Store) (work : Work) → IsStruck a b → IsStruck a (marked_each b f place ds work).store
all_struck a f place dead [] b work k = k
all_struck a f place dead (d ∷ ds) b work k =
    let one = mark f place b d work in
    all_struck a f place dead ds one.store one.work (struck_more a b d (bare_entry f place) dead k)

dead_is : (a : Store) (moment : ℕ) (o : Option Entry) (f : FileId) → (dead_by a moment o f).live ≡ false
dead_is a moment None f = refl
dead_is a moment (Some x) f = refl

module _ (a : Store) (behind : IsBehind a) (order : IntendsInOrder a) (heard : Letter) (view : heard.view ≡ view_of a) (moment : ℕ) where
  abbrev W : Work
  W = new_work moment 0

  abbrev First : Done → Type 0
  First d = IsFirst a heard d

  struck_part : (m : Store) → IsStruck a m → IsPart a m heard
  struck_part m k = λ least. cells_first of_places least a m heard (record {
    hears = inr view;
    view = ap (λ (rs : List ℕ). length rs) k.removed;
    own = k.own;
    births = λ f was now. refl;
    past = λ f n h. h;
    patches = λ d c. ap (λ is. patch_place (intent_at is (intent_key.Patch d c))) k.intents;
    grows = k.grows;
    new = λ d c q l none. elim (k.cells d c q l.cell) [ inl was ↦ inl was | inr dead ↦ absurd (let e : true ≡ false = sym l.is_in.live.0 ∙ dead in cc) ];
    confirms = λ d c q owes l none. inl (ap (λ is. stands is (intent_key.Confirm d c)) k.intents ∙ owes);
  })

  struck_first : (d : Done) → IsStruck a d.store → First d
  struck_first d k = plainly a heard d (struck_part d.store k) (same_noted a d k.own)

  -- a file that is not held
  struck_by : (f : FileId) (o : Option FileId) → First (struck_out a f W o)
  struck_by f None = idle_first a behind heard view W
  struck_by f (Some dir) =
      let place = dead_at a moment f dir in
      let work = with_made W (update.Place f place) in
      struck_first (marked_each (unwished a f) f place (dirs_of a.names f) work)
      (all_struck a f place (dead_is a moment (cell_at a.names dir f) f) (dirs_of a.names f) (unwished a f) work (struck_itself a (unwished a f) refl refl))

  -- ---- a filling replica is full

  put_part : (f : FileId) → IsPart a (placed_lost a f W).store heard × IsNoted a (placed_lost a f W)
  put_part f =
      let place = root_place a moment f in
      chosen (λ (d : Done). IsPart a d.store heard × IsNoted a d) (has_blank_place a f) (make_place f place (idle a W)) (idle a W)
      (place_first a f place heard view, place_noted a f place (with_made W (update.Place f place)))
      (alike_first a a heard view (Alike-refl a), same_noted a (idle a W) (λ g. refl))

  filled_first : (f : FileId) → First (fill_lost a f W)
  filled_first f =
      let put = placed_lost a f W in
      let end = fill_lost a f W in
      let more : Alike put.store end.store = fill_alike put.store f put.work in
      let k = put_part f in
      plainly a heard end (before_alike put.store end.store more heard a k.0)
      (noted_on a put end k.1 more.own (λ x h. subst (IsOneOf x) (sym (fill_left put.store f put.work)) h))

  -- ---- a directory begins anew

  module _ (f : FileId) (away : is_held a f ≡ false) where
    abbrev Given : Store
    Given = unfilled (with_birth a) f

    drawn_is : Alike a (with_birth a)
    drawn_is = alike_by a (with_birth a) refl refl

    given : Alike a Given
    given = Alike-trans drawn_is (ended_alike (with_birth a) (intent_key.Fill f) (record { patch = λ d c. refl; confirm = λ d c. refl }))

    given_behind : IsBehind Given
    given_behind = record { back = behind.back }

    given_patches : PatchesStand Given
    given_patches d c e target h =
        let p = order.patches d c e target (sym (ended_found a.intents (intent_key.Fill f) (intent_key.Patch d c)) ∙ h) in
        record { away = p.away; own = p.own; held = p.held; upto = p.upto; same = p.same }

    -- what stands, and is noted
    module _ (d : Done) (k : IsStarted Given d.store f) where
      anew_part : IsPart a d.store heard
      anew_part = behind_alike a Given given heard d.store (started_first Given d.store f k away given_behind given_patches heard view)

      anew_noted : IsNoted a d
      anew_noted = noted_from a Given d given.own
          (noted_on Given (idle d.store d.work) d (started_noted Given d.store f k away given_behind given_patches heard view d.work) (λ g. refl) (λ x h. h))

      raised_first : First (raised f d)
      raised_first =
          let end = raised f d in
          let more : Alike d.store end.store = raised_alike d.store f d.work in
          plainly a heard end (before_alike d.store end.store more heard a anew_part)
          (noted_on a d end anew_noted more.own (λ x h. subst (IsOneOf x) (sym (raised_left d.store f d.work)) h))

    begun : (own : Attributes) → IsStarted Given (begun_with a f own) f
    begun own = started Given f (draw_birth a) Last own true away

    begun_by : (o : Option Place) → First (raised f (begun_at a f W o))
    begun_by (Some place) = raised_first (begun_at a f W (Some place)) (begun (record { place = place; flags = [] }))
    begun_by None =
        let b = begun_with a f (blank_own f) in
        raised_first (begun_at a f W None) (then_placed Given b f (root_place b moment f) (begun (blank_own f)))

    begun_first : First (begin_lost a f W)
    begun_first =
        chosen First (is_wanted a f) (raised f (begun_at a f W (last_place a.names f))) (idle a W)
        (begun_by (last_place a.names f)) (idle_first a behind heard view W)

  -- WHAT WAS LOST IS GIVEN UP
  pub lost_first : (f : FileId) → First (forget_lost a f W)
  lost_first f =
      decided First (is_held a f) (fill_lost a f W) _
      (λ held. filled_first f)
      (λ away. chosen First (is_dir f) (begin_lost a f W) (strike_out a f W) (begun_first f away)
      (struck_by f (last_listing a.names f (dirs_of a.names f))))
