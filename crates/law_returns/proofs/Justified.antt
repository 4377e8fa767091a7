-- Justified return, of what servers took.
use Rattle.std.proofs.Common.{[], ℕ, ◌≡◌, ◌++◌, ◌&&◌, Bool, true, false, cond, List, ◌∷◌, take, Contains, Option, None, Some, refl, sym, ap, subst, ◌∙◌, inl, inr, ◌⊎◌}
use Rattle.std.specs.List.{flat_map}
use Rattle.std.proofs.lemmas.Bool.{false≢true, and_from, or_left, or_right}
use Rattle.std.proofs.lemmas.Grind.{flat_map-append}
use Rattle.std.proofs.lemmas.Option.{none-some, same_Some, slice_get_within}
use Rattle.pg_run.specs.pg_base.declared.id.FileId.{FileId}
use Rattle.pg_run.specs.pg_base.Id.{is_same_file}
use Rattle.pg_run.specs.pg_base.Stamp.{is_before}
use Rattle.pg_run.proofs.pg_base.Orders.{UpTo-refl, UpTo-same, UpTo-trans, is_same_file-refl}
use Rattle.pg_run.specs.pg_content.Content.{Among}
use Rattle.pg_run.specs.pg_entries.declared.entry.Entry.{Entry}
use Rattle.pg_run.specs.pg_msg.declared.update.Update.{Update}
use Rattle.pg_run.specs.pg_msg.declared.update.Update.TheVariants as update
use Rattle.pg_run.specs.pg_names.Names.{cell_at, is_dir}
use Rattle.pg_run.specs.pg_register.declared.place.Place.{Place}
use Rattle.pg_run.specs.pg_register.Flag.{is_removed}
use Rattle.pg_run.specs.pg_register.Place.{newer_place}
use Rattle.pg_run.specs.pg_store.declared.store.Store.{Store}
use Rattle.pg_run.specs.pg_server.declared.input.Input.{Input}
use Rattle.pg_run.specs.pg_server.Local.{first_effect, takes_effect}
use Rattle.pg_run.specs.theory_flood_pieces.Names.{IsEntryKnownBy}
use Rattle.pg_run.specs.theory_flood_pieces.UpTo.{IsPlaceUpTo}
use Rattle.pg_run.proofs.theory_flood_pieces.Flags.{newer_of_both}
use Rattle.pg_run.specs.Asking.{Asked}
use Rattle.pg_run.specs.Laws.{NamesMerge, ReturnsAreJustified, took_behind}
use Rattle.pg_run.specs.Passed.{has_cell, has_taken, passed, passed_with, passes}
use Rattle.pg_run.specs.Carried.{gone_in}
use Rattle.pg_run.specs.Run.{brought, made_behind, removed_then, run, took_first}
use Rattle.pg_run.specs.State.{entry_state}
use Rattle.pg_run.specs.Took.{Take, Taker, first_place, flags_in, held, is_same_taker, latest_place, own_place, place_in, place_taken_by, places_taken, take_of, without_gone}
use Rattle.pg_run.specs.Took.Take.{Began, TookFlag, TookPlace, TookVersion}
use Rattle.pg_run.specs.Took.Taker.{InDir}
use Rattle.pg_run.proofs.Bags.{found}
use Rattle.pg_run.proofs.Frame.{acts_is}
use Rattle.pg_run.proofs.Lists.{among_contained, among_parts, contained_among}
use Rattle.law_returns.specs.Gate.{EdgesAreKept, IsStillThere, KnowsChildren, Removes, place_at}
use Rattle.law_returns.specs.Returns.{DeadPlacesStay, TakesHaveOwnStamps}
use Rattle.law_returns.proofs.Begun.{begins, gated_behind, is_late, removed_are_empty, stands_all}
use Rattle.law_returns.proofs.Deaths.{IsCaused, first_dead}
use Rattle.law_returns.proofs.Gated.{first_known, hears}
use Rattle.law_returns.proofs.Lasting.{still_first}
use Rattle.law_returns.proofs.HouseDirs.{IsLiveOfDir, made_live}
use Rattle.law_returns.proofs.Staying.{going_by, places_still}

-- ---- the latest of some places

latest_among : (thing : FileId) (ps : List Place) (p : Place) → Among p ps → IsPlaceUpTo p (latest_place thing ps)
latest_among thing [] p k = absurd k
latest_among thing (q ∷ qs) p (inl same) =
    let P : Place → Type 0 = λ x. IsPlaceUpTo x (newer_place (latest_place thing qs) q) in
    subst P (sym same) (newer_of_both (latest_place thing qs) q).1
latest_among thing (q ∷ qs) p (inr more) =
    let old = latest_place thing qs in
    UpTo-trans p.stamp old.stamp (newer_place old q).stamp (latest_among thing qs p more) (newer_of_both old q).0

latest_more : (thing : FileId) (ps qs : List Place) → IsPlaceUpTo (latest_place thing qs) (latest_place thing (ps ++ qs))
latest_more thing [] qs = UpTo-refl (latest_place thing qs).stamp
latest_more thing (p ∷ ps) qs =
    let old = latest_place thing (ps ++ qs) in
    UpTo-trans (latest_place thing qs).stamp old.stamp (newer_place old p).stamp (latest_more thing ps qs) (newer_of_both old p).0

newer_by : (a b : Place) (t : Bool) → is_before a.stamp b.stamp ≡ t → (newer_place a b ≡ a) ⊎ (newer_place a b ≡ b)
newer_by a b true e = inr (ap (λ t. cond t b a) e)
newer_by a b false e = inl (ap (λ t. cond t b a) e)

latest_is : (thing : FileId) (ps : List Place) → (latest_place thing ps ≡ first_place thing) ⊎ Among (latest_place thing ps) ps
latest_is thing [] = inl refl
latest_is thing (p ∷ ps) =
    let old = latest_place thing ps in
    elim (newer_by old p (is_before old.stamp p.stamp) refl) [
      | inr new ↦ inr (inl new)
      | inl same ↦ elim (latest_is thing ps) [
        | inl none ↦ inl (same ∙ none)
        | inr among ↦ inr (inr (subst (λ (x : Place). Among x ps) (sym same) among))
      ]
    ]

-- ---- what is taken grows

-- each place is up to the one that is kept then
abbrev IsGrown : List Take → List Take → Type 0
IsGrown takes more = (by : Taker) (thing : FileId) → IsPlaceUpTo (place_in by thing takes) (place_in by thing more)

grown_front : (xs takes : List Take) → IsGrown takes (xs ++ takes)
grown_front xs takes by thing =
    let P : List Place → Type 0 = λ ps. IsPlaceUpTo (place_in by thing takes) (latest_place thing ps) in
    subst P (sym (flat_map-append (place_taken_by by thing) xs takes)) (latest_more thing (places_taken by thing xs) (places_taken by thing takes))

grown_further : (a b c : List Take) → IsGrown a b → IsGrown b c → IsGrown a c
grown_further a b c h k by thing = UpTo-trans (place_in by thing a).stamp (place_in by thing b).stamp (place_in by thing c).stamp (h by thing) (k by thing)

passed_grown : (removed : List ℕ) (takes : List Take) → IsGrown takes (passed removed takes)
passed_grown removed takes = grown_front (flat_map (passes removed takes) (held takes)) takes

passed_with_grown : (removed : List ℕ) (takes : List Take) (us : List Update) → IsGrown takes (passed_with removed takes us)
passed_with_grown removed takes [] = λ by thing. UpTo-refl (place_in by thing takes).stamp
passed_with_grown removed takes (u ∷ us) =
    let one = take_of u ∷ takes in
    let next = passed removed one in
    grown_further takes next (passed_with removed next us) (grown_further takes one next (grown_front (take_of u ∷ []) takes) (passed_grown removed one)) (passed_with_grown removed next us)

-- of the replicas that do not go
behind_grown : (a : Store) (wants : Asked) (takes : List Take) (asked : Input) (k : ℕ) → IsGrown (without_gone (gone_in a asked) takes) (took_behind a wants takes asked k)
behind_grown a wants takes asked k =
    let left = without_gone (gone_in a asked) takes in
    let first = took_first a wants takes asked in
    let then = passed (removed_then a asked) first in
    grown_further left first (took_behind a wants takes asked k) (grown_front (brought a wants asked) left)
    (grown_further first then (took_behind a wants takes asked k) (passed_grown (removed_then a asked) first) (passed_with_grown (removed_then a asked) then (take k (made_behind a asked))))

-- ---- a directory that took a place of a child has a cell for it

taken_by : (t : Bool) (p place : Place) → Among p (cond t (place ∷ []) []) → t ≡ true
taken_by true p place k = refl
taken_by false p place k = absurd k

one_taken : (dir child : FileId) (t : Take) (p : Place) → Among p (place_taken_by (InDir dir) child t) → has_taken dir child t ≡ true
one_taken dir child (TookVersion file stamp) p k = absurd k
one_taken dir child (TookPlace by thing place) p k = taken_by (is_same_taker by (InDir dir) && is_same_file thing child) p place k
one_taken dir child (TookFlag by thing flag) p k = absurd k
one_taken dir child (Began file) p k = absurd k

cell_taken : (dir child : FileId) (takes : List Take) (p : Place) → Among p (places_taken (InDir dir) child takes) → has_cell dir child takes ≡ true
cell_taken dir child [] p k = absurd k
cell_taken dir child (t ∷ ts) p k = elim (among_parts p (place_taken_by (InDir dir) child t) (places_taken (InDir dir) child ts) k) [
  | inl here ↦ or_left (has_taken dir child t) (has_cell dir child ts) (one_taken dir child t p here)
  | inr later ↦ or_right (has_taken dir child t) (has_cell dir child ts) (cell_taken dir child ts p later)
]

-- the cell is the state
abbrev state_of_cell : FileId → FileId → List Take → Entry
state_of_cell dir child takes = record { child = child; place = place_in (InDir dir) child takes; flags = flags_in (InDir dir) child takes }

state_by : (dir child : FileId) (takes : List Take) (e : Entry) (t : Bool) → cond t (Some (state_of_cell dir child takes)) None ≡ Some e → e.place ≡ place_in (InDir dir) child takes
state_by dir child takes e true h = ap (λ (x : Entry). x.place) (sym (same_Some (state_of_cell dir child takes) e h))
state_by dir child takes e false h = absurd (none-some e h)

state_some : (dir child : FileId) (takes : List Take) → has_cell dir child takes ≡ true → entry_state dir child takes ≡ Some (state_of_cell dir child takes)
state_some dir child takes has = ap (λ t. cond t (Some (state_of_cell dir child takes)) None) has

-- ---- what an entry that is known tells

known_some : (e : Entry) (o : Option Entry) → IsEntryKnownBy (Some e) o → (c : Entry) × (o ≡ Some c) × IsPlaceUpTo e.place c.place
known_some e None k = absurd k
known_some e (Some c) k = (c, refl, k.place)

-- JUSTIFIED RETURN
pub justified : (n : ℕ) → EdgesAreKept n → NamesMerge n → TakesHaveOwnStamps n → DeadPlacesStay n → ReturnsAreJustified n
justified n edges merge stamps stay before removing between last s m asked dir child removal listed made maker takes r knew =
    let events = before ++ removing ∷ between in
    let w = run n events in
    let a = w.stores s in
    let wants = w.asked s in
    let took = w.took s in
    let k = stands_all n edges events in
    let reach = acts_is n w last (record { server = s; asked = asked }) takes in
    let directory : is_dir dir ≡ true = (found IsLiveOfDir (made_behind a asked) r.k (update.Place dir r.place) (made_live a asked) r.made dir r.place refl).0 in
    let removes : Removes n before removing dir removal = record { directory = directory; dead = r.dead; made = made } in
    let late = is_late n edges before removing dir removal removes in
    let hear = hears n dir directory removal r.dead late w k last s asked reach.least reach.most takes reach.came in
    let gone : (own_place dir (took_behind a wants took asked r.k)).live ≡ false = ap (λ (p : Place). p.live) r.was ∙ r.dead in
    let kept : IsStillThere (removed_then a asked) (own_place dir (took_behind a wants took asked r.k)) =
    ap (λ (p : Place). is_removed (removed_then a asked) p.stamp.server) r.was ∙ r.kept in
    let had : place_at (first_effect a asked).store.names dir ≡ removal = stay events last s asked takes r.k (update.Place dir r.place) r.made dir directory gone kept ∙ r.was in
    let caused : IsCaused a asked dir removal = first_dead dir directory removal r.dead late a asked hear r.kept had in
    let begun = begins n edges before removing dir removal removes in
    let maker_is = removal.stamp.server in
    let old = (run n before).stores maker_is in
    let old_took = (run n before).took maker_is in
    let gated = gated_behind n edges before removing dir removal removes between in
    let knows : KnowsChildren dir old.names a.names =
    first_known n dir directory removal r.dead late old.names w k gated s asked reach.least reach.most (still_first a asked removal r.kept) reach.came caused in
    let ps = places_taken (InDir dir) child old_took in
    let among : Among listed ps = contained_among ps listed (subst (λ (i : ℕ). Contains (places_taken (InDir dir) child ((run n before).took i)) listed) (sym maker) knew) in
    let e = state_of_cell dir child old_took in
    let there : cell_at old.names dir child ≡ Some e = (merge before maker_is begun.least begun.most).entries dir child ∙ state_some dir child old_took (cell_taken dir child old_took listed among) in
    let here = known_some e (cell_at a.names dir child) (subst (λ o. IsEntryKnownBy o (cell_at a.names dir child)) there (knows child)) in
    let told : here.0.place ≡ place_in (InDir dir) child took = state_by dir child took here.0 (has_cell dir child took) (sym ((merge events s reach.least reach.most).entries dir child) ∙ here.1) in
    let going : takes_effect a asked ≡ true = going_by a asked r.k (slice_get_within (made_behind a asked) r.k (update.Place dir r.place) r.made) (takes_effect a asked) refl in
    let still : place_in (InDir dir) child (without_gone (gone_in a asked) took) ≡ place_in (InDir dir) child took =
    ap (latest_place child) (places_still a dir removal late asked going had child took) in
    let grown : IsPlaceUpTo (place_in (InDir dir) child took) listed =
    subst (λ (p : Place). IsPlaceUpTo p listed) still
    (subst (λ (p : Place). IsPlaceUpTo (place_in (InDir dir) child (without_gone (gone_in a asked) took)) p) r.cell (behind_grown a wants took asked r.k (InDir dir) child)) in
    let low : IsPlaceUpTo e.place listed =
    UpTo-trans e.place.stamp here.0.place.stamp listed.stamp here.2 (subst (λ (p : Place). IsPlaceUpTo p listed) (sym told) grown) in
    let high : IsPlaceUpTo listed e.place = latest_among child ps listed among in
    let latest_taken = latest_is child ps in
    let same : e.place ≡ listed =
    stamps before maker_is begun.least begun.most (InDir dir) child e.place listed (taken_of child ps e.place latest_taken) (inr (among_contained ps listed among)) (UpTo-same e.place.stamp listed.stamp low high) in
    let not_listed = removed_are_empty n edges before removing dir removal removes child e there in
    let parent : is_same_file e.place.parent dir ≡ true = ap (λ (p : Place). is_same_file p.parent dir) same ∙ ap (λ (f : FileId). is_same_file f dir) r.here ∙ is_same_file-refl dir in
    false≢true (sym not_listed ∙ and_from e.place.live (is_same_file e.place.parent dir) (ap (λ (p : Place). p.live) same ∙ r.lists) parent)
  where
    taken_of : (thing : FileId) (ps : List Place) (p : Place) → (p ≡ first_place thing) ⊎ Among p ps → (p ≡ first_place thing) ⊎ Contains ps p
    taken_of thing ps p (inl first) = inl first
    taken_of thing ps p (inr among) = inr (among_contained ps p among)
