-- In every run: in the event in which an rmdir removes a directory no place of it is made.
use Rattle.std.proofs.Common.{ℕ, ◌≡◌, ◌≤◌, ◌<◌, ◌==◌, Bool, true, false, cond, List, [], ◌∷◌, ◌++◌, Option, None, Some, Result, Ok, Err, All, Contains, refl, sym, ap, subst, ◌∙◌, inl, inr, arith}
use Rattle.std.proofs.lemmas.Bool.{false≢true}
use Rattle.std.proofs.lemmas.Bool.Decides.{nat_tests}
use Rattle.std.proofs.lemmas.List.Elements.{All-append, All-contains, All-weaker}
use Rattle.pg_run.specs.pg_base.declared.id.FileId.{FileId}
use Rattle.pg_run.specs.pg_base.declared.stamp.Stamp.{Stamp}
use Rattle.pg_run.specs.pg_base.Stamp.{is_before}
use Rattle.pg_run.specs.pg_call.declared.call.Call.TheVariants.{Rmdir}
use Rattle.pg_run.specs.pg_call.declared.reply.Reply.TheVariants.{Done as IsDone}
use Rattle.pg_run.specs.pg_checks.Answer.{Answer, answer, answered, deny}
use Rattle.pg_run.specs.pg_checks.Asking.{ask_by, fetch, fresh_wish, holder, standing}
use Rattle.pg_run.specs.pg_checks.Checks.{empty_dir_at}
use Rattle.pg_run.specs.pg_calls.Naming.{dead_place, taken_away}
use Rattle.pg_run.specs.pg_cells.Raised.{IsFlagMade}
use Rattle.pg_run.specs.pg_content.Content.{Among}
use Rattle.pg_run.specs.pg_event.declared.event.Event.{Event}
use Rattle.pg_run.specs.pg_event.declared.event.Event.TheVariants.{Call as Called}
use Rattle.pg_run.specs.pg_house.Facts.{AreOrdered, IsHeld}
use Rattle.pg_run.specs.pg_house.Work.{state_of}
use Rattle.pg_run.proofs.pg_house.Lasting.{drawn_late}
use Rattle.pg_run.proofs.pg_house.Touches.{Touches}
use Rattle.pg_run.proofs.pg_house.Truths.{chosen_true}
use Rattle.pg_run.specs.pg_lookup.declared.paths.Found.{Found}
use Rattle.pg_run.specs.pg_lookup.declared.paths.LookupError.{LookupError}
use Rattle.pg_run.specs.pg_lookup.declared.paths.LookupError.TheVariants as stop
use Rattle.pg_run.specs.pg_msg.declared.message.Message.TheVariants as message
use Rattle.pg_run.specs.pg_msg.declared.update.Update.{Update}
use Rattle.pg_run.specs.pg_msg.declared.update.Update.TheVariants as update
use Rattle.pg_run.specs.pg_msg.declared.work.Work.{Work}
use Rattle.pg_run.specs.pg_msg.Work.{new_work, with_made}
use Rattle.pg_run.specs.pg_names.declared.attributes.Attributes.{Attributes}
use Rattle.pg_run.specs.pg_names.Names.{NamesValue, cell_at, is_place_new, join_place, known, own_at, raise, with_place}
use Rattle.pg_run.proofs.pg_names.Lookups.{SameFrame, own_back, own_with_place, place_cell, place_other, place_same, update_frame}
use Rattle.pg_run.specs.pg_pieces.Done.{Done, idle}
use Rattle.pg_run.specs.pg_pieces.Posting.{post}
use Rattle.pg_run.specs.pg_register.declared.place.Place.{Place}
use Rattle.pg_run.specs.pg_server.declared.input.Input.{Input}
use Rattle.pg_run.specs.pg_server.declared.input.Input.TheVariants as input
use Rattle.pg_run.specs.pg_server.Local.{done_of, first_effect, takes_effect}
use Rattle.pg_run.specs.pg_store.declared.store.Store.{Store}
use Rattle.pg_run.specs.pg_store.declared.wishes.Wish.{Wish}
use Rattle.pg_run.specs.pg_store.Births.{with_birth, with_wish}
use Rattle.pg_run.specs.pg_store.Store.{is_newer_place, put_place}
use Rattle.pg_run.specs.theory_flood_pieces.Whole.{IsWhole}
use Rattle.pg_run.proofs.theory_flood_pieces.Choices.{chosen}
use Rattle.pg_run.specs.Laws.{HouseIsInOrder, IsInOrder}
use Rattle.pg_run.specs.Run.{Step, Taking, World, effect_step, first_made, idle_step, is_live, made_behind, next, run, taking_in, why_void}
use Rattle.pg_run.proofs.Frame.{acts_is, next_is}
use Rattle.pg_run.proofs.Lists.{among_contained, among_parts, contained_among}
use Rattle.pg_run.proofs.Makes.{is_made_in_parts}
use Rattle.law_names.proofs.Notes.{place_noted_made}
use Rattle.law_names.proofs.law_passing.Times.{earlier, less}
use Rattle.law_order.specs.Laws.{FirstEffectsAreOrdered, FirstEffectsAreWhole, ServersAreWhole}
use Rattle.law_order.proofs.Found.{empty_found}
use Rattle.law_returns.proofs.Empty.{empty_by}
use Rattle.law_returns.proofs.HouseDirs.{IsLiveOfDir, made_live}
use Rattle.law_returns.proofs.Staying.{going_by}
use Rattle.law_lists.specs.Laws.{RemovalsStay}
use Rattle.law_lists.proofs.Behind.{behind_is}
use Rattle.law_lists.proofs.Reasons.{no_flag}
use Rattle.law_lists.proofs.Staying.{IsGone, IsOfOther, house_rests}

same_file_of : (f g : FileId) (p q : Place) → update.Place f p ≡ update.Place g q → f ≡ g
same_file_of f g p q h = cc

not_before : (s t : Stamp) (last : ℕ) → t.time ≤ last → last < s.time → is_before s t ≡ false
not_before s t last h k = grind (arith, nat_tests)

-- ---- what an rmdir makes

module _ (a : Store) (moment : ℕ) (path : List ℕ) where
  abbrev W : Work
  W = new_work moment 0

  abbrev Asks : Input
  Asks = input.Call moment (Rmdir path)

  abbrev Goes : FileId → Answer
  Goes dir = answer (taken_away a W dir) IsDone

  -- where it does not go on, nothing
  fetched : (f : FileId) (wish : Wish) → (fetch a f wish W).made ≡ []
  fetched f wish = chosen (λ (w : Work). w.made ≡ []) (wish.target == 0) W
      (post a wish.target (message.Fetch f wish.birth) W) refl refl

  asked_by : (found : Found) (o : Option Wish) → (ask_by a found o W).work.made ≡ []
  asked_by found None =
      let f = found.file in
      let target = holder a found in
      chosen (λ (d : Done). d.work.made ≡ []) (target == 0) (idle a W)
      (idle (with_wish (with_birth a) f (fresh_wish a target))
      (fetch a f (fresh_wish a target) W)) refl
      (fetched f (fresh_wish a target))
  asked_by found (Some wish) = fetched found.file wish

  denied : (why : LookupError) → (deny a why W).work.made ≡ []
  denied (stop.Refused why) = refl
  denied (stop.NotYet found) = asked_by found (standing a found.file)

  -- of a directory its dead place
  moved_made : (d : FileId) → (Goes d).work.made ≡ update.Place d (dead_place a moment d) ∷ []
  moved_made d = place_noted_made a d (dead_place a moment d)
      (with_made W (update.Place d (dead_place a moment d)))

  one_made : (d dir : FileId) (p : Place) → Among (update.Place dir p) (Goes d).work.made → d ≡ dir
  one_made d dir p h =
      let M : List Update → Type 0 = λ us. Among (update.Place dir p) us in
      elim (subst M (moved_made d) h) [
        | inl same ↦ sym (same_file_of dir d p (dead_place a moment d) same)
        | inr none ↦ absurd none
      ]

  -- the directory that it finds
  found_by : (r : Result FileId LookupError) → empty_dir_at a path ≡ r → (dir : FileId) (p : Place)
      → Among (update.Place dir p) (answered a W r Goes).work.made
      → empty_dir_at a path ≡ Ok dir
  found_by (Err why) is dir p h = let M : List Update → Type 0 =
      λ us. Among (update.Place dir p) us in absurd (subst M (denied why) h)
  found_by (Ok d) is dir p h = is ∙ ap Ok (one_made d dir p h)

  -- ---- what it leaves

  module _ (n s : ℕ) (whole : IsWhole n s a) (order : IsInOrder a.names) (d : FileId)
      (is : empty_dir_at a path ≡ Ok d)
      (then_whole : IsWhole n s (first_effect a Asks).store)
      (then_ordered : AreOrdered (first_effect a Asks).store.names) where
    abbrev P : Place
    P = dead_place a moment d

    abbrev Then : Done
    Then = first_effect a Asks

    then_is : Then ≡ taken_away a W d
    then_is = ap (λ (r : Result FileId LookupError). done_of (answered a W r Goes)) is

    found : IsHeld a.names d
    found = (empty_found a path d is).0

    late : a.names.last < P.stamp.time
    late = drawn_late moment a.names.last P.stamp.time refl

    new : is_before found.0.place.stamp P.stamp ≡ true
    new = earlier found.0.place.stamp P.stamp
        (less found.0.place.stamp.time P.stamp.time a.names.last
        (whole.names.last.own d found.0 found.1) late)

    -- it has its dead place, and nothing else is changed
    abbrev Put : NamesValue
    Put = join_place a.names d P

    abbrev Late : NamesValue
    Late = raise Put P.stamp.time

    names_are : Then.store.names ≡ Late
    names_are =
        ap (λ (e : Done). e.store.names) then_is
        ∙ ap (λ (b : Store). b.names)
        (chosen_true (is_newer_place a d P) (put_place a d P) a
        (ap (λ o. is_place_new o P) found.1 ∙ new))

    abbrev Own : Attributes
    Own = own_with_place P found.0

    own_is : Own.place ≡ P
    own_is = chosen_true (is_before found.0.place.stamp P.stamp) P found.0.place new

    frame : SameFrame Put a.names
    frame = update_frame a.names d (with_place P)

    touches : Touches d a.names Late
    touches = record {
      own = λ q apart. place_other a.names d P q apart;
      cells = λ q g apart. place_cell a.names d P q g;
      was = λ q h. own_back a.names d (with_place P) q h.0 h.1;
      removed = frame.removed;
      server = frame.server;
      keys = frame.keys;
    }

    gone : IsGone a.names (state_of Then.store.names Then.work) d Own
    gone = record {
      passing = order.passing;
      own_parent = order.own_parent;
      returned = order.returned;
      touches = subst (Touches d a.names) (sym names_are) touches;
      cells = λ q g. ap (λ (x : NamesValue). cell_at x q g) names_are ∙ place_cell a.names d P q g;
      held = ap (λ (x : NamesValue). own_at x d) names_are ∙ place_same a.names d P found.0 found.1;
      dead = ap (λ (p : Place). p.live) own_is;
      fresh = λ q c h. (
          let none = not_before P.stamp c.place.stamp a.names.last
          (whole.names.last.cells q d c h) late in
          ap (λ (p : Place). is_before p.stamp c.place.stamp) own_is ∙ none);
      free = (empty_found a path d is).1;
      empty = empty_by d (known a.names d) (empty_found a path d is).2;
      of_dirs = then_whole.names.dirs;
      sorted = then_whole.names.sorted;
      ordered = then_ordered;
    }

    -- nothing behind it is a place of the directory
    behind_others : takes_effect a Asks ≡ true → All (IsOfOther d) (made_behind a Asks)
    behind_others going =
        let k = house_rests Then.work.now a.names (state_of Then.store.names Then.work) d Own gone
        in
        let rest = behind_is a Asks going then_whole.names.dirs then_whole.names.sorted
        then_whole.names.last then_ordered k.more k.is in
        subst (All (IsOfOther d)) (sym rest.1)
        (All-append (IsOfOther d) k.more rest.0 k.others
        (All-weaker IsFlagMade (IsOfOther d) (λ u flag p same. no_flag u flag d p same) rest.0
        rest.2))

-- ---- in a run

module _ (n : ℕ) (w : World) (s moment : ℕ) (path : List ℕ) where
  abbrev Removing : Event
  Removing = Called s moment (Rmdir path)

  abbrev Its : Taking
  Its = record { server = s; asked = input.Call moment (Rmdir path) }

  -- what makes anything is taken by its server
  taken_by : (u : Update) → Contains (next n w Removing).entry.made u → (t : Bool)
      → is_live n w s ≡ t → taking_in n w Removing ≡ Some Its
  taken_by u made true e = ap (λ (b : Bool). cond b (Some Its) None) e
  taken_by u made false e =
      let idle_is : (next n w Removing).entry.made ≡ [] = ap
      (λ (b : Bool). (cond b (effect_step w Removing s Its.asked)
      (idle_step w Removing (Some (why_void n s)))).entry.made) e in
      let M : List Update → Type 0 = λ us. Contains us u in
      absurd (contained_among [] u (subst M idle_is made))

-- A REMOVAL STAYS
pub removals_stay : (n : ℕ) → HouseIsInOrder n → ServersAreWhole n → FirstEffectsAreWhole n
    → FirstEffectsAreOrdered n → RemovalsStay n
removals_stay n order whole first_whole first_ordered events s moment path dir removal place made
    dead back =
    let w = run n events in
    let a = w.stores s in
    let event = Removing n w s moment path in
    let t = Its n w s moment path in
    let asked = t.asked in
    let gone = update.Place dir removal in
    let takes = taken_by n w s moment path gone made (is_live n w s) refl in
    let acts = acts_is n w event t takes in
    let M : List Update → Type 0 = λ us. Contains us gone in
    let all : Among gone (first_made a asked ++ made_behind a asked) =
    contained_among (first_made a asked ++ made_behind a asked) gone
    (subst M (ap (λ (x : Step). x.entry.made) (next_is n w event t takes)
    ∙ is_made_in_parts a asked) made) in
    let parts = among_parts gone (first_made a asked) (made_behind a asked) all in
    let late : (u : Update) → Among u (made_behind a asked) → IsLiveOfDir u =
    λ u h. All-contains IsLiveOfDir (made_behind a asked) u (made_live a asked)
    (among_contained (made_behind a asked) u h) in
    let is : empty_dir_at a path ≡ Ok dir =
    elim parts [
      | inl first ↦ found_by a moment path (empty_dir_at a path) refl dir removal first
      | inr later ↦ absurd (false≢true (sym dead ∙ (late gone later dir removal refl).1))
    ] in
    let going : takes_effect a asked ≡ true = going_by a asked back.0 back.1
    (takes_effect a asked) refl in
    All-contains (IsOfOther dir) (made_behind a asked) (update.Place dir place)
    (behind_others a moment path n s (whole events s acts.least acts.most)
    (order events s acts.least acts.most) dir is (first_whole events event t takes)
    (first_ordered events event t takes) going)
    back place refl
