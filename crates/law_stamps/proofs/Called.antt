-- The version that a call makes: its stamp is drawn behind those of the places that the call makes.
use Rattle.std.proofs.Common.{ℕ, ◌≡◌, ◌<◌, ◌≤◌, true, false, cond, List, [], ◌∷◌, ◌++◌, Option, None, Some, Result, refl, sym, ap, subst, ◌∙◌, inl, inr, arith}
use Rattle.pg_run.specs.pg_base.declared.id.FileId.{FileId}
use Rattle.pg_run.specs.pg_base.declared.id.Kind.{Kind}
use Rattle.pg_run.specs.pg_base.declared.id.Kind.TheVariants.{Dir, File}
use Rattle.pg_run.specs.pg_base.declared.policy.Policy.{Policy}
use Rattle.pg_run.specs.pg_base.declared.policy.Policy.TheVariants.{Last}
use Rattle.pg_run.specs.pg_base.declared.stamp.Stamp.{Stamp}
use Rattle.pg_run.specs.pg_call.declared.call.Call.{Call}
use Rattle.pg_run.specs.pg_call.declared.call.Call.TheVariants as call
use Rattle.pg_run.specs.pg_call.declared.reply.Reply.{Reply}
use Rattle.pg_run.specs.pg_content.Content.{Among}
use Rattle.pg_run.specs.pg_house.Work.{state_of}
use Rattle.pg_run.specs.pg_lookup.declared.paths.LookupError.{LookupError}
use Rattle.pg_run.specs.pg_msg.declared.update.MadeVersion.{MadeVersion}
use Rattle.pg_run.specs.pg_msg.declared.update.Update.{Update}
use Rattle.pg_run.specs.pg_msg.declared.update.Update.TheVariants as update
use Rattle.pg_run.specs.pg_msg.declared.work.Work.{Work}
use Rattle.pg_run.specs.pg_msg.Work.{new_work}
use Rattle.pg_run.specs.pg_names.Names.{blank_own, is_dir}
use Rattle.pg_run.specs.pg_patch.Ranges.{RangesValue, cut_to, written}
use Rattle.pg_run.specs.pg_register.declared.flag.Flag.{Flag}
use Rattle.pg_run.specs.pg_register.declared.place.Place.{Place}
use Rattle.pg_run.specs.pg_store.declared.store.Store.{Store}
use Rattle.pg_run.specs.pg_store.Births.{draw_birth, with_birth}
use Rattle.pg_run.specs.pg_store.Store.{is_held}
use Rattle.pg_run.specs.pg_pieces.Done.{Done, idle}
use Rattle.pg_run.specs.pg_pieces.Golds.{is_gold}
use Rattle.pg_run.specs.pg_pieces.Making.{lower_flag}
use Rattle.pg_run.specs.pg_checks.declared.checks.NewName.{NewName}
use Rattle.pg_run.specs.pg_checks.Answer.{Answer, deny, replied, told}
use Rattle.pg_run.specs.pg_checks.Checks.{dir_at, empty_dir_at, file_at, in_time, move_of, new_name, target_at}
use Rattle.pg_run.specs.pg_calls.Bodies.{change, change_file, when_fit}
use Rattle.pg_run.specs.pg_calls.Calls.{do_call}
use Rattle.pg_run.specs.pg_calls.Demoting.{demoted_at, lowered}
use Rattle.pg_run.specs.pg_calls.Dropping.{clean_gold, dropped_at, leave_of, leaving}
use Rattle.pg_run.specs.pg_calls.Forgetting.{begin_lost, begun_at, dirs_of, fill_lost, forget_lost, is_wanted, last_listing, last_place, lost_at, strike_out}
use Rattle.pg_run.specs.pg_calls.GivingUp.{enter_view, removal_at}
use Rattle.pg_run.specs.pg_calls.Making.{drawn, first_ranges, make_place, make_version, version_of}
use Rattle.pg_run.specs.pg_calls.Naming.{begun, dead_place, next_id, place_in, raised, with_first_version, with_id, with_thing}
use Rattle.pg_run.specs.pg_server.Local.{done_of}
use Rattle.pg_run.specs.Journal.{Born, versions_in}
use Rattle.pg_run.proofs.pg_house.Lasting.{drawn_late}
use Rattle.pg_run.proofs.pg_house.Noting.{one_back}
use Rattle.pg_run.proofs.theory_flood_pieces.Choices.{chosen, decided}
use Rattle.law_contents.proofs.Beginning.{thing_quiet, versions_more}
use Rattle.law_contents.proofs.Entered.{entered_quiet}
use Rattle.law_contents.proofs.Lost.{at_quiet, filled_quiet, struck_quiet}
use Rattle.law_contents.proofs.Outcomes.{answered_by, denied_quiet}
use Rattle.law_contents.proofs.Quiet.{Quiet, begin_quiet, lower_quiet, make_place_quiet, quiet_then, raise_quiet}
use Rattle.law_contents.proofs.Servers.{Came, IsServer}
use Rattle.law_places.proofs.Begun.{begin_fine}
use Rattle.law_places.proofs.Fine.{IsFine, as_before, made_place, raised_flag}
use Rattle.law_places.proofs.Origins.{IsMade}
use Rattle.law_places.proofs.Placing.{begun_own}
use Rattle.law_places.proofs.Timed.{at_most}
use Rattle.law_stamps.proofs.Off.{IsOff}

-- any place may stand
abbrev pub Any : FileId → Place → Type 0
Any f p = Unit {0}

module _ {s : ℕ} {a : Store} {us : List Born} {p : FileId → Policy} {N : FileId → Type 0}
    {came : Came} (k : IsServer s a us p N came) (moment : ℕ)
    (fine : IsFine Any s a.names.last (idle a (new_work moment 0))) where
  abbrev W : Work
  W = new_work moment 0

  abbrev Least : ℕ
  Least = a.names.last

  -- the version has a stamp that the server drew in the call, and no place that was made has it
  abbrev pub IsDrawnIn : Done → MadeVersion → Type 0
  IsDrawnIn d u = (u.stamp.server ≡ s) × (Least < u.stamp.time)
      × IsOff u.stamp.time (state_of d.store.names d.work)

  abbrev AreDrawn : Done → Type 0
  AreDrawn d = (u : MadeVersion) → Among u (versions_in d.work.made) → IsDrawnIn d u

  abbrev pub Called : Answer → Type 0
  Called r = AreDrawn (done_of r)

  none : (d : Done) → versions_in d.work.made ≡ [] → AreDrawn d
  none d is u there = absurd (subst (Among u) is there)

  quiet : (d : Done) → Quiet us p N a W d → AreDrawn d
  quiet d q = none d q.none

  still : AreDrawn (idle a W)
  still = none (idle a W) refl

  denied : (why : LookupError) → Called (deny a why W)
  denied why = quiet (done_of (deny a why W)) (denied_quiet us p N a W why)

  looks : {A : Type 0} (r : Result A LookupError) (tell : A → Reply) → Called (replied a W r tell)
  looks r tell = answered_by Called a W r (λ x. told a W (tell x)) denied (λ x is. still)

  -- ---- a version is made

  module _ (d : Done) (f : FileId) (stamp : Stamp) (ranges : RangesValue) where
    abbrev V : MadeVersion
    V = version_of d.store f stamp ranges

    abbrev End : Done
    End = make_version f stamp ranges d

    no_place : (g : FileId) (q : Place)
        → ◌≡◌ {A = Update} (update.Version V) (update.Place g q) → ⊥
    no_place g q e = cc

    one_made : versions_in d.work.made ≡ [] → stamp.server ≡ s → Least < stamp.time
        → d.store.names.last < stamp.time
        → ((g : FileId) (q : Place) → IsMade d.work.made g q → q.stamp.time ≤ d.store.names.last)
        → AreDrawn End
    one_made none own low late upto u there =
        let one : versions_in End.work.made ≡ V ∷ [] =
        versions_more d.work.made V ∙ ap (λ (vs : List MadeVersion). vs ++ V ∷ []) none in
        let off : IsOff stamp.time (state_of End.store.names End.work) = record {
          past = at_most d.store.names.last stamp.time;
          off = λ g q made. elim (one_back (update.Place g q) (update.Version V) d.work.made made) [
            | inl old ↦ (let l = upto g q old in λ e. omega (arith, l, late, e))
            | inr is ↦ absurd (no_place g q is)
          ];
        } in
        elim (subst (Among u) one there) [
          | inl same ↦ subst (IsDrawnIn End) (sym same) (own, low, off)
          | inr more ↦ absurd more
        ]

  -- ---- a thing is made

  module _ (kind : Kind) (policy : Policy) (new : NewName) where
    abbrev Id : FileId
    Id = next_id a kind

    abbrev Place_of : Place
    Place_of = place_in (with_id a) moment new

    abbrev Begun : Store
    Begun = begun (with_id a) Id policy

    abbrev Placed : Done
    Placed = make_place Id Place_of (idle Begun W)

    abbrev Thing : Done
    Thing = with_thing (with_id a) W Id policy new

    late : Least < Place_of.stamp.time
    late = drawn_late moment Least Place_of.stamp.time refl

    begun_fine : IsFine Any s Least (idle Begun W)
    begun_fine =
        let d = idle (with_birth (with_id a)) W in
        begin_fine Any s Least Id d (draw_birth (with_id a)) policy (blank_own Id) true tt
        (as_before Any s Least (idle a W) d refl refl refl refl fine)

    thing_fine : IsFine Any s Least Thing
    thing_fine =
        raised_flag Any s Least Id Placed
        (made_place Any s Least (idle a W) (idle Begun W) Id Place_of (blank_own Id)
        (begun_own (with_birth (with_id a)) Id (draw_birth (with_id a)) policy (blank_own Id) true)
        (let m = late in omega arith) fine.drawn refl fine.drawn.server late tt begun_fine)

    thing_none : versions_in Thing.work.made ≡ []
    thing_none = (thing_quiet k moment kind policy new us p N).none

    first_drawn : AreDrawn (with_first_version Id Thing)
    first_drawn =
        let stamp = drawn Thing.store Thing.work.now in
        let after : Thing.store.names.last < stamp.time =
        drawn_late Thing.work.now Thing.store.names.last stamp.time refl in
        let low = thing_fine.drawn.low in
        one_made Thing Id stamp first_ranges thing_none thing_fine.drawn.server (omega arith) after
        (λ g q made. (thing_fine.drawn.each g q made).2)

  -- ---- what is held changes

  module _ (text : List ℕ) (ranges : RangesValue) where
    wrote : (file : FileId) → AreDrawn (make_version file (drawn a moment) ranges (idle a W))
    wrote file =
        let after = drawn_late moment Least (drawn a moment).time refl in
        one_made (idle a W) file (drawn a moment) ranges refl fine.drawn.server after after
        (λ g q made. absurd made)

    changed : Called (change a text ranges W)
    changed =
        answered_by Called a W (file_at a text) (change_file a ranges W) denied
        (λ file found. answered_by Called a W (when_fit a ranges file) _ denied
        (λ fit fits. wrote fit))

  placed : (f : FileId) (place : Place) → AreDrawn (make_place f place (idle a W))
  placed f place = quiet (make_place f place (idle a W)) (make_place_quiet us p N a f place W)

  lowered_drawn : (f : FileId) → AreDrawn (lowered a f W)
  lowered_drawn f =
      chosen AreDrawn (is_gold a f) (lower_flag a f W) (idle a W)
      (quiet (lower_flag a f W) (lower_quiet us p N a f W)) still

  leaving_drawn : (f : FileId) (o : Option Flag) → Called (leaving a f W o)
  leaving_drawn f None = still
  leaving_drawn f (Some flag) =
      quiet (done_of (leaving a f W (Some flag))) (begin_quiet us p N a (leave_of f flag) W)

  -- ---- what was lost

  module _ (id : FileId) (away : is_held a id ≡ false) (dir : is_dir id ≡ true) where
    anew : (o : Option Place) → AreDrawn (raised id (begun_at a id W o))
    anew o =
        let d = begun_at a id W o in
        let raises = raise_quiet us p N d.store id d.work in
        none (raised id d) (quiet_then us p N (at_quiet k moment id away dir o) raises).none

    begin_drawn : AreDrawn (begin_lost a id W)
    begin_drawn =
        chosen AreDrawn (is_wanted a id) (raised id (begun_at a id W (last_place a.names id)))
        (idle a W) (anew (last_place a.names id)) still

  lost_drawn : (id : FileId) → AreDrawn (forget_lost a id W)
  lost_drawn id =
      decided AreDrawn (is_held a id) (fill_lost a id W)
      (cond (is_dir id) (begin_lost a id W) (strike_out a id W))
      (λ held. quiet (fill_lost a id W) (filled_quiet k moment id))
      (λ away. decided AreDrawn (is_dir id) (begin_lost a id W) (strike_out a id W)
      (λ dir. begin_drawn id away dir)
      (λ file. quiet (strike_out a id W)
      (struck_quiet k moment id (last_listing a.names id (dirs_of a.names id)))))

  -- WHATEVER A CLIENT CALLS
  pub call_drawn : (c : Call) → Called (do_call a c W)
  call_drawn (call.Mkdir text) =
      answered_by Called a W (new_name a (next_id a Dir) text) _ denied
      (λ new is. none (Thing Dir Last new) (thing_none Dir Last new))
  call_drawn (call.Create text policy) =
      answered_by Called a W (new_name a (next_id a File) text) _ denied
      (λ new is. first_drawn File policy new)
  call_drawn (call.Write text offset bytes) = changed text (written offset bytes)
  call_drawn (call.Cut text length) = changed text (cut_to length)
  call_drawn (call.Read text offset count) = looks (file_at a text) _
  call_drawn (call.Fresh text) = looks (file_at a text) _
  call_drawn (call.Ls text from) = looks (dir_at a text) _
  call_drawn (call.Stat target) = looks (target_at a target) _
  call_drawn (call.Rename from to) =
      answered_by Called a W (move_of a from to) _ denied
      (λ move is. placed move.thing (place_in a moment move.to))
  call_drawn (call.Unlink text) =
      answered_by Called a W (file_at a text) _ denied (λ f is. placed f (dead_place a moment f))
  call_drawn (call.Rmdir text) =
      answered_by Called a W (empty_dir_at a text) _ denied
      (λ d is. placed d (dead_place a moment d))
  call_drawn (call.Forget id) =
      answered_by Called a W (lost_at a id) _ denied (λ found is. lost_drawn found)
  call_drawn (call.Demote target) =
      answered_by Called a W (demoted_at a target) _ denied (λ f is. lowered_drawn f)
  call_drawn (call.Drop target) =
      answered_by Called a W (dropped_at a target) _ denied
      (λ f is. leaving_drawn f (clean_gold a f))
  call_drawn (call.Giveup view server) =
      answered_by Called a W (removal_at a view server) _ denied
      (λ found is. none (enter_view a server W) (entered_quiet us p N a server W).none)
  call_drawn call.Status = looks (in_time a (tt {0})) _
  call_drawn call.Stop = looks (in_time a (tt {0})) _
