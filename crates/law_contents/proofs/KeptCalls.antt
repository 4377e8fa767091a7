-- The deltas that replicas keep behind a call: of what is written there is one more.
use Rattle.std.proofs.Common.{ℕ, ◌≡◌, ◌+◌, true, false, cond, List, [], ◌∷◌, ◌++◌, map, Option, None, Some, Result, Ok, option_map, refl, sym, ap, subst, ◌∙◌}
use Rattle.pg_run.specs.pg_base.declared.id.FileId.{FileId}
use Rattle.pg_run.specs.pg_base.declared.id.Kind.{Kind}
use Rattle.pg_run.specs.pg_base.declared.id.Kind.TheVariants.{Dir, File}
use Rattle.pg_run.specs.pg_base.declared.policy.Policy.{Policy}
use Rattle.pg_run.specs.pg_base.declared.policy.Policy.TheVariants.{Last}
use Rattle.pg_run.specs.pg_base.declared.stamp.Stamp.{Stamp}
use Rattle.pg_run.specs.pg_base.Version.{stamp_of}
use Rattle.pg_run.specs.pg_call.declared.call.Call.{Call}
use Rattle.pg_run.specs.pg_call.declared.call.Call.TheVariants as call
use Rattle.pg_run.specs.pg_call.declared.reply.Reply.{Reply}
use Rattle.pg_run.specs.pg_call.declared.reply.Reply.TheVariants as reply
use Rattle.pg_run.specs.pg_delta.Kept.{with_delta}
use Rattle.pg_run.specs.pg_delta.Taking.{delta_to}
use Rattle.pg_run.specs.pg_lookup.declared.paths.LookupError.{LookupError}
use Rattle.pg_run.specs.pg_msg.declared.update.MadeVersion.{MadeVersion}
use Rattle.pg_run.specs.pg_msg.declared.update.Update.{Update}
use Rattle.pg_run.specs.pg_msg.declared.update.Update.TheVariants as update
use Rattle.pg_run.specs.pg_msg.declared.work.Work.{Work}
use Rattle.pg_run.specs.pg_msg.Work.{new_work}
use Rattle.pg_run.specs.pg_names.Names.{is_dir}
use Rattle.pg_run.specs.pg_patch.Ranges.{RangesValue, cut_to, written}
use Rattle.pg_run.specs.pg_register.declared.flag.Flag.{Flag}
use Rattle.pg_run.specs.pg_register.declared.place.Place.{Place}
use Rattle.pg_run.specs.pg_replica.declared.replica.Replica.{Replica}
use Rattle.pg_run.specs.pg_replica.Replicas.{or_nothing}
use Rattle.pg_run.specs.Deltas.{deltas_made}
use Rattle.pg_run.specs.Journal.{Born, versions_in}
use Rattle.pg_run.specs.pg_store.declared.store.Store.{Store}
use Rattle.pg_run.specs.pg_store.Store.{is_held, replica_at, write}
use Rattle.pg_run.specs.pg_pieces.Done.{Done, idle}
use Rattle.pg_run.specs.pg_pieces.Golds.{is_gold}
use Rattle.pg_run.specs.pg_pieces.Making.{lower_flag}
use Rattle.pg_run.specs.pg_checks.declared.checks.NewName.{NewName}
use Rattle.pg_run.specs.pg_checks.Answer.{Answer, answer, deny, replied, told}
use Rattle.pg_run.specs.pg_checks.Checks.{dir_at, empty_dir_at, file_at, in_time, move_of, new_name, target_at}
use Rattle.pg_run.specs.pg_calls.Bodies.{change, change_file, when_fit}
use Rattle.pg_run.specs.pg_calls.Calls.{do_call}
use Rattle.pg_run.specs.pg_calls.Demoting.{demoted_at, lowered}
use Rattle.pg_run.specs.pg_calls.Dropping.{clean_gold, dropped_at, leave_of, leaving}
use Rattle.pg_run.specs.pg_calls.Forgetting.{begin_lost, begun_at, dirs_of, fill_lost, forget_lost, is_wanted, last_listing, last_place, lost_at, strike_out}
use Rattle.pg_run.specs.pg_calls.GivingUp.{enter_view, removal_at}
use Rattle.pg_run.specs.pg_calls.Making.{drawn, first_ranges, make_place, make_version, version_of}
use Rattle.pg_run.specs.pg_calls.Naming.{dead_place, next_id, place_in, raised, with_first_version, with_id, with_thing}
use Rattle.pg_run.specs.pg_server.Local.{done_of}
use Rattle.pg_run.proofs.pg_calls.Checked.{fit_found}
use Rattle.pg_run.proofs.pg_calls.Walked.{file_found, full_held}
use Rattle.pg_run.proofs.theory_flood_pieces.Choices.{chosen, decided}
use Rattle.law_contents.proofs.Beginning.{all_alters, not_held, thing_quiet, versions_more}
use Rattle.law_contents.proofs.Changes.{Alters, alters_keeps, core_at, core_of, new_core, replica_of_core}
use Rattle.law_contents.proofs.Entered.{entered_quiet}
use Rattle.law_contents.proofs.KeptSteps.{KeptStep, begun_stay, kept_in, none_made, same_step, wrote_steps}
use Rattle.law_contents.proofs.Lost.{Own_of, at_quiet, begins, filled_quiet, struck_quiet}
use Rattle.law_contents.proofs.Lost.{none as lost_none}
use Rattle.law_contents.proofs.Outcomes.{answered_by, denied_quiet}
use Rattle.law_contents.proofs.Quiet.{Quiet, begin_quiet, lower_quiet, make_place_quiet, quiet_idle, quiet_then, raise_quiet}
use Rattle.law_contents.proofs.Servers.{Came, IsServer}
use Rattle.law_contents.proofs.Versions.{WrittenCore, write_alters}

module _ {s : ℕ} {a : Store} {us : List Born} {p : FileId → Policy} {N : FileId → Type 0}
    {came : Came} (k : IsServer s a us p N came) (moment : ℕ) where
  abbrev W : Work
  W = new_work moment 0

  -- each replica keeps what it kept, and what was made
  abbrev pub Keeping : Done → Type 0
  Keeping d = (f : FileId)
      → KeptStep false (core_at a f) (core_at d.store f) (deltas_made f d.work.made)

  abbrev Kept : Answer → Type 0
  Kept r = Keeping (done_of r)

  quiet : (d : Done) → Quiet us p N a W d → Keeping d
  quiet d h f =
      subst (KeptStep false (core_at a f) (core_at d.store f))
      (sym (none_made f d.work.made h.none))
      (same_step (core_at a f) (core_at d.store f) (h.keeps.each f))

  denied : (why : LookupError) → Kept (deny a why W)
  denied why = quiet (done_of (deny a why W)) (denied_quiet us p N a W why)

  still : Keeping (idle a W)
  still = quiet (idle a W) (quiet_idle us p N a W)

  looks : {A : Type 0} (r : Result A LookupError) (tell : A → Reply) → Kept (replied a W r tell)
  looks r tell = answered_by Kept a W r (λ x. told a W (tell x)) denied (λ x is. still)

  -- what begins, and then nothing
  begun : (d : Done) (file : FileId) (birth : ℕ) (policy : Policy) → core_at a file ≡ None
      → Alters a d.store file (Some (new_core birth policy)) → versions_in d.work.made ≡ []
      → Keeping d
  begun d file birth policy none alters made f =
      subst (KeptStep false (core_at a f) (core_at d.store f)) (sym (none_made f d.work.made made))
      (begun_stay a d.store file birth policy none alters f)

  -- ---- a version is made

  written_keeps : (b : Store) (file : FileId) (x : Replica) → replica_at b file ≡ Some x
      → (stamp : Stamp) (ranges : RangesValue) (made : List Update)
      → versions_in made ≡ version_of b file stamp ranges ∷ []
      → ((f : FileId) → KeptStep false (core_at a f) (core_at b f) []) → (f : FileId)
      → KeptStep false (core_at a f) (core_at (write b file stamp ranges) f) (deltas_made f made)
  written_keeps b file x is stamp ranges made one before =
      let u = version_of b file stamp ranges in
      let forward = ap (λ (o : Option Replica). with_delta (kept_in (option_map core_of o))
      (delta_to (map stamp_of (or_nothing o).content.heads) stamp ranges)) is in
      wrote_steps a b (write b file stamp ranges) u made one before
      (WrittenCore b file x is stamp ranges) (write_alters b file x is stamp ranges) (sym forward)

  -- ---- a thing is made

  module _ (kind : Kind) (policy : Policy) (new : NewName) where
    abbrev Thing : Done
    Thing = with_thing (with_id a) W (next_id a kind) policy new

    thing_begun : (f : FileId) → KeptStep false (core_at a f) (core_at Thing.store f) []
    thing_begun =
        begun_stay a Thing.store (next_id a kind) (a.births + 1) policy
        (not_held k moment kind policy new) (all_alters k moment kind policy new)

    thing_kept : Keeping Thing
    thing_kept =
        begun Thing (next_id a kind) (a.births + 1) policy (not_held k moment kind policy new)
        (all_alters k moment kind policy new) (thing_quiet k moment kind policy new us p N).none

    there : (x : Replica) × (replica_at Thing.store (next_id a kind) ≡ Some x)
        × (core_of x ≡ new_core (a.births + 1) policy)
    there =
        replica_of_core Thing.store (next_id a kind) (new_core (a.births + 1) policy)
        (all_alters k moment kind policy new).here

    first_kept : Keeping (done_of (answer (with_first_version (next_id a kind) Thing)
        (reply.Made (next_id a kind))))
    first_kept =
        let id = next_id a kind in
        let stamp = drawn Thing.store Thing.work.now in
        let u = version_of Thing.store id stamp first_ranges in
        written_keeps Thing.store id there.0 there.1 stamp first_ranges
        (Thing.work.made ++ update.Version u ∷ [])
        (versions_more Thing.work.made u
        ∙ ap (λ (vs : List MadeVersion). vs ++ u ∷ []) (thing_quiet k moment kind policy new us p N).none)
        thing_begun

  -- ---- what is held changes

  module _ (text : List ℕ) (ranges : RangesValue) where
    wrote_kept : (file : FileId) → file_at a text ≡ Ok file
        → Kept (answer (make_version file (drawn a moment) ranges (idle a W)) (reply.Wrote (drawn a moment)))
    wrote_kept file found =
        let c = k.paired.both file (full_held a.names file (file_found a text file found).0) in
        let x = replica_of_core a file c.0 c.1 in
        let u = version_of a file (drawn a moment) ranges in
        written_keeps a file x.0 x.1 (drawn a moment) ranges (update.Version u ∷ []) refl
        (λ f. same_step (core_at a f) (core_at a f) refl)

    change_kept : Kept (change a text ranges W)
    change_kept =
        answered_by Kept a W (file_at a text) (change_file a ranges W) denied
        (λ file found. answered_by Kept a W (when_fit a ranges file) _ denied
        (λ fit fits. wrote_kept fit
        (subst (λ g. file_at a text ≡ Ok g) (fit_found a ranges file fit fits) found)))

  moved_kept : (f : FileId) (place : Place) → Keeping (make_place f place (idle a W))
  moved_kept f place = quiet (make_place f place (idle a W)) (make_place_quiet us p N a f place W)

  lowered_kept : (f : FileId) → Keeping (lowered a f W)
  lowered_kept f =
      chosen Keeping (is_gold a f) (lower_flag a f W) (idle a W)
      (quiet (lower_flag a f W) (lower_quiet us p N a f W)) still

  leaving_kept : (f : FileId) (o : Option Flag) → Kept (leaving a f W o)
  leaving_kept f None = still
  leaving_kept f (Some flag) =
      quiet (done_of (leaving a f W (Some flag))) (begin_quiet us p N a (leave_of f flag) W)

  -- ---- what was lost

  module _ (id : FileId) (away : is_held a id ≡ false) (dir : is_dir id ≡ true) where
    anew_kept : (o : Option Place) → Keeping (raised id (begun_at a id W o))
    anew_kept o =
        let d = begun_at a id W o in
        let q = quiet_then us p N (at_quiet k moment id away dir o)
        (raise_quiet us p N d.store id d.work) in
        begun (raised id d) id (a.births + 1) Last (lost_none k moment id away dir)
        (alters_keeps (begins k moment id away dir (Own_of k moment id away dir o)) q.keeps) q.none

    begin_kept : Keeping (begin_lost a id W)
    begin_kept =
        chosen Keeping (is_wanted a id) (raised id (begun_at a id W (last_place a.names id)))
        (idle a W) (anew_kept (last_place a.names id)) still

  lost_kept : (id : FileId) → Keeping (forget_lost a id W)
  lost_kept id =
      decided Keeping (is_held a id) (fill_lost a id W)
      (cond (is_dir id) (begin_lost a id W) (strike_out a id W))
      (λ held. quiet (fill_lost a id W) (filled_quiet k moment id))
      (λ away. decided Keeping (is_dir id) (begin_lost a id W) (strike_out a id W)
      (λ dir. begin_kept id away dir)
      (λ file. quiet (strike_out a id W)
      (struck_quiet k moment id (last_listing a.names id (dirs_of a.names id)))))

  -- ---- a server is given up

  entered_kept : (server : ℕ) → Keeping (enter_view a server W)
  entered_kept server f =
      let d = enter_view a server W in
      let q = entered_quiet us p N a server W in
      subst (KeptStep false (core_at a f) (core_at d.store f)) (sym (none_made f d.work.made q.none))
      (same_step (core_at a f) (core_at d.store f) (q.keeps.each f))

  -- WHATEVER A CLIENT CALLS
  pub call_kept : (c : Call) → Kept (do_call a c W)
  call_kept (call.Mkdir text) =
      answered_by Kept a W (new_name a (next_id a Dir) text) _ denied
      (λ new is. thing_kept Dir Last new)
  call_kept (call.Create text policy) =
      answered_by Kept a W (new_name a (next_id a File) text) _ denied
      (λ new is. first_kept File policy new)
  call_kept (call.Write text offset bytes) = change_kept text (written offset bytes)
  call_kept (call.Cut text length) = change_kept text (cut_to length)
  call_kept (call.Read text offset count) = looks (file_at a text) _
  call_kept (call.Fresh text) = looks (file_at a text) _
  call_kept (call.Ls text from) = looks (dir_at a text) _
  call_kept (call.Stat target) = looks (target_at a target) _
  call_kept (call.Rename from to) =
      answered_by Kept a W (move_of a from to) _ denied
      (λ move is. moved_kept move.thing (place_in a moment move.to))
  call_kept (call.Unlink text) =
      answered_by Kept a W (file_at a text) _ denied (λ f is. moved_kept f (dead_place a moment f))
  call_kept (call.Rmdir text) =
      answered_by Kept a W (empty_dir_at a text) _ denied
      (λ d is. moved_kept d (dead_place a moment d))
  call_kept (call.Forget id) =
      answered_by Kept a W (lost_at a id) _ denied (λ found is. lost_kept found)
  call_kept (call.Demote target) =
      answered_by Kept a W (demoted_at a target) _ denied (λ f is. lowered_kept f)
  call_kept (call.Drop target) =
      answered_by Kept a W (dropped_at a target) _ denied
      (λ f is. leaving_kept f (clean_gold a f))
  call_kept (call.Giveup view server) =
      answered_by Kept a W (removal_at a view server) _ denied (λ found is. entered_kept server)
  call_kept call.Status = looks (in_time a (tt {0})) _
  call_kept call.Stop = looks (in_time a (tt {0})) _
