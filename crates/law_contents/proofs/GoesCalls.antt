-- Behind a call what is noted goes on, or a view is entered.
use Rattle.std.proofs.Common.{ℕ, ◌≡◌, ◌<◌, ◌⊎◌, ◌++◌, ◌+◌, Bool, true, false, cond, List, [], ◌∷◌, length, Option, None, Some, Result, Ok, Err, inl, inr, refl, sym, ap, subst, ◌∙◌, arith}
use Rattle.std.proofs.lemmas.Bool.{false≢true}
use Rattle.std.proofs.lemmas.List.{length-append}
use Rattle.pg_run.specs.pg_announced.Announced.{AreSorted, NotesValue, key_at, note_at}
use Rattle.pg_run.specs.pg_base.declared.id.FileId.{FileId}
use Rattle.pg_run.specs.pg_base.declared.id.Kind.{Kind}
use Rattle.pg_run.specs.pg_base.declared.id.Kind.TheVariants.{Dir, File}
use Rattle.pg_run.specs.pg_base.declared.policy.Policy.{Policy}
use Rattle.pg_run.specs.pg_base.declared.policy.Policy.TheVariants.{Last}
use Rattle.pg_run.specs.pg_base.declared.stamp.Stamp.{Stamp}
use Rattle.pg_run.specs.pg_base.Id.{is_same_file}
use Rattle.pg_run.proofs.pg_base.Orders.{is_same_file-true}
use Rattle.pg_run.specs.pg_call.declared.call.Call.{Call}
use Rattle.pg_run.specs.pg_call.declared.call.Call.TheVariants as call
use Rattle.pg_run.specs.pg_call.declared.reply.Reply.{Reply}
use Rattle.pg_run.specs.pg_call.declared.reply.Reply.TheVariants as reply
use Rattle.pg_run.specs.pg_intent.declared.key.IntentKey.TheVariants as intent_key
use Rattle.pg_run.specs.pg_intent.Intents.{ended}
use Rattle.pg_run.specs.pg_lookup.declared.paths.LookupError.{LookupError}
use Rattle.pg_run.specs.pg_msg.declared.work.Work.{Work}
use Rattle.pg_run.specs.pg_msg.Work.{new_work}
use Rattle.pg_run.specs.pg_names.declared.attributes.Attributes.{Attributes}
use Rattle.pg_run.specs.pg_names.Names.{blank_own, is_dir}
use Rattle.pg_run.specs.pg_patch.Ranges.{RangesValue, cut_to, written}
use Rattle.pg_run.specs.pg_register.declared.flag.Flag.{Flag}
use Rattle.pg_run.specs.pg_register.declared.place.Place.{Place}
use Rattle.pg_run.specs.pg_replica.declared.replica.Replica.{Replica}
use Rattle.pg_run.specs.pg_replica.Replica.{new_replica}
use Rattle.pg_run.specs.pg_replica.Replicas.{replicas_writing}
use Rattle.pg_run.specs.Journal.{Born}
use Rattle.pg_run.specs.pg_store.declared.store.Store.{Store}
use Rattle.pg_run.specs.pg_store.Beginning.{begin, patches_of, put_new}
use Rattle.pg_run.specs.pg_store.Births.{draw_birth, with_birth}
use Rattle.pg_run.specs.pg_store.Seen.{removed_of, view_of}
use Rattle.pg_run.specs.pg_store.Store.{is_held, notes_behind, replica_at, write}
use Rattle.pg_run.specs.pg_pieces.Done.{Done, idle}
use Rattle.pg_run.specs.pg_pieces.Golds.{is_gold}
use Rattle.pg_run.specs.pg_pieces.Making.{lower_flag}
use Rattle.pg_run.specs.pg_checks.declared.checks.NewName.{NewName}
use Rattle.pg_run.specs.pg_checks.Answer.{Answer, answer, answered, deny, replied, told}
use Rattle.pg_run.specs.pg_checks.Checks.{dir_at, empty_dir_at, file_at, in_time, move_of, new_name, target_at}
use Rattle.pg_run.specs.pg_calls.Bodies.{change, change_file, when_fit}
use Rattle.pg_run.specs.pg_calls.Calls.{do_call}
use Rattle.pg_run.specs.pg_calls.Demoting.{demoted_at, lowered}
use Rattle.pg_run.specs.pg_calls.Dropping.{clean_gold, dropped_at, leave_of, leaving}
use Rattle.pg_run.specs.pg_calls.Forgetting.{begin_lost, begun_at, dirs_of, fill_lost, forget_lost, is_wanted, last_listing, last_place, lost_at, strike_out, unfilled}
use Rattle.pg_run.specs.pg_calls.GivingUp.{enter_view, removal_at}
use Rattle.pg_run.specs.pg_calls.Making.{drawn, first_ranges, make_place, make_version}
use Rattle.pg_run.specs.pg_calls.Naming.{dead_place, next_id, place_in, raised, with_first_version, with_id, with_thing}
use Rattle.pg_run.proofs.theory_flood_pieces.Choices.{chosen, decided}
use Rattle.law_contents.proofs.Beginning.{thing_quiet}
use Rattle.law_contents.proofs.Changes.{AreOpen, Core, Covers, IsOpen, Keeps, Keeps-refl, Keeps-trans, core_at, keeps_open}
use Rattle.law_contents.proofs.Cores.{put_elsewhere, put_here}
use Rattle.law_contents.proofs.Entered.{entered_keeps}
use Rattle.law_contents.proofs.Goings.{Goes, alters_go, keeps_go, notes_go, notes_then}
use Rattle.law_contents.proofs.Lost.{Own_of, at_quiet, filled_quiet, struck_quiet}
use Rattle.law_contents.proofs.Outcomes.{denied_quiet}
use Rattle.law_contents.proofs.Pieces.{birth_keeps, id_keeps, intents_keep, patches_keep}
use Rattle.law_contents.proofs.Quiet.{begin_quiet, lower_quiet, make_place_quiet, raise_quiet}
use Rattle.law_contents.proofs.Servers.{Came, IsServer}
use Rattle.law_contents.proofs.Versions.{with_news_of, write_alters}

-- the view and what is noted stay
pub record StaysNoted (a b : Store) : Type 0 where
  pub view : removed_of b ≡ removed_of a
  pub notes : b.announced ≡ a.announced
  pub free : AreOpen a → AreOpen b

pub keeps_noted : {a b : Store} → Keeps a b → StaysNoted a b
keeps_noted k = record { view = k.view; notes = k.notes; free = keeps_open k }

noted_then : {a b c : Store} → StaysNoted a b → StaysNoted b c → StaysNoted a c
noted_then k l = record {
  view = l.view ∙ k.view;
  notes = l.notes ∙ k.notes;
  free = λ h. l.free (k.free h);
}

-- what begins has no heads
module _ (a : Store) (file : FileId) (birth : ℕ) (policy : Policy) (own : Attributes) (full : Bool)
    (h : AreOpen a) where
  abbrev Fresh : Store
  Fresh = put_new a file birth policy own full

  open_by : (f : FileId) (same : Bool) → is_same_file f file ≡ same → IsOpen Fresh f (core_at Fresh f)
  open_by f true e t n there covers =
      let P : FileId → Type 0 = (λ g. Covers (core_at Fresh g) n) in
      let here = subst P (is_same_file-true f file e) covers in
      false≢true (subst (λ (o : Option Core). Covers o n)
      (put_here a.replicas file (new_replica birth policy)) here)
  open_by f false e t n there covers =
      h f t n there (subst (λ (o : Option Core). Covers o n)
      (put_elsewhere a.replicas file f (new_replica birth policy) e) covers)

  new_open : AreOpen Fresh
  new_open f = open_by f (is_same_file f file) refl

-- where a replica begins
pub begin_noted : (a : Store) (file : FileId) (birth : ℕ) (policy : Policy) (own : Attributes)
    (full : Bool) → StaysNoted a (begin a file birth policy own full)
begin_noted a file birth policy own full =
    let q = patches_keep file (put_new a file birth policy own full) (patches_of file a.intents) in
    record {
      view = q.view;
      notes = q.notes;
      free = λ h. keeps_open q (new_open a file birth policy own full h);
    }

-- where a version is made
module _ (b : Store) (file : FileId) (stamp : Stamp) (ranges : RangesValue)
    (sorted : AreSorted b.announced) where
  abbrev wrote : Option Replica → Store
  wrote o = with_news_of b file stamp o (replicas_writing b.replicas file stamp ranges b.tags o)

  written_by : (o : Option Replica) → replica_at b file ≡ o → Goes b (write b file stamp ranges)
  written_by (Some x) is = alters_go sorted (write_alters b file x is stamp ranges)
  written_by None is =
      let P : Option Replica → Type 0 = (λ o. Goes b (wrote o)) in
      let same : (wrote None).announced ≡ b.announced = ap (notes_behind b.announced file) is in
      subst P (sym is) (notes_go refl same (λ h f t n there. h f t n
      (sym (ap (λ (ns : NotesValue). note_at ns (key_at f t)) same) ∙ there)))

  written_goes : Goes b (write b file stamp ranges)
  written_goes = written_by (replica_at b file) refl

-- a view is entered, and nothing is noted
pub record IsEntered (a b : Store) : Type 0 where
  pub view : view_of a < view_of b
  pub none : b.announced ≡ []

abbrev pub Went : Store → Store → Type 0
Went a b = Goes a b ⊎ IsEntered a b

module _ {s : ℕ} {a : Store} {us : List Born} {p : FileId → Policy} {N : FileId → Type 0}
    {came : Came} (k : IsServer s a us p N came) (moment : ℕ) where
  abbrev W : Work
  W = new_work moment 0

  abbrev Goings : Answer → Type 0
  Goings r = Went a r.store

  abbrev sorted : AreSorted a.announced
  sorted = k.stands.sorted

  stays : {b : Store} → StaysNoted a b → Went a b
  stays h = inl (notes_go h.view h.notes h.free)

  keeps : {b : Store} → Keeps a b → Went a b
  keeps h = inl (keeps_go h)

  denied : (why : LookupError) → Goings (deny a why W)
  denied why = keeps (denied_quiet us p N a W why).keeps

  going : {A : Type 0} (r : Result A LookupError) (next : A → Answer) → ((x : A) → Goings (next x))
      → Goings (answered a W r next)
  going (Err why) next each = denied why
  going (Ok x) next each = each x

  looks : {A : Type 0} (r : Result A LookupError) (tell : A → Reply) → Goings (replied a W r tell)
  looks r tell = going r (λ x. told a W (tell x)) (λ x. keeps (Keeps-refl a))

  -- ---- a thing is made

  thing_noted : (kind : Kind) (policy : Policy) (new : NewName)
      → StaysNoted a (with_thing (with_id a) W (next_id a kind) policy new).store
  thing_noted kind policy new =
      let id = next_id a kind in
      let born = with_birth (with_id a) in
      noted_then (keeps_noted (Keeps-trans (id_keeps a) (birth_keeps (with_id a))))
      (noted_then (begin_noted born id (draw_birth (with_id a)) policy (blank_own id) true)
      (keeps_noted (thing_quiet k moment kind policy new us p N).keeps))

  file_goes : (policy : Policy) (new : NewName) → Went a (with_first_version (next_id a File)
      (with_thing (with_id a) W (next_id a File) policy new)).store
  file_goes policy new =
      let d = with_thing (with_id a) W (next_id a File) policy new in
      let h = thing_noted File policy new in
      inl (notes_then h.view h.notes h.free (written_goes d.store (next_id a File) (drawn d.store d.work.now)
      first_ranges (subst AreSorted (sym h.notes) sorted)))

  -- ---- what is held changes

  change_goes : (text : List ℕ) (ranges : RangesValue) → Goings (change a text ranges W)
  change_goes text ranges =
      going (file_at a text) (change_file a ranges W) (λ f. going (when_fit a ranges f)
      (λ fit. answer (make_version fit (drawn a moment) ranges (idle a W)) (reply.Wrote (drawn a moment)))
      (λ fit. inl (written_goes a fit (drawn a moment) ranges sorted)))

  moved_goes : (f : FileId) (place : Place) → Went a (make_place f place (idle a W)).store
  moved_goes f place = keeps (make_place_quiet us p N a f place W).keeps

  lowered_goes : (f : FileId) → Went a (lowered a f W).store
  lowered_goes f =
      chosen (λ (d : Done). Went a d.store) (is_gold a f) (lower_flag a f W) (idle a W)
      (keeps (lower_quiet us p N a f W).keeps) (keeps (Keeps-refl a))

  leaving_goes : (f : FileId) (o : Option Flag) → Goings (leaving a f W o)
  leaving_goes f None = keeps (Keeps-refl a)
  leaving_goes f (Some flag) = keeps (begin_quiet us p N a (leave_of f flag) W).keeps

  -- ---- what was lost

  module _ (id : FileId) (away : is_held a id ≡ false) (dir : is_dir id ≡ true) where
    anew_noted : (o : Option Place) → StaysNoted a (raised id (begun_at a id W o)).store
    anew_noted o =
        let d = begun_at a id W o in
        let rest = ended a.intents (intent_key.Fill id) in
        noted_then (keeps_noted (Keeps-trans (birth_keeps a) (intents_keep (with_birth a) rest)))
        (noted_then (begin_noted (unfilled (with_birth a) id) id (draw_birth a) Last
        (Own_of k moment id away dir o) true)
        (noted_then (keeps_noted (at_quiet k moment id away dir o).keeps)
        (keeps_noted (raise_quiet us p N d.store id d.work).keeps)))

    begin_goes : Went a (begin_lost a id W).store
    begin_goes =
        chosen (λ (d : Done). Went a d.store) (is_wanted a id)
        (raised id (begun_at a id W (last_place a.names id))) (idle a W)
        (stays (anew_noted (last_place a.names id))) (keeps (Keeps-refl a))

  lost_goes : (id : FileId) → Went a (forget_lost a id W).store
  lost_goes id =
      let P : Done → Type 0 = (λ d. Went a d.store) in
      decided P (is_held a id) (fill_lost a id W) (cond (is_dir id) (begin_lost a id W) (strike_out a id W))
      (λ held. keeps (filled_quiet k moment id).keeps)
      (λ away. decided P (is_dir id) (begin_lost a id W) (strike_out a id W)
      (λ dir. begin_goes id away dir)
      (λ file. keeps (struck_quiet k moment id (last_listing a.names id (dirs_of a.names id))).keeps))

  -- ---- a server is given up

  entered : (server : ℕ) → Went a (enter_view a server W).store
  entered server =
      let q = entered_keeps us p N a server W in
      inr (record {
        view =
            let longer : length (removed_of a ++ server ∷ []) ≡ view_of a + 1 =
            length-append (removed_of a) (server ∷ []) in
            let same = ap (λ (xs : List ℕ). length xs) q.view in omega arith;
        none = q.notes;
      })

  -- WHATEVER A CLIENT CALLS
  pub call_goes : (c : Call) → Goings (do_call a c W)
  call_goes (call.Mkdir text) =
      going (new_name a (next_id a Dir) text) _ (λ new. stays (thing_noted Dir Last new))
  call_goes (call.Create text policy) =
      going (new_name a (next_id a File) text) _ (λ new. file_goes policy new)
  call_goes (call.Write text offset bytes) = change_goes text (written offset bytes)
  call_goes (call.Cut text length) = change_goes text (cut_to length)
  call_goes (call.Read text offset count) = looks (file_at a text) _
  call_goes (call.Fresh text) = looks (file_at a text) _
  call_goes (call.Ls text from) = looks (dir_at a text) _
  call_goes (call.Stat target) = looks (target_at a target) _
  call_goes (call.Rename from to) =
      going (move_of a from to) _ (λ move. moved_goes move.thing (place_in a moment move.to))
  call_goes (call.Unlink text) =
      going (file_at a text) _ (λ f. moved_goes f (dead_place a moment f))
  call_goes (call.Rmdir text) =
      going (empty_dir_at a text) _ (λ d. moved_goes d (dead_place a moment d))
  call_goes (call.Forget id) = going (lost_at a id) _ (λ found. lost_goes found)
  call_goes (call.Demote target) = going (demoted_at a target) _ (λ f. lowered_goes f)
  call_goes (call.Drop target) =
      going (dropped_at a target) _ (λ f. leaving_goes f (clean_gold a f))
  call_goes (call.Giveup view server) =
      going (removal_at a view server) _ (λ found. entered server)
  call_goes call.Status = looks (in_time a (tt {0})) _
  call_goes call.Stop = looks (in_time a (tt {0})) _
