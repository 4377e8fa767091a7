-- Versions are made by calls alone: by the server that is called, of a thing of which it has a
-- replica.
use Rattle.std.proofs.Common.{ℕ, ◌≡◌, ◌==◌, true, false, List, [], ◌∷◌, ◌++◌, Option, None, Some, Result, Ok, Err, is_some, option_map, refl, sym, ap, subst, ◌∙◌, All}
use Rattle.std.proofs.lemmas.List.Elements.{All-cons, All-nil, All-weaker}
use Rattle.pg_run.specs.pg_base.declared.id.FileId.{FileId}
use Rattle.pg_run.specs.pg_base.declared.id.Kind.TheVariants.{File}
use Rattle.pg_run.specs.pg_base.declared.policy.Policy.{Policy}
use Rattle.pg_run.specs.pg_base.declared.stamp.Stamp.{Stamp}
use Rattle.pg_run.specs.pg_patch.Ranges.{RangesValue, cut_to, written}
use Rattle.pg_run.specs.pg_entries.declared.entry.Entry.{Entry}
use Rattle.pg_run.specs.pg_intent.declared.intent.Intent.{Intent}
use Rattle.pg_run.specs.pg_intent.declared.intent.Intent.TheVariants as intent
use Rattle.pg_run.specs.pg_intent.declared.key.IntentKey.{IntentKey}
use Rattle.pg_run.specs.pg_intent.Intents.{ended, intent_at}
use Rattle.pg_run.specs.pg_msg.declared.message.Message.TheVariants as message
use Rattle.pg_run.specs.pg_msg.declared.update.MadeVersion.{MadeVersion}
use Rattle.pg_run.specs.pg_msg.declared.update.Update.TheVariants as update
use Rattle.pg_run.specs.pg_msg.declared.work.Work.{Work}
use Rattle.pg_run.specs.pg_msg.Work.{new_work}
use Rattle.pg_run.specs.pg_call.declared.call.Call.{Call}
use Rattle.pg_run.specs.pg_call.declared.call.Call.TheVariants as call
use Rattle.pg_run.specs.pg_register.declared.flag.Flag.{Flag}
use Rattle.pg_run.specs.pg_register.declared.place.Place.{Place}
use Rattle.pg_run.specs.pg_names.Names.{blank_own, with_flag, with_joined, with_place}
use Rattle.pg_run.proofs.pg_names.Lookups.{update_frame}
use Rattle.pg_run.specs.pg_replica.declared.replica.Replica.{Replica}
use Rattle.pg_run.specs.pg_replica.Replicas.{replica_in}
use Rattle.pg_run.specs.pg_store.declared.store.Store.{Store}
use Rattle.pg_run.specs.pg_store.declared.wishes.Wish.{Wish}
use Rattle.pg_run.specs.pg_store.Beginning.{patches_of, put_new, take_patch, take_patches, take_told, take_told_in, with_intents}
use Rattle.pg_run.specs.pg_store.Births.{draw_birth, with_birth, with_wish}
use Rattle.pg_run.specs.pg_store.Seen.{server_of}
use Rattle.pg_run.specs.pg_store.Store.{is_held, is_newer_entry, is_newer_flag, is_newer_place, put_entry, put_flag, put_place, replica_at, take_entry, take_flag, take_place, write}
use Rattle.pg_run.specs.pg_store.Together.{AreTogether, birth_at}
use Rattle.pg_run.proofs.pg_store.Pairs.{write_as_before}
use Rattle.pg_run.specs.pg_pieces.Done.{Done, idle}
use Rattle.pg_run.specs.pg_pieces.Making.{own_next}
use Rattle.pg_run.specs.pg_pieces.Posting.{post}
use Rattle.pg_run.specs.pg_cells.Ticks.{tick}
use Rattle.pg_run.specs.pg_intentions.Requests.{ask_all}
use Rattle.pg_run.proofs.pg_intentions.Steady.{begin_end_stays}
use Rattle.pg_run.specs.pg_lookup.declared.paths.Found.{Found}
use Rattle.pg_run.specs.pg_lookup.declared.paths.LookupError.{LookupError}
use Rattle.pg_run.specs.pg_lookup.declared.paths.LookupError.TheVariants as stop
use Rattle.pg_run.specs.pg_checks.declared.checks.NewName.{NewName}
use Rattle.pg_run.specs.pg_checks.Answer.{Answer, answered, deny}
use Rattle.pg_run.specs.pg_checks.Asking.{ask_by, fetch, fresh_wish, holder, standing}
use Rattle.pg_run.specs.pg_calls.Bodies.{change, change_file, when_fit}
use Rattle.pg_run.specs.pg_calls.Calls.{do_call}
use Rattle.pg_run.specs.pg_checks.Checks.{file_at, new_name}
use Rattle.pg_run.specs.pg_calls.Making.{drawn, first_ranges, make_place, make_version, version_of}
use Rattle.pg_run.specs.pg_calls.Naming.{begun, next_id, place_in, with_first_version, with_id, with_thing}
use Rattle.pg_run.proofs.pg_calls.Checked.{fit_found}
use Rattle.pg_run.proofs.pg_calls.New.{thing_new}
use Rattle.pg_run.proofs.pg_calls.Walked.{file_found, full_held}
use Rattle.pg_run.specs.pg_server.declared.input.Input.{Input}
use Rattle.pg_run.specs.pg_server.declared.input.Input.TheVariants as input
use Rattle.pg_run.specs.pg_server.Local.{Effect, done_of, effect, intended, receive, settled, ticked, without_sources, without_volatile}
use Rattle.pg_run.proofs.theory_flood_pieces.Choices.{chosen}
use Rattle.pg_run.proofs.theory_flood_pieces.Together.{replica_of_held}
use Rattle.pg_run.specs.Journal.{versions_in}
use Rattle.pg_run.specs.Run.{run}
use Rattle.pg_run.proofs.Event.{Comes, FirstHas, effect_is, end_has, first_has}
use Rattle.pg_run.proofs.Frame.{acts_is}
use Rattle.law_births.specs.Premises.{IsMadeHere, MakersHold, StoresAreWhole}
use Rattle.law_births.proofs.Pieces.{settle_stays}
use Rattle.law_births.proofs.HouseUnmade.{settle_none}
use Rattle.law_births.proofs.Unmade.{MakesNone, call_none, placed_none, raised_none, received_none, versions_after, walk_of_none}

-- ---- a server is itself whatever it takes

abbrev IsSameServer : Store → Store → Type 0
IsSameServer a b = server_of b ≡ server_of a

place_server : (a : Store) (f : FileId) (place : Place) → IsSameServer a (take_place a f place)
place_server a f place =
    chosen (IsSameServer a) (is_newer_place a f place) (put_place a f place) a
    (update_frame a.names f (with_place place)).server refl

flag_server : (a : Store) (f : FileId) (flag : Flag) → IsSameServer a (take_flag a f flag)
flag_server a f flag =
    chosen (IsSameServer a) (is_newer_flag a f flag) (put_flag a f flag) a
    (update_frame a.names f (with_flag flag)).server refl

entry_server : (a : Store) (d : FileId) (e : Entry) → IsSameServer a (take_entry a d e)
entry_server a d e =
    chosen (IsSameServer a) (is_newer_entry a d e) (put_entry a d e) a
    (update_frame a.names d (with_joined e)).server refl

told_server : (a : Store) (d : FileId) (i : Intent) → IsSameServer a (take_told a d i)
told_server a d (intent.Patch to e target) = entry_server a d e
told_server a d (intent.Bye file birth peer peer_birth) = refl
told_server a d (intent.Seek file target) = refl
told_server a d (intent.Fill file birth target) = refl
told_server a d (intent.Confirm dir child target) = refl
told_server a d (intent.Leave file peer peer_birth) = refl

told_in_server : (a : Store) (d : FileId) (o : Option Intent) → IsSameServer a (take_told_in a d o)
told_in_server a d None = refl
told_in_server a d (Some i) = told_server a d i

patches_server : (ks : List IntentKey) (a : Store) (d : FileId) → IsSameServer a (take_patches a d ks)
patches_server [] a d = refl
patches_server (k ∷ ks) a d =
    patches_server ks (take_patch a d k) d ∙ told_in_server (with_intents a (ended a.intents k)) d (intent_at a.intents k)

replica_by : (b : Store) (f : FileId) (o : Option Replica) → replica_at b f ≡ o → is_some o ≡ true
    → (x : Replica) × (replica_at b f ≡ Some x)
replica_by b f None is h = absurd (let z : false ≡ true = h in cc)
replica_by b f (Some x) is h = (x, is)

-- ---- a call

-- what was made up to here was made by this server, which has replicas
abbrev IsMade : ℕ → Done → Type 0
IsMade s d = All (IsMadeHere s d.store) (versions_in d.work.made)

none_made : (s : ℕ) (d : Done) → versions_in d.work.made ≡ [] → IsMade s d
none_made s d none = subst (All (IsMadeHere s d.store)) (sym none) (All-nil (IsMadeHere s d.store))

one_made : (s : ℕ) (d : Done) (f : FileId) (stamp : Stamp) (ranges : RangesValue) → versions_in d.work.made ≡ []
    → stamp.server ≡ s → (x : Replica) → replica_at d.store f ≡ Some x → IsMade s (make_version f stamp ranges d)
one_made s d f stamp ranges none server x here =
    let u = version_of d.store f stamp ranges in
    let b = write d.store f stamp ranges in
    let one : versions_in (d.work.made ++ update.Version u ∷ []) ≡ u ∷ [] =
    versions_after d.work.made (update.Version u ∷ []) ∙ ap (λ (l : List MadeVersion). l ++ u ∷ []) none in
    let birth : birth_at b f ≡ Some x.birth =
    (write_as_before d.store f stamp ranges).births f ∙ ap (option_map (λ (y : Replica). y.birth)) here in
    subst (All (IsMadeHere s b)) (sym one)
    (All-cons (IsMadeHere s b) u [] (server, x.birth, birth) (All-nil (IsMadeHere s b)))

module _ (s : ℕ) (a : Store) (server : server_of a ≡ s) (both : AreTogether a) (moment : ℕ) where
  abbrev W : Work
  W = new_work moment 0

  abbrev IsAnswer : Answer → Type 0
  IsAnswer r = IsMade s (done_of r)

  idle_made : (b : Store) (w : Work) → versions_in w.made ≡ [] → IsMade s (idle b w)
  idle_made b w none = none_made s (idle b w) none

  fetched : (file : FileId) (wish : Wish) → versions_in (fetch a file wish W).made ≡ []
  fetched file wish =
      chosen (λ (w : Work). versions_in w.made ≡ []) (wish.target == 0) W
      (post a wish.target (message.Fetch file wish.birth) W) refl refl

  asked_by : (found : Found) (o : Option Wish) → IsMade s (ask_by a found o W)
  asked_by found None =
      let target = holder a found in
      let wish = fresh_wish a target in
      chosen (IsMade s) (target == 0) (idle a W)
      (idle (with_wish (with_birth a) found.file wish) (fetch a found.file wish W)) (idle_made a W refl)
      (idle_made (with_wish (with_birth a) found.file wish) (fetch a found.file wish W) (fetched found.file wish))
  asked_by found (Some wish) = idle_made a (fetch a found.file wish W) (fetched found.file wish)

  denied_by : (why : LookupError) → IsAnswer (deny a why W)
  denied_by (stop.Refused why) = idle_made a W refl
  denied_by (stop.NotYet found) = asked_by found (standing a found.file)

  answered_by : {A : Type 0} (r : Result A LookupError) (next : A → Answer) → ((x : A) → r ≡ Ok x → IsAnswer (next x))
      → IsAnswer (answered a W r next)
  answered_by (Err why) next h = denied_by why
  answered_by (Ok x) next h = h x refl

  -- ---- new things

  module _ (id : FileId) (policy : Policy) (new : NewName) where
    abbrev Begun : Store
    Begun = begun (with_id a) id policy

    abbrev Placed : Done
    Placed = make_place id (place_in (with_id a) moment new) (idle Begun W)

    abbrev Thing : Done
    Thing = with_thing (with_id a) W id policy new

    thing_none : versions_in Thing.work.made ≡ []
    thing_none = raised_none Placed.store id Placed.work ∙ placed_none Begun id (place_in (with_id a) moment new) W

    thing_server : server_of Thing.store ≡ s
    thing_server =
        flag_server Placed.store id (own_next Placed.store id true)
        ∙ place_server Begun id (place_in (with_id a) moment new)
        ∙ patches_server (patches_of id a.intents) (put_new (with_birth (with_id a)) id (draw_birth (with_id a)) policy (blank_own id) true) id
        ∙ server

    first_made : IsMade s (with_first_version id Thing)
    first_made =
        let none = thing_new (with_id a) W id policy new in
        let x = replica_by Thing.store id (replica_at Thing.store id) refl none.0 in
        one_made s Thing id (drawn Thing.store Thing.work.now) first_ranges thing_none thing_server x.0 x.1

  -- ---- contents

  changed_by : (ranges : RangesValue) (f : FileId) → is_held a f ≡ true → IsAnswer (change_file a ranges W f)
  changed_by ranges f held =
      answered_by (when_fit a ranges f) _ (λ fit found.
      let there : is_held a fit ≡ true = subst (λ g. is_held a g ≡ true) (fit_found a ranges f fit found) held in
      let x = replica_of_held a both fit there in
      one_made s (idle a W) fit (drawn a moment) ranges refl server x.0 x.1)

  change_by : (text : List ℕ) (ranges : RangesValue) → IsAnswer (change a text ranges W)
  change_by text ranges =
      answered_by (file_at a text) (change_file a ranges W)
      (λ f found. changed_by ranges f (full_held a.names f (file_found a text f found).0))

  -- EVERY CALL
  call_made : (c : Call) → IsAnswer (do_call a c W)
  call_made (call.Create path policy) =
      answered_by (new_name a (next_id a File) path) _ (λ new found. first_made (next_id a File) policy new)
  call_made (call.Write path offset bytes) = change_by path (written offset bytes)
  call_made (call.Cut path length) = change_by path (cut_to length)
  call_made c = none_made s (done_of (do_call a c W)) (call_none a W c (λ file ranges none. none))

-- ---- an event

-- the same versions were made, and births are as they were
same_made : (s : ℕ) (d e : Done) → MakesNone d.work e.work
    → ((file : FileId) → birth_at e.store file ≡ birth_at d.store file) → IsMade s d → IsMade s e
same_made s d e none births h =
    subst (All (IsMadeHere s e.store)) (sym none)
    (All-weaker (IsMadeHere s d.store) (IsMadeHere s e.store)
    (λ u is. (is.0, is.1, births u.file ∙ is.2)) (versions_in d.work.made) h)

settled_made : (s : ℕ) (d : Done) → IsMade s d → IsMade s (settled d)
settled_made s d h =
    same_made s d (settled d) (settle_none d.store d.work)
    (settle_stays d.store d.work).before.births h

intended_here : (s : ℕ) (d : Done) → IsMade s d → IsMade s (intended d)
intended_here s d h =
    same_made s d (intended d) (ap versions_in (begin_end_stays d.store d.work).made)
    (λ file. ap (λ rs. option_map (λ (x : Replica). x.birth) (replica_in rs file)) (begin_end_stays d.store d.work).replicas) h

module _ (s : ℕ) (a : Store) (server : server_of a ≡ s) (both : AreTogether a) where
  first_is : FirstHas (λ packet. Unit {0}) a (IsMade s)
  first_is = record {
    calls = λ moment c. call_made s a server both moment c;
    ticks = λ moment word going.
        let behind = without_sources a in
        none_made s (ticked a word (new_work moment 0)) (walk_of_none behind word (ask_all behind (tick behind (new_work moment 0))));
    arrivals = λ packet heard known.
        none_made s (receive a packet.message (new_work 0 packet.from))
        (received_none a packet.message (new_work 0 packet.from));
    restarts = none_made s (idle (without_volatile a) (new_work 0 0)) refl;
    nothing = λ moment from. none_made s (idle a (new_work moment from)) refl;
  }

  effect_made : (asked : Input) → All (IsMadeHere s (effect a asked).store) (versions_in (effect a asked).out.made)
  effect_made asked =
      let first = first_has (λ packet. Unit {0}) a (IsMade s) first_is asked (known asked) in
      let all = end_has (IsMade s) a asked (record { rules = settled_made s; intentions = intended_here s }) first in
      subst (λ (e : Effect). All (IsMadeHere s e.store) (versions_in e.out.made)) (sym (effect_is a asked)) all
    where
      known : (asked : Input) → Comes (λ packet. Unit {0}) asked
      known (input.Call moment call) = tt
      known (input.Tick moment word) = tt
      known (input.Arrival packet) = tt
      known input.Restart = tt

-- MAKERS HOLD
pub makers_hold : (n : ℕ) → StoresAreWhole n → MakersHold n
makers_hold n whole events event s asked is =
    let acts = acts_is n (run n events) event (record { server = s; asked = asked }) is in
    let k = whole events s acts.least acts.most in
    effect_made s ((run n events).stores s) k.server k.together asked
