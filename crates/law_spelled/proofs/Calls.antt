-- Each call keeps what is held fit, and what it sends has a spelling.
use Rattle.std.proofs.Common.{ℕ, ◌≡◌, ◌≤◌, true, false, nat_lt, List, [], length, Option, None, Some, Result, Ok, Err, refl, sym, subst, inl, inr, arith}
use Rattle.std.proofs.lemmas.Bool.Decides.{nat_tests}
use Rattle.pg_base.specs.declared.id.FileId.{FileId}
use Rattle.pg_base.specs.declared.id.Kind.TheVariants.{Dir, File}
use Rattle.pg_base.specs.declared.policy.Policy.{Policy}
use Rattle.pg_base.specs.declared.policy.Policy.TheVariants.{Last}
use Rattle.pg_base.specs.declared.vector.Actor.{Actor}
use Rattle.pg_base.specs.Version.{VersionValue}
use Rattle.pg_announced.specs.Announced.{first_of}
use Rattle.pg_server.specs.pg_pieces.pg_call.declared.call.Call.{Call}
use Rattle.pg_server.specs.pg_pieces.pg_call.declared.call.Call.TheVariants as call
use Rattle.pg_server.specs.pg_pieces.pg_call.declared.call.Target.{Target}
use Rattle.pg_server.specs.pg_pieces.pg_call.declared.refusal.Refusal.TheVariants as refusal
use Rattle.pg_server.specs.pg_pieces.pg_call.declared.refusal.Refusal.TheVariants.{ManyActors, TooLong}
use Rattle.pg_server.specs.pg_pieces.pg_call.declared.reply.Reply.{Reply}
use Rattle.pg_server.specs.pg_pieces.pg_call.declared.reply.Reply.TheVariants as reply
use Rattle.pg_content.specs.Content.{next_vector}
use Rattle.pg_msg.specs.declared.work.Work.{Work}
use Rattle.pg_server.specs.pg_pieces.pg_names.Names.{blank_own, known}
use Rattle.pg_patch.specs.Ranges.{RangesValue, cut_to, written}
use Rattle.pg_path.specs.Name.{IsClientName}
use Rattle.pg_register.specs.declared.flag.Flag.{Flag}
use Rattle.pg_register.specs.declared.place.Place.{Place}
use Rattle.pg_server.specs.pg_pieces.pg_replica.Replica.{has_many_actors, is_too_long, own_actor}
use Rattle.pg_server.specs.pg_pieces.pg_store.declared.store.Store.{Store}
use Rattle.pg_server.specs.pg_pieces.pg_store.Births.{draw_birth, with_birth}
use Rattle.pg_server.specs.pg_pieces.pg_store.Seen.{server_of}
use Rattle.pg_server.specs.pg_pieces.pg_store.Store.{content_of, replica_of}
use Rattle.pg_server.proofs.pg_pieces.pg_house.Truths.{chosen}
use Rattle.pg_server.specs.pg_checks.pg_lookup.declared.paths.LookupError.{LookupError}
use Rattle.pg_server.specs.pg_checks.pg_lookup.declared.paths.LookupError.TheVariants as stop
use Rattle.pg_server.specs.pg_checks.Answer.{Answer, answer, answered, deny, replied, told, unless}
use Rattle.pg_server.specs.pg_checks.Asking.{ask_for}
use Rattle.pg_server.specs.pg_checks.Checks.{dir_at, empty_dir_at, file_at, in_time, move_of, new_name, target_at}
use Rattle.pg_server.specs.pg_pieces.Done.{Done, idle}
use Rattle.pg_server.specs.pg_pieces.Golds.{flags_of, is_gold}
use Rattle.pg_server.specs.pg_pieces.Intending.{begin_intent}
use Rattle.pg_server.specs.pg_pieces.Making.{lower_flag}
use Rattle.pg_server.specs.pg_calls.Bodies.{change, change_file, shown_part, when_fit}
use Rattle.pg_server.specs.pg_calls.Calls.{do_call}
use Rattle.pg_server.specs.pg_calls.Demoting.{demote, demoted_at, is_clean_gold, lowered}
use Rattle.pg_server.specs.pg_calls.Dropping.{clean_gold, drop, dropped_at, leave_of, leaving}
use Rattle.pg_server.specs.pg_calls.Forgetting.{forget_lost, lost_at}
use Rattle.pg_server.specs.pg_calls.GivingUp.{enter_view, removal_at}
use Rattle.pg_server.specs.pg_calls.Looks.{counts, freshness, listing, page, stat_of}
use Rattle.pg_server.specs.pg_calls.Making.{drawn, first_ranges, make_place, make_version}
use Rattle.pg_server.specs.pg_calls.Naming.{begun, create, dead_place, mkdir, moved, next_id, place_in, rename, taken_away, with_first_version, with_id, with_thing}
use Rattle.pg_server.proofs.pg_calls.Checked.{behind, unless_ok}
use Rattle.pg_server.proofs.pg_calls.New.{thing_new}
use Rattle.law_spelled.specs.Stores.{FitsPlace, FitsStore}
use Rattle.law_spelled.proofs.Asked.{asked_for}
use Rattle.law_spelled.proofs.Behind.{intent_fits}
use Rattle.law_spelled.proofs.Entered.{given_up}
use Rattle.law_spelled.proofs.Flags.{MayBeFlag, first_flag}
use Rattle.law_spelled.proofs.Found.{moved_name, named}
use Rattle.law_spelled.proofs.Handlers.{flag_lowered, flag_raised}
use Rattle.law_spelled.proofs.Lost.{forgotten}
use Rattle.law_spelled.proofs.Making.{made_place, made_version}
use Rattle.law_spelled.proofs.Places.{blank_fits, blank_own_fits}
use Rattle.law_spelled.proofs.Stores.{FitsDone, again, begun_fits, born}

-- ---- what a call comes to

pub record FitsAnswer (a : Answer) : Type 0 where
  pub done : FitsDone (record { store = a.store; work = a.work })

-- what is done, and then told
then_told : (done : Done) (r : Reply) → FitsDone done → FitsAnswer (answer done r)
then_told done r h = record { done = again done h }

deny_fits : (s : Store) (why : LookupError) (work : Work) → FitsDone (idle s work) → FitsAnswer (deny s why work)
deny_fits s (stop.Refused why) work h = record { done = h }
deny_fits s (stop.NotYet found) work h = then_told (ask_for s found work) (reply.Refused (refusal.NotYet found.file)) (asked_for s found work h)

answered_fits : {A : Type 0} (s : Store) (work : Work) (r : Result A LookupError) (next : A → Answer) → FitsDone (idle s work)
    → ((x : A) → r ≡ Ok x → FitsAnswer (next x)) → FitsAnswer (answered s work r next)
answered_fits s work (Err why) next h each = deny_fits s why work h
answered_fits s work (Ok x) next h each = each x refl

replied_fits : {A : Type 0} (s : Store) (work : Work) (r : Result A LookupError) (next : A → Reply) → FitsDone (idle s work)
    → FitsAnswer (replied s work r next)
replied_fits s work r next h = answered_fits s work r (λ x. told s work (next x)) h (λ x e. record { done = h })

-- ---- new names and versions

-- a live place in a directory, by a name that a client gives
given_fits : (f : FileId) (p : Place) → p.parent.kind ≡ Dir → IsClientName p.name → FitsPlace f p
given_fits f p parent name = record { parent = parent; name = λ fits. inr (inl name) }

first_actor : (a : Actor) → length (next_vector [] a) ≤ 256
first_actor a = let one : length (next_vector [] a) ≡ 1 = refl in omega (arith, one)

first_few : (vs : List VersionValue) (a : Actor) → vs ≡ [] → length (next_vector vs a) ≤ 256
first_few vs a none = subst (λ (ws : List VersionValue). length (next_vector ws a) ≤ 256) (sym none) (first_actor a)

few : (n : ℕ) → nat_lt 256 n ≡ false → n ≤ 256
few n h = grind (arith, nat_tests)

-- of what fits the new vector has few actors
fit_few : (s : Store) (ranges : RangesValue) (f fit : FileId) → when_fit s ranges f ≡ Ok fit
    → length (next_vector (content_of s fit).heads (own_actor (replica_of s fit) (server_of s))) ≤ 256
fit_few s ranges f fit h =
    let many : FileId → Result FileId LookupError = λ g. unless (has_many_actors (replica_of s g) (server_of s)) ManyActors g in
    let b = behind (unless (is_too_long (replica_of s f) ranges) TooLong f) many fit h in
    let c = unless_ok (has_many_actors (replica_of s b.0) (server_of s)) ManyActors b.0 fit b.2 in
    let actors : FileId → ℕ = λ g. length (next_vector (content_of s g).heads (own_actor (replica_of s g) (server_of s))) in
    subst (λ (g : FileId). actors g ≤ 256) c.1 (few (actors b.0) c.0)

-- ---- each call

module _ (s : Store) (work : Work) (h : FitsDone (idle s work)) where
  thing_fits : (f : FileId) (policy : Policy) (text : List ℕ) (new : _) → new_name s f text ≡ Ok new → FitsDone (with_thing (with_id s) work f policy new)
  thing_fits f policy text new e =
      let k = named s f text new e in
      let a = with_id s in
      let p = place_in a work.now new in
      let one = begun a f policy in
      let numbered : FitsStore a = record {
        servers = h.store.servers;
        names = h.store.names;
        replicas = h.store.replicas;
        announced = h.store.announced;
        intents = h.store.intents;
        wishes = h.store.wishes;
      } in
      let store : FitsStore one = begun_fits (with_birth a) f (draw_birth a) policy (blank_own f) true (blank_own_fits f) (born a numbered) in
      let two = make_place f p (idle one work) in
      let placed : FitsDone two = made_place f p (idle one work) (given_fits f p k.parent k.given) (record { store = store; work = h.work }) in
      flag_raised two.store f two.work (record { store = placed.store; work = placed.work })

  mkdir_fits : (text : List ℕ) → FitsAnswer (mkdir s text work)
  mkdir_fits text =
      let f = next_id s Dir in
      answered_fits s work (new_name s f text) (λ new. answer (with_thing (with_id s) work f Last new) (reply.Made f)) h
      (λ new e. then_told (with_thing (with_id s) work f Last new) (reply.Made f) (thing_fits f Last text new e))

  create_fits : (text : List ℕ) (policy : Policy) → FitsAnswer (create s text policy work)
  create_fits text policy =
      let f = next_id s File in
      answered_fits s work (new_name s f text)
      (λ new. answer (with_first_version f (with_thing (with_id s) work f policy new)) (reply.Made f)) h
      (λ new e.
      let done = with_thing (with_id s) work f policy new in
      let a = thing_fits f policy text new e in
      let stamp = drawn done.store done.work.now in
      let heads = (content_of done.store f).heads in
      let actor = own_actor (replica_of done.store f) stamp.server in
      then_told (make_version f stamp first_ranges done) (reply.Made f)
      (made_version f stamp first_ranges done a.store.names.server (first_few heads actor (thing_new (with_id s) work f policy new).1) a))

  changed_fits : (ranges : RangesValue) (f : FileId) → FitsAnswer (change_file s ranges work f)
  changed_fits ranges f =
      let stamp = drawn s work.now in
      answered_fits s work (when_fit s ranges f) (λ fit. answer (make_version fit stamp ranges (idle s work)) (reply.Wrote stamp)) h
      (λ fit e.
      then_told (make_version fit stamp ranges (idle s work)) (reply.Wrote stamp)
      (made_version fit stamp ranges (idle s work) h.store.names.server (fit_few s ranges f fit e) h))

  change_fits : (text : List ℕ) (ranges : RangesValue) → FitsAnswer (change s text ranges work)
  change_fits text ranges = answered_fits s work (file_at s text) (change_file s ranges work) h (λ f e. changed_fits ranges f)

  rename_fits : (from to : List ℕ) → FitsAnswer (rename s from to work)
  rename_fits from to =
      answered_fits s work (move_of s from to) (λ move. answer (moved s work move) reply.Done) h
      (λ move e.
      let k = moved_name s from to move e in
      let p = place_in s work.now move.to in
      then_told (make_place move.thing p (idle s work)) reply.Done (made_place move.thing p (idle s work) (given_fits move.thing p k.parent k.given) h))

  -- whatever is taken away keeps its parent and its name
  away_fits : (f : FileId) → FitsDone (taken_away s work f)
  away_fits f =
      let old = (blank_fits s.names h.store.names f).place in
      made_place f (dead_place s work.now f) (idle s work) (record { parent = old.parent; name = old.name }) h

  gone_fits : (r : Result FileId LookupError) (reply : Reply) → FitsAnswer (answered s work r (λ f. answer (taken_away s work f) reply))
  gone_fits r reply = answered_fits s work r (λ f. answer (taken_away s work f) reply) h (λ f e. then_told (taken_away s work f) reply (away_fits f))

  -- a flag is lowered, or not
  lowered_fits : (f : FileId) → FitsDone (lowered s f work)
  lowered_fits f = chosen FitsDone (is_gold s f) (lower_flag s f work) (idle s work) (flag_lowered s f work h) h

  demoted_fits : (target : Target) → FitsAnswer (demote s target work)
  demoted_fits target =
      answered_fits s work (demoted_at s target) (λ f. answer (lowered s f work) reply.Done) h
      (λ f e. then_told (lowered s f work) reply.Done (lowered_fits f))

  -- a gold replica is asked for leave, or none
  leaving_fits : (f : FileId) (o : Option Flag) → MayBeFlag o → FitsAnswer (leaving s f work o)
  leaving_fits f None k = record { done = h }
  leaving_fits f (Some flag) k =
      then_told (begin_intent s (leave_of f flag) work) (reply.Leaving flag.server)
      (intent_fits s (leave_of f flag) work (record { about = tt; target = k.most }) h)

  dropped_fits : (target : Target) → FitsAnswer (drop s target work)
  dropped_fits target =
      answered_fits s work (dropped_at s target) (λ f. leaving s f work (clean_gold s f)) h
      (λ f e. leaving_fits f (clean_gold s f) (first_flag (is_clean_gold s f) (flags_of s f) (blank_fits s.names h.store.names f).flags.each))

pub call_fits : (s : Store) (work : Work) → FitsDone (idle s work) → (c : Call) → FitsAnswer (do_call s c work)
call_fits s work h (call.Mkdir path) = mkdir_fits s work h path
call_fits s work h (call.Create path policy) = create_fits s work h path policy
call_fits s work h (call.Write path offset bytes) = change_fits s work h path (written offset bytes)
call_fits s work h (call.Cut path length) = change_fits s work h path (cut_to length)
call_fits s work h (call.Read path offset count) =
    replied_fits s work (file_at s path) (λ f. reply.Bytes (shown_part s f offset count)) h
call_fits s work h (call.Fresh path) = replied_fits s work (file_at s path) (λ f. freshness (first_of s.announced f)) h
call_fits s work h (call.Ls path from) = replied_fits s work (dir_at s path) (λ dir. page (listing dir (known s.names dir)) from) h
call_fits s work h (call.Stat target) = replied_fits s work (target_at s target) (λ f. reply.Stat (stat_of s f)) h
call_fits s work h (call.Rename from to) = rename_fits s work h from to
call_fits s work h (call.Unlink path) = gone_fits s work h (file_at s path) reply.Done
call_fits s work h (call.Rmdir path) = gone_fits s work h (empty_dir_at s path) reply.Done
call_fits s work h (call.Forget id) =
    answered_fits s work (lost_at s id) (λ found. answer (forget_lost s found work) reply.Done) h
    (λ found e. then_told (forget_lost s found work) reply.Done (forgotten s work h found))
call_fits s work h (call.Demote target) = demoted_fits s work h target
call_fits s work h (call.Drop target) = dropped_fits s work h target
call_fits s work h (call.Giveup view server) =
    answered_fits s work (removal_at s view server) (λ found. answer (enter_view s server work) reply.Done) h
    (λ found e. then_told (enter_view s server work) reply.Done (given_up s server work h))
call_fits s work h call.Status = replied_fits s work (in_time s (tt {0})) (λ found. reply.Status (counts s)) h
call_fits s work h call.Stop = replied_fits s work (in_time s (tt {0})) (λ found. reply.Done) h
