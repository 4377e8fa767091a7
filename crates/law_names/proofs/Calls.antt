-- What calls make, and what begins, is what the server knows more then.
use Rattle.std.proofs.Common.{ℕ, ◌≡◌, ◌==◌, Bool, true, false, cond, List, [], ◌∷◌, ◌++◌, map, Option, None, Some, Result, Ok, Err, refl, sym, subst, ◌∙◌, inl}
use Rattle.std.specs.List.{flat_map}
use Rattle.pg_run.specs.pg_base.declared.id.FileId.{FileId}
use Rattle.pg_run.specs.pg_base.declared.id.Kind.{Kind}
use Rattle.pg_run.specs.pg_base.declared.id.Kind.TheVariants.{Dir, File}
use Rattle.pg_run.specs.pg_base.declared.policy.Policy.{Policy}
use Rattle.pg_run.specs.pg_base.declared.policy.Policy.TheVariants.{Last}
use Rattle.pg_run.specs.pg_base.declared.stamp.Stamp.{Stamp}
use Rattle.pg_run.specs.pg_base.Id.{is_same_file}
use Rattle.pg_run.specs.pg_register.declared.flag.Flag.{Flag}
use Rattle.pg_run.specs.pg_register.declared.place.Place.{Place}
use Rattle.pg_run.specs.pg_register.Flag.{is_raised}
use Rattle.pg_run.specs.pg_register.Place.{root}
use Rattle.pg_run.proofs.pg_register.ByServer.{IsByServer-nil}
use Rattle.pg_run.specs.pg_patch.Ranges as ranges
use Rattle.pg_run.specs.pg_patch.Ranges.{RangesValue}
use Rattle.pg_run.specs.pg_intent.declared.intent.Intent.{Intent}
use Rattle.pg_run.specs.pg_intent.declared.intent.Intent.TheVariants as intent
use Rattle.pg_run.specs.pg_intent.declared.key.IntentKey.TheVariants as intent_key
use Rattle.pg_run.specs.pg_msg.declared.message.Message.TheVariants as message
use Rattle.pg_run.specs.pg_msg.declared.update.Update.{Update}
use Rattle.pg_run.specs.pg_msg.declared.work.Work.{Work}
use Rattle.pg_run.specs.pg_msg.Work.{new_work}
use Rattle.pg_run.specs.pg_call.declared.call.Call.TheVariants as call
use Rattle.pg_run.specs.pg_call.declared.call.Target.{Target}
use Rattle.pg_run.specs.pg_call.declared.refusal.Refusal.TheVariants.{Loop, NotEmpty, Root}
use Rattle.pg_run.specs.pg_names.declared.attributes.Attributes.{Attributes}
use Rattle.pg_run.specs.pg_names.Names.{NamesValue, blank_own, is_dir, known, or_blank, own_at}
use Rattle.pg_run.specs.pg_house.Facts.{IsHeld}
use Rattle.pg_run.specs.pg_house.Returning.{is_root}
use Rattle.pg_run.proofs.theory_flood_pieces.Choices.{chosen, decided}
use Rattle.pg_run.specs.pg_lookup.declared.paths.Found.{Found}
use Rattle.pg_run.specs.pg_lookup.declared.paths.LookupError.{LookupError}
use Rattle.pg_run.specs.pg_lookup.declared.paths.LookupError.TheVariants as stop
use Rattle.pg_run.specs.pg_lookup.Chain.{is_above}
use Rattle.pg_run.specs.pg_lookup.Walk.{and_then, reach, reach_parent}
use Rattle.pg_run.specs.pg_store.declared.store.Store.{Store}
use Rattle.pg_run.specs.pg_store.declared.wishes.Wish.{Wish}
use Rattle.pg_run.specs.pg_store.Beginning.{patches_of}
use Rattle.pg_run.specs.pg_store.Births.{birth_of, draw_birth, with_birth, with_wish}
use Rattle.pg_run.specs.pg_store.Seen.{server_of}
use Rattle.pg_run.specs.pg_store.Store.{is_held}
use Rattle.pg_run.specs.pg_pieces.Done.{Done, idle}
use Rattle.pg_run.specs.pg_pieces.Golds.{is_gold}
use Rattle.pg_run.specs.pg_pieces.Making.{lower_flag, own_next}
use Rattle.pg_run.specs.pg_pieces.Posting.{post}
use Rattle.pg_run.specs.pg_checks.declared.checks.Move.{Move}
use Rattle.pg_run.specs.pg_checks.declared.checks.NewName.{NewName}
use Rattle.pg_run.specs.pg_checks.Answer.{Answer, answered, deny, unless}
use Rattle.pg_run.specs.pg_checks.Asking.{ask_by, ask_first, fetch, fresh_wish, holder, standing}
use Rattle.pg_run.specs.pg_calls.Bodies.{change, change_file, when_fit}
use Rattle.pg_run.specs.pg_calls.Calls.{do_call}
use Rattle.pg_run.specs.pg_checks.Checks.{dir_at, empty_dir_at, file_at, first_child, in_time, move_along, move_of, move_to, new_name, new_name_in, target_at, unless_child}
use Rattle.pg_run.specs.pg_calls.Demoting.{demoted_at, lowered}
use Rattle.pg_run.specs.pg_calls.Dropping.{clean_gold, dropped_at, leave_of, leaving}
use Rattle.pg_run.specs.pg_calls.Looks.{freshness}
use Rattle.pg_run.specs.pg_calls.Making.{drawn, first_ranges, make_place}
use Rattle.pg_run.specs.pg_calls.Naming.{begun, dead_place, next_id, place_in, with_id, with_thing}
use Rattle.pg_run.specs.pg_checks.Paths.{paths_of}
use Rattle.pg_run.proofs.pg_calls.Checked.{behind, no_ok, same_ok, unless_ok}
use Rattle.pg_run.proofs.pg_calls.Walked.{file_found, full_own, reach_ok, thing_found}
use Rattle.pg_run.specs.pg_announced.Announced.{first_of}
use Rattle.pg_run.specs.Carried.{begun_by, patch_taken}
use Rattle.pg_run.specs.Took.{Take, entry_takes, take_of}
use Rattle.pg_run.specs.Took.Take.{Began}
use Rattle.pg_run.proofs.Lists.{among_back}
use Rattle.law_names.specs.Goes.{Goes}
use Rattle.law_names.specs.Merged.{IsNewId}
use Rattle.pg_run.specs.Known.{Told}
use Rattle.law_names.proofs.Held.{away_inner, none_of}
use Rattle.law_names.proofs.Making.{DoneIs, flag_made, place_made, version_made}
use Rattle.law_names.proofs.Messages.{IsReady}
use Rattle.law_names.proofs.Notes.{intent_still}
use Rattle.law_names.proofs.Patched.{goes_with_patches}
use Rattle.law_passing.proofs.Takes.{began_held}

-- ---- no Patch, no entry

pub none_taken : (f : FileId) (is : List Intent) → patches_of f is ≡ [] → flat_map (patch_taken f) is ≡ []
none_taken f [] h = refl
none_taken f (intent.Bye file birth peer peer_birth ∷ is) h = none_taken f is h
none_taken f (intent.Seek file target ∷ is) h = none_taken f is h
none_taken f (intent.Fill file birth target ∷ is) h = none_taken f is h
none_taken f (intent.Confirm dir child target ∷ is) h = none_taken f is h
none_taken f (intent.Leave file peer peer_birth ∷ is) h = none_taken f is h
none_taken f (intent.Patch to e target ∷ is) h = by (is_same_file to f) h (none_taken f is)
  where
    by : (t : Bool) → cond t (intent_key.Patch f e.child ∷ []) [] ++ patches_of f is ≡ [] → (patches_of f is ≡ [] → flat_map (patch_taken f) is ≡ [])
        → cond t (entry_takes f e) [] ++ flat_map (patch_taken f) is ≡ []
    by true g rest = cc
    by false g rest = rest g

-- ---- what a check found is held

same_thing : (a : Store) (f : FileId) (new : NewName) (m : Move) (loops : Bool) → unless loops Loop (record { thing = f; to = new }) ≡ Ok m → IsHeld a.names f → IsHeld a.names m.thing
same_thing a f new m loops h held =
    let P : Move → Type 0 = λ x. IsHeld a.names x.thing in
    subst P (unless_ok loops Loop (record { thing = f; to = new }) m h).1 held

moved_held : (a : Store) (from to : List ℕ) (m : Move) → move_of a from to ≡ Ok m → IsHeld a.names m.thing
moved_held a from to m h =
    let paths = behind (and_then (paths_of from to) (in_time a)) (move_along a) m h in
    let thing = behind (reach a.names false paths.0.from) (λ f. and_then (reach_parent a.names paths.0.to) (move_to a.names f paths.0.to)) m paths.2 in
    let dir = behind (reach_parent a.names paths.0.to) (move_to a.names thing.0 paths.0.to) m thing.2 in
    let parent = behind (unless (is_root thing.0) Root dir.0) (λ d. and_then (new_name_in a.names thing.0 paths.0.to d) (λ new.
    unless (cond (is_dir thing.0) (is_above a.names thing.0 new.dir) false) Loop (record { thing = thing.0; to = new }))) m dir.2 in
    let new = behind (new_name_in a.names thing.0 paths.0.to parent.0) (λ n.
    unless (cond (is_dir thing.0) (is_above a.names thing.0 n.dir) false) Loop (record { thing = thing.0; to = n })) m parent.2 in
    same_thing a thing.0 new.0 m (cond (is_dir thing.0) (is_above a.names thing.0 new.0.dir) false) new.2
    (full_own a.names thing.0 (reach_ok a.names false paths.0.from thing.0 thing.1).0)

child_same : (dir : FileId) (o : Option FileId) (d : FileId) → unless_child dir o ≡ Ok d → dir ≡ d
child_same dir None d h = same_ok dir d h
child_same dir (Some c) d h = absurd (no_ok (stop.Refused (NotEmpty c)) d h)

emptied_held : (a : Store) (text : List ℕ) (d : FileId) → empty_dir_at a text ≡ Ok d → IsHeld a.names d
emptied_held a text d h =
    let b = behind (and_then (dir_at a text) (λ f. unless (is_root f) Root f)) (λ f. unless_child f (first_child f (known a.names f))) d h in
    let c = behind (dir_at a text) (λ f. unless (is_root f) Root f) b.0 b.1 in
    let same = (unless_ok (is_root c.0) Root c.0 b.0 c.2).1 ∙ child_same b.0 (first_child b.0 (known a.names b.0)) d b.2 in
    let P : FileId → Type 0 = IsHeld a.names in
    subst P same (full_own a.names c.0 (thing_found a true text c.0 c.1))

gold_held : (s : NamesValue) (f : FileId) (server birth : ℕ) (o : Option Attributes) → own_at s f ≡ o → is_raised (or_blank f o).flags server birth ≡ true → IsHeld s f
gold_held s f server birth None none h = absurd (let z : false ≡ true = h in cc)
gold_held s f server birth (Some own) held h = (own, held)

module _ (removed : List ℕ) (p : Told) (a : Store) (now : List Take) (k : Goes removed a.names now) (ready : IsReady p a) (ids : (kind : Kind) → IsNewId a (next_id a kind)) (moment : ℕ) where
  abbrev Is : NamesValue → List Take → Type 0
  Is = Goes removed

  abbrev W : Work
  W = new_work moment 0

  abbrev pub AnswerIs : Answer → Type 0
  AnswerIs x = Is x.store.names (map take_of x.work.made ++ (begun_by (Some x.reply) ++ now))

  -- ---- a call that does not go on

  sent_made : (f : FileId) (wish : Wish) → (fetch a f wish W).made ≡ []
  sent_made f wish = chosen (λ (w : Work). w.made ≡ []) (wish.target == 0) W (post a wish.target (message.Fetch f wish.birth) W) refl refl

  abbrev IsIdle : Done → Type 0
  IsIdle d = (d.store.names ≡ a.names) × (d.work.made ≡ [])

  asked_first : (f : FileId) (target : ℕ) → IsIdle (ask_first a f target W)
  asked_first f target =
      chosen IsIdle (target == 0) (idle a W) (idle (with_wish (with_birth a) f (fresh_wish a target)) (fetch a f (fresh_wish a target) W)) (refl, refl)
      (refl, sent_made f (fresh_wish a target))

  asked_by : (found : Found) (o : Option Wish) → IsIdle (ask_by a found o W)
  asked_by found None = asked_first found.file (holder a found)
  asked_by found (Some wish) = (refl, sent_made found.file wish)

  from_idle : (d : Done) → IsIdle d → Is d.store.names (map take_of d.work.made ++ now)
  from_idle d i =
      let P : List Update → Type 0 = λ us. Is d.store.names (map take_of us ++ now) in
      subst P (sym i.1) (subst (λ (s : NamesValue). Is s now) (sym i.0) k)

  pub denied : (why : LookupError) → AnswerIs (deny a why W)
  denied (stop.Refused why) = k
  denied (stop.NotYet found) = from_idle (ask_by a found (standing a found.file) W) (asked_by found (standing a found.file))

  goes_by : {A : Type 0} (check : Result A LookupError) (next : A → Answer) → ((x : A) → check ≡ Ok x → AnswerIs (next x)) → AnswerIs (answered a W check next)
  goes_by (Err why) next h = denied why
  goes_by (Ok x) next h = h x refl

  -- ---- a thing is made

  module _ (kind : Kind) (policy : Policy) (new : NewName) where
    abbrev Id : FileId
    Id = next_id a kind

    abbrev First : Store
    First = with_birth (with_id a)

    abbrev Base : List Take
    Base = Began Id ∷ now

    abbrev Begun : Store
    Begun = begun (with_id a) Id policy

    away : is_held a Id ≡ false
    away = (ids kind).away

    began : Is Begun.names Base
    began =
        let all = goes_with_patches removed First now k Id (none_of (known a.names Id) away) (away_inner a Id ready.intends.held.root away (is_same_file Id root) refl)
        (draw_birth (with_id a)) policy (blank_own Id) true IsByServer-nil (λ h. refl) ready.intends.keys (λ e target h. ready.patches Id e target h) in
        let P : List Take → Type 0 = λ xs. Is Begun.names ((Began Id ∷ xs) ++ now) in
        subst P (none_taken Id a.intents (ids kind).untold) all

    began_there : (s : NamesValue) (more : List Take) → Is s (more ++ Base) → IsHeld s Id
    began_there s more h = h.tells.held Id (began_held (more ++ Base) Id (among_back (Began Id) more Base (inl refl)))

    abbrev Placed : Done
    Placed = make_place Id (place_in (with_id a) W.now new) (idle Begun W)

    placed : DoneIs removed Base Placed
    placed = place_made removed Base (idle Begun W) began Id (began_there Begun.names [] began) (place_in (with_id a) W.now new)

    thing : DoneIs removed Base (with_thing (with_id a) W Id policy new)
    thing = flag_made removed Base Placed placed Id (began_there Placed.store.names (map take_of Placed.work.made) placed) (own_next Placed.store Id true)

  pub mkdir_is : (path : List ℕ) → AnswerIs (do_call a (call.Mkdir path) W)
  mkdir_is path = goes_by (new_name a (next_id a Dir) path) _ (λ new h. thing Dir Last new)

  pub create_is : (path : List ℕ) (policy : Policy) → AnswerIs (do_call a (call.Create path policy) W)
  create_is path policy =
      goes_by (new_name a (next_id a File) path) _ (λ new h.
      let d = with_thing (with_id a) W (next_id a File) policy new in
      version_made removed (Began (next_id a File) ∷ now) d (thing File policy new) (next_id a File) (drawn d.store d.work.now) first_ranges)

  -- ---- all calls

  change_is : (path : List ℕ) (r : RangesValue) → AnswerIs (change a path r W)
  change_is path r =
      goes_by (file_at a path) (change_file a r W) (λ file h.
      goes_by (when_fit a r file) _ (λ fit g. version_made removed now (idle a W) k fit (drawn a moment) r))

  place_is : (f : FileId) → IsHeld a.names f → (q : Place) → DoneIs removed now (make_place f q (idle a W))
  place_is f held q = place_made removed now (idle a W) k f held q

  -- what is gold is held
  demoted : (f : FileId) → DoneIs removed now (lowered a f W)
  demoted f =
      decided (DoneIs removed now) (is_gold a f) (lower_flag a f W) (idle a W)
      (λ gold. flag_made removed now (idle a W) k f (gold_held a.names f (server_of a) (birth_of a f) (own_at a.names f) refl gold) (own_next a f false)) (λ none. k)

  leaving_goes : (f : FileId) (o : Option Flag) → AnswerIs (leaving a f W o)
  leaving_goes f None = k
  leaving_goes f (Some flag) =
      let P : List Update → Type 0 = λ us. Is a.names (map take_of us ++ now) in
      subst P (sym (intent_still a (leave_of f flag) W).1) k

  -- ---- each of them

  pub write_is : (path : List ℕ) (offset : ℕ) (bytes : List ℕ) → AnswerIs (do_call a (call.Write path offset bytes) W)
  write_is path offset bytes = change_is path (ranges.written offset bytes)

  pub cut_is : (path : List ℕ) (length : ℕ) → AnswerIs (do_call a (call.Cut path length) W)
  cut_is path length = change_is path (ranges.cut_to length)

  pub read_is : (path : List ℕ) (offset count : ℕ) → AnswerIs (do_call a (call.Read path offset count) W)
  read_is path offset count = goes_by (file_at a path) _ (λ f h. k)

  pub fresh_is : (path : List ℕ) → AnswerIs (do_call a (call.Fresh path) W)
  fresh_is path = goes_by (file_at a path) _ (λ f h. of_freshness (first_of a.announced f))
    where
      of_freshness : (o : Option Stamp) → Is a.names (begun_by (Some (freshness o)) ++ now)
      of_freshness None = k
      of_freshness (Some stamp) = k

  pub ls_is : (path : List ℕ) (from : ℕ) → AnswerIs (do_call a (call.Ls path from) W)
  ls_is path from = goes_by (dir_at a path) _ (λ f h. k)

  pub stat_is : (t : Target) → AnswerIs (do_call a (call.Stat t) W)
  stat_is t = goes_by (target_at a t) _ (λ f h. k)

  pub rename_is : (from to : List ℕ) → AnswerIs (do_call a (call.Rename from to) W)
  rename_is from to =
      goes_by (move_of a from to) _ (λ m h. place_is m.thing (moved_held a from to m h) (place_in a moment m.to))

  pub unlink_is : (path : List ℕ) → AnswerIs (do_call a (call.Unlink path) W)
  unlink_is path =
      goes_by (file_at a path) _ (λ f h. place_is f (full_own a.names f (file_found a path f h).0) (dead_place a moment f))

  pub rmdir_is : (path : List ℕ) → AnswerIs (do_call a (call.Rmdir path) W)
  rmdir_is path =
      goes_by (empty_dir_at a path) _ (λ d h. place_is d (emptied_held a path d h) (dead_place a moment d))

  pub demote_is : (t : Target) → AnswerIs (do_call a (call.Demote t) W)
  demote_is t = goes_by (demoted_at a t) _ (λ f h. demoted f)

  pub drop_is : (t : Target) → AnswerIs (do_call a (call.Drop t) W)
  drop_is t = goes_by (dropped_at a t) _ (λ f h. leaving_goes f (clean_gold a f))

  pub status_is : AnswerIs (do_call a call.Status W)
  status_is = goes_by (in_time a (tt {0})) _ (λ f h. k)

  pub stop_is : AnswerIs (do_call a call.Stop W)
  stop_is = goes_by (in_time a (tt {0})) _ (λ f h. k)
