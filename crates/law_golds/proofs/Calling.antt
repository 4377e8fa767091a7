-- What a call leaves: it raises the flag of a new thing, lowers one, or makes none.
use Rattle.std.proofs.Common.{ℕ, ◌≡◌, ◌==◌, true, false, List, [], ◌∷◌, ◌++◌, Option, None, Some, Result, refl, sym, ap, ◌∙◌, inl, inr}
use Rattle.std.proofs.lemmas.List.Elements.{All-nil, All-push}
use Rattle.law_frame.specs.pg_run.pg_base.declared.id.FileId.{FileId}
use Rattle.law_frame.specs.pg_run.pg_base.declared.id.Kind.{Kind}
use Rattle.law_frame.specs.pg_run.pg_base.declared.id.Kind.TheVariants.{Dir, File}
use Rattle.law_frame.specs.pg_run.pg_base.declared.policy.Policy.{Policy}
use Rattle.law_frame.specs.pg_run.pg_base.declared.policy.Policy.TheVariants.{Last}
use Rattle.law_frame.specs.pg_run.pg_base.declared.stamp.Stamp.{Stamp}
use Rattle.law_frame.specs.pg_run.pg_patch.Ranges.{RangesValue, cut_to, written}
use Rattle.law_frame.specs.pg_run.pg_call.declared.call.Call.{Call}
use Rattle.law_frame.specs.pg_run.pg_call.declared.call.Call.TheVariants as call
use Rattle.law_frame.specs.pg_run.pg_call.declared.reply.Reply.{Reply}
use Rattle.law_frame.specs.pg_run.pg_msg.declared.message.Message.TheVariants as message
use Rattle.law_frame.specs.pg_run.pg_msg.declared.update.MadeVersion.{MadeVersion}
use Rattle.law_frame.specs.pg_run.pg_msg.declared.update.Update.{Update}
use Rattle.law_frame.specs.pg_run.pg_msg.declared.update.Update.TheVariants as update
use Rattle.law_frame.specs.pg_run.pg_msg.declared.work.Work.{Work}
use Rattle.law_frame.specs.pg_run.pg_msg.Work.{with_made}
use Rattle.law_frame.proofs.pg_run.pg_names.Holding.{begun_same}
use Rattle.law_frame.specs.pg_run.pg_names.Names.{blank_own, is_full_of}
use Rattle.law_frame.specs.pg_run.pg_register.declared.flag.Flag.{Flag}
use Rattle.law_frame.specs.pg_run.pg_register.declared.place.Place.{Place}
use Rattle.law_frame.specs.pg_run.pg_register.Flag.{flag_of, is_raised_with}
use Rattle.law_frame.specs.pg_run.pg_store.declared.store.Store.{Store}
use Rattle.law_frame.specs.pg_run.pg_store.declared.wishes.Wish.{Wish}
use Rattle.law_frame.specs.pg_run.pg_store.Beginning.{patches_of, put_new}
use Rattle.law_frame.specs.pg_run.pg_store.Births.{birth_of, draw_birth, with_birth, with_wish}
use Rattle.law_frame.specs.pg_run.pg_store.Seen.{server_of}
use Rattle.law_frame.specs.pg_run.pg_store.Store.{is_full, is_held, write}
use Rattle.law_frame.specs.pg_run.pg_store.Together.{AreTogether}
use Rattle.law_frame.specs.pg_run.pg_pieces.Done.{Done, idle}
use Rattle.law_frame.specs.pg_run.pg_pieces.Intending.{begin_intent}
use Rattle.law_frame.specs.pg_run.pg_pieces.Making.{lower_flag}
use Rattle.law_frame.proofs.pg_run.pg_store.Pairs.{patches_as_before}
use Rattle.law_frame.specs.pg_run.pg_pieces.Posting.{post, sent_to}
use Rattle.law_frame.specs.pg_run.pg_server.Local.{done_of}
use Rattle.law_frame.specs.pg_run.pg_lookup.declared.paths.Found.{Found}
use Rattle.law_frame.specs.pg_run.pg_lookup.declared.paths.LookupError.{LookupError}
use Rattle.law_frame.specs.pg_run.pg_lookup.declared.paths.LookupError.TheVariants as stop
use Rattle.law_frame.specs.pg_run.pg_checks.declared.checks.NewName.{NewName}
use Rattle.law_frame.specs.pg_run.pg_checks.Answer.{Answer, deny, replied, told}
use Rattle.law_frame.specs.pg_run.pg_checks.Asking.{ask_by, ask_first, fetch, fresh_wish, holder, standing}
use Rattle.law_frame.specs.pg_run.pg_calls.Bodies.{change, change_file, when_fit}
use Rattle.law_frame.specs.pg_run.pg_calls.Calls.{do_call}
use Rattle.law_frame.specs.pg_run.pg_checks.Checks.{dir_at, empty_dir_at, file_at, in_time, move_of, new_name, target_at}
use Rattle.law_frame.specs.pg_run.pg_pieces.Golds.{is_gold}
use Rattle.law_frame.specs.pg_run.pg_calls.Demoting.{demoted_at, lowered}
use Rattle.law_frame.specs.pg_run.pg_calls.Dropping.{clean_gold, dropped_at, leave_of, leaving}
use Rattle.law_frame.specs.pg_run.pg_calls.Forgetting.{lost_at}
use Rattle.law_frame.specs.pg_run.pg_calls.GivingUp.{enter_view, removal_at}
use Rattle.law_frame.specs.pg_run.pg_calls.Making.{drawn, first_ranges, make_place, make_version, version_of}
use Rattle.law_frame.specs.pg_run.pg_calls.Naming.{begun, dead_place, next_id, place_in, with_id, with_thing}
use Rattle.law_frame.proofs.pg_run.theory_flood_pieces.Choices.{chosen, decided}
use Rattle.law_births.specs.Flags.{AnyBye}
use Rattle.law_births.proofs.Pieces.{place_stays, write_stays}
use Rattle.law_births.proofs.Begins.{begin_back}
use Rattle.law_births.proofs.Has.{from_has, to_has}
use Rattle.law_births.proofs.Here.{birth_of_held, born_here}
use Rattle.law_births.proofs.StoreSays.{say_begin, say_write}
use Rattle.law_contents.proofs.Outcomes.{answered_by}
use Rattle.law_contents.proofs.Pieces.{patches_keep, place_keeps}
use Rattle.law_golds.proofs.Filling.{MayGo, own_of_full, own_of_known, still}
use Rattle.law_golds.proofs.Fine.{IsFine, Knows, NoFlags, fine_flag, fine_silent, no_flags, no_more}
use Rattle.law_golds.proofs.Kept.{GoesOn, begin_flags, begun_births, flags_at, flags_on, goes_further, held_of, place_flags, same_goes_on}
use Rattle.law_golds.proofs.Losing.{entered_says, lost_fine, more_given, one_above, place_no_flag}
use Rattle.law_golds.proofs.Received.{said_begun_intent}
use Rattle.law_golds.proofs.Says.{Says, SaysSent, said_on, said_place}
use Rattle.law_frame.proofs.pg_run.Still.{still as nothing_more}

-- a version is no flag
version_no_flag : (v : MadeVersion) → NoFlags (update.Version v ∷ [])
version_no_flag v f g (inl same) = absurd (let z : update.Flag f g ≡ update.Version v = same in cc)
version_no_flag v f g (inr rest) = absurd rest

-- server s is called, where Q was known before
module _ (Q : FileId → Flag → Type 0) (s : ℕ) (a : Store) (together : AreTogether a)
    (away : (kind : Kind) → is_held a (next_id a kind) ≡ false) (w : Work)
    (k : IsFine Q s (idle a w)) (none : NoFlags w.made) (says : Says Q s [] (idle a w)) where
  abbrev Fine : Answer → Type 0
  Fine r = MayGo Q s a together (done_of r)

  stays : (d : Done) → Says Q s [] d → MayGo Q s a together d
  stays d h = still Q s a together w k none [] no_flags d h

  told_fine : (r : Reply) → Fine (told a w r)
  told_fine r = stays (idle a w) says

  -- ---- what is not here is asked for

  fetch_says : (b : Store) (file : FileId) (wish : Wish) → Says Q s [] (idle b w)
      → Says Q s [] (idle b (fetch a file wish w))
  fetch_says b file wish h =
      chosen (λ (v : Work). Says Q s [] (idle b v)) (wish.target == 0) w
      (post a wish.target (message.Fetch file wish.birth) w) h
      (record {
        store = h.store;
        sent = All-push (SaysSent Q) w.sent (sent_to a wish.target (message.Fetch file wish.birth))
            h.sent tt;
        tail = h.tail;
        made = h.made;
      })

  first_says : (file : FileId) (target : ℕ) → Says Q s [] (ask_first a file target w)
  first_says file target =
      let wish = fresh_wish a target in
      let b = with_wish (with_birth a) file wish in
      chosen (Says Q s []) (target == 0) (idle a w) (idle b (fetch a file wish w)) says
      (fetch_says b file wish
      (record {
        store = record { names = says.store.names; intents = says.store.intents };
        sent = says.sent;
        tail = says.tail;
        made = says.made;
      }))

  asked_says : (found : Found) (o : Option Wish) → Says Q s [] (ask_by a found o w)
  asked_says found None = first_says found.file (holder a found)
  asked_says found (Some wish) = fetch_says a found.file wish says

  denied_fine : (why : LookupError) → Fine (deny a why w)
  denied_fine (stop.Refused why) = stays (idle a w) says
  denied_fine (stop.NotYet found) =
      stays (ask_by a found (standing a found.file) w) (asked_says found (standing a found.file))

  looked : {A : Type 0} (check : Result A LookupError) (tell : A → Reply) → Fine (replied a w check tell)
  looked check tell =
      answered_by Fine a w check (λ found. told a w (tell found)) denied_fine
      (λ found is. told_fine (tell found))

  -- ---- a place is made

  placed_says : (b : Store) (f : FileId) (place : Place) → Says Q s [] (idle b w)
      → Says Q s (update.Place f place ∷ []) (make_place f place (idle b w))
  placed_says b f place h =
      said_place Q s (update.Place f place ∷ []) b f place (with_made w (update.Place f place))
      (record {
        store = h.store;
        sent = h.sent;
        tail = h.tail;
        made = ap (λ (us : List Update). us ++ update.Place f place ∷ []) h.made;
      })

  placed_fine : (f : FileId) (place : Place) → MayGo Q s a together (make_place f place (idle a w))
  placed_fine f place =
      still Q s a together w k none (update.Place f place ∷ []) (place_no_flag f place) (make_place f place (idle a w))
      (placed_says a f place says)

  -- ---- a version is made, behind what is fine

  version_fine : (d : Done) (f : FileId) (stamp : Stamp) (ranges : RangesValue) → IsFine Q s d
      → IsFine Q s (make_version f stamp ranges d)
  version_fine d f stamp ranges h =
      let u = update.Version (version_of d.store f stamp ranges) in
      let b = write d.store f stamp ranges in
      fine_silent Q s d (make_version f stamp ranges d) h
      (no_more d.work.made (u ∷ []) (version_no_flag (version_of d.store f stamp ranges)))
      (write_stays d.store f stamp ranges).before.births
      (say_write (Knows Q s d.work.made) AnyBye s d.store f stamp ranges h.store) refl refl
      (same_goes_on d.store b (write_stays d.store f stamp ranges).before (λ q. refl))

  changed_fine : (text : List ℕ) (ranges : RangesValue) → Fine (change a text ranges w)
  changed_fine text ranges =
      answered_by Fine a w (file_at a text) (change_file a ranges w) denied_fine
      (λ file found. answered_by Fine a w (when_fit a ranges file) _ denied_fine
      (λ fit fits on. version_fine (idle a w) fit (drawn a w.now) ranges k))

  -- ---- a new thing

  module _ (kind : Kind) (policy : Policy) (new : NewName) where
    abbrev id : FileId
    id = next_id a kind

    abbrev first : Store
    first = with_birth (with_id a)

    abbrev Begun : Store
    Begun = begun (with_id a) id policy

    abbrev place : Place
    place = place_in (with_id a) w.now new

    abbrev Placed : Done
    Placed = make_place id place (idle Begun w)

    begun_says : Says Q s [] (idle Begun w)
    begun_says =
        said_on Q s [] (idle a w) (idle Begun w) says
        (say_begin Q AnyBye s first id (draw_birth (with_id a)) policy (blank_own id) true (All-nil (Q id))
        (record { names = says.store.names; intents = says.store.intents }))
        (nothing_more w)

    placed_goes : GoesOn a Placed.store
    placed_goes =
        goes_further {b = Begun}
        (record {
          goes = λ f n there. inl (
            begun_births first id (draw_birth (with_id a)) policy (blank_own id) true (away kind) together f n there,
            flags_on first.names Begun.names (begin_flags first id (draw_birth (with_id a)) policy (blank_own id) refl true (away kind)) f,
          );
          count = more_given a.births Begun.births
              (patches_as_before (put_new first id (draw_birth (with_id a)) policy (blank_own id) true) id (patches_of id a.intents)).given;
          newly = λ f n h. elim (begin_back first id (draw_birth (with_id a)) policy (blank_own id) true f n (to_has Begun f n h)) [
            | inl was ↦ inl (from_has a f n was)
            | inr new ↦ inr (one_above a.births n new.1)
          ];
        })
        (same_goes_on Begun Placed.store (place_stays Begun id place).before (place_flags Begun id place))

    placed : IsFine Q s Placed
    placed =
        still Q s a together w k none (update.Place id place ∷ []) (place_no_flag id place) Placed
        (placed_says Begun id place begun_says) placed_goes

    put_full : is_full (put_new first id (draw_birth (with_id a)) policy (blank_own id) true) id ≡ true
    put_full = ap is_full_of (begun_same a.names id (blank_own id) true)

    placed_full : is_full Placed.store id ≡ true
    placed_full =
        (place_keeps Begun id place).full id
        ((patches_keep id (put_new first id (draw_birth (with_id a)) policy (blank_own id) true)
        (patches_of id a.intents)).full id put_full)

    -- A NEW THING
    pub thing_fine : IsFine Q s (with_thing (with_id a) w id policy new)
    thing_fine =
        let own = own_of_full Placed.store.names id placed_full in
        fine_flag Q s Placed.store Placed.work placed id true (draw_birth (with_id a))
        ((place_stays Begun id place).before.births id
        ∙ born_here first id (draw_birth (with_id a)) policy (blank_own id) true) own.0 own.1

  -- ---- a gold replica becomes bronze

  lowered_by : (f : FileId) (o : Option Flag) → flag_of (flags_at a.names f) (server_of a) ≡ o
      → is_raised_with o (birth_of a f) ≡ true → IsFine Q s (lower_flag a f w)
  lowered_by f None there gold = absurd (let z : false ≡ true = gold in cc)
  lowered_by f (Some g) there gold =
      let found : flag_of (flags_at a.names f) s ≡ Some g =
      ap (flag_of (flags_at a.names f)) (sym k.store.names.server) ∙ there in
      let own = own_of_known a.names f s g found in
      let birth = birth_of_held a together f (held_of a f own.0 own.1) in
      fine_flag Q s a w k f false birth.0 birth.1 own.0 own.1

  lowered_fine : (f : FileId) → IsFine Q s (lowered a f w)
  lowered_fine f =
      decided (IsFine Q s) (is_gold a f) (lower_flag a f w) (idle a w)
      (lowered_by f (flag_of (flags_at a.names f) (server_of a)) refl) (λ bronze. k)

  -- ---- leave is asked for

  left_fine : (file : FileId) (o : Option Flag) → Fine (leaving a file w o)
  left_fine file None = stays (idle a w) says
  left_fine file (Some flag) =
      stays (begin_intent a (leave_of file flag) w) (said_begun_intent Q s [] (idle a w) (leave_of file flag) tt says)

  -- ANY CALL
  pub call_fine : (c : Call) → Fine (do_call a c w)
  call_fine (call.Mkdir text) =
      answered_by Fine a w (new_name a (next_id a Dir) text) _ denied_fine
      (λ new found on. thing_fine Dir Last new)
  call_fine (call.Create text policy) =
      answered_by Fine a w (new_name a (next_id a File) text) _ denied_fine
      (λ new found on.
      let d = with_thing (with_id a) w (next_id a File) policy new in
      version_fine d (next_id a File) (drawn d.store d.work.now) first_ranges
      (thing_fine File policy new))
  call_fine (call.Write text offset bytes) = changed_fine text (written offset bytes)
  call_fine (call.Cut text length) = changed_fine text (cut_to length)
  call_fine (call.Read text offset count) = looked (file_at a text) _
  call_fine (call.Fresh text) = looked (file_at a text) _
  call_fine (call.Ls text from) = looked (dir_at a text) _
  call_fine (call.Stat target) = looked (target_at a target) _
  call_fine (call.Rename from to) =
      answered_by Fine a w (move_of a from to) _ denied_fine
      (λ move found. placed_fine move.thing (place_in a w.now move.to))
  call_fine (call.Unlink text) =
      answered_by Fine a w (file_at a text) _ denied_fine
      (λ file found. placed_fine file (dead_place a w.now file))
  call_fine (call.Rmdir text) =
      answered_by Fine a w (empty_dir_at a text) _ denied_fine
      (λ dir found. placed_fine dir (dead_place a w.now dir))
  call_fine (call.Forget id) =
      answered_by Fine a w (lost_at a id) _ denied_fine (λ found at. lost_fine Q s a together w k none says found)
  call_fine (call.Demote target) =
      answered_by Fine a w (demoted_at a target) _ denied_fine
      (λ file found on. lowered_fine file)
  call_fine (call.Drop target) =
      answered_by Fine a w (dropped_at a target) _ denied_fine
      (λ file found. left_fine file (clean_gold a file))
  call_fine (call.Giveup view server) =
      answered_by Fine a w (removal_at a view server) _ denied_fine (λ found at. stays (enter_view a server w) (entered_says Q s a w says server))
  call_fine call.Status = looked (in_time a (tt {0})) _
  call_fine call.Stop = looked (in_time a (tt {0})) _
