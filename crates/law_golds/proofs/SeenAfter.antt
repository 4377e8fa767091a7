-- Behind every event nothing that a server holds whole is without a live gold.
use Rattle.std.proofs.Common.{ℕ, ◌≡◌, ◌≤◌, ◌&&◌, not, Bool, true, false, cond, zero, suc, List, [], ◌∷◌, ◌++◌, drop, length, Option, None, Some, refl, sym, ap, subst, ◌∙◌, All, arith}
use Rattle.std.proofs.lemmas.Bool.{false≢true}
use Rattle.std.proofs.lemmas.List.Elements.{All-nil}
use Rattle.law_frame.specs.pg_run.pg_base.declared.id.FileId.{FileId}
use Rattle.law_frame.specs.pg_run.pg_base.Id.{is_same_file}
use Rattle.law_frame.proofs.pg_run.pg_content.Members.{all_among, any_by}
use Rattle.law_frame.specs.pg_run.pg_event.declared.event.Event.{Event}
use Rattle.law_frame.proofs.pg_run.theory_flood.Flood.{after_itself}
use Rattle.law_frame.specs.pg_run.pg_house.Facts.{AreByServer, AreOrdered, IsLast, IsOfDirs}
use Rattle.law_frame.specs.pg_run.pg_house.House.{house}
use Rattle.law_frame.specs.pg_run.pg_house.Work.{state_of}
use Rattle.law_frame.proofs.pg_run.pg_house.Keys.{rules_by}
use Rattle.law_frame.specs.pg_run.pg_msg.Work.{new_work}
use Rattle.law_frame.specs.pg_run.pg_names.Names.{NamesValue, new_held, new_names}
use Rattle.law_frame.proofs.pg_run.pg_names.Holding.{begun_known}
use Rattle.law_frame.specs.pg_run.pg_register.declared.flag.Flag.{Flag}
use Rattle.law_frame.specs.pg_run.pg_register.Flag.{flag_of, is_live, is_removed}
use Rattle.law_frame.specs.pg_run.pg_register.Place.{root}
use Rattle.law_frame.specs.pg_run.pg_replica.Replicas.{ByFile, or_nothing, replica_in}
use Rattle.law_frame.proofs.pg_run.pg_calls.Late.{late_does_nothing}
use Rattle.law_frame.proofs.pg_run.pg_intentions.Steady.{begin_end_stays}
use Rattle.law_frame.specs.pg_run.pg_server.declared.input.Input.{Input}
use Rattle.law_frame.specs.pg_run.pg_server.declared.input.Input.TheVariants as input
use Rattle.law_frame.specs.pg_run.pg_server.Local.{effect, first_effect, intended, receive, settled, takes_effect, ticked}
use Rattle.law_frame.specs.pg_run.pg_store.declared.store.Store.{Store}
use Rattle.law_frame.specs.pg_run.pg_store.Births.{birth_of}
use Rattle.law_frame.specs.pg_run.pg_store.Seen.{removed_of, server_of}
use Rattle.law_frame.specs.pg_run.pg_store.Start.{first_flag, first_flags, root_own}
use Rattle.law_frame.specs.pg_run.pg_store.Store.{is_before_clock_end, new_store, with_names}
use Rattle.law_frame.specs.pg_run.pg_pieces.Done.{Done, idle}
use Rattle.law_frame.specs.pg_run.pg_pieces.Golds.{is_goldless_held, sees_gold}
use Rattle.law_frame.proofs.pg_run.pg_cells.Calmed.{none_goldless, settle_golds}
use Rattle.law_frame.proofs.pg_run.pg_cells.Ruled.{touched_names}
use Rattle.law_frame.specs.pg_run.theory_flood_pieces.UpTo.{IsFlagKnownBy}
use Rattle.law_frame.specs.pg_run.theory_flood_pieces.Whole.{IsWhole}
use Rattle.law_frame.proofs.pg_run.theory_flood_pieces.Choices.{chosen, decided}
use Rattle.law_frame.proofs.pg_run.theory_flood_pieces.Flags.{flag_there}
use Rattle.law_frame.specs.pg_run.Births.{BirthsAreAlone, BirthsAreKnown}
use Rattle.law_frame.specs.pg_run.Golds.{FullReplicasSeeGold}
use Rattle.law_frame.specs.pg_run.Views.{ViewsArePrefixes}
use Rattle.law_frame.specs.pg_run.Run.{Taking, World, effect_step, run, start, taking_in, world_after}
use Rattle.law_frame.proofs.pg_run.Event.{store_is}
use Rattle.law_frame.proofs.pg_run.Found.{flag_found}
use Rattle.law_frame.proofs.pg_run.Frame.{Acts, each_after, holds_in_runs, next_is, no_server_comes, run_more}
use Rattle.law_contents.proofs.law_order.FlagsSay.{all_join}
use Rattle.law_contents.proofs.law_order.Runs.{first_ordered, first_runs, sound_run}
use Rattle.law_golds.proofs.Seen.{NoneGoldless, full_see_gold, goldless_alike}

-- ---- the start

raised_first : (k : ℕ) → All (λ (f : Flag). f.raised ≡ true) (first_flags k)
raised_first zero = All-nil (λ (f : Flag). f.raised ≡ true)
raised_first (suc k) = all_join (λ (f : Flag). f.raised ≡ true) (first_flags k) (first_flag (suc k)) refl (raised_first k)

live_by : (raised : Bool) → raised ≡ true → (raised && not false) ≡ true
live_by true h = refl
live_by false h = h

sees_by : (fs : List Flag) (g : Flag) (m : ℕ) → All (λ (f : Flag). f.raised ≡ true) fs → (o : Option Flag) → flag_of fs m ≡ o → IsFlagKnownBy (Some g) o → sees_gold [] fs ≡ true
sees_by fs g m raised None is there = absurd there
sees_by fs g m raised (Some f) is there =
    let among = (flag_found fs m f is).0 in
    any_by (is_live []) fs f among (live_by f.raised (all_among (λ (x : Flag). x.raised ≡ true) fs f raised among))

first_sees : (k : ℕ) → sees_gold [] (first_flags (suc k)) ≡ true
first_sees k =
    let fs = first_flags (suc k) in
    let last = first_flag (suc k) in
    sees_by fs last (suc k) (raised_first (suc k)) (flag_of fs (suc k)) refl (flag_there (first_flags k) last)

some_sees : (n s : ℕ) → 1 ≤ s → s ≤ n → sees_gold [] (first_flags n) ≡ true
some_sees zero s least most = absurd (omega arith)
some_sees (suc k) s least most = first_sees k

not_goldless : (sees later : Bool) → sees ≡ true → (true && (not sees && not later)) ≡ false
not_goldless true later h = refl
not_goldless false later h = absurd (false≢true h)

first_by : (n s birth : ℕ) (t : Bool) → sees_gold [] (first_flags n) ≡ true
    → is_goldless_held [] s birth (cond t (Some (new_held (root_own n) true)) None) ≡ false
first_by n s birth true sees = not_goldless (sees_gold [] (first_flags n)) _ sees
first_by n s birth false sees = refl

first_none : (n s : ℕ) → 1 ≤ s → s ≤ n → NoneGoldless (new_store n s)
first_none n s least most file =
    let a = new_store n s in
    ap (is_goldless_held [] s (birth_of a file)) (begun_known (new_names s) root (root_own n) true file)
    ∙ first_by n s (birth_of a file) (is_same_file file root) (some_sees n s least most)

-- ---- an event

births_by : (a b : Store) → b.replicas ≡ a.replicas → (file : FileId) → birth_of b file ≡ birth_of a file
births_by a b same file = ap (λ (rs : ByFile). (or_nothing (replica_in rs file)).birth) same

-- what is known of removals behind the end of an event was known before the house rules
settled_removed : (d : Done) → IsOfDirs d.store.names → AreByServer d.store.names → IsLast d.store.names → AreOrdered d.store.names
    → removed_of (settled d).store ≡ removed_of d.store
settled_removed d of_dirs sorted last ordered =
    let st = state_of d.store.names d.work in
    let end = house d.work.now st in
    (settle_golds d.store d.work of_dirs sorted last ordered).removed
    ∙ ap (λ (x : NamesValue). x.removed) (touched_names (drop (length d.work.touched) end.work.touched) (with_names d.store end.names))
    ∙ (rules_by d.work.now st).1

module _ (n s : ℕ) (a : Store) (none : NoneGoldless a) (asked : Input) (whole : IsWhole n s (first_effect a asked).store)
    (ordered : AreOrdered (first_effect a asked).store.names) (own : is_removed (removed_of (effect a asked).store) s ≡ false) where
  abbrev Sees : Done → Type 0
  Sees d = NoneGoldless d.store

  abbrev First : Done
  First = first_effect a asked

  abbrev End : Done
  End = intended (settled First)

  -- the same servers are removed before the house rules
  first_removed : takes_effect a asked ≡ true → removed_of First.store ≡ removed_of (effect a asked).store
  first_removed takes =
      let end_is : (effect a asked).store ≡ End.store = store_is a asked ∙ ap (λ (t : Bool). (cond t End First).store) takes in
      let stays = begin_end_stays (settled First).store (settled First).work in
      sym (settled_removed First whole.names.dirs whole.names.sorted whole.names.last ordered)
      ∙ sym (ap (λ (x : NamesValue). x.removed) stays.names)
      ∙ sym (ap (λ (b : Store). removed_of b) end_is)

  -- and the server itself is none of them
  first_live : takes_effect a asked ≡ true → is_removed (removed_of First.store) (server_of First.store) ≡ false
  first_live takes =
      ap (λ (j : ℕ). is_removed (removed_of First.store) j) whole.server
      ∙ ap (λ (rs : List ℕ). is_removed rs s) (first_removed takes) ∙ own

  -- behind them nothing is goldless, and what is intended changes nothing of it
  going : takes_effect a asked ≡ true → Sees End
  going takes =
      let m = settled First in
      let stays = begin_end_stays m.store m.work in
      goldless_alike m.store End.store stays.names (births_by m.store End.store stays.replicas)
      (none_goldless First.store First.work whole.names.dirs whole.names.sorted whole.names.last ordered (first_live takes))

  -- without effect
  late : (x : Input) → takes_effect a x ≡ false → Sees (first_effect a x)
  late (input.Call moment x) is = subst NoneGoldless (sym (late_does_nothing a x (new_work moment 0) is).0) none
  late (input.Tick moment word) is =
      let w = new_work moment 0 in chosen Sees (is_before_clock_end a) (ticked a word w) (idle a w) none none
  late (input.Arrival packet) is =
      let w = new_work 0 packet.from in
      subst (λ (t : Bool). Sees (cond t (receive a packet.message w) (idle a w))) (sym is) none
  late input.Restart is = none

  effect_none : NoneGoldless (effect a asked).store
  effect_none =
      subst NoneGoldless (sym (store_is a asked))
      (decided Sees (takes_effect a asked) (intended (settled (first_effect a asked))) (first_effect a asked)
      going (late asked))

-- ---- a run

abbrev NoneIn : ℕ → ℕ → Store → Type 0
NoneIn n s a = 1 ≤ s → s ≤ n → NoneGoldless a

abbrev AllNone : ℕ → World → Type 0
AllNone n w = (s : ℕ) → NoneIn n s (w.stores s)

acted : (n : ℕ) → ViewsArePrefixes n → (events : List Event) (event : Event) (t : Taking) → taking_in n (run n events) event ≡ Some t → Acts n (run n events) t → AllNone n (run n events)
    → AllNone n (world_after (run n events) (effect_step (run n events) event t.server t.asked))
acted n views events event t taken act all =
    let w = run n events in
    let a = w.stores t.server in
    let whole = first_runs n w (sound_run n events) t.server act.least act.most t.asked act.came in
    let ordered = first_ordered n w (sound_run n events) t.server act.least act.most t.asked act.came in
    let more : run n (events ++ event ∷ []) ≡ world_after w (effect_step w event t.server t.asked) =
    run_more n (start n) events event ∙ ap (world_after w) (next_is n w event t taken) in
    let now : (run n (events ++ event ∷ [])).stores t.server ≡ (effect a t.asked).store =
    ap (λ (v : World). v.stores t.server) more ∙ after_itself w.stores t.server (effect a t.asked).store in
    let own : is_removed (removed_of (effect a t.asked).store) t.server ≡ false =
    sym (ap (λ (b : Store). is_removed (removed_of b) t.server) now) ∙ (views (events ++ event ∷ []) t.server act.least act.most).own in
    each_after (λ j b. NoneIn n j b) w.stores t.server (effect a t.asked).store all
    (λ least most. effect_none n t.server a (all t.server least most) t.asked whole ordered own)

none_in_runs : (n : ℕ) → ViewsArePrefixes n → (events : List Event) → AllNone n (run n events)
none_in_runs n views events =
    holds_in_runs n (AllNone n) (record {
      first = λ s least most. first_none n s least most;
      idle = λ w event cause k. k;
      comes = λ past event server is k. absurd (no_server_comes event server is);
      acts = λ before event t is act k. acted n views before event t is act k;
    }) events

-- GOLDS ARE SEEN
pub full_replicas_see_gold : (n : ℕ) → ViewsArePrefixes n → BirthsAreKnown n → BirthsAreAlone n → FullReplicasSeeGold n
full_replicas_see_gold n views births alone events s least most =
    full_see_gold n births alone events s least most ((sound_run n events).servers s).sound.whole (none_in_runs n views events s least most)
