-- An event at a server leaves its intentions in order.
use Rattle.std.proofs.Common.{ℕ, ◌≡◌, ◌==◌, Bool, true, false, cond, List, refl, sym, ap, subst, ◌∙◌}
use Rattle.std.proofs.lemmas.Bool.{and_parts, false≢true}
use Rattle.law_frame.specs.pg_run.pg_base.declared.id.Kind.{Kind}
use Rattle.law_frame.specs.pg_run.pg_intent.Intents.{HaveOwnKeys}
use Rattle.law_frame.specs.pg_run.pg_msg.declared.message.Packet.{Packet}
use Rattle.law_frame.specs.pg_run.pg_msg.Numbers.{is_in_range}
use Rattle.law_frame.specs.pg_run.pg_msg.Work.{new_work}
use Rattle.law_frame.specs.pg_run.pg_names.Names.{NamesValue}
use Rattle.law_frame.specs.pg_run.pg_store.declared.store.Store.{Store}
use Rattle.law_frame.specs.pg_run.pg_store.Seen.{removed_of, view_of}
use Rattle.law_frame.specs.pg_run.pg_store.Servers.{is_live_other}
use Rattle.law_frame.specs.pg_run.pg_store.Store.{is_held, is_before_clock_end}
use Rattle.law_frame.specs.pg_run.pg_store.Together.{AreBirths}
use Rattle.law_frame.specs.pg_run.pg_pieces.Done.{Done, idle}
use Rattle.law_frame.specs.pg_run.pg_cells.Settling.{settle}
use Rattle.law_frame.specs.pg_run.pg_cells.Ticks.{tick}
use Rattle.law_frame.specs.pg_run.pg_intentions.Requests.{ask_all}
use Rattle.law_frame.proofs.pg_run.pg_intentions.Leaves.{all_moved}
use Rattle.law_frame.proofs.pg_run.pg_intentions.Steady.{begin_end_stays}
use Rattle.law_frame.specs.pg_run.pg_calls.Naming.{next_id}
use Rattle.law_frame.proofs.pg_run.pg_calls.Late.{late_does_nothing}
use Rattle.law_frame.specs.pg_run.pg_server.declared.input.Input.{Input}
use Rattle.law_frame.specs.pg_run.pg_server.declared.input.Input.TheVariants as input
use Rattle.law_frame.specs.pg_run.pg_server.Local.{Effect, closed, effect, finished, first_effect, is_heard, receive, reply_to, takes_effect, ticked, without_sources, without_volatile}
use Rattle.law_frame.specs.pg_run.theory_flood_pieces.Whole.{IsWhole}
use Rattle.law_frame.proofs.pg_run.theory_flood_pieces.Choices.{chosen, decided}
use Rattle.law_intents.proofs.Aimed.{heard_live}
use Rattle.law_intents.proofs.Called.{far_called}
use Rattle.law_intents.proofs.Asked.{FlagsAreOfServers}
use Rattle.law_intents.proofs.Ends.{IsResting, resting_end}
use Rattle.law_intents.proofs.Far.{Aims, Far, IsFarThen, far_then}
use Rattle.law_intents.proofs.Heard.{far_received, far_tick}
use Rattle.law_intents.proofs.Leaving.{EdgesAreLive}
use Rattle.law_intents.proofs.Settled.{far_settle}

-- what is known of the server, and of what the input makes of it
pub record IsGiven (n s : ℕ) (a : Store) (asked : Input) : Type 0 where
  pub births : AreBirths a
  pub keys : HaveOwnKeys a.intents
  pub live : EdgesAreLive a (removed_of a)
  pub held : IsWhole n s a
  pub fresh : (kind : Kind) → is_held a (next_id a kind) ≡ false
  pub whole : IsWhole n s (first_effect a asked).store
  pub flags : FlagsAreOfServers n (effect a asked).store.names

module _ (n s : ℕ) (a : Store) (k : IsResting n s a) where
  -- those that were removed before
  abbrev Old : List ℕ
  Old = removed_of a

  abbrev Fine : Done → Type 0
  Fine d = Far n s Old d

  -- and those that are removed then
  abbrev Then : Done → Type 0
  Then d = IsFarThen n s d

  begins : (now from : ℕ) → Aims n s Old from → Fine (idle a (new_work now from))
  begins now from here = record {
    servers = k.servers;
    server = k.server;
    removed = refl;
    from = here;
    aims = k.aims;
    slots = λ x h. absurd h;
    patches = k.patches;
  }

  nobody : Aims n s Old 0
  nobody h = absurd (h refl)

  -- ---- what takes effect

  first_tick : (moment word : ℕ) → Fine (first_effect a (input.Tick moment word))
  first_tick moment word =
      let b = without_sources a in
      let w = new_work moment 0 in
      chosen Fine (is_before_clock_end a) (ticked a word w) (idle a w)
      (far_tick n s Old (idle b (ask_all b (tick b w))) word (record {
        servers = k.servers;
        server = k.server;
        removed = refl;
        from = nobody;
        aims = k.aims;
        slots = λ x h. absurd h;
        patches = k.patches;
      }))
      (begins moment 0 nobody)

  first_arrival : (packet : Packet) → IsGiven n s a (input.Arrival packet) → takes_effect a (input.Arrival packet) ≡ true → Fine (first_effect a (input.Arrival packet))
  first_arrival packet given going =
      decided Fine (is_heard a packet) (receive a packet.message (new_work 0 packet.from)) (idle a (new_work 0 packet.from))
      (λ heard.
      let one = and_parts (is_before_clock_end a) _ heard in
      let two = and_parts (packet.view == view_of a) _ one.1 in
      let three = and_parts (is_live_other a packet.from) (is_in_range packet.message) two.1 in
      far_received n s Old a (new_work 0 packet.from) packet.message
      (record { births = given.births; whole = given.held; live = given.live; none = λ x h. absurd h })
      (begins 0 packet.from (λ some. heard_live n s Old a k.servers k.server refl packet.from three.0)))
      (λ no. absurd (false≢true (sym no ∙ going)))

  first_restart : Fine (first_effect a input.Restart)
  first_restart = record {
    servers = k.servers;
    server = k.server;
    removed = refl;
    from = nobody;
    aims = k.aims;
    slots = λ x h. absurd h;
    patches = k.patches;
  }

  first_far : (asked : Input) → IsGiven n s a asked → takes_effect a asked ≡ true → Then (first_effect a asked)
  first_far (input.Call moment x) given going =
      far_called n s Old a given.fresh given.held given.keys (new_work moment 0) refl (begins moment 0 nobody) x
  first_far (input.Tick moment word) given going = far_then n s Old (first_effect a (input.Tick moment word)) (first_tick moment word)
  first_far (input.Arrival packet) given going =
      far_then n s Old (first_effect a (input.Arrival packet)) (first_arrival packet given going)
  first_far input.Restart given going = far_then n s Old (first_effect a input.Restart) first_restart

  abbrev Rests : Effect → Type 0
  Rests e = IsResting n s e.store

  closed_rests : (asked : Input) → IsGiven n s a asked → takes_effect a asked ≡ true → Rests (closed (reply_to a asked) (first_effect a asked))
  closed_rests asked given going =
      let d = first_effect a asked in
      let late = removed_of d.store in
      let far = far_settle n s late d (first_far asked given going) given.whole in
      let m = settle d.store d.work in
      let is : effect a asked ≡ closed (reply_to a asked) d = ap (λ (t : Bool). cond t (closed (reply_to a asked) d) (finished (reply_to a asked) d)) going in
      let ended : FlagsAreOfServers n (closed (reply_to a asked) d).store.names = subst (λ (e : Effect). FlagsAreOfServers n e.store.names) is given.flags in
      let flags : FlagsAreOfServers n m.store.names = subst (λ (b : NamesValue). FlagsAreOfServers n b) (begin_end_stays m.store m.work).names ended in
      resting_end n s late m.store m.work far flags

  -- ---- what does not

  late_rests : (asked : Input) → takes_effect a asked ≡ false → Rests (finished (reply_to a asked) (first_effect a asked))
  late_rests (input.Call moment x) late =
      subst (λ (b : Store). IsResting n s b) (sym (late_does_nothing a x (new_work moment 0) late).0) k
  late_rests (input.Tick moment word) late =
      let w = new_work moment 0 in
      subst (λ (t : Bool). IsResting n s (cond t (ticked a word w) (idle a w)).store) (sym late) k
  late_rests (input.Arrival packet) late =
      let w = new_work 0 packet.from in
      subst (λ (t : Bool). IsResting n s (cond t (receive a packet.message w) (idle a w)).store) (sym late) k
  late_rests input.Restart late = record {
    servers = k.servers;
    server = k.server;
    aims = k.aims;
    confirms = k.confirms;
    seeks = k.seeks;
    patches = k.patches;
    leaves = all_moved a (without_volatile a) refl refl a.intents k.leaves;
  }

  -- AN EVENT AT A SERVER
  pub effect_rests : (asked : Input) → IsGiven n s a asked → IsResting n s (effect a asked).store
  effect_rests asked given =
      decided Rests (takes_effect a asked) (closed (reply_to a asked) (first_effect a asked)) (finished (reply_to a asked) (first_effect a asked))
      (closed_rests asked given) (late_rests asked)
