-- What an event at one server leaves of flags: each that is known then is up to its server's own.
use Rattle.std.proofs.Common.{ℕ, ◌≡◌, true, false, List, [], ◌∷◌, ◌++◌, All, refl, sym, ap, subst, inl, inr}
use Rattle.std.specs.List.{flat_map}
use Rattle.std.specs.Option.{option_map}
use Rattle.std.proofs.lemmas.List.Elements.{All-append, All-nil}
use Rattle.law_frame.specs.pg_run.pg_base.declared.id.FileId.{FileId}
use Rattle.law_frame.specs.pg_run.pg_base.declared.id.Kind.{Kind}
use Rattle.law_frame.specs.pg_run.pg_house.Work.{state_of}
use Rattle.law_frame.specs.pg_run.pg_msg.declared.message.Message.{Message}
use Rattle.law_frame.specs.pg_run.pg_msg.declared.message.Message.TheVariants as message
use Rattle.law_frame.specs.pg_run.pg_msg.declared.message.Packet.{Packet}
use Rattle.law_frame.specs.pg_run.pg_msg.declared.update.Update.{Update}
use Rattle.law_frame.specs.pg_run.pg_msg.declared.update.Update.TheVariants as update
use Rattle.law_frame.specs.pg_run.pg_msg.declared.work.Work.{Work}
use Rattle.law_frame.specs.pg_run.pg_msg.Work.{new_work}
use Rattle.law_frame.specs.pg_run.pg_names.Names.{NamesValue}
use Rattle.law_frame.specs.pg_run.pg_register.declared.flag.Flag.{Flag}
use Rattle.law_frame.specs.pg_run.pg_replica.declared.replica.Replica.{Replica}
use Rattle.law_frame.specs.pg_run.pg_replica.Replicas.{ByFile, replica_in}
use Rattle.law_frame.specs.pg_run.pg_store.declared.store.Store.{Store}
use Rattle.law_frame.specs.pg_run.pg_store.Store.{is_held}
use Rattle.law_frame.specs.pg_run.pg_store.Together.{AreTogether, birth_at}
use Rattle.law_frame.specs.pg_run.pg_pieces.Done.{Done, idle}
use Rattle.law_frame.specs.pg_run.pg_pieces.Golds.{is_goldless}
use Rattle.law_frame.specs.pg_run.pg_pieces.Making.{raise_flag}
use Rattle.law_frame.specs.pg_run.pg_cells.Sending.{cells_where, is_any, is_chosen}
use Rattle.law_frame.specs.pg_run.pg_cells.Settling.{rules}
use Rattle.law_frame.specs.pg_run.pg_cells.Ticks.{tick}
use Rattle.law_frame.proofs.pg_run.pg_cells.Settled.{settle_keeps}
use Rattle.law_frame.specs.pg_run.pg_intentions.Requests.{ask_all, asks}
use Rattle.law_frame.proofs.pg_run.pg_intentions.Steady.{begin_end_stays}
use Rattle.law_frame.specs.pg_run.pg_calls.Naming.{next_id}
use Rattle.law_frame.specs.pg_run.theory_flood_pieces.Whole.{IsWhole}
use Rattle.law_frame.proofs.pg_run.theory_flood_pieces.Choices.{chosen}
use Rattle.law_frame.proofs.pg_run.theory_flood_pieces.Front.{house_sent, house_tail}
use Rattle.law_frame.proofs.pg_run.theory_flood_pieces.Grown.{grown_by_steps}
use Rattle.law_frame.proofs.pg_run.theory_flood_pieces.Settling.{goldless_own, rules_steps, whole_raised, whole_rules}
use Rattle.law_frame.specs.pg_run.pg_server.declared.input.Input.{Input}
use Rattle.law_frame.specs.pg_run.pg_server.Local.{effect, first_effect, intended, receive, settled, takes_effect, ticked, without_sources, without_volatile}
use Rattle.law_frame.proofs.pg_run.Event.{Comes, all_sent, end_of, end_sent, end_tail, first_has}
use Rattle.law_births.specs.Flags.{AnyBye, SaysMessage, SaysStore}
use Rattle.law_births.proofs.Here.{birth_of_held}
use Rattle.law_births.proofs.Intends.{begin_end_goes}
use Rattle.law_births.proofs.Pieces.{rules_stay}
use Rattle.law_births.proofs.StoreSays.{say_begin_end, say_rules}
use Rattle.law_contents.proofs.Rules.{ArePlaces, house_makes}
use Rattle.law_golds.proofs.Calling.{call_fine}
use Rattle.law_golds.proofs.Filling.{MayGo, full_fine, invite_fine, still}
use Rattle.law_golds.proofs.Fine.{IsFine, Knows, NoFlags, SameMade, fine_flag, fine_silent, no_flags, no_more, same_made}
use Rattle.law_golds.proofs.Kept.{GoesOn, before_on, births_on, flags_at, held_of}
use Rattle.law_golds.proofs.Known.{store_less}
use Rattle.law_golds.proofs.Own.{Stands}
use Rattle.law_golds.proofs.Received.{said_received, said_walk_of_tick}
use Rattle.law_golds.proofs.Says.{Says, SaysSent}
use Rattle.law_golds.proofs.Sending.{asks_all, asks_some, cells_say}

-- what is said of the flags that a packet brings
abbrev pub SaysPacket : (FileId → Flag → Type 0) → Packet → Type 0
SaysPacket Q packet = SaysMessage Q packet.message

-- places hold no flag
pub places_none : (us : List Update) → ArePlaces us → NoFlags us
places_none [] are f g there = absurd there
places_none (update.Place q place ∷ us) are f g (inl same) =
    absurd (let z : update.Flag f g ≡ update.Place q place = same in cc)
places_none (update.Place q place ∷ us) are f g (inr rest) = places_none us are f g rest
places_none (update.Version made ∷ us) are f g there = absurd are
places_none (update.Flag q flag ∷ us) are f g there = absurd are

-- server s of n, with this store, takes this; Q was known before
module _ (n s : ℕ) (a : Store) (asked : Input) (Q : FileId → Flag → Type 0) (k : SaysStore Q AnyBye s a)
    (before : (f : FileId) (g : Flag) → Q f g → g.server ≡ s → Stands s a f g)
    (one : (f : FileId) (g h : Flag) → Q f g → Q f h → g.server ≡ h.server → g.birth ≡ h.birth
    → g.number ≡ h.number → g ≡ h)
    (together : AreTogether a) (away : (kind : Kind) → is_held a (next_id a kind) ≡ false) where
  abbrev First : Done
  First = first_effect a asked

  abbrev End : Done
  End = end_of a asked

  abbrev Fine : Done → Type 0
  Fine d = IsFine Q s d

  abbrev May : Done → Type 0
  May d = MayGo Q s a together d

  -- ---- the first effect

  start_says : (moment from : ℕ) → Says Q s [] (idle a (new_work moment from))
  start_says moment from =
      record { store = k; sent = All-nil (SaysSent Q); tail = All-nil (SaysSent Q); made = refl }

  was : (f : FileId) (g : Flag) → Knows Q s [] f g → Q f g
  was f g (inl there) = there
  was f g (inr there) = absurd there

  start_fine : (moment from : ℕ) → Fine (idle a (new_work moment from))
  start_fine moment from = record {
    store = store_less Q (Knows Q s []) (λ f g there. inl there) s a k;
    sent = All-nil (SaysSent (Knows Q s []));
    tail = All-nil (SaysSent (Knows Q s []));
    own = λ f g there. before f g (was f g there);
    made = λ f g there. absurd there;
    one = λ f g h x y. one f g h (was f g x) (was f h y);
  }

  stays : (moment from : ℕ) (d : Done) → Says Q s [] d → May d
  stays moment from d h =
      still Q s a together (new_work moment from) (start_fine moment from) no_flags [] no_flags d h

  -- what is noted of versions says nothing of flags
  released_says : SaysStore Q AnyBye s (without_sources a)
  released_says = record { names = k.names; intents = k.intents }

  ticks_say : (moment word : ℕ) → Says Q s [] (ticked a word (new_work moment 0))
  ticks_say moment word =
      let b = without_sources a in
      said_walk_of_tick Q s [] b word (ask_all b (tick b (new_work moment 0)))
      (record {
        store = released_says;
        sent = All-append (SaysSent Q) ([] ++ cells_where b is_any) (flat_map (asks b) b.intents)
            (All-append (SaysSent Q) [] (cells_where b is_any) (All-nil (SaysSent Q))
            (cells_say Q s b released_says is_any))
            (asks_all Q s b released_says);
        tail = All-nil (SaysSent Q);
        made = refl;
      })

  received : (from : ℕ) (m : Message) → SaysMessage Q m → May (receive a m (new_work 0 from))
  received from (message.Full ends) says =
      λ on. full_fine Q s a together (new_work 0 from) (start_fine 0 from) ends
  received from (message.Invite ends) says =
      λ on. invite_fine Q s a together (new_work 0 from) (start_fine 0 from) no_flags (start_says 0 from) ends
  received from m says =
      stays 0 from (receive a m (new_work 0 from))
      (said_received Q s [] a (new_work 0 from) m refl says (start_says 0 from))

  pub first_fine : Comes (SaysPacket Q) asked → May First
  first_fine came =
      first_has (SaysPacket Q) a May (record {
        calls = λ moment c.
            call_fine Q s a together away (new_work moment 0) (start_fine moment 0) no_flags
            (start_says moment 0) c;
        ticks = λ moment word going.
            stays moment 0 (ticked a word (new_work moment 0)) (ticks_say moment word);
        arrivals = λ packet heard says. received packet.from packet.message says;
        restarts = stays 0 0 (idle (without_volatile a) (new_work 0 0)) (record {
          store = record { names = k.names; intents = k.intents };
          sent = All-nil (SaysSent Q);
          tail = All-nil (SaysSent Q);
          made = refl;
        });
        nothing = λ moment from. stays moment from (idle a (new_work moment from)) (start_says moment from);
      }) asked came

  -- ---- the rules run, and golds are raised

  -- a whole server is fine
  abbrev Holds : Store → Work → Type 0
  Holds b w = IsWhole n s b × Fine (idle b w)

  rules_hold : (b : Store) (w : Work) → Holds b w → Holds (rules b w).store (rules b w).work
  rules_hold b w h =
      let whole = whole_rules n s b w h.0 in
      let made = house_makes w.now (state_of b.names w) in
      let same : SameMade w.made (w.made ++ made.places) =
      no_more w.made made.places (places_none made.places made.are) in
      let P : List Update → Type 0 = SameMade w.made in (
        whole,
        fine_silent Q s (idle b w) (rules b w) h.1 (subst P (sym made.made) same) (rules_stay b w).before.births
            (say_rules (Knows Q s w.made) AnyBye s b w h.1.store)
            (house_sent w.now b.names w) (house_tail w.now b.names w)
            (before_on b (rules b w).store (rules_stay b w).before
            (λ f m there. (grown_by_steps n s b (rules b w).store h.0 whole (rules_steps n s b w h.0) f m there).1.flags)),
      )

  raises_hold : (b : Store) (f : FileId) (w : Work) → is_goldless b f ≡ true → Holds b w
      → Holds (raise_flag b f w).store (raise_flag b f w).work
  raises_hold b f w is h =
      let own = goldless_own b f is in
      let birth = birth_of_held b h.0.together f (held_of b f own.0 own.1) in
      (whole_raised n s b f w h.0, fine_flag Q s b w h.1 f true birth.0 birth.1 own.0 own.1)

  settled_holds : Holds First.store First.work → Holds (settled First).store (settled First).work
  settled_holds h = settle_keeps Holds rules_hold raises_hold First.store First.work h

  -- ---- intentions end and begin

  intended_fine : (d : Done) → Fine d → Fine (intended d)
  intended_fine d h =
      let steady = begin_end_stays d.store d.work in
      let births : (f : FileId) → birth_at (intended d).store f ≡ birth_at d.store f =
      λ f. ap (λ (rs : ByFile). option_map (λ (x : Replica). x.birth) (replica_in rs f)) steady.replicas in
      fine_silent Q s d (intended d) h (same_made d.work.made (intended d).work.made steady.made) births
      (say_begin_end (Knows Q s d.work.made) AnyBye s d.store d.work h.store) steady.sent steady.tail
      (births_on d.store (intended d).store (begin_end_goes d.store d.work) births
      (λ f. ap (λ (names : NamesValue). flags_at names f) steady.names))

  -- ---- THE WHOLE EVENT

  module _ (whole : IsWhole n s First.store) (on : GoesOn a First.store) (came : Comes (SaysPacket Q) asked) where
    pub end_fine : Fine End
    end_fine =
        let first = first_fine came on in
        chosen Fine (takes_effect a asked) (intended (settled First)) First
        (intended_fine (settled First) (settled_holds (whole, first)).1) first

    -- what is known of flags at its end
    abbrev pub Now : FileId → Flag → Type 0
    Now f g = Knows Q s End.work.made f g

    pub sent_fine : All (SaysSent Now) (effect a asked).out.sent
    sent_fine =
        all_sent (SaysSent Now) a asked (subst (All (SaysSent Now)) (end_sent a asked) end_fine.sent)
        (cells_say Now s End.store end_fine.store (is_chosen End.work.touched End.work.linked))
        (asks_some Now s End.store end_fine.store End.work.begun)
        (subst (All (SaysSent Now)) (end_tail a asked) end_fine.tail)
