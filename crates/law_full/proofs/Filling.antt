-- Full replicas have places, and who is told that its replica is full holds it with one, along
-- every run.
use Rattle.std.proofs.Common.{ℕ, ◌≡◌, ◌≤◌, Bool, true, false, List, get_or, Option, None, Some, option_map, All, refl, sym, ap, subst, ◌∙◌, ◌⊎◌, inl, inr}
use Rattle.std.specs.List.{IsAmong}
use Rattle.std.proofs.lemmas.Bool.{false≢true}
use Rattle.std.proofs.lemmas.List.Elements.{All-append, All-contains, All-nil, All-weaker}
use Rattle.law_frame.specs.pg_run.pg_base.declared.id.FileId.{FileId}
use Rattle.law_frame.specs.pg_run.pg_base.declared.stamp.Stamp.{Stamp}
use Rattle.law_frame.specs.pg_run.pg_base.Id.{is_same_file}
use Rattle.law_frame.proofs.pg_run.pg_base.Orders.{is_same_file-true}
use Rattle.law_frame.specs.pg_run.pg_edges.declared.edge.Edge.{Edge}
use Rattle.law_frame.specs.pg_run.pg_edges.declared.key.Key.{Key}
use Rattle.law_frame.specs.pg_run.pg_edges.declared.key.Key.TheVariants as key
use Rattle.law_frame.specs.pg_run.pg_edges.Keys.{tag_in}
use Rattle.law_frame.specs.pg_run.pg_entries.declared.cell.Cell.{Cell}
use Rattle.law_frame.specs.pg_run.pg_entries.declared.cell.Cell.TheVariants as cell
use Rattle.law_frame.specs.pg_run.pg_entries.declared.entry.Entry.{Entry}
use Rattle.law_frame.specs.pg_run.pg_event.declared.event.Event.{Event}
use Rattle.law_frame.specs.pg_run.theory_flood.World.{after}
use Rattle.law_frame.proofs.pg_run.theory_flood.Flood.{here}
use Rattle.law_frame.specs.pg_run.pg_intent.declared.intent.Intent.{Intent}
use Rattle.law_frame.specs.pg_run.pg_intent.declared.key.IntentKey.{IntentKey}
use Rattle.law_frame.specs.pg_run.pg_intent.Intents.{intent_at}
use Rattle.law_frame.specs.pg_run.pg_msg.declared.message.Ends.{Ends}
use Rattle.law_frame.specs.pg_run.pg_msg.declared.message.Granted.{Granted}
use Rattle.law_frame.specs.pg_run.pg_msg.declared.message.Message.{Message}
use Rattle.law_frame.specs.pg_run.pg_msg.declared.message.Message.TheVariants as message
use Rattle.law_frame.specs.pg_run.pg_msg.declared.message.Packet.{Packet}
use Rattle.law_frame.specs.pg_run.pg_msg.declared.message.Sent.{Sent}
use Rattle.law_frame.specs.pg_run.pg_msg.declared.work.Work.{Work}
use Rattle.law_frame.specs.pg_run.pg_msg.Work.{new_work}
use Rattle.law_frame.specs.pg_run.pg_names.Names.{is_full_of, new_names, own_or_blank}
use Rattle.law_frame.proofs.pg_run.pg_names.Holding.{begun_other}
use Rattle.law_frame.specs.pg_run.pg_register.Place.{root}
use Rattle.law_frame.specs.pg_run.pg_replica.declared.replica.Replica.{Replica}
use Rattle.law_frame.proofs.pg_run.pg_calls.Walked.{full_held}
use Rattle.law_frame.specs.pg_run.pg_store.declared.store.Store.{Store}
use Rattle.law_frame.specs.pg_run.pg_store.Cells.{cell_at}
use Rattle.law_frame.specs.pg_run.pg_store.Links.{is_clean, is_new_link, link}
use Rattle.law_frame.specs.pg_run.pg_store.Start.{root_own}
use Rattle.law_frame.specs.pg_run.pg_store.Store.{is_full, new_store, replica_at}
use Rattle.law_frame.specs.pg_run.pg_store.Births.{has_birth}
use Rattle.law_frame.specs.pg_run.pg_store.Together.{BirthsMove, IsOver, birth_at}
use Rattle.law_frame.proofs.pg_run.pg_store.Over.{moves_then, over_stays}
use Rattle.law_frame.specs.pg_run.pg_pieces.Accepting.{with_link}
use Rattle.law_frame.specs.pg_run.pg_intentions.Intending.{pieces}
use Rattle.law_frame.specs.pg_run.pg_intentions.Requests.{asks}
use Rattle.law_frame.specs.pg_run.theory_flood_pieces.Growing.{Grows}
use Rattle.law_frame.specs.pg_run.Acknowledged.{AcknowledgedKeysAreHad, IsHadThere}
use Rattle.law_frame.specs.pg_run.Births.{BirthsMoveInEvents}
use Rattle.law_frame.specs.pg_run.Grown.{EventsGrow}
use Rattle.law_frame.specs.pg_run.Journal.{mail}
use Rattle.law_frame.specs.pg_run.Known.{CarriedIsKnown, PlacesHaveOwnStamps}
use Rattle.law_frame.specs.pg_run.Laws.{AtEach, TakesIn}
use Rattle.law_frame.specs.pg_run.Run.{World, effect_step, next, run, start, world_after}
use Rattle.law_frame.proofs.pg_run.Frame.{HasCome}
use Rattle.law_frame.proofs.pg_run.Ticked.{tick_store}
use Rattle.law_frame.specs.pg_run.pg_server.declared.input.Input.{Input}
use Rattle.law_frame.specs.pg_run.pg_server.declared.input.Input.TheVariants as input
use Rattle.law_frame.specs.pg_run.pg_server.Local.{effect, first_effect}
use Rattle.law_full.specs.Filled.{ArePlaced, FullPlaced, FullSays, IsFilled, IsPlaced, SaysFull}
use Rattle.law_full.proofs.Acting.{next_by, runs_keep}
use Rattle.law_full.proofs.Calling.{call_kept}
use Rattle.law_full.proofs.Clean.{IsAcknowledged, clean_before}
use Rattle.law_full.proofs.Coming.{receive_kept}
use Rattle.law_full.proofs.Effects.{arrival_kept, effect_kept}
use Rattle.law_full.proofs.Given.{ListsLate, calls_full}
use Rattle.law_full.proofs.Known.{lists_late, place_had}
use Rattle.law_full.proofs.Placed.{BeginsOther, FillsIt, FullIf, full_kept_if, late_upto, left_full, rules_full_if}
use Rattle.law_full.proofs.Sends.{MayReply, effect_sends}
use Rattle.law_full.proofs.Told.{all_cells, asks_are}
use Rattle.law_full.proofs.Works.{is_plain}

-- ---- messages of other kinds say nothing

no_full : (m : Message) (ends : Ends) → is_plain m ≡ true → m ≡ message.Full ends → ⊥
no_full m ends plain same = false≢true (sym (ap is_plain same) ∙ plain)

cell_no_full : (p q : Ends) (tag : ℕ) (c : Cell) → message.Cell p tag c ≡ message.Full q → ⊥
cell_no_full p q tag c h = cc

grant_no_full : (p q : Ends) (g : Granted) → message.Grant p g ≡ message.Full q → ⊥
grant_no_full p q g h = cc

confirm_no_full : (d : FileId) (e : Entry) (q : Ends) → message.Confirm d e ≡ message.Full q → ⊥
confirm_no_full d e q h = cc

same_ends : (p q : Ends) → message.Full p ≡ message.Full q → p ≡ q
same_ends p q h = cc

-- ---- a world

-- what each server has is had by peers that acknowledged it, or their birth is over
abbrev pub AckedIn : ℕ → World → Type 0
AckedIn n w = AtEach n (λ s. (file : FileId) (x : Replica) (e : Edge) (k : Key) (c : Cell)
    → replica_at (w.stores s) file ≡ Some x → IsAmong x.edges e → tag_in e.keys k ≡ None → cell_at (w.stores s) file k ≡ Some c
    → IsHadThere w file e c ⊎ IsOver (w.stores e.peer) file e.birth)

-- no server loses what it held, unless the replica goes, in whichever event
abbrev pub GrowIn : ℕ → World → Type 0
GrowIn n w = (event : Event) (s : ℕ) (asked : Input) → TakesIn n w event s asked
    → let a = w.stores s in Grows a (first_effect a asked).store × Grows a (effect a asked).store

-- and births move one way
abbrev pub MoveIn : ℕ → World → Type 0
MoveIn n w = (event : Event) (s : ℕ) (asked : Input) → TakesIn n w event s asked
    → let a = w.stores s in BirthsMove a (first_effect a asked).store × BirthsMove (first_effect a asked).store (effect a asked).store

pub record Stands (n : ℕ) (w : World) : Type 0 where
  pub acked : AckedIn n w
  pub grow : GrowIn n w
  pub move : MoveIn n w
  pub lists : AtEach n (λ s. ListsLate (w.stores s))

-- what is proved of it
pub record AreFilled (n : ℕ) (w : World) : Type 0 where
  pub placed : AtEach n (λ s. ArePlaced (w.stores s))
  pub said : All (SaysFull w) (mail w.journal)

-- ---- what is not lost

-- it is filled, or the birth is over
abbrev IsSo : Store → Ends → Type 0
IsSo a ends = IsFilled a ends ⊎ IsOver a ends.file ends.receiver

filled_on : (a b : Store) → Grows a b → (ends : Ends) → IsFilled a ends → IsSo b ends
filled_on a b k ends h = elim (k ends.file ends.receiver h.held) [
  | inl g ↦ inl (record {
    held = g.0;
    placed = λ apart. late_upto (own_or_blank a.names ends.file).place (own_or_blank b.names ends.file).place g.1.place (h.placed apart);
  })
  | inr over ↦ inr over
]

so_on : (a b : Store) → Grows a b → BirthsMove a b → (ends : Ends) → IsSo a ends → IsSo b ends
so_on a b k move ends h = elim h [
  | inl filled ↦ filled_on a b k ends filled
  | inr over ↦ inr (over_stays a b ends.file ends.receiver move over)
]

leave_no_full : (p q : Ends) (stamp : Stamp) → message.LeaveOk p stamp ≡ message.Full q → ⊥
leave_no_full p q stamp h = cc

module _ (n : ℕ) (w : World) (stands : Stands n w) (filled : AreFilled n w) (event : Event) (s : ℕ) (asked : Input) (least : 1 ≤ s) (most : s ≤ n) (takes : TakesIn n w event s asked) (came : HasCome w s asked) where
  abbrev Here : Store
  Here = w.stores s

  abbrev End : Store
  End = (effect Here asked).store

  abbrev Later : ℕ → Store
  Later = after w.stores s End

  grows : Grows Here End
  grows = (stands.grow event s asked takes).1

  moves : BirthsMove Here End
  moves = let m = stands.move event s asked takes in moves_then Here (first_effect Here asked).store End m.0 m.1

  -- ---- what was filled stays so

  later_so : (t : ℕ) (ends : Ends) → IsSo (w.stores t) ends → IsSo (Later t) ends
  later_so t ends h = elim (here w.stores s End t) [
    | inl e ↦ (let P : ℕ → Type 0 = λ i. IsSo (w.stores i) ends in
        subst (λ (x : Store). IsSo x ends) (sym e.1) (so_on Here End grows moves ends (subst P e.0 h)))
    | inr e ↦ subst (λ (x : Store). IsSo x ends) (sym e.1) h
  ]

  -- ---- what is full has a place

  module _ (file : FileId) (apart : is_same_file file root ≡ false) where
    -- a message comes that makes it full
    abbrev Fills : Message → Type 0
    Fills m = (ends : Ends) × (m ≡ message.Full ends) × (is_same_file ends.file file ≡ true) × (has_birth Here ends.file ends.receiver ≡ true)

    abbrev Told : Input → Type 0
    Told (input.Call moment c) = ⊥
    Told (input.Tick moment word) = ⊥
    Told (input.Arrival packet) = Fills packet.message
    Told input.Restart = ⊥

    -- then it has a place
    sent_full : (packet : Packet) → HasCome w s (input.Arrival packet) → Fills packet.message → IsPlaced Here.names file
    sent_full packet sent f =
        let m : Sent = record { to = s; packet = packet } in
        let said : SaysFull w m = All-contains (SaysFull w) (mail w.journal) m filled.said sent in
        let same : f.0.file ≡ file = is_same_file-true f.0.file file f.2 in
        elim (said f.0 f.1) [
          | inl there ↦ subst (IsPlaced Here.names) same (there.placed (ap (λ (q : FileId). is_same_file q root) same ∙ apart))
          | inr over ↦ absurd (false≢true (sym over.away ∙ f.3))
        ]

    told_place : (x : Input) → HasCome w s x → Told x → IsPlaced Here.names file
    told_place (input.Call moment c) is told = absurd told
    told_place (input.Tick moment word) is told = absurd told
    told_place (input.Arrival packet) is told = sent_full packet is told
    told_place input.Restart is told = absurd told

    begins_full : (x : Input) → HasCome w s x → FullIf Here file (Told x) Here.names
    begins_full x is = (λ full. filled.placed s least most file full apart, λ told. told_place x is told)

    first_full : (x : Input) → HasCome w s x → FullIf Here file (Told x) (first_effect Here x).store.names
    first_full (input.Call moment c) is =
        call_kept (FullIf Here file ⊥) Here (new_work moment 0) (calls_full Here file ⊥ (stands.lists s least most) (new_work moment 0)) (begins_full (input.Call moment c) is) c
    first_full (input.Tick moment word) is =
        let now = begins_full (input.Tick moment word) is in
        tick_store Here moment word (λ (b : Store). FullIf Here file ⊥ b.names) now now
    first_full (input.Arrival packet) is =
        let T = Fills packet.message in
        let now = begins_full (input.Arrival packet) is in
        arrival_kept (FullIf Here file T) Here packet now
        (λ heard. receive_kept (FullIf Here file T) (λ f p. Unit {0}) (BeginsOther Here file T) (FillsIt Here file T) (full_kept_if Here file T) Here now packet.message (new_work 0 packet.from)
        (record {
          cell = λ ends tag p same born. tt;
          confirm = λ dir e same. tt;
          grant = λ ends g same. inl (refl, λ f. grant_no_full ends f.0 g (sym same ∙ f.1));
          full = λ ends same born is_file. (ends, same, is_file, born);
          goes = λ ends stamp work same may. left_full Here file T Here.names ends.file (λ f. leave_no_full ends f.0 stamp (sym same ∙ f.1)) now;
        }))
    first_full input.Restart is = begins_full input.Restart is

    full_placed : is_full End file ≡ true → IsPlaced End.names file
    full_placed full =
        (effect_kept (FullIf Here file (Told asked)) (rules_full_if Here file (Told asked)) Here asked (first_full asked came)).0 full

  -- ---- what is sent

  over_there : (file f : FileId) (peer to birth b c : ℕ) → IsOver (w.stores peer) file birth → peer ≡ to → f ≡ file → b ≡ c → birth ≡ c
      → IsOver (w.stores to) f b
  over_there file f peer to birth b c over a e g h =
      subst (λ (i : ℕ). IsOver (w.stores i) f b) a
      (subst (λ (q : FileId). IsOver (w.stores peer) q b) (sym e) (subst (IsOver (w.stores peer) file) (h ∙ sym g) over))

  -- who has acknowledged all has a place, or its birth is over
  peer_filled : (file : FileId) (peer birth : ℕ) (ends : Ends) → ends.file ≡ file → ends.receiver ≡ birth → is_full Here file ≡ true → IsAcknowledged Here file peer birth → IsSo (w.stores peer) ends
  peer_filled file peer birth ends of_file to_birth full k =
      let place = (own_or_blank Here.names file).place in
      elim (stands.acked s least most file k.replica k.edge key.Place (cell.Place place) k.is k.among (ap (λ (q : List (Key × ℕ)). tag_in q key.Place) k.none) refl) [
        | inl had ↦ inl (
            let P : ℕ → Type 0 = λ i. IsFilled (w.stores i) ends in
            subst P k.peer_is (record {
              held = ap (birth_at (w.stores k.edge.peer)) of_file ∙ ap (option_map (λ (x : Replica). x.birth)) had.is ∙ ap Some (had.born ∙ k.birth_is ∙ sym to_birth);
              placed = λ apart. subst (IsPlaced (w.stores k.edge.peer).names) (sym of_file)
                  (late_upto place (own_or_blank (w.stores k.edge.peer).names file).place (place_had (w.stores k.edge.peer) file place had.had) (filled.placed s least most file full (ap (λ (f : FileId). is_same_file f root) (sym of_file) ∙ apart)));
            }))
        | inr over ↦ inr (over_there file ends.file k.edge.peer peer k.edge.birth ends.receiver birth over k.peer_is of_file to_birth k.birth_is)
      ]

  abbrev Says : Sent → Type 0
  Says m = (ends : Ends) → m.packet.message ≡ message.Full ends → IsSo (Later m.to) ends

  linked_from : (t : Bool) (work : Work) (f : FileId) (peer : ℕ) → (with_link t work f peer).from ≡ work.from
  linked_from true work f peer = refl
  linked_from false work f peer = refl

  replies : (packet : Packet) → asked ≡ input.Arrival packet → MayReply Says Here (new_work 0 packet.from) packet.message
  replies packet is = record {
    granted = λ b to p own x ends same. absurd (grant_no_full p ends _ same);
    full = λ file birth fetched holds clean ends same.
        (let work = new_work 0 packet.from in
        let from = linked_from (is_new_link Here file packet.from birth) work file packet.from in
        let at : IsAcknowledged Here file packet.from birth =
        clean_before Here file packet.from birth (full_held Here.names file holds) (subst (λ (i : ℕ). is_clean (link Here file packet.from birth) file i birth ≡ true) from clean) in
        let p = same_ends _ ends same in
        let there : IsSo (w.stores packet.from) ends = peer_filled file packet.from birth ends (sym (ap (λ (z : Ends). z.file) p)) (sym (ap (λ (z : Ends). z.receiver) p)) holds at in
        subst (λ (i : ℕ). IsSo (Later i) ends) (sym from) (later_so packet.from ends there));
  }

  plain_says : (x : Sent) → is_plain x.packet.message ≡ true → Says x
  plain_says x plain ends same = absurd (no_full x.packet.message ends plain same)

  sent_says : All Says (effect Here asked).out.sent
  sent_says = effect_sends Says Here asked (record {
    plain = plain_says;
    replies = replies;
    cells_before = λ wanted. all_cells Says plain_says Here (λ p e c tag ends same. absurd (cell_no_full p ends tag c same)) wanted;
    cells_behind = λ wanted. all_cells Says plain_says End (λ p e c tag ends same. absurd (cell_no_full p ends tag c same)) wanted;
    asked_before = λ i d lt. asks_none Here (get_or Here.intents i d);
    asked_behind = λ q. asked_none q (intent_at End.intents q);
  })
    where
      asks_none : (b : Store) (i : Intent) → All Says (asks b i)
      asks_none b i = asks_are Says plain_says b i (λ dir child target e is there to ends same. absurd (confirm_no_full dir e ends same))

      asked_none : (q : IntentKey) (o : Option Intent) → All Says (pieces (asks End) o)
      asked_none q None = All-nil Says
      asked_none q (Some i) = asks_none End i

  -- AN EVENT
  pub filled_acted : AreFilled n (world_after w (effect_step w event s asked))
  filled_acted = record {
    placed = λ t l m file full apart. elim (here w.stores s End t) [
      | inl e ↦ (let P : Store → Type 0 = λ x. is_full x file ≡ true → IsPlaced x.names file in subst P (sym e.1) (full_placed file apart) full)
      | inr e ↦ (let P : Store → Type 0 = λ x. is_full x file ≡ true → IsPlaced x.names file in subst P (sym e.1) (λ f. filled.placed t l m file f apart) full)
    ];
    said = All-append Says (effect Here asked).out.sent (mail w.journal) sent_says
        (All-weaker (SaysFull w) Says (λ m says ends same. later_so m.to ends (says ends same)) (mail w.journal) filled.said);
  }

-- ---- every run

filled_next : (n : ℕ) (w : World) (e : Event) → Stands n w → Stands n (world_after w (next n w e)) → AreFilled n w → AreFilled n (world_after w (next n w e))
filled_next n w e stands then filled = next_by n w (AreFilled n) (record {
  still = λ event cause. record { placed = filled.placed; said = filled.said };
  acted = λ event s asked least most takes came. filled_acted n w stands filled event s asked least most takes came;
}) e

-- at the start the root alone is full
start_full : (n s : ℕ) (file : FileId) (t : Bool) → is_same_file file root ≡ t → is_full (new_store n s) file ≡ true → t ≡ false → ⊥
start_full n s file true e full apart = false≢true (sym apart)
start_full n s file false e full apart = false≢true (sym (ap is_full_of (begun_other (new_names s) root (root_own n) true file e)) ∙ full)

starts_filled : (n : ℕ) → AreFilled n (start n)
starts_filled n = record {
  placed = λ s least most file full apart. absurd (start_full n s file (is_same_file file root) refl full apart);
  said = All-nil (SaysFull (start n));
}

module _ (n : ℕ) (acked : AcknowledgedKeysAreHad n) (grow : EventsGrow n) (move : BirthsMoveInEvents n) (known : CarriedIsKnown n) (stamps : PlacesHaveOwnStamps n) where
  filled_run : (events : List Event) → AreFilled n (run n events)
  filled_run events =
      runs_keep n (Stands n) (AreFilled n) (filled_next n) (start n) events
      (λ some. record { acked = acked some; grow = grow some; move = move some; lists = lists_late n known stamps some }) (starts_filled n)

  pub full_placed_run : FullPlaced n
  full_placed_run events = (filled_run events).placed

  pub full_says_run : FullSays n
  full_says_run events = (filled_run events).said
