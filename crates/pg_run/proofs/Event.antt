-- What an input does at a server, by its parts: the first effect, then, where it takes effect, the
-- house rules and the intentions behind them, and in the end what is sent.
use Rattle.std.proofs.Common.{[], ℕ, ◌≡◌, ◌==◌, Bool, true, false, cond, List, ◌∷◌, ◌++◌, Option, None, Some, refl, sym, ap, subst, ◌∙◌, All}
use Rattle.std.specs.List.{filter, flat_map}
use Rattle.std.proofs.lemmas.List.Elements.{All-append, All-cons, All-filter, All-head, All-nil, All-tail, All-weaker}
use Rattle.pg_base.specs.declared.id.FileId.{FileId}
use Rattle.pg_edges.specs.declared.edge.Edge.{Edge}
use Rattle.pg_edges.specs.declared.key.Key.{Key}
use Rattle.pg_entries.specs.declared.cell.Cell.{Cell}
use Rattle.pg_server.specs.pg_pieces.pg_intent.declared.intent.Intent.{Intent}
use Rattle.pg_server.specs.pg_pieces.pg_intent.declared.key.IntentKey.{IntentKey}
use Rattle.pg_server.specs.pg_pieces.pg_intent.Intent.{target_of}
use Rattle.pg_server.specs.pg_pieces.pg_intent.Intents.{has_key, intent_at}
use Rattle.pg_server.specs.pg_pieces.pg_msg.declared.message.Message.{Message}
use Rattle.pg_server.specs.pg_pieces.pg_msg.declared.message.Packet.{Packet}
use Rattle.pg_server.specs.pg_pieces.pg_msg.declared.message.Sent.{Sent}
use Rattle.pg_server.specs.pg_pieces.pg_msg.Work.{new_work}
use Rattle.pg_server.specs.pg_pieces.pg_call.declared.call.Call.{Call}
use Rattle.pg_server.specs.pg_pieces.pg_call.declared.reply.Reply.{Reply}
use Rattle.pg_server.specs.pg_pieces.pg_replica.declared.replica.Replica.{Replica}
use Rattle.pg_server.specs.pg_pieces.pg_store.declared.store.Store.{Store}
use Rattle.pg_server.specs.pg_pieces.pg_store.Cells.{cell_at}
use Rattle.pg_server.specs.pg_pieces.pg_store.Store.{is_before_clock_end}
use Rattle.pg_server.specs.pg_pieces.Done.{Done, idle}
use Rattle.pg_server.specs.pg_pieces.Posting.{sent_to}
use Rattle.pg_server.specs.pg_cells.Sending.{Wanted, cell_to, cell_under, cells_where, edge_cells, is_chosen, key_cell, replica_cells, waits}
use Rattle.pg_server.specs.pg_intentions.Intending.{pieces}
use Rattle.pg_server.specs.pg_intentions.Requests.{asked_of, asks, asks_by, request}
use Rattle.pg_server.proofs.pg_intentions.Steady.{begin_end_stays}
use Rattle.pg_server.specs.pg_calls.Calls.{do_call}
use Rattle.pg_server.specs.declared.input.Input.{Input}
use Rattle.pg_server.specs.declared.input.Input.TheVariants as input
use Rattle.pg_server.specs.Local.{Effect, done_of, effect, finished, first_effect, intended, is_heard, receive, reply_to, settled, takes_effect, ticked, without_sources, without_volatile}
use Rattle.theory_flood_pieces.proofs.Choices.{All-flat_map, chosen, decided}
use Rattle.theory_flood_pieces.proofs.Settling.{settle_sent, settle_tail}

-- ---- an effect

-- what an input leaves before it is sent at the end
abbrev pub end_of : Store → Input → Done
end_of a asked =
    cond (takes_effect a asked) (intended (settled (first_effect a asked))) (first_effect a asked)

ended_by : (r : Option Reply) (t : Bool) (d e : Done)
    → cond t (finished r d) (finished r e) ≡ finished r (cond t d e)
ended_by r true d e = refl
ended_by r false d e = refl

-- THE PARTS of an effect
pub effect_is : (a : Store) (asked : Input)
    → effect a asked ≡ finished (reply_to a asked) (end_of a asked)
effect_is a asked =
    ended_by (reply_to a asked) (takes_effect a asked) (intended (settled (first_effect a asked)))
    (first_effect a asked)

pub store_is : (a : Store) (asked : Input) → (effect a asked).store ≡ (end_of a asked).store
store_is a asked = ap (λ (e : Effect). e.store) (effect_is a asked)

-- the house rules and the intentions send nothing
pub nothing_sent : (d : Done) → (intended (settled d)).work.sent ≡ d.work.sent
nothing_sent d =
    (begin_end_stays (settled d).store (settled d).work).sent ∙ settle_sent d.store d.work

pub nothing_last : (d : Done) → (intended (settled d)).work.tail ≡ d.work.tail
nothing_last d =
    (begin_end_stays (settled d).store (settled d).work).tail ∙ settle_tail d.store d.work

pub end_sent : (a : Store) (asked : Input)
    → (end_of a asked).work.sent ≡ (first_effect a asked).work.sent
end_sent a asked =
    chosen (λ (d : Done). d.work.sent ≡ (first_effect a asked).work.sent) (takes_effect a asked)
    (intended (settled (first_effect a asked))) (first_effect a asked)
    (nothing_sent (first_effect a asked)) refl

pub end_tail : (a : Store) (asked : Input)
    → (end_of a asked).work.tail ≡ (first_effect a asked).work.tail
end_tail a asked =
    chosen (λ (d : Done). d.work.tail ≡ (first_effect a asked).work.tail) (takes_effect a asked)
    (intended (settled (first_effect a asked))) (first_effect a asked)
    (nothing_last (first_effect a asked)) refl

-- the cells of keys with new tags, and what is asked by the intentions that began
abbrev pub cells_sent : Done → List Sent
cells_sent d = cells_where d.store (is_chosen d.work.touched d.work.linked)

abbrev pub asks_sent : Done → List Sent
asks_sent d = flat_map (asks_by d.store) d.work.begun

-- WHAT IS SENT
pub sent_is : (a : Store) (asked : Input) → (effect a asked).out.sent
    ≡ (((first_effect a asked).work.sent ++ cells_sent (end_of a asked)) ++ asks_sent (end_of a asked))
    ++ (first_effect a asked).work.tail
sent_is a asked =
    let d = end_of a asked in
    let behind : List Sent → List Sent = λ ms. (ms ++ cells_sent d) ++ asks_sent d in
    ap (λ (e : Effect). e.out.sent) (effect_is a asked)
    ∙ ap (λ (ms : List Sent). behind ms ++ d.work.tail) (end_sent a asked)
    ∙ ap (λ (ms : List Sent). behind (first_effect a asked).work.sent ++ ms) (end_tail a asked)

-- what holds of each of these four holds of all that is sent
pub all_sent : (Q : Sent → Type 0) (a : Store) (asked : Input)
    → All Q (first_effect a asked).work.sent → All Q (cells_sent (end_of a asked))
    → All Q (asks_sent (end_of a asked)) → All Q (first_effect a asked).work.tail
    → All Q (effect a asked).out.sent
all_sent Q a asked first cells asks last =
    let d = end_of a asked in
    let ms = (first_effect a asked).work.sent in
    subst (All Q) (sym (sent_is a asked))
    (All-append Q ((ms ++ cells_sent d) ++ asks_sent d) (first_effect a asked).work.tail
    (All-append Q (ms ++ cells_sent d) (asks_sent d) (All-append Q ms (cells_sent d) first cells) asks)
    last)

-- ---- the first effect

-- what is known of a message that comes
abbrev pub Comes : (Packet → Type 0) → Input → Type 0
Comes H (input.Call moment call) = Unit {0}
Comes H (input.Tick moment word) = Unit {0}
Comes H (input.Arrival packet) = H packet
Comes H input.Restart = Unit {0}

-- P holds of what each kind of input leaves. A message that is not heard leaves nothing, nor does a
-- tick at the end of the clock
pub record FirstHas (H : Packet → Type 0) (a : Store) (P : Done → Type 0) : Type 0 where
  pub calls : (moment : ℕ) (call : Call) → P (done_of (do_call a call (new_work moment 0)))
  pub ticks : (moment word : ℕ) → is_before_clock_end a ≡ true
      → P (ticked a word (new_work moment 0))
  pub arrivals : (packet : Packet) → is_heard a packet ≡ true → H packet
      → P (receive a packet.message (new_work 0 packet.from))
  pub restarts : P (idle (without_volatile a) (new_work 0 0))
  pub nothing : (moment from : ℕ) → P (idle a (new_work moment from))

module _ (H : Packet → Type 0) (a : Store) (P : Done → Type 0) (k : FirstHas H a P) where
  pub first_has : (asked : Input) → Comes H asked → P (first_effect a asked)
  first_has (input.Call moment call) h = k.calls moment call
  first_has (input.Tick moment word) h =
      decided P (is_before_clock_end a) (ticked a word (new_work moment 0)) (idle a (new_work moment 0))
      (λ t. k.ticks moment word t) (λ f. k.nothing moment 0)
  first_has (input.Arrival packet) h =
      decided P (is_heard a packet) (receive a packet.message (new_work 0 packet.from))
      (idle a (new_work 0 packet.from)) (λ t. k.arrivals packet t h) (λ f. k.nothing 0 packet.from)
  first_has input.Restart h = k.restarts

-- ---- what each part keeps

-- the house rules and the intentions behind them
pub record OutlivesEnds (P : Done → Type 0) : Type 0 where
  pub rules : (d : Done) → P d → P (settled d)
  pub intentions : (d : Done) → P d → P (intended d)

pub end_has : (P : Done → Type 0) (a : Store) (asked : Input) → OutlivesEnds P
    → P (first_effect a asked) → P (end_of a asked)
end_has P a asked k h =
    chosen P (takes_effect a asked) (intended (settled (first_effect a asked))) (first_effect a asked)
    (k.intentions (settled (first_effect a asked)) (k.rules (first_effect a asked) h)) h

-- each part of an event keeps P of the server's store
pub record IsKeptByParts (H : Packet → Type 0) (P : Store → Type 0) : Type 0 where
  pub calls : (a : Store) (moment : ℕ) (call : Call) → P a
      → P (do_call a call (new_work moment 0)).store
  pub arrivals : (a : Store) (packet : Packet) → is_heard a packet ≡ true → H packet → P a
      → P (receive a packet.message (new_work 0 packet.from)).store
  pub ticks : (a : Store) → P a → P (without_sources a)
  pub restarts : (a : Store) → P a → P (without_volatile a)
  pub rules : (d : Done) → P d.store → P (settled d).store
  pub intentions : (d : Done) → P d.store → P (intended d).store

-- SO AN EVENT KEEPS IT
pub store_kept : (H : Packet → Type 0) (P : Store → Type 0) → IsKeptByParts H P → (a : Store)
    (asked : Input) → Comes H asked → P a → P (effect a asked).store
store_kept H P k a asked came h =
    let first = first_has H a (λ d. P d.store) (record {
      calls = λ moment call. k.calls a moment call h;
      ticks = λ moment word going. k.ticks a h;
      arrivals = λ packet heard is. k.arrivals a packet heard is h;
      restarts = k.restarts a h;
      nothing = λ moment from. h;
    }) asked came in
    subst P (sym (store_is a asked))
    (end_has (λ d. P d.store) a asked (record { rules = k.rules; intentions = k.intentions }) first)

-- ---- cells that are sent

module _ (Q : Sent → Type 0) (b : Store) where
  -- Q holds of the cell of a key on an edge
  abbrev pub CellHas : FileId → Replica → Edge → Key × ℕ → Type 0
  CellHas file x e k = (c : Cell) → cell_at b file k.0 ≡ Some c → waits b file e k.0 ≡ false
      → Q (cell_to b file x.birth e c k.1)

  under_has : (file : FileId) (x : Replica) (e : Edge) (tag : ℕ) (o : Option Cell)
      → ((c : Cell) → o ≡ Some c → Q (cell_to b file x.birth e c tag))
      → All Q (cell_under b file x.birth e tag o)
  under_has file x e tag None h = All-nil Q
  under_has file x e tag (Some c) h = All-cons Q (cell_to b file x.birth e c tag) [] (h c refl) (All-nil Q)

  key_has : (file : FileId) (x : Replica) (e : Edge) (k : Key × ℕ) → CellHas file x e k
      → All Q (key_cell b file x.birth e k)
  key_has file x e k h =
      decided (All Q) (waits b file e k.0) [] (cell_under b file x.birth e k.1 (cell_at b file k.0))
      (λ t. All-nil Q)
      (λ f. under_has file x e k.1 (cell_at b file k.0) (λ c is. h c is f))

  wanted_has : (wanted : Wanted) (file : FileId) (x : Replica) (e : Edge) (ks : List (Key × ℕ))
      → All (CellHas file x e) ks
      → All Q (flat_map (key_cell b file x.birth e) (filter (λ k. wanted file e.peer k.0) ks))
  wanted_has wanted file x e ks h =
      let test : Key × ℕ → Bool = λ k. wanted file e.peer k.0 in
      All-flat_map Q (key_cell b file x.birth e) (filter test ks)
      (All-filter test (λ k. All Q (key_cell b file x.birth e k)) ks
      (All-weaker (CellHas file x e) (λ k. All Q (key_cell b file x.birth e k))
      (λ k is. key_has file x e k is) ks h))

  -- of each replica, edge and key
  pub cells_have : (wanted : Wanted)
      → All (λ (r : FileId × Replica). All (λ (e : Edge). All (CellHas r.0 r.1 e) e.keys) r.1.edges)
      b.replicas
      → All Q (cells_where b wanted)
  cells_have wanted h =
      All-flat_map Q (replica_cells b wanted) b.replicas
      (All-weaker (λ (r : FileId × Replica). All (λ (e : Edge). All (CellHas r.0 r.1 e) e.keys) r.1.edges)
      (λ r. All Q (replica_cells b wanted r))
      (λ r each. All-flat_map Q (edge_cells b wanted r.0 r.1.birth) r.1.edges
      (All-weaker (λ (e : Edge). All (CellHas r.0 r.1 e) e.keys)
      (λ e. All Q (edge_cells b wanted r.0 r.1.birth e))
      (λ e keys. wanted_has wanted r.0 r.1 e e.keys keys) r.1.edges each))
      b.replicas h)

  -- ---- what intentions ask

  -- Q holds of the message of an intention, if it asks a server
  abbrev pub AskHas : Intent → Type 0
  AskHas i = (m : Message) → request b i ≡ Some m → (target_of i == 0) ≡ false
      → Q (sent_to b (target_of i) m)

  request_has : (i : Intent) (o : Option Message)
      → ((m : Message) → o ≡ Some m → Q (sent_to b (target_of i) m))
      → All Q (asked_of b (target_of i) o)
  request_has i None h = All-nil Q
  request_has i (Some m) h = All-cons Q (sent_to b (target_of i) m) [] (h m refl) (All-nil Q)

  pub ask_has : (i : Intent) → AskHas i → All Q (asks b i)
  ask_has i h =
      decided (All Q) (target_of i == 0) [] (asked_of b (target_of i) (request b i))
      (λ t. All-nil Q) (λ f. request_has i (request b i) (λ m is. h m is f))

  -- of all that stand
  pub asks_have : (is : List Intent) → All AskHas is → All Q (flat_map (asks b) is)
  asks_have is h =
      All-flat_map Q (asks b) is (All-weaker AskHas (λ i. All Q (asks b i)) (λ i k. ask_has i k) is h)

  found_has : (k : IntentKey) (is : List Intent) → All AskHas is
      → All Q (pieces (asks b) (intent_at is k))
  found_has k [] h = All-nil Q
  found_has k (i ∷ is) h =
      chosen (λ (o : Option Intent). All Q (pieces (asks b) o)) (has_key k i) (Some i) (intent_at is k)
      (ask_has i (All-head AskHas i is h)) (found_has k is (All-tail AskHas i is h))

  -- and of those that stand with these keys
  pub asks_by_have : (ks : List IntentKey) → All AskHas b.intents
      → All Q (flat_map (asks_by b) ks)
  asks_by_have [] h = All-nil Q
  asks_by_have (k ∷ ks) h =
      All-append Q (asks_by b k) (flat_map (asks_by b) ks) (found_has k b.intents h)
      (asks_by_have ks h)
