-- What is sent at the end of an event, and what a tick sends, has a spelling.
use Rattle.std.proofs.Common.{ℕ, ◌≡◌, ◌==◌, ◌≤◌, Bool, false, nat_lt, List, [], ◌∷◌, filter, flat_map, Option, None, Some, All, subst, sym, refl, arith}
use Rattle.std.proofs.lemmas.Bool.Decides.{nat_tests}
use Rattle.std.proofs.lemmas.List.Elements.{All-cons, All-head, All-nil, All-tail}
use Rattle.pg_base.specs.declared.id.FileId.{FileId}
use Rattle.pg_base.specs.declared.id.Kind.TheVariants.{Dir}
use Rattle.pg_base.specs.Version.{VersionValue}
use Rattle.pg_entries.specs.declared.cell.Cell.{Cell}
use Rattle.pg_entries.specs.declared.cell.Cell.TheVariants as cells
use Rattle.pg_entries.specs.declared.entry.Entry.{Entry}
use Rattle.pg_edges.specs.declared.edge.Edge.{Edge}
use Rattle.pg_edges.specs.declared.key.Key.{Key}
use Rattle.pg_edges.specs.declared.key.Key.TheVariants as key
use Rattle.pg_edges.specs.Key.{is_same_key}
use Rattle.pg_server.specs.pg_pieces.pg_intent.declared.intent.Intent.{Intent}
use Rattle.pg_server.specs.pg_pieces.pg_intent.declared.intent.Intent.TheVariants as intent
use Rattle.pg_server.specs.pg_pieces.pg_intent.declared.key.IntentKey.{IntentKey}
use Rattle.pg_server.specs.pg_pieces.pg_intent.Intent.{target_of}
use Rattle.pg_server.specs.pg_pieces.pg_intent.Intents.{intent_at}
use Rattle.pg_msg.specs.declared.message.Ends.{Ends}
use Rattle.pg_msg.specs.declared.message.Message.{Message}
use Rattle.pg_msg.specs.declared.message.Message.TheVariants as message
use Rattle.pg_server.specs.pg_pieces.pg_names.declared.attributes.Attributes.{Attributes}
use Rattle.pg_server.specs.pg_pieces.pg_names.Names.{NamesValue, own_at, own_or_blank}
use Rattle.pg_server.specs.pg_pieces.pg_names.Names as names
use Rattle.pg_register.specs.declared.flag.Flag.{Flag}
use Rattle.pg_register.specs.Flag.{flag_of}
use Rattle.pg_server.specs.pg_pieces.pg_replica.declared.replica.Replica.{Replica}
use Rattle.pg_server.specs.pg_pieces.pg_replica.Replica as replica
use Rattle.pg_server.specs.pg_pieces.pg_store.declared.store.Store.{Store}
use Rattle.pg_server.specs.pg_pieces.pg_store.Cells.{cell_at, entry_cell, flag_cell, is_sure, version_cell}
use Rattle.pg_server.specs.pg_pieces.pg_store.Store.{content_of, replica_at}
use Rattle.pg_server.proofs.pg_pieces.pg_house.Truths.{chosen}
use Rattle.theory_flood_pieces.proofs.Choices.{decided}
use Rattle.pg_server.specs.pg_cells.Sending.{Wanted, cell_to, cell_under, cells_where, edge_cells, key_cell, replica_cells, told_as, waits}
use Rattle.pg_server.specs.pg_pieces.Posting.{sent_to}
use Rattle.pg_server.specs.pg_intentions.Intending.{pieces}
use Rattle.pg_server.specs.pg_intentions.Requests.{asked_of, asks, asks_by, confirm_message, leave_message, request}
use Rattle.law_spelled.specs.Messages.{FitsSent}
use Rattle.law_spelled.specs.Stores.{FitsAbout, FitsIntent, FitsListed, FitsNames, FitsReplica, FitsStore, MayBeServer}
use Rattle.law_spelled.proofs.Flags.{MayBeFlag, first_flag}
use Rattle.law_spelled.proofs.Intents.{found_fits}
use Rattle.law_spelled.proofs.Lists.{all_parts, all_where}
use Rattle.law_spelled.proofs.Messages.{AllSent, FitsCellOf, FitsPost, child_told, entry_told, place_told, sent_fits}
use Rattle.law_spelled.proofs.Places.{blank_fits, cell_fits}
use Rattle.law_spelled.proofs.Replicas.{HasFitHead, IsToServer, replica_or}

-- ---- the cell of a key

-- there is none, or it fits
abbrev MayFit : FileId → Option Cell → Type 0
MayFit f None = Unit {0}
MayFit f (Some c) = FitsCellOf f c

flag_may : (f : FileId) (o : Option Flag) → MayBeFlag o → MayFit f (flag_cell o)
flag_may f None h = tt
flag_may f (Some g) h = h

-- there is none, or its head fits
abbrev MayBeHead : Option VersionValue → Type 0
MayBeHead None = Unit {0}
MayBeHead (Some v) = HasFitHead v

head_may : (vs : List VersionValue) (k : Key) → All HasFitHead vs → MayBeHead (replica.cell_at vs k)
head_may [] k h = tt
head_may (v ∷ vs) k h = chosen MayBeHead (is_same_key k (replica.key_of v)) (Some v) (replica.cell_at vs k) (All-head HasFitHead v vs h) (head_may vs k (All-tail HasFitHead v vs h))

version_may : (f : FileId) (o : Option VersionValue) → MayBeHead o → MayFit f (version_cell o)
version_may f None h = tt
version_may f (Some v) h = h

own_child : (k : FileId) (e : Entry) → FitsListed k e → FitsListed e.child e
own_child k e h = subst (λ (q : FileId). FitsListed q e) (sym h.child) h

entry_may : (s : NamesValue) (f child : FileId) (o : Option Entry) (sure : Bool) → FitsNames s → names.cell_at s f child ≡ o → MayFit f (entry_cell o sure)
entry_may s f child None sure h e = tt
entry_may s f child (Some c) sure h e = own_child child c (cell_fits s h f child c e)

key_may : (s : Store) (f : FileId) (k : Key) → FitsStore s → MayFit f (cell_at s f k)
key_may s f key.Place h = (blank_fits s.names h.names f).place
key_may s f (key.Flag server) h =
    let flags = (own_or_blank s.names f).flags in
    flag_may f (flag_of flags server) (first_flag (λ flag. flag.server == server) flags (blank_fits s.names h.names f).flags.each)
key_may s f (key.Entry child) h = entry_may s.names f child (names.cell_at s.names f child) (is_sure s f child) h.names refl
key_may s f (key.Version stamp) h =
    let heads = (content_of s f).heads in
    version_may f (replica.cell_at heads (key.Version stamp)) (head_may heads (key.Version stamp) (replica_or s.replicas f h.replicas (replica_at s f) refl).heads)

-- ---- cells that are sent

short : (n : ℕ) → nat_lt 1024 n ≡ false → n ≤ 1024
short n h = grind (arith, nat_tests)

-- it is told of as a whole, or by its head
told_fits : (ends : Ends) (tag : ℕ) (c : Cell) → FitsCellOf ends.file c → FitsPost (told_as ends tag c)
told_fits ends tag (cells.Place place) k = λ w. place_told ends.file place k w
told_fits ends tag (cells.Flag flag) k = λ w. k
told_fits ends tag (cells.Entry entry sure) k = λ w. entry_told entry k w
told_fits ends tag (cells.Version v) k =
    decided FitsPost (nat_lt 1024 v.head.length) (message.Harbinger ends tag v.head) (message.Cell ends tag (cells.Version v))
    (λ long. λ w. k) (λ is. λ w. record { head = k; short = short v.head.length is; body = w })

under_fits : (s : Store) (f : FileId) (birth : ℕ) (e : Edge) (tag : ℕ) (o : Option Cell) → IsToServer e → MayFit f o
    → AllSent (cell_under s f birth e tag o)
under_fits s f birth e tag None to k = All-nil FitsSent
under_fits s f birth e tag (Some c) to k =
    let ends : Ends = record { file = f; sender = birth; receiver = e.birth } in
    All-cons FitsSent (cell_to s f birth e c tag) [] (sent_fits s e.peer (told_as ends tag c) to (told_fits ends tag c k)) (All-nil FitsSent)

module _ (s : Store) (h : FitsStore s) (wanted : Wanted) where
  keys_fit : (f : FileId) (birth : ℕ) (e : Edge) → IsToServer e → (k : Key × ℕ) → AllSent (key_cell s f birth e k)
  keys_fit f birth e to k =
      chosen AllSent (waits s f e k.0) [] (cell_under s f birth e k.1 (cell_at s f k.0)) (All-nil FitsSent)
      (under_fits s f birth e k.1 (cell_at s f k.0) to (key_may s f k.0 h))

  edge_fits : (f : FileId) (birth : ℕ) (e : Edge) → IsToServer e → AllSent (edge_cells s wanted f birth e)
  edge_fits f birth e to = all_parts FitsSent (key_cell s f birth e) (filter (λ k. wanted f e.peer k.0) e.keys) (keys_fit f birth e to)

  replica_fits : (r : FileId × Replica) → FitsReplica r.1 → AllSent (replica_cells s wanted r)
  replica_fits r k = all_where IsToServer FitsSent (edge_cells s wanted r.0 r.1.birth) (edge_fits r.0 r.1.birth) r.1.edges k.edges

  pub cells_fit : AllSent (cells_where s wanted)
  cells_fit = all_where (λ (r : FileId × Replica). FitsReplica r.1) FitsSent (replica_cells s wanted) replica_fits s.replicas h.replicas

-- ---- messages of intentions

-- there is none, or it fits
abbrev MayPost : Option Message → Type 0
MayPost None = Unit {0}
MayPost (Some m) = FitsPost m

module _ (s : Store) (h : FitsStore s) where
  confirm_may : (dir child : FileId) (o : Option Entry) → dir.kind ≡ Dir → names.cell_at s.names dir child ≡ o → MayPost (confirm_message dir o)
  confirm_may dir child None k e = tt
  confirm_may dir child (Some c) k e = λ w. child_told dir c (k, own_child child c (cell_fits s.names h.names dir child c e)) w

  leave_may : (f : FileId) (peer : ℕ) (o : Option Attributes) → MayPost (leave_message s f peer o)
  leave_may f peer None = tt
  leave_may f peer (Some own) = λ w. tt

  request_may : (i : Intent) → FitsAbout i → MayPost (request s i)
  request_may (intent.Bye file birth peer peer_birth) k = λ w. tt
  request_may (intent.Seek file target) k = λ w. tt
  request_may (intent.Fill file birth target) k = λ w. tt
  request_may (intent.Patch dir entry target) k = λ w. child_told dir entry k w
  request_may (intent.Confirm dir child target) k = confirm_may dir child (names.cell_at s.names dir child) k refl
  request_may (intent.Leave file peer peer_birth) k = leave_may file peer_birth (own_at s.names file)

  asked_fits : (to : ℕ) (o : Option Message) → MayBeServer to → MayPost o → AllSent (asked_of s to o)
  asked_fits to None may k = All-nil FitsSent
  asked_fits to (Some m) may k = All-cons FitsSent (sent_to s to m) [] (sent_fits s to m may k) (All-nil FitsSent)

  asks_fit : (i : Intent) → FitsIntent i → AllSent (asks s i)
  asks_fit i k =
      chosen AllSent (target_of i == 0) [] (asked_of s (target_of i) (request s i)) (All-nil FitsSent)
      (asked_fits (target_of i) (request s i) k.target (request_may i k.about))

  -- of all intentions
  pub all_asked : AllSent (flat_map (asks s) s.intents)
  all_asked = all_where FitsIntent FitsSent (asks s) asks_fit s.intents h.intents

  by_key : (k : IntentKey) (o : Option Intent) → intent_at s.intents k ≡ o → AllSent (pieces (asks s) o)
  by_key k None e = All-nil FitsSent
  by_key k (Some i) e = asks_fit i (found_fits s.intents k i h.intents e)

  -- and of those with these keys
  pub begun_asked : (ks : List IntentKey) → AllSent (flat_map (asks_by s) ks)
  begun_asked ks = all_parts FitsSent (asks_by s) ks (λ k. by_key k (intent_at s.intents k) refl)
