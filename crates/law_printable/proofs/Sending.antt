-- What is sent at the end of an event, and what a tick sends, suits.
use Rattle.std.proofs.Common.{ℕ, ◌≡◌, ◌==◌, Bool, List, [], ◌∷◌, Option, None, Some, All, refl, subst, sym}
use Rattle.std.specs.List.{filter, flat_map}
use Rattle.std.specs.Prelude.{nat_lt}
use Rattle.std.proofs.lemmas.List.Elements.{All-append, All-cons, All-head, All-nil, All-tail}
use Rattle.law_frame.specs.pg_run.pg_base.declared.id.FileId.{FileId}
use Rattle.law_frame.specs.pg_run.pg_base.Version.{VersionValue}
use Rattle.law_frame.specs.pg_run.pg_base.declared.id.Kind.TheVariants.{Dir}
use Rattle.law_frame.specs.pg_run.pg_edges.declared.edge.Edge.{Edge}
use Rattle.law_frame.specs.pg_run.pg_edges.declared.key.Key.{Key}
use Rattle.law_frame.specs.pg_run.pg_edges.declared.key.Key.TheVariants as key
use Rattle.law_frame.specs.pg_run.pg_entries.declared.cell.Cell.{Cell}
use Rattle.law_frame.specs.pg_run.pg_entries.declared.cell.Cell.TheVariants as cell
use Rattle.law_frame.specs.pg_run.pg_entries.declared.entry.Entry.{Entry}
use Rattle.law_frame.specs.pg_run.pg_intent.declared.intent.Intent.{Intent}
use Rattle.law_frame.specs.pg_run.pg_intent.declared.intent.Intent.TheVariants as intent
use Rattle.law_frame.specs.pg_run.pg_intent.declared.key.IntentKey.{IntentKey}
use Rattle.law_frame.specs.pg_run.pg_intent.Intent.{target_of}
use Rattle.law_frame.specs.pg_run.pg_intent.Intents.{intent_at}
use Rattle.law_frame.specs.pg_run.pg_msg.declared.message.Ends.{Ends}
use Rattle.law_frame.specs.pg_run.pg_msg.declared.message.Message.{Message}
use Rattle.law_frame.specs.pg_run.pg_msg.declared.message.Message.TheVariants as message
use Rattle.law_frame.specs.pg_run.pg_names.declared.attributes.Attributes.{Attributes}
use Rattle.law_frame.specs.pg_run.pg_names.Names.{NamesValue, cell_at as entry_at, own_at, own_or_blank}
use Rattle.law_frame.specs.pg_run.pg_register.declared.flag.Flag.{Flag}
use Rattle.law_frame.specs.pg_run.pg_register.Flag.{flag_of}
use Rattle.law_frame.specs.pg_run.pg_replica.declared.replica.Replica.{Replica}
use Rattle.law_frame.specs.pg_run.pg_replica.Replica.{cell_at as head_at}
use Rattle.law_frame.specs.pg_run.pg_store.declared.store.Store.{Store}
use Rattle.law_frame.specs.pg_run.pg_store.Cells.{cell_at, entry_cell, flag_cell, is_sure, version_cell}
use Rattle.law_frame.specs.pg_run.pg_store.Store.{content_of}
use Rattle.law_frame.proofs.pg_run.pg_house.Truths.{chosen}
use Rattle.law_frame.specs.pg_run.pg_cells.Sending.{Wanted, cell_to, cell_under, cells_where, edge_cells, key_cell, replica_cells, told_as, waits}
use Rattle.law_frame.specs.pg_run.pg_pieces.Posting.{sent_to}
use Rattle.law_frame.specs.pg_run.pg_intentions.Intending.{pieces}
use Rattle.law_frame.specs.pg_run.pg_intentions.Requests.{asked_of, asks, asks_by, confirm_message, leave_message, request}
use Rattle.law_printable.proofs.Intents.{SuitsIntent, found_suits}
use Rattle.law_printable.proofs.Messages.{AllSuit, Suits, SuitsCell, SuitsPost, about_dir, sent_suits}
use Rattle.law_printable.proofs.Places.{NamesSuit, SuitsEntry, blank_suits, cell_suits}
use Rattle.law_printable.proofs.Stores.{StoreSuits}

-- ---- lists

all_parts : {A B : Type 0} (P : B → Type 0) (f : A → List B) (xs : List A) → ((x : A) → All P (f x)) → All P (flat_map f xs)
all_parts P f [] h = All-nil P
all_parts P f (x ∷ xs) h = All-append P (f x) (flat_map f xs) (h x) (all_parts P f xs h)

all_where : {A B : Type 0} (Q : A → Type 0) (P : B → Type 0) (f : A → List B) → ((x : A) → Q x → All P (f x)) → (xs : List A) → All Q xs
    → All P (flat_map f xs)
all_where Q P f each [] h = All-nil P
all_where Q P f each (x ∷ xs) h =
    All-append P (f x) (flat_map f xs) (each x (All-head Q x xs h)) (all_where Q P f each xs (All-tail Q x xs h))

-- ---- the cell of a key

-- there is none, or it suits
abbrev MaySuit : FileId → Option Cell → Type 0
MaySuit f None = Unit {0}
MaySuit f (Some c) = SuitsCell f c

flag_may : (f : FileId) (o : Option Flag) → MaySuit f (flag_cell o)
flag_may f None = tt
flag_may f (Some g) = tt

version_may : (f : FileId) (o : Option VersionValue) → MaySuit f (version_cell o)
version_may f None = tt
version_may f (Some v) = tt

own_child : (k : FileId) (e : Entry) → SuitsEntry k e → SuitsEntry e.child e
own_child k e h = subst (λ (q : FileId). SuitsEntry q e) (sym h.child) h

entry_may : (s : NamesValue) (f child : FileId) (o : Option Entry) (sure : Bool) → NamesSuit s → entry_at s f child ≡ o → MaySuit f (entry_cell o sure)
entry_may s f child None sure h e = tt
entry_may s f child (Some c) sure h e = own_child child c (cell_suits s h f child c e)

key_may : (s : Store) (f : FileId) (k : Key) → NamesSuit s.names → MaySuit f (cell_at s f k)
key_may s f key.Place h = blank_suits s.names h f
key_may s f (key.Flag server) h = flag_may f (flag_of (own_or_blank s.names f).flags server)
key_may s f (key.Entry child) h = entry_may s.names f child (entry_at s.names f child) (is_sure s f child) h refl
key_may s f (key.Version stamp) h = version_may f (head_at (content_of s f).heads (key.Version stamp))

-- ---- cells that are sent

whole_suits : (s : Store) (to : ℕ) (ends : Ends) (tag : ℕ) (c : Cell) → SuitsCell ends.file c → Suits (sent_to s to (message.Cell ends tag c))
whole_suits s to ends tag c k = record { told = record { about = λ h. h; told = λ h. h }; carried = k }

-- it is told of as a whole, or by its head
told_suits : (s : Store) (to : ℕ) (ends : Ends) (tag : ℕ) (c : Cell) → SuitsCell ends.file c → Suits (sent_to s to (told_as ends tag c))
told_suits s to ends tag (cell.Place place) k = whole_suits s to ends tag (cell.Place place) k
told_suits s to ends tag (cell.Flag flag) k = whole_suits s to ends tag (cell.Flag flag) k
told_suits s to ends tag (cell.Entry entry sure) k = whole_suits s to ends tag (cell.Entry entry sure) k
told_suits s to ends tag (cell.Version v) k =
    chosen (λ (m : Message). Suits (sent_to s to m)) (nat_lt 1024 v.head.length) (message.Harbinger ends tag v.head) (message.Cell ends tag (cell.Version v))
    (record { told = record { about = λ h. h; told = λ h. h }; carried = tt }) (whole_suits s to ends tag (cell.Version v) k)

under_suits : (s : Store) (f : FileId) (birth : ℕ) (e : Edge) (tag : ℕ) (o : Option Cell) → MaySuit f o
    → AllSuit (cell_under s f birth e tag o)
under_suits s f birth e tag None k = All-nil Suits
under_suits s f birth e tag (Some c) k =
    let ends : Ends = record { file = f; sender = birth; receiver = e.birth } in
    All-cons Suits (cell_to s f birth e c tag) [] (told_suits s e.peer ends tag c k) (All-nil Suits)

module _ (s : Store) (h : NamesSuit s.names) (wanted : Wanted) where
  keys_suit : (f : FileId) (birth : ℕ) (e : Edge) (k : Key × ℕ) → AllSuit (key_cell s f birth e k)
  keys_suit f birth e k =
      chosen AllSuit (waits s f e k.0) [] (cell_under s f birth e k.1 (cell_at s f k.0)) (All-nil Suits)
      (under_suits s f birth e k.1 (cell_at s f k.0) (key_may s f k.0 h))

  edge_suits : (f : FileId) (birth : ℕ) (e : Edge) → AllSuit (edge_cells s wanted f birth e)
  edge_suits f birth e = all_parts Suits (key_cell s f birth e) (filter (λ k. wanted f e.peer k.0) e.keys) (keys_suit f birth e)

  replica_suits : (r : FileId × Replica) → AllSuit (replica_cells s wanted r)
  replica_suits r = all_parts Suits (edge_cells s wanted r.0 r.1.birth) r.1.edges (edge_suits r.0 r.1.birth)

  pub cells_suit : AllSuit (cells_where s wanted)
  cells_suit = all_parts Suits (replica_cells s wanted) s.replicas replica_suits

-- ---- messages of intentions

-- there is none, or it suits
abbrev MayPost : Option Message → Type 0
MayPost None = Unit {0}
MayPost (Some m) = SuitsPost m

module _ (s : Store) (h : StoreSuits s) where
  confirm_may : (dir child : FileId) (o : Option Entry) → dir.kind ≡ Dir → entry_at s.names dir child ≡ o → MayPost (confirm_message dir o)
  confirm_may dir child None k e = tt
  confirm_may dir child (Some c) k e = record {
    about = about_dir dir k;
    told = λ g. g;
    carried = (k, own_child child c (cell_suits s.names h.names dir child c e));
  }

  leave_may : (f : FileId) (peer : ℕ) (o : Option Attributes) → MayPost (leave_message s f peer o)
  leave_may f peer None = tt
  leave_may f peer (Some own) = record { about = λ g. g; told = λ g. g; carried = tt }

  request_may : (i : Intent) → SuitsIntent i → MayPost (request s i)
  request_may (intent.Bye file birth peer peer_birth) k = record { about = λ g. g; told = λ g. g; carried = tt }
  request_may (intent.Seek file target) k = record { about = λ g. g; told = λ g. g; carried = tt }
  request_may (intent.Fill file birth target) k = record { about = λ g. g; told = λ g. g; carried = tt }
  request_may (intent.Patch dir entry target) k = record { about = about_dir dir k.0; told = λ g. g; carried = k }
  request_may (intent.Confirm dir child target) k = confirm_may dir child (entry_at s.names dir child) k refl
  request_may (intent.Leave file peer peer_birth) k = leave_may file peer_birth (own_at s.names file)

  asked_suits : (to : ℕ) (o : Option Message) → MayPost o → AllSuit (asked_of s to o)
  asked_suits to None k = All-nil Suits
  asked_suits to (Some m) k = All-cons Suits (sent_to s to m) [] (sent_suits s to m k) (All-nil Suits)

  asks_suit : (i : Intent) → SuitsIntent i → AllSuit (asks s i)
  asks_suit i k =
      chosen AllSuit (target_of i == 0) [] (asked_of s (target_of i) (request s i)) (All-nil Suits)
      (asked_suits (target_of i) (request s i) (request_may i k))

  -- of all intentions
  pub all_asked : AllSuit (flat_map (asks s) s.intents)
  all_asked = all_where SuitsIntent Suits (asks s) asks_suit s.intents h.intents

  by_key : (k : IntentKey) (o : Option Intent) → intent_at s.intents k ≡ o → AllSuit (pieces (asks s) o)
  by_key k None e = All-nil Suits
  by_key k (Some i) e = asks_suit i (found_suits s.intents k i h.intents e)

  -- and of those with these keys
  pub begun_asked : (ks : List IntentKey) → AllSuit (flat_map (asks_by s) ks)
  begun_asked ks = all_parts Suits (asks_by s) ks (λ k. by_key k (intent_at s.intents k) refl)
