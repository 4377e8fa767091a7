-- What intentions ask the edges do not read, it grants nothing, and is no walk; nor are cells.
use Rattle.std.proofs.Common.{ℕ, ◌≡◌, Option, None, Some, refl, sym, ap, subst, ◌∙◌, All}
use Rattle.std.specs.Prelude.{nat_lt}
use Rattle.std.proofs.lemmas.Option.{same_Some}
use Rattle.pg_run.specs.pg_base.declared.id.FileId.{FileId}
use Rattle.pg_run.specs.pg_edges.declared.edge.Edge.{Edge}
use Rattle.pg_run.specs.pg_entries.declared.cell.Cell.{Cell}
use Rattle.pg_run.specs.pg_entries.declared.cell.Cell.TheVariants as cell
use Rattle.pg_run.specs.pg_entries.declared.entry.Entry.{Entry}
use Rattle.pg_run.specs.theory_flood.Promises.Saying.{Other}
use Rattle.pg_run.specs.pg_intent.declared.intent.Intent.{Intent}
use Rattle.pg_run.specs.pg_intent.declared.intent.Intent.TheVariants as intent
use Rattle.pg_run.specs.pg_intent.Intent.{target_of}
use Rattle.pg_run.specs.pg_msg.declared.message.Ends.{Ends}
use Rattle.pg_run.specs.pg_msg.declared.message.Message.{Message}
use Rattle.pg_run.specs.pg_msg.declared.message.Message.TheVariants as message
use Rattle.pg_run.specs.pg_msg.declared.message.Sent.{Sent}
use Rattle.pg_run.specs.pg_names.declared.attributes.Attributes.{Attributes}
use Rattle.pg_run.specs.pg_names.Names.{cell_at, own_at}
use Rattle.pg_run.specs.pg_replica.declared.replica.Replica.{Replica}
use Rattle.pg_run.specs.pg_store.declared.store.Store.{Store}
use Rattle.pg_run.specs.pg_store.Births.{birth_of}
use Rattle.pg_run.specs.pg_store.Seen.{server_of}
use Rattle.pg_run.specs.pg_cells.Sending.{Wanted, cells_where, told_as}
use Rattle.pg_run.specs.pg_intentions.Requests.{bye_message, confirm_message, leave_message, request}
use Rattle.pg_run.specs.theory_flood_pieces.Seen.{says, saying}
use Rattle.pg_run.proofs.theory_flood_pieces.Choices.{chosen}
use Rattle.pg_run.proofs.Bags.{All-every}
use Rattle.pg_run.proofs.Event.{AskHas, CellHas, cells_have}
use Rattle.law_acks.proofs.Pieces.{IsWellSaid}

-- ---- what intentions ask the edges do not read

some_other : (from to : ℕ) (l m : Message) → saying from to l ≡ Other → ◌≡◌ {A = Option Message} (Some l) (Some m)
    → saying from to m ≡ Other
some_other from to l m other is = ap (saying from to) (sym (same_Some l m is)) ∙ other

confirm_other : (from to : ℕ) (dir : FileId) (o : Option Entry) (m : Message)
    → confirm_message dir o ≡ Some m → saying from to m ≡ Other
confirm_other from to dir None m is = absurd (let z : None ≡ Some m = is in cc)
confirm_other from to dir (Some e) m is = some_other from to (message.Confirm dir e) m refl is

leave_other : (b : Store) (from to : ℕ) (file : FileId) (birth : ℕ) (o : Option Attributes) (m : Message)
    → leave_message b file birth o ≡ Some m → saying from to m ≡ Other
leave_other b from to file birth None m is = absurd (let z : None ≡ Some m = is in cc)
leave_other b from to file birth (Some own) m is =
    some_other from to
    (message.Leave (record { file = file; sender = birth_of b file; receiver = birth }) own.place.stamp) m refl is

request_other : (b : Store) (from to : ℕ) (i : Intent) (m : Message) → request b i ≡ Some m
    → saying from to m ≡ Other
request_other b from to (intent.Bye file birth peer peer_birth) m is =
    some_other from to (bye_message file birth peer_birth) m refl is
request_other b from to (intent.Seek file target) m is =
    some_other from to (message.Seek file (birth_of b file)) m refl is
request_other b from to (intent.Fill file birth target) m is =
    some_other from to (message.Fetch file birth) m refl is
request_other b from to (intent.Patch dir e target) m is =
    some_other from to (message.Tell dir e) m refl is
request_other b from to (intent.Confirm dir child target) m is =
    confirm_other from to dir (cell_at b.names dir child) m is
request_other b from to (intent.Leave file peer peer_birth) m is =
    leave_other b from to file peer_birth (own_at b.names file) m is

abbrev pub IsUnread : Sent → Type 0
IsUnread m = says m ≡ Other

pub all_unread : (b : Store) → All (AskHas IsUnread b) b.intents
all_unread b =
    All-every (AskHas IsUnread b) b.intents
    (λ i m is asked. request_other b (server_of b) (target_of i) i m is)

-- nor are they grants or walks

abbrev pub IsWell : ℕ → Sent → Type 0
IsWell n m = IsWellSaid n m.packet.message

some_well : (n : ℕ) (l m : Message) → IsWellSaid n l → ◌≡◌ {A = Option Message} (Some l) (Some m) → IsWellSaid n m
some_well n l m well is = subst (IsWellSaid n) (same_Some l m is) well

confirm_well : (n : ℕ) (dir : FileId) (o : Option Entry) (m : Message) → confirm_message dir o ≡ Some m
    → IsWellSaid n m
confirm_well n dir None m is = absurd (let z : None ≡ Some m = is in cc)
confirm_well n dir (Some e) m is = some_well n (message.Confirm dir e) m tt is

leave_well : (n : ℕ) (b : Store) (file : FileId) (birth : ℕ) (o : Option Attributes) (m : Message)
    → leave_message b file birth o ≡ Some m → IsWellSaid n m
leave_well n b file birth None m is = absurd (let z : None ≡ Some m = is in cc)
leave_well n b file birth (Some own) m is =
    some_well n
    (message.Leave (record { file = file; sender = birth_of b file; receiver = birth }) own.place.stamp) m tt is

request_well : (n : ℕ) (b : Store) (i : Intent) (m : Message) → request b i ≡ Some m → IsWellSaid n m
request_well n b (intent.Bye file birth peer peer_birth) m is =
    some_well n (bye_message file birth peer_birth) m tt is
request_well n b (intent.Seek file target) m is = some_well n (message.Seek file (birth_of b file)) m tt is
request_well n b (intent.Fill file birth target) m is = some_well n (message.Fetch file birth) m tt is
request_well n b (intent.Patch dir e target) m is = some_well n (message.Tell dir e) m tt is
request_well n b (intent.Confirm dir child target) m is = confirm_well n dir (cell_at b.names dir child) m is
request_well n b (intent.Leave file peer peer_birth) m is =
    leave_well n b file peer_birth (own_at b.names file) m is

pub all_well : (n : ℕ) (b : Store) → All (AskHas (IsWell n) b) b.intents
all_well n b = All-every (AskHas (IsWell n) b) b.intents (λ i m is asked. request_well n b i m is)

told_well : (n : ℕ) (ends : Ends) (tag : ℕ) (c : Cell) → IsWellSaid n (told_as ends tag c)
told_well n ends tag (cell.Place place) = tt
told_well n ends tag (cell.Flag flag) = tt
told_well n ends tag (cell.Entry e sure) = tt
told_well n ends tag (cell.Version v) =
    chosen (IsWellSaid n) (nat_lt 1024 v.head.length) (message.Harbinger ends tag v.head) (message.Cell ends tag (cell.Version v)) tt tt

pub cells_well : (n : ℕ) (b : Store) (wanted : Wanted) → All (IsWell n) (cells_where b wanted)
cells_well n b wanted =
    cells_have (IsWell n) b wanted
    (All-every (λ (r : FileId × Replica). All (λ (e : Edge). All (CellHas (IsWell n) b r.0 r.1 e) e.keys) r.1.edges) b.replicas
    (λ r. All-every (λ (e : Edge). All (CellHas (IsWell n) b r.0 r.1 e) e.keys) r.1.edges
    (λ e. All-every (CellHas (IsWell n) b r.0 r.1 e) e.keys
    (λ q c is goes. told_well n (record { file = r.0; sender = r.1.birth; receiver = e.birth }) q.1 c))))
