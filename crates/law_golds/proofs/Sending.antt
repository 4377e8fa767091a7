-- What is said of flags is said of the cells and the requests that a server sends.
use Rattle.std.proofs.Common.{ℕ, ◌≡◌, Bool, List, Option, None, Some, All, refl, sym, subst}
use Rattle.std.specs.Prelude.{nat_lt}
use Rattle.std.specs.List.{flat_map}
use Rattle.std.proofs.lemmas.List.Elements.{All-weaker}
use Rattle.law_frame.specs.pg_run.pg_base.declared.id.FileId.{FileId}
use Rattle.law_frame.specs.pg_run.pg_base.Version.{VersionValue}
use Rattle.law_frame.specs.pg_run.pg_edges.declared.key.Key.{Key}
use Rattle.law_frame.specs.pg_run.pg_edges.declared.key.Key.TheVariants as key
use Rattle.law_frame.specs.pg_run.pg_entries.declared.cell.Cell.{Cell}
use Rattle.law_frame.specs.pg_run.pg_entries.declared.cell.Cell.TheVariants as cells
use Rattle.law_frame.specs.pg_run.pg_entries.declared.entry.Entry.{Entry}
use Rattle.law_frame.specs.pg_run.pg_intent.declared.intent.Intent.{Intent}
use Rattle.law_frame.specs.pg_run.pg_intent.declared.intent.Intent.TheVariants as intent
use Rattle.law_frame.specs.pg_run.pg_intent.declared.key.IntentKey.{IntentKey}
use Rattle.law_frame.specs.pg_run.pg_msg.declared.message.Ends.{Ends}
use Rattle.law_frame.specs.pg_run.pg_msg.declared.message.Message.{Message}
use Rattle.law_frame.specs.pg_run.pg_msg.declared.message.Message.TheVariants as message
use Rattle.law_frame.specs.pg_run.pg_names.declared.attributes.Attributes.{Attributes}
use Rattle.law_frame.specs.pg_run.pg_names.Names.{cell_at as entry_at, own_at, own_or_blank}
use Rattle.law_frame.specs.pg_run.pg_register.declared.flag.Flag.{Flag}
use Rattle.law_frame.specs.pg_run.pg_register.Flag.{flag_of}
use Rattle.law_frame.specs.pg_run.pg_store.declared.store.Store.{Store}
use Rattle.law_frame.specs.pg_run.pg_store.Births.{birth_of}
use Rattle.law_frame.specs.pg_run.pg_store.Cells.{cell_at, entry_cell, flag_cell, is_sure, version_cell}
use Rattle.law_frame.specs.pg_run.pg_cells.Sending.{Wanted, cells_where, told_as}
use Rattle.law_frame.specs.pg_run.pg_intentions.Requests.{asks, asks_by, bye_message, confirm_message, leave_message}
use Rattle.law_frame.proofs.pg_run.theory_flood_pieces.Choices.{chosen}
use Rattle.law_frame.proofs.pg_run.Bags.{All-every}
use Rattle.law_frame.proofs.pg_run.Event.{AskHas, CellHas, asks_by_have, asks_have, cells_have}
use Rattle.law_births.specs.Flags.{AnyBye, SaysCell, SaysEntry, SaysIntent, SaysMessage, SaysStore}
use Rattle.law_births.proofs.Joined.{found_says}
use Rattle.law_births.proofs.StoreSays.{own_says}
use Rattle.law_golds.proofs.Says.{SaysSent}

module _ (Q : FileId → Flag → Type 0) (s : ℕ) (b : Store) (k : SaysStore Q AnyBye s b) where
  -- ---- cells

  flag_says : (f : FileId) (c : Cell) (o : Option Flag) → ((g : Flag) → o ≡ Some g → Q f g)
      → flag_cell o ≡ Some c → SaysCell Q f c
  flag_says f c None says there = cc
  flag_says f c (Some g) says there =
      subst (SaysCell Q f) (let same : cells.Flag g ≡ c = cc in same) (says g refl)

  entry_says : (f : FileId) (c : Cell) (o : Option Entry) (sure : Bool)
      → ((e : Entry) → o ≡ Some e → SaysEntry Q e) → entry_cell o sure ≡ Some c → SaysCell Q f c
  entry_says f c None sure says there = cc
  entry_says f c (Some e) sure says there =
      subst (SaysCell Q f) (let same : cells.Entry e sure ≡ c = cc in same) (says e refl)

  version_says : (f : FileId) (c : Cell) (o : Option VersionValue) → version_cell o ≡ Some c
      → SaysCell Q f c
  version_says f c None there = cc
  version_says f c (Some v) there =
      subst (SaysCell Q f) (let same : cells.Version v ≡ c = cc in same) tt

  own_child : (child : FileId) (e : Entry) → (e.child ≡ child) × All (Q child) e.flags
      → SaysEntry Q e
  own_child child e h =
      let P : FileId → Type 0 = (λ f. All (Q f) e.flags) in subst P (sym h.0) h.1

  cell_says : (f : FileId) (q : Key) (c : Cell) → cell_at b f q ≡ Some c → SaysCell Q f c
  cell_says f key.Place c there =
      subst (SaysCell Q f)
      (let same : cells.Place (own_or_blank b.names f).place ≡ c = cc in same) tt
  cell_says f (key.Flag n) c there =
      flag_says f c (flag_of (own_or_blank b.names f).flags n)
      (λ g is. found_says (Q f) (own_or_blank b.names f).flags n g (own_says Q AnyBye s b f k) is) there
  cell_says f (key.Entry child) c there =
      entry_says f c (entry_at b.names f child) (is_sure b f child)
      (λ e is. own_child child e (k.names.cells f child e is)) there
  cell_says f (key.Version stamp) c there = version_says f c _ there

  -- what tells of a cell
  told_says : (x : Ends) (tag : ℕ) (c : Cell) → SaysCell Q x.file c → SaysMessage Q (told_as x tag c)
  told_says x tag (cells.Place place) says = says
  told_says x tag (cells.Flag flag) says = says
  told_says x tag (cells.Entry e sure) says = says
  told_says x tag (cells.Version v) says =
      chosen (SaysMessage Q) (nat_lt 1024 v.head.length) (message.Harbinger x tag v.head) (message.Cell x tag (cells.Version v)) tt says

  pub cells_say : (wanted : Wanted) → All (SaysSent Q) (cells_where b wanted)
  cells_say wanted =
      cells_have (SaysSent Q) b wanted
      (All-every _ b.replicas
      (λ r. All-every _ r.1.edges
      (λ e. All-every (CellHas (SaysSent Q) b r.0 r.1 e) e.keys
      (λ q c is passes.
      told_says (record { file = r.0; sender = r.1.birth; receiver = e.birth }) q.1 c (cell_says r.0 q.0 c is)))))

  -- ---- requests

  confirm_says : (dir : FileId) (m : Message) (o : Option Entry)
      → ((e : Entry) → o ≡ Some e → SaysEntry Q e) → confirm_message dir o ≡ Some m
      → SaysMessage Q m
  confirm_says dir m None says there = cc
  confirm_says dir m (Some e) says there =
      subst (SaysMessage Q) (let same : message.Confirm dir e ≡ m = cc in same) (says e refl)

  leave_says : (file : FileId) (birth : ℕ) (m : Message) (o : Option Attributes) → leave_message b file birth o ≡ Some m → SaysMessage Q m
  leave_says file birth m None is = absurd (let z : ◌≡◌ {A = Option Message} None (Some m) = is in cc)
  leave_says file birth m (Some own) is =
      let x : Ends = record { file = file; sender = birth_of b file; receiver = birth } in
      subst (SaysMessage Q) (let same : message.Leave x own.place.stamp ≡ m = cc in same) tt

  ask_says : (i : Intent) → SaysIntent Q AnyBye i → AskHas (SaysSent Q) b i
  ask_says (intent.Bye file birth peer peer_birth) says m is some =
      subst (SaysMessage Q) (let same : bye_message file birth peer_birth ≡ m = cc in same) tt
  ask_says (intent.Seek file target) says m is some =
      subst (SaysMessage Q) (let same : message.Seek file (birth_of b file) ≡ m = cc in same) tt
  ask_says (intent.Fill file birth target) says m is some =
      subst (SaysMessage Q) (let same : message.Fetch file birth ≡ m = cc in same) tt
  ask_says (intent.Patch dir e target) says m is some =
      subst (SaysMessage Q) (let same : message.Tell dir e ≡ m = cc in same) says
  ask_says (intent.Confirm dir child target) says m is some =
      confirm_says dir m (entry_at b.names dir child)
      (λ e there. own_child child e (k.names.cells dir child e there)) is
  ask_says (intent.Leave file peer peer_birth) says m is some = leave_says file peer_birth m (own_at b.names file) is

  asks_say : All (AskHas (SaysSent Q) b) b.intents
  asks_say = All-weaker (SaysIntent Q AnyBye) (AskHas (SaysSent Q) b) ask_says b.intents k.intents

  pub asks_all : All (SaysSent Q) (flat_map (asks b) b.intents)
  asks_all = asks_have (SaysSent Q) b b.intents asks_say

  pub asks_some : (ks : List IntentKey) → All (SaysSent Q) (flat_map (asks_by b) ks)
  asks_some ks = asks_by_have (SaysSent Q) b ks asks_say
