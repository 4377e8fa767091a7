-- What a server sends at the end of an event, and at a tick, it may send: present cells, and the
-- messages of its intentions.
use Rattle.std.proofs.Common.{ℕ, ◌≡◌, ◌==◌, not, Bool, true, false, List, [], ◌∷◌, filter, get_or, Option, None, Some, is_some, refl, sym, ap, subst, ◌∙◌, All}
use Rattle.std.specs.List.{AllByRecursion, flat_map}
use Rattle.std.specs.Prelude.{nat_lt}
use Rattle.std.proofs.lemmas.Bool.{false≢true}
use Rattle.std.proofs.lemmas.List.Elements.{All-append, All-cons, All-nil, All-weaker}
use Rattle.std.proofs.lemmas.Option.{none-some, same_Some}
use Rattle.pg_run.specs.pg_base.declared.id.FileId.{FileId}
use Rattle.pg_run.specs.pg_base.Version.{VersionValue}
use Rattle.pg_run.specs.pg_edges.declared.edge.Edge.{Edge}
use Rattle.pg_run.specs.pg_edges.declared.key.Key.{Key}
use Rattle.pg_run.specs.pg_edges.declared.key.Key.TheVariants as key
use Rattle.pg_run.specs.pg_entries.declared.cell.Cell.{Cell}
use Rattle.pg_run.specs.pg_entries.declared.cell.Cell.TheVariants as cells
use Rattle.pg_run.specs.pg_entries.declared.entry.Entry.{Entry}
use Rattle.pg_run.proofs.pg_house.Going.{HaveChildren}
use Rattle.pg_run.specs.pg_intent.declared.intent.Intent.{Intent}
use Rattle.pg_run.specs.pg_intent.declared.intent.Intent.TheVariants as intent
use Rattle.pg_run.specs.pg_intent.declared.key.IntentKey.{IntentKey}
use Rattle.pg_run.specs.pg_intent.declared.key.IntentKey.TheVariants as intent_key
use Rattle.pg_run.specs.pg_intent.Intent.{key_of, target_of}
use Rattle.pg_run.specs.pg_intent.Intents.{HaveOwnKeys, intent_at}
use Rattle.pg_run.proofs.pg_intent.Found.{stands_is}
use Rattle.pg_run.proofs.pg_intent.SameKey.{is_same_key-true}
use Rattle.pg_run.proofs.pg_intent.Stands.{each_found}
use Rattle.theory_listing.specs.Rule.{MaySend}
use Rattle.pg_run.specs.pg_msg.declared.message.Ends.{Ends}
use Rattle.pg_run.specs.pg_msg.declared.message.Message.{Message}
use Rattle.pg_run.specs.pg_msg.declared.message.Message.TheVariants as message
use Rattle.pg_run.specs.pg_msg.declared.message.Sent.{Sent}
use Rattle.pg_run.specs.pg_names.declared.attributes.Attributes.{Attributes}
use Rattle.pg_run.specs.pg_names.Names.{cell_at as entry_at, own_at, own_or_blank}
use Rattle.law_places.proofs.OnePlace.{found_key}
use Rattle.pg_run.proofs.theory_flood_pieces.Choices.{All-flat_map, chosen}
use Rattle.pg_run.specs.pg_register.declared.flag.Flag.{Flag}
use Rattle.pg_run.specs.pg_register.Flag.{flag_of}
use Rattle.pg_run.specs.pg_replica.declared.replica.Replica.{Replica}
use Rattle.pg_run.specs.pg_replica.Replica.{cell_at as head_at}
use Rattle.theory_listing_house.specs.Listing.{cell_place}
use Rattle.pg_run.specs.pg_store.declared.store.Store.{Store}
use Rattle.pg_run.specs.pg_store.Cells.{cell_at, entry_cell, flag_cell, is_sure, version_cell}
use Rattle.pg_run.specs.pg_store.Store.{content_of}
use Rattle.pg_run.specs.pg_pieces.Posting.{sent_to}
use Rattle.pg_run.specs.pg_cells.Sending.{Wanted, cell_to, cell_under, cells_where, edge_cells, key_cell, replica_cells, told_as, waits}
use Rattle.pg_run.specs.pg_intentions.Intending.{pieces}
use Rattle.pg_run.specs.pg_intentions.Requests.{asked_of, asks, asks_by, confirm_message, leave_message, request}
use Rattle.law_listings.specs.Letters.{of_stores, patch_place, says, told_by}
use Rattle.law_listings.proofs.Plain.{IsOther, IsSentStamped, IsStamped, Others}

-- the server held a before the event, and b behind it
module _ (a b : Store) where
  -- by what the server was and is
  abbrev May : Message → Type 0
  May m = MaySend of_stores b (says a m) × ((from : ℕ) → IsStamped a from m)

  abbrev pub MaySent : Sent → Type 0
  MaySent x = MaySend of_stores b (says a x.packet.message) × IsSentStamped a x

  abbrev pub AllMay : List Sent → Type 0
  AllMay ms = All MaySent ms

  none : AllMay []
  none = All-nil MaySent

  -- what tells of no place may be sent
  pub others_may : (ms : List Sent) → Others ms → AllMay ms
  others_may ms h = All-weaker IsOther MaySent (λ m other. (subst (MaySend of_stores b) (sym (other a m.packet.from).0) tt, (other a m.packet.from).1)) ms h

  -- ---- cells

  module _ (children : HaveChildren b.names) where
    -- the cell of a key, in any message
    abbrev MayTell : FileId → Cell → Type 0
    MayTell f c = MaySend of_stores b (told_by f c)

    flag_may : (f : FileId) (c : Cell) (o : Option Flag) → flag_cell o ≡ Some c → MayTell f c
    flag_may f c None h = absurd (none-some c h)
    flag_may f c (Some g) h = subst (MayTell f) (same_Some (cells.Flag g) c h) tt

    version_may : (f : FileId) (c : Cell) (o : Option VersionValue) → version_cell o ≡ Some c → MayTell f c
    version_may f c None h = absurd (none-some c h)
    version_may f c (Some v) h = subst (MayTell f) (same_Some (cells.Version v) c h) tt

    -- it is sure of a child where it owes no Confirm
    sure_by : (f g : FileId) → is_sure b f g ≡ true → of_stores.Confirms b f g → ⊥
    sure_by f g sure owes =
        let some : is_some (intent_at b.intents (intent_key.Confirm f g)) ≡ true = sym (stands_is b.intents (intent_key.Confirm f g)) ∙ owes in
        false≢true (sym (ap not some) ∙ sure)

    sure_entry : (f g : FileId) (x : Entry) → entry_at b.names f g ≡ Some x → (t : Bool) → is_sure b f g ≡ t → MayTell f (cells.Entry x t)
    sure_entry f g x held false sure = tt
    sure_entry f g x held true sure =
        let at : g ≡ x.child = sym (children f g x held) in
        (ap (λ (i : FileId). of_stores.cell b f i) (sym at) ∙ ap cell_place held, λ owes. sure_by f g sure (subst (λ (i : FileId). of_stores.Confirms b f i) (sym at) owes))

    entry_may : (f g : FileId) (c : Cell) (o : Option Entry) → entry_at b.names f g ≡ o → entry_cell o (is_sure b f g) ≡ Some c → MayTell f c
    entry_may f g c None held h = absurd (none-some c h)
    entry_may f g c (Some x) held h = subst (MayTell f) (same_Some (cells.Entry x (is_sure b f g)) c h) (sure_entry f g x held (is_sure b f g) refl)

    cell_may : (f : FileId) (q : Key) (c : Cell) → cell_at b f q ≡ Some c → MayTell f c
    cell_may f key.Place c h = subst (MayTell f) (same_Some (cells.Place (own_or_blank b.names f).place) c h) tt
    cell_may f (key.Flag m) c h = flag_may f c (flag_of (own_or_blank b.names f).flags m) h
    cell_may f (key.Entry g) c h = entry_may f g c (entry_at b.names f g) refl h
    cell_may f (key.Version stamp) c h = version_may f c (head_at (content_of b f).heads (key.Version stamp)) h

    -- so is what tells of it: of a version by its head alone, where that is long
    told_may : (ends : Ends) (tag : ℕ) (c : Cell) → MayTell ends.file c → May (told_as ends tag c)
    told_may ends tag (cells.Place place) h = (h, λ from. tt)
    told_may ends tag (cells.Flag flag) h = (h, λ from. tt)
    told_may ends tag (cells.Entry entry sure) h = (h, λ from. tt)
    told_may ends tag (cells.Version v) h =
        chosen May (nat_lt 1024 v.head.length) (message.Harbinger ends tag v.head) (message.Cell ends tag (cells.Version v)) (h, λ from. tt) (h, λ from. tt)

    under_may : (f : FileId) (birth : ℕ) (e : Edge) (q : Key) (tag : ℕ) (o : Option Cell) → cell_at b f q ≡ o → AllMay (cell_under b f birth e tag o)
    under_may f birth e q tag None h = none
    under_may f birth e q tag (Some c) h =
        let m = cell_to b f birth e c tag in
        let k = told_may (record { file = f; sender = birth; receiver = e.birth }) tag c (cell_may f q c h) in
        All-cons MaySent m [] (k.0, k.1 m.packet.from) none

    key_may : (f : FileId) (birth : ℕ) (e : Edge) (q : Key × ℕ) → AllMay (key_cell b f birth e q)
    key_may f birth e q = chosen AllMay (waits b f e q.0) [] (cell_under b f birth e q.1 (cell_at b f q.0)) none (under_may f birth e q.0 q.1 (cell_at b f q.0) refl)

    edge_may : (wanted : Wanted) (f : FileId) (birth : ℕ) (e : Edge) → AllMay (edge_cells b wanted f birth e)
    edge_may wanted f birth e =
        let ks = filter (λ (q : Key × ℕ). wanted f e.peer q.0) e.keys in
        All-flat_map MaySent (key_cell b f birth e) ks (λ i d lt. key_may f birth e (get_or ks i d))

    replica_may : (wanted : Wanted) (r : FileId × Replica) → AllMay (replica_cells b wanted r)
    replica_may wanted r = All-flat_map MaySent (edge_cells b wanted r.0 r.1.birth) r.1.edges (λ i d lt. edge_may wanted r.0 r.1.birth (get_or r.1.edges i d))

    pub cells_may : (wanted : Wanted) → AllMay (cells_where b wanted)
    cells_may wanted = All-flat_map MaySent (replica_cells b wanted) b.replicas (λ i d lt. replica_may wanted (get_or b.replicas i d))

  -- ---- the messages of intentions

  confirm_may : (dir : FileId) (o : Option Entry) (m : Message) → confirm_message dir o ≡ Some m → May m
  confirm_may dir None m h = absurd (none-some m h)
  confirm_may dir (Some e) m h = subst May (same_Some (message.Confirm dir e) m h) (tt, λ from. tt)

  leave_may : (f : FileId) (peer : ℕ) (o : Option Attributes) (m : Message) → leave_message b f peer o ≡ Some m → May m
  leave_may f peer None m h = absurd (none-some m h)
  leave_may f peer (Some own) m h = subst May (same_Some _ m h) (tt, λ from. tt)

  -- of one that is found by its key
  request_may : (i : Intent) → intent_at b.intents (key_of i) ≡ Some i → (m : Message) → request b i ≡ Some m → May m
  request_may (intent.Bye f birth peer other) found m h = subst May (same_Some _ m h) (tt, λ from. tt)
  request_may (intent.Seek f target) found m h = subst May (same_Some _ m h) (tt, λ from. tt)
  request_may (intent.Fill f birth target) found m h = subst May (same_Some _ m h) (tt, λ from. tt)
  request_may (intent.Patch d e target) found m h = subst May (same_Some (message.Tell d e) m h) (ap patch_place found, λ from. tt)
  request_may (intent.Confirm d c target) found m h = confirm_may d (entry_at b.names d c) m h
  request_may (intent.Leave f peer other) found m h = leave_may f other (own_at b.names f) m h

  asked_may : (to : ℕ) (o : Option Message) → ((m : Message) → o ≡ Some m → May m) → AllMay (asked_of b to o)
  asked_may to None may = none
  asked_may to (Some m) may = (let k = may m refl in All-cons MaySent (sent_to b to m) [] (k.0, k.1 (sent_to b to m).packet.from) none)

  asks_may : (i : Intent) → intent_at b.intents (key_of i) ≡ Some i → AllMay (asks b i)
  asks_may i found = chosen AllMay (target_of i == 0) [] (asked_of b (target_of i) (request b i)) none (asked_may (target_of i) (request b i) (request_may i found))

  by_may : (k : IntentKey) (o : Option Intent) → intent_at b.intents k ≡ o → AllMay (pieces (asks b) o)
  by_may k None h = none
  by_may k (Some i) h = asks_may i (ap (intent_at b.intents) (sym (is_same_key-true k (key_of i) (found_key b.intents k i h))) ∙ h)

  -- of those that began
  pub begun_may : (ks : List IntentKey) → AllMay (flat_map (asks_by b) ks)
  begun_may [] = none
  begun_may (k ∷ ks) = All-append MaySent (asks_by b k) (flat_map (asks_by b) ks) (by_may k (intent_at b.intents k) refl) (begun_may ks)

module _ (a b : Store) where
  each_may : (is : List Intent) → AllByRecursion (λ (i : Intent). intent_at b.intents (key_of i) ≡ Some i) is → AllMay a b (flat_map (asks b) is)
  each_may [] h = All-nil (MaySent a b)
  each_may (i ∷ is) h = All-append (MaySent a b) (asks b i) (flat_map (asks b) is) (asks_may a b i h.0) (each_may is h.1)

  pub all_may : HaveOwnKeys b.intents → AllMay a b (flat_map (asks b) b.intents)
  all_may own = each_may b.intents (each_found b.intents own)
