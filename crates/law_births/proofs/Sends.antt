-- What is said of births and flags is said of the cells and the requests that a server sends.
use Rattle.std.proofs.Common.{ℕ, ◌≡◌, ◌==◌, Bool, true, false, cond, List, [], ◌∷◌, Option, None, Some, is_some, All, get_or, inl, inr, refl, sym, ap, subst, ◌∙◌}
use Rattle.std.specs.Prelude.{nat_lt}
use Rattle.std.specs.Option.{option_map}
use Rattle.std.specs.List.{flat_map}
use Rattle.std.specs.List.Sorted.{IsStrictlySortedBy}
use Rattle.std.specs.Map.{keys_of}
use Rattle.std.proofs.lemmas.Bool.{and_parts, eqb-true, false≢true}
use Rattle.std.proofs.lemmas.List.Elements.{All-head, All-tail, All-weaker}
use Rattle.pg_run.specs.pg_base.declared.id.FileId.{FileId}
use Rattle.pg_run.specs.pg_base.Id.{file_cmp}
use Rattle.pg_run.specs.pg_base.Version.{VersionValue}
use Rattle.pg_run.specs.pg_edges.declared.edge.Edge.{Edge}
use Rattle.pg_run.specs.pg_edges.Edges.{edge_to, is_listed, keys_if_born}
use Rattle.pg_run.specs.pg_edges.declared.key.Key.{Key}
use Rattle.pg_run.specs.pg_edges.declared.key.Key.TheVariants as key
use Rattle.pg_run.specs.pg_entries.declared.cell.Cell.{Cell}
use Rattle.pg_run.specs.pg_entries.declared.cell.Cell.TheVariants as cells
use Rattle.pg_run.specs.pg_entries.declared.entry.Entry.{Entry}
use Rattle.pg_run.specs.pg_intent.declared.intent.Intent.{Intent}
use Rattle.pg_run.specs.pg_intent.declared.intent.Intent.TheVariants as intent
use Rattle.pg_run.specs.pg_intent.Intent.{key_of}
use Rattle.pg_run.specs.pg_intent.Intents.{HaveOwnKeys, intent_at, stands}
use Rattle.pg_run.specs.pg_intent.declared.key.IntentKey.{IntentKey}
use Rattle.pg_run.specs.pg_intent.declared.key.IntentKey.TheVariants as intent_key
use Rattle.pg_run.proofs.pg_intent.Found.{stands_is}
use Rattle.pg_run.proofs.pg_intent.Stands.{all_found}
use Rattle.pg_run.specs.pg_msg.declared.message.Ends.{Ends}
use Rattle.pg_run.specs.pg_msg.declared.message.Message.{Message}
use Rattle.pg_run.specs.pg_msg.declared.message.Message.TheVariants as message
use Rattle.pg_run.specs.pg_msg.declared.message.Sent.{Sent}
use Rattle.pg_run.specs.pg_names.declared.attributes.Attributes.{Attributes}
use Rattle.pg_run.specs.pg_names.Names.{cell_at as entry_at, own_at, own_or_blank}
use Rattle.pg_run.specs.pg_register.declared.flag.Flag.{Flag}
use Rattle.pg_run.specs.pg_register.Flag.{flag_of}
use Rattle.pg_run.specs.pg_replica.declared.replica.Replica.{Replica}
use Rattle.pg_run.specs.pg_replica.Replicas.{lists_peer}
use Rattle.pg_run.specs.pg_store.declared.store.Store.{Store}
use Rattle.pg_run.specs.pg_store.Births.{birth_of, fill_at}
use Rattle.pg_run.specs.pg_store.Links.{is_linked}
use Rattle.pg_run.specs.pg_store.Cells.{cell_at, entry_cell, flag_cell, is_sure, version_cell}
use Rattle.pg_run.specs.pg_store.Seen.{server_of}
use Rattle.pg_run.specs.pg_store.Store.{is_held, replica_at}
use Rattle.pg_run.specs.pg_store.Together.{AreTogether, birth_at}
use Rattle.pg_run.specs.pg_cells.Sending.{Wanted, cells_where, told_as}
use Rattle.pg_run.specs.pg_graph.Leaving.{may_still_leave}
use Rattle.pg_run.specs.pg_intentions.Requests.{asks, asks_by, bye_message, confirm_message, leave_message}
use Rattle.pg_run.specs.pg_pieces.Posting.{sent_to}
use Rattle.pg_run.proofs.theory_flood_pieces.Choices.{chosen}
use Rattle.pg_run.proofs.theory_flood_pieces.Found.{entries_known}
use Rattle.pg_run.specs.Births.{ends_named}
use Rattle.pg_run.proofs.Bags.{All-every}
use Rattle.pg_run.proofs.Event.{AskHas, CellHas, asks_by_have, asks_have, cells_have}
use Rattle.law_births.specs.Flags.{SaysCell, SaysEntry, SaysIntent, SaysStore}
use Rattle.law_births.proofs.EndsSay.{SaysEnds, edges_all}
use Rattle.law_births.proofs.Ends.{ends}
use Rattle.law_births.proofs.Has.{Has}
use Rattle.law_births.proofs.Here.{birth_is, birth_of_held}
use Rattle.law_births.proofs.Joined.{found_says}
use Rattle.law_births.proofs.Pieces.{shape}
use Rattle.law_births.proofs.Mails.{OfBirths, Owed, SaysSent}
use Rattle.law_births.proofs.StoreSays.{own_says}

-- what other laws say of a server: its replicas are by file, just what is held has one, its
-- intentions are each of a key of its own, a Fill of what is held has the birth of the replica,
-- what is sought is held, and who is asked for leave is linked
pub record Sorted (b : Store) : Type 0 where
  pub order : IsStrictlySortedBy file_cmp (keys_of b.replicas)
  pub together : AreTogether b
  pub keys : HaveOwnKeys b.intents
  pub own : (file f : FileId) (birth target : ℕ) → fill_at b file ≡ Some (intent.Fill f birth target) → is_held b file ≡ true
      → birth_at b file ≡ Some birth
  pub sought : (file : FileId) → stands b.intents (intent_key.Seek file) ≡ true → is_held b file ≡ true
  pub left : (file : FileId) (peer birth : ℕ) → intent_at b.intents (intent_key.Leave file) ≡ Some (intent.Leave file peer birth)
      → may_still_leave b file peer birth ≡ true

-- an edge that is listed is one of them
born_to_peer : (R : ℕ → ℕ → Type 0) (p b : ℕ) (e : Edge) (u : Bool) → (e.birth == b) ≡ u → R p e.birth
    → is_some (cond u (Some e.keys) None) ≡ true → R p b
born_to_peer R p b e true same one g = subst (R p) (eqb-true e.birth b same) one
born_to_peer R p b e false apart one g = absurd (false≢true g)

listed_by : (R : ℕ → ℕ → Type 0) (p b : ℕ) (e : Edge) (es : List Edge) → R e.peer e.birth → (is_listed es p b ≡ true → R p b) → (t : Bool)
    → (e.peer == p) ≡ t → is_some (keys_if_born (cond t (Some e) (edge_to es p)) b) ≡ true → R p b
listed_by R p b e es one later true same g =
    let Q : ℕ → Type 0 = λ z. R z e.birth in
    born_to_peer R p b e (e.birth == b) refl (subst Q (eqb-true e.peer p same) one) g
listed_by R p b e es one later false apart g = later g

listed_is : (R : ℕ → ℕ → Type 0) (p b : ℕ) (es : List Edge) → All (λ (e : Edge). R e.peer e.birth) es → is_listed es p b ≡ true → R p b
listed_is R p b [] all h = absurd (false≢true h)
listed_is R p b (e ∷ es) all h =
    listed_by R p b e es (All-head (λ (x : Edge). R x.peer x.birth) e es all)
    (listed_is R p b es (All-tail (λ (x : Edge). R x.peer x.birth) e es all)) (e.peer == p) refl h

module _ (P : FileId → ℕ → ℕ → Type 0) (G : FileId → ℕ → Type 0) (s : ℕ) where
  abbrev pub Of : FileId → Flag → Type 0
  Of f flag = OfBirths P f flag

  abbrev pub Sends : Sent → Type 0
  Sends m = SaysSent P Of G s m

  -- ---- cells that are sent

  flag_says : (f : FileId) (c : Cell) (o : Option Flag) → ((g : Flag) → o ≡ Some g → Of f g) → flag_cell o ≡ Some c → SaysCell Of f c
  flag_says f c None says there = cc
  flag_says f c (Some g) says there = subst (SaysCell Of f) (let same : cells.Flag g ≡ c = cc in same) (says g refl)

  entry_says : (f : FileId) (c : Cell) (o : Option Entry) (sure : Bool) → ((e : Entry) → o ≡ Some e → SaysEntry Of e)
      → entry_cell o sure ≡ Some c → SaysCell Of f c
  entry_says f c None sure says there = cc
  entry_says f c (Some e) sure says there = subst (SaysCell Of f) (let same : cells.Entry e sure ≡ c = cc in same) (says e refl)

  version_says : (f : FileId) (c : Cell) (o : Option VersionValue) → version_cell o ≡ Some c → SaysCell Of f c
  version_says f c None there = cc
  version_says f c (Some v) there = subst (SaysCell Of f) (let same : cells.Version v ≡ c = cc in same) tt

  own_child : (child : FileId) (e : Entry) → (e.child ≡ child) × All (Of child) e.flags → SaysEntry Of e
  own_child child e k = let R : FileId → Type 0 = λ z. All (Of z) e.flags in subst R (sym k.0) k.1

  cell_says : (b : Store) (f : FileId) (q : Key) (c : Cell) → SaysStore Of (Owed P G s) s b → cell_at b f q ≡ Some c → SaysCell Of f c
  cell_says b f key.Place c k there =
      subst (SaysCell Of f) (let same : cells.Place (own_or_blank b.names f).place ≡ c = cc in same) tt
  cell_says b f (key.Flag n) c k there =
      flag_says f c (flag_of (own_or_blank b.names f).flags n)
      (λ g is. found_says (Of f) (own_or_blank b.names f).flags n g (own_says Of (Owed P G s) s b f k) is) there
  cell_says b f (key.Entry child) c k there =
      entry_says f c (entry_at b.names f child) (is_sure b f child) (λ e is. own_child child e (k.names.cells f child e is)) there
  cell_says b f (key.Version stamp) c k there = version_says f c _ there

  -- what tells of a cell
  told_says : (b : Store) (to : ℕ) (x : Ends) (tag : ℕ) (c : Cell) → server_of b ≡ s → ends_named P s to x → SaysCell Of x.file c
      → Sends (sent_to b to (told_as x tag c))
  told_says b to x tag (cells.Place place) server named says = (named, (says, server))
  told_says b to x tag (cells.Flag flag) server named says = (named, (says, server))
  told_says b to x tag (cells.Entry e sure) server named says = (named, (says, server))
  told_says b to x tag (cells.Version v) server named says =
      chosen (λ (m : Message). Sends (sent_to b to m)) (nat_lt 1024 v.head.length) (message.Harbinger x tag v.head)
      (message.Cell x tag (cells.Version v)) (named, (tt, server)) (named, (says, server))

  module _ (b : Store) (k : SaysStore Of (Owed P G s) s b) (edges : SaysEnds P b) (born : (f : FileId) (n : ℕ) → Has b f n → P f s n) (whole : Sorted b) where
    cell_has : (f : FileId) (x : Replica) (e : Edge) → P f s x.birth → P f e.peer e.birth → (q : Key × ℕ) → CellHas Sends b f x e q
    cell_has f x e here there q c is passes =
        told_says b e.peer (record { file = f; sender = x.birth; receiver = e.birth }) q.1 c k.names.server (here, there) (cell_says b f q.0 c k is)

    edge_has : (f : FileId) (x : Replica) → P f s x.birth → (e : Edge) → P f e.peer e.birth → All (CellHas Sends b f x e) e.keys
    edge_has f x here e there = All-every (CellHas Sends b f x e) e.keys (cell_has f x e here there)

    replica_has : (r : FileId × Replica) → replica_at b r.0 ≡ Some r.1
        → All (λ (e : Edge). All (CellHas Sends b r.0 r.1 e) e.keys) r.1.edges
    replica_has r there =
        let found = ap (option_map shape) there in
        let here = born r.0 r.1.birth (inl (ap (option_map (λ (y : Replica). y.birth)) there)) in
        All-weaker (λ (e : Edge). P r.0 e.peer e.birth) (λ (e : Edge). All (CellHas Sends b r.0 r.1 e) e.keys)
        (λ e one. edge_has r.0 r.1 here e one) r.1.edges
        (edges_all P r.0 r.1.edges (edges r.0 r.1.birth (ends r.1.edges) found))

    pub cells_say : (wanted : Wanted) → All Sends (cells_where b wanted)
    cells_say wanted =
        cells_have Sends b wanted
        (All-weaker (λ (r : FileId × Replica). replica_at b r.0 ≡ Some r.1)
        (λ (r : FileId × Replica). All (λ (e : Edge). All (CellHas Sends b r.0 r.1 e) e.keys) r.1.edges)
        (λ r there. replica_has r there) b.replicas (entries_known b whole.order))

    -- ---- what is asked

    confirm_says : (dir child : FileId) (to : ℕ) (m : Message) (o : Option Entry) → ((e : Entry) → o ≡ Some e → SaysEntry Of e)
        → confirm_message dir o ≡ Some m → Sends (sent_to b to m)
    confirm_says dir child to m None says there = cc
    confirm_says dir child to m (Some e) says there =
        subst (λ (z : Message). Sends (sent_to b to z)) (let same : message.Confirm dir e ≡ m = cc in same) (tt, (says e refl, k.names.server))

    fill_born : (f : FileId) (n t : ℕ) → fill_at b f ≡ Some (intent.Fill f n t) → (h : Bool) → is_held b f ≡ h → P f s n
    fill_born f n t there true held = born f n (inl (whole.own f f n t there held))
    fill_born f n t there false held = born f n (inr (inr (held, (f, t, there))))

    link_named : (f : FileId) (p m : ℕ) (o : Option Replica) → replica_at b f ≡ o → lists_peer o p m ≡ true → P f s (birth_of b f) × P f p m
    link_named f p m None there linked = absurd (false≢true linked)
    link_named f p m (Some x) there linked =
        let born_so = ap (option_map (λ (y : Replica). y.birth)) there in
        let found = ap (option_map shape) there in (
          subst (P f s) (sym (birth_is b f x.birth born_so)) (born f x.birth (inl born_so)),
          listed_is (λ u v. P f u v) p m x.edges (edges_all P f x.edges (edges f x.birth (ends x.edges) found)) linked,
        )

    leave_says : (f : FileId) (p m : ℕ) (q : Message) (o : Option Attributes) → may_still_leave b f p m ≡ true → leave_message b f m o ≡ Some q
        → Sends (sent_to b p q)
    leave_says f p m q None may there = absurd (let z : ◌≡◌ {A = Option Message} None (Some q) = there in cc)
    leave_says f p m q (Some own) may there =
        let linked = (and_parts (is_linked b f p m) _ may).0 in
        let named = link_named f p m (replica_at b f) refl linked in
        let ends_is : Ends = record { file = f; sender = birth_of b f; receiver = m } in
        subst (λ (z : Message). Sends (sent_to b p z)) (let same : message.Leave ends_is own.place.stamp ≡ q = cc in same)
        ((named.0, named.1), (tt, k.names.server))

    ask_says : (i : Intent) → SaysIntent Of (Owed P G s) i → intent_at b.intents (key_of i) ≡ Some i → AskHas Sends b i
    ask_says (intent.Bye f n p m) says found q is some =
        subst (λ (z : Message). Sends (sent_to b p z)) (let same : bye_message f n m ≡ q = cc in same) (says.0, (says.1, k.names.server))
    ask_says (intent.Seek f t) says found q is some =
        let stood : stands b.intents (intent_key.Seek f) ≡ true = stands_is b.intents (intent_key.Seek f) ∙ ap (λ (o : Option Intent). is_some o) found in
        let n = birth_of_held b whole.together f (whole.sought f stood) in
        let one : P f s (birth_of b f) = subst (P f s) (sym (birth_is b f n.0 n.1)) (born f n.0 (inl n.1)) in
        subst (λ (z : Message). Sends (sent_to b t z)) (let same : message.Seek f (birth_of b f) ≡ q = cc in same) (one, (tt, k.names.server))
    ask_says (intent.Fill f n t) says found q is some =
        subst (λ (z : Message). Sends (sent_to b t z)) (let same : message.Fetch f n ≡ q = cc in same)
        (fill_born f n t found (is_held b f) refl, (tt, k.names.server))
    ask_says (intent.Patch dir e t) says found q is some =
        subst (λ (z : Message). Sends (sent_to b t z)) (let same : message.Tell dir e ≡ q = cc in same) (tt, (says, k.names.server))
    ask_says (intent.Confirm dir child t) says found q is some =
        confirm_says dir child t q (entry_at b.names dir child) (λ e there. own_child child e (k.names.cells dir child e there)) is
    ask_says (intent.Leave f p m) says found q is some = leave_says f p m q (own_at b.names f) (whole.left f p m found) is

    asks_say : All (AskHas Sends b) b.intents
    asks_say i d lt =
        ask_says (get_or b.intents i d) (k.intents i d lt) (all_found b.intents whole.keys i d lt)

    pub asks_all : All Sends (flat_map (asks b) b.intents)
    asks_all = asks_have Sends b b.intents asks_say

    pub asks_some : (ks : List IntentKey) → All Sends (flat_map (asks_by b) ks)
    asks_some ks = asks_by_have Sends b ks asks_say
