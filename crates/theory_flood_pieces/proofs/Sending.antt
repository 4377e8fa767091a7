-- The cells that a server sends may be sent.
use Rattle.std.proofs.Common.{ℕ, ◌≡◌, ◌==◌, Bool, nat_lt, List, [], ◌∷◌, ◌++◌, get_or, Option, None, Some, option_map, refl, sym, ap, subst, ◌∙◌, All}
use Rattle.std.specs.List.{filter}
use Rattle.std.proofs.lemmas.List.Elements.{All-append, All-filter, All-head, All-tail, All-weaker}
use Rattle.pg_base.specs.declared.head.Head.{Head}
use Rattle.pg_base.specs.declared.id.FileId.{FileId}
use Rattle.pg_edges.specs.declared.edge.Edge.{Edge}
use Rattle.pg_edges.specs.declared.key.Key.{Key}
use Rattle.pg_edges.specs.declared.key.Key.TheVariants as key
use Rattle.pg_edges.specs.Edges.{edge_to}
use Rattle.pg_edges.specs.Keys.{tag_in}
use Rattle.theory_flood.specs.Promises.{Saying}
use Rattle.theory_flood.specs.Promises.Saying.{AckTo, CellFor, Other}
use Rattle.theory_flood.specs.Protocol.{tag}
use Rattle.theory_flood.specs.Server.{Slot, slot, tag_on}
use Rattle.theory_flood.proofs.Sends.{cell_may, none_sent, one_sent}
use Rattle.theory_flood.proofs.Servers.{some_same}
use Rattle.theory_flood.proofs.Steps.{AllMay, HasSoundTags, May}
use Rattle.pg_entries.specs.declared.cell.Cell.{Cell}
use Rattle.pg_entries.specs.declared.cell.Cell.TheVariants as cell
use Rattle.pg_entries.specs.declared.entry.Entry.{Entry}
use Rattle.pg_cells.specs.pg_msg.declared.message.Ends.{Ends}
use Rattle.pg_cells.specs.pg_msg.declared.message.Message.{Message}
use Rattle.pg_cells.specs.pg_msg.declared.message.Message.TheVariants as message
use Rattle.pg_cells.specs.pg_msg.declared.message.Sent.{Sent}
use Rattle.pg_cells.specs.pg_msg.declared.work.Work.{Work}
use Rattle.pg_cells.specs.pg_msg.Sent.{cell_key}
use Rattle.pg_cells.specs.pg_names.Names.{cell_at as entry_at, own_or_blank}
use Rattle.pg_register.specs.declared.flag.Flag.{Flag}
use Rattle.pg_register.specs.Flag.{flag_of}
use Rattle.pg_base.specs.Version.{VersionValue}
use Rattle.pg_cells.specs.pg_replica.declared.replica.Replica.{Replica}
use Rattle.pg_cells.specs.pg_replica.Replica.{cell_at as head_at}
use Rattle.pg_cells.proofs.pg_replica.Growth.{cell_head}
use Rattle.pg_cells.specs.pg_store.declared.store.Store.{Store}
use Rattle.pg_cells.specs.pg_store.Cells.{cell_at, entry_cell, flag_cell, is_sure, version_cell}
use Rattle.pg_cells.specs.pg_store.Seen.{server_of}
use Rattle.pg_cells.specs.pg_store.Store.{content_of, replica_at}
use Rattle.pg_cells.specs.pg_pieces.Posting.{sent_to}
use Rattle.pg_cells.specs.Finish.{finish}
use Rattle.pg_cells.specs.Sending.{Wanted, cell_to, cell_under, cells_where, edge_cells, is_any, is_chosen, key_cell, replica_cells, told_as, waits}
use Rattle.pg_cells.specs.Ticks.{tick}
use Rattle.theory_flood_pieces.specs.Seen.{Along, cells_in, head_cell, plain, says, saying, seen}
use Rattle.theory_flood_pieces.specs.Whole.{AreByChild, AreEdges, IsEdge, IsWhole}
use Rattle.theory_flood_pieces.proofs.Choices.{All-flat_map, chosen}
use Rattle.theory_flood_pieces.proofs.Flags.{flag_server}
use Rattle.theory_flood_pieces.proofs.Found.{edges_found, entries_known, keys_found, tag_on_edge}

-- ---- a cell stands at its own key

flag_key : (fs : List Flag) (n : ℕ) (c : Cell) (o : Option Flag) → flag_of fs n ≡ o → flag_cell o ≡ Some c → cell_key c ≡ key.Flag n
flag_key fs n c None e is = absurd (let z : None ≡ Some c = is in cc)
flag_key fs n c (Some f) e is = ap cell_key (sym (some_same (cell.Flag f) c is)) ∙ ap key.Flag (flag_server fs n f e)

entry_key : (b : Store) (f g : FileId) → AreByChild b.names → (c : Cell) (sure : Bool) (o : Option Entry) → entry_at b.names f g ≡ o → entry_cell o sure ≡ Some c → cell_key c ≡ key.Entry g
entry_key b f g own c sure None e is = absurd (let z : None ≡ Some c = is in cc)
entry_key b f g own c sure (Some x) e is = ap cell_key (sym (some_same (cell.Entry x sure) c is)) ∙ ap key.Entry (own f g x e)

version_key : (b : Store) (f : FileId) (q : Key) (c : Cell) (o : Option VersionValue) → head_at (content_of b f).heads q ≡ o → version_cell o ≡ Some c → cell_key c ≡ q
version_key b f q c None e is = absurd (let z : None ≡ Some c = is in cc)
version_key b f q c (Some v) e is = ap cell_key (sym (some_same (cell.Version v) c is)) ∙ sym (cell_head (content_of b f).heads q v e).1

pub own_key : (b : Store) → AreByChild b.names → (f : FileId) (q : Key) (c : Cell) → cell_at b f q ≡ Some c → cell_key c ≡ q
own_key b own f key.Place c is = ap cell_key (sym (some_same (cell.Place (own_or_blank b.names f).place) c is))
own_key b own f (key.Flag n) c is = flag_key (own_or_blank b.names f).flags n c (flag_of (own_or_blank b.names f).flags n) refl is
own_key b own f (key.Entry g) c is = entry_key b f g own c (is_sure b f g) (entry_at b.names f g) refl is
own_key b own f (key.Version stamp) c is = version_key b f (key.Version stamp) c (head_at (content_of b f).heads (key.Version stamp)) refl is

-- ---- harbingers

-- whatever its tag, it says what the version itself would, or nothing that the edges read
module _ (P : Saying Slot Cell → Type 0) (from to : ℕ) (ends : Ends) (head : Head) where
  pub harbinger_says : (tag : ℕ) → P (saying from to (message.Cell ends tag (head_cell head))) → P Other
      → P (saying from to (message.Harbinger ends tag head))
  harbinger_says tag told other =
      chosen P (tag == 0) Other (saying from to (message.Cell ends tag (head_cell head))) other told

-- so it is no answer
pub no_answer : (from to : ℕ) (ends : Ends) (tag : ℕ) (head : Head) (o : ℕ) (q : Slot) (g : ℕ)
    → saying from to (message.Harbinger ends tag head) ≡ AckTo o q g → ⊥
no_answer from to ends tag head o q g =
    harbinger_says (λ z. z ≡ AckTo o q g → ⊥) from to ends head tag (λ is. (let x = is in cc))
    (λ is. (let x : ◌≡◌ {A = Saying Slot Cell} Other (AckTo o q g) = is in cc))

-- ---- what is sent of one replica

-- a server came from a to b, having heard this
module _ (along : Along) (n s : ℕ) (a b : Store) (heard : Saying Slot Cell) (sound : HasSoundTags (cells_in along) b) (k : IsWhole n s b) where
  abbrev MaySend : List Sent → Type 0
  MaySend ms = AllMay (cells_in along) s a b heard ms

  module _ (f : FileId) (x : Replica) (here : replica_at b f ≡ Some x) (e : Edge) (edge : edge_to x.edges e.peer ≡ Some e) where
    abbrev BothEnds : Ends
    BothEnds = record { file = f; sender = x.birth; receiver = e.birth }

    abbrev Told : Message → Type 0
    Told m = May (cells_in along) s a b heard (says (sent_to b e.peer m))

    cell_sent : (q : Key) (c : Cell) (g : ℕ) → tag_in e.keys q ≡ Some g → cell_at b f q ≡ Some c → Told (message.Cell BothEnds g c)
    cell_sent q c g tagged is =
        let at : Slot = slot f x.birth e.peer e.birth q in
        let own : q ≡ cell_key c = sym (own_key b k.names.children f q c is) in
        let P : Key → Type 0 = λ z. May (cells_in along) s a b heard (CellFor (server_of b) (slot f x.birth e.peer e.birth z) g (plain c)) in
        let Q : ℕ → Type 0 = λ z. May (cells_in along) s a b heard (CellFor z at g (plain c)) in
        let stands : tag (cells_in along) b at ≡ Some g =
        ap (λ (o : Option Replica). tag_on (option_map (seen b f) o) at) here ∙ tag_on_edge x.edges e q (Some g) edge tagged in
        subst P own (subst Q (sym k.server)
        (cell_may (cells_in along) s a b heard at (seen b f x) (plain c) g sound (ap (option_map (seen b f)) here) refl (ap (option_map plain) is) stands))

    -- or the harbinger of a version
    pub harbinger_sent : (q : Key) (v : VersionValue) (g : ℕ) → tag_in e.keys q ≡ Some g → cell_at b f q ≡ Some (cell.Version v)
        → Told (message.Harbinger BothEnds g v.head)
    harbinger_sent q v g tagged is =
        harbinger_says (λ z. May (cells_in along) s a b heard z) (server_of b) e.peer BothEnds v.head g
        (cell_sent q (cell.Version v) g tagged is) tt

    -- so whatever tells of a cell may be
    told_sent : (q : Key) (c : Cell) (g : ℕ) → tag_in e.keys q ≡ Some g → cell_at b f q ≡ Some c → Told (told_as BothEnds g c)
    told_sent q (cell.Place place) g tagged is = cell_sent q (cell.Place place) g tagged is
    told_sent q (cell.Flag flag) g tagged is = cell_sent q (cell.Flag flag) g tagged is
    told_sent q (cell.Entry entry sure) g tagged is = cell_sent q (cell.Entry entry sure) g tagged is
    told_sent q (cell.Version v) g tagged is =
        chosen Told (nat_lt 1024 v.head.length) (message.Harbinger BothEnds g v.head) (message.Cell BothEnds g (cell.Version v))
        (harbinger_sent q v g tagged is) (cell_sent q (cell.Version v) g tagged is)

    under_may : (q : Key) (g : ℕ) (o : Option Cell) → tag_in e.keys q ≡ Some g → cell_at b f q ≡ o → MaySend (cell_under b f x.birth e g o)
    under_may q g None tagged is = none_sent (cells_in along) s a b heard
    under_may q g (Some c) tagged is = one_sent (cells_in along) s a b heard (cell_to b f x.birth e c g) [] (told_sent q c g tagged is) (none_sent (cells_in along) s a b heard)

    key_may : (q : Key × ℕ) → tag_in e.keys q.0 ≡ Some q.1 → MaySend (key_cell b f x.birth e q)
    key_may q tagged = chosen MaySend (waits b f e q.0) [] (cell_under b f x.birth e q.1 (cell_at b f q.0)) (none_sent (cells_in along) s a b heard) (under_may q.0 q.1 (cell_at b f q.0) tagged refl)

    edge_may : (wanted : Wanted) → IsEdge n s e → MaySend (edge_cells b wanted f x.birth e)
    edge_may wanted is =
        let test : Key × ℕ → Bool = λ q. wanted f e.peer q.0 in
        All-flat_map (λ m. May (cells_in along) s a b heard (says m)) (key_cell b f x.birth e) (filter test e.keys)
        (All-filter test (λ q. MaySend (key_cell b f x.birth e q)) e.keys
        (All-weaker (λ (q : Key × ℕ). tag_in e.keys q.0 ≡ Some q.1) (λ q. MaySend (key_cell b f x.birth e q)) key_may e.keys (keys_found e.keys is.sorted)))

  replica_may : (wanted : Wanted) (r : FileId × Replica) → replica_at b r.0 ≡ Some r.1 → AreEdges n s r.1.edges → MaySend (replica_cells b wanted r)
  replica_may wanted r here full =
      let found = edges_found 0 r.1.edges full.order in
      All-flat_map (λ m. May (cells_in along) s a b heard (says m)) (edge_cells b wanted r.0 r.1.birth) r.1.edges
      (λ i d lt. edge_may r.0 r.1 here (get_or r.1.edges i d) (found i d lt) wanted (full.each i d lt))

  -- ---- what is sent of all

  pub where_may : (wanted : Wanted) → MaySend (cells_where b wanted)
  where_may wanted =
      All-flat_map (λ m. May (cells_in along) s a b heard (says m)) (replica_cells b wanted) b.replicas
      (λ i d lt. replica_may wanted (get_or b.replicas i d) (entries_known b k.order i d lt) (k.replicas i d lt))

  more_may : (wanted : Wanted) (sent : List Sent) → MaySend sent → MaySend (sent ++ cells_where b wanted)
  more_may wanted sent h = All-append (λ m. May (cells_in along) s a b heard (says m)) sent (cells_where b wanted) h (where_may wanted)

  -- A TICK
  pub tick_may : (work : Work) → MaySend work.sent → MaySend (tick b work).sent
  tick_may work h = more_may is_any work.sent h

  -- THE END OF AN EVENT
  pub finish_may : (work : Work) → MaySend work.sent → MaySend (finish b work).sent
  finish_may work h = more_may (is_chosen work.touched work.linked) work.sent h

-- WHAT THE EDGES DO NOT READ
pub others_may : (along : Along) (s : ℕ) (a b : Store) (heard : Saying Slot Cell) (ms : List Sent) → All (λ m. says m ≡ Other) ms → AllMay (cells_in along) s a b heard ms
others_may along s a b heard [] h = none_sent (cells_in along) s a b heard
others_may along s a b heard (m ∷ ms) h =
    let P : Saying Slot Cell → Type 0 = λ x. May (cells_in along) s a b heard x in
    one_sent (cells_in along) s a b heard m ms (subst P (sym (All-head (λ z. says z ≡ Other) m ms h)) tt) (others_may along s a b heard ms (All-tail (λ z. says z ≡ Other) m ms h))
