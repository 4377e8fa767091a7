-- What is sent of what is known and intended is said too.
use Rattle.std.proofs.Common.{ℕ, ◌≡◌, ◌==◌, ◌++◌, Bool, true, false, cond, List, [], ◌∷◌, Option, None, Some, All, get_or, nat_lt, refl, sym, ap, subst}
use Rattle.std.specs.List.{filter, find, flat_map}
use Rattle.std.proofs.lemmas.List.Elements.{All-append, All-cons, All-head, All-nil, All-tail}
use Rattle.std.proofs.lemmas.Option.{none-some, same_Some}
use Rattle.law_frame.specs.pg_run.pg_base.declared.id.FileId.{FileId}
use Rattle.law_frame.specs.pg_run.pg_edges.declared.edge.Edge.{Edge}
use Rattle.law_frame.specs.pg_run.pg_edges.declared.key.Key.{Key}
use Rattle.law_frame.specs.pg_run.pg_edges.declared.key.Key.TheVariants as key
use Rattle.law_frame.specs.pg_run.pg_entries.declared.cell.Cell.{Cell}
use Rattle.law_frame.specs.pg_run.pg_entries.declared.cell.Cell.TheVariants as cell_kind
use Rattle.law_frame.specs.pg_run.pg_entries.declared.entry.Entry.{Entry}
use Rattle.law_frame.specs.pg_run.pg_base.Version.{VersionValue}
use Rattle.law_frame.specs.pg_run.pg_intent.declared.intent.Intent.{Intent}
use Rattle.law_frame.specs.pg_run.pg_intent.declared.intent.Intent.TheVariants as intent
use Rattle.law_frame.specs.pg_run.pg_intent.declared.key.IntentKey.{IntentKey}
use Rattle.law_frame.specs.pg_run.pg_intent.Intent.{target_of}
use Rattle.law_frame.specs.pg_run.pg_intent.Intents.{intent_at}
use Rattle.law_frame.specs.pg_run.pg_msg.declared.message.Ends.{Ends}
use Rattle.law_frame.specs.pg_run.pg_msg.declared.message.Message.{Message}
use Rattle.law_frame.specs.pg_run.pg_msg.declared.message.Message.TheVariants as message
use Rattle.law_frame.specs.pg_run.pg_msg.declared.message.Sent.{Sent}
use Rattle.law_frame.specs.pg_run.pg_msg.declared.work.Work.{Work}
use Rattle.law_frame.specs.pg_run.pg_names.declared.attributes.Attributes.{Attributes}
use Rattle.law_frame.specs.pg_run.pg_names.Names.{cell_at as entry_at, or_blank, own_at, own_or_blank}
use Rattle.law_frame.specs.pg_run.pg_register.declared.flag.Flag.{Flag}
use Rattle.law_frame.specs.pg_run.pg_register.Flag.{flag_of}
use Rattle.law_frame.specs.pg_run.pg_replica.declared.replica.Replica.{Replica}
use Rattle.law_frame.specs.pg_run.pg_replica.Replica.{cell_at as head_at}
use Rattle.law_frame.proofs.pg_run.pg_house.Greatest.{cell_held}
use Rattle.law_frame.specs.pg_run.pg_store.declared.store.Store.{Store}
use Rattle.law_frame.specs.pg_run.pg_store.Cells.{cell_at, entry_cell, flag_cell, is_sure, version_cell}
use Rattle.law_frame.specs.pg_run.pg_store.Store.{content_of, replica_at}
use Rattle.law_frame.specs.pg_run.pg_pieces.Done.{Done}
use Rattle.law_frame.specs.pg_run.pg_cells.Finish.{finish}
use Rattle.law_frame.specs.pg_run.pg_cells.Sending.{Wanted, cell_under, cells_where, edge_cells, is_any, is_chosen, key_cell, replica_cells, told_as, waits}
use Rattle.law_frame.specs.pg_run.pg_cells.Ticks.{tick}
use Rattle.law_frame.specs.pg_run.pg_intentions.Intending.{pieces}
use Rattle.law_frame.specs.pg_run.pg_intentions.Requests.{ask_all, ask_begun, asked_of, asks, asks_by, confirm_message, leave_message, request}
use Rattle.law_frame.proofs.pg_run.theory_flood_pieces.Choices.{All-flat_map, chosen}
use Rattle.law_frame.proofs.pg_run.theory_flood_pieces.Found.{entries_known}
use Rattle.law_frame.proofs.pg_run.theory_flood_pieces.Together.{held_of_replica, own_of_held}
use Rattle.law_order.specs.Saying.{IsClosed, IsIntended, IsSaidCell, IsSaidOfCell, IsSaidOfMessage, IsSaidOwn, IsSaidTold, Saying}
use Rattle.law_order.proofs.HouseSays.{AreLeft}
use Rattle.law_order.proofs.Pieces.{found_has}
use Rattle.law_order.proofs.Sounding.{Sound}

abbrev pub AreSaidOf : Saying → List Sent → Type 0
AreSaidOf p ms = All (λ (m : Sent). IsSaidOfMessage p m.packet.message) ms

-- in the midst of an event: it is said of what is known, of the places that were replaced, and of
-- what is sent
pub record IsSoundSoFar (p : Saying) (c : IsClosed p) (n s : ℕ) (d : Done) : Type 0 where
  pub store : Sound p n s d.store
  pub left : AreLeft p c d.work.left
  pub sent : AreSaidOf p d.work.sent
  pub tail : AreSaidOf p d.work.tail

-- what a search finds has what all have
found_all : {A : Type 0} (P : A → Type 0) (test : A → Bool) (x : A) (xs : List A) → All P xs → find test xs ≡ Some x → P x
found_all P test x [] all h = absurd (none-some x h)
found_all P test x (y ∷ ys) all h = at (test y) (found_all P test x ys (All-tail P y ys all)) h
  where
    at : (t : Bool) → (find test ys ≡ Some x → P x) → cond t (Some y) (find test ys) ≡ Some x → P x
    at true rest same = subst P (same_Some y x same) (All-head P y ys all)
    at false rest later = rest later

module _ (p : Saying) (n s : ℕ) (a : Store) (k : Sound p n s a) where
  abbrev OfSent : Sent → Type 0
  OfSent m = IsSaidOfMessage p m.packet.message

  -- ---- the cell of a key

  -- what has a replica is held
  own_here : (f : FileId) (x : Replica) → replica_at a f ≡ Some x → (own : Attributes) × (own_at a.names f ≡ Some own)
  own_here f x is = own_of_held a.names f (held_of_replica a k.whole.together f x is)

  pub own_said : (f : FileId) (x : Replica) → replica_at a f ≡ Some x → IsSaidOwn p f (own_or_blank a.names f)
  own_said f x is =
      let own = own_here f x is in
      subst (IsSaidOwn p f) (sym (ap (or_blank f) own.1)) (k.named.said.own f own.0 own.1)

  abbrev IsSaidOfKey : FileId → Option Cell → Type 0
  IsSaidOfKey f o = (x : Cell) → o ≡ Some x → IsSaidOfCell p f x

  flag_said : (f : FileId) (o : Option Flag) → ((flag : Flag) → o ≡ Some flag → p.IsFlag flag) → IsSaidOfKey f (flag_cell o)
  flag_said f None here x h = absurd (none-some x h)
  flag_said f (Some flag) here x h = subst (IsSaidOfCell p f) (same_Some _ x h) (here flag refl)

  version_said : (f : FileId) (o : Option VersionValue) → IsSaidOfKey f (version_cell o)
  version_said f None x h = absurd (none-some x h)
  version_said f (Some v) x h = subst (IsSaidOfCell p f) (same_Some _ x h) tt

  -- a cell is at its own child
  pub told_said : (d g : FileId) (e : Entry) → entry_at a.names d g ≡ Some e → IsSaidTold p d e
  told_said d g e h =
      let is : e.child ≡ g = k.whole.names.children d g e h in
      let own = cell_held a.names d g e h in
      record { dir = k.whole.names.dirs d g e h; of = (k.named.said.own d own.0 own.1).thing; cell = subst (λ (x : FileId). IsSaidCell p x e) (sym is) (k.named.said.cells d g e h) }

  entry_said : (d g : FileId) (o : Option Entry) (sure : Bool) → entry_at a.names d g ≡ o → IsSaidOfKey d (entry_cell o sure)
  entry_said d g None sure e x h = absurd (none-some x h)
  entry_said d g (Some y) sure e x h = subst (IsSaidOfCell p d) (same_Some _ x h) (told_said d g y e)

  key_said : (f : FileId) (x : Replica) → replica_at a f ≡ Some x → (q : Key) → IsSaidOfKey f (cell_at a f q)
  key_said f x is key.Place y h = subst (IsSaidOfCell p f) (same_Some _ y h) (own_said f x is).place
  key_said f x is (key.Flag m) y h =
      let flags = (own_or_blank a.names f).flags in
      flag_said f (flag_of flags m) (λ flag at. found_all p.IsFlag (λ g. g.server == m) flag flags (own_said f x is).flags at) y h
  key_said f x is (key.Entry child) y h = entry_said f child (entry_at a.names f child) (is_sure a f child) refl y h
  key_said f x is (key.Version stamp) y h = version_said f (head_at (content_of a f).heads (key.Version stamp)) y h

  -- ---- cells

  -- what tells of a cell, be it by a version's head alone
  as_said : (ends : Ends) (tag : ℕ) (x : Cell) → IsSaidOfCell p ends.file x → IsSaidOfMessage p (told_as ends tag x)
  as_said ends tag (cell_kind.Version v) said =
      chosen (IsSaidOfMessage p) (nat_lt 1024 v.head.length) (message.Harbinger ends tag v.head) (message.Cell ends tag (cell_kind.Version v)) tt tt
  as_said ends tag (cell_kind.Place place) said = said
  as_said ends tag (cell_kind.Flag flag) said = said
  as_said ends tag (cell_kind.Entry e sure) said = said

  under_said : (f : FileId) (birth : ℕ) (e : Edge) (tag : ℕ) (o : Option Cell) → IsSaidOfKey f o → AreSaidOf p (cell_under a f birth e tag o)
  under_said f birth e tag None said = All-nil OfSent
  under_said f birth e tag (Some x) said =
      let ends : Ends = record { file = f; sender = birth; receiver = e.birth } in
      All-cons OfSent _ [] (as_said ends tag x (said x refl)) (All-nil OfSent)

  module _ (f : FileId) (x : Replica) (is : replica_at a f ≡ Some x) where
    one_said : (birth : ℕ) (e : Edge) (q : Key × ℕ) → AreSaidOf p (key_cell a f birth e q)
    one_said birth e q =
        chosen (AreSaidOf p) (waits a f e q.0) [] (cell_under a f birth e q.1 (cell_at a f q.0)) (All-nil OfSent)
        (under_said f birth e q.1 (cell_at a f q.0) (key_said f x is q.0))

    edge_said : (wanted : Wanted) (birth : ℕ) (e : Edge) → AreSaidOf p (edge_cells a wanted f birth e)
    edge_said wanted birth e =
        let keys = filter (λ (q : Key × ℕ). wanted f e.peer q.0) e.keys in
        All-flat_map OfSent (key_cell a f birth e) keys (λ i d lt. one_said birth e (get_or keys i d))

    replica_said : (wanted : Wanted) → AreSaidOf p (replica_cells a wanted (f, x))
    replica_said wanted = All-flat_map OfSent (edge_cells a wanted f x.birth) x.edges (λ i d lt. edge_said wanted x.birth (get_or x.edges i d))

  pub cells_said : (wanted : Wanted) → AreSaidOf p (cells_where a wanted)
  cells_said wanted =
      let known = entries_known a k.whole.order in
      All-flat_map OfSent (replica_cells a wanted) a.replicas
      (λ i d lt. replica_said (get_or a.replicas i d).0 (get_or a.replicas i d).1 (known i d lt) wanted)

  -- ---- messages of intentions

  abbrev IsSaidOfSome : Option Message → Type 0
  IsSaidOfSome o = (m : Message) → o ≡ Some m → IsSaidOfMessage p m

  confirm_said : (d g : FileId) (o : Option Entry) → entry_at a.names d g ≡ o → IsSaidOfSome (confirm_message d o)
  confirm_said d g None e m h = absurd (none-some m h)
  confirm_said d g (Some y) e m h = subst (IsSaidOfMessage p) (same_Some _ m h) (told_said d g y e)

  leave_said : (f : FileId) (birth : ℕ) (o : Option Attributes) → IsSaidOfSome (leave_message a f birth o)
  leave_said f birth None m h = absurd (none-some m h)
  leave_said f birth (Some own) m h = subst (IsSaidOfMessage p) (same_Some _ m h) tt

  request_said : (i : Intent) → IsIntended p i → IsSaidOfSome (request a i)
  request_said (intent.Bye file birth peer peer_birth) here m h = subst (IsSaidOfMessage p) (same_Some _ m h) tt
  request_said (intent.Seek file target) here m h = subst (IsSaidOfMessage p) (same_Some _ m h) tt
  request_said (intent.Fill file birth target) here m h = subst (IsSaidOfMessage p) (same_Some _ m h) tt
  request_said (intent.Patch dir entry target) here m h = subst (IsSaidOfMessage p) (same_Some _ m h) here
  request_said (intent.Confirm dir child target) here m h = confirm_said dir child (entry_at a.names dir child) refl m h
  request_said (intent.Leave file peer peer_birth) here m h = leave_said file peer_birth (own_at a.names file) m h

  asked_said : (to : ℕ) (o : Option Message) → IsSaidOfSome o → AreSaidOf p (asked_of a to o)
  asked_said to None here = All-nil OfSent
  asked_said to (Some m) here = All-cons OfSent _ [] (here m refl) (All-nil OfSent)

  ask_said : (i : Intent) → IsIntended p i → AreSaidOf p (asks a i)
  ask_said i here =
      chosen (AreSaidOf p) (target_of i == 0) [] (asked_of a (target_of i) (request a i)) (All-nil OfSent)
      (asked_said (target_of i) (request a i) (request_said i here))

  found_said : (o : Option Intent) → ((i : Intent) → o ≡ Some i → IsIntended p i) → AreSaidOf p (pieces (asks a) o)
  found_said None here = All-nil OfSent
  found_said (Some i) here = ask_said i (here i refl)

  begun_said : (keys : List IntentKey) → AreSaidOf p (flat_map (asks_by a) keys)
  begun_said keys =
      All-flat_map OfSent (asks_by a) keys
      (λ i d lt. (let q = get_or keys i d in
      found_said (intent_at a.intents q) (λ x h. found_has (IsIntended p) q x a.intents k.named.intents h)))

  -- ---- all that is sent at the end, or by a tick

  pub end_said : (work : Work) → AreSaidOf p work.sent → AreSaidOf p (ask_begun a (finish a work)).sent
  end_said work sent =
      let cells = cells_where a (is_chosen work.touched work.linked) in
      All-append OfSent (work.sent ++ cells) (flat_map (asks_by a) work.begun)
      (All-append OfSent work.sent cells sent (cells_said (is_chosen work.touched work.linked)))
      (begun_said work.begun)

  pub again_said : (work : Work) → AreSaidOf p work.sent → AreSaidOf p (ask_all a (tick a work)).sent
  again_said work sent =
      let cells = cells_where a is_any in
      All-append OfSent (work.sent ++ cells) (flat_map (asks a) a.intents)
      (All-append OfSent work.sent cells sent (cells_said is_any))
      (All-flat_map OfSent (asks a) a.intents (λ i d lt. ask_said (get_or a.intents i d) (k.named.intents i d lt)))
