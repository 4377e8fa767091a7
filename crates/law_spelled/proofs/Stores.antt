-- What a server takes, links and begins keeps what it holds fit; and what it notes and posts.
use Rattle.std.proofs.Common.{ℕ, ◌≡◌, ◌≤◌, ◌&&◌, not, Bool, List, [], ◌∷◌, length, Option, None, Some, All, refl}
use Rattle.std.proofs.lemmas.List.Elements.{All-head, All-push, All-tail}
use Rattle.pg_base.specs.declared.id.FileId.{FileId}
use Rattle.pg_base.specs.declared.id.Kind.TheVariants.{Dir}
use Rattle.pg_base.specs.declared.policy.Policy.{Policy}
use Rattle.pg_base.specs.declared.stamp.Stamp.{Stamp}
use Rattle.pg_base.specs.Version.{VersionValue}
use Rattle.pg_patch.specs.Ranges.{RangesValue}
use Rattle.pg_content.specs.Content.{next_vector}
use Rattle.pg_delta.specs.declared.delta.KeptDelta.{KeptDelta}
use Rattle.pg_announced.specs.Announced.{NotesValue}
use Rattle.pg_entries.specs.declared.entry.Entry.{Entry}
use Rattle.pg_edges.specs.declared.key.Key.{Key}
use Rattle.pg_edges.specs.declared.key.Key.TheVariants as key
use Rattle.pg_server.specs.pg_pieces.pg_intent.declared.intent.Intent.{Intent}
use Rattle.pg_server.specs.pg_pieces.pg_intent.declared.intent.Intent.TheVariants as intent
use Rattle.pg_server.specs.pg_pieces.pg_intent.declared.key.IntentKey.{IntentKey}
use Rattle.pg_server.specs.pg_pieces.pg_intent.Intents.{ended, intent_at}
use Rattle.pg_msg.specs.declared.message.Message.{Message}
use Rattle.pg_msg.specs.declared.work.Work.{Work}
use Rattle.pg_msg.specs.Work.{with_linked, with_touched, with_unsure}
use Rattle.pg_server.specs.pg_pieces.pg_names.declared.attributes.Attributes.{Attributes}
use Rattle.pg_server.specs.pg_pieces.pg_names.Names.{NamesValue, join_entry, join_flag, join_place, own_or_blank}
use Rattle.pg_register.specs.declared.flag.Flag.{Flag}
use Rattle.pg_register.specs.declared.place.Place.{Place}
use Rattle.pg_server.specs.pg_pieces.pg_replica.declared.link.Link.{Link}
use Rattle.pg_server.specs.pg_pieces.pg_replica.Replica.{new_replica, own_actor}
use Rattle.pg_server.specs.pg_pieces.pg_replica.Replicas.{ByFile, replicas_linked, replicas_taking, replicas_touched, replicas_unlinked, replicas_writing}
use Rattle.pg_server.specs.pg_pieces.pg_store.declared.store.Store.{Store}
use Rattle.pg_server.specs.pg_pieces.pg_store.Beginning.{begin, let_go, patches_of, put_new, take_patch, take_patches, take_told, take_told_in, with_intents}
use Rattle.pg_server.specs.pg_pieces.pg_store.Births.{with_birth, with_wishes}
use Rattle.pg_server.specs.pg_pieces.pg_store.Links.{is_linked, is_new_link, keys, link, put_link, unlink}
use Rattle.pg_server.specs.pg_pieces.pg_store.Store.{acknowledge, content_of, end_covered, entry_news, is_new_version, is_newer_entry, is_newer_flag, is_newer_place, keep_delta, put_entry, put_flag, put_place, put_version, replica_at, replica_of, take_entry, take_flag, take_place, take_version, touch, with_drawn, with_names, with_news, write}
use Rattle.pg_server.specs.pg_pieces.pg_store.Wishes.{WishesValue}
use Rattle.pg_server.specs.pg_pieces.pg_house.Work.{note_left}
use Rattle.pg_server.proofs.pg_pieces.pg_house.Truths.{chosen}
use Rattle.pg_server.specs.pg_pieces.Accepting.{link_peer, with_link}
use Rattle.pg_server.specs.pg_pieces.Done.{Done, idle}
use Rattle.pg_server.specs.pg_pieces.Posting.{post, sent_to}
use Rattle.pg_server.specs.pg_pieces.Taking.{is_any_news, is_place_news, take_entry_cell, take_entry_noted, take_flag_noted, take_flags_noted, take_place_noted, take_version_noted, with_doubt, with_left_if, with_news as with_key}
use Rattle.pg_server.specs.pg_transfer.Asking.{with_notes}
use Rattle.pg_packet_write.specs.Fits.{IsServer}
use Rattle.law_spelled.specs.Messages.{FitsSent}
use Rattle.law_spelled.specs.Stores.{FitsIntent, FitsListed, FitsNames, FitsOwn, FitsPlace, FitsStore, MayBeServer}
use Rattle.law_spelled.proofs.Flags.{IsOfServer}
use Rattle.law_spelled.proofs.House.{FitsWork, IsOfDir, noted_fits}
use Rattle.law_spelled.proofs.Intents.{FitIntents, ended_fit, found_fits}
use Rattle.law_spelled.proofs.Messages.{FitsPost, sent_fits}
use Rattle.law_spelled.proofs.Notes.{FitNotes, FitWishes, notes_left, notes_of_file, wish_ended}
use Rattle.law_spelled.proofs.Places.{begin_fits, blank_fits, join_entry_fits, join_flag_fits, join_place_fits, let_go_fits, raise_fits}
use Rattle.law_spelled.proofs.Replicas.{FitReplicas, HasFitHead, acked_in, kept_in, linked_in, nothing_fits, replica_gone, replica_put, taken_in, touched_in, unlinked_in, written_in}

pub record FitsDone (done : Done) : Type 0 where
  pub store : FitsStore done.store
  pub work : FitsWork FitsSent done.work

-- the same, of its parts
pub again : (done : Done) → FitsDone done → FitsDone (idle done.store done.work)
again done h = record { store = h.store; work = h.work }

-- ---- another part

module _ (s : Store) (h : FitsStore s) where
  pub named : (n : NamesValue) → FitsNames n → FitsStore (with_names s n)
  named n k = record { servers = h.servers; names = k; replicas = h.replicas; announced = h.announced; intents = h.intents; wishes = h.wishes }

  pub intended : (is : List Intent) → FitIntents is → FitsStore (with_intents s is)
  intended is k = record { servers = h.servers; names = h.names; replicas = h.replicas; announced = h.announced; intents = k; wishes = h.wishes }

  pub wished : (ws : WishesValue) → FitWishes ws → FitsStore (with_wishes s ws)
  wished ws k = record { servers = h.servers; names = h.names; replicas = h.replicas; announced = h.announced; intents = h.intents; wishes = k }

  pub noted : (ns : NotesValue) → FitNotes ns → FitsStore (with_notes s ns)
  noted ns k = record { servers = h.servers; names = h.names; replicas = h.replicas; announced = k; intents = h.intents; wishes = h.wishes }

  drawn : (tags : ℕ) (rs : ByFile) → FitReplicas rs → FitsStore (with_drawn s tags rs)
  drawn tags rs k = record { servers = h.servers; names = h.names; replicas = k; announced = h.announced; intents = h.intents; wishes = h.wishes }

  pub born : FitsStore (with_birth s)
  born = record { servers = h.servers; names = h.names; replicas = h.replicas; announced = h.announced; intents = h.intents; wishes = h.wishes }

-- ---- what a store takes and links

module _ (s : Store) (h : FitsStore s) where
  pub touch_fits : (f : FileId) (k : Key) → FitsStore (touch s f k)
  touch_fits f k =
      drawn s h _ (replicas_touched s.replicas f k s.tags (replica_at s f)) (touched_in s.replicas f h.replicas k s.tags (replica_at s f) refl)

  pub link_fits : (f : FileId) (peer birth : ℕ) → MayBeServer peer → FitsStore (link s f peer birth)
  link_fits f peer birth k =
      chosen FitsStore (is_new_link s f peer birth) (put_link s f peer birth) s
      (drawn s h (length (keys s f)) (replicas_linked s.replicas f peer birth (keys s f) s.tags (replica_at s f))
      (linked_in s.replicas f h.replicas peer birth (keys s f) s.tags (replica_at s f) k refl)) h

  pub unlink_fits : (f : FileId) (peer birth : ℕ) → FitsStore (unlink s f peer birth)
  unlink_fits f peer birth =
      chosen FitsStore (is_linked s f peer birth) (record s { replicas = replicas_unlinked s.replicas f peer birth (replica_at s f) }) s
      (record {
        servers = h.servers;
        names = h.names;
        replicas = unlinked_in s.replicas f h.replicas peer birth (replica_at s f) refl;
        announced = h.announced;
        intents = h.intents;
        wishes = h.wishes;
      }) h

  pub acknowledged_fits : (f : FileId) (l : Link) (k : Key) (tag : ℕ) → FitsStore (acknowledge s f l k tag)
  acknowledged_fits f l k tag = record {
    servers = h.servers;
    names = h.names;
    replicas = acked_in s.replicas f h.replicas l k tag (replica_at s f) refl;
    announced = h.announced;
    intents = h.intents;
    wishes = h.wishes;
  }

  pub kept_fits : (f : FileId) (delta : KeptDelta) → FitsStore (keep_delta s f delta)
  kept_fits f delta = record {
    servers = h.servers;
    names = h.names;
    replicas = kept_in s.replicas f h.replicas delta (replica_at s f) refl;
    announced = h.announced;
    intents = h.intents;
    wishes = h.wishes;
  }

  -- what is covered is not noted any more
  covered_fits : (f : FileId) (stamp : Stamp) (rs : ByFile) → FitReplicas rs → FitsStore (end_covered (with_news s f stamp rs) f)
  covered_fits f stamp rs k = record {
    servers = h.servers;
    names = raise_fits s.names stamp.time h.names;
    replicas = k;
    announced = notes_left s.announced f (replica_at (with_news s f stamp rs) f) h.announced;
    intents = h.intents;
    wishes = h.wishes;
  }

  pub version_fits : (f : FileId) (v : VersionValue) → HasFitHead v → FitsStore (take_version s f v)
  version_fits f v k =
      chosen FitsStore (is_new_version s f v) (put_version s f v) s
      (covered_fits f v.head.stamp (replicas_taking s.replicas f v s.tags (replica_at s f))
      (taken_in s.replicas f h.replicas v s.tags (replica_at s f) k refl)) h

  -- a version is made, whose vector has few actors
  pub written_fits : (f : FileId) (stamp : Stamp) (ranges : RangesValue) → IsServer stamp.server
      → length (next_vector (content_of s f).heads (own_actor (replica_of s f) stamp.server)) ≤ 256 → FitsStore (write s f stamp ranges)
  written_fits f stamp ranges k few =
      covered_fits f stamp (replicas_writing s.replicas f stamp ranges s.tags (replica_at s f))
      (written_in s.replicas f h.replicas stamp ranges s.tags (replica_at s f) k few refl)

module _ (s : Store) (h : FitsStore s) where
  pub place_fits : (f : FileId) (p : Place) → FitsPlace f p → FitsStore (take_place s f p)
  place_fits f p k =
      let joined = join_place s.names f p in
      let next = named s h _ (raise_fits joined p.stamp.time (join_place_fits s.names f p k h.names)) in
      chosen FitsStore (is_newer_place s f p) (put_place s f p) s (touch_fits _ next f key.Place) h

  pub flag_fits : (f : FileId) (g : Flag) → IsOfServer g → FitsStore (take_flag s f g)
  flag_fits f g k =
      let next = named s h (join_flag s.names f g) (join_flag_fits s.names f g k h.names) in
      chosen FitsStore (is_newer_flag s f g) (put_flag s f g) s (touch_fits _ next f (key.Flag g.server)) h

  pub entry_fits : (d : FileId) (e : Entry) → FitsListed e.child e → FitsStore (take_entry s d e)
  entry_fits d e k =
      let joined = join_entry s.names d e in
      let next = named s h _ (raise_fits joined e.place.stamp.time (join_entry_fits s.names d e k h.names)) in
      chosen FitsStore (is_newer_entry s d e) (put_entry s d e) s (touch_fits _ next d (key.Entry e.child)) h

-- ---- a replica begins, or goes

told_fits : (s : Store) (dir : FileId) (i : Intent) → FitsStore s → FitsIntent i → FitsStore (take_told s dir i)
told_fits s dir (intent.Patch to entry target) h k = entry_fits s h dir entry k.about.1
told_fits s dir i h k = h

told_in_fits : (s : Store) (dir : FileId) (o : Option Intent) → FitsStore s → ((i : Intent) → o ≡ Some i → FitsIntent i)
    → FitsStore (take_told_in s dir o)
told_in_fits s dir None h each = h
told_in_fits s dir (Some i) h each = told_fits s dir i h (each i refl)

patch_fits : (s : Store) (dir : FileId) (k : IntentKey) → FitsStore s → FitsStore (take_patch s dir k)
patch_fits s dir k h =
    told_in_fits (with_intents s (ended s.intents k)) dir (intent_at s.intents k)
    (intended s h (ended s.intents k) (ended_fit s.intents k h.intents)) (λ i e. found_fits s.intents k i h.intents e)

patches_fit : (s : Store) (dir : FileId) (ks : List IntentKey) → FitsStore s → FitsStore (take_patches s dir ks)
patches_fit s dir [] h = h
patches_fit s dir (k ∷ ks) h = patches_fit (take_patch s dir k) dir ks (patch_fits s dir k h)

pub begun_fits : (s : Store) (f : FileId) (birth : ℕ) (policy : Policy) (own : Attributes) (full : Bool) → FitsOwn f own → FitsStore s
    → FitsStore (begin s f birth policy own full)
begun_fits s f birth policy own full k h =
    patches_fit (put_new s f birth policy own full) f (patches_of f s.intents)
    (record {
      servers = h.servers;
      names = raise_fits _ own.place.stamp.time (begin_fits s.names f own full k h.names);
      replicas = replica_put s.replicas f (new_replica birth policy) (nothing_fits birth policy) h.replicas;
      announced = h.announced;
      intents = h.intents;
      wishes = wish_ended s.wishes f h.wishes;
    })

pub let_go_store : (s : Store) (f : FileId) → FitsStore s → FitsStore (let_go s f)
let_go_store s f h = record {
  servers = h.servers;
  names = let_go_fits s.names f h.names;
  replicas = replica_gone s.replicas f h.replicas;
  announced = notes_of_file s.announced f h.announced;
  intents = h.intents;
  wishes = h.wishes;
}

-- ---- what is noted of an event

abbrev pub Fine : Work → Type 0
Fine work = FitsWork FitsSent work

pub news_fit : (news : Bool) (work : Work) (f : FileId) (k : Key) → Fine work → Fine (with_key news work f k)
news_fit news work f k h =
    chosen Fine news (with_touched work f k) work
    (record { sent = h.sent; tail = h.tail; left = h.left; unsure = h.unsure; from = h.from }) h

left_fit : (news : Bool) (work : Work) (f : FileId) (old : Place) → old.parent.kind ≡ Dir → Fine work → Fine (with_left_if news work f old)
left_fit news work f old k h = chosen Fine news (note_left work f old) work (noted_fits FitsSent work f old k h) h

linked_fit : (news : Bool) (work : Work) (f : FileId) (peer : ℕ) → Fine work → Fine (with_link news work f peer)
linked_fit news work f peer h =
    chosen Fine news (with_linked work f peer) work
    (record { sent = h.sent; tail = h.tail; left = h.left; unsure = h.unsure; from = h.from }) h

doubt_fits : (doubt : Bool) (work : Work) (d c : FileId) → d.kind ≡ Dir → Fine work → Fine (with_doubt doubt work d c)
doubt_fits doubt work d c k h =
    chosen Fine doubt (with_unsure work d c) work
    (record {
      sent = h.sent;
      tail = h.tail;
      left = h.left;
      unsure = All-push IsOfDir work.unsure (record { dir = d; child = c }) h.unsure k;
      from = h.from;
    }) h

pub posted : (s : Store) (to : ℕ) (m : Message) (work : Work) → MayBeServer to → FitsPost m → Fine work → Fine (post s to m work)
posted s to m work may k h = record {
  sent = All-push FitsSent work.sent (sent_to s to m) h.sent (sent_fits s to m may k);
  tail = h.tail;
  left = h.left;
  unsure = h.unsure;
  from = h.from;
}

-- ---- what a thing takes, with what is noted of it

module _ (s : Store) (work : Work) (h : FitsDone (idle s work)) where
  pub place_noted : (f : FileId) (p : Place) → FitsPlace f p → FitsDone (take_place_noted s f p work)
  place_noted f p k =
      let old : Place = (own_or_blank s.names f).place in
      let news : Bool = is_newer_place s f p in
      record {
        store = place_fits s h.store f p k;
        work = news_fit news (with_left_if news work f old) f key.Place
            (left_fit news work f old (blank_fits s.names h.store.names f).place.parent h.work);
      }

  pub flag_noted : (f : FileId) (g : Flag) → IsOfServer g → FitsDone (take_flag_noted s f g work)
  flag_noted f g k = record {
    store = flag_fits s h.store f g k;
    work = news_fit (is_newer_flag s f g) work f (key.Flag g.server) h.work;
  }

  pub entry_noted : (d : FileId) (e : Entry) → FitsListed e.child e → FitsDone (take_entry_noted s d e work)
  entry_noted d e k = record {
    store = entry_fits s h.store d e k;
    work = news_fit (is_any_news (entry_news s d e)) work d (key.Entry e.child) h.work;
  }

  pub entry_taken : (d : FileId) (e : Entry) (sure : Bool) → d.kind ≡ Dir → FitsListed e.child e → FitsDone (take_entry_cell s d e sure work)
  entry_taken d e sure dir k = record {
    store = entry_fits s h.store d e k;
    work = doubt_fits (is_place_news (entry_news s d e) && not sure) (take_entry_noted s d e work).work d e.child dir (entry_noted d e k).work;
  }

  pub version_noted : (f : FileId) (v : VersionValue) → HasFitHead v → FitsDone (take_version_noted s f v work)
  version_noted f v k = record {
    store = version_fits s h.store f v k;
    work = news_fit (is_new_version s f v) work f (key.Version v.head.stamp) h.work;
  }

  pub peer_linked : (f : FileId) (peer birth : ℕ) → MayBeServer peer → FitsDone (link_peer s f peer birth work)
  peer_linked f peer birth k = record {
    store = link_fits s h.store f peer birth k;
    work = linked_fit (is_new_link s f peer birth) work f peer h.work;
  }

pub flags_noted : (s : Store) (f : FileId) (gs : List Flag) (work : Work) → All IsOfServer gs → FitsDone (idle s work)
    → FitsDone (take_flags_noted s f gs work)
flags_noted s f [] work all h = record { store = h.store; work = h.work }
flags_noted s f (g ∷ gs) work all h =
    let one = flag_noted s work h f g (All-head IsOfServer g gs all) in
    let next = take_flag_noted s f g work in
    flags_noted next.store f gs next.work (All-tail IsOfServer g gs all) (record { store = one.store; work = one.work })
