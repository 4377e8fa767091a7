-- What is seen of a server that is in a view: the removals that it knows, whom its edges lead to,
-- and whom its wishes ask. What the pieces of an event do keeps it.
use Rattle.std.proofs.Common.{[], ℕ, ◌≡◌, ◌≢◌, Bool, true, false, cond, not, List, ◌∷◌, Option, None, Some, refl, sym, ap, subst, ◌∙◌, inl, inr}
use Rattle.std.proofs.lemmas.List.Elements.{All-nil}
use Rattle.std.proofs.lemmas.Option.{none-some, same_Some}
use Rattle.law_frame.specs.pg_run.pg_base.declared.id.FileId.{FileId}
use Rattle.law_frame.specs.pg_run.pg_base.declared.policy.Policy.{Policy}
use Rattle.law_frame.specs.pg_run.pg_base.declared.stamp.Stamp.{Stamp}
use Rattle.law_frame.specs.pg_run.pg_base.Id.{file_cmp, is_same_file}
use Rattle.law_frame.specs.pg_run.pg_base.Version.{VersionValue}
use Rattle.law_frame.proofs.pg_run.pg_base.Maps.{lookup-insert_entry}
use Rattle.law_frame.proofs.pg_run.pg_base.Orders.{file_total}
use Rattle.law_frame.specs.pg_run.pg_edges.declared.key.Key.{Key}
use Rattle.law_frame.specs.pg_run.pg_edges.declared.key.Key.TheVariants as key
use Rattle.law_frame.specs.pg_run.pg_edges.Edges.{touched}
use Rattle.law_frame.specs.pg_run.pg_entries.declared.entry.Entry.{Entry}
use Rattle.law_frame.specs.pg_run.pg_intent.declared.intent.Intent.{Intent}
use Rattle.law_frame.specs.pg_run.pg_intent.declared.intent.Intent.TheVariants as intent
use Rattle.law_frame.specs.pg_run.pg_intent.declared.key.IntentKey.{IntentKey}
use Rattle.law_frame.specs.pg_run.pg_intent.Intents.{ended, intent_at}
use Rattle.law_frame.specs.pg_run.pg_intent.Target.{IsLiveOther}
use Rattle.law_frame.specs.pg_run.pg_announced.Announced.{NotesValue}
use Rattle.law_frame.specs.pg_run.pg_delta.declared.delta.KeptDelta.{KeptDelta}
use Rattle.law_frame.specs.pg_run.pg_server.pg_transfer.Asking.{with_notes}
use Rattle.law_frame.specs.pg_run.pg_names.declared.attributes.Attributes.{Attributes}
use Rattle.law_frame.specs.pg_run.pg_names.Names.{NamesValue}
use Rattle.law_frame.specs.pg_run.pg_names.Names as names
use Rattle.law_frame.proofs.pg_run.pg_names.Lookups.{update_frame}
use Rattle.law_frame.specs.pg_run.pg_patch.Ranges.{RangesValue}
use Rattle.law_frame.specs.pg_run.pg_register.declared.flag.Flag.{Flag}
use Rattle.law_frame.specs.pg_run.pg_register.declared.place.Place.{Place}
use Rattle.law_frame.specs.pg_run.pg_register.Flag.{is_removed}
use Rattle.law_frame.specs.pg_run.pg_replica.declared.link.Link.{Link}
use Rattle.law_frame.specs.pg_run.pg_replica.declared.replica.Replica.{Replica}
use Rattle.law_frame.specs.pg_run.pg_replica.Replica.{covered_heads, has_edge, key_of, keys as head_keys, new_replica, own_actor, with_ack, with_head, with_kept, with_link, with_touch, with_unlink, with_write, without_keys}
use Rattle.law_frame.specs.pg_run.pg_replica.Replicas.{ByFile, put_replica, replica_in, replicas_acked, replicas_keeping, replicas_linked, replicas_taking, replicas_touched, replicas_unlinked, replicas_writing}
use Rattle.law_frame.proofs.pg_run.pg_replica.Going.{replica_behind}
use Rattle.law_frame.specs.pg_run.pg_store.declared.store.Store.{Store}
use Rattle.law_frame.specs.pg_run.pg_store.declared.wishes.Wish.{Wish}
use Rattle.law_frame.specs.pg_run.pg_store.Beginning.{begin, let_go, patches_of, put_new, take_patch, take_patches, take_told, take_told_in, with_intents}
use Rattle.law_frame.specs.pg_run.pg_store.Births.{wish_at, with_birth, with_wish, with_wishes}
use Rattle.law_frame.specs.pg_run.pg_store.Links.{is_linked, is_new_link, keys, link, put_link, unlink}
use Rattle.law_frame.specs.pg_run.pg_store.Seen.{removed_of, server_of}
use Rattle.law_frame.specs.pg_run.pg_store.Store.{acknowledge, is_new_version, is_newer_entry, is_newer_flag, is_newer_place, keep_delta, put_entry, put_flag, put_place, put_version, replica_at, take_entry, take_flag, take_place, take_version, touch, with_names, write}
use Rattle.law_frame.specs.pg_run.pg_store.Wishes.{aim_wish, aimed, aimed_at, wish_in, without_wish}
use Rattle.law_frame.proofs.pg_run.pg_store.Aiming.{aim_found}
use Rattle.law_frame.proofs.pg_run.pg_store.Given.{left_by}
use Rattle.law_frame.proofs.pg_run.pg_store.Wanted.{wish_behind}
use Rattle.law_frame.proofs.pg_run.pg_store.Wishing.{wish_there}
use Rattle.law_frame.proofs.pg_run.theory_flood_pieces.Choices.{chosen}
use Rattle.law_views.proofs.Lists.{Lead, lead_acked, lead_linked, lead_touched, lead_unlinked, lead_without}

module _ (n s : ℕ) (R : List ℕ) where
  -- who is not removed
  abbrev pub IsPeer : ℕ → Type 0
  IsPeer t = is_removed R t ≡ false

  abbrev pub Leads : Replica → Type 0
  Leads x = Lead IsPeer x.edges

  -- another live server of the run
  abbrev pub IsTarget : ℕ → Type 0
  IsTarget t = IsLiveOther n s R t

  abbrev pub Asks : Wish → Type 0
  Asks wish = wish.target ≢ 0 → IsTarget wish.target

  pub record IsSeen (a : Store) : Type 0 where
    pub removed : removed_of a ≡ R
    pub server : server_of a ≡ s
    pub servers : a.servers ≡ n
    pub edges : (file : FileId) (x : Replica) → replica_at a file ≡ Some x → Leads x
    pub wishes : (file : FileId) (wish : Wish) → wish_at a file ≡ Some wish → Asks wish

  -- ---- replicas

  abbrev AllLead : ByFile → Type 0
  AllLead rs = (file : FileId) (x : Replica) → replica_in rs file ≡ Some x → Leads x

  pub put_leads : (rs : ByFile) (file : FileId) (y : Replica) → Leads y → AllLead rs → AllLead (put_replica rs file y)
  put_leads rs file y of k q x there =
      by (is_same_file q file) (sym (lookup-insert_entry file_cmp file_total q file y rs) ∙ there)
    where
      by : (t : Bool) → cond t (Some y) (replica_in rs q) ≡ Some x → Leads x
      by true e = subst Leads (same_Some y x e) of
      by false e = k q x e

  made_lead : (rs : ByFile) (file : FileId) (made : Option Replica → ByFile) (change : Replica → Replica) (o : Option Replica)
      → replica_in rs file ≡ o → made None ≡ rs → ((x : Replica) → made (Some x) ≡ put_replica rs file (change x))
      → ((x : Replica) → Leads x → Leads (change x)) → AllLead rs → AllLead (made o)
  made_lead rs file made change None there none some of k = subst AllLead (sym none) k
  made_lead rs file made change (Some x) there none some of k =
      subst AllLead (sym (some x)) (put_leads rs file (change x) (of x (k file x there)) k)

  acked_lead : (rs : ByFile) (file : FileId) (l : Link) (k : Key) (tag : ℕ) (o : Option Replica) → replica_in rs file ≡ o
      → AllLead rs → AllLead (replicas_acked rs file l k tag o)
  acked_lead rs file l k tag None there h = h
  acked_lead rs file l k tag (Some x) there h =
      let y = with_ack x l.peer l.birth k tag in
      chosen AllLead (has_edge x l) (put_replica rs file y) rs
      (put_leads rs file y (lead_acked IsPeer x.edges l.peer l.birth k tag (h file x there)) h) h

  -- ---- changes by which no wish comes

  -- the same view, and these replicas
  pub seen_by : (a b : Store) → removed_of b ≡ removed_of a → server_of b ≡ server_of a → b.servers ≡ a.servers
      → b.wishes ≡ a.wishes → AllLead b.replicas → IsSeen a → IsSeen b
  seen_by a b removed server servers wishes lead k = record {
    removed = removed ∙ k.removed;
    server = server ∙ k.server;
    servers = servers ∙ k.servers;
    edges = lead;
    wishes = λ file wish there. k.wishes file wish (ap (λ ws. wish_in ws file) (sym wishes) ∙ there);
  }

  pub seen_names : (a : Store) (other : NamesValue) → other.removed ≡ removed_of a → other.server ≡ server_of a
      → IsSeen a → IsSeen (with_names a other)
  seen_names a other removed server k = seen_by a (with_names a other) removed server refl refl k.edges k

  pub seen_intents : (a : Store) (is : List Intent) → IsSeen a → IsSeen (with_intents a is)
  seen_intents a is k = seen_by a (with_intents a is) refl refl refl refl k.edges k

  pub seen_birth : (a : Store) → IsSeen a → IsSeen (with_birth a)
  seen_birth a k = seen_by a (with_birth a) refl refl refl refl k.edges k

  pub seen_touch : (a : Store) (file : FileId) (k : Key) → IsSeen a → IsSeen (touch a file k)
  seen_touch a file q k =
      seen_by a (touch a file q) refl refl refl refl
      (made_lead a.replicas file (λ o. replicas_touched a.replicas file q a.tags o) (λ x. with_touch x q a.tags) (replica_at a file)
      refl refl (λ x. refl) (λ x h. lead_touched IsPeer x.edges q a.tags h) k.edges) k

  pub seen_place : (a : Store) (file : FileId) (place : Place) → IsSeen a → IsSeen (take_place a file place)
  seen_place a file place k =
      let frame = update_frame a.names file (names.with_place place) in
      let other = names.raise (names.join_place a.names file place) place.stamp.time in
      chosen IsSeen (is_newer_place a file place) (put_place a file place) a
      (seen_touch (with_names a other) file key.Place (seen_names a other frame.removed frame.server k)) k

  pub seen_flag : (a : Store) (file : FileId) (flag : Flag) → IsSeen a → IsSeen (take_flag a file flag)
  seen_flag a file flag k =
      let frame = update_frame a.names file (names.with_flag flag) in
      let other = names.join_flag a.names file flag in
      chosen IsSeen (is_newer_flag a file flag) (put_flag a file flag) a
      (seen_touch (with_names a other) file (key.Flag flag.server) (seen_names a other frame.removed frame.server k)) k

  pub seen_entry : (a : Store) (dir : FileId) (e : Entry) → IsSeen a → IsSeen (take_entry a dir e)
  seen_entry a dir e k =
      let frame = update_frame a.names dir (names.with_joined e) in
      let other = names.raise (names.join_entry a.names dir e) e.place.stamp.time in
      chosen IsSeen (is_newer_entry a dir e) (put_entry a dir e) a
      (seen_touch (with_names a other) dir (key.Entry e.child) (seen_names a other frame.removed frame.server k)) k

  news_lead : (x : Replica) (gone : List Key) (q : Key) (tags : ℕ) → Leads x
      → Lead IsPeer (touched (without_keys x.edges gone) q tags)
  news_lead x gone q tags h = lead_touched IsPeer (without_keys x.edges gone) q tags (lead_without IsPeer gone x.edges h)

  pub seen_version : (a : Store) (file : FileId) (v : VersionValue) → IsSeen a → IsSeen (take_version a file v)
  seen_version a file v k =
      chosen IsSeen (is_new_version a file v) (put_version a file v) a
      (seen_by a (put_version a file v) refl refl refl refl
      (made_lead a.replicas file (λ o. replicas_taking a.replicas file v a.tags o) (λ x. with_head x v a.tags) (replica_at a file)
      refl refl (λ x. refl) (λ x h. news_lead x (head_keys (covered_heads x.content.heads v)) (key_of v) a.tags h) k.edges) k) k

  pub seen_write : (a : Store) (file : FileId) (stamp : Stamp) (ranges : RangesValue) → IsSeen a → IsSeen (write a file stamp ranges)
  seen_write a file stamp ranges k =
      seen_by a (write a file stamp ranges) refl refl refl refl
      (made_lead a.replicas file (λ o. replicas_writing a.replicas file stamp ranges a.tags o)
      (λ x. with_write x (own_actor x stamp.server) stamp ranges a.tags) (replica_at a file) refl refl (λ x. refl)
      (λ x h. news_lead x (head_keys x.content.heads) (key.Version stamp) a.tags h) k.edges) k

  pub seen_ack : (a : Store) (file : FileId) (l : Link) (q : Key) (tag : ℕ) → IsSeen a → IsSeen (acknowledge a file l q tag)
  seen_ack a file l q tag k =
      seen_by a (acknowledge a file l q tag) refl refl refl refl
      (acked_lead a.replicas file l q tag (replica_at a file) refl k.edges) k

  pub seen_noted : (a : Store) (ns : NotesValue) → IsSeen a → IsSeen (with_notes a ns)
  seen_noted a ns k = seen_by a (with_notes a ns) refl refl refl refl k.edges k

  pub seen_kept : (a : Store) (file : FileId) (delta : KeptDelta) → IsSeen a → IsSeen (keep_delta a file delta)
  seen_kept a file delta k =
      seen_by a (keep_delta a file delta) refl refl refl refl
      (made_lead a.replicas file (λ o. replicas_keeping a.replicas file delta o) (λ x. with_kept x delta) (replica_at a file)
      refl refl (λ x. refl) (λ x h. h) k.edges) k

  -- ---- edges

  pub seen_link : (a : Store) (file : FileId) (peer birth : ℕ) → IsPeer peer → IsSeen a → IsSeen (link a file peer birth)
  seen_link a file peer birth of k =
      chosen IsSeen (is_new_link a file peer birth) (put_link a file peer birth) a
      (seen_by a (put_link a file peer birth) refl refl refl refl
      (made_lead a.replicas file (λ o. replicas_linked a.replicas file peer birth (keys a file) a.tags o)
      (λ x. with_link x peer birth (keys a file) a.tags) (replica_at a file) refl refl (λ x. refl)
      (λ x h. lead_linked IsPeer x.edges peer birth (keys a file) a.tags of h) k.edges) k) k

  pub seen_unlink : (a : Store) (file : FileId) (peer birth : ℕ) → IsSeen a → IsSeen (unlink a file peer birth)
  seen_unlink a file peer birth k =
      let b = record a { replicas = replicas_unlinked a.replicas file peer birth (replica_at a file) } in
      chosen IsSeen (is_linked a file peer birth) b a
      (seen_by a b refl refl refl refl
      (made_lead a.replicas file (λ o. replicas_unlinked a.replicas file peer birth o) (λ x. with_unlink x peer birth)
      (replica_at a file) refl refl (λ x. refl) (λ x h. lead_unlinked IsPeer x.edges peer birth h) k.edges) k) k

  -- ---- wishes

  -- a wish comes
  pub seen_wish : (a : Store) (file : FileId) (wish : Wish) → Asks wish → IsSeen a → IsSeen (with_wish a file wish)
  seen_wish a file wish of k = record {
    removed = k.removed;
    server = k.server;
    servers = k.servers;
    edges = k.edges;
    wishes = λ q w there. elim (wish_there a file wish q w there) [
      | inl here ↦ subst Asks here.1 of
      | inr was ↦ k.wishes q w was
    ];
  }

  -- wishes end
  pub seen_fewer : (a : Store) (ws : List (FileId × Wish))
      → ((q : FileId) (w : Wish) → wish_in ws q ≡ Some w → wish_at a q ≡ Some w) → IsSeen a → IsSeen (with_wishes a ws)
  seen_fewer a ws fewer k = record {
    removed = k.removed;
    server = k.server;
    servers = k.servers;
    edges = k.edges;
    wishes = λ q w there. k.wishes q w (fewer q w there);
  }

  pub less_wish : (a : Store) (file q : FileId) (w : Wish) → wish_in (without_wish a.wishes file) q ≡ Some w → wish_at a q ≡ Some w
  less_wish a file q w there = (left_by (wish_at a q) w (is_same_file file q) (sym (wish_behind a.wishes file q) ∙ there)).1

  -- one asks another server
  aimed_by : (a : Store) (file : FileId) (to : ℕ) → (to ≢ 0 → IsTarget to) → IsSeen a → (o : Option Wish) → wish_at a file ≡ o
      → (q : FileId) (w : Wish) → wish_in (aimed a.wishes file to o) q ≡ Some w → Asks w
  aimed_by a file to of k None here q w there = k.wishes q w there
  aimed_by a file to of k (Some x) here q w there =
      by (is_same_file file q) (sym (aim_found a.wishes file q to x here) ∙ there)
    where
      by : (t : Bool) → cond t (Some (aimed_at to x)) (wish_at a q) ≡ Some w → Asks w
      by true e = subst Asks (same_Some (aimed_at to x) w e) of
      by false e = k.wishes q w e

  pub seen_aim : (a : Store) (file : FileId) (to : ℕ) → (to ≢ 0 → IsTarget to) → IsSeen a
      → IsSeen (with_wishes a (aim_wish a.wishes file to))
  seen_aim a file to of k = record {
    removed = k.removed;
    server = k.server;
    servers = k.servers;
    edges = k.edges;
    wishes = aimed_by a file to of k (wish_at a file) refl;
  }

  -- ---- replicas begin and go

  told_seen : (a : Store) (dir : FileId) (i : Intent) → IsSeen a → IsSeen (take_told a dir i)
  told_seen a dir (intent.Patch to e target) k = seen_entry a dir e k
  told_seen a dir i k = k

  told_in_seen : (a : Store) (dir : FileId) (o : Option Intent) → IsSeen a → IsSeen (take_told_in a dir o)
  told_in_seen a dir None k = k
  told_in_seen a dir (Some i) k = told_seen a dir i k

  patches_seen : (ks : List IntentKey) (a : Store) (dir : FileId) → IsSeen a → IsSeen (take_patches a dir ks)
  patches_seen [] a dir k = k
  patches_seen (q ∷ ks) a dir k =
      patches_seen ks (take_patch a dir q) dir
      (told_in_seen (with_intents a (ended a.intents q)) dir (intent_at a.intents q) (seen_intents a (ended a.intents q) k))

  pub seen_begin : (a : Store) (file : FileId) (birth : ℕ) (policy : Policy) (own : Attributes) (full : Bool) → IsSeen a
      → IsSeen (begin a file birth policy own full)
  seen_begin a file birth policy own full k =
      patches_seen (patches_of file a.intents) (put_new a file birth policy own full) file (record {
        removed = k.removed;
        server = k.server;
        servers = k.servers;
        edges = put_leads a.replicas file (new_replica birth policy) (All-nil IsPeer) k.edges;
        wishes = λ q w there. k.wishes q w (less_wish a file q w there);
      })

  pub seen_let_go : (a : Store) (file : FileId) → IsSeen a → IsSeen (let_go a file)
  seen_let_go a file k =
      seen_by a (let_go a file) refl refl refl refl (λ q x there. k.edges q x (left q x there)) k
    where
      out : (t : Bool) (o : Option Replica) (x : Replica) → cond (not t) o None ≡ Some x → o ≡ Some x
      out true o x e = absurd (none-some x e)
      out false o x e = e

      left : (q : FileId) (x : Replica) → replica_at (let_go a file) q ≡ Some x → replica_at a q ≡ Some x
      left q x there = out (is_same_file file q) (replica_at a q) x (sym (replica_behind a.replicas file q) ∙ there)
