-- What each piece of an event leaves of replicas' births and contents: all of them, but where one
-- begins.
use Rattle.std.proofs.Common.{ℕ, ◌≡◌, ◌≤◌, Bool, true, false, List, [], ◌∷◌, Option, None, Some, refl, ap, subst, ◌∙◌, arith}
use Rattle.pg_run.specs.pg_base.declared.id.FileId.{FileId}
use Rattle.pg_run.specs.pg_base.declared.policy.Policy.{Policy}
use Rattle.pg_run.specs.pg_base.Id.{is_same_file}
use Rattle.pg_run.proofs.pg_base.Orders.{is_same_file-true}
use Rattle.pg_run.specs.pg_edges.declared.key.Key.{Key}
use Rattle.pg_run.specs.pg_edges.declared.key.Key.TheVariants as key
use Rattle.pg_run.specs.pg_entries.declared.entry.Entry.{Entry}
use Rattle.pg_run.specs.pg_intent.declared.intent.Intent.{Intent}
use Rattle.pg_run.specs.pg_intent.declared.intent.Intent.TheVariants as intent
use Rattle.pg_run.specs.pg_intent.declared.key.IntentKey.{IntentKey}
use Rattle.pg_run.specs.pg_intent.Intents.{ended, intent_at}
use Rattle.pg_run.specs.pg_msg.declared.work.Touched.{Touched}
use Rattle.pg_run.specs.pg_names.declared.attributes.Attributes.{Attributes}
use Rattle.pg_run.specs.pg_names.Names.{InodeValue, NamesValue, fill, filled, is_full_of, join_entry, join_flag, join_place, known, raise, update, with_flag, with_joined, with_place}
use Rattle.pg_run.proofs.pg_names.Holding.{begun_other, fill_other, fill_same, full_kept}
use Rattle.pg_run.proofs.pg_names.Lookups.{update_frame}
use Rattle.pg_run.specs.pg_register.declared.flag.Flag.{Flag}
use Rattle.pg_run.specs.pg_register.declared.place.Place.{Place}
use Rattle.pg_run.specs.pg_replica.declared.link.Link.{Link}
use Rattle.pg_run.specs.pg_replica.Replica.{new_replica}
use Rattle.pg_run.specs.pg_replica.Replicas.{replicas_unlinked}
use Rattle.pg_run.specs.pg_store.declared.store.Store.{Store}
use Rattle.pg_run.specs.pg_store.declared.wishes.Wish.{Wish}
use Rattle.pg_run.specs.pg_store.Beginning.{begin, patches_of, put_new, take_patch, take_patches, take_told, take_told_in, with_intents}
use Rattle.pg_run.specs.pg_store.Births.{with_birth, with_wish, with_wishes}
use Rattle.pg_run.specs.pg_store.Links.{is_linked, is_new_link, keys, link, put_link, unlink}
use Rattle.pg_run.specs.pg_store.Seen.{removed_of, server_of}
use Rattle.pg_run.specs.pg_store.Store.{acknowledge, is_full, is_newer_entry, is_newer_flag, is_newer_place, put_entry, put_flag, put_place, replica_at, take_entry, take_flag, take_place, touch, with_names}
use Rattle.pg_run.specs.pg_store.Wishes.{WishesValue}
use Rattle.pg_run.specs.pg_cells.Settling.{touch_all}
use Rattle.pg_run.specs.pg_calls.Naming.{with_id}
use Rattle.pg_run.proofs.theory_flood_pieces.Choices.{chosen}
use Rattle.law_contents.proofs.Changes.{Alters, IsOrdered, Keeps, Keeps-refl, Keeps-trans, StaysFull, alters_keeps, core_at, core_of, new_core, none_end}
use Rattle.law_contents.proofs.Cores.{acked_order, acked_same, linked_order, linked_same, put_elsewhere, put_here, put_order, raised_up, touched_order, touched_same, unlinked_order, unlinked_same}

module _ (a : Store) where
  -- ---- what stands beside

  -- names stay, and so do notes and what is seen of each replica
  beside_keeps : (b : Store) → b.names ≡ a.names → b.announced ≡ a.announced → a.files ≤ b.files
      → (IsOrdered a.replicas → IsOrdered b.replicas)
      → ((file : FileId) → core_at b file ≡ core_at a file) → Keeps a b
  beside_keeps b names announced files order each =
      let last : b.names.last ≡ a.names.last = ap (λ (n : NamesValue). n.last) names in
      record {
        server = ap (λ (n : NamesValue). n.server) names;
        last = omega (arith, last);
        files = files;
        order = order;
        full = λ f h. ap (λ (n : NamesValue). is_full_of (known n f)) names ∙ h;
        each = each;
        view = ap (λ (n : NamesValue). n.removed) names;
        notes = announced;
      }

  pub intents_keep : (is : List Intent) → Keeps a (with_intents a is)
  intents_keep is = beside_keeps (with_intents a is) refl refl (omega arith) (λ h. h) (λ f. refl)

  pub wishes_keep : (ws : WishesValue) → Keeps a (with_wishes a ws)
  wishes_keep ws = beside_keeps (with_wishes a ws) refl refl (omega arith) (λ h. h) (λ f. refl)

  pub birth_keeps : Keeps a (with_birth a)
  birth_keeps = beside_keeps (with_birth a) refl refl (omega arith) (λ h. h) (λ f. refl)

  pub wish_keeps : (file : FileId) (wish : Wish) → Keeps a (with_wish (with_birth a) file wish)
  wish_keeps file wish = beside_keeps (with_wish (with_birth a) file wish) refl refl (omega arith) (λ h. h) (λ f. refl)

  -- an id
  pub id_keeps : Keeps a (with_id a)
  id_keeps = beside_keeps (with_id a) refl refl (omega arith) (λ h. h) (λ f. refl)

  -- ---- names

  -- other names of the same server, in the same view
  pub names_keep : (names : NamesValue) → names.server ≡ server_of a
      → names.removed ≡ removed_of a → a.names.last ≤ names.last
      → StaysFull a (with_names a names) → Keeps a (with_names a names)
  names_keep names server removed last full =
      record {
        server = server;
        last = last;
        files = omega arith;
        order = λ h. h;
        full = full;
        each = λ f. refl;
        view = removed;
        notes = refl;
      }

  full_there : (file : FileId) (o : Option InodeValue) → known a.names file ≡ o
      → is_full_of o ≡ true → is_full (with_names a (fill a.names file)) file ≡ true
  full_there file None e h = absurd (let z : false ≡ true = h in cc)
  full_there file (Some x) e h = fill_same a.names file x e

  filled_full : (file f : FileId) (t : Bool) → is_same_file file f ≡ t
      → is_full a f ≡ true → is_full (with_names a (fill a.names file)) f ≡ true
  filled_full file f true e h =
      let P : FileId → Type 0 =
      (λ g. is_full a g ≡ true → is_full (with_names a (fill a.names file)) g ≡ true) in
      subst P (is_same_file-true file f e) (λ there. full_there file (known a.names file) refl there) h
  filled_full file f false e h = fill_other a.names file f e ∙ h

  -- a change of names that leaves what is full
  changed_full : (file : FileId) (change : InodeValue → InodeValue)
      → ((x : InodeValue) → (change x).full ≡ x.full)
      → StaysFull a (with_names a (update a.names file change))
  changed_full file change same f h = full_kept a.names file change same f ∙ h

  pub fill_keeps : (file : FileId) → Keeps a (with_names a (fill a.names file))
  fill_keeps file =
      let frame = update_frame a.names file filled in
      let same = frame.last in
      names_keep (fill a.names file) frame.server frame.removed (omega arith)
      (λ f h. filled_full file f (is_same_file file f) refl h)

  -- keys are touched
  pub touch_keeps : (file : FileId) (k : Key) → Keeps a (touch a file k)
  touch_keeps file k =
      beside_keeps (touch a file k) refl refl (omega arith)
      (λ h. touched_order a.replicas file h k a.tags (replica_at a file))
      (touched_same a.replicas file k a.tags (replica_at a file) refl)

pub touches_keep : (a : Store) (ts : List Touched) → Keeps a (touch_all a ts)
touches_keep a [] = Keeps-refl a
touches_keep a (t ∷ ts) =
    Keeps-trans (touch_keeps a t.file t.key) (touches_keep (touch a t.file t.key) ts)

module _ (a : Store) where
  -- a place
  pub place_keeps : (file : FileId) (place : Place) → Keeps a (take_place a file place)
  place_keeps file place =
      let joined = join_place a.names file place in
      let frame = update_frame a.names file (with_place place) in
      let names = raise joined place.stamp.time in
      chosen (Keeps a) (is_newer_place a file place) (put_place a file place) a
      (Keeps-trans (names_keep a names frame.server frame.removed
      (raised_up a.names.last joined.last place.stamp.time frame.last)
      (changed_full a file (with_place place) (λ x. refl)))
      (touch_keeps (with_names a names) file key.Place))
      (Keeps-refl a)

  -- a flag
  pub flag_keeps : (file : FileId) (flag : Flag) → Keeps a (take_flag a file flag)
  flag_keeps file flag =
      let joined = join_flag a.names file flag in
      let frame = update_frame a.names file (with_flag flag) in
      let same = frame.last in
      chosen (Keeps a) (is_newer_flag a file flag) (put_flag a file flag) a
      (Keeps-trans (names_keep a joined frame.server frame.removed (omega arith)
      (changed_full a file (with_flag flag) (λ x. refl)))
      (touch_keeps (with_names a joined) file (key.Flag flag.server)))
      (Keeps-refl a)

  -- an entry of a directory
  pub entry_keeps : (dir : FileId) (e : Entry) → Keeps a (take_entry a dir e)
  entry_keeps dir e =
      let joined = join_entry a.names dir e in
      let frame = update_frame a.names dir (with_joined e) in
      let names = raise joined e.place.stamp.time in
      chosen (Keeps a) (is_newer_entry a dir e) (put_entry a dir e) a
      (Keeps-trans (names_keep a names frame.server frame.removed
      (raised_up a.names.last joined.last e.place.stamp.time frame.last)
      (changed_full a dir (with_joined e) (λ x. refl)))
      (touch_keeps (with_names a names) dir (key.Entry e.child)))
      (Keeps-refl a)

  -- ---- edges

  pub link_keeps : (file : FileId) (peer birth : ℕ) → Keeps a (link a file peer birth)
  link_keeps file peer birth =
      chosen (Keeps a) (is_new_link a file peer birth) (put_link a file peer birth) a
      (beside_keeps a (put_link a file peer birth) refl refl (omega arith)
      (λ h. linked_order a.replicas file h peer birth (keys a file) a.tags (replica_at a file))
      (linked_same a.replicas file peer birth (keys a file) a.tags (replica_at a file) refl))
      (Keeps-refl a)

  pub unlink_keeps : (file : FileId) (peer birth : ℕ) → Keeps a (unlink a file peer birth)
  unlink_keeps file peer birth =
      let gone : Store = record a { replicas = replicas_unlinked a.replicas file peer birth (replica_at a file) } in
      chosen (Keeps a) (is_linked a file peer birth) gone a
      (beside_keeps a gone refl refl (omega arith)
      (λ h. unlinked_order a.replicas file h peer birth (replica_at a file))
      (unlinked_same a.replicas file peer birth (replica_at a file) refl))
      (Keeps-refl a)

  pub acked_keeps : (file : FileId) (l : Link) (k : Key) (tag : ℕ)
      → Keeps a (acknowledge a file l k tag)
  acked_keeps file l k tag =
      beside_keeps a (acknowledge a file l k tag) refl refl (omega arith)
      (λ h. acked_order a.replicas file h l k tag (replica_at a file))
      (acked_same a.replicas file l k tag (replica_at a file) refl)

-- ---- a replica begins

module _ (dir : FileId) where
  told_keeps : (a : Store) (i : Intent) → Keeps a (take_told a dir i)
  told_keeps a (intent.Bye file birth peer peer_birth) = Keeps-refl a
  told_keeps a (intent.Seek file target) = Keeps-refl a
  told_keeps a (intent.Fill file birth target) = Keeps-refl a
  told_keeps a (intent.Patch to entry target) = entry_keeps a dir entry
  told_keeps a (intent.Confirm to child target) = Keeps-refl a
  told_keeps a (intent.Leave file peer peer_birth) = Keeps-refl a

  told_in_keeps : (a : Store) (o : Option Intent) → Keeps a (take_told_in a dir o)
  told_in_keeps a None = Keeps-refl a
  told_in_keeps a (Some i) = told_keeps a i

  patch_keeps : (a : Store) (k : IntentKey) → Keeps a (take_patch a dir k)
  patch_keeps a k =
      let rest = ended a.intents k in
      Keeps-trans (intents_keep a rest) (told_in_keeps (with_intents a rest) (intent_at a.intents k))

  pub patches_keep : (a : Store) (ks : List IntentKey) → Keeps a (take_patches a dir ks)
  patches_keep a [] = Keeps-refl a
  patches_keep a (k ∷ ks) = Keeps-trans (patch_keeps a k) (patches_keep (take_patch a dir k) ks)

module _ (a : Store) (file : FileId) where
  begun_full : (birth : ℕ) (policy : Policy) (own : Attributes) (full : Bool)
      → (is_full a file ≡ true → ⊥) → (f : FileId) (t : Bool) → is_same_file f file ≡ t
      → is_full a f ≡ true → is_full (put_new a file birth policy own full) f ≡ true
  begun_full birth policy own full away f true e h =
      absurd (away (subst (λ g. is_full a g ≡ true) (is_same_file-true f file e) h))
  begun_full birth policy own full away f false e h =
      ap is_full_of (begun_other a.names file own full f e) ∙ h

  -- with no version, of what was not here
  pub begin_alters : (birth : ℕ) (policy : Policy) (own : Attributes) (full : Bool)
      → (is_full a file ≡ true → ⊥) → Alters a (begin a file birth policy own full) file
      (Some (new_core birth policy))
  begin_alters birth policy own full away =
      let x = new_replica birth policy in
      let fresh = put_new a file birth policy own full in
      let first : Alters a fresh file (Some (core_of x)) = record {
        server = refl;
        last = raised_up a.names.last a.names.last own.place.stamp.time refl;
        files = omega arith;
        order = put_order a.replicas file x;
        full = λ f h. begun_full birth policy own full away f (is_same_file f file) refl h;
        here = put_here a.replicas file x;
        others = λ f apart. put_elsewhere a.replicas file f x apart;
        view = refl;
        notes = λ sorted. (sorted, λ f stamp n h. h);
        ends = none_end a fresh refl file (Some (core_of x));
        free = λ h stamp n there covers. absurd (let z : false ≡ true = covers in cc);
      } in
      alters_keeps first (patches_keep file fresh (patches_of file a.intents))
