-- Which changes of a store leave what is held, and the births of its replicas, as they were.
use Rattle.std.proofs.Common.{ℕ, ◌≡◌, ◌≤◌, ◌+◌, arith, Bool, true, false, cond, Option, None, Some, is_some, List, [], ◌∷◌, refl, sym, ap, ◌∙◌}
use Rattle.std.specs.Option.{option_map}
use Rattle.pg_base.specs.declared.id.FileId.{FileId}
use Rattle.pg_base.specs.declared.stamp.Stamp.{Stamp}
use Rattle.pg_base.specs.declared.policy.Policy.{Policy}
use Rattle.pg_base.specs.Id.{file_cmp, is_same_file}
use Rattle.pg_base.specs.Version.{VersionValue}
use Rattle.pg_base.proofs.Maps.{lookup-insert_entry}
use Rattle.pg_base.proofs.Orders.{file_total, is_same_file-true}
use Rattle.pg_patch.specs.Ranges.{RangesValue}
use Rattle.pg_edges.specs.declared.key.Key.{Key}
use Rattle.pg_edges.specs.declared.key.Key.TheVariants as key
use Rattle.pg_register.specs.declared.flag.Flag.{Flag}
use Rattle.pg_register.specs.declared.place.Place.{Place}
use Rattle.pg_register.specs.Place.{root}
use Rattle.pg_entries.specs.declared.entry.Entry.{Entry}
use Rattle.pg_intent.specs.declared.intent.Intent.{Intent}
use Rattle.pg_intent.specs.declared.intent.Intent.TheVariants as intent
use Rattle.pg_intent.specs.declared.key.IntentKey.{IntentKey}
use Rattle.pg_intent.specs.declared.key.IntentKey.TheVariants as intent_key
use Rattle.pg_intent.specs.Key.{is_same_key}
use Rattle.pg_intent.specs.Intents.{ended, intent_at}
use Rattle.pg_intent.proofs.Found.{ended_found}
use Rattle.pg_names.specs.declared.attributes.Attributes.{Attributes}
use Rattle.pg_names.specs.Names.{InodeValue, NamesValue, changed, join_entry, join_flag, join_place, known, new_held, new_names, raise, update, with_flag, with_joined, with_place}
use Rattle.pg_names.proofs.Lookups.{known_held}
use Rattle.pg_names.proofs.Holding.{begun_known}
use Rattle.pg_replica.specs.declared.link.Link.{Link}
use Rattle.pg_replica.specs.declared.replica.Replica.{Replica}
use Rattle.pg_replica.specs.Replica.{has_edge, new_replica, own_actor, with_ack, with_head, with_link, with_touch, with_unlink, with_write}
use Rattle.pg_replica.specs.Replicas.{ByFile, put_replica, replica_in, replicas_acked, replicas_linked, replicas_taking, replicas_touched, replicas_unlinked, replicas_writing}
use Rattle.pg_replica.specs.Root.{first_root}
use Rattle.pg_store.specs.declared.store.Store.{Store}
use Rattle.pg_store.specs.Start.{root_own}
use Rattle.pg_store.specs.Store.{acknowledge, has_replica, is_held, is_new_version, is_newer_entry, is_newer_flag, is_newer_place, new_store, put_entry, put_flag, put_place, put_version, replica_at, take_entry, take_flag, take_place, take_version, touch, with_names, write}
use Rattle.pg_store.specs.Links.{is_linked, is_new_link, keys, link, put_link, unlink}
use Rattle.pg_store.specs.Beginning.{begin, patches_of, put_new, take_patch, take_patches, take_told, take_told_in, with_intents}
use Rattle.pg_store.specs.Births.{fill_at, with_birth}
use Rattle.pg_store.specs.Wishes.{wish_in}
use Rattle.pg_store.specs.Together.{AreTogether, HoldsAsBefore, birth_at}

-- ---- a chain of changes

-- a change of names, tags and replicas alone
pub replicas_only : (a b : Store) → ((q : FileId) → is_held b q ≡ is_held a q) → ((q : FileId) → birth_at b q ≡ birth_at a q)
    → b.births ≡ a.births → b.wishes ≡ a.wishes → b.intents ≡ a.intents → HoldsAsBefore a b
replicas_only a b held births count wishes intents = record {
  held = held;
  births = births;
  given = omega (arith, count);
  wishes = λ q wish there. ap (λ ws. wish_in ws q) (sym wishes) ∙ there;
  fills = λ q i there. ap (λ is. intent_at is (intent_key.Fill q)) (sym intents) ∙ there;
}

pub as_before : (a : Store) → HoldsAsBefore a a
as_before a = replicas_only a a (λ q. refl) (λ q. refl) refl refl refl

at_most_both : (m n k : ℕ) → m ≤ n → n ≤ k → m ≤ k
at_most_both m n k h g = omega arith

pub then_as_before : (a b c : Store) → HoldsAsBefore a b → HoldsAsBefore b c → HoldsAsBefore a c
then_as_before a b c d e = record {
  held = λ q. e.held q ∙ d.held q;
  births = λ q. e.births q ∙ d.births q;
  given = at_most_both a.births b.births c.births d.given e.given;
  wishes = λ q wish there. d.wishes q wish (e.wishes q wish there);
  fills = λ q i there. d.fills q i (e.fills q i there);
}

choice : (a b : Store) (t : Bool) → HoldsAsBefore a b → HoldsAsBefore a (cond t b a)
choice a b true h = h
choice a b false h = as_before a

some_born : (o : Option Replica) → is_some (option_map (λ (x : Replica). x.birth) o) ≡ is_some o
some_born None = refl
some_born (Some x) = refl

-- just what is held has a replica, as before
pub together_as_before : (a b : Store) → HoldsAsBefore a b → AreTogether a → AreTogether b
together_as_before a b same together file =
    sym (some_born (replica_at b file)) ∙ ap (λ (o : Option ℕ). is_some o) (same.births file) ∙ some_born (replica_at a file)
    ∙ together file ∙ sym (same.held file)

-- ---- the replica of a thing is another one, of which the same is seen

module _ {A : Type 0} (see : Replica → A) where
  -- what is seen of the replica of a thing
  abbrev pub seen_in : ByFile → FileId → Option A
  seen_in rs file = option_map see (replica_in rs file)

  seen_by : (rs : ByFile) (file q : FileId) (x y : Replica) (t : Bool) → is_same_file q file ≡ t → replica_in rs file ≡ Some x
      → see y ≡ see x → option_map see (cond t (Some y) (replica_in rs q)) ≡ seen_in rs q
  seen_by rs file q x y true e there same =
      ap (λ (b : A). Some b) same ∙ sym (ap (option_map see) (ap (replica_in rs) (is_same_file-true q file e) ∙ there))
  seen_by rs file q x y false e there same = refl

  pub put_seen : (rs : ByFile) (file : FileId) (x y : Replica) → replica_in rs file ≡ Some x → see y ≡ see x
      → (q : FileId) → seen_in (put_replica rs file y) q ≡ seen_in rs q
  put_seen rs file x y there same q =
      ap (option_map see) (lookup-insert_entry file_cmp file_total q file y rs)
      ∙ seen_by rs file q x y (is_same_file q file) refl there same

  -- a change that puts one where there was one
  pub made_seen : (rs : ByFile) (file : FileId) (made : Option Replica → ByFile) (change : Replica → Replica) (o : Option Replica)
      → replica_in rs file ≡ o → made None ≡ rs → ((x : Replica) → made (Some x) ≡ put_replica rs file (change x))
      → ((x : Replica) → see (change x) ≡ see x) → (q : FileId) → seen_in (made o) q ≡ seen_in rs q
  made_seen rs file made change None there none some same q = ap (λ zs. seen_in zs q) none
  made_seen rs file made change (Some x) there none some same q =
      ap (λ zs. seen_in zs q) (some x) ∙ put_seen rs file x (change x) there (same x) q

abbrev birth_of : Replica → ℕ
birth_of x = x.birth

-- ---- what is held of a thing is something else

held_if : (names : NamesValue) (file q : FileId) (x y : InodeValue) (t : Bool) → is_same_file file q ≡ t → known names file ≡ Some x
    → is_some (cond t (Some y) (known names q)) ≡ is_some (known names q)
held_if names file q x y true e there =
    sym (ap (λ (o : Option InodeValue). is_some o) (ap (known names) (sym (is_same_file-true file q e)) ∙ there))
held_if names file q x y false e there = refl

changed_held : (names : NamesValue) (file : FileId) (change : InodeValue → InodeValue) (o : Option InodeValue) → known names file ≡ o
    → (q : FileId) → is_some (known (changed names file change o) q) ≡ is_some (known names q)
changed_held names file change None there q = refl
changed_held names file change (Some x) there q =
    ap (λ (o : Option InodeValue). is_some o) (known_held names file x (change x) q there)
    ∙ held_if names file q x (change x) (is_same_file file q) refl there

pub update_held : (names : NamesValue) (file : FileId) (change : InodeValue → InodeValue) (q : FileId)
    → is_some (known (update names file change) q) ≡ is_some (known names q)
update_held names file change q = changed_held names file change (known names file) refl q

-- ---- each change

pub touch_as_before : (a : Store) (file : FileId) (k : Key) → HoldsAsBefore a (touch a file k)
touch_as_before a file k =
    replicas_only a (touch a file k) (λ q. refl)
    (made_seen birth_of a.replicas file (λ o. replicas_touched a.replicas file k a.tags o) (λ x. with_touch x k a.tags)
    (replica_at a file) refl refl (λ x. refl) (λ x. refl))
    refl refl refl

pub names_as_before : (a : Store) (names : NamesValue) → ((q : FileId) → is_some (known names q) ≡ is_some (known a.names q))
    → HoldsAsBefore a (with_names a names)
names_as_before a names held = replicas_only a (with_names a names) held (λ q. refl) refl refl refl

touched_as_before : (a : Store) (names : NamesValue) (file : FileId) (k : Key)
    → ((q : FileId) → is_some (known names q) ≡ is_some (known a.names q)) → HoldsAsBefore a (touch (with_names a names) file k)
touched_as_before a names file k held =
    then_as_before a (with_names a names) (touch (with_names a names) file k) (names_as_before a names held)
    (touch_as_before (with_names a names) file k)

pub place_as_before : (a : Store) (file : FileId) (place : Place) → HoldsAsBefore a (take_place a file place)
place_as_before a file place =
    choice a (put_place a file place) (is_newer_place a file place)
    (touched_as_before a (raise (join_place a.names file place) place.stamp.time) file key.Place
    (update_held a.names file (with_place place)))

pub flag_as_before : (a : Store) (file : FileId) (flag : Flag) → HoldsAsBefore a (take_flag a file flag)
flag_as_before a file flag =
    choice a (put_flag a file flag) (is_newer_flag a file flag)
    (touched_as_before a (join_flag a.names file flag) file (key.Flag flag.server) (update_held a.names file (with_flag flag)))

pub entry_as_before : (a : Store) (dir : FileId) (e : Entry) → HoldsAsBefore a (take_entry a dir e)
entry_as_before a dir e =
    choice a (put_entry a dir e) (is_newer_entry a dir e)
    (touched_as_before a (raise (join_entry a.names dir e) e.place.stamp.time) dir (key.Entry e.child)
    (update_held a.names dir (with_joined e)))

pub version_as_before : (a : Store) (file : FileId) (v : VersionValue) → HoldsAsBefore a (take_version a file v)
version_as_before a file v =
    choice a (put_version a file v) (is_new_version a file v)
    (replicas_only a (put_version a file v) (λ q. refl)
    (made_seen birth_of a.replicas file (λ o. replicas_taking a.replicas file v a.tags o) (λ x. with_head x v a.tags)
    (replica_at a file) refl refl (λ x. refl) (λ x. refl))
    refl refl refl)

pub write_as_before : (a : Store) (file : FileId) (stamp : Stamp) (ranges : RangesValue) → HoldsAsBefore a (write a file stamp ranges)
write_as_before a file stamp ranges =
    replicas_only a (write a file stamp ranges) (λ q. refl)
    (made_seen birth_of a.replicas file (λ o. replicas_writing a.replicas file stamp ranges a.tags o)
    (λ x. with_write x (own_actor x stamp.server) stamp ranges a.tags) (replica_at a file) refl refl (λ x. refl) (λ x. refl))
    refl refl refl

pub link_as_before : (a : Store) (file : FileId) (peer birth : ℕ) → HoldsAsBefore a (link a file peer birth)
link_as_before a file peer birth =
    choice a (put_link a file peer birth) (is_new_link a file peer birth)
    (replicas_only a (put_link a file peer birth) (λ q. refl)
    (made_seen birth_of a.replicas file (λ o. replicas_linked a.replicas file peer birth (keys a file) a.tags o)
    (λ x. with_link x peer birth (keys a file) a.tags) (replica_at a file) refl refl (λ x. refl) (λ x. refl))
    refl refl refl)

unlinked_births : (a : Store) (file : FileId) (peer birth : ℕ) (q : FileId)
    → seen_in birth_of (replicas_unlinked a.replicas file peer birth (replica_at a file)) q ≡ seen_in birth_of a.replicas q
unlinked_births a file peer birth q =
    made_seen birth_of a.replicas file (λ o. replicas_unlinked a.replicas file peer birth o) (λ x. with_unlink x peer birth)
    (replica_at a file) refl refl (λ x. refl) (λ x. refl) q

unlink_by : (a : Store) (file : FileId) (peer birth : ℕ) (t : Bool)
    → HoldsAsBefore a (cond t (record a { replicas = replicas_unlinked a.replicas file peer birth (replica_at a file) }) a)
unlink_by a file peer birth true =
    replicas_only a (record a { replicas = replicas_unlinked a.replicas file peer birth (replica_at a file) }) (λ q. refl)
    (unlinked_births a file peer birth) refl refl refl
unlink_by a file peer birth false = as_before a

pub unlink_as_before : (a : Store) (file : FileId) (peer birth : ℕ) → HoldsAsBefore a (unlink a file peer birth)
unlink_as_before a file peer birth = unlink_by a file peer birth (is_linked a file peer birth)

module _ {A : Type 0} (see : Replica → A) where
  acked_if : (rs : ByFile) (file : FileId) (x y : Replica) (t : Bool) → replica_in rs file ≡ Some x → see y ≡ see x → (q : FileId)
      → seen_in see (cond t (put_replica rs file y) rs) q ≡ seen_in see rs q
  acked_if rs file x y true there same q = put_seen see rs file x y there same q
  acked_if rs file x y false there same q = refl

  -- an answer, where an answer leaves what is seen
  pub acked_seen : (rs : ByFile) (file : FileId) (link : Link) (k : Key) (tag : ℕ) (o : Option Replica) → replica_in rs file ≡ o
      → ((x : Replica) → see (with_ack x link.peer link.birth k tag) ≡ see x) → (q : FileId)
      → seen_in see (replicas_acked rs file link k tag o) q ≡ seen_in see rs q
  acked_seen rs file link k tag None there same q = refl
  acked_seen rs file link k tag (Some x) there same q =
      acked_if rs file x (with_ack x link.peer link.birth k tag) (has_edge x link) there (same x) q

pub acknowledge_as_before : (a : Store) (file : FileId) (link : Link) (k : Key) (tag : ℕ)
    → HoldsAsBefore a (acknowledge a file link k tag)
acknowledge_as_before a file link k tag =
    replicas_only a (acknowledge a file link k tag) (λ q. refl)
    (acked_seen birth_of a.replicas file link k tag (replica_at a file) refl (λ x. refl)) refl refl refl

pub birth_as_before : (a : Store) → HoldsAsBefore a (with_birth a)
birth_as_before a = record {
  held = λ q. refl;
  births = λ q. refl;
  given = (let h : a.births ≤ a.births + 1 = omega arith in h);
  wishes = λ q wish there. there;
  fills = λ q i there. there;
}

-- ---- Patches that a directory takes

-- intentions of which no Fill came
pub intents_as_before : (a : Store) (is : List Intent)
    → ((q : FileId) (i : Intent) → intent_at is (intent_key.Fill q) ≡ Some i → fill_at a q ≡ Some i) → HoldsAsBefore a (with_intents a is)
intents_as_before a is fills = record {
  held = λ q. refl;
  births = λ q. refl;
  given = (let h : a.births ≤ a.births = omega arith in h);
  wishes = λ q wish there. there;
  fills = fills;
}

ended_by : (o : Option Intent) (i : Intent) (t : Bool) → cond t None o ≡ Some i → o ≡ Some i
ended_by o i true there = cc
ended_by o i false there = there

-- one that ends
pub ended_as_before : (a : Store) (k : IntentKey) → HoldsAsBefore a (with_intents a (ended a.intents k))
ended_as_before a k =
    intents_as_before a (ended a.intents k) (λ q i there.
    ended_by (fill_at a q) i (is_same_key (intent_key.Fill q) k) (sym (ended_found a.intents k (intent_key.Fill q)) ∙ there))

told_as_before : (a : Store) (dir : FileId) (i : Intent) → HoldsAsBefore a (take_told a dir i)
told_as_before a dir (intent.Patch to e target) = entry_as_before a dir e
told_as_before a dir i = as_before a

told_in_as_before : (a : Store) (dir : FileId) (o : Option Intent) → HoldsAsBefore a (take_told_in a dir o)
told_in_as_before a dir None = as_before a
told_in_as_before a dir (Some i) = told_as_before a dir i

patch_as_before : (a : Store) (dir : FileId) (k : IntentKey) → HoldsAsBefore a (take_patch a dir k)
patch_as_before a dir k =
    then_as_before a (with_intents a (ended a.intents k)) (take_patch a dir k) (ended_as_before a k)
    (told_in_as_before (with_intents a (ended a.intents k)) dir (intent_at a.intents k))

pub patches_as_before : (a : Store) (dir : FileId) (ks : List IntentKey) → HoldsAsBefore a (take_patches a dir ks)
patches_as_before a dir [] = as_before a
patches_as_before a dir (k ∷ ks) =
    then_as_before a (take_patch a dir k) (take_patches (take_patch a dir k) dir ks) (patch_as_before a dir k)
    (patches_as_before (take_patch a dir k) dir ks)

-- ---- a replica that begins

new_by : (o : Option InodeValue) (p : Option Replica) (x : InodeValue) (y : Replica) (t : Bool) → is_some p ≡ is_some o
    → is_some (cond t (Some y) p) ≡ is_some (cond t (Some x) o)
new_by o p x y true same = refl
new_by o p x y false same = same

pub new_together : (a : Store) (file : FileId) (birth : ℕ) (policy : Policy) (own : Attributes) (full : Bool) → AreTogether a
    → AreTogether (put_new a file birth policy own full)
new_together a file birth policy own full together q =
    ap (λ (o : Option Replica). is_some o) (lookup-insert_entry file_cmp file_total q file (new_replica birth policy) a.replicas)
    ∙ new_by (known a.names q) (replica_at a q) (new_held own full) (new_replica birth policy) (is_same_file q file) (together q)
    ∙ sym (ap (λ (o : Option InodeValue). is_some o) (begun_known a.names file own full q))

pub begin_together : (a : Store) (file : FileId) (birth : ℕ) (policy : Policy) (own : Attributes) (full : Bool) → AreTogether a
    → AreTogether (begin a file birth policy own full)
begin_together a file birth policy own full together =
    together_as_before (put_new a file birth policy own full) (begin a file birth policy own full)
    (patches_as_before (put_new a file birth policy own full) file (patches_of file a.intents))
    (new_together a file birth policy own full together)

-- ---- the start

start_by : (x : InodeValue) (y : Replica) (t : Bool) → is_some (cond t (Some y) None) ≡ is_some (cond t (Some x) None)
start_by x y true = refl
start_by x y false = refl

pub start_together : (servers server : ℕ) → AreTogether (new_store servers server)
start_together servers server q =
    ap (λ (o : Option Replica). is_some o) (lookup-insert_entry file_cmp file_total q root (first_root server servers) [])
    ∙ start_by (new_held (root_own servers) true) (first_root server servers) (is_same_file q root)
    ∙ sym (ap (λ (o : Option InodeValue). is_some o) (begun_known (new_names server) root (root_own servers) true q))

-- what is held has a replica, so a version of it may be made
pub held_there : (a : Store) (file : FileId) → AreTogether a → is_held a file ≡ true → has_replica a file ≡ true
held_there a file together held = together file ∙ held
