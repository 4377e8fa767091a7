-- Changes of what a server holds by which nothing begins, and no edge comes or goes.
use Rattle.std.proofs.Common.{ℕ, ◌≡◌, ◌||◌, Bool, true, false, cond, List, [], ◌∷◌, length, drop, Option, None, Some, is_some, refl, sym, ap, ◌∙◌}
use Rattle.std.specs.Option.{option_map}
use Rattle.std.specs.List.{list_any}
use Rattle.std.specs.Map.{keys_of, lookup}
use Rattle.std.specs.BTreeMap.{is_at}
use Rattle.pg_run.specs.pg_base.declared.id.FileId.{FileId}
use Rattle.pg_run.specs.pg_base.declared.stamp.Stamp.{Stamp}
use Rattle.pg_run.specs.pg_base.Id.{file_cmp}
use Rattle.pg_run.specs.pg_base.Version.{VersionValue}
use Rattle.pg_run.specs.pg_patch.Ranges.{RangesValue}
use Rattle.pg_run.specs.pg_edges.declared.key.Key.{Key}
use Rattle.pg_run.specs.pg_edges.declared.key.Key.TheVariants as key
use Rattle.pg_run.specs.pg_entries.declared.entry.Entry.{Entry}
use Rattle.pg_run.specs.pg_register.declared.flag.Flag.{Flag}
use Rattle.pg_run.specs.pg_register.declared.place.Place.{Place}
use Rattle.pg_run.specs.pg_announced.Announced.{NotesValue}
use Rattle.pg_run.specs.pg_delta.declared.delta.KeptDelta.{KeptDelta}
use Rattle.pg_run.specs.pg_intent.declared.intent.Intent.{Intent}
use Rattle.pg_run.specs.pg_intent.declared.intent.Intent.TheVariants as intent
use Rattle.pg_run.specs.pg_intent.declared.key.IntentKey.{IntentKey}
use Rattle.pg_run.specs.pg_intent.Intents.{ended, intent_at}
use Rattle.pg_run.specs.pg_msg.declared.message.Ends.{Ends}
use Rattle.pg_run.specs.pg_msg.declared.work.Touched.{Touched}
use Rattle.pg_run.specs.pg_msg.declared.work.Work.{Work}
use Rattle.pg_run.specs.pg_names.Names.{NamesValue, fill, filled, is_held, join_entry, join_flag, join_place, raise}
use Rattle.pg_run.specs.pg_house.House.{house}
use Rattle.pg_run.specs.pg_house.Work.{state_of}
use Rattle.pg_run.proofs.pg_house.Keys.{rules_keys}
use Rattle.pg_run.specs.pg_replica.declared.link.Link.{Link}
use Rattle.pg_run.specs.pg_replica.declared.replica.Replica.{Replica}
use Rattle.pg_run.specs.pg_replica.Replica.{covered_heads, key_of, keys, own_actor, with_head, with_kept, with_touch, with_write, without_keys}
use Rattle.pg_run.specs.pg_replica.Replicas.{ByFile, replicas_keeping, replicas_taking, replicas_touched, replicas_writing}
use Rattle.pg_run.specs.pg_store.declared.store.Store.{Store}
use Rattle.pg_run.specs.pg_store.Beginning.{take_patch, take_patches, take_told, take_told_in, with_intents}
use Rattle.pg_run.specs.pg_store.Store.{acknowledge, is_new_version, is_newer_entry, is_newer_flag, is_newer_place, keep_delta, put_entry, put_flag, put_place, put_version, replica_at, take_entry, take_flag, take_place, take_version, touch, with_names, write}
use Rattle.pg_run.specs.pg_store.Together.{HoldsAsBefore}
use Rattle.pg_run.proofs.pg_store.Pairs.{acked_seen, acknowledge_as_before, as_before, ended_as_before, entry_as_before, flag_as_before, made_seen, names_as_before, place_as_before, replicas_only, then_as_before, touch_as_before, update_held, version_as_before, write_as_before}
use Rattle.pg_run.specs.pg_pieces.Done.{Done}
use Rattle.pg_run.specs.pg_pieces.Making.{own_next}
use Rattle.pg_run.specs.pg_cells.Settling.{rules, settle, touch_all}
use Rattle.pg_run.proofs.pg_cells.Settled.{settle_keeps}
use Rattle.pg_run.specs.pg_calls.Naming.{with_id}
use Rattle.pg_run.specs.pg_server.pg_transfer.Asking.{with_notes}
use Rattle.law_births.proofs.Ends.{ends, ends-acked, ends-touched, ends-without}
use Rattle.pg_run.proofs.Transfers.{KeepsTransfers}

-- the birth of a replica, and the ends of its edges
abbrev pub Shape : Type 0
Shape = ℕ × List (ℕ × ℕ)

abbrev pub shape : Replica → Shape
shape x = (x.birth, ends x.edges)

abbrev pub shape_at : Store → FileId → Option Shape
shape_at a file = option_map shape (replica_at a file)

-- before: the same is held, with the births that it had
-- shapes: and each edge leads where it led
pub record Stays (a b : Store) : Type 0 where
  pub before : HoldsAsBefore a b
  pub shapes : (file : FileId) → shape_at b file ≡ shape_at a file

pub stays_itself : (a : Store) → Stays a a
stays_itself a = record { before = as_before a; shapes = λ q. refl }

pub stays_then : {a b c : Store} → Stays a b → Stays b c → Stays a c
stays_then {a} {b} {c} one two =
    record { before = then_as_before a b c one.before two.before; shapes = λ q. two.shapes q ∙ one.shapes q }

same_ends : (x : Replica) (es : List (ℕ × ℕ)) → es ≡ ends x.edges → ◌≡◌ {A = Shape} (x.birth, es) (shape x)
same_ends x es same = ap (λ (l : List (ℕ × ℕ)). (x.birth, l)) same

-- ---- each change

pub touch_stays : (a : Store) (file : FileId) (k : Key) → Stays a (touch a file k)
touch_stays a file k = record {
  before = touch_as_before a file k;
  shapes =
      made_seen shape a.replicas file (λ o. replicas_touched a.replicas file k a.tags o) (λ x. with_touch x k a.tags)
      (replica_at a file) refl refl (λ x. refl) (λ x. same_ends x (ends (with_touch x k a.tags).edges) (ends-touched x.edges k a.tags));
}

pub names_stay : (a : Store) (names : NamesValue) → ((q : FileId) → is_held names q ≡ is_held a.names q) → Stays a (with_names a names)
names_stay a names held = record { before = names_as_before a names held; shapes = λ q. refl }

shapes_by : (a b : Store) (t : Bool) (q : FileId) → shape_at b q ≡ shape_at a q → shape_at (cond t b a) q ≡ shape_at a q
shapes_by a b true q same = same
shapes_by a b false q same = refl

pub place_stays : (a : Store) (file : FileId) (place : Place) → Stays a (take_place a file place)
place_stays a file place = record {
  before = place_as_before a file place;
  shapes = λ q. shapes_by a (put_place a file place) (is_newer_place a file place) q
      ((touch_stays (with_names a (raise (join_place a.names file place) place.stamp.time)) file key.Place).shapes q);
}

pub flag_stays : (a : Store) (file : FileId) (flag : Flag) → Stays a (take_flag a file flag)
flag_stays a file flag = record {
  before = flag_as_before a file flag;
  shapes = λ q. shapes_by a (put_flag a file flag) (is_newer_flag a file flag) q
      ((touch_stays (with_names a (join_flag a.names file flag)) file (key.Flag flag.server)).shapes q);
}

pub entry_stays : (a : Store) (dir : FileId) (e : Entry) → Stays a (take_entry a dir e)
entry_stays a dir e = record {
  before = entry_as_before a dir e;
  shapes = λ q. shapes_by a (put_entry a dir e) (is_newer_entry a dir e) q
      ((touch_stays (with_names a (raise (join_entry a.names dir e) e.place.stamp.time)) dir (key.Entry e.child)).shapes q);
}

head_ends : (x : Replica) (v : VersionValue) (tags : ℕ) → ends (with_head x v tags).edges ≡ ends x.edges
head_ends x v tags =
    let gone = keys (covered_heads x.content.heads v) in
    ends-touched (without_keys x.edges gone) (key_of v) tags ∙ ends-without gone x.edges

pub version_stays : (a : Store) (file : FileId) (v : VersionValue) → Stays a (take_version a file v)
version_stays a file v = record {
  before = version_as_before a file v;
  shapes = λ q. shapes_by a (put_version a file v) (is_new_version a file v) q
      (made_seen shape a.replicas file (λ o. replicas_taking a.replicas file v a.tags o) (λ x. with_head x v a.tags)
      (replica_at a file) refl refl (λ x. refl) (λ x. same_ends x (ends (with_head x v a.tags).edges) (head_ends x v a.tags)) q);
}

write_ends : (x : Replica) (server : ℕ) (stamp : Stamp) (ranges : RangesValue) (tags : ℕ)
    → ends (with_write x (own_actor x server) stamp ranges tags).edges ≡ ends x.edges
write_ends x server stamp ranges tags =
    ends-touched (without_keys x.edges (keys x.content.heads)) (key.Version stamp) tags ∙ ends-without (keys x.content.heads) x.edges

pub write_stays : (a : Store) (file : FileId) (stamp : Stamp) (ranges : RangesValue) → Stays a (write a file stamp ranges)
write_stays a file stamp ranges = record {
  before = write_as_before a file stamp ranges;
  shapes =
      made_seen shape a.replicas file (λ o. replicas_writing a.replicas file stamp ranges a.tags o)
      (λ x. with_write x (own_actor x stamp.server) stamp ranges a.tags) (replica_at a file) refl refl (λ x. refl)
      (λ x. same_ends x (ends (with_write x (own_actor x stamp.server) stamp ranges a.tags).edges) (write_ends x stamp.server stamp ranges a.tags));
}

pub acknowledge_stays : (a : Store) (file : FileId) (link : Link) (k : Key) (tag : ℕ) → Stays a (acknowledge a file link k tag)
acknowledge_stays a file link k tag = record {
  before = acknowledge_as_before a file link k tag;
  shapes =
      acked_seen shape a.replicas file link k tag (replica_at a file) refl
      (λ x. same_ends x _ (ends-acked x.edges link.peer link.birth k tag));
}

pub fill_stays : (a : Store) (file : FileId) → Stays a (with_names a (fill a.names file))
fill_stays a file = names_stay a (fill a.names file) (update_held a.names file filled)

pub ended_stays : (a : Store) (k : IntentKey) → Stays a (with_intents a (ended a.intents k))
ended_stays a k = record { before = ended_as_before a k; shapes = λ q. refl }

pub id_stays : (a : Store) → Stays a (with_id a)
id_stays a = record {
  before = replicas_only a (with_id a) (λ q. refl) (λ q. refl) refl refl refl;
  shapes = λ q. refl;
}

-- what is noted of versions
pub notes_stay : (a : Store) (n : NotesValue) → Stays a (with_notes a n)
notes_stay a n = record {
  before = replicas_only a (with_notes a n) (λ q. refl) (λ q. refl) refl refl refl;
  shapes = λ q. refl;
}

-- a replica keeps a delta
pub keep_stays : (a : Store) (file : FileId) (delta : KeptDelta) → Stays a (keep_delta a file delta)
keep_stays a file delta =
    let kept : Option Replica → ByFile = λ o. replicas_keeping a.replicas file delta o in
    let change : Replica → Replica = λ x. with_kept x delta in record {
      before = replicas_only a (keep_delta a file delta) (λ q. refl)
          (made_seen (λ (x : Replica). x.birth) a.replicas file kept change (replica_at a file) refl refl (λ x. refl) (λ x. refl))
          refl refl refl;
      shapes = made_seen shape a.replicas file kept change (replica_at a file) refl refl (λ x. refl) (λ x. refl);
    }

-- so each step of bodies on demand
pub staying_steps : (ends : Ends) (P : Store → Type 0) → ((b c : Store) → Stays b c → P b → P c) → KeepsTransfers ends (λ (d : Done). P d.store)
staying_steps ends P on = record {
  notes = λ d n h. on d.store (with_notes d.store n) (notes_stay d.store n) h;
  keeps = λ d x h. on d.store (keep_delta d.store ends.file x) (keep_stays d.store ends.file x) h;
  takes = λ d v h. on d.store (take_version d.store ends.file v) (version_stays d.store ends.file v) h;
  answers = λ d m is h. h;
  tells = λ d head e is h. h;
}

-- ---- the house rules

held_by : {X : Type 0} (p : FileId → Bool) (e : FileId × X) (o : Option X) (t any : Bool) → is_some o ≡ any
    → is_some (cond t (Some e.1) o) ≡ (t || any)
held_by p e o true any rest = refl
held_by p e o false any rest = rest

found_keys : {X : Type 0} (p : FileId → Bool) (es : List (FileId × X)) → is_some (lookup p es) ≡ list_any p (keys_of es)
found_keys p [] = refl
found_keys p (e ∷ es) = held_by p e (lookup p es) (p e.0) (list_any p (keys_of es)) (found_keys p es)

pub house_holds : (moment : ℕ) (names : NamesValue) (work : Work) (q : FileId)
    → is_held (house moment (state_of names work)).names q ≡ is_held names q
house_holds moment names work q =
    found_keys (is_at (file_cmp q)) (house moment (state_of names work)).names.held
    ∙ ap (λ (ks : List FileId). list_any (is_at (file_cmp q)) ks) (rules_keys moment (state_of names work))
    ∙ sym (found_keys (is_at (file_cmp q)) names.held)

touches_stay : (a : Store) (ts : List Touched) → Stays a (touch_all a ts)
touches_stay a [] = stays_itself a
touches_stay a (t ∷ ts) = stays_then (touch_stays a t.file t.key) (touches_stay (touch a t.file t.key) ts)

pub rules_stay : (a : Store) (work : Work) → Stays a (rules a work).store
rules_stay a work =
    let st = house work.now (state_of a.names work) in
    stays_then (names_stay a st.names (house_holds work.now a.names work))
    (touches_stay (with_names a st.names) (drop (length work.touched) st.work.touched))

-- and golds are raised
pub settle_stays : (a : Store) (work : Work) → Stays a (settle a work).store
settle_stays a work =
    settle_keeps (λ (b : Store) (w : Work). Stays a b) (λ b w k. stays_then k (rules_stay b w))
    (λ b file w is k. stays_then k (flag_stays b file (own_next b file true))) a work (stays_itself a)

-- ---- Patches that a directory takes

told_stays : (a : Store) (dir : FileId) (i : Intent) → Stays a (take_told a dir i)
told_stays a dir (intent.Patch to e target) = entry_stays a dir e
told_stays a dir i = stays_itself a

told_in_stays : (a : Store) (dir : FileId) (o : Option Intent) → Stays a (take_told_in a dir o)
told_in_stays a dir None = stays_itself a
told_in_stays a dir (Some i) = told_stays a dir i

pub patches_stay : (a : Store) (dir : FileId) (ks : List IntentKey) → Stays a (take_patches a dir ks)
patches_stay a dir [] = stays_itself a
patches_stay a dir (k ∷ ks) =
    stays_then (ended_stays a k)
    (stays_then (told_in_stays (with_intents a (ended a.intents k)) dir (intent_at a.intents k)) (patches_stay (take_patch a dir k) dir ks))
