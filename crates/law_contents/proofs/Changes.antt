-- How a store changes: no replica's birth, content or kept deltas do, nor what is noted of
-- versions; or those of one replica do, and no version is noted that was not.
use Rattle.std.proofs.Common.{ℕ, ◌≡◌, ◌≤◌, ◌⊎◌, Bool, true, false, List, [], Option, None, Some, option_map, inl, inr, refl, sym, ap, subst, ◌∙◌, arith}
use Rattle.std.specs.List.Sorted.{IsStrictlySortedBy}
use Rattle.std.specs.Map.{keys_of}
use Rattle.pg_run.specs.pg_announced.declared.announced.Announced.{Announced}
use Rattle.pg_run.specs.pg_announced.Announced.{AreSorted, NotesValue, key_at, note_at}
use Rattle.pg_run.specs.pg_base.declared.id.FileId.{FileId}
use Rattle.pg_run.specs.pg_base.declared.policy.Policy.{Policy}
use Rattle.pg_run.specs.pg_base.declared.stamp.Stamp.{Stamp}
use Rattle.pg_run.specs.pg_base.Id.{file_cmp, is_same_file}
use Rattle.pg_run.specs.pg_base.Version.{actor_of}
use Rattle.pg_run.proofs.pg_base.Orders.{is_same_file-true}
use Rattle.pg_run.specs.pg_content.Content.{ContentValue, is_covered}
use Rattle.pg_run.specs.pg_delta.declared.delta.KeptDelta.{KeptDelta}
use Rattle.pg_run.specs.pg_replica.declared.replica.Replica.{Replica}
use Rattle.pg_run.specs.pg_replica.Replicas.{ByFile, nothing, or_nothing}
use Rattle.pg_run.specs.pg_store.declared.store.Store.{Store}
use Rattle.pg_run.specs.pg_store.Births.{birth_of}
use Rattle.pg_run.specs.pg_store.Seen.{removed_of, server_of}
use Rattle.pg_run.specs.pg_store.Store.{content_of, is_full, replica_at}

-- ---- what is looked at of a replica

pub record Core : Type 0 where
  pub birth : ℕ
  pub content : ContentValue
  pub kept : List KeptDelta

abbrev pub core_of : Replica → Core
core_of x = record { birth = x.birth; content = x.content; kept = x.kept }

-- a replica that begins has no version, and keeps no delta
abbrev pub new_core : ℕ → Policy → Core
new_core birth policy =
    record { birth = birth; content = record { policy = policy; heads = [] }; kept = [] }

-- of the replica of a thing, if there is one
abbrev pub core_at : Store → FileId → Option Core
core_at a file = option_map core_of (replica_at a file)

abbrev pub birth_in : Option Core → ℕ
birth_in None = 0
birth_in (Some k) = k.birth

abbrev pub content_in : Option Core → ContentValue
content_in None = nothing.content
content_in (Some k) = k.content

content_by : (o : Option Replica) → (or_nothing o).content ≡ content_in (option_map core_of o)
content_by None = refl
content_by (Some x) = refl

birth_by : (o : Option Replica) → (or_nothing o).birth ≡ birth_in (option_map core_of o)
birth_by None = refl
birth_by (Some x) = refl

pub content_is : (a : Store) (file : FileId) → content_of a file ≡ content_in (core_at a file)
content_is a file = content_by (replica_at a file)

pub birth_is : (a : Store) (file : FileId) → birth_of a file ≡ birth_in (core_at a file)
birth_is a file = birth_by (replica_at a file)

found_by : (o : Option Replica) (k : Core) → option_map core_of o ≡ Some k
    → (x : Replica) × (o ≡ Some x) × (core_of x ≡ k)
found_by None k e = absurd (let z : None ≡ Some k = e in cc)
found_by (Some x) k e = (x, refl, (let z : Some (core_of x) ≡ Some k = e in cc))

-- the replica whose birth and content these are
pub replica_of_core : (a : Store) (file : FileId) (k : Core) → core_at a file ≡ Some k
    → (x : Replica) × (replica_at a file ≡ Some x) × (core_of x ≡ k)
replica_of_core a file k e = found_by (replica_at a file) k e

-- replicas stand by id
abbrev pub IsOrdered : ByFile → Type 0
IsOrdered rs = IsStrictlySortedBy file_cmp (keys_of rs)

-- what is full stays so
abbrev pub StaysFull : Store → Store → Type 0
StaysFull a b = (file : FileId) → is_full a file ≡ true → is_full b file ≡ true

-- ---- what is noted

-- what is noted of a version of a file
abbrev pub noted_at : Store → FileId → Stamp → Option Announced
noted_at a file stamp = note_at a.announced (key_at file stamp)

-- no other version is noted, and of none anything else
abbrev pub NotesStay : Store → Store → Type 0
NotesStay a b = AreSorted a.announced → AreSorted b.announced
    × ((file : FileId) (stamp : Stamp) (n : Announced) → noted_at b file stamp ≡ Some n
    → noted_at a file stamp ≡ Some n)

pub same_notes : (a b : Store) → b.announced ≡ a.announced → NotesStay a b
same_notes a b same sorted =
    let P : NotesValue → Type 0 = (λ ns. AreSorted ns
    × ((file : FileId) (stamp : Stamp) (n : Announced) → note_at ns (key_at file stamp) ≡ Some n
    → noted_at a file stamp ≡ Some n)) in
    subst P (sym same) (sorted, λ file stamp n h. h)

notes_then : (a b c : Store) → NotesStay a b → NotesStay b c → NotesStay a c
notes_then a b c k l sorted =
    let first = k sorted in
    let second = l first.0 in
    (second.0, λ file stamp n h. first.1 file stamp n (second.1 file stamp n h))

-- the heads cover the version that is noted
abbrev pub Covers : Option Core → Announced → Type 0
Covers o n = is_covered (content_in o).heads (actor_of n.head) n.head.number ≡ true

-- a note ends only where what is held of its file, which is this then, covers its version
abbrev pub EndCovered : Store → Store → FileId → Option Core → Type 0
EndCovered a b file o = (f : FileId) (stamp : Stamp) (n : Announced) → noted_at a f stamp ≡ Some n
    → (noted_at b f stamp ≡ Some n) ⊎ ((f ≡ file) × Covers o n)

-- no version is noted that these heads cover
abbrev pub IsOpen : Store → FileId → Option Core → Type 0
IsOpen a file o = (stamp : Stamp) (n : Announced) → noted_at a file stamp ≡ Some n → Covers o n → ⊥

-- nor one that is covered here
abbrev pub AreOpen : Store → Type 0
AreOpen a = (file : FileId) → IsOpen a file (core_at a file)

pub same_noted : (a b : Store) → b.announced ≡ a.announced → (f : FileId) (stamp : Stamp)
    → noted_at b f stamp ≡ noted_at a f stamp
same_noted a b same f stamp = ap (λ (ns : NotesValue). note_at ns (key_at f stamp)) same

pub none_end : (a b : Store) → b.announced ≡ a.announced → (file : FileId) (o : Option Core)
    → EndCovered a b file o
none_end a b same file o f stamp n h = inl (same_noted a b same f stamp ∙ h)

-- ---- none changes

-- it is the same server, in the same view; its clock does not fall, nor does the number of its ids
pub record Keeps (a b : Store) : Type 0 where
  pub server : server_of b ≡ server_of a
  pub last : a.names.last ≤ b.names.last
  pub files : a.files ≤ b.files
  pub order : IsOrdered a.replicas → IsOrdered b.replicas
  pub full : StaysFull a b
  pub each : (file : FileId) → core_at b file ≡ core_at a file
  pub view : removed_of b ≡ removed_of a
  pub notes : b.announced ≡ a.announced

pub Keeps-refl : (a : Store) → Keeps a a
Keeps-refl a =
    record {
      server = refl;
      last = omega arith;
      files = omega arith;
      order = λ h. h;
      full = λ file h. h;
      each = λ file. refl;
      view = refl;
      notes = refl;
    }

pub Keeps-trans : {a b c : Store} → Keeps a b → Keeps b c → Keeps a c
Keeps-trans {a} {b} {c} k l =
    let e = k.last in let f = l.last in let g = k.files in let h = l.files in
    record {
      server = l.server ∙ k.server;
      last = omega arith;
      files = omega arith;
      order = λ z. l.order (k.order z);
      full = λ file z. l.full file (k.full file z);
      each = λ file. l.each file ∙ k.each file;
      view = l.view ∙ k.view;
      notes = l.notes ∙ k.notes;
    }

pub keeps_open : {a b : Store} → Keeps a b → AreOpen a → AreOpen b
keeps_open {a} {b} k h file stamp n there covers =
    h file stamp n (sym (same_noted a b k.notes file stamp) ∙ there)
    (subst (λ (o : Option Core). Covers o n) (k.each file) covers)

-- ---- one changes, or begins

-- of the thing there is this now
pub record Alters (a b : Store) (file : FileId) (o : Option Core) : Type 0 where
  pub server : server_of b ≡ server_of a
  pub last : a.names.last ≤ b.names.last
  pub files : a.files ≤ b.files
  pub order : IsOrdered a.replicas → IsOrdered b.replicas
  pub full : StaysFull a b
  pub here : core_at b file ≡ o
  pub others : (f : FileId) → is_same_file f file ≡ false → core_at b f ≡ core_at a f
  pub view : removed_of b ≡ removed_of a
  pub notes : NotesStay a b
  pub ends : EndCovered a b file o
  pub free : IsOpen a file (core_at a file) → IsOpen b file o

pub keeps_alters : {a b d : Store} {file : FileId} {o : Option Core} → Keeps a b
    → Alters b d file o → Alters a d file o
keeps_alters {a} {b} {d} {file} k p =
    let e = k.last in let f = p.last in let g = k.files in let h = p.files in
    record {
      server = p.server ∙ k.server;
      last = omega arith;
      files = omega arith;
      order = λ z. p.order (k.order z);
      full = λ q z. p.full q (k.full q z);
      here = p.here;
      others = λ q apart. p.others q apart ∙ k.each q;
      view = p.view ∙ k.view;
      notes = notes_then a b d (same_notes a b k.notes) p.notes;
      ends = λ f stamp n there. p.ends f stamp n (same_noted a b k.notes f stamp ∙ there);
      free = λ h. p.free (λ stamp n there covers. h stamp n
          (sym (same_noted a b k.notes file stamp) ∙ there)
          (subst (λ (c : Option Core). Covers c n) (k.each file) covers));
    }

pub alters_keeps : {a b d : Store} {file : FileId} {o : Option Core} → Alters a b file o
    → Keeps b d → Alters a d file o
alters_keeps {a} {b} {d} {file} p k =
    let e = k.last in let f = p.last in let g = k.files in let h = p.files in
    record {
      server = k.server ∙ p.server;
      last = omega arith;
      files = omega arith;
      order = λ z. k.order (p.order z);
      full = λ q z. k.full q (p.full q z);
      here = k.each file ∙ p.here;
      others = λ q apart. k.each q ∙ p.others q apart;
      view = k.view ∙ p.view;
      notes = notes_then a b d p.notes (same_notes b d k.notes);
      ends = λ f stamp n there. elim (p.ends f stamp n there) [
        | inl stays ↦ inl (same_noted b d k.notes f stamp ∙ stays)
        | inr over ↦ inr over
      ];
      free = λ h stamp n there. p.free h stamp n (sym (same_noted b d k.notes file stamp) ∙ there);
    }

-- a fact on things, by the one that changed
pub by_altered : (P : FileId → Option Core → Type 0) (a b : Store) (file : FileId)
    (o : Option Core) → Alters a b file o → P file o
    → ((f : FileId) → is_same_file f file ≡ false → P f (core_at a f))
    → (f : FileId) → P f (core_at b f)
by_altered P a b file o k here there f = at (is_same_file f file) refl
  where
    at : (t : Bool) → is_same_file f file ≡ t → P f (core_at b f)
    at true e =
        let Q : FileId → Type 0 = (λ g. P g (core_at b g)) in
        subst Q (sym (is_same_file-true f file e)) (subst (P file) (sym k.here) here)
    at false e = subst (P f) (sym (k.others f e)) (there f e)
