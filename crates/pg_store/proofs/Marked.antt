-- What is not marked does not seek and is listed as it is, behind each change of names and replicas.
use Rattle.std.proofs.Common.{◌≡◌, ℕ, Bool, true, false, ◌||◌, ◌&&◌, cond, not, List, Option, None, Some, refl, sym, ap, subst, ◌∙◌}
use Rattle.std.proofs.lemmas.Bool.{false≢true, or_parts}
use Rattle.pg_base.specs.declared.id.FileId.{FileId}
use Rattle.pg_base.specs.declared.stamp.Stamp.{Stamp}
use Rattle.pg_base.specs.Id.{file_cmp, is_same_file}
use Rattle.pg_base.specs.Version.{VersionValue}
use Rattle.pg_base.proofs.Maps.{lookup-insert_entry}
use Rattle.pg_base.proofs.Orders.{file_total}
use Rattle.pg_patch.specs.Ranges.{RangesValue}
use Rattle.pg_delta.specs.declared.delta.KeptDelta.{KeptDelta}
use Rattle.pg_edges.specs.declared.key.Key.{Key}
use Rattle.pg_index.specs.Ids.{is_one_of}
use Rattle.pg_register.specs.declared.flag.Flag.{Flag}
use Rattle.pg_register.specs.declared.place.Place.{Place}
use Rattle.pg_entries.specs.declared.entry.Entry.{Entry}
use Rattle.pg_names.specs.declared.attributes.Attributes.{Attributes}
use Rattle.pg_names.specs.Names.{InodeValue, NamesValue, begin, fill, filled, is_full_of, join_entry, join_flag, join_place, known, let_go, own_of, raise, update, with_flag, with_joined, with_place}
use Rattle.pg_names.proofs.Gone.{gone_other}
use Rattle.pg_names.proofs.Holding.{begun_other}
use Rattle.pg_names.proofs.Lookups.{apart_back, known_other, update_frame}
use Rattle.pg_replica.specs.declared.link.Link.{Link}
use Rattle.pg_replica.specs.declared.replica.Replica.{Replica}
use Rattle.pg_replica.specs.Replica.{has_edge, own_actor, with_ack, with_head, with_kept, with_link, with_touch, with_unlink, with_write}
use Rattle.pg_replica.specs.Replicas.{ByFile, or_nothing, put_replica, replica_in, replicas_acked, replicas_keeping, replicas_linked, replicas_taking, replicas_touched, replicas_unlinked, replicas_writing, without_replica}
use Rattle.pg_replica.proofs.Going.{replica_behind}
use Rattle.pg_store.specs.declared.seekers.Seekers.{Seekers}
use Rattle.pg_store.specs.Seekers.{AreMarked, Marks, is_marked, is_stale, seeks_as}
use Rattle.pg_walkers.specs.Walkers.{sends_as}

-- ---- what a change of one thing leaves of the others

abbrev pub NamesAside : FileId → NamesValue → NamesValue → Type 0
NamesAside file s t = (t.server ≡ s.server) × (t.removed ≡ s.removed)
    × ((q : FileId) → is_same_file file q ≡ false → known t q ≡ known s q)

abbrev pub ReplicasAside : FileId → ByFile → ByFile → Type 0
ReplicasAside file rs ts = (q : FileId) → is_same_file file q ≡ false → replica_in ts q ≡ replica_in rs q

pub same_names : (file : FileId) (s : NamesValue) → NamesAside file s s
same_names file s = (refl, refl, λ q apart. refl)

pub same_replicas : (file : FileId) (rs : ByFile) → ReplicasAside file rs rs
same_replicas file rs q apart = refl

-- ---- marks

abbrev pub IsMore : FileId → Seekers → Seekers → Type 0
IsMore file old new = Marks (is_same_file file) old new

and_no : (b : Bool) → (b && false) ≡ false
and_no true = refl
and_no false = refl

-- where the list is not whole, what is marked may be listed wrong
pub marked_stale : (s : Seekers) (q : FileId) → s.whole ≡ false → is_stale s q ≡ false → is_marked s q ≡ false
marked_stale s q part fresh = ap (λ w. s.all || (not w && is_one_of q s.ids)) (sym part) ∙ fresh

-- nothing else may
pub free_fresh : (s : Seekers) (q : FileId) → is_marked s q ≡ false → is_stale s q ≡ false
free_fresh s q free =
    let both = or_parts s.all (is_one_of q s.ids) free in
    ap (λ b. b || (not s.whole && is_one_of q s.ids)) both.0 ∙ ap (λ b. not s.whole && b) both.1 ∙ and_no (not s.whole)

-- where it is whole nothing is listed wrong
pub whole_fresh : (s : Seekers) (q : FileId) → s.all ≡ false → s.whole ≡ true → is_stale s q ≡ false
whole_fresh s q some whole = ap (λ b. b || (not s.whole && is_one_of q s.ids)) some ∙ ap (λ w. not w && is_one_of q s.ids) whole

-- where anything is marked nothing is said
pub any_marked : (s : NamesValue) (rs : ByFile) (seekers : Seekers) → seekers.all ≡ true → AreMarked s rs seekers
any_marked s rs seekers all q = (
  λ free. absurd (false≢true (sym (or_parts seekers.all (is_one_of q seekers.ids) free).0 ∙ all)),
  λ fresh. absurd (false≢true (sym (or_parts seekers.all (not seekers.whole && is_one_of q seekers.ids) fresh).0 ∙ all)),
)

-- the thing was marked, and then it changed
pub marked_then : (file : FileId) (s t : NamesValue) (rs ts : ByFile) (old new : Seekers) → IsMore file old new
    → NamesAside file s t → ReplicasAside file rs ts → AreMarked s rs old → AreMarked t ts new
marked_then file s t rs ts old new more names replicas marked q = (
  λ free. (
      let both = more.more q free in
      ap (λ n. seeks_as n t.removed (own_of (known t q)) (or_nothing (replica_in ts q))) names.0
      ∙ ap (λ r. seeks_as s.server r (own_of (known t q)) (or_nothing (replica_in ts q))) names.1
      ∙ ap (λ (o : Option InodeValue). seeks_as s.server s.removed (own_of o) (or_nothing (replica_in ts q))) (names.2 q both.0)
      ∙ ap (λ (o : Option Replica). seeks_as s.server s.removed (own_of (known s q)) (or_nothing o)) (replicas q both.0)
      ∙ (marked q).0 both.1),
  λ fresh. (
      let both = more.more q (marked_stale new q more.whole fresh) in
      ap (is_one_of q) more.walkers
      ∙ (marked q).1 (free_fresh old q both.1)
      ∙ ap (λ (o : Option InodeValue). sends_as q (is_full_of o) (or_nothing (replica_in rs q))) (sym (names.2 q both.0))
      ∙ ap (λ (o : Option Replica). sends_as q (is_full_of (known t q)) (or_nothing o)) (sym (replicas q both.0))),
)

-- ---- names

update_aside : (s : NamesValue) (f : FileId) (change : InodeValue → InodeValue) → NamesAside f s (update s f change)
update_aside s f change = let frame = update_frame s f change in (frame.server, frame.removed, known_other s f change)

pub place_aside : (s : NamesValue) (f : FileId) (place : Place) → NamesAside f s (join_place s f place)
place_aside s f place = update_aside s f (with_place place)

pub flag_aside : (s : NamesValue) (f : FileId) (flag : Flag) → NamesAside f s (join_flag s f flag)
flag_aside s f flag = update_aside s f (with_flag flag)

pub entry_aside : (s : NamesValue) (f : FileId) (e : Entry) → NamesAside f s (join_entry s f e)
entry_aside s f e = update_aside s f (with_joined e)

pub begun_aside : (s : NamesValue) (f : FileId) (own : Attributes) (full : Bool) → NamesAside f s (begin s f own full)
begun_aside s f own full = (refl, refl, λ q apart. begun_other s f own full q (apart_back f q apart))

pub gone_aside : (s : NamesValue) (f : FileId) → NamesAside f s (let_go s f)
gone_aside s f = (refl, refl, gone_other s f)

pub filled_aside : (s : NamesValue) (f : FileId) → NamesAside f s (fill s f)
filled_aside s f = update_aside s f filled

-- ---- replicas

put_if : (rs : ByFile) (q : FileId) (x : Replica) (t : Bool) → t ≡ false → cond t (Some x) (replica_in rs q) ≡ replica_in rs q
put_if rs q x t e = ap (λ b. cond b (Some x) (replica_in rs q)) e

pub put_aside : (rs : ByFile) (f : FileId) (x : Replica) → ReplicasAside f rs (put_replica rs f x)
put_aside rs f x q apart =
    lookup-insert_entry file_cmp file_total q f x rs ∙ put_if rs q x (is_same_file q f) (apart_back f q apart)

pub without_aside : (rs : ByFile) (f : FileId) → ReplicasAside f rs (without_replica rs f)
without_aside rs f q apart =
    replica_behind rs f q ∙ ap (λ b. cond (not b) (replica_in rs q) None) apart

made_aside : (rs : ByFile) (f : FileId) (made : Option Replica → ByFile) (change : Replica → Replica) (o : Option Replica)
    → made None ≡ rs → ((x : Replica) → made (Some x) ≡ put_replica rs f (change x)) → ReplicasAside f rs (made o)
made_aside rs f made change None none some q apart = ap (λ zs. replica_in zs q) none
made_aside rs f made change (Some x) none some q apart = ap (λ zs. replica_in zs q) (some x) ∙ put_aside rs f (change x) q apart

pub touched_aside : (rs : ByFile) (f : FileId) (k : Key) (tags : ℕ) (o : Option Replica) → ReplicasAside f rs (replicas_touched rs f k tags o)
touched_aside rs f k tags o = made_aside rs f (replicas_touched rs f k tags) (λ x. with_touch x k tags) o refl (λ x. refl)

pub linked_aside : (rs : ByFile) (f : FileId) (peer birth : ℕ) (ks : List Key) (tags : ℕ) (o : Option Replica) → ReplicasAside f rs (replicas_linked rs f peer birth ks tags o)
linked_aside rs f peer birth ks tags o = made_aside rs f (replicas_linked rs f peer birth ks tags) (λ x. with_link x peer birth ks tags) o refl (λ x. refl)

pub unlinked_aside : (rs : ByFile) (f : FileId) (peer birth : ℕ) (o : Option Replica) → ReplicasAside f rs (replicas_unlinked rs f peer birth o)
unlinked_aside rs f peer birth o = made_aside rs f (replicas_unlinked rs f peer birth) (λ x. with_unlink x peer birth) o refl (λ x. refl)

pub taking_aside : (rs : ByFile) (f : FileId) (v : VersionValue) (tags : ℕ) (o : Option Replica) → ReplicasAside f rs (replicas_taking rs f v tags o)
taking_aside rs f v tags o = made_aside rs f (replicas_taking rs f v tags) (λ x. with_head x v tags) o refl (λ x. refl)

pub writing_aside : (rs : ByFile) (f : FileId) (stamp : Stamp) (ranges : RangesValue) (tags : ℕ) (o : Option Replica) → ReplicasAside f rs (replicas_writing rs f stamp ranges tags o)
writing_aside rs f stamp ranges tags o =
    made_aside rs f (replicas_writing rs f stamp ranges tags) (λ x. with_write x (own_actor x stamp.server) stamp ranges tags) o refl (λ x. refl)

pub keeping_aside : (rs : ByFile) (f : FileId) (delta : KeptDelta) (o : Option Replica) → ReplicasAside f rs (replicas_keeping rs f delta o)
keeping_aside rs f delta o = made_aside rs f (replicas_keeping rs f delta) (λ x. with_kept x delta) o refl (λ x. refl)

chosen_aside : (rs ts : ByFile) (f : FileId) (t : Bool) → ReplicasAside f rs ts → ReplicasAside f rs (cond t ts rs)
chosen_aside rs ts f true aside = aside
chosen_aside rs ts f false aside = same_replicas f rs

pub acked_aside : (rs : ByFile) (f : FileId) (link : Link) (k : Key) (tag : ℕ) (o : Option Replica) → ReplicasAside f rs (replicas_acked rs f link k tag o)
acked_aside rs f link k tag None = same_replicas f rs
acked_aside rs f link k tag (Some x) = chosen_aside rs (put_replica rs f (with_ack x link.peer link.birth k tag)) f (has_edge x link) (put_aside rs f (with_ack x link.peer link.birth k tag))

-- a change that is made where a test holds
pub tested_aside : (rs ts us : ByFile) (f : FileId) (t : Bool) → us ≡ cond t ts rs → ReplicasAside f rs ts → ReplicasAside f rs us
tested_aside rs ts us f t is aside = subst (ReplicasAside f rs) (sym is) (chosen_aside rs ts f t aside)

-- ---- what a change told

pub names_by : (f : FileId) (s t u : NamesValue) → t ≡ u → NamesAside f s u → NamesAside f s t
names_by f s t u is aside = subst (NamesAside f s) (sym is) aside

pub replicas_by : (f : FileId) (rs ts us : ByFile) → ts ≡ us → ReplicasAside f rs us → ReplicasAside f rs ts
replicas_by f rs ts us is aside = subst (ReplicasAside f rs) (sym is) aside

-- and then a stamp was taken
pub raised_by : (f : FileId) (s t u : NamesValue) (time : ℕ) → u ≡ raise t time → NamesAside f s t → NamesAside f s u
raised_by f s t u time is aside = subst (NamesAside f s) (sym is) (aside.0, aside.1, aside.2)
