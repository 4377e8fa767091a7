-- What is held, each thing with its replica, can be read, and makes the maps that it was taken from.
use Rattle.std.proofs.Common.{◌≡◌, ℕ, ◌≤◌, true, List, [], ◌∷◌, ◌++◌, map, Option, None, Some, Less, Greater, refl, sym, ap, subst, ◌∙◌, append_assoc, arith}
use Rattle.std.specs.Prelude.{nat_le}
use Rattle.std.specs.List.{AllByRecursion, list_all}
use Rattle.std.specs.List.Sorted.{IsStrictlySortedBy}
use Rattle.std.specs.Map.{keys_of}
use Rattle.std.specs.Ordering.{is_lt}
use Rattle.std.proofs.lemmas.Bool.{le-leb}
use Rattle.std.proofs.lemmas.List.{length-map}
use Rattle.pg_base.specs.Id as id
use Rattle.pg_base.specs.Id.{file_cmp}
use Rattle.pg_base.specs.Version.{VersionValue}
use Rattle.pg_base.specs.declared.id.FileId.{FileId}
use Rattle.pg_base.specs.declared.id.Kind.{Kind}
use Rattle.pg_base.specs.declared.id.Kind.TheVariants.{Dir, File}
use Rattle.pg_base.specs.declared.policy.Policy.{Policy}
use Rattle.pg_base.proofs.Orders.{file_total}
use Rattle.pg_delta.specs.declared.delta.KeptDelta.{KeptDelta}
use Rattle.pg_entries.specs.declared.entry.Entry.{Entry}
use Rattle.pg_names.specs.Names.{InodeValue}
use Rattle.pg_packet_fields.specs.Lists.{Chain}
use Rattle.pg_replica.specs.Replicas.{ByFile, or_nothing, replica_in}
use Rattle.pg_replica.specs.declared.replica.Replica.{Replica}
use Rattle.pg_state.specs.Fits.{FitReplicas, FitsBeside, FitsHeld, FitsInside, FitsReplica, IsBesideInTime, IsHeldInTime, IsThingInTime}
use Rattle.pg_state_fields.specs.Orders.{is_behind}
use Rattle.pg_state_fields.specs.Replicas.{AreHeld, IsHeld, IsInside, inside_of, is_policy_of, to_held, with_entries, with_heads}
use Rattle.pg_state_fields.specs.declared.replicas.Held.{Held}
use Rattle.pg_state_fields.specs.declared.replicas.Inside.{Inside}
use Rattle.pg_state_fields.proofs.Lasts.{all_last, greater_of}
use Rattle.pg_state_read.specs.Built.{at_child, named, replicated}
use Rattle.pg_state_read.specs.Whole.{is_entry_in_time, is_head_in_time, is_held_in_time}
use Rattle.pg_state_read.proofs.Built.{found_in}
use Rattle.law_states.specs.Widths.{HasInodeWidth, HasReplicaWidth, HasThingWidth, MayHaveWidth}
use Rattle.law_states.proofs.Leaves.{IsAtChild, at_children, deltas_are, edges_are, entries_are, entry_of, heads_are, own_is}

abbrev held_of : FileId × InodeValue → Replica → Held
held_of e x = record {
  file = e.0;
  full = e.1.full;
  own = e.1.own;
  entries = map entry_of e.1.entries;
  replica = x;
}

-- a thing that is held, with its replica
abbrev pub held_in : ByFile → FileId × InodeValue → Held
held_in replicas e = held_of e (or_nothing (replica_in replicas e.0))

abbrev pub things : ByFile → List (FileId × InodeValue) → List Held
things replicas es = map (held_in replicas) es

found : (file : FileId) (i : InodeValue) (o : Option Replica) → FitsBeside file i o → FitsReplica file i (or_nothing o)
found file i None fits = absurd fits
found file i (Some x) fits = fits

wide : (file : FileId) (i : InodeValue) (o : Option Replica) → FitsBeside file i o → MayHaveWidth o → HasReplicaWidth (or_nothing o)
wide file i None fits width = absurd fits
wide file i (Some x) fits width = width

timely : (last : ℕ) (i : InodeValue) (o : Option Replica) → IsBesideInTime last i o → IsHeldInTime last i (or_nothing o)
timely last i None fits = absurd fits
timely last i (Some x) fits = fits

-- ---- the names that they make

children_back : (es : List (FileId × Entry)) → AllByRecursion IsAtChild es → map at_child (map entry_of es) ≡ es
children_back [] own = refl
children_back (e ∷ es) own =
    ap (λ (f : FileId). (f, e.1) ∷ map at_child (map entry_of es)) (sym own.0) ∙ ap (λ (xs : List (FileId × Entry)). e ∷ xs) (children_back es own.1)

inside_back : (kind : Kind) (i : InodeValue) (x : Replica) → FitsInside kind i x → map at_child (map entry_of i.entries) ≡ i.entries
inside_back Dir i x fits = children_back i.entries (at_children i.entries fits.children.by_child.own)
inside_back File i x fits =
    let Same : List (FileId × Entry) → Type 0 = λ es. map at_child (map entry_of es) ≡ es in
    subst Same (sym fits.entries) refl

abbrev inode_with : InodeValue → List (FileId × Entry) → InodeValue
inode_with i es = record { full = i.full; own = i.own; entries = es }

named_back : (e : FileId × InodeValue) (x : Replica) → FitsReplica e.0 e.1 x → named (held_of e x) ≡ e
named_back e x fits = ap (λ (es : List (FileId × Entry)). (e.0, inode_with e.1 es)) (inside_back e.0.kind e.1 x fits.inside)

pub all_named : (replicas : ByFile) (es : List (FileId × InodeValue)) → AllByRecursion (FitsHeld replicas) es → map named (things replicas es) ≡ es
all_named replicas [] fits = refl
all_named replicas (e ∷ es) fits =
    let o = replica_in replicas e.0 in
    let one : named (held_in replicas e) ≡ e = named_back e (or_nothing o) (found e.0 e.1 o fits.0) in
    ap (λ (n : FileId × InodeValue). n ∷ map named (things replicas es)) one ∙ ap (λ (ns : List (FileId × InodeValue)). e ∷ ns) (all_named replicas es fits.1)

-- ---- the replicas that they make

abbrev at_key : ByFile → FileId → FileId × Replica
at_key replicas k = (k, or_nothing (replica_in replicas k))

abbrev Ahead : ByFile → ByFile → Type 0
Ahead front rs = AllByRecursion (λ (r : FileId × Replica). AllByRecursion (λ (q : FileId × Replica). file_cmp r.0 q.0 ≡ Greater) front) rs

ahead_more : (front : ByFile) (r : FileId × Replica) (rs : ByFile) → Ahead front rs → AllByRecursion (λ (k : FileId). file_cmp r.0 k ≡ Less) (keys_of rs)
    → Ahead (front ++ r ∷ []) rs
ahead_more front r [] ahead less = tt
ahead_more front r (s ∷ rs) ahead less =
    (all_last file_cmp s.0 r.0 r.1 front ahead.0 (greater_of file_cmp file_total r.0 s.0 less.0), ahead_more front r rs ahead.1 less.1)

looked : (front rs : ByFile) → Ahead front rs → IsStrictlySortedBy file_cmp (keys_of rs) → map (at_key (front ++ rs)) (keys_of rs) ≡ rs
unfolding IsStrictlySortedBy
looked front [] ahead sorted = refl
looked front (r ∷ rs) ahead sorted =
    let all : ByFile = front ++ r ∷ rs in
    let here : replica_in all r.0 ≡ Some r.1 = found_in r.0 r.1 front rs ahead.0 in
    let one : at_key all r.0 ≡ r = ap (λ (o : Option Replica). (r.0, or_nothing o)) here in
    let moved : (front ++ r ∷ []) ++ rs ≡ all = append_assoc front (r ∷ []) rs in
    let rest : map (at_key all) (keys_of rs) ≡ rs =
    ap (λ (a : ByFile). map (at_key a) (keys_of rs)) (sym moved) ∙ looked (front ++ r ∷ []) rs (ahead_more front r rs ahead.1 sorted.0) sorted.1 in
    ap (λ (x : FileId × Replica). x ∷ map (at_key all) (keys_of rs)) one ∙ ap (λ (xs : ByFile). r ∷ xs) rest

none_ahead : (rs : ByFile) → Ahead [] rs
none_ahead [] = tt
none_ahead (r ∷ rs) = (tt, none_ahead rs)

at_keys : (replicas : ByFile) (es : List (FileId × InodeValue)) → map replicated (things replicas es) ≡ map (at_key replicas) (keys_of es)
at_keys replicas [] = refl
at_keys replicas (e ∷ es) = ap (λ (rs : ByFile). at_key replicas e.0 ∷ rs) (at_keys replicas es)

pub all_replicated : (replicas : ByFile) (es : List (FileId × InodeValue)) → FitReplicas es replicas → map replicated (things replicas es) ≡ replicas
all_replicated replicas es fits =
    let sorted : IsStrictlySortedBy file_cmp (keys_of replicas) = subst (λ (ks : List FileId). IsStrictlySortedBy file_cmp ks) (sym fits.same) fits.by_id in
    at_keys replicas es ∙ ap (λ (ks : List FileId). map (at_key replicas) ks) (sym fits.same) ∙ looked [] replicas (none_ahead replicas) sorted

-- ---- each can be read

policy_is : (kind : Kind) (i : InodeValue) (x : Replica) → FitsInside kind i x → is_policy_of kind x.content.policy ≡ true
policy_is Dir i x fits = ap (λ (p : Policy). is_policy_of Dir p) fits.policy
policy_is File i x fits = refl

abbrev inside_with : List Entry → Policy → List VersionValue → List KeptDelta → Inside
inside_with es policy heads kept = record { entries = es; content = record { policy = policy; heads = heads }; kept = kept }

inside_is : (kind : Kind) (e : FileId × InodeValue) (x : Replica) → FitsInside kind e.1 x → HasInodeWidth e.1 → HasReplicaWidth x
    → IsInside kind x.content.policy (inside_of (held_of e x))
inside_is Dir e x fits inode replica =
    let es : List Entry = map entry_of e.1.entries in
    let policy : Policy = x.content.policy in
    let same : inside_of (held_of e x) ≡ with_entries policy es =
    ap (λ (hs : List VersionValue). inside_with es policy hs x.kept) fits.heads ∙ ap (λ (ds : List KeptDelta). inside_with es policy [] ds) fits.kept in
    (entries_are e.1.entries fits.children inode.entries, same)
inside_is File e x fits inode replica =
    let same : inside_of (held_of e x) ≡ with_heads x.content.policy x.content.heads x.kept =
    ap (λ (es : List (FileId × Entry)). inside_with (map entry_of es) x.content.policy x.content.heads x.kept) fits.entries in
    ((heads_are x.content.heads fits.heads replica.heads, deltas_are x.kept fits.kept replica.kept), same)

held_is : (last : Option FileId) (e : FileId × InodeValue) (x : Replica) → is_behind file_cmp last e.0 ≡ true → FitsReplica e.0 e.1 x
    → id.Fits e.0 → HasInodeWidth e.1 → HasReplicaWidth x → IsHeld last (held_of e x)
held_is last e x behind fits file inode replica = record {
  front = record { file = (file, behind); birth = replica.birth; policy = (tt, policy_is e.0.kind e.1 x fits.inside) };
  own = own_is e.1.own fits.place fits.flags inode.own;
  inside = inside_is e.0.kind e x fits.inside inode replica;
  edges = edges_are x.edges fits.edges replica.edges;
}

thing_is : (last : Option FileId) (replicas : ByFile) (e : FileId × InodeValue) → is_behind file_cmp last e.0 ≡ true → FitsHeld replicas e → HasThingWidth replicas e
    → IsHeld last (held_in replicas e)
thing_is last replicas e behind fits widths =
    let o = replica_in replicas e.0 in
    held_is last e (or_nothing o) behind (found e.0 e.1 o fits) widths.file widths.inode (wide e.0 e.1 o fits widths.replica)

things_behind : (replicas : ByFile) (last : FileId) (es : List (FileId × InodeValue)) → IsStrictlySortedBy file_cmp (last ∷ keys_of es)
    → AllByRecursion (FitsHeld replicas) es → AllByRecursion (HasThingWidth replicas) es → Chain IsHeld to_held (Some last) (things replicas es)
unfolding IsStrictlySortedBy
things_behind replicas last [] sorted fits widths = tt
things_behind replicas last (e ∷ es) sorted fits widths =
    (thing_is (Some last) replicas e (ap is_lt sorted.0.0) fits.0 widths.0, things_behind replicas e.0 es sorted.1 fits.1 widths.1)

things_chain : (replicas : ByFile) (es : List (FileId × InodeValue)) → IsStrictlySortedBy file_cmp (keys_of es)
    → AllByRecursion (FitsHeld replicas) es → AllByRecursion (HasThingWidth replicas) es → Chain IsHeld to_held None (things replicas es)
things_chain replicas [] sorted fits widths = tt
things_chain replicas (e ∷ es) sorted fits widths = (thing_is None replicas e refl fits.0 widths.0, things_behind replicas e.0 es sorted fits.1 widths.1)

pub things_are : (replicas : ByFile) (es : List (FileId × InodeValue)) → FitReplicas es replicas → AllByRecursion (HasThingWidth replicas) es → AreHeld (things replicas es)
things_are replicas es fits widths =
    let few = fits.few in
    let long = length-map es (held_in replicas) in
    record { count = omega (arith, few, long); chain = things_chain replicas es fits.by_id fits.each widths }

-- ---- the greatest time

abbrev IsTimely : ℕ → FileId × Entry → Type 0
IsTimely last e = e.1.place.stamp.time ≤ last

entries_timely : (last : ℕ) (es : List (FileId × Entry)) → AllByRecursion (IsTimely last) es → list_all (is_entry_in_time last) (map entry_of es) ≡ true
entries_timely last [] times = refl
entries_timely last (e ∷ es) times =
    let one : is_entry_in_time last e.1 ≡ true = le-leb e.1.place.stamp.time last times.0 in
    rw one (entries_timely last es times.1)

heads_timely : (last : ℕ) (vs : List VersionValue) → AllByRecursion (λ (v : VersionValue). v.head.stamp.time ≤ last) vs → list_all (is_head_in_time last) vs ≡ true
heads_timely last [] times = refl
heads_timely last (v ∷ vs) times =
    let one : is_head_in_time last v ≡ true = le-leb v.head.stamp.time last times.0 in
    rw one (heads_timely last vs times.1)

held_timely : (last : ℕ) (e : FileId × InodeValue) (x : Replica) → IsHeldInTime last e.1 x → is_held_in_time last (held_of e x) ≡ true
held_timely last e x times =
    let place : nat_le e.1.own.place.stamp.time last ≡ true = le-leb e.1.own.place.stamp.time last times.place in
    rw (place, entries_timely last e.1.entries times.entries, heads_timely last x.content.heads times.heads) refl

pub things_timely : (last : ℕ) (replicas : ByFile) (es : List (FileId × InodeValue)) → AllByRecursion (IsThingInTime last replicas) es
    → list_all (is_held_in_time last) (things replicas es) ≡ true
things_timely last replicas [] times = refl
things_timely last replicas (e ∷ es) times =
    let o = replica_in replicas e.0 in
    let one : is_held_in_time last (held_in replicas e) ≡ true = held_timely last e (or_nothing o) (timely last e.1 o times.0) in
    rw one (things_timely last replicas es times.1)
