-- What fits in a state, and has the widths of its types, can be read: flags, entries, heads, deltas and edges.
use Rattle.std.proofs.Common.{◌≡◌, ℕ, ◌^◌, ◌≤◌, ◌<◌, Bool, true, false, List, [], ◌∷◌, map, Option, None, Some, Less, All, refl, sym, ap, subst, arith, inl, inr}
use Rattle.std.specs.Prelude.{nat_le, nat_lt, ◌||◌, ◌==◌}
use Rattle.std.specs.Cmp.{ranked}
use Rattle.std.specs.List.{AllByRecursion}
use Rattle.std.specs.List.Sorted.{IsStrictlySortedBy}
use Rattle.std.specs.Map.{keys_of}
use Rattle.std.specs.Ordering.{is_lt, nat_cmp}
use Rattle.std.proofs.lemmas.Bool.{eq-eqb, le-leb, lt-ltb}
use Rattle.std.proofs.lemmas.List.{length-map}
use Rattle.std.proofs.lemmas.List.Elements.{recursion_from_All}
use Rattle.std.proofs.lemmas.Map.Keys.{sorted_from_strictly_increasing}
use Rattle.pg_base.specs.Id.{file_cmp}
use Rattle.pg_base.specs.Stamp.{IsBefore}
use Rattle.pg_base.specs.Version.{VersionValue, stamp_of}
use Rattle.pg_base.specs.declared.id.FileId.{FileId}
use Rattle.pg_base.specs.declared.stamp.Stamp.{Stamp}
use Rattle.pg_codec.specs.Laws.{AreBytes, HasWidth}
use Rattle.pg_delta.specs.declared.delta.KeptDelta.{KeptDelta}
use Rattle.pg_edges.specs.Edges.{peers}
use Rattle.pg_edges.specs.Key.{key_cmp}
use Rattle.pg_edges.specs.declared.edge.Edge.{Edge}
use Rattle.pg_edges.specs.declared.key.Key.{Key}
use Rattle.pg_edges.specs.declared.key.Key.TheVariants as key
use Rattle.pg_entries.specs.declared.entry.Entry.{Entry}
use Rattle.pg_names.specs.declared.attributes.Attributes.{Attributes}
use Rattle.pg_packet_fields.specs.Lists.{Chain, is_later}
use Rattle.pg_packet_fields.specs.Places.{IsWholePlace, to_server}
use Rattle.pg_packet_fields.specs.Values.{IsKey}
use Rattle.pg_packet_write.specs.Fits.{FitsKey, IsServer, Rise, RiseBehind}
use Rattle.pg_register.specs.Flag.{IsByServer}
use Rattle.pg_register.specs.declared.flag.Flag.{Flag}
use Rattle.pg_register.specs.declared.place.Place.{Place}
use Rattle.pg_state.specs.Fits.{FitChildren, FitEdges, FitFlags, FitHeads, FitKept, FitsChild, FitsEdge, FitsKept, FitsWhole}
use Rattle.pg_state_fields.specs.Contents.{AnyDelta, AreDeltas, AreHeads, IsDelta, IsWhole, is_ordinal, to_stamp}
use Rattle.pg_state_fields.specs.Edges.{AreEdges, IsEdge, IsTagged, to_key, to_peer}
use Rattle.pg_state_fields.specs.Flags.{AreEntries, AreGolds, IsEntry, IsGold, IsOwn, is_above, is_flag_number, to_child}
use Rattle.pg_state_fields.specs.Orders.{Passes, is_behind, unchanged}
use Rattle.pg_words.specs.PlaceWords.{IsPlace}
use Rattle.law_written.proofs.Lists.{known_are, ranges_are, stamps_are}
use Rattle.law_written.specs.Widths.{HasFlagWidth}
use Rattle.law_states.specs.Widths.{HasDeltaWidth, HasEdgeWidth, HasEntryWidth, HasKeyWidth, HasOwnWidth, HasTaggedWidth, HasVersionWidth}

below : (x y : ℕ) → nat_cmp x y ≡ Less → x < y
below x y e = ranked x y Less (sym e)

above : (last n : ℕ) → last < n → n ≤ 64 → Passes (HasWidth 4) (is_above last) n
above last n lt le =
    let low : nat_lt last n ≡ true = lt-ltb last n lt in
    let high : nat_le n 64 ≡ true = le-leb n 64 le in
    let both : is_above last n ≡ true = rw (low, high) refl in
    (omega (arith, le), both)

-- ---- places and flags

flag_number : (n : ℕ) → n < 2 ^ 63 → Passes (HasWidth 8) is_flag_number n
flag_number n lt = let test : is_flag_number n ≡ true = lt-ltb n (2 ^ 63) lt in (omega (arith, lt), test)

abbrev server_in : Flag → ℕ
server_in flag = flag.server

golds_behind : (last : ℕ) (fs : List Flag) → IsStrictlySortedBy nat_cmp (last ∷ map server_in fs)
    → AllByRecursion (λ (f : Flag). IsServer f.server) fs → AllByRecursion (λ (f : Flag). f.number < 2 ^ 63) fs → AllByRecursion HasFlagWidth fs
    → Chain IsGold to_server last fs
unfolding IsStrictlySortedBy
golds_behind last [] sorted servers low widths = tt
golds_behind last (f ∷ fs) sorted servers low widths = (
  record { server = above last f.server (below last f.server sorted.0.0) servers.0.most; birth = widths.0.birth; number = flag_number f.number low.0 },
  golds_behind f.server fs sorted.1 servers.1 low.1 widths.1,
)

golds_chain : (fs : List Flag) → IsByServer fs → AllByRecursion (λ (f : Flag). IsServer f.server) fs
    → AllByRecursion (λ (f : Flag). f.number < 2 ^ 63) fs → AllByRecursion HasFlagWidth fs → Chain IsGold to_server 0 fs
golds_chain [] sorted servers low widths = tt
golds_chain (f ∷ fs) sorted servers low widths =
    let least = servers.0.least in (
      record { server = above 0 f.server (omega (arith, least)) servers.0.most; birth = widths.0.birth; number = flag_number f.number low.0 },
      golds_behind f.server fs sorted servers.1 low.1 widths.1,
    )

golds_are : (fs : List Flag) → FitFlags fs → AllByRecursion HasFlagWidth fs → AreGolds fs
golds_are fs fits widths = record { few = fits.golds.few; chain = golds_chain fs fits.by_server fits.golds.each fits.low widths }

place_is : (p : Place) → IsPlace p → AreBytes p.name → IsWholePlace p
place_is p fits bytes = record {
  stamp = record { time = fits.stamp.time; server = fits.stamp.server };
  parent = fits.parent;
  name = record { place = fits.name; width = bytes };
}

pub own_is : (own : Attributes) → IsPlace own.place → FitFlags own.flags → HasOwnWidth own → IsOwn own
own_is own place flags widths = record { place = place_is own.place place widths.name; flags = golds_are own.flags flags widths.flags }

-- ---- entries

abbrev pub entry_of : FileId × Entry → Entry
entry_of e = e.1

-- each entry is at its own child
abbrev pub IsAtChild : FileId × Entry → Type 0
IsAtChild e = e.0 ≡ e.1.child

pub at_children : (es : List (FileId × Entry)) → All IsAtChild es → AllByRecursion IsAtChild es
at_children es all = recursion_from_All IsAtChild es all

entry_is : (last : Option FileId) (e : FileId × Entry) → IsAtChild e → is_behind file_cmp last e.0 ≡ true → FitsChild e.1 → HasEntryWidth e.1 → IsEntry last e.1
entry_is last e own behind fits widths = record {
  child = (widths.child, subst (λ (f : FileId). is_behind file_cmp last f ≡ true) own behind);
  place = place_is e.1.place fits.place widths.name;
  flags = golds_are e.1.flags fits.flags widths.flags;
}

entries_behind : (last : FileId) (es : List (FileId × Entry)) → IsStrictlySortedBy file_cmp (last ∷ keys_of es) → AllByRecursion IsAtChild es
    → AllByRecursion (λ (e : FileId × Entry). FitsChild e.1) es → AllByRecursion (λ (e : FileId × Entry). HasEntryWidth e.1) es
    → Chain IsEntry to_child (Some last) (map entry_of es)
unfolding IsStrictlySortedBy
entries_behind last [] sorted own fits widths = tt
entries_behind last (e ∷ es) sorted own fits widths = (
  entry_is (Some last) e own.0 (ap is_lt sorted.0.0) fits.0 widths.0,
  subst (λ (f : FileId). Chain IsEntry to_child (Some f) (map entry_of es)) own.0 (entries_behind e.0 es sorted.1 own.1 fits.1 widths.1),
)

entries_chain : (es : List (FileId × Entry)) → IsStrictlySortedBy file_cmp (keys_of es) → AllByRecursion IsAtChild es
    → AllByRecursion (λ (e : FileId × Entry). FitsChild e.1) es → AllByRecursion (λ (e : FileId × Entry). HasEntryWidth e.1) es
    → Chain IsEntry to_child None (map entry_of es)
entries_chain [] sorted own fits widths = tt
entries_chain (e ∷ es) sorted own fits widths = (
  entry_is None e own.0 refl fits.0 widths.0,
  subst (λ (f : FileId). Chain IsEntry to_child (Some f) (map entry_of es)) own.0 (entries_behind e.0 es sorted own.1 fits.1 widths.1),
)

pub entries_are : (es : List (FileId × Entry)) → FitChildren es → AllByRecursion (λ (e : FileId × Entry). HasEntryWidth e.1) es → AreEntries (map entry_of es)
entries_are es fits widths =
    let few = fits.few in
    let long = length-map es entry_of in
    record { count = omega (arith, few, long); chain = entries_chain es fits.by_child.rising (at_children es fits.by_child.own) fits.each widths }

-- ---- heads

ordinal : (n : ℕ) → 1 ≤ n → HasWidth 8 n → Passes (HasWidth 8) is_ordinal n
ordinal n least width = let test : is_ordinal n ≡ true = le-leb 1 n least in (width, test)

either : (t : Bool) → (t || true) ≡ true
either true = refl
either false = refl

later_is : (a b : Stamp) → IsBefore a b → is_later (Some a) b ≡ true
later_is a b (inl lt) = let one : nat_lt a.time b.time ≡ true = lt-ltb a.time b.time lt in rw one refl
later_is a b (inr both) =
    let same : (a.time == b.time) ≡ true = eq-eqb a.time b.time both.0 in
    let less : nat_lt a.server b.server ≡ true = lt-ltb a.server b.server both.1 in
    rw (same, less) (either (nat_lt a.time b.time))

head_is : (last : Option Stamp) (v : VersionValue) → is_later last v.head.stamp ≡ true → FitsWhole v → HasVersionWidth v → IsWhole last v
head_is last v later fits widths = record {
  head = record {
    stamp = (widths.head.stamp, later);
    birth = widths.head.birth;
    number = ordinal v.head.number fits.head.number widths.head.number;
    vector = known_are v.head.vector fits.vector fits.head.vector;
    long = fits.short;
  };
  long = fits.body;
  width = widths.body;
}

heads_behind : (last : Stamp) (vs : List VersionValue) → RiseBehind last (map stamp_of vs) → AllByRecursion FitsWhole vs → AllByRecursion HasVersionWidth vs
    → Chain IsWhole to_stamp (Some last) vs
heads_behind last [] rise fits widths = tt
heads_behind last (v ∷ vs) rise fits widths =
    (head_is (Some last) v (later_is last v.head.stamp rise.0) fits.0 widths.0, heads_behind v.head.stamp vs rise.1 fits.1 widths.1)

heads_chain : (vs : List VersionValue) → Rise (map stamp_of vs) → AllByRecursion FitsWhole vs → AllByRecursion HasVersionWidth vs → Chain IsWhole to_stamp None vs
heads_chain [] rise fits widths = tt
heads_chain (v ∷ vs) rise fits widths = (head_is None v refl fits.0 widths.0, heads_behind v.head.stamp vs rise fits.1 widths.1)

pub heads_are : (vs : List VersionValue) → FitHeads vs → AllByRecursion HasVersionWidth vs → AreHeads vs
heads_are vs fits widths = let few = fits.few in record { count = omega (arith, few); chain = heads_chain vs fits.rise fits.each widths }

-- ---- kept deltas

delta_is : (d : KeptDelta) → FitsKept d → HasDeltaWidth d → IsDelta d
delta_is d fits widths = record { bases = stamps_are d.from fits.from widths.bases; to = widths.to; ranges = ranges_are d.ranges fits.ranges fits.parts widths.parts }

deltas_chain : (ds : List KeptDelta) → AllByRecursion FitsKept ds → AllByRecursion HasDeltaWidth ds → Chain AnyDelta unchanged tt ds
deltas_chain [] fits widths = tt
deltas_chain (d ∷ ds) fits widths = (delta_is d fits.0 widths.0, deltas_chain ds fits.1 widths.1)

pub deltas_are : (ds : List KeptDelta) → FitKept ds → AllByRecursion HasDeltaWidth ds → AreDeltas ds
deltas_are ds fits widths = let few = fits.few in record { count = omega (arith, few); chain = deltas_chain ds fits.each widths }

-- ---- edges

key_is : (k : Key) → FitsKey k → HasKeyWidth k → IsKey k
key_is key.Place fits width = tt
key_is (key.Flag server) fits width = fits
key_is (key.Entry child) fits width = width
key_is (key.Version stamp) fits width = width

keys_behind : (last : Key) (ks : List (Key × ℕ)) → IsStrictlySortedBy key_cmp (last ∷ keys_of ks)
    → AllByRecursion (λ (k : Key × ℕ). FitsKey k.0) ks → AllByRecursion HasTaggedWidth ks → Chain IsTagged to_key (Some last) ks
unfolding IsStrictlySortedBy
keys_behind last [] sorted fits widths = tt
keys_behind last (k ∷ ks) sorted fits widths = (
  record { key = (key_is k.0 fits.0 widths.0.key, ap is_lt sorted.0.0); tag = widths.0.tag },
  keys_behind k.0 ks sorted.1 fits.1 widths.1,
)

keys_chain : (ks : List (Key × ℕ)) → IsStrictlySortedBy key_cmp (keys_of ks) → AllByRecursion (λ (k : Key × ℕ). FitsKey k.0) ks
    → AllByRecursion HasTaggedWidth ks → Chain IsTagged to_key None ks
keys_chain [] sorted fits widths = tt
keys_chain (k ∷ ks) sorted fits widths =
    (record { key = (key_is k.0 fits.0 widths.0.key, refl); tag = widths.0.tag }, keys_behind k.0 ks sorted fits.1 widths.1)

edge_is : (last : ℕ) (e : Edge) → last < e.peer → FitsEdge e → HasEdgeWidth e → IsEdge last e
edge_is last e lt fits widths =
    let few = fits.few in
    record {
      peer = above last e.peer lt fits.peer.most;
      birth = widths.birth;
      keys = record { count = omega (arith, few); chain = keys_chain e.keys fits.by_key fits.keys widths.keys };
    }

edges_behind : (last : ℕ) (es : List Edge) → IsStrictlySortedBy nat_cmp (last ∷ peers es) → AllByRecursion FitsEdge es → AllByRecursion HasEdgeWidth es
    → Chain IsEdge to_peer last es
unfolding IsStrictlySortedBy
edges_behind last [] sorted fits widths = tt
edges_behind last (e ∷ es) sorted fits widths =
    (edge_is last e (below last e.peer sorted.0.0) fits.0 widths.0, edges_behind e.peer es sorted.1 fits.1 widths.1)

edges_chain : (es : List Edge) → IsStrictlySortedBy nat_cmp (peers es) → AllByRecursion FitsEdge es → AllByRecursion HasEdgeWidth es → Chain IsEdge to_peer 0 es
edges_chain [] sorted fits widths = tt
edges_chain (e ∷ es) sorted fits widths =
    let least = fits.0.peer.least in
    (edge_is 0 e (omega (arith, least)) fits.0 widths.0, edges_behind e.peer es sorted fits.1 widths.1)

pub edges_are : (es : List Edge) → FitEdges es → AllByRecursion HasEdgeWidth es → AreEdges es
edges_are es fits widths = let few = fits.few in record { count = omega (arith, few); chain = edges_chain es (sorted_from_strictly_increasing (peers es) fits.by_peer) fits.each widths }
