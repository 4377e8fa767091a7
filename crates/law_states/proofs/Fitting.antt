-- What can be read fits in a state: flags, entries, heads, deltas and edges.
use Rattle.std.proofs.Common.{◌≡◌, ℕ, ◌^◌, ◌≤◌, ◌<◌, true, List, [], ◌∷◌, map, Option, None, Some, refl, sym, ap, subst, arith}
use Rattle.std.specs.Prelude.{nat_le, nat_lt}
use Rattle.std.specs.List.{AllByRecursion}
use Rattle.std.specs.List.Sorted.{IsStrictlySortedBy}
use Rattle.std.specs.Map.{keys_of}
use Rattle.std.specs.Ordering.{is_lt, nat_cmp}
use Rattle.std.proofs.lemmas.Bool.{leb-true, ltb-true}
use Rattle.std.proofs.lemmas.Cmp.{nat_cmp_total}
use Rattle.std.proofs.lemmas.List.{length-map}
use Rattle.std.proofs.lemmas.List.Elements.{All-from_recursion}
use Rattle.std.proofs.lemmas.Map.Keys.{IsStrictlyIncreasing-from_sorted}
use Rattle.pg_base.specs.Id.{file_cmp}
use Rattle.pg_base.specs.Vector as vector
use Rattle.pg_base.specs.Vector.{IsVector, actor_cmp}
use Rattle.pg_base.specs.Version.{VersionValue, stamp_of}
use Rattle.pg_base.specs.declared.id.FileId.{FileId}
use Rattle.pg_base.specs.declared.stamp.Stamp.{Stamp}
use Rattle.pg_base.specs.declared.vector.Actor.{Actor}
use Rattle.pg_base.proofs.Orders.{file_total}
use Rattle.pg_base.proofs.Vectors.{actor_total}
use Rattle.pg_delta.specs.declared.delta.KeptDelta.{KeptDelta}
use Rattle.pg_edges.specs.Edges.{peers}
use Rattle.pg_edges.specs.Key.{key_cmp}
use Rattle.pg_edges.specs.declared.edge.Edge.{Edge}
use Rattle.pg_edges.specs.declared.key.Key.{Key}
use Rattle.pg_edges.proofs.Orders.{key_total}
use Rattle.pg_entries.specs.declared.entry.Entry.{Entry}
use Rattle.pg_packet_fields.specs.Heads.{AreKnown, IsKnown, nobody, to_actor}
use Rattle.pg_packet_fields.specs.Lists.{Chain}
use Rattle.pg_packet_fields.specs.Patches.{IsPartIn, IsWholeRanges, Room, to_room, whole_room}
use Rattle.pg_packet_fields.specs.Places.{to_server}
use Rattle.pg_packet_fields.proofs.Fitting.{fits_key, fits_place, fits_ranges, fits_stamps, fits_vector}
use Rattle.pg_packet_write.specs.Fits.{FitsKey, IsServer, Rise, RiseBehind}
use Rattle.pg_patch.specs.Parts.{AreInOrder}
use Rattle.pg_patch.specs.Ranges.{IsRanges, RangesValue}
use Rattle.pg_patch.specs.declared.part.Part.{Part}
use Rattle.pg_register.specs.declared.flag.Flag.{Flag}
use Rattle.pg_state.specs.Fits.{FitChildren, FitEdges, FitFlags, FitHeads, FitKept, FitsChild, FitsEdge, FitsKept, FitsWhole}
use Rattle.pg_state_fields.specs.Contents.{AnyDelta, AreDeltas, AreHeads, IsWhole, to_stamp}
use Rattle.pg_state_fields.specs.Edges.{AreEdges, IsEdge, IsTagged, to_key, to_peer}
use Rattle.pg_state_fields.specs.Flags.{AreEntries, AreGolds, IsEntry, IsGold, is_above, to_child}
use Rattle.pg_state_fields.specs.Orders.{is_behind, unchanged}
use Rattle.pg_state_read.specs.Built.{at_child}
use Rattle.law_states.proofs.Leaves.{IsAtChild}
use Rattle.law_states.proofs.Ordered.{Rows, before_of, below_is, both, pair_less, sorted}

-- a number above another, from 1 to 64
above_of : (last n : ℕ) → is_above last n ≡ true → (last < n) × (n ≤ 64)
above_of last n test =
    let b = both (nat_lt last n) (nat_le n 64) test in
    (ltb-true last n b.0, leb-true n 64 b.1)

server_of : (last n : ℕ) → is_above last n ≡ true → IsServer n
server_of last n test =
    let a = above_of last n test in
    let lt = a.0 in
    record { least = omega (arith, lt); most = a.1 }

above_behind : (last n : ℕ) → is_above last n ≡ true → is_behind nat_cmp (Some last) n ≡ true
above_behind last n test = ap is_lt (below_is last n (above_of last n test).0)

-- ---- flags

abbrev server_in : Flag → ℕ
server_in flag = flag.server

golds_rows : (last : ℕ) (fs : List Flag) → Chain IsGold to_server last fs → Rows nat_cmp server_in (Some last) fs
golds_rows last [] chain = tt
golds_rows last (f ∷ fs) chain = (above_behind last f.server chain.0.server.1, golds_rows f.server fs chain.1)

each_gold : (last : ℕ) (fs : List Flag) → Chain IsGold to_server last fs → AllByRecursion (λ (f : Flag). IsServer f.server) fs
each_gold last [] chain = tt
each_gold last (f ∷ fs) chain = (server_of last f.server chain.0.server.1, each_gold f.server fs chain.1)

each_low : (last : ℕ) (fs : List Flag) → Chain IsGold to_server last fs → AllByRecursion (λ (f : Flag). f.number < 2 ^ 63) fs
each_low last [] chain = tt
each_low last (f ∷ fs) chain = (ltb-true f.number (2 ^ 63) chain.0.number.1, each_low f.server fs chain.1)

pub flags_fit : (fs : List Flag) → AreGolds fs → FitFlags fs
flags_fit fs are = record {
  golds = record { few = are.few; each = each_gold 0 fs are.chain };
  by_server = sorted nat_cmp nat_cmp_total server_in (Some 0) fs (golds_rows 0 fs are.chain);
  low = each_low 0 fs are.chain;
}

-- ---- entries

abbrev child_in : Entry → FileId
child_in e = e.child

entries_rows : (last : Option FileId) (es : List Entry) → Chain IsEntry to_child last es → Rows file_cmp child_in last es
entries_rows last [] chain = tt
entries_rows last (e ∷ es) chain = (chain.0.child.1, entries_rows (Some e.child) es chain.1)

children_keys : (es : List Entry) → keys_of (map at_child es) ≡ map child_in es
children_keys [] = refl
children_keys (e ∷ es) = ap (λ (ks : List FileId). e.child ∷ ks) (children_keys es)

children_own : (es : List Entry) → AllByRecursion IsAtChild (map at_child es)
children_own [] = tt
children_own (e ∷ es) = (refl, children_own es)

children_fit : (last : Option FileId) (es : List Entry) → Chain IsEntry to_child last es → AllByRecursion (λ (e : FileId × Entry). FitsChild e.1) (map at_child es)
children_fit last [] chain = tt
children_fit last (e ∷ es) chain =
    (record { place = fits_place e.place chain.0.place; flags = flags_fit e.flags chain.0.flags }, children_fit (Some e.child) es chain.1)

pub entries_fit : (es : List Entry) → AreEntries es → FitChildren (map at_child es)
entries_fit es are =
    let count = are.count in
    let long = length-map es at_child in
    let by_child = sorted file_cmp file_total child_in None es (entries_rows None es are.chain) in
    record {
      few = omega (arith, count, long);
      by_child = record {
        rising = subst (λ (ks : List FileId). IsStrictlySortedBy file_cmp ks) (sym (children_keys es)) by_child;
        own = All-from_recursion IsAtChild (map at_child es) (children_own es);
      };
      each = children_fit None es are.chain;
    }

-- ---- vectors and heads

abbrev actor_in : Actor × ℕ → Actor
actor_in known = known.0

known_rows : (last : Actor) (vs : List (Actor × ℕ)) → Chain IsKnown to_actor last vs → Rows actor_cmp actor_in (Some last) vs
known_rows last [] chain = tt
known_rows last (v ∷ vs) chain =
    (ap is_lt (pair_less last.server v.0.server last.birth v.0.birth chain.0.server.least chain.0.birth.behind), known_rows v.0 vs chain.1)

known_entries : (last : Actor) (vs : List (Actor × ℕ)) → Chain IsKnown to_actor last vs → AllByRecursion vector.IsEntry vs
known_entries last [] chain = tt
known_entries last (v ∷ vs) chain =
    let most = chain.0.server.range.most in
    (record { server = omega (arith, most); birth = chain.0.birth.width; least = chain.0.number.least; width = chain.0.number.width }, known_entries v.0 vs chain.1)

pub vector_is : (vs : List (Actor × ℕ)) → AreKnown vs → IsVector vs
vector_is vs are = record {
  sorted = sorted actor_cmp actor_total actor_in (Some nobody) vs (known_rows nobody vs are.chain);
  entries = All-from_recursion vector.IsEntry vs (known_entries nobody vs are.chain);
}

heads_rise : (last : Stamp) (vs : List VersionValue) → Chain IsWhole to_stamp (Some last) vs → RiseBehind last (map stamp_of vs)
heads_rise last [] chain = tt
heads_rise last (v ∷ vs) chain = (before_of last v.head.stamp chain.0.head.stamp.1, heads_rise v.head.stamp vs chain.1)

all_rise : (vs : List VersionValue) → Chain IsWhole to_stamp None vs → Rise (map stamp_of vs)
all_rise [] chain = tt
all_rise (v ∷ vs) chain = heads_rise v.head.stamp vs chain.1

each_head : (last : Option Stamp) (vs : List VersionValue) → Chain IsWhole to_stamp last vs → AllByRecursion FitsWhole vs
each_head last [] chain = tt
each_head last (v ∷ vs) chain = (
  record {
    head = record { number = leb-true 1 v.head.number chain.0.head.number.1; vector = fits_vector v.head.vector chain.0.head.vector };
    vector = vector_is v.head.vector chain.0.head.vector;
    short = chain.0.head.long;
    body = chain.0.long;
  },
  each_head (Some v.head.stamp) vs chain.1,
)

pub heads_fit : (vs : List VersionValue) → AreHeads vs → FitHeads vs
heads_fit vs are = let count = are.count in record { few = omega (arith, count); rise = all_rise vs are.chain; each = each_head None vs are.chain }

-- ---- kept deltas

in_order : (least : ℕ) (room : Room) (ps : List Part) → Chain (IsPartIn least) to_room room ps → AreInOrder room.from ps least
in_order least room [] chain = tt
in_order least room (p ∷ ps) chain =
    let some = chain.0.long.some in
    (chain.0.offset.from, omega (arith, some), chain.0.long.end, in_order least (to_room room p) ps chain.1)

ranges_is : (r : RangesValue) → IsWholeRanges r → IsRanges r
ranges_is r whole = record { keep = whole.keep; least = whole.least; parts = in_order r.least whole_room r.parts whole.parts.chain }

each_delta : (ds : List KeptDelta) → Chain AnyDelta unchanged tt ds → AllByRecursion FitsKept ds
each_delta [] chain = tt
each_delta (d ∷ ds) chain =
    (record { from = fits_stamps d.from chain.0.bases; parts = fits_ranges d.ranges chain.0.ranges; ranges = ranges_is d.ranges chain.0.ranges }, each_delta ds chain.1)

pub deltas_fit : (ds : List KeptDelta) → AreDeltas ds → FitKept ds
deltas_fit ds are = let count = are.count in record { few = omega (arith, count); each = each_delta ds are.chain }

-- ---- edges

abbrev key_in : Key × ℕ → Key
key_in k = k.0

keys_rows : (last : Option Key) (ks : List (Key × ℕ)) → Chain IsTagged to_key last ks → Rows key_cmp key_in last ks
keys_rows last [] chain = tt
keys_rows last (k ∷ ks) chain = (chain.0.key.1, keys_rows (Some k.0) ks chain.1)

each_key : (last : Option Key) (ks : List (Key × ℕ)) → Chain IsTagged to_key last ks → AllByRecursion (λ (k : Key × ℕ). FitsKey k.0) ks
each_key last [] chain = tt
each_key last (k ∷ ks) chain = (fits_key k.0 chain.0.key.0, each_key (Some k.0) ks chain.1)

edge_fits : (last : ℕ) (e : Edge) → IsEdge last e → FitsEdge e
edge_fits last e is =
    let count = is.keys.count in
    record {
      peer = server_of last e.peer is.peer.1;
      few = omega (arith, count);
      by_key = sorted key_cmp key_total key_in None e.keys (keys_rows None e.keys is.keys.chain);
      keys = each_key None e.keys is.keys.chain;
    }

abbrev peer_in : Edge → ℕ
peer_in e = e.peer

edges_rows : (last : ℕ) (es : List Edge) → Chain IsEdge to_peer last es → Rows nat_cmp peer_in (Some last) es
edges_rows last [] chain = tt
edges_rows last (e ∷ es) chain = (above_behind last e.peer chain.0.peer.1, edges_rows e.peer es chain.1)

each_edge : (last : ℕ) (es : List Edge) → Chain IsEdge to_peer last es → AllByRecursion FitsEdge es
each_edge last [] chain = tt
each_edge last (e ∷ es) chain = (edge_fits last e chain.0, each_edge e.peer es chain.1)

pub edges_fit : (es : List Edge) → AreEdges es → FitEdges es
edges_fit es are =
    let count = are.count in
    record {
      few = omega (arith, count);
      by_peer = IsStrictlyIncreasing-from_sorted (peers es) (sorted nat_cmp nat_cmp_total peer_in (Some 0) es (edges_rows 0 es are.chain));
      each = each_edge 0 es are.chain;
    }
