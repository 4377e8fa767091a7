-- What types keep of lists is what their readers ask.
use Rattle.std.proofs.Common.{◌≡◌, ℕ, zero, suc, ◌+◌, ◌-◌, ◌<◌, ◌≤◌, ◌^◌, ◌⊎◌, List, [], ◌∷◌, length, map, Option, Some, None, Less, Equal, Greater, refl, sym, arith, inl, inr}
use Rattle.std.specs.Cmp.{ranked}
use Rattle.std.specs.List.{All, AllByRecursion}
use Rattle.std.specs.List.Sorted.{IsStrictlySortedBy}
use Rattle.std.specs.Map.{keys_of}
use Rattle.std.specs.Ordering.{nat_cmp, ordering_then}
use Rattle.std.specs.declared.cmp.Ordering.{Ordering}
use Rattle.std.proofs.lemmas.List.Elements.{All-tail}
use Rattle.pg_base.specs.Vector.{IsEntry, IsVector, actor_cmp}
use Rattle.pg_base.specs.Version.{VersionValue}
use Rattle.pg_base.specs.declared.head.Head.{Head}
use Rattle.pg_base.specs.declared.stamp.Stamp.{Stamp}
use Rattle.pg_base.specs.declared.vector.Actor.{Actor}
use Rattle.pg_codec.specs.Laws.{AreBytes, HasStampWidth}
use Rattle.pg_packet_fields.specs.Heads.{AreKnown, IsFront, IsHead, IsKnown, IsWholeVersion, nobody, to_actor}
use Rattle.pg_packet_fields.specs.Lists.{AreStamps, Chain, IsLater, to_last}
use Rattle.pg_packet_fields.specs.Patches.{IsPartIn, IsWholeRanges, Room, to_room, whole_room}
use Rattle.pg_packet_fields.specs.Places.{AreGolds, IsGold, to_server}
use Rattle.pg_packet_read.specs.Replies.{IsWholeRow, unchanged}
use Rattle.pg_packet_write.specs.Fits.{FitGolds, FitStamps, FitsRanges, FitsVector, FitsVersion, IsServer, Rise, RiseBehind, laid}
use Rattle.pg_patch.specs.Parts.{AreInOrder}
use Rattle.pg_patch.specs.Ranges.{IsRanges, RangesValue}
use Rattle.pg_patch.specs.declared.part.Part.{Part}
use Rattle.pg_path.specs.declared.row.Row.{Row}
use Rattle.pg_register.specs.Flag.{IsByServer}
use Rattle.pg_register.specs.declared.flag.Flag.{Flag}
use Rattle.law_written.specs.Widths.{HasFlagWidth, HasPartBytes}

-- ---- flags, by server

abbrev server_in : Flag → ℕ
server_in flag = flag.server

below : (x y : ℕ) → nat_cmp x y ≡ Less → x < y
below x y e = ranked x y Less (sym e)

golds_behind : (last : ℕ) (fs : List Flag) → IsStrictlySortedBy nat_cmp (last ∷ map server_in fs)
    → AllByRecursion (λ (f : Flag). IsServer f.server) fs → AllByRecursion HasFlagWidth fs → Chain IsGold to_server last fs
unfolding IsStrictlySortedBy
golds_behind last [] sorted servers widths = tt
golds_behind last (f ∷ fs) sorted servers widths = (
  record { server = record { above = below last f.server sorted.0.0; most = servers.0.most }; birth = widths.0.birth; number = widths.0.number },
  golds_behind f.server fs sorted.1 servers.1 widths.1,
)

golds_chain : (fs : List Flag) → IsByServer fs → AllByRecursion (λ (f : Flag). IsServer f.server) fs → AllByRecursion HasFlagWidth fs
    → Chain IsGold to_server 0 fs
golds_chain [] sorted servers widths = tt
golds_chain (f ∷ fs) sorted servers widths =
    let least = servers.0.least in (
      record { server = record { above = omega (arith, least); most = servers.0.most }; birth = widths.0.birth; number = widths.0.number },
      golds_behind f.server fs sorted servers.1 widths.1,
    )

pub golds_are : (fs : List Flag) → IsByServer fs → FitGolds fs → AllByRecursion HasFlagWidth fs → AreGolds fs
golds_are fs sorted fits widths = record { few = fits.few; chain = golds_chain fs sorted fits.each widths }

-- ---- actors, in their order

actor_case : (o p : Ordering) (a b : Actor) → nat_cmp a.server b.server ≡ o → nat_cmp a.birth b.birth ≡ p → ordering_then o p ≡ Less
    → (a.server ≤ b.server) × ((a.server < b.server) ⊎ (a.birth < b.birth))
actor_case Less p a b servers births e = let lt = below a.server b.server servers in (omega (arith, lt), inl lt)
actor_case Equal p a b servers births e =
    let same : a.server ≡ b.server = ranked a.server b.server Equal (sym servers) in
    let less : nat_cmp a.birth b.birth ≡ Less = cc in
    (omega (arith, same), inr (below a.birth b.birth less))
actor_case Greater p a b servers births e = absurd cc

known_first : (last : Actor) (v : Actor × ℕ) → (last.server ≤ v.0.server) × ((last.server < v.0.server) ⊎ (last.birth < v.0.birth))
    → IsServer v.0.server → IsEntry v → IsKnown last v
known_first last v behind server entry = record {
  server = record { least = behind.0; range = server };
  birth = record { behind = behind.1; width = entry.birth };
  number = record { least = entry.least; width = entry.width };
}

entry_first : (v : Actor × ℕ) (vs : List (Actor × ℕ)) → All IsEntry (v ∷ vs) → IsEntry v
entry_first v vs entries = entries 0 v (omega arith)

known_behind : (last : Actor) (vs : List (Actor × ℕ)) → IsStrictlySortedBy actor_cmp (last ∷ keys_of vs)
    → AllByRecursion (λ (known : Actor × ℕ). IsServer known.0.server) vs → All IsEntry vs → Chain IsKnown to_actor last vs
unfolding IsStrictlySortedBy
known_behind last [] sorted servers entries = tt
known_behind last (v ∷ vs) sorted servers entries =
    let behind = actor_case (nat_cmp last.server v.0.server) (nat_cmp last.birth v.0.birth) last v.0 refl refl sorted.0.0 in
    (known_first last v behind servers.0 (entry_first v vs entries), known_behind v.0 vs sorted.1 servers.1 (All-tail IsEntry v vs entries))

known_chain : (vs : List (Actor × ℕ)) → IsVector vs → AllByRecursion (λ (known : Actor × ℕ). IsServer known.0.server) vs → Chain IsKnown to_actor nobody vs
known_chain [] vector servers = tt
known_chain (v ∷ vs) vector servers =
    let least = servers.0.least in
    let behind : (0 ≤ v.0.server) × ((0 < v.0.server) ⊎ (0 < v.0.birth)) = (omega arith, inl (omega (arith, least))) in
    (known_first nobody v behind servers.0 (entry_first v vs vector.entries), known_behind v.0 vs vector.sorted servers.1 (All-tail IsEntry v vs vector.entries))

pub known_are : (vs : List (Actor × ℕ)) → IsVector vs → FitsVector vs → AreKnown vs
known_are vs vector fits = record { few = fits.few; chain = known_chain vs vector fits.each }

-- ---- versions

front_is : (h : Head) → IsHead h → h.length ≤ 1024 → IsFront h
front_is h head short = record { stamp = head.stamp; birth = head.birth; number = head.number; vector = head.vector; long = short }

pub version_is : (v : VersionValue) → FitsVersion v → IsHead v.head → AreBytes v.body → IsWholeVersion v
version_is v fits head bytes = record { head = front_is v.head head fits.short; long = fits.body; width = bytes }

-- ---- parts, in order

parts_chain : (least : ℕ) (room : Room) (ps : List Part) → least < 2 ^ 32 → AreInOrder room.from ps least → laid ps ≤ room.left
    → AllByRecursion HasPartBytes ps → Chain (IsPartIn least) to_room room ps
parts_chain least room [] width order few bytes = tt
parts_chain least room (p ∷ ps) width order few bytes =
    let from = order.0 in
    let some = order.1 in
    let end = order.2 in (
      record {
        offset = record { from = from; width = omega (arith, width, end) };
        long = record { left = omega (arith, few); some = omega (arith, some); end = end; width = omega (arith, width, end) };
        width = bytes.0;
      },
      parts_chain least (to_room room p) ps width order.3 (omega (arith, few)) bytes.1,
    )

pub ranges_are : (r : RangesValue) → IsRanges r → FitsRanges r → AllByRecursion HasPartBytes r.parts → IsWholeRanges r
ranges_are r ranges fits bytes = record {
  keep = ranges.keep;
  least = ranges.least;
  parts = record { few = fits.few; chain = parts_chain r.least whole_room r.parts ranges.least ranges.parts fits.short bytes };
}

-- ---- stamps, each before the next

stamps_behind : (last : Stamp) (ss : List Stamp) → RiseBehind last ss → AllByRecursion HasStampWidth ss → Chain IsLater to_last (Some last) ss
stamps_behind last [] rise widths = tt
stamps_behind last (s ∷ ss) rise widths = ((rise.0, widths.0), stamps_behind s ss rise.1 widths.1)

stamps_chain : (ss : List Stamp) → Rise ss → AllByRecursion HasStampWidth ss → Chain IsLater to_last None ss
stamps_chain [] rise widths = tt
stamps_chain (s ∷ ss) rise widths = (widths.0, stamps_behind s ss rise widths.1)

pub stamps_are : (ss : List Stamp) → FitStamps ss → AllByRecursion HasStampWidth ss → AreStamps ss
stamps_are ss fits widths = record { few = fits.few; chain = stamps_chain ss fits.rise widths }

-- ---- rows

pub rows_chain : (rows : List Row) → AllByRecursion IsWholeRow rows → Chain (λ before. IsWholeRow) unchanged tt rows
rows_chain [] whole = tt
rows_chain (row ∷ rows) whole = (whole.0, rows_chain rows whole.1)
