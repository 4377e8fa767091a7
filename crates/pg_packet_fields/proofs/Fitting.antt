-- What can be read can be written again.
use Rattle.std.proofs.Common.{◌≡◌, ℕ, ◌≤◌, ◌<◌, ◌^◌, List, [], ◌∷◌, length, Some, None, arith}
use Rattle.std.specs.List.{AllByRecursion}
use Rattle.pg_base.specs.Version.{VersionValue}
use Rattle.pg_base.specs.declared.head.Head.{Head}
use Rattle.pg_base.specs.declared.stamp.Stamp.{Stamp}
use Rattle.pg_base.specs.declared.vector.Actor.{Actor}
use Rattle.pg_edges.specs.declared.key.Key.{Key}
use Rattle.pg_edges.specs.declared.key.Key.TheVariants as key
use Rattle.pg_entries.specs.declared.cell.Cell.{Cell}
use Rattle.pg_entries.specs.declared.cell.Cell.TheVariants as cell
use Rattle.pg_entries.specs.declared.entry.Entry.{Entry}
use Rattle.pg_packet_write.specs.Fits.{FitGolds, FitStamps, FitsCell, FitsEntry, FitsHead, FitsKey, FitsRanges, FitsVector, FitsVersion, IsServer, Rise, RiseBehind, laid}
use Rattle.pg_patch.specs.Ranges.{RangesValue}
use Rattle.pg_patch.specs.declared.part.Part.{Part}
use Rattle.pg_register.specs.declared.flag.Flag.{Flag}
use Rattle.pg_register.specs.declared.place.Place.{Place}
use Rattle.pg_packet_fields.specs.Cells.{IsWholeCell}
use Rattle.pg_packet_fields.specs.Heads.{AreKnown, IsFront, IsHead, IsKnown, IsWholeVersion, to_actor}
use Rattle.pg_packet_fields.specs.Lists.{AreStamps, Chain, IsLater, to_last}
use Rattle.pg_packet_fields.specs.Patches.{IsPartIn, IsWholeRanges, Room, to_room}
use Rattle.pg_packet_fields.specs.Places.{AreGolds, IsGold, IsWholeEntry, IsWholePlace, to_server}
use Rattle.pg_packet_fields.specs.Values.{IsKey}
use Rattle.pg_words.specs.PlaceWords.{IsPlace}
use Rattle.pg_words.specs.StampWord.{IsStamp}

fits_stamp : (s : Stamp) → s.time < 2 ^ 64 → s.server < 2 ^ 32 → IsStamp s
fits_stamp s time server = record { time = time; server = server }

pub fits_place : (p : Place) → IsWholePlace p → IsPlace p
fits_place p w = record { stamp = fits_stamp p.stamp w.stamp.time w.stamp.server; parent = w.parent; name = w.name.place }

each_gold : (last : ℕ) (fs : List Flag) → Chain IsGold to_server last fs → AllByRecursion (λ (f : Flag). IsServer f.server) fs
each_gold last [] chain = tt
each_gold last (f ∷ fs) chain =
    let above = chain.0.server.above in
    (record { least = omega (arith, above); most = chain.0.server.most }, each_gold f.server fs chain.1)

pub fits_golds : (fs : List Flag) → AreGolds fs → FitGolds fs
fits_golds fs w = record { few = w.few; each = each_gold 0 fs w.chain }

pub fits_entry : (e : Entry) → IsWholeEntry e → FitsEntry e
fits_entry e w = record { place = fits_place e.place w.place; flags = fits_golds e.flags w.flags }

each_known : (last : Actor) (vs : List (Actor × ℕ)) → Chain IsKnown to_actor last vs → AllByRecursion (λ (known : Actor × ℕ). IsServer known.0.server) vs
each_known last [] chain = tt
each_known last (v ∷ vs) chain = (chain.0.server.range, each_known v.0 vs chain.1)

pub fits_vector : (vs : List (Actor × ℕ)) → AreKnown vs → FitsVector vs
fits_vector vs w = record { few = w.few; each = each_known (record { server = 0; birth = 0 }) vs w.chain }

pub fits_head : (h : Head) → IsHead h → FitsHead h
fits_head h w = record { number = w.number.least; vector = fits_vector h.vector w.vector }

fits_front : (h : Head) → IsFront h → FitsHead h
fits_front h w = record { number = w.number.least; vector = fits_vector h.vector w.vector }

pub fits_version : (v : VersionValue) → IsWholeVersion v → FitsVersion v
fits_version v w = record { head = fits_front v.head w.head; short = w.head.long; body = w.long }

room_left : (least : ℕ) (room : Room) (ps : List Part) → Chain (IsPartIn least) to_room room ps → laid ps ≤ room.left
room_left least room [] chain = omega arith
room_left least room (p ∷ ps) chain =
    let here = chain.0.long.left in
    let behind = room_left least (to_room room p) ps chain.1 in
    omega (arith, here, behind)

pub fits_ranges : (r : RangesValue) → IsWholeRanges r → FitsRanges r
fits_ranges r w = record { few = w.parts.few; short = room_left r.least (record { from = 0; left = 30000 }) r.parts w.parts.chain }

rise_behind : (last : Stamp) (ss : List Stamp) → Chain IsLater to_last (Some last) ss → RiseBehind last ss
rise_behind last [] chain = tt
rise_behind last (s ∷ ss) chain = (chain.0.0, rise_behind s ss chain.1)

rise : (ss : List Stamp) → Chain IsLater to_last None ss → Rise ss
rise [] chain = tt
rise (s ∷ ss) chain = rise_behind s ss chain.1

pub fits_stamps : (ss : List Stamp) → AreStamps ss → FitStamps ss
fits_stamps ss w = record { few = w.few; rise = rise ss w.chain }

pub fits_key : (k : Key) → IsKey k → FitsKey k
fits_key key.Place w = tt
fits_key (key.Flag server) w = w
fits_key (key.Entry child) w = tt
fits_key (key.Version stamp) w = tt

pub fits_cell : (c : Cell) → IsWholeCell c → FitsCell c
fits_cell (cell.Place place) w = fits_place place w
fits_cell (cell.Flag flag) w = let above = w.server.above in record { least = omega (arith, above); most = w.server.most }
fits_cell (cell.Entry entry sure) w = fits_entry entry w
fits_cell (cell.Version version) w = fits_version version w
