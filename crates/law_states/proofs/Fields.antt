-- Each field of a state tells where it fails.
use Rattle.std.proofs.Common.{ℕ, Option, None, arith}
use Rattle.pg_base.specs.declared.id.FileId.{FileId}
use Rattle.pg_base.specs.declared.id.Kind.{Kind}
use Rattle.pg_base.specs.declared.id.Kind.TheVariants.{Dir, File}
use Rattle.pg_base.specs.declared.head.Head.{Head}
use Rattle.pg_base.specs.declared.policy.Policy.{Policy}
use Rattle.pg_base.specs.declared.stamp.Stamp.{Stamp}
use Rattle.pg_codec.specs.Reading.{Field, bytes_at, file_at, stamp_at}
use Rattle.pg_edges.specs.declared.key.Key.{Key}
use Rattle.pg_packet_fields.specs.Faults.{of_packet}
use Rattle.pg_packet_fields.specs.declared.error.PacketError.{PacketError}
use Rattle.pg_state_fields.specs.Contents.{any_delta, delta_at, deltas_at, front_at, head_with, heads_at, length_at, ordinal_at, to_stamp, version_at}
use Rattle.pg_state_fields.specs.Edges.{edge_at, edges_at, keys_at, next_key_at, tagged_at, to_key, to_peer}
use Rattle.pg_state_fields.specs.Flags.{above_at, entries_at, entry_at, flag_number_at, gold_at, golds_at, own_at, to_child}
use Rattle.pg_state_fields.specs.Orders.{next_file_at, next_stamp_at, target_at, unchanged}
use Rattle.pg_state_fields.specs.Replicas as replicas
use Rattle.pg_state_fields.specs.Replicas.{all_held_at, back_at, held_at, inside_at, policy_of_at, to_held}
use Rattle.pg_packet_fields.specs.Places.{to_server}
use Rattle.law_packets.proofs.Atoms.{bytes_told}
use Rattle.law_packets.proofs.Items.{stamps_sure, vector_sure}
use Rattle.law_packets.proofs.Names.{place_sure}
use Rattle.law_packets.proofs.Opened.{same}
use Rattle.law_packets.proofs.Parts.{ranges_sure}
use Rattle.law_packets.proofs.Plain.{file_sure, flag_sure, key_sure, policy_sure, stamp_sure}
use Rattle.law_states.proofs.Told.{Told, any, count, counted_list, file_wants, followed, key_wants, number, policy_wants, seen, short_list, stamp_wants, sure, tested, tested_number, and_then}

pub file : Told (of_packet file_at)
file = sure (file_sure same)

pub stamp : Told (of_packet stamp_at)
stamp = sure (stamp_sure same)

pub next_file : (last : Option FileId) → Told (next_file_at last)
unfolding next_file_at
next_file last = tested file_wants file _

next_stamp : (last : Option Stamp) → Told (next_stamp_at last)
unfolding next_stamp_at
next_stamp last = tested stamp_wants stamp _

pub target : Told target_at
unfolding target_at
target = tested_number 4 (omega arith) _

-- ---- places, flags, entries

above : (last : ℕ) → Told (above_at last)
unfolding above_at
above last = tested_number 4 (omega arith) _

flag_number : Told flag_number_at
unfolding flag_number_at
flag_number = tested_number 8 (omega arith) _

gold : (last : ℕ) → Told (gold_at last)
unfolding gold_at
gold last = seen _ (and_then (above last) (and_then (number 8) (and_then flag_number (sure (flag_sure same)))))

golds : Told golds_at
unfolding golds_at
golds = short_list 1 64 gold_at to_server 0 (omega arith) gold

pub own : Told own_at
unfolding own_at
own = seen _ (and_then (sure (place_sure same)) golds)

entry : (last : Option FileId) → Told (entry_at last)
unfolding entry_at
entry last = seen _ (and_then (next_file last) own)

entries : Told entries_at
unfolding entries_at
entries = counted_list 4 entry_at to_child None entry

-- ---- edges

next_key : (last : Option Key) → Told (next_key_at last)
unfolding next_key_at
next_key last = tested key_wants (sure (key_sure same)) _

tagged : (last : Option Key) → Told (tagged_at last)
unfolding tagged_at
tagged last = and_then (next_key last) (number 8)

keys : Told keys_at
unfolding keys_at
keys = counted_list 4 tagged_at to_key None tagged

edge : (last : ℕ) → Told (edge_at last)
unfolding edge_at
edge last = seen _ (and_then (above last) (and_then (number 8) keys))

edges : Told edges_at
unfolding edges_at
edges = counted_list 1 edge_at to_peer 0 edge

-- ---- heads and deltas

ordinal : Told ordinal_at
unfolding ordinal_at
ordinal = tested_number 8 (omega arith) _

pub head : {first : Field PacketError Stamp} {long : Field PacketError ℕ} → Told first → Told long → Told (head_with first long)
head one two = seen _ (and_then one (and_then (number 8) (and_then ordinal (and_then (sure vector_sure) two))))

body_length : Told length_at
unfolding length_at
body_length = count 4 1048576 (omega arith)

front : (last : Option Stamp) → Told (front_at last)
unfolding front_at
front last = head (next_stamp last) body_length

pub bytes : (n : ℕ) → Told (of_packet (bytes_at n))
bytes n = any (bytes_told n)

version : (last : Option Stamp) → Told (version_at last)
unfolding version_at
version last = seen _ (followed (front last) (λ (h : Head). bytes h.length))

heads : Told heads_at
unfolding heads_at
heads = counted_list 2 version_at to_stamp None version

delta : Told delta_at
unfolding delta_at
delta = seen _ (and_then (sure stamps_sure) (and_then stamp (sure ranges_sure)))

deltas : Told deltas_at
unfolding deltas_at
deltas = counted_list 1 any_delta unchanged tt (λ state. delta)

-- ---- replicas

policy_of : (kind : Kind) → Told (policy_of_at kind)
unfolding policy_of_at
policy_of kind = tested policy_wants (sure (policy_sure same)) _

replica_front : (last : Option FileId) → Told (replicas.front_at last)
unfolding replicas.front_at
replica_front last = seen _ (followed (next_file last) (λ (f : FileId). and_then (number 8) (and_then (policy_of f.kind) (sure (flag_sure same)))))

inside : (kind : Kind) (policy : Policy) → Told (inside_at kind policy)
unfolding inside_at
inside Dir policy = seen _ entries
inside File policy = seen _ (and_then heads deltas)

back : (kind : Kind) (policy : Policy) → Told (back_at kind policy)
unfolding back_at
back kind policy = and_then own (and_then (inside kind policy) edges)

held : (last : Option FileId) → Told (held_at last)
unfolding held_at
held last = seen _ (followed (replica_front last) (λ f. back f.file.kind f.policy))

pub all_held : Told all_held_at
unfolding all_held_at
all_held = counted_list 4 held_at to_held None held
