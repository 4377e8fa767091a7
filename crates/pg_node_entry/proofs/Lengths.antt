-- Entries of what packets ask are short.
use Rattle.std.proofs.Common.{◌≡◌, ℕ, ◌+◌, ◌≤◌, List, ◌++◌, length, Ok, refl, subst, arith}
use Rattle.std.proofs.lemmas.List.{length-append}
use Rattle.byteorder.specs.Numbers.{length-bytes_high_first}
use Rattle.pg_call.specs.declared.call.Call.{Call}
use Rattle.pg_codec.specs.Laws.{AreBytes}
use Rattle.pg_codec.specs.Spelling.{number_bytes}
use Rattle.pg_msg.specs.declared.message.Packet.{Packet}
use Rattle.pg_node_entry.specs.Entries.{carrier, entry_bytes}
use Rattle.pg_node_entry.specs.declared.entry.NodeEntry.TheVariants as entry
use Rattle.pg_packet_read.specs.Whole.{packet_of}
use Rattle.pg_packet_read.proofs.Spelled as packets
use Rattle.pg_packet_write.specs.Calls.{call_bytes}
use Rattle.pg_packet_write.specs.DatagramValue.{DatagramValue}
use Rattle.pg_packet_write.specs.Datagrams.{content_bytes, kind_of, mark, packet_bytes, request_bytes}
use Rattle.pg_packet_write.specs.declared.datagram.Content.{Content}
use Rattle.pg_packet_write.specs.declared.datagram.Content.TheVariants as content
use Rattle.pg_packet_write.specs.declared.datagram.Request.TheVariants as request

-- what was read is spelled in at most 40,000 bytes
pub read_short : (bytes : List ℕ) (d : DatagramValue) → AreBytes bytes → packet_of bytes ≡ Ok d → length (packet_bytes d) ≤ 40000
read_short bytes d width read =
    subst (λ (b : List ℕ). length b ≤ 40000) (packets.spelled 40000 bytes d width read).1 (packets.short 40000 bytes d read)

abbrev with_content : DatagramValue → Content → DatagramValue
with_content d c = record { from = d.from; view = d.view; content = c }

-- ---- how long fields are

number_long : (width n : ℕ) → length (number_bytes width n) ≡ width
unfolding number_bytes
number_long width n = length-bytes_high_first width n

both_long : (a b : List ℕ) (m n : ℕ) → length a ≡ m → length b ≡ n → length (a ++ b) ≡ m + n
both_long a b m n one two = omega (arith, one, two, length-append a b)

pub packet_long : (d : DatagramValue) → length (packet_bytes d) ≡ 3 + (1 + (4 + (8 + length (content_bytes d.content))))
unfolding packet_bytes
packet_long d =
    both_long mark _ 3 _ refl (both_long (number_bytes 1 (kind_of d.content)) _ 1 _ (number_long 1 (kind_of d.content)) (both_long (number_bytes 4 d.from) _ 4 _ (number_long 4 d.from)
    (both_long (number_bytes 8 d.view) (content_bytes d.content) 8 _ (number_long 8 d.view) refl)))

-- the content of a call, and the entries that carry something
call_content : (number : ℕ) (c : Call) → length (content_bytes (content.Call number (request.Call c))) ≡ 8 + length (call_bytes c)
unfolding content_bytes request_bytes
call_content number c = both_long (number_bytes 8 number) (call_bytes c) 8 _ (number_long 8 number) refl

pub call_long : (moment : ℕ) (c : Call) → length (entry_bytes (entry.Call moment c)) ≡ 1 + (8 + length (call_bytes c))
unfolding entry_bytes
call_long moment c = both_long (number_bytes 1 1) _ 1 _ (number_long 1 1) (both_long (number_bytes 8 moment) (call_bytes c) 8 _ (number_long 8 moment) refl)

pub arrival_long : (p : Packet) → length (entry_bytes (entry.Arrival p)) ≡ 1 + length (packet_bytes (carrier p))
unfolding entry_bytes
arrival_long p = both_long (number_bytes 1 3) (packet_bytes (carrier p)) 1 _ (number_long 1 3) refl

-- ---- how long entries are

pub call_short : (d : DatagramValue) (number moment : ℕ) (c : Call) → d.content ≡ content.Call number (request.Call c) → length (packet_bytes d) ≤ 40000
    → length (entry_bytes (entry.Call moment c)) ≤ 65536
call_short d number moment c is short =
    let few : length (packet_bytes (with_content d (content.Call number (request.Call c)))) ≤ 40000 =
    subst (λ (x : Content). length (packet_bytes (with_content d x)) ≤ 40000) is short in
    let packet = packet_long (with_content d (content.Call number (request.Call c))) in
    let said = call_content number c in
    let noted = call_long moment c in
    omega (arith, few, packet, said, noted)

pub arrival_short : (p : Packet) → length (packet_bytes (carrier p)) ≤ 40000 → length (entry_bytes (entry.Arrival p)) ≤ 65536
arrival_short p short =
    let noted = arrival_long p in
    omega (arith, short, noted)

tick_entry : (moment word : ℕ) → length (entry_bytes (entry.Tick moment word)) ≡ 17
unfolding entry_bytes number_bytes
tick_entry moment word = refl

restart_entry : length (entry_bytes entry.Restart) ≡ 1
unfolding entry_bytes number_bytes
restart_entry = refl

first_entry : (server servers : ℕ) → length (entry_bytes (entry.First server servers)) ≡ 9
unfolding entry_bytes number_bytes
first_entry server servers = refl

pub tick_short : (moment word : ℕ) → length (entry_bytes (entry.Tick moment word)) ≤ 65536
tick_short moment word = omega (arith, tick_entry moment word)

pub restart_short : length (entry_bytes entry.Restart) ≤ 65536
restart_short = omega (arith, restart_entry)

pub first_short : (server servers : ℕ) → length (entry_bytes (entry.First server servers)) ≤ 65536
first_short server servers = omega (arith, first_entry server servers)
