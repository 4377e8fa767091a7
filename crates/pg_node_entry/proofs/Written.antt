-- What is written of a call and of a packet is the entry's spelling.
use Rattle.std.proofs.Common.{◌≡◌, ℕ, ◌≤◌, List, [], ◌++◌, length, drop, refl, ap, ◌∙◌, append_assoc, arith}
use Rattle.pg_call.specs.declared.call.Call.{Call}
use Rattle.pg_codec.specs.Spelling.{number_bytes}
use Rattle.pg_msg.specs.declared.message.Packet.{Packet}
use Rattle.pg_node_entry.specs.Entries.{carrier, entry_bytes}
use Rattle.pg_node_entry.specs.declared.entry.NodeEntry.TheVariants as entry
use Rattle.pg_node_entry.proofs.Lengths.{packet_long}
use Rattle.pg_packet_write.specs.Calls.{call_bytes}
use Rattle.pg_packet_write.specs.DatagramValue.{DatagramValue}
use Rattle.pg_packet_write.specs.Datagrams.{content_bytes, packet_bytes, request_bytes}
use Rattle.pg_packet_write.specs.declared.datagram.Content.TheVariants as content
use Rattle.pg_packet_write.specs.declared.datagram.Request.TheVariants as request

-- the client's packet that asks for the call, under this number
abbrev pub call_packet : ℕ → Call → DatagramValue
call_packet number c = record { from = 0; view = 0; content = content.Call number (request.Call c) }

behind_front : (number : ℕ) (c : Call) → drop 16 (packet_bytes (call_packet number c)) ≡ number_bytes 8 number ++ call_bytes c
unfolding packet_bytes content_bytes request_bytes number_bytes
behind_front number c = refl

pub front_long : (s w n : List ℕ) (d : DatagramValue) → s ≡ w → w ≡ n ++ packet_bytes d → n ≡ [] → 16 ≤ length s
front_long s w n d lent written none =
    let all : s ≡ packet_bytes d = lent ∙ written ∙ ap (λ (x : List ℕ). x ++ packet_bytes d) none in
    let long = ap length all in
    omega (arith, long, packet_long d)

pub call_written : (out one new part s w n : List ℕ) (d : DatagramValue) (moment : ℕ) (c : Call) → new ≡ one ++ part → one ≡ out ++ number_bytes 1 1 → part ≡ drop 16 s → s ≡ w
    → w ≡ n ++ packet_bytes d → n ≡ [] → d ≡ call_packet moment c → new ≡ out ++ entry_bytes (entry.Call moment c)
unfolding entry_bytes
call_written out one new part s w n d moment c added number rest lent written none same =
    let all : s ≡ packet_bytes (call_packet moment c) = lent ∙ written ∙ ap (λ (x : List ℕ). x ++ packet_bytes d) none ∙ ap (λ (x : DatagramValue). packet_bytes x) same in
    let behind : part ≡ number_bytes 8 moment ++ call_bytes c = rest ∙ ap (drop 16) all ∙ behind_front moment c in
    added ∙ ap (λ (x : List ℕ). x ++ part) number ∙ append_assoc out (number_bytes 1 1) part ∙ ap (λ (x : List ℕ). out ++ (number_bytes 1 1 ++ x)) behind

pub arrival_written : (out one new : List ℕ) (p : Packet) (d : DatagramValue) → new ≡ one ++ packet_bytes d → one ≡ out ++ number_bytes 1 3 → d ≡ carrier p
    → new ≡ out ++ entry_bytes (entry.Arrival p)
unfolding entry_bytes
arrival_written out one new p d added number same =
    added ∙ ap (λ (x : List ℕ). x ++ packet_bytes d) number ∙ append_assoc out (number_bytes 1 3) (packet_bytes d)
    ∙ ap (λ (x : DatagramValue). out ++ (number_bytes 1 3 ++ packet_bytes x)) same
