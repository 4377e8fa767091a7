-- The entry of an input is read again as the input.
use Rattle.std.proofs.Common.{◌≡◌, ℕ, ◌<◌, ◌≤◌, ◌^◌, Bool, true, false, List, [], ◌∷◌, length, Option, Some, None, Result, Ok, Err, IfSome, if◌then◌else◌, refl, sym, ◌∙◌, ap, subst, arith}
use Rattle.pg_call.specs.declared.call.Call.{Call}
use Rattle.pg_codec.specs.Laws.{AreBytes}
use Rattle.pg_codec.specs.Spelling.{number_bytes}
use Rattle.pg_msg.specs.declared.message.Packet.{Packet}
use Rattle.pg_node_entry.specs.Entries.{IsWholeEntry, carrier, entry_bytes}
use Rattle.pg_node_entry.specs.Reading.{entry_of}
use Rattle.pg_node_entry.specs.declared.entry.NodeEntry.{NodeEntry}
use Rattle.pg_node_entry.specs.declared.entry.NodeEntry.TheVariants as entry
use Rattle.pg_packet_fields.specs.declared.error.PacketError.{PacketError}
use Rattle.pg_packet_read.specs.Whole.{IsWholeContent, IsWholeDatagram, packet_of}
use Rattle.pg_packet_write.specs.Calls.{FitsCall}
use Rattle.pg_packet_write.specs.Messages.{FitsMessage}
use Rattle.pg_packet_write.specs.DatagramValue.{DatagramValue}
use Rattle.pg_packet_write.specs.Datagrams.{packet_bytes}
use Rattle.pg_packet_write.specs.declared.datagram.Content.{Content}
use Rattle.pg_packet_write.specs.declared.datagram.Content.TheVariants as content
use Rattle.pg_packet_write.specs.declared.datagram.Request.TheVariants as request
use Rattle.pg_server.specs.declared.input.Input.{Input}
use Rattle.pg_server.specs.declared.input.Input.TheVariants as input
use Rattle.pg_host.specs.declared.asking.Asked.{Asked}
use Rattle.pg_host.specs.Entries.{IsShort, begins_log, entry_for, input_found, input_noted, input_of, noted_of, start_entry, start_found, start_of}
use Rattle.pg_host.specs.Host.{AreRead}
use Rattle.pg_host.specs.Inputs.{asked, asked_at, asked_by}
use Rattle.pg_host.specs.Turn.{HasCome}

-- it begins no log
begins_none : (i : Input) → begins_log (entry_for i) ≡ false
unfolding entry_bytes number_bytes
begins_none (input.Call moment call) = refl
begins_none (input.Tick moment word) = refl
begins_none (input.Arrival packet) = refl
begins_none input.Restart = refl

begins_start : (server servers : ℕ) → begins_log (start_entry server servers) ≡ true
unfolding entry_bytes number_bytes
begins_start server servers = refl

pub noted_back : (i : Input) → input_noted (noted_of i) ≡ Ok i
noted_back (input.Call moment call) = refl
noted_back (input.Tick moment word) = refl
noted_back (input.Arrival packet) = refl
noted_back input.Restart = refl

abbrev pub AreWritten : Type 0
AreWritten = (e : NodeEntry) → IsWholeEntry e → entry_of (entry_bytes e) ≡ Ok e

abbrev pub ArePackets : Type 0
ArePackets = (bytes : List ℕ) (d : DatagramValue) → AreBytes bytes → packet_of bytes ≡ Ok d → IsWholeDatagram d × (bytes ≡ packet_bytes d)

-- what was read has at most 40,000 bytes
abbrev pub AreFew : Type 0
AreFew = (bytes : List ℕ) (d : DatagramValue) → AreBytes bytes → packet_of bytes ≡ Ok d → length (packet_bytes d) ≤ 40000

module _ (written : AreWritten) where
  pub input_read : (i : Input) → IsWholeEntry (noted_of i) → input_of (entry_for i) ≡ Ok i
  input_read i whole =
      ap (λ (t : Bool). if t then Err 0 else input_found (entry_of (entry_for i))) (begins_none i)
      ∙ ap input_found (written (noted_of i) whole)
      ∙ noted_back i

  pub start_read : (server servers : ℕ) → server ≤ 64 → servers ≤ 64 → start_of (start_entry server servers) ≡ Ok (server, servers)
  start_read server servers few most =
      ap (λ (t : Bool). if t then start_found (entry_of (start_entry server servers)) else Err 0) (begins_start server servers)
      ∙ ap start_found (written (entry.First server servers) (omega (arith, few), omega (arith, most)))

  pub tick_read : (moment word : ℕ) → moment < 2 ^ 64 → word < 2 ^ 64 → input_of (entry_for (input.Tick moment word)) ≡ Ok (input.Tick moment word)
  tick_read moment word low fits = input_read (input.Tick moment word) (omega (arith, low), omega (arith, fits))

  module _ (packets : ArePackets) (few : AreFew) (d : DatagramValue) (come : HasCome d) where
    of_content : (c : Content) → d.content ≡ c → IsWholeContent c
    of_content c same = subst (λ (x : Content). IsWholeContent x) same (packets come.0 d come.1 come.2).0.content

    pub call_read : (number moment : ℕ) (call : Call) → moment < 2 ^ 64 → d.content ≡ content.Call number (request.Call call) → input_of (entry_for (input.Call moment call)) ≡ Ok (input.Call moment call)
    call_read number moment call low same = input_read (input.Call moment call) (omega (arith, low), (of_content (content.Call number (request.Call call)) same).1)

    arrival_few : (p : Packet) → carrier p ≡ d → length (packet_bytes (carrier p)) ≤ 40000
    arrival_few p same = subst (λ (x : DatagramValue). length (packet_bytes x) ≤ 40000) (sym same) (few come.0 d come.1 come.2)

    pub arrival_read : (p : Packet) → carrier p ≡ d → input_of (entry_for (input.Arrival p)) ≡ Ok (input.Arrival p)
    arrival_read p same = input_read (input.Arrival p) (record {
      packet = subst (λ (x : DatagramValue). IsWholeDatagram x) (sym same) (packets come.0 d come.1 come.2).0;
      short = arrival_few p same;
    })

    pub arrival_short : (p : Packet) → carrier p ≡ d → FitsMessage p.message → (length (packet_bytes (carrier p)) ≤ 40000 → length (entry_bytes (entry.Arrival p)) ≤ 65536) → IsShort (entry.Arrival p)
    arrival_short p same fits short = record { fits = record { message = fits; short = arrival_few p same }; short = short (arrival_few p same) }

    pub call_short : (moment : ℕ) (call : Call) → FitsCall call → (length (packet_bytes d) ≤ 40000 → length (entry_bytes (entry.Call moment call)) ≤ 65536) → IsShort (entry.Call moment call)
    call_short moment call fits short = record { fits = fits; short = short (few come.0 d come.1 come.2) }

    unread_by : (port : ℕ) (c : Content) → d.content ≡ c → AreRead (asked_by port d c (asked []) [] [])
    unread_by port (content.Message message) same =
        let p : Packet = record { from = d.from; view = d.view; message = message } in
        λ i. arrival_read p (λ j. record { from = d.from; view = d.view; content = sym same j }) i ∷ []
    unread_by port (content.Call number (request.Call call)) same = refl
    unread_by port (content.Call number request.Tick) same = refl
    unread_by port (content.Reply number reply) same = refl

  -- what bytes ask that no moment was taken for
  unread_at : ArePackets → AreFew → (port : ℕ) (bytes : List ℕ) → AreBytes bytes → (r : Result DatagramValue PacketError) → packet_of bytes ≡ r → AreRead (asked_at port r (asked []) [] [])
  unread_at packets few port bytes width (Ok d) is = unread_by packets few d (bytes, width, is) port d.content refl
  unread_at packets few port bytes width (Err e) is = refl

  pub unread : ArePackets → AreFew → (port : ℕ) (bytes : List ℕ) → AreBytes bytes → AreRead (asked (Some (record { port = port; bytes = bytes }) ∷ []) [] [])
  unread packets few port bytes width = unread_at packets few port bytes width (packet_of bytes) refl

pub tick_short : (moment word : ℕ) → length (entry_bytes (entry.Tick moment word)) ≤ 65536 → IsShort (entry.Tick moment word)
tick_short moment word short = record { fits = tt; short = short }

pub some_read : (x : Asked) (found : Option Asked) → found ≡ Some x → IfSome found (λ a. input_of (entry_for a.input) ≡ Ok a.input) → input_of (entry_for x.input) ≡ Ok x.input
some_read x found is read = subst (λ (f : Option Asked). IfSome f (λ a. input_of (entry_for a.input) ≡ Ok a.input)) is read
