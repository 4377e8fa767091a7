-- What is asked is a field, kind by kind; each clause for a `k` stands for all kinds that are not named above it.
use Rattle.std.proofs.Common.{◌≡◌, ℕ, List, [], ◌++◌, Ok, refl, sym, ap, arith}
use Rattle.std.proofs.lemmas.List.{append-nil}
use Rattle.pg_base.specs.declared.id.FileId.{FileId}
use Rattle.pg_base.specs.declared.policy.Policy.{Policy}
use Rattle.pg_call.specs.Call.{call_kind, target_word}
use Rattle.pg_call.specs.declared.call.Call.{Call}
use Rattle.pg_call.specs.declared.call.Call.TheVariants as call
use Rattle.pg_call.specs.declared.call.CallKind.{CallKind}
use Rattle.pg_call.specs.declared.call.CallKind.TheVariants as kind
use Rattle.pg_call.specs.declared.call.Target.{Target}
use Rattle.pg_codec.specs.Laws.{Any, HasWidth, IsField}
use Rattle.pg_codec.specs.Reading.{Field, followed_by, seen_as, file_at, number_at}
use Rattle.pg_codec.specs.Spelling.{file_bytes, number_bytes}
use Rattle.pg_packet_write.specs.Calls.{call_bytes, text_bytes}
use Rattle.pg_packet_write.specs.Datagrams.{request_bytes}
use Rattle.pg_packet_write.specs.Fields.{counted, policy_bytes}
use Rattle.pg_packet_write.specs.declared.datagram.Request.{Request}
use Rattle.pg_packet_write.specs.declared.datagram.Request.TheVariants as request
use Rattle.pg_packet_fields.specs.Faults.{of_packet}
use Rattle.pg_packet_fields.specs.Patches.{block_at}
use Rattle.pg_packet_fields.specs.Reading.{policy_at, text_at}
use Rattle.pg_packet_fields.specs.declared.error.PacketError.{PacketError}
use Rattle.pg_packet_fields.proofs.Joining.{chosen_is, nothing_is, then_is, view_is}
use Rattle.pg_packet_fields.proofs.EachKind.{of_kinds}
use Rattle.pg_packet_fields.proofs.Many.{count_field}
use Rattle.pg_packet_fields.proofs.PatchFields.{block_field}
use Rattle.pg_packet_fields.proofs.Plain.{file_is, narrow_is, policy_field, text_field, wide_is}
use Rattle.pg_packet_read.specs.Calls.{IsSize, IsWholeCall, IsWholeRequest, asked_at, call_at, request_at, request_kinds, size_at}
use Rattle.pg_packet_read.specs.Numbered.{item_at, numbered}
use Rattle.pg_packet_read.specs.Targets.{target_at}
use Rattle.pg_packet_read.specs.declared.calls.RequestKind.{RequestKind}
use Rattle.pg_packet_read.specs.declared.calls.RequestKind.TheVariants as asked
use Rattle.pg_packet_read.proofs.Items.{alone_is, item_is}
use Rattle.pg_packet_read.proofs.Named.{target_field}
use Rattle.std.specs.Prelude.{Some}

-- ---- numbers

abbrev request_number : RequestKind → ℕ
request_number (asked.Call kind.Mkdir) = 1
request_number (asked.Call kind.Create) = 2
request_number (asked.Call kind.Write) = 3
request_number (asked.Call kind.Cut) = 4
request_number (asked.Call kind.Read) = 5
request_number (asked.Call kind.Fresh) = 6
request_number (asked.Call kind.Ls) = 7
request_number (asked.Call kind.Stat) = 8
request_number (asked.Call kind.Rename) = 9
request_number (asked.Call kind.Unlink) = 10
request_number (asked.Call kind.Rmdir) = 11
request_number (asked.Call kind.Forget) = 12
request_number (asked.Call kind.Demote) = 13
request_number (asked.Call kind.Drop) = 14
request_number (asked.Call kind.Giveup) = 15
request_number asked.Tick = 16
request_number (asked.Call kind.Status) = 17
request_number (asked.Call kind.Stop) = 18

there : (k : RequestKind) → numbered request_kinds (request_number k) ≡ Some k
there (asked.Call kind.Mkdir) = refl
there (asked.Call k) = refl
there asked.Tick = refl

small : (k : RequestKind) → HasWidth 1 (request_number k)
small (asked.Call kind.Mkdir) = omega arith
small (asked.Call k) = omega arith
small asked.Tick = omega arith

kind_field : IsField Any (λ k. number_bytes 1 (request_number k)) (item_at request_kinds)
kind_field = item_is request_kinds request_number refl there small

-- ---- calls

-- what stands behind the number
abbrev call_behind : Call → List ℕ
call_behind (call.Mkdir path) = text_bytes path
call_behind (call.Create path policy) = text_bytes path ++ policy_bytes policy
call_behind (call.Write path offset bytes) = text_bytes path ++ (number_bytes 4 offset ++ counted 4 bytes)
call_behind (call.Cut path n) = text_bytes path ++ number_bytes 4 n
call_behind (call.Read path offset count) = text_bytes path ++ (number_bytes 4 offset ++ number_bytes 4 count)
call_behind (call.Fresh path) = text_bytes path
call_behind (call.Ls path from) = text_bytes path ++ number_bytes 4 from
call_behind (call.Stat what) = text_bytes (target_word what)
call_behind (call.Rename from to) = text_bytes from ++ text_bytes to
call_behind (call.Unlink path) = text_bytes path
call_behind (call.Rmdir path) = text_bytes path
call_behind (call.Forget id) = file_bytes id
call_behind (call.Demote what) = text_bytes (target_word what)
call_behind (call.Drop what) = text_bytes (target_word what)
call_behind (call.Giveup view server) = number_bytes 8 view ++ number_bytes 4 server
call_behind call.Status = []
call_behind call.Stop = []

call_spelled : (c : Call) → call_bytes c ≡ number_bytes 1 (request_number (asked.Call (call_kind c))) ++ call_behind c
unfolding call_bytes
call_spelled call.Status = sym (append-nil (number_bytes 1 17))
call_spelled call.Stop = sym (append-nil (number_bytes 1 18))
call_spelled c = refl

size_field : IsField IsSize (number_bytes 4) size_at
unfolding size_at
size_field = count_field 4 32768 (omega arith) narrow_is

abbrev Parts : CallKind → Type 0
Parts kind.Mkdir = List ℕ
Parts kind.Create = List ℕ × Policy
Parts kind.Write = List ℕ × (ℕ × List ℕ)
Parts kind.Cut = List ℕ × ℕ
Parts kind.Read = List ℕ × (ℕ × ℕ)
Parts kind.Fresh = List ℕ
Parts kind.Ls = List ℕ × ℕ
Parts kind.Stat = Target
Parts kind.Rename = List ℕ × List ℕ
Parts kind.Unlink = List ℕ
Parts kind.Rmdir = List ℕ
Parts kind.Forget = FileId
Parts kind.Demote = Target
Parts kind.Drop = Target
Parts kind.Giveup = ℕ × ℕ
Parts kind.Status = Unit {0}
Parts kind.Stop = Unit {0}

abbrev made : (k : CallKind) → Parts k → Call
made kind.Mkdir x = call.Mkdir x
made kind.Create x = call.Create x.0 x.1
made kind.Write x = call.Write x.0 x.1.0 x.1.1
made kind.Cut x = call.Cut x.0 x.1
made kind.Read x = call.Read x.0 x.1.0 x.1.1
made kind.Fresh x = call.Fresh x
made kind.Ls x = call.Ls x.0 x.1
made kind.Stat x = call.Stat x
made kind.Rename x = call.Rename x.0 x.1
made kind.Unlink x = call.Unlink x
made kind.Rmdir x = call.Rmdir x
made kind.Forget x = call.Forget x
made kind.Demote x = call.Demote x
made kind.Drop x = call.Drop x
made kind.Giveup x = call.Giveup x.0 x.1
made kind.Status x = call.Status
made kind.Stop x = call.Stop

abbrev parts_at : (k : CallKind) → Field PacketError (Parts k)
parts_at kind.Mkdir = text_at
parts_at kind.Create = followed_by text_at (λ path. policy_at)
parts_at kind.Write = followed_by text_at (λ path. followed_by (of_packet (number_at 4)) (λ offset. block_at))
parts_at kind.Cut = followed_by text_at (λ path. of_packet (number_at 4))
parts_at kind.Read = followed_by text_at (λ path. followed_by (of_packet (number_at 4)) (λ offset. size_at))
parts_at kind.Fresh = text_at
parts_at kind.Ls = followed_by text_at (λ path. of_packet (number_at 4))
parts_at kind.Stat = target_at
parts_at kind.Rename = followed_by text_at (λ path. text_at)
parts_at kind.Unlink = text_at
parts_at kind.Rmdir = text_at
parts_at kind.Forget = of_packet file_at
parts_at kind.Demote = target_at
parts_at kind.Drop = target_at
parts_at kind.Giveup = followed_by (of_packet (number_at 8)) (λ view. of_packet (number_at 4))
parts_at kind.Status = λ from. Ok (tt, from)
parts_at kind.Stop = λ from. Ok (tt, from)

kind_made : (k : CallKind) (x : Parts k) → call_kind (made k x) ≡ k
kind_made kind.Mkdir x = refl
kind_made k x = refl

parts_of : (c : Call) → (x : Parts (call_kind c)) × (made (call_kind c) x ≡ c)
parts_of (call.Mkdir path) = (path, refl)
parts_of (call.Create path policy) = ((path, policy), refl)
parts_of (call.Write path offset bytes) = ((path, (offset, bytes)), refl)
parts_of (call.Cut path n) = ((path, n), refl)
parts_of (call.Read path offset count) = ((path, (offset, count)), refl)
parts_of (call.Fresh path) = (path, refl)
parts_of (call.Ls path from) = ((path, from), refl)
parts_of (call.Stat what) = (what, refl)
parts_of (call.Rename from to) = ((from, to), refl)
parts_of (call.Unlink path) = (path, refl)
parts_of (call.Rmdir path) = (path, refl)
parts_of (call.Forget id) = (id, refl)
parts_of (call.Demote what) = (what, refl)
parts_of (call.Drop what) = (what, refl)
parts_of (call.Giveup view server) = ((view, server), refl)
parts_of call.Status = (tt, refl)
parts_of call.Stop = (tt, refl)

fields : (k : CallKind) → IsField (λ (x : Parts k). IsWholeCall (made k x)) (λ (x : Parts k). call_behind (made k x)) (parts_at k)
fields kind.Mkdir = text_field
fields kind.Create = then_is text_field policy_field
fields kind.Write = then_is text_field (then_is narrow_is block_field)
fields kind.Cut = then_is text_field narrow_is
fields kind.Read = then_is text_field (then_is narrow_is size_field)
fields kind.Fresh = text_field
fields kind.Ls = then_is text_field narrow_is
fields kind.Stat = target_field
fields kind.Rename = then_is text_field text_field
fields kind.Unlink = text_field
fields kind.Rmdir = text_field
fields kind.Forget = file_is
fields kind.Demote = target_field
fields kind.Drop = target_field
fields kind.Giveup = then_is wide_is narrow_is
fields kind.Status = alone_is
fields kind.Stop = alone_is

abbrev IsOf : CallKind → Call → Type 0
IsOf k c = IsWholeCall c × (call_kind c ≡ k)

each : (k : CallKind) → IsField (IsOf k) call_behind (seen_as (made k) (parts_at k))
each k = of_kinds call_kind IsWholeCall call_behind Parts made parts_at kind_made parts_of fields k

call_is : (k : CallKind) → IsField (IsOf k) call_behind (call_at k)
unfolding call_at
call_is kind.Mkdir = each kind.Mkdir
call_is k = each k

-- ---- what is asked

abbrev request_kind : Request → RequestKind
request_kind (request.Call c) = asked.Call (call_kind c)
request_kind request.Tick = asked.Tick

abbrev request_behind : Request → List ℕ
request_behind (request.Call c) = call_behind c
request_behind request.Tick = []

request_spelled : (r : Request) → request_bytes r ≡ number_bytes 1 (request_number (request_kind r)) ++ request_behind r
unfolding request_bytes
request_spelled (request.Call c) = call_spelled c
request_spelled request.Tick = sym (append-nil (number_bytes 1 16))

abbrev IsAsked : RequestKind → Request → Type 0
IsAsked k r = IsWholeRequest r × (request_kind r ≡ k)

same_call : (a b : CallKind) → asked.Call a ≡ asked.Call b → a ≡ b
same_call a b e = cc

no_tick : (k : CallKind) → asked.Tick ≡ asked.Call k → ⊥
no_tick k e = absurd cc

no_call : (k : CallKind) → asked.Call k ≡ asked.Tick → ⊥
no_call k e = absurd cc

call_of : (k : CallKind) (r : Request) → IsAsked (asked.Call k) r → (c : Call) × IsOf k c × (request.Call c ≡ r)
call_of k (request.Call c) fits = (c, (fits.0, same_call (call_kind c) k fits.1), refl)
call_of k request.Tick fits = absurd (no_tick k fits.1)

tick_of : (r : Request) → IsAsked asked.Tick r → request.Tick ≡ r
tick_of (request.Call c) fits = absurd (no_call (call_kind c) fits.1)
tick_of request.Tick fits = refl

asked_is : (k : RequestKind) → IsField (IsAsked k) request_behind (asked_at k)
asked_is (asked.Call k) = view_is (call_is k) (λ c. request.Call c) (IsAsked (asked.Call k)) request_behind
    (λ c fits. ((fits.0, ap asked.Call fits.1), refl)) (call_of k)
asked_is asked.Tick = nothing_is (IsAsked asked.Tick) request_behind request.Tick (tt, refl) refl tick_of

pub request_field : IsField IsWholeRequest request_bytes request_at
unfolding request_at
request_field = chosen_is request_kind Any (λ k. number_bytes 1 (request_number k)) (item_at request_kinds) IsWholeRequest request_bytes request_behind (λ place. asked_at) kind_field
    (λ r fits. tt) request_spelled (λ place. asked_is)
