-- What each call says.
use Rattle.std.specs.Prelude.{ℕ, ◌≤◌, List, [], ◌∷◌, Ok}
use Rattle.pg_base.specs.Id.{Fits}
use Rattle.pg_call.specs.declared.call.Call.{Call}
use Rattle.pg_call.specs.declared.call.Call.TheVariants as call
use Rattle.pg_call.specs.declared.call.CallKind.{CallKind}
use Rattle.pg_call.specs.declared.call.CallKind.TheVariants as kind
use Rattle.pg_codec.specs.Laws.{Any, HasWidth}
use Rattle.pg_codec.specs.Reading.{Field, ◌>>=◌, followed_by, seen_as, checked, file_at, number_at}
use Rattle.pg_packet_write.specs.declared.datagram.Request.{Request}
use Rattle.pg_packet_write.specs.declared.datagram.Request.TheVariants as request
use Rattle.pg_packet_fields.specs.Faults.{of_packet}
use Rattle.pg_packet_fields.specs.Lists.{count_of}
use Rattle.pg_packet_fields.specs.Patches.{IsBlock, block_at}
use Rattle.pg_packet_fields.specs.Reading.{policy_at, text_at}
use Rattle.pg_packet_fields.specs.Values.{IsShortText}
use Rattle.pg_packet_fields.specs.declared.error.PacketError.{PacketError}
use Rattle.pg_packet_read.specs.Numbered.{item_at}
use Rattle.pg_packet_read.specs.Targets.{IsWholeTarget, target_at}
use Rattle.pg_packet_read.specs.declared.calls.RequestKind.{RequestKind}
use Rattle.pg_packet_read.specs.declared.calls.RequestKind.TheVariants as asked

-- what may be asked, by number
abbrev pub request_kinds : List RequestKind
request_kinds = asked.Call kind.Mkdir ∷ asked.Call kind.Create ∷ asked.Call kind.Write
    ∷ asked.Call kind.Cut ∷ asked.Call kind.Read ∷ asked.Call kind.Fresh ∷ asked.Call kind.Ls
    ∷ asked.Call kind.Stat ∷ asked.Call kind.Rename ∷ asked.Call kind.Unlink
    ∷ asked.Call kind.Rmdir ∷ asked.Call kind.Forget ∷ asked.Call kind.Demote
    ∷ asked.Call kind.Drop ∷ asked.Call kind.Giveup ∷ asked.Tick ∷ asked.Call kind.Status
    ∷ asked.Call kind.Stop ∷ []

-- how many bytes are to be read: at most 32,768
unfoldable pub size_at : Field PacketError ℕ
size_at from = checked (count_of 32768) (of_packet (number_at 4)) from

-- the words of the call in their order
unfoldable pub call_at : CallKind → Field PacketError Call
call_at kind.Mkdir from = seen_as (λ x. call.Mkdir x) text_at from
call_at kind.Create from =
    seen_as (λ x. call.Create x.0 x.1) (followed_by text_at (λ path. policy_at)) from
call_at kind.Write from = seen_as (λ x. call.Write x.0 x.1.0 x.1.1) (followed_by text_at
    (λ path. followed_by (of_packet (number_at 4)) (λ offset. block_at))) from
call_at kind.Cut from = seen_as (λ x. call.Cut x.0 x.1) (followed_by text_at
    (λ path. of_packet (number_at 4))) from
call_at kind.Read from = seen_as (λ x. call.Read x.0 x.1.0 x.1.1) (followed_by text_at
    (λ path. followed_by (of_packet (number_at 4)) (λ offset. size_at))) from
call_at kind.Fresh from = seen_as (λ x. call.Fresh x) text_at from
call_at kind.Ls from = seen_as (λ x. call.Ls x.0 x.1) (followed_by text_at
    (λ path. of_packet (number_at 4))) from
call_at kind.Stat from = seen_as (λ x. call.Stat x) target_at from
call_at kind.Rename from =
    seen_as (λ x. call.Rename x.0 x.1) (followed_by text_at (λ path. text_at)) from
call_at kind.Unlink from = seen_as (λ x. call.Unlink x) text_at from
call_at kind.Rmdir from = seen_as (λ x. call.Rmdir x) text_at from
call_at kind.Forget from = seen_as (λ x. call.Forget x) (of_packet file_at) from
call_at kind.Demote from = seen_as (λ x. call.Demote x) target_at from
call_at kind.Drop from = seen_as (λ x. call.Drop x) target_at from
call_at kind.Giveup from = seen_as (λ x. call.Giveup x.0 x.1)
    (followed_by (of_packet (number_at 8)) (λ view. of_packet (number_at 4))) from
call_at kind.Status from = Ok (call.Status, from)
call_at kind.Stop from = Ok (call.Stop, from)

abbrev pub asked_at : RequestKind → Field PacketError Request
asked_at (asked.Call kind) from = seen_as (λ x. request.Call x) (call_at kind) from
asked_at asked.Tick from = Ok (request.Tick, from)

-- the number of what is asked, and its words
unfoldable pub request_at : Field PacketError Request
request_at from = item_at request_kinds from >>= λ kind. asked_at kind.0 kind.1

-- ---- what can be read

abbrev pub IsSize : ℕ → Type 0
IsSize count = count ≤ 32768

abbrev pub IsWholeCall : Call → Type 0
IsWholeCall (call.Mkdir path) = IsShortText path
IsWholeCall (call.Create path policy) = IsShortText path × Any policy
IsWholeCall (call.Write path offset bytes) = IsShortText path × (HasWidth 4 offset × IsBlock bytes)
IsWholeCall (call.Cut path n) = IsShortText path × HasWidth 4 n
IsWholeCall (call.Read path offset count) = IsShortText path × (HasWidth 4 offset × IsSize count)
IsWholeCall (call.Fresh path) = IsShortText path
IsWholeCall (call.Ls path from) = IsShortText path × HasWidth 4 from
IsWholeCall (call.Stat what) = IsWholeTarget what
IsWholeCall (call.Rename from to) = IsShortText from × IsShortText to
IsWholeCall (call.Unlink path) = IsShortText path
IsWholeCall (call.Rmdir path) = IsShortText path
IsWholeCall (call.Forget id) = Fits id
IsWholeCall (call.Demote what) = IsWholeTarget what
IsWholeCall (call.Drop what) = IsWholeTarget what
IsWholeCall (call.Giveup view server) = HasWidth 8 view × HasWidth 4 server
IsWholeCall call.Status = Unit {0}
IsWholeCall call.Stop = Unit {0}

abbrev pub IsWholeRequest : Request → Type 0
IsWholeRequest (request.Call call) = IsWholeCall call
IsWholeRequest request.Tick = Unit {0}
