-- What is asked for by words has a spelling as a packet: its paths and targets are short, and no
-- path of a target is spelled as an id.
use Rattle.std.proofs.Common.{ℕ, ◌≤◌, List, arith, length}
use Rattle.pg_call.specs.Call.{HasSlash, IsCall, IsTarget, argument_words, call_kind, target_word}
use Rattle.pg_call.specs.Fields.{call_fields}
use Rattle.pg_call.specs.declared.call.Call.{Call}
use Rattle.pg_call.specs.declared.call.Call.TheVariants as call
use Rattle.pg_call.specs.declared.call.Target.{Target}
use Rattle.pg_call.specs.declared.call.Target.TheVariants as target
use Rattle.pg_command.proofs.Targets.{no_id}
use Rattle.pg_command.specs.Slots.{AreShort}
use Rattle.pg_command.specs.Words.{IsRequest}
use Rattle.pg_packet_write.specs.Calls.{FitsCall, FitsTarget, FitsText, SpellsNone}
use Rattle.pg_packet_write.specs.Datagrams.{FitsRequest}
use Rattle.pg_packet_write.specs.declared.datagram.Request.{Request}
use Rattle.pg_packet_write.specs.declared.datagram.Request.TheVariants as request

text_fits : (text : List ℕ) → length text ≤ 5000 → FitsText text
text_fits text few = omega arith

no_spelling : (text : List ℕ) → HasSlash text → SpellsNone text
no_spelling text slash = λ id fits e. no_id text slash id fits e

target_fits : (t : Target) → IsTarget t → length (target_word t) ≤ 5000 → FitsTarget t
target_fits (target.Path path) h few = (text_fits path few, no_spelling path h.1)
target_fits (target.Id id) h few = tt

call_fits : (c : Call) → IsCall c → AreShort (call_fields (call_kind c)) (argument_words c)
    → FitsCall c
call_fits (call.Mkdir p) h s = text_fits p s.0
call_fits (call.Create p l) h s = text_fits p s.0
call_fits (call.Write p o b) h s = text_fits p s.0
call_fits (call.Cut p n) h s = text_fits p s.0
call_fits (call.Read p o n) h s = text_fits p s.0
call_fits (call.Fresh p) h s = text_fits p s.0
call_fits (call.Ls p n) h s = text_fits p s.0
call_fits (call.Stat t) h s = target_fits t h s.0
call_fits (call.Rename p q) h s = (text_fits p s.0, text_fits q s.1.0)
call_fits (call.Unlink p) h s = text_fits p s.0
call_fits (call.Rmdir p) h s = text_fits p s.0
call_fits (call.Forget f) h s = tt
call_fits (call.Demote t) h s = target_fits t h s.0
call_fits (call.Drop t) h s = target_fits t h s.0
call_fits (call.Giveup v s) h few = tt
call_fits call.Status h s = tt
call_fits call.Stop h s = tt

pub fits_request : (r : Request) → IsRequest r → FitsRequest r
fits_request (request.Call c) h = call_fits c h.0 h.1
fits_request request.Tick h = tt
