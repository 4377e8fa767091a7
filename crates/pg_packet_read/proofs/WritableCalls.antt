-- Calls and replies that can be read can be written again.
use Rattle.std.proofs.Common.{List, [], ◌∷◌}
use Rattle.std.specs.List.{AllByRecursion}
use Rattle.pg_call.specs.declared.call.Call.{Call}
use Rattle.pg_call.specs.declared.call.Call.TheVariants as call
use Rattle.pg_call.specs.declared.call.Target.{Target}
use Rattle.pg_call.specs.declared.call.Target.TheVariants as target
use Rattle.pg_call.specs.declared.reply.Reply.{Reply}
use Rattle.pg_call.specs.declared.reply.Reply.TheVariants as reply
use Rattle.pg_packet_write.specs.Calls.{FitRows, FitsCall, FitsReply, FitsTarget, FitsText}
use Rattle.pg_packet_write.specs.Datagrams.{FitsRequest}
use Rattle.pg_packet_write.specs.declared.datagram.Request.{Request}
use Rattle.pg_packet_write.specs.declared.datagram.Request.TheVariants as request
use Rattle.pg_path.specs.declared.row.Row.{Row}
use Rattle.pg_packet_fields.specs.Lists.{Chain}
use Rattle.pg_packet_fields.proofs.Fitting.{fits_place}
use Rattle.pg_packet_read.specs.Calls.{IsWholeCall, IsWholeRequest}
use Rattle.pg_packet_read.specs.Replies.{AreRows, IsWholeReply, IsWholeRow, unchanged}
use Rattle.pg_packet_read.specs.Targets.{IsWholeTarget}

fits_target : (t : Target) → IsWholeTarget t → FitsTarget t
fits_target (target.Path text) w = (w.0.short, w.1)
fits_target (target.Id id) w = tt

fits_call : (c : Call) → IsWholeCall c → FitsCall c
fits_call (call.Mkdir path) w = w.short
fits_call (call.Create path policy) w = w.0.short
fits_call (call.Write path offset bytes) w = w.0.short
fits_call (call.Cut path n) w = w.0.short
fits_call (call.Read path offset count) w = w.0.short
fits_call (call.Fresh path) w = w.short
fits_call (call.Ls path from) w = w.0.short
fits_call (call.Stat what) w = fits_target what w
fits_call (call.Rename from to) w = (w.0.short, w.1.short)
fits_call (call.Unlink path) w = w.short
fits_call (call.Rmdir path) w = w.short
fits_call (call.Forget id) w = tt
fits_call (call.Demote what) w = fits_target what w
fits_call (call.Drop what) w = fits_target what w
fits_call (call.Giveup view server) w = tt
fits_call call.Status w = tt
fits_call call.Stop w = tt

pub fits_request : (r : Request) → IsWholeRequest r → FitsRequest r
fits_request (request.Call c) w = fits_call c w
fits_request request.Tick w = tt

each_row : (rows : List Row) → Chain (λ before. IsWholeRow) unchanged tt rows → AllByRecursion (λ (row : Row). FitsText row.name) rows
each_row [] chain = tt
each_row (row ∷ rows) chain = (chain.0.name.short, each_row rows chain.1)

fits_rows : (rows : List Row) → AreRows rows → FitRows rows
fits_rows rows w = record { few = w.few; each = each_row rows w.chain }

pub fits_reply : (r : Reply) → IsWholeReply r → FitsReply r
fits_reply reply.Done w = tt
fits_reply (reply.Made id) w = tt
fits_reply (reply.Wrote stamp) w = tt
fits_reply (reply.Bytes bytes) w = w.most
fits_reply (reply.Names total rows) w = fits_rows rows w.1
fits_reply (reply.Stat stat) w = fits_place stat.place w.place
fits_reply (reply.Leaving server) w = tt
fits_reply (reply.Status counts) w = tt
fits_reply (reply.Refused why) w = tt
