-- Replies are fields, kind by kind; each clause for a `k` stands for all kinds that are not named above it.
use Rattle.std.proofs.Common.{◌≡◌, ℕ, List, [], ◌++◌, Ok, Some, refl, sym, arith}
use Rattle.std.proofs.lemmas.List.{append-nil}
use Rattle.pg_base.specs.declared.id.FileId.{FileId}
use Rattle.pg_base.specs.declared.stamp.Stamp.{Stamp}
use Rattle.pg_call.specs.declared.refusal.Refusal.{Refusal}
use Rattle.pg_call.specs.declared.reply.Counts.{Counts}
use Rattle.pg_call.specs.declared.reply.Reply.{Reply}
use Rattle.pg_call.specs.declared.reply.Reply.TheVariants as reply
use Rattle.pg_call.specs.declared.reply.Stat.{Stat}
use Rattle.pg_codec.specs.Laws.{Any, HasWidth, IsField}
use Rattle.pg_codec.specs.Reading.{Field, followed_by, seen_as, file_at, number_at, stamp_at}
use Rattle.pg_codec.specs.Spelling.{file_bytes, number_bytes, stamp_bytes}
use Rattle.pg_packet_write.specs.Calls.{counts_bytes, refusal_bytes, reply_bytes, row_bytes, stat_bytes}
use Rattle.pg_packet_write.specs.Fields.{counted, listed}
use Rattle.pg_path.specs.declared.row.Row.{Row}
use Rattle.pg_packet_fields.specs.Faults.{of_packet}
use Rattle.pg_packet_fields.specs.Patches.{block_at}
use Rattle.pg_packet_fields.specs.declared.error.PacketError.{PacketError}
use Rattle.pg_packet_fields.proofs.Joining.{chosen_is, then_is}
use Rattle.pg_packet_fields.proofs.EachKind.{of_kinds}
use Rattle.pg_packet_fields.proofs.PatchFields.{block_field}
use Rattle.pg_packet_fields.proofs.Plain.{file_is, narrow_is, stamp_is}
use Rattle.pg_packet_read.specs.Numbered.{item_at, numbered}
use Rattle.pg_packet_read.specs.Refusals.{refusal_at}
use Rattle.pg_packet_read.specs.Replies.{IsWholeReply, counts_at, reply_at, reply_kinds, rows_at, stat_at, reply_fields_at}
use Rattle.pg_call.specs.declared.reply.ReplyKind.{ReplyKind}
use Rattle.pg_call.specs.declared.reply.ReplyKind.TheVariants as kind
use Rattle.pg_packet_read.proofs.Items.{alone_is, item_is}
use Rattle.pg_packet_read.proofs.ReasonKinds.{refusal_field}
use Rattle.pg_packet_read.proofs.ReplyParts.{counts_field, rows_field, stat_field}

-- ---- numbers

abbrev reply_number : ReplyKind → ℕ
reply_number kind.Done = 1
reply_number kind.Made = 2
reply_number kind.Wrote = 3
reply_number kind.Bytes = 4
reply_number kind.Names = 5
reply_number kind.Stat = 6
reply_number kind.Leaving = 7
reply_number kind.Status = 8
reply_number kind.Refused = 9

there : (k : ReplyKind) → numbered reply_kinds (reply_number k) ≡ Some k
there kind.Done = refl
there k = refl

small : (k : ReplyKind) → HasWidth 1 (reply_number k)
small kind.Done = omega arith
small k = omega arith

kind_field : IsField Any (λ k. number_bytes 1 (reply_number k)) (item_at reply_kinds)
kind_field = item_is reply_kinds reply_number refl there small

-- ---- replies

abbrev kind_of : Reply → ReplyKind
kind_of reply.Done = kind.Done
kind_of (reply.Made id) = kind.Made
kind_of (reply.Wrote stamp) = kind.Wrote
kind_of (reply.Bytes bytes) = kind.Bytes
kind_of (reply.Names total rows) = kind.Names
kind_of (reply.Stat stat) = kind.Stat
kind_of (reply.Leaving server) = kind.Leaving
kind_of (reply.Status counts) = kind.Status
kind_of (reply.Refused why) = kind.Refused

-- what stands behind the number
abbrev behind : Reply → List ℕ
behind reply.Done = []
behind (reply.Made id) = file_bytes id
behind (reply.Wrote stamp) = stamp_bytes stamp
behind (reply.Bytes bytes) = counted 4 bytes
behind (reply.Names total rows) = number_bytes 4 total ++ listed 1 row_bytes rows
behind (reply.Stat stat) = stat_bytes stat
behind (reply.Leaving server) = number_bytes 4 server
behind (reply.Status counts) = counts_bytes counts
behind (reply.Refused why) = refusal_bytes why

spelled : (r : Reply) → reply_bytes r ≡ number_bytes 1 (reply_number (kind_of r)) ++ behind r
unfolding reply_bytes
spelled reply.Done = sym (append-nil (number_bytes 1 1))
spelled r = refl

abbrev Parts : ReplyKind → Type 0
Parts kind.Done = Unit {0}
Parts kind.Made = FileId
Parts kind.Wrote = Stamp
Parts kind.Bytes = List ℕ
Parts kind.Names = ℕ × List Row
Parts kind.Stat = Stat
Parts kind.Leaving = ℕ
Parts kind.Status = Counts
Parts kind.Refused = Refusal

abbrev made : (k : ReplyKind) → Parts k → Reply
made kind.Done x = reply.Done
made kind.Made x = reply.Made x
made kind.Wrote x = reply.Wrote x
made kind.Bytes x = reply.Bytes x
made kind.Names x = reply.Names x.0 x.1
made kind.Stat x = reply.Stat x
made kind.Leaving x = reply.Leaving x
made kind.Status x = reply.Status x
made kind.Refused x = reply.Refused x

abbrev parts_at : (k : ReplyKind) → Field PacketError (Parts k)
parts_at kind.Done = λ from. Ok (tt, from)
parts_at kind.Made = of_packet file_at
parts_at kind.Wrote = of_packet stamp_at
parts_at kind.Bytes = block_at
parts_at kind.Names = followed_by (of_packet (number_at 4)) (λ total. rows_at)
parts_at kind.Stat = stat_at
parts_at kind.Leaving = of_packet (number_at 4)
parts_at kind.Status = counts_at
parts_at kind.Refused = refusal_at

kind_made : (k : ReplyKind) (x : Parts k) → kind_of (made k x) ≡ k
kind_made kind.Done x = refl
kind_made k x = refl

parts_of : (r : Reply) → (x : Parts (kind_of r)) × (made (kind_of r) x ≡ r)
parts_of reply.Done = (tt, refl)
parts_of (reply.Made id) = (id, refl)
parts_of (reply.Wrote stamp) = (stamp, refl)
parts_of (reply.Bytes bytes) = (bytes, refl)
parts_of (reply.Names total rows) = ((total, rows), refl)
parts_of (reply.Stat stat) = (stat, refl)
parts_of (reply.Leaving server) = (server, refl)
parts_of (reply.Status counts) = (counts, refl)
parts_of (reply.Refused why) = (why, refl)

fields : (k : ReplyKind) → IsField (λ (x : Parts k). IsWholeReply (made k x)) (λ (x : Parts k). behind (made k x)) (parts_at k)
fields kind.Done = alone_is
fields kind.Made = file_is
fields kind.Wrote = stamp_is
fields kind.Bytes = block_field
fields kind.Names = then_is narrow_is rows_field
fields kind.Stat = stat_field
fields kind.Leaving = narrow_is
fields kind.Status = counts_field
fields kind.Refused = refusal_field

abbrev IsOf : ReplyKind → Reply → Type 0
IsOf k r = IsWholeReply r × (kind_of r ≡ k)

each : (k : ReplyKind) → IsField (IsOf k) behind (seen_as (made k) (parts_at k))
each k = of_kinds kind_of IsWholeReply behind Parts made parts_at kind_made parts_of fields k

told_is : (k : ReplyKind) → IsField (IsOf k) behind (reply_fields_at k)
unfolding reply_fields_at
told_is kind.Done = each kind.Done
told_is k = each k

pub reply_field : IsField IsWholeReply reply_bytes reply_at
unfolding reply_at
reply_field = chosen_is kind_of Any (λ k. number_bytes 1 (reply_number k)) (item_at reply_kinds) IsWholeReply reply_bytes behind (λ place. reply_fields_at) kind_field
    (λ r fits. tt) spelled (λ place. told_is)
