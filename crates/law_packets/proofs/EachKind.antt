-- Messages, calls, replies and whole packets, each kind by its fields.
use Rattle.std.proofs.Common.{◌≡◌, ℕ, zero, suc, ◌<◌, ◌⊎◌, inl, List, [], ◌∷◌, ◌++◌, Option, Some, None, Ok, Err, refl, sym, arith}
use Rattle.std.specs.Prelude.{◌==◌}
use Rattle.pg_call.specs.declared.call.Call.TheVariants as call
use Rattle.pg_call.specs.declared.call.CallKind.{CallKind}
use Rattle.pg_call.specs.declared.call.CallKind.TheVariants as asks
use Rattle.pg_call.specs.declared.refusal.Refusal.TheVariants as refusal
use Rattle.pg_call.specs.declared.refusal.RefusalKind.{RefusalKind}
use Rattle.pg_call.specs.declared.refusal.RefusalKind.TheVariants as why
use Rattle.pg_call.specs.declared.reply.Reply.TheVariants as reply
use Rattle.pg_call.specs.declared.reply.ReplyKind.{ReplyKind}
use Rattle.pg_call.specs.declared.reply.ReplyKind.TheVariants as told
use Rattle.pg_msg.specs.declared.summary.MessageKind.{MessageKind}
use Rattle.pg_msg.specs.declared.summary.MessageKind.TheVariants as kind
use Rattle.pg_packet_fields.specs.Lists.{many}
use Rattle.pg_packet_fields.specs.declared.error.PacketError.{PacketError}
use Rattle.pg_packet_fields.specs.declared.error.PacketError.TheVariants.{BadTag, TooLong}
use Rattle.pg_packet_fields.proofs.Plain.{byte_is, narrow_is}
use Rattle.pg_packet_read.specs.Calls.{asked_at, call_at, request_at, request_kinds, size_at}
use Rattle.pg_packet_read.specs.Messages.{message_at}
use Rattle.pg_packet_read.specs.Numbered.{item_at, numbered, or_bad}
use Rattle.pg_packet_read.specs.Refusals.{reason_at, refusal_at, refusal_kinds}
use Rattle.pg_packet_read.specs.Replies.{any_row, counts_at, reply_at, reply_fields_at, reply_kinds, row_at, rows_at, stat_at, unchanged}
use Rattle.pg_packet_read.specs.Targets.{target_at}
use Rattle.pg_packet_read.specs.Whole.{behind_kind_at, byte_at, byte_of, content_at, datagram_at, mark_at}
use Rattle.pg_packet_read.specs.declared.calls.RequestKind.{RequestKind}
use Rattle.pg_packet_read.specs.declared.calls.RequestKind.TheVariants as asked
use Rattle.pg_packet_read.specs.declared.kinds.PacketKind.{PacketKind}
use Rattle.pg_packet_read.specs.declared.kinds.PacketKind.TheVariants as packet
use Rattle.pg_packet_write.specs.declared.datagram.Request.TheVariants as request
use Rattle.pg_path.specs.declared.row.Row.{Row}
use Rattle.law_packets.proofs.Atoms.{byte_sure, narrow_sure, wide_sure}
use Rattle.law_packets.proofs.Checks.{IsCheck, test_check}
use Rattle.law_packets.proofs.Fields.{about_sure, cell_sure, delta_sure, granted_sure, head_sure, hops_sure, listed_sure, piece_sure, replica_sure, wanted_sure}
use Rattle.law_packets.proofs.Names.{name_sure}
use Rattle.law_packets.proofs.Opened.{SameBut, same}
use Rattle.law_packets.proofs.Parts.{block_sure}
use Rattle.law_packets.proofs.Plain.{ask_sure, check_sure, count_sure, dir_sure, ends_sure, file_sure, flag_sure, key_sure, policy_sure, server_sure, stamp_sure, text_sure}
use Rattle.law_packets.proofs.Sure.{IsSure, bound_sure, followed_sure, nothing_sure, seen_sure, then_sure}
use Rattle.law_packets.proofs.Telling.{err_is, no_error}

-- ---- messages

message_sure : (k : MessageKind) → IsSure SameBut (message_at k)
unfolding message_at
message_sure kind.Cell = seen_sure _ (then_sure same (ends_sure same) (then_sure same (wide_sure same) cell_sure))
message_sure kind.Ack = seen_sure _ (then_sure same (ends_sure same) (then_sure same (key_sure same) (wide_sure same)))
message_sure kind.Harbinger = seen_sure _ (then_sure same (ends_sure same) (then_sure same (wide_sure same) head_sure))
message_sure kind.Want = seen_sure _ (then_sure same (ends_sure same) wanted_sure)
message_sure kind.Delta = seen_sure _ (then_sure same (ends_sure same) delta_sure)
message_sure kind.Piece = seen_sure _ (then_sure same (ends_sure same) piece_sure)
message_sure kind.Later = seen_sure _ about_sure
message_sure kind.Fetch = seen_sure _ replica_sure
message_sure kind.Grant = seen_sure _ (then_sure same (ends_sure same) granted_sure)
message_sure kind.NoGrant = seen_sure _ replica_sure
message_sure kind.Full = seen_sure _ (ends_sure same)
message_sure kind.Seek = seen_sure _ replica_sure
message_sure (kind.Greet greeting) = seen_sure _ (ends_sure same)
message_sure kind.NoneHere = seen_sure _ (then_sure same (ask_sure same) (then_sure same (file_sure same) (file_sure same)))
message_sure kind.Gone = seen_sure _ replica_sure
message_sure kind.Bye = seen_sure _ (ends_sure same)
message_sure kind.ByeOk = seen_sure _ replica_sure
message_sure kind.Confirm = seen_sure _ listed_sure
message_sure kind.PlaceIs = seen_sure _ listed_sure
message_sure kind.Tell = seen_sure _ listed_sure
message_sure kind.TellOk = seen_sure _ (then_sure same (dir_sure same) (then_sure same (file_sure same) (stamp_sure same)))
message_sure kind.Leave = seen_sure _ about_sure
message_sure kind.LeaveOk = seen_sure _ about_sure
message_sure kind.Invite = seen_sure _ (ends_sure same)
message_sure kind.Walk = seen_sure _ (then_sure same (ends_sure same) (then_sure same (server_sure same) (then_sure same (wide_sure same) (then_sure same hops_sure (wide_sure same)))))

-- ---- kinds by their numbers

item_fault : {X : Type 0} (o : Option X) (place : ℕ) (e : PacketError) → or_bad place o ≡ Err e → (e ≡ BadTag place) ⊎ (e ≡ TooLong place)
item_fault {X = X} None place e k = inl (sym (err_is X (BadTag place) e k))
item_fault (Some x) place e k = absurd (no_error x e k)

item_steady : {X : Type 0} (o : Option X) (p q : ℕ) (b : X) → or_bad p o ≡ Ok b → or_bad q o ≡ Ok b
item_steady None p q b k = absurd (no_error b (BadTag p) (sym k))
item_steady (Some x) p q b k = k

item_check : {X : Type 0} (items : List X) → IsCheck (λ place n. or_bad place (numbered items n))
item_check items = record { fault = λ place n e k. item_fault (numbered items n) place e k; steady = λ p q n b k. item_steady (numbered items n) p q b k }

-- the first has the number 1
item_sure : {X : Type 0} (x : X) (items : List X) → IsSure SameBut (item_at (x ∷ items))
unfolding item_at
item_sure x items = check_sure same 1 (λ place n. or_bad place (numbered (x ∷ items) n)) (omega arith) byte_is (item_check (x ∷ items)) 1 x (omega arith) (λ place. refl)

-- ---- calls

target_sure : IsSure SameBut target_at
unfolding target_at
target_sure = seen_sure _ (text_sure same)

size_sure : IsSure SameBut size_at
unfolding size_at
size_sure = count_sure same 4 32768 (omega arith) (omega arith) narrow_is

call_sure : (k : CallKind) → IsSure SameBut (call_at k)
unfolding call_at
call_sure asks.Mkdir = seen_sure _ (text_sure same)
call_sure asks.Create = seen_sure _ (then_sure same (text_sure same) (policy_sure same))
call_sure asks.Write = seen_sure _ (then_sure same (text_sure same) (then_sure same (narrow_sure same) (block_sure same)))
call_sure asks.Cut = seen_sure _ (then_sure same (text_sure same) (narrow_sure same))
call_sure asks.Read = seen_sure _ (then_sure same (text_sure same) (then_sure same (narrow_sure same) size_sure))
call_sure asks.Fresh = seen_sure _ (text_sure same)
call_sure asks.Ls = seen_sure _ (then_sure same (text_sure same) (narrow_sure same))
call_sure asks.Stat = seen_sure _ target_sure
call_sure asks.Rename = seen_sure _ (then_sure same (text_sure same) (text_sure same))
call_sure asks.Unlink = seen_sure _ (text_sure same)
call_sure asks.Rmdir = seen_sure _ (text_sure same)
call_sure asks.Forget = seen_sure _ (file_sure same)
call_sure asks.Demote = seen_sure _ target_sure
call_sure asks.Drop = seen_sure _ target_sure
call_sure asks.Giveup = seen_sure _ (then_sure same (wide_sure same) (narrow_sure same))
call_sure asks.Status = nothing_sure call.Status
call_sure asks.Stop = nothing_sure call.Stop

asked_sure : (k : RequestKind) → IsSure SameBut (asked_at k)
asked_sure (asked.Call k) = seen_sure _ (call_sure k)
asked_sure asked.Tick = nothing_sure request.Tick

pub request_sure : IsSure SameBut request_at
unfolding request_at
request_sure = bound_sure SameBut (item_at request_kinds) asked_at same (item_sure _ _) asked_sure

-- ---- replies

reason_sure : (k : RefusalKind) → IsSure SameBut (reason_at k)
unfolding reason_at
reason_sure why.BadPath = seen_sure _ (byte_sure same)
reason_sure why.ClockEnd = nothing_sure refusal.ClockEnd
reason_sure why.NotYet = seen_sure _ (file_sure same)
reason_sure why.NoName = seen_sure _ (byte_sure same)
reason_sure why.NotDir = seen_sure _ (byte_sure same)
reason_sure why.IsDir = nothing_sure refusal.IsDir
reason_sure why.Root = nothing_sure refusal.Root
reason_sure why.Exists = seen_sure _ (file_sure same)
reason_sure why.DirFull = nothing_sure refusal.DirFull
reason_sure why.NotEmpty = seen_sure _ (file_sure same)
reason_sure why.Loop = nothing_sure refusal.Loop
reason_sure why.TooLong = nothing_sure refusal.TooLong
reason_sure why.Behind = seen_sure _ (stamp_sure same)
reason_sure why.IsGold = nothing_sure refusal.IsGold
reason_sure why.LastGold = nothing_sure refusal.LastGold
reason_sure why.HasChild = seen_sure _ (file_sure same)
reason_sure why.Unsettled = seen_sure _ (then_sure same (item_sure _ _) (then_sure same (file_sure same) (narrow_sure same)))
reason_sure why.Held = nothing_sure refusal.Held
reason_sure why.WrongView = seen_sure _ (wide_sure same)
reason_sure why.ManyActors = nothing_sure refusal.ManyActors

refusal_sure : IsSure SameBut refusal_at
unfolding refusal_at
refusal_sure = bound_sure SameBut (item_at refusal_kinds) reason_at same (item_sure _ _) reason_sure

row_sure : IsSure SameBut row_at
unfolding row_at
row_sure = seen_sure _ (then_sure same (text_sure same) (file_sure same))

each_row_sure : (n : ℕ) (done : List Row) → IsSure SameBut (many any_row unchanged n tt done)
unfolding many
each_row_sure zero done = nothing_sure done
each_row_sure (suc n) done = bound_sure SameBut row_at (λ (x : Row). many any_row unchanged n tt (done ++ x ∷ [])) same row_sure (λ x. each_row_sure n (done ++ x ∷ []))

rows_sure : IsSure SameBut rows_at
unfolding rows_at
rows_sure = seen_sure _ (followed_sure same (count_sure same 1 100 (omega arith) (omega arith) byte_is) (λ n. each_row_sure n []))

stat_sure : IsSure SameBut stat_at
unfolding stat_at
stat_sure = seen_sure _ (then_sure same (file_sure same) (then_sure same (stamp_sure same) (then_sure same (dir_sure same) (then_sure same (name_sure same) (then_sure same (flag_sure same)
    (then_sure same (flag_sure same) (then_sure same (wide_sure same) (then_sure same (wide_sure same) (then_sure same (wide_sure same) (wide_sure same))))))))))

counts_sure : IsSure SameBut counts_at
unfolding counts_at
counts_sure = seen_sure _ (then_sure same (wide_sure same) (then_sure same (wide_sure same) (then_sure same (wide_sure same) (then_sure same (wide_sure same) (then_sure same (wide_sure same) (wide_sure same))))))

told_sure : (k : ReplyKind) → IsSure SameBut (reply_fields_at k)
unfolding reply_fields_at
told_sure told.Done = nothing_sure reply.Done
told_sure told.Made = seen_sure _ (file_sure same)
told_sure told.Wrote = seen_sure _ (stamp_sure same)
told_sure told.Bytes = seen_sure _ (block_sure same)
told_sure told.Names = seen_sure _ (then_sure same (narrow_sure same) rows_sure)
told_sure told.Stat = seen_sure _ stat_sure
told_sure told.Leaving = seen_sure _ (narrow_sure same)
told_sure told.Status = seen_sure _ counts_sure
told_sure told.Refused = seen_sure _ refusal_sure

reply_sure : IsSure SameBut reply_at
unfolding reply_at
reply_sure = bound_sure SameBut (item_at reply_kinds) reply_fields_at same (item_sure _ _) told_sure

-- ---- packets

byte_mark : (wanted : ℕ) → wanted < 256 → ((place : ℕ) → byte_of wanted place wanted ≡ Ok wanted) → IsSure SameBut (byte_at wanted)
byte_mark wanted small good = check_sure same 1 (byte_of wanted) (omega arith) byte_is (test_check (λ n. n == wanted)) wanted wanted (omega (arith, small)) good

mark_sure : IsSure SameBut mark_at
unfolding mark_at
mark_sure = seen_sure _ (then_sure same (byte_mark 80 (omega arith) (λ place. refl)) (then_sure same (byte_mark 71 (omega arith) (λ place. refl)) (byte_mark 1 (omega arith) (λ place. refl))))

content_sure : (k : PacketKind) → IsSure SameBut (content_at k)
unfolding content_at
content_sure (packet.Message k) = seen_sure _ (message_sure k)
content_sure packet.Call = seen_sure _ (then_sure same (wide_sure same) request_sure)
content_sure packet.Reply = seen_sure _ (then_sure same (wide_sure same) reply_sure)

behind_sure : (k : PacketKind) → IsSure SameBut (behind_kind_at k)
unfolding behind_kind_at
behind_sure k = then_sure same (narrow_sure same) (then_sure same (wide_sure same) (content_sure k))

pub datagram_sure : IsSure SameBut datagram_at
unfolding datagram_at
datagram_sure = seen_sure _ (then_sure same mark_sure (followed_sure same (item_sure _ _) behind_sure))
