-- Each part of a state tells where it fails.
use Rattle.std.proofs.Common.{ℕ, List, [], ◌∷◌, Option, None, arith}
use Rattle.pg_base.specs.declared.id.FileId.{FileId}
use Rattle.pg_announced.specs.declared.announced.NoteKey.{NoteKey}
use Rattle.pg_state.specs.Spelling.{mark}
use Rattle.pg_state_fields.specs.Orders.{unchanged}
use Rattle.pg_state_read.specs.Later.{note_at, note_file_at, note_head_at, note_stamp_at, notes_at, source_at, to_noted, to_wished, wish_at, wishes_at}
use Rattle.pg_state_read.specs.Whole.{any_server, byte_at, counters_at, marked_at, parts_at, removed_at, servers_at, tag_at, these_at, waiting_at}
use Rattle.law_packets.proofs.Opened.{same}
use Rattle.law_packets.proofs.Plain.{server_sure}
use Rattle.law_packets.proofs.Sure.{alone_told}
use Rattle.law_states.proofs.Told.{Anywhere, Told, counted_list, file_wants, followed, number, seen, stamp_wants, sure, tested, tested_number, and_then}
use Rattle.law_states.proofs.Fields.{all_held, bytes, file, head, next_file, stamp, target}
use Rattle.law_states.proofs.IntentFields.{intents}

-- ---- wishes and announced versions

wish : (last : Option FileId) → Told (wish_at last)
unfolding wish_at
wish last = seen _ (and_then (next_file last) (and_then (number 8) target))

wishes : Told wishes_at
unfolding wishes_at
wishes = counted_list 4 wish_at to_wished None wish

note_head : (last : Option NoteKey) (f : FileId) → Told (note_head_at last f)
unfolding note_head_at note_stamp_at
note_head last f = head (tested stamp_wants stamp _) (number 4)

source : Told source_at
unfolding source_at
source = and_then target (and_then (number 8) (seen _ (followed (number 4) bytes)))

note : (last : Option NoteKey) → Told (note_at last)
unfolding note_at note_file_at
note last = seen _ (followed (tested file_wants file _) (λ f. and_then (note_head last f) source))

notes : Told notes_at
unfolding notes_at
notes = counted_list 4 note_at to_noted None note

-- ---- the whole

these : (front : List ℕ) → Told (these_at front)
unfolding these_at byte_at
these [] = alone_told Anywhere tt
these (byte ∷ front) = seen _ (and_then (tested_number 1 (omega arith) _) (these front))

servers : Told servers_at
unfolding servers_at removed_at
servers = seen _ (and_then (sure (server_sure same)) (and_then (sure (server_sure same)) (counted_list 1 any_server unchanged tt (λ state. sure (server_sure same)))))

counters : Told counters_at
unfolding counters_at tag_at
counters = seen _ (and_then (number 8) (and_then (number 8) (and_then (number 8) (tested_number 8 (omega arith) _))))

waiting : Told waiting_at
unfolding waiting_at
waiting = seen _ (and_then intents (and_then wishes notes))

parts : Told parts_at
unfolding parts_at
parts = seen _ (and_then servers (and_then counters (and_then all_held waiting)))

pub marked : Told marked_at
unfolding marked_at
marked = seen _ (and_then (these mark) parts)
