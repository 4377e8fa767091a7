-- How long the packets of replies are.
use Rattle.std.proofs.Common.{ℕ, ◌*◌, ◌≤◌, List, [], ◌∷◌, length, arith, le_trans}
use Rattle.std.specs.List.{AllByRecursion, flat_map}
use Rattle.std.proofs.lemmas.List.{length-append}
use Rattle.pg_call.specs.declared.refusal.Refusal.{Refusal}
use Rattle.pg_call.specs.declared.refusal.Refusal.TheVariants as refusal
use Rattle.pg_call.specs.declared.reply.Counts.{Counts}
use Rattle.pg_call.specs.declared.reply.Reply.{Reply}
use Rattle.pg_call.specs.declared.reply.Reply.TheVariants as reply
use Rattle.pg_call.specs.declared.reply.Stat.{Stat}
use Rattle.pg_packet_write.proofs.Lengths.{name_short}
use Rattle.pg_packet_write.specs.Calls.{FitRows, FitsReply, counts_bytes, refusal_bytes, reply_bytes, row_bytes, stat_bytes, text_bytes, unsettled_number}
use Rattle.pg_packet_write.specs.Datagrams.{content_bytes}
use Rattle.pg_packet_write.specs.declared.datagram.Content.TheVariants as content
use Rattle.pg_packet_write.specs.Fields.{listed}
use Rattle.pg_path.specs.declared.row.Row.{Row}
use Rattle.pg_words.specs.PlaceWords.{IsPlace}
use Rattle.law_lengths.specs.Packets.{HasReplyWidths, IsPacket}
use Rattle.law_lengths.proofs.Fields.{block, both, file_length, number, stamp_length, truth}
use Rattle.law_lengths.proofs.Messages.{packet_length}

-- ---- what is asked of a reply

-- a shown name has at most 255 bytes and, behind a tilde, an id
abbrev pub IsShortRow : Row → Type 0
IsShortRow row = length row.name ≤ 298

abbrev pub HasShortNames : Reply → Type 0
HasShortNames (reply.Names total rows) = AllByRecursion IsShortRow rows
HasShortNames _ = Unit {0}

pub record SuitsReply (r : Reply) : Type 0 where
  pub spelled : FitsReply r
  pub names : HasShortNames r

-- wherever numbers are in their ranges
abbrev pub IsTold : Reply → Type 0
IsTold r = HasReplyWidths r → SuitsReply r

-- ---- what each kind says

row_length : (row : Row) → IsShortRow row → length (row_bytes row) ≤ 313
unfolding row_bytes text_bytes
row_length row h = both 300 13 _ _ (block 2 298 row.name h) (file_length row.child)

each_row : (rows : List Row) → AllByRecursion IsShortRow rows → length (flat_map row_bytes rows) ≤ 313 * length rows
each_row [] h = omega arith
each_row (row ∷ rows) h =
    omega (arith, length-append (row_bytes row) (flat_map row_bytes rows), row_length row h.0, each_row rows h.1)

rows_length : (rows : List Row) → FitRows rows → AllByRecursion IsShortRow rows → length (listed 1 row_bytes rows) ≤ 31301
unfolding listed
rows_length rows fits short =
    let few = fits.few in
    both 1 31300 _ _ (number 1 (length rows)) (omega (arith, few, each_row rows short))

stat_length : (s : Stat) → IsPlace s.place → length (stat_bytes s) ≤ 328
unfolding stat_bytes
stat_length s h =
    let name = name_short s.place.name h.name in
    both 13 315 _ _ (file_length s.id) (both 12 303 _ _ (stamp_length s.place.stamp) (both 13 290 _ _ (file_length s.place.parent)
    (both 256 34 _ _ (block 1 255 s.place.name (omega (arith, name))) (both 1 33 _ _ (truth s.place.live) (both 1 32 _ _ (truth s.gold)
    (both 8 24 _ _ (number 8 s.golds) (both 8 16 _ _ (number 8 s.heads) (both 8 8 _ _ (number 8 s.length) (number 8 s.edges)))))))))

counts_length : (c : Counts) → length (counts_bytes c) ≤ 48
unfolding counts_bytes
counts_length c =
    both 8 40 _ _ (number 8 c.view) (both 8 32 _ _ (number 8 c.last) (both 8 24 _ _ (number 8 c.replicas)
    (both 8 16 _ _ (number 8 c.intents) (both 8 8 _ _ (number 8 c.cells) (number 8 c.held)))))

refusal_length : (r : Refusal) → length (refusal_bytes r) ≤ 19
unfolding refusal_bytes
refusal_length (refusal.BadPath component) = le_trans (both 1 1 _ _ (number 1 1) (number 1 component)) (omega arith)
refusal_length refusal.ClockEnd = le_trans (number 1 2) (omega arith)
refusal_length (refusal.NotYet id) = le_trans (both 1 13 _ _ (number 1 3) (file_length id)) (omega arith)
refusal_length (refusal.NoName component) = le_trans (both 1 1 _ _ (number 1 4) (number 1 component)) (omega arith)
refusal_length (refusal.NotDir component) = le_trans (both 1 1 _ _ (number 1 5) (number 1 component)) (omega arith)
refusal_length refusal.IsDir = le_trans (number 1 6) (omega arith)
refusal_length refusal.Root = le_trans (number 1 7) (omega arith)
refusal_length (refusal.Exists id) = le_trans (both 1 13 _ _ (number 1 8) (file_length id)) (omega arith)
refusal_length refusal.DirFull = le_trans (number 1 9) (omega arith)
refusal_length (refusal.NotEmpty id) = le_trans (both 1 13 _ _ (number 1 10) (file_length id)) (omega arith)
refusal_length refusal.Loop = le_trans (number 1 11) (omega arith)
refusal_length refusal.TooLong = le_trans (number 1 12) (omega arith)
refusal_length (refusal.Behind stamp) = le_trans (both 1 12 _ _ (number 1 13) (stamp_length stamp)) (omega arith)
refusal_length refusal.IsGold = le_trans (number 1 14) (omega arith)
refusal_length refusal.LastGold = le_trans (number 1 15) (omega arith)
refusal_length (refusal.HasChild id) = le_trans (both 1 13 _ _ (number 1 16) (file_length id)) (omega arith)
refusal_length (refusal.Unsettled what id peer) =
    both 1 18 _ _ (number 1 17) (both 1 17 _ _ (number 1 (unsettled_number what)) (both 13 4 _ _ (file_length id) (number 4 peer)))
refusal_length refusal.Held = le_trans (number 1 18) (omega arith)
refusal_length (refusal.WrongView view) = le_trans (both 1 8 _ _ (number 1 19) (number 8 view)) (omega arith)
refusal_length refusal.ManyActors = le_trans (number 1 20) (omega arith)

-- ---- replies

-- of all replies none is longer than one with the most bytes of a file
reply_length : (r : Reply) → FitsReply r → HasShortNames r → length (reply_bytes r) ≤ 32773
unfolding reply_bytes
reply_length reply.Done h k = le_trans (number 1 1) (omega arith)
reply_length (reply.Made id) h k = le_trans (both 1 13 _ _ (number 1 2) (file_length id)) (omega arith)
reply_length (reply.Wrote stamp) h k = le_trans (both 1 12 _ _ (number 1 3) (stamp_length stamp)) (omega arith)
reply_length (reply.Bytes bytes) h k = both 1 32772 _ _ (number 1 4) (block 4 32768 bytes h)
reply_length (reply.Names total rows) h k =
    le_trans (both 1 31305 _ _ (number 1 5) (both 4 31301 _ _ (number 4 total) (rows_length rows h k))) (omega arith)
reply_length (reply.Stat stat) h k = le_trans (both 1 328 _ _ (number 1 6) (stat_length stat h)) (omega arith)
reply_length (reply.Leaving server) h k = le_trans (both 1 4 _ _ (number 1 7) (number 4 server)) (omega arith)
reply_length (reply.Status counts) h k = le_trans (both 1 48 _ _ (number 1 8) (counts_length counts)) (omega arith)
reply_length (reply.Refused why) h k = le_trans (both 1 19 _ _ (number 1 9) (refusal_length why)) (omega arith)

answered : (n : ℕ) (r : Reply) → SuitsReply r → length (content_bytes (content.Reply n r)) ≤ 32781
unfolding content_bytes
answered n r h = both 8 32773 _ _ (number 8 n) (reply_length r h.spelled h.names)

-- whatever the number of the call
pub reply_packet : (n : ℕ) (r : Reply) → SuitsReply r → IsPacket (content.Reply n r)
reply_packet n r h = record {
  spelled = h.spelled;
  short = λ from view.
      le_trans (packet_length (record { from = from; view = view; content = content.Reply n r }) 32781 (answered n r h)) (omega arith);
}
