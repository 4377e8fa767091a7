-- What each reply says.
use Rattle.std.specs.Prelude.{◌<◌, ◌^◌, List, [], ◌∷◌, Ok}
use Rattle.pg_base.specs.Id.{Fits}
use Rattle.pg_call.specs.declared.reply.Counts.{Counts}
use Rattle.pg_call.specs.declared.reply.Reply.{Reply}
use Rattle.pg_call.specs.declared.reply.Reply.TheVariants as reply
use Rattle.pg_call.specs.declared.reply.Stat.{Stat}
use Rattle.pg_codec.specs.Laws.{HasStampWidth, HasWidth}
use Rattle.pg_codec.specs.Reading.{Field, ◌>>=◌, followed_by, seen_as, file_at, flag_at, number_at, stamp_at}
use Rattle.pg_path.specs.declared.row.Row.{Row}
use Rattle.pg_packet_fields.specs.Faults.{of_packet}
use Rattle.pg_packet_fields.specs.Lists.{AreListed, list_at}
use Rattle.pg_packet_fields.specs.Names.{name_at}
use Rattle.pg_packet_fields.specs.Patches.{IsBlock, block_at}
use Rattle.pg_packet_fields.specs.Places.{IsWholePlace}
use Rattle.pg_packet_fields.specs.Reading.{dir_at, text_at}
use Rattle.pg_packet_fields.specs.Values.{IsShortText}
use Rattle.pg_packet_fields.specs.declared.error.PacketError.{PacketError}
use Rattle.pg_packet_read.specs.Numbered.{item_at}
use Rattle.pg_packet_read.specs.Refusals.{IsWholeRefusal, refusal_at}
use Rattle.pg_call.specs.declared.reply.ReplyKind.{ReplyKind}
use Rattle.pg_call.specs.declared.reply.ReplyKind.TheVariants as kind

-- the kinds of replies by number
abbrev pub reply_kinds : List ReplyKind
reply_kinds = kind.Done ∷ kind.Made ∷ kind.Wrote ∷ kind.Bytes ∷ kind.Names ∷ kind.Stat
    ∷ kind.Leaving ∷ kind.Status ∷ kind.Refused ∷ []

-- the name and the child
unfoldable pub row_at : Field PacketError Row
row_at from = seen_as (λ x. record { name = x.0; child = x.1 })
    (followed_by text_at (λ name. of_packet file_at)) from

-- rows do not depend on those before them
abbrev pub any_row : Unit {0} → Field PacketError Row
any_row before from = row_at from

abbrev pub unchanged : {X : Type 0} → Unit {0} → X → Unit {0}
unchanged before x = before

-- a count in one byte, at most 100, and so many rows
unfoldable pub rows_at : Field PacketError (List Row)
rows_at from = list_at 1 100 any_row unchanged tt from

-- id, stamp, directory, name, whether it is live, whether it is gold, golds, heads, length, edges
unfoldable pub stat_at : Field PacketError Stat
stat_at from = seen_as (λ x. record {
  id = x.0;
  place = record {
    stamp = x.1.0;
    parent = x.1.1.0;
    name = x.1.1.1.0;
    live = x.1.1.1.1.0;
  };
  gold = x.1.1.1.1.1.0;
  golds = x.1.1.1.1.1.1.0;
  heads = x.1.1.1.1.1.1.1.0;
  length = x.1.1.1.1.1.1.1.1.0;
  edges = x.1.1.1.1.1.1.1.1.1;
})
    (followed_by (of_packet file_at) (λ id. followed_by (of_packet stamp_at)
    (λ stamp. followed_by dir_at (λ parent. followed_by name_at
    (λ name. followed_by (of_packet flag_at) (λ live. followed_by (of_packet flag_at)
    (λ gold. followed_by (of_packet (number_at 8)) (λ golds. followed_by (of_packet (number_at 8))
    (λ heads. followed_by (of_packet (number_at 8)) (λ long. of_packet (number_at 8))))))))))) from

-- view, last, replicas, intentions, cells, places held back
unfoldable pub counts_at : Field PacketError Counts
counts_at from = seen_as (λ x. record {
  view = x.0;
  last = x.1.0;
  replicas = x.1.1.0;
  intents = x.1.1.1.0;
  cells = x.1.1.1.1.0;
  held = x.1.1.1.1.1;
})
    (followed_by (of_packet (number_at 8)) (λ view. followed_by (of_packet (number_at 8))
    (λ last. followed_by (of_packet (number_at 8))
    (λ replicas. followed_by (of_packet (number_at 8))
    (λ intents. followed_by (of_packet (number_at 8))
    (λ cells. of_packet (number_at 8))))))) from

-- the fields of the reply in their order
unfoldable pub reply_fields_at : ReplyKind → Field PacketError Reply
reply_fields_at kind.Done from = Ok (reply.Done, from)
reply_fields_at kind.Made from = seen_as (λ x. reply.Made x) (of_packet file_at) from
reply_fields_at kind.Wrote from = seen_as (λ x. reply.Wrote x) (of_packet stamp_at) from
reply_fields_at kind.Bytes from = seen_as (λ x. reply.Bytes x) block_at from
reply_fields_at kind.Names from = seen_as (λ x. reply.Names x.0 x.1)
    (followed_by (of_packet (number_at 4)) (λ total. rows_at)) from
reply_fields_at kind.Stat from = seen_as (λ x. reply.Stat x) stat_at from
reply_fields_at kind.Leaving from = seen_as (λ x. reply.Leaving x) (of_packet (number_at 4)) from
reply_fields_at kind.Status from = seen_as (λ x. reply.Status x) counts_at from
reply_fields_at kind.Refused from = seen_as (λ x. reply.Refused x) refusal_at from

-- the number of the reply, and its fields
unfoldable pub reply_at : Field PacketError Reply
reply_at from = item_at reply_kinds from >>= λ kind. reply_fields_at kind.0 kind.1

-- ---- what can be read

pub record IsWholeRow (row : Row) : Type 0 where
  pub name : IsShortText row.name
  pub child : Fits row.child

abbrev pub AreRows : List Row → Type 0
AreRows rows = AreListed 100 (λ before. IsWholeRow) unchanged tt rows

pub record IsWholeStat (s : Stat) : Type 0 where
  pub id : Fits s.id
  pub place : IsWholePlace s.place
  pub golds : s.golds < 2 ^ 64
  pub heads : s.heads < 2 ^ 64
  pub long : s.length < 2 ^ 64
  pub edges : s.edges < 2 ^ 64

pub record AreCounts (c : Counts) : Type 0 where
  pub view : c.view < 2 ^ 64
  pub last : c.last < 2 ^ 64
  pub replicas : c.replicas < 2 ^ 64
  pub intents : c.intents < 2 ^ 64
  pub cells : c.cells < 2 ^ 64
  pub held : c.held < 2 ^ 64

abbrev pub IsWholeReply : Reply → Type 0
IsWholeReply reply.Done = Unit {0}
IsWholeReply (reply.Made id) = Fits id
IsWholeReply (reply.Wrote stamp) = HasStampWidth stamp
IsWholeReply (reply.Bytes bytes) = IsBlock bytes
IsWholeReply (reply.Names total rows) = HasWidth 4 total × AreRows rows
IsWholeReply (reply.Stat stat) = IsWholeStat stat
IsWholeReply (reply.Leaving server) = HasWidth 4 server
IsWholeReply (reply.Status counts) = AreCounts counts
IsWholeReply (reply.Refused why) = IsWholeRefusal why
