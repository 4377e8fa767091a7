-- Calls that look: where they go on they change nothing, and the client is told this.
use Rattle.std.specs.Prelude.{ℕ, ◌-◌, ◌^◌, min, if◌then◌else◌, List, [], length, take, drop, count_by, Option, None, Some}
use Rattle.pg_base.specs.declared.id.FileId.{FileId}
use Rattle.pg_base.specs.declared.stamp.Stamp.{Stamp}
use Rattle.pg_content.specs.Content.{shown_bytes}
use Rattle.pg_entries.specs.Shown.{listing_of}
use Rattle.pg_path.specs.declared.row.Row.{Row}
use Rattle.pg_register.specs.Flag.{is_live, is_raised}
use Rattle.pg_cells.specs.pg_names.declared.attributes.Attributes.{Attributes}
use Rattle.pg_cells.specs.pg_names.Names.{InodeValue, is_dir, known, own_or_blank}
use Rattle.pg_cells.specs.pg_house.Holding.{held_back}
use Rattle.pg_cells.specs.pg_msg.declared.work.Work.{Work}
use Rattle.pg_announced.specs.Announced.{first_of}
use Rattle.pg_cells.specs.pg_call.declared.call.Target.{Target}
use Rattle.pg_cells.specs.pg_call.declared.refusal.Refusal.TheVariants as refusal
use Rattle.pg_cells.specs.pg_call.declared.reply.Reply.{Reply}
use Rattle.pg_cells.specs.pg_call.declared.reply.Reply.TheVariants as reply
use Rattle.pg_cells.specs.pg_call.declared.reply.Stat.{Stat}
use Rattle.pg_cells.specs.pg_call.declared.reply.Counts.{Counts}
use Rattle.pg_cells.specs.pg_store.declared.store.Store.{Store}
use Rattle.pg_cells.specs.pg_store.Births.{birth_of}
use Rattle.pg_cells.specs.pg_store.Seen.{removed_of, server_of, view_of}
use Rattle.pg_cells.specs.pg_store.Store.{content_of, replica_of}
use Rattle.pg_cells.specs.Counts.{key_count}
use Rattle.pg_checks.specs.Answer.{Answer, replied}
use Rattle.pg_checks.specs.Checks.{dir_at, file_at, in_time, target_at}

-- ---- names

-- the most names that one reply has
abbrev pub most_names : ℕ
most_names = 100

abbrev pub listing : FileId → Option InodeValue → List Row
listing dir None = []
listing dir (Some x) = listing_of x.entries dir

abbrev pub rows_from : List Row → ℕ → List Row
rows_from rows from = take most_names (drop from rows)

-- so many names in all, or the most that a reply can say, and those from a position on
abbrev pub page : List Row → ℕ → Reply
page rows from = reply.Names (min (length rows) (2 ^ 32 - 1)) (rows_from rows from)

abbrev pub ls : Store → List ℕ → ℕ → Work → Answer
ls store text from work =
    replied store work (dir_at store text)
    (λ dir. page (listing dir (known store.names dir)) from)

-- ---- one file or directory

-- the least of the versions that were announced and are not here, if there is one
abbrev pub freshness : Option Stamp → Reply
freshness None = reply.Done
freshness (Some stamp) = reply.Refused (refusal.Behind stamp)

abbrev pub fresh : Store → List ℕ → Work → Answer
fresh store text work = replied store work (file_at store text)
    (λ file. freshness (first_of store.announced file))

-- the greatest number that a reply has
abbrev pub at_most : ℕ → ℕ
at_most n = min n (2 ^ 64 - 1)

abbrev pub head_count : Store → FileId → ℕ
head_count store file = if is_dir file then 0 else length (content_of store file).heads

abbrev pub shown_length : Store → FileId → ℕ
shown_length store file =
    if is_dir file then 0 else at_most (length (shown_bytes (content_of store file)))

abbrev pub stat_with : Store → FileId → Attributes → Stat
stat_with store file own = record {
  id = file;
  place = own.place;
  gold = is_raised own.flags (server_of store) (birth_of store file);
  golds = count_by (is_live (removed_of store)) own.flags;
  heads = head_count store file;
  length = shown_length store file;
  edges = length (replica_of store file).edges;
}

abbrev pub stat_of : Store → FileId → Stat
stat_of store file = stat_with store file (own_or_blank store.names file)

abbrev pub stat : Store → Target → Work → Answer
stat store target work =
    replied store work (target_at store target) (λ file. reply.Stat (stat_of store file))

-- ---- the server

-- what it holds and waits for
abbrev pub counts : Store → Counts
counts store = record {
  view = view_of store;
  last = store.names.last;
  replicas = length store.names.held;
  intents = length store.intents;
  cells = at_most (key_count store);
  held = length (held_back store.names);
}

abbrev pub status : Store → Work → Answer
status store work =
    replied store work (in_time store (tt {0})) (λ found. reply.Status (counts store))

abbrev pub stop : Store → Work → Answer
stop store work = replied store work (in_time store (tt {0})) (λ found. reply.Done)
