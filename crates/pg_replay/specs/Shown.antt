-- What a server shows of a file or directory that it holds.
use Rattle.std.specs.Prelude.{ℕ, ◌≡◌, ◌-◌, ◌^◌, min, List, [], ◌∷◌, length, map, take, Option, None, Some}
use Rattle.pg_base.specs.declared.id.FileId.{FileId}
use Rattle.pg_base.specs.declared.id.Kind.{Kind}
use Rattle.pg_base.specs.declared.id.Kind.TheVariants.{Dir, File}
use Rattle.pg_base.specs.Version.{stamp_of}
use Rattle.pg_content.specs.Content.{ContentValue, shown_bytes}
use Rattle.pg_entries.specs.Entry.{count_listed}
use Rattle.pg_register.specs.Flag.{is_raised}
use Rattle.pg_names.specs.Names.{InodeValue, known}
use Rattle.pg_store.specs.declared.store.Store.{Store}
use Rattle.pg_store.specs.Store.{content_of, replica_of}
use Rattle.pg_trace.specs.declared.journal_line.JournalLine.{JournalLine}
use Rattle.pg_trace.specs.declared.journal_line.JournalLine.TheVariants as printed
use Rattle.pg_trace.specs.declared.replica.ShownContent.{ShownContent}
use Rattle.pg_trace.specs.declared.replica.ShownContent.TheVariants as contents
use Rattle.pg_trace.specs.declared.replica.ShownReplica.{ShownReplica}
use Rattle.pg_trace.specs.Suited.{SuitsPlace}

-- of a file the stamps of the heads, how many bytes are shown, or the greatest number of 64 bits
-- where they are more, and the first 16 of them
abbrev pub contents_of : ContentValue → ShownContent
contents_of c =
    contents.File (map stamp_of c.heads) (min (length (shown_bytes c)) (2 ^ 64 - 1))
    (take 16 (shown_bytes c))

-- the same where there is no head
abbrev pub no_content : ShownContent
no_content = contents.File [] 0 []

abbrev pub file_contents : Store → FileId → ShownContent
file_contents store id = contents_of (content_of store id)

-- of a directory how many names it shows
abbrev pub contents_at : Store → FileId → Kind → InodeValue → ShownContent
contents_at store id Dir x = contents.Dir (count_listed x.entries id)
contents_at store id File x = file_contents store id

-- a replica that a server holds is gold where its own flag is raised; and it is full or filling
abbrev pub shown_of : ℕ → Store → FileId → InodeValue → ShownReplica
shown_of server store id x = record {
  server = server;
  id = id;
  gold = is_raised x.own.flags server (replica_of store id).birth;
  full = x.full;
  place = x.own.place;
  contents = contents_at store id id.kind x;
}

abbrev pub lines_of : ℕ → Store → FileId → Option InodeValue → List JournalLine
lines_of server store id None = []
lines_of server store id (Some x) = printed.Replica (shown_of server store id x) ∷ []

-- what a server shows of what it holds: one line, or none
abbrev pub held_lines : ℕ → Store → FileId → List JournalLine
held_lines server store id = lines_of server store id (known store.names id)

-- the place that a server holds of a thing suits
abbrev pub HoldsSuited : Store → FileId → Type 0
HoldsSuited store id = (x : InodeValue) → known store.names id ≡ Some x → SuitsPlace id x.own.place
