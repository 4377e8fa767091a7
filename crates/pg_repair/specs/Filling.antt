-- A filling replica becomes full.
use Rattle.std.specs.Prelude.{ℕ, Bool, ◌&&◌, not, nat_lt, count_by, if◌then◌else◌, List, Option, None, Some}
use Rattle.pg_base.specs.declared.id.FileId.{FileId}
use Rattle.pg_register.specs.Flag.{is_live}
use Rattle.pg_pieces.specs.pg_msg.declared.message.Ends.{Ends}
use Rattle.pg_pieces.specs.pg_msg.declared.work.Work.{Work}
use Rattle.pg_pieces.specs.pg_names.declared.attributes.Attributes.{Attributes}
use Rattle.pg_pieces.specs.pg_names.Names.{own_at}
use Rattle.pg_pieces.specs.pg_names.Names as names
use Rattle.pg_pieces.specs.pg_store.declared.store.Store.{Store}
use Rattle.pg_pieces.specs.pg_store.Seen.{removed_of}
use Rattle.pg_pieces.specs.pg_store.Store.{is_full, with_names}
use Rattle.pg_pieces.specs.declared.accepting.EdgeUse.TheVariants as manner
use Rattle.pg_pieces.specs.Accepting.{accept, is_accepted}
use Rattle.pg_pieces.specs.Done.{Done, idle}
use Rattle.pg_pieces.specs.Golds.{is_gold}
use Rattle.pg_pieces.specs.Making.{raise_flag}

abbrev pub golds_of : List ℕ → Option Attributes → ℕ
golds_of removed None = 0
golds_of removed (Some own) = count_by (is_live removed) own.flags

-- how many live golds a thing sees
abbrev pub live_golds : Store → FileId → ℕ
live_golds store file = golds_of (removed_of store) (own_at store.names file)

-- a thing that sees fewer live golds than this becomes one when it is full
abbrev pub few_golds : ℕ
few_golds = 3

abbrev pub raise_if_few : Store → FileId → Work → Done
raise_if_few store file work =
    if nat_lt (live_golds store file) few_golds then raise_flag store file work
    else idle store work

-- the thing is full, and the server raises its flag where it sees few golds
abbrev pub fill : Store → FileId → Work → Done
fill store file work =
    raise_if_few (with_names store (names.fill store.names file)) file work

-- the sender has nothing that a replica here has not: where the message is accepted, a filling one
-- is full
abbrev pub full : Store → Ends → Work → Done
full store ends work =
    if is_accepted store work.from manner.Answers ends && not (is_full store ends.file)
    then fill store ends.file work
    else idle store work

-- the replica of a thing is full, and not gold
abbrev pub is_bronze : Store → FileId → Bool
is_bronze store file = is_full store file && not (is_gold store file)

-- few golds are seen: where the message is accepted, a full bronze replica that sees few of them
-- too raises its flag
abbrev pub invited : Ends → Done → Done
invited ends done = if is_bronze done.store ends.file
    then raise_if_few done.store ends.file done.work
    else done

abbrev pub invite : Store → Ends → Work → Done
invite store ends work = if is_accepted store work.from manner.Needs ends
    then invited ends (accept store ends manner.Needs work)
    else accept store ends manner.Needs work
