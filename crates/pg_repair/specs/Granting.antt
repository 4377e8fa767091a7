-- Answers to who asked for a replica, or spoke to one that is not there.
use Rattle.std.specs.Prelude.{ℕ, Bool, ◌==◌, ◌&&◌, false, if◌then◌else◌, Option, None, Some}
use Rattle.pg_base.specs.declared.id.FileId.{FileId}
use Rattle.pg_pieces.specs.pg_intent.declared.intent.Intent.{Intent}
use Rattle.pg_pieces.specs.pg_intent.declared.intent.Intent.TheVariants as intent
use Rattle.pg_pieces.specs.pg_intent.declared.key.IntentKey.TheVariants as intent_key
use Rattle.pg_pieces.specs.pg_intent.Intents.{aimed}
use Rattle.pg_pieces.specs.pg_msg.declared.message.Ends.{Ends}
use Rattle.pg_pieces.specs.pg_msg.declared.message.Granted.{Granted}
use Rattle.pg_pieces.specs.pg_msg.declared.work.Work.{Work}
use Rattle.pg_pieces.specs.pg_names.declared.attributes.Attributes.{Attributes}
use Rattle.pg_pieces.specs.pg_store.declared.store.Store.{Store}
use Rattle.pg_pieces.specs.pg_store.declared.wishes.Wish.{Wish}
use Rattle.pg_pieces.specs.pg_store.Beginning.{begin, with_intents}
use Rattle.pg_pieces.specs.pg_store.Births.{fill_at, is_pending, wish_at, with_wishes}
use Rattle.pg_pieces.specs.pg_store.Links.{unlink}
use Rattle.pg_pieces.specs.pg_store.Servers.{next_target}
use Rattle.pg_pieces.specs.pg_store.Wishes.{aim_wish}
use Rattle.pg_pieces.specs.declared.accepting.EdgeUse.TheVariants as manner
use Rattle.pg_pieces.specs.Accepting.{accept, link_peer}
use Rattle.pg_pieces.specs.Done.{Done, idle}

-- the Fill of a thing asks this server from now on, if there is one
abbrev pub aim_fill : Store → FileId → ℕ → Store
aim_fill store file target =
    with_intents store (aimed store.intents (intent_key.Fill file) target)

-- ---- granted

abbrev pub granted_own : Granted → Attributes
granted_own g = record { place = g.place; flags = g.flags }

-- a replica begins, filling, with what it was granted
abbrev pub begun_by : Store → Ends → Granted → Store
begun_by store ends g = begin store ends.file ends.receiver g.policy (granted_own g) false

-- who granted it is asked for the rest
abbrev pub fill_from : FileId → Done → Done
fill_from file done = idle (aim_fill done.store file done.work.from) done.work

-- it links who granted it, and asks it for the rest
abbrev pub begin_granted : Store → Ends → Granted → Work → Done
begin_granted store ends g work = fill_from ends.file
    (link_peer (begun_by store ends g) ends.file work.from ends.sender work)

-- where the birth is pending the replica begins; where it is here already it links the sender alone
abbrev pub grant : Store → Ends → Granted → Work → Done
grant store ends g work =
    if is_pending store ends.file ends.receiver then begin_granted store ends g work
    else accept store ends manner.Makes work

-- ---- not granted

-- the wish has this birth, and asks the sender
abbrev pub wish_asks : Option Wish → ℕ → ℕ → Bool
wish_asks None birth from = false
wish_asks (Some wish) birth from = wish.birth == birth && wish.target == from

-- the Fill has this birth, and asks the sender
abbrev pub fill_asks : Option Intent → ℕ → ℕ → Bool
fill_asks (Some (intent.Fill file b target)) birth from = b == birth && target == from
fill_asks _ birth from = false

-- the wish with this birth that asks the sender asks another server from now on, if there is one
abbrev pub turn_wish : Store → FileId → ℕ → ℕ → ℕ → Store
turn_wish store file birth from next =
    if wish_asks (wish_at store file) birth from
    then with_wishes store (aim_wish store.wishes file next)
    else store

-- and so the Fill
abbrev pub turn_fill : Store → FileId → ℕ → ℕ → ℕ → Store
turn_fill store file birth from next =
    if fill_asks (fill_at store file) birth from then aim_fill store file next else store

-- the next server is asked where the sender was
abbrev pub no_grant : Store → FileId → ℕ → Work → Done
no_grant store file birth work = idle
    (turn_fill
    (turn_wish store file birth work.from (next_target store work.from))
    file birth work.from (next_target store work.from))
    work

-- ---- gone

-- the edge to the sender's replica of this birth goes, if there is one
abbrev pub gone : Store → FileId → ℕ → Work → Done
gone store file birth work = idle (unlink store file work.from birth) work
