-- A replica that seeks a gold one is met.
use Rattle.std.specs.Prelude.{ℕ, if◌then◌else◌}
use Rattle.pg_base.specs.declared.id.FileId.{FileId}
use Rattle.pg_pieces.specs.pg_msg.declared.message.Ask.TheVariants as ask
use Rattle.pg_pieces.specs.pg_msg.declared.message.Ends.{Ends}
use Rattle.pg_pieces.specs.pg_msg.declared.message.Message.TheVariants as message
use Rattle.pg_pieces.specs.pg_msg.declared.summary.Greeting.TheVariants as greeting
use Rattle.pg_pieces.specs.pg_msg.declared.work.Work.{Work}
use Rattle.pg_pieces.specs.pg_store.declared.store.Store.{Store}
use Rattle.pg_pieces.specs.pg_store.Links.{knows_later}
use Rattle.pg_pieces.specs.pg_store.Store.{is_held}
use Rattle.pg_pieces.specs.declared.accepting.EdgeUse.TheVariants as manner
use Rattle.pg_pieces.specs.Accepting.{accept, ends_to, link_peer}
use Rattle.pg_pieces.specs.Done.{Done, idle}
use Rattle.pg_pieces.specs.Posting.{reply}

abbrev pub answered_seek : FileId → ℕ → Done → Done
answered_seek file birth done =
    idle done.store
    (reply done.store (message.Greet (ends_to done.store file birth) greeting.Here) done.work)

-- a replica, gold or not, full or filling, links who seeks, and answers; but for a birth that is
-- not the sender's latest. Who has none says so
abbrev pub seek : Store → FileId → ℕ → Work → Done
seek store file birth work =
    if is_held store file
    then (if knows_later store file work.from birth then idle store work
    else answered_seek file birth (link_peer store file work.from birth work))
    else idle store (reply store (message.NoneHere ask.Seek file file) work)

-- whoever is here, or was met by a walk, is linked
abbrev pub here : Store → Ends → Work → Done
here store ends work = accept store ends manner.Makes work
