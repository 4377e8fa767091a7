-- A Want comes.
use Rattle.std.specs.Prelude.{ℕ, Bool, ◌==◌, if◌then◌else◌, List, take, drop, Option, None, Some}
use Rattle.pg_base.specs.declared.stamp.Stamp.{Stamp}
use Rattle.pg_base.specs.Version.{VersionValue}
use Rattle.pg_patch.specs.Ranges.{RangesValue}
use Rattle.pg_content.specs.Content.{head_at}
use Rattle.pg_delta.specs.Whole.{delta_of}
use Rattle.pg_pieces.specs.pg_msg.declared.message.Ends.{Ends}
use Rattle.pg_pieces.specs.pg_msg.declared.message.Message.TheVariants as message
use Rattle.pg_pieces.specs.pg_msg.declared.message.Wanted.{Wanted}
use Rattle.pg_pieces.specs.pg_msg.declared.work.Work.{Work}
use Rattle.pg_pieces.specs.pg_msg.Ends.{back}
use Rattle.pg_pieces.specs.pg_names.Names.{is_dir}
use Rattle.pg_pieces.specs.pg_replica.declared.replica.Replica.{Replica}
use Rattle.pg_pieces.specs.pg_store.declared.store.Store.{Store}
use Rattle.pg_pieces.specs.pg_store.Store.{replica_of}
use Rattle.pg_pieces.specs.declared.accepting.EdgeUse.TheVariants as manner
use Rattle.pg_pieces.specs.Accepting.{accept, is_accepted}
use Rattle.pg_pieces.specs.Done.{Done, idle}
use Rattle.pg_pieces.specs.Posting.{reply}
use Rattle.pg_transfer.specs.Asking.{put_off}

-- the most bytes of a piece
abbrev pub most_in_piece : ℕ
most_in_piece = 32768

-- bytes of the body, from an offset on
abbrev pub given : Store → Ends → VersionValue → ℕ → Work → Work
given store ends v offset work = reply store (message.Piece (back ends) (record {
  head = v.head;
  offset = offset;
  bytes = take most_in_piece (drop offset v.body);
})) work

-- the body as a change of what these heads show, where there is one that serves
abbrev pub given_as : Option RangesValue → Store → Ends → VersionValue → List Stamp → Work → Work
given_as None store ends v heads work = given store ends v 0 work
given_as (Some ranges) store ends v heads work = reply store
    (message.Delta (back ends) (record { head = v.head; from = heads; ranges = ranges })) work

-- a version that is a head is given: from its first byte on as a delta where those that the replica
-- keeps lead there from the heads that are named. No other version is here
abbrev pub answered : Option VersionValue → Replica → Store → Ends → Wanted → Work → Work
answered None x store ends wanted work = put_off store ends wanted.stamp work
answered (Some v) x store ends wanted work =
    if wanted.offset == 0
    then given_as (delta_of x.kept wanted.heads v.head.stamp v.head.length) store ends v
    wanted.heads work
    else given store ends v wanted.offset work

-- where the message is accepted
abbrev pub answered_along : Bool → Ends → Wanted → Done → Done
answered_along accepted ends wanted done = if accepted then idle done.store
    (answered (head_at (replica_of done.store ends.file).content.heads wanted.stamp)
    (replica_of done.store ends.file) done.store ends wanted done.work)
    else done

abbrev pub want : Store → Ends → Wanted → Work → Done
want store ends wanted work =
    if is_dir ends.file then idle store work
    else answered_along (is_accepted store work.from manner.Needs ends) ends wanted
    (accept store ends manner.Needs work)
