-- Who was asked for a body has none now.
use Rattle.std.specs.Prelude.{Bool, if◌then◌else◌}
use Rattle.pg_base.specs.declared.stamp.Stamp.{Stamp}
use Rattle.pg_announced.specs.Announced.{key_at, lose_note}
use Rattle.pg_pieces.specs.pg_msg.declared.message.Ends.{Ends}
use Rattle.pg_pieces.specs.pg_msg.declared.work.Work.{Work}
use Rattle.pg_pieces.specs.pg_names.Names.{is_dir}
use Rattle.pg_pieces.specs.pg_store.declared.store.Store.{Store}
use Rattle.pg_pieces.specs.declared.accepting.EdgeUse.TheVariants as manner
use Rattle.pg_pieces.specs.Accepting.{accept, is_accepted}
use Rattle.pg_pieces.specs.Done.{Done, idle}
use Rattle.pg_transfer.specs.Asking.{with_notes}

-- where the message is accepted, its sender is not asked any more
abbrev pub later_along : Bool → Ends → Stamp → Done → Done
later_along accepted ends stamp done = if accepted
    then idle (with_notes done.store
    (lose_note done.store.announced (key_at ends.file stamp) done.work.from)) done.work
    else done

abbrev pub later : Store → Ends → Stamp → Work → Done
later store ends stamp work =
    if is_dir ends.file then idle store work
    else later_along (is_accepted store work.from manner.Answers ends) ends stamp
    (accept store ends manner.Answers work)
