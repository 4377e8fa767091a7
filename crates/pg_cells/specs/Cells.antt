-- A cell comes.
use Rattle.std.specs.Prelude.{ℕ, Bool, true, ◌&&◌, not, if◌then◌else◌}
use Rattle.pg_base.specs.declared.id.FileId.{FileId}
use Rattle.pg_edges.specs.declared.key.Key.{Key}
use Rattle.pg_entries.specs.declared.cell.Cell.{Cell}
use Rattle.pg_entries.specs.declared.cell.Cell.TheVariants as cells
use Rattle.pg_pieces.specs.pg_msg.declared.message.Ends.{Ends}
use Rattle.pg_pieces.specs.pg_msg.declared.message.Message.TheVariants as message
use Rattle.pg_pieces.specs.pg_msg.declared.work.Work.{Work}
use Rattle.pg_pieces.specs.pg_msg.Ends.{back}
use Rattle.pg_pieces.specs.pg_msg.Sent.{cell_key}
use Rattle.pg_pieces.specs.pg_names.Names.{is_dir}
use Rattle.pg_pieces.specs.pg_store.declared.store.Store.{Store}
use Rattle.pg_pieces.specs.declared.accepting.EdgeUse.TheVariants as manner
use Rattle.pg_pieces.specs.Accepting.{accept, is_accepted}
use Rattle.pg_pieces.specs.Done.{Done, idle}
use Rattle.pg_pieces.specs.Posting.{reply}
use Rattle.pg_pieces.specs.Taking.{take_entry_cell, take_flag_noted, take_place_noted, take_version_noted}

-- only directories have entries, and only files have versions
abbrev pub fits : FileId → Cell → Bool
fits file (cells.Place place) = true
fits file (cells.Flag flag) = true
fits file (cells.Entry entry sure) = is_dir file
fits file (cells.Version v) = not (is_dir file)

-- a held thing takes what is newer in a cell; that is touched, for the sender too
abbrev pub taken : Store → FileId → Cell → Work → Done
taken store file (cells.Place place) work = take_place_noted store file place work
taken store file (cells.Flag flag) work = take_flag_noted store file flag work
taken store file (cells.Entry entry sure) work = take_entry_cell store file entry sure work
taken store file (cells.Version v) work = take_version_noted store file v work

-- the cell of this key that came under this tag is answered, whether it was news or not
abbrev pub answered : Ends → Key → ℕ → Done → Done
answered ends k tag done = record {
  store = done.store;
  work = reply done.store (message.Ack (back ends) k tag) done.work;
}

-- a cell is taken and answered, behind a link
abbrev pub taken_along : Ends → ℕ → Cell → Done → Done
taken_along ends tag c done =
    answered ends (cell_key c) tag (taken done.store ends.file c done.work)

-- where the thing can have such a cell, its sender is linked; and where the message is accepted the
-- cell is taken
abbrev pub cell : Store → Ends → ℕ → Cell → Work → Done
cell store ends tag c work =
    if fits ends.file c
    then (if is_accepted store work.from manner.Makes ends
    then taken_along ends tag c (accept store ends manner.Makes work)
    else accept store ends manner.Makes work)
    else idle store work
