-- Who holds something is the server that it was.
use Rattle.std.proofs.Common.{ℕ, ◌≡◌, refl}
use Rattle.pg_base.specs.declared.id.FileId.{FileId}
use Rattle.pg_entries.specs.declared.cell.Cell.{Cell}
use Rattle.pg_entries.specs.declared.cell.Cell.TheVariants as cells
use Rattle.pg_server.specs.pg_pieces.pg_msg.declared.message.Ends.{Ends}
use Rattle.pg_server.specs.pg_pieces.pg_msg.declared.work.Work.{Work}
use Rattle.pg_server.specs.pg_pieces.pg_names.Names as names
use Rattle.pg_server.proofs.pg_pieces.pg_names.Lookups.{update_frame}
use Rattle.theory_flood_pieces.proofs.Choices.{chosen}
use Rattle.pg_server.specs.pg_pieces.pg_store.declared.store.Store.{Store}
use Rattle.pg_server.specs.pg_pieces.pg_store.Births.{has_birth}
use Rattle.pg_server.specs.pg_pieces.pg_store.Links.{is_new_link, knows_later, put_link}
use Rattle.pg_server.specs.pg_pieces.pg_store.Seen.{server_of}
use Rattle.pg_server.specs.pg_pieces.pg_store.Store.{is_new_version, is_newer_entry, is_newer_flag, is_newer_place, put_entry, put_flag, put_place, put_version}
use Rattle.pg_server.specs.pg_pieces.declared.accepting.EdgeUse.{EdgeUse}
use Rattle.pg_server.specs.pg_pieces.declared.accepting.EdgeUse.TheVariants as manner
use Rattle.pg_server.specs.pg_pieces.Accepting.{accept, link_peer, met, with_gone}
use Rattle.pg_server.specs.pg_cells.Cells.{taken}
use Rattle.pg_server.specs.pg_pieces.Done.{Done, idle}

linked_names : (a : Store) (f : FileId) (peer birth : ℕ) (work : Work)
    → (link_peer a f peer birth work).store.names ≡ a.names
linked_names a f peer birth work =
    let P : Store → Type 0 = λ b. b.names ≡ a.names in
    chosen P (is_new_link a f peer birth) (put_link a f peer birth) a refl refl

met_names : (a : Store) (ends : Ends) (way : EdgeUse) (work : Work) → (met a ends way work).store.names ≡ a.names
met_names a ends manner.Makes work = linked_names a ends.file work.from ends.sender work
met_names a ends manner.Needs work = refl
met_names a ends manner.Answers work = refl

pub accept_names : (a : Store) (ends : Ends) (way : EdgeUse) (work : Work)
    → (accept a ends way work).store.names ≡ a.names
accept_names a ends way work =
    let P : Done → Type 0 = λ d. d.store.names ≡ a.names in
    chosen P (has_birth a ends.file ends.receiver) _ (idle a (with_gone a ends way work))
    (chosen P (knows_later a ends.file work.from ends.sender) (idle a work) (met a ends way work) refl
    (met_names a ends way work)) refl

abbrev pub IsBy : Store → Store → Type 0
IsBy a b = server_of b ≡ server_of a

pub taken_by : (a : Store) (f : FileId) (c : Cell) (work : Work) → IsBy a (taken a f c work).store
taken_by a f (cells.Place place) work =
    chosen (IsBy a) (is_newer_place a f place) (put_place a f place) a
    (update_frame a.names f (names.with_place place)).server refl
taken_by a f (cells.Flag flag) work =
    chosen (IsBy a) (is_newer_flag a f flag) (put_flag a f flag) a
    (update_frame a.names f (names.with_flag flag)).server refl
taken_by a f (cells.Entry e sure) work =
    chosen (IsBy a) (is_newer_entry a f e) (put_entry a f e) a
    (update_frame a.names f (names.with_joined e)).server refl
taken_by a f (cells.Version v) work = chosen (IsBy a) (is_new_version a f v) (put_version a f v) a refl refl
