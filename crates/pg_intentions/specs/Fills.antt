-- What is to be filled.
use Rattle.std.specs.Prelude.{ℕ, Bool, ◌&&◌, not, if◌then◌else◌, is_some, List, [], ◌∷◌, Option, None, Some}
use Rattle.std.specs.BTreeMap.{insert_entry, is_at}
use Rattle.std.specs.Map.{keys_of, lookup}
use Rattle.pg_base.specs.declared.id.FileId.{FileId}
use Rattle.pg_base.specs.Id.{file_cmp}
use Rattle.pg_graph.specs.pg_intent.declared.intent.Intent.{Intent}
use Rattle.pg_graph.specs.pg_intent.declared.intent.Intent.TheVariants as intent
use Rattle.pg_graph.specs.pg_msg.declared.work.Work.{Work}
use Rattle.pg_graph.specs.pg_names.Names.{InodeValue, NamesValue, is_held}
use Rattle.pg_graph.specs.pg_house.Work.{is_root}
use Rattle.pg_graph.specs.pg_replica.Index.{Files}
use Rattle.pg_graph.specs.pg_store.declared.store.Store.{Store}
use Rattle.pg_graph.specs.pg_store.declared.wishes.Wish.{Wish}
use Rattle.pg_graph.specs.pg_store.Births.{birth_of, draw_birth, fill_at, wish_at, with_birth, with_wishes}
use Rattle.pg_graph.specs.pg_store.Servers.{first_target}
use Rattle.pg_graph.specs.pg_store.Store.{is_held as is_held_at}
use Rattle.pg_graph.specs.pg_store.Wishes.{without_wish}
use Rattle.pg_graph.specs.pg_pieces.Done.{Done, idle}
use Rattle.pg_intentions.specs.Intending.{begin_intent, each}

-- ---- which things are

-- a held thing that is filling
abbrev pub with_filling : Files → FileId → InodeValue → Files
with_filling files file x = if x.full then files else insert_entry file_cmp files file tt

-- the parent in the live place of a held thing other than the root is not held
abbrev pub lacks_parent : NamesValue → FileId → InodeValue → Bool
lacks_parent names file x =
    not (is_root file) && (x.own.place.live && not (is_held names x.own.place.parent))

-- that parent
abbrev pub with_parent : NamesValue → Files → FileId → InodeValue → Files
with_parent names files file x =
    if lacks_parent names file x then insert_entry file_cmp files x.own.place.parent tt else files

-- of a held thing itself and its parent, where they are to be filled
abbrev pub with_held : NamesValue → Files → FileId → InodeValue → Files
with_held names files file x = with_parent names (with_filling files file x) file x

-- of each of these
abbrev pub with_each : NamesValue → Files → List (FileId × InodeValue) → Files
with_each names files [] = files
with_each names files (h ∷ hs) = with_each names (with_held names files h.0 h.1) hs

-- of a thing, where it is held
abbrev pub with_known : NamesValue → Files → FileId → Option InodeValue → Files
with_known names files file None = files
with_known names files file (Some x) = with_held names files file x

abbrev pub files_to_fill : NamesValue → Files
files_to_fill names = with_each names [] names.held

-- all that is to be filled, by id: what is held and filling, and what is not held and is the parent
-- in the live place of a held thing other than the root
abbrev pub to_fill : NamesValue → List FileId
to_fill names = keys_of (files_to_fill names)

-- it is among these
abbrev pub is_in : Files → FileId → Bool
is_in files file = is_some (lookup (is_at (file_cmp file)) files)

-- ---- a Fill begins

abbrev pub wished_birth : Store → Option Wish → ℕ
wished_birth store None = draw_birth store
wished_birth store (Some wish) = wish.birth

-- the birth that it has: that of the replica where the thing is held, else that of the wish for it,
-- else a fresh one
abbrev pub fill_birth : Store → FileId → ℕ
fill_birth store file =
    if is_held_at store file then birth_of store file
    else wished_birth store (wish_at store file)

abbrev pub without_wished : Store → FileId → Option Wish → Store
without_wished store file None = with_birth store
without_wished store file (Some wish) = with_wishes store (without_wish store.wishes file)

-- what the server has then: the wish has ended, or the birth is given out
abbrev pub with_fill_birth : Store → FileId → Store
with_fill_birth store file =
    if is_held_at store file then store else without_wished store file (wish_at store file)

abbrev pub fill_of : Store → FileId → Work → Intent
fill_of store file work = intent.Fill file (fill_birth store file)
    (first_target (with_fill_birth store file) work.from)

-- of a thing of which none stands
abbrev pub begin_fill : Store → FileId → Work → Done
begin_fill store file work =
    if is_some (fill_at store file) then idle store work
    else begin_intent (with_fill_birth store file) (fill_of store file work) work

-- of each of these things, by id
abbrev pub begin_fills : Store → List FileId → Work → Done
begin_fills store files work = each begin_fill store files work
