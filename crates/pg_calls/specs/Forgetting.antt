-- What was lost is given up.
use Rattle.std.specs.Prelude.{ℕ, Bool, ◌==◌, ◌||◌, true, false, not, if◌then◌else◌, List, [], length, Option, None, Some, is_some, Result}
use Rattle.std.specs.List.{list_any}
use Rattle.pg_base.specs.declared.id.FileId.{FileId}
use Rattle.pg_base.specs.declared.policy.Policy.TheVariants.{Last}
use Rattle.pg_base.specs.Id.{is_same_file}
use Rattle.pg_cells.specs.pg_call.declared.refusal.Refusal.TheVariants.{Held}
use Rattle.pg_cells.specs.pg_call.declared.reply.Reply.TheVariants as reply
use Rattle.pg_entries.specs.declared.entry.Entry.{Entry}
use Rattle.pg_cells.specs.pg_intent.declared.intent.Intent.{Intent}
use Rattle.pg_cells.specs.pg_intent.declared.intent.Intent.TheVariants as intent
use Rattle.pg_cells.specs.pg_intent.declared.key.IntentKey.TheVariants as intent_key
use Rattle.pg_cells.specs.pg_intent.Intents.{ended}
use Rattle.pg_cells.specs.pg_msg.declared.update.Update.TheVariants as update
use Rattle.pg_cells.specs.pg_msg.declared.work.Work.{Work}
use Rattle.pg_cells.specs.pg_msg.Work.{with_made}
use Rattle.pg_cells.specs.pg_names.declared.attributes.Attributes.{Attributes}
use Rattle.pg_cells.specs.pg_names.Names.{NamesValue, blank_own, cell_at, is_dir, own_or_blank}
use Rattle.pg_cells.specs.pg_names.Same.{is_same_stamp}
use Rattle.pg_register.specs.declared.place.Place.{Place}
use Rattle.pg_register.specs.Place.{blank_place, root, tilde_name}
use Rattle.pg_checks.specs.pg_lookup.declared.paths.LookupError.{LookupError}
use Rattle.pg_checks.specs.pg_lookup.Walk.{and_then}
use Rattle.pg_cells.specs.pg_store.declared.store.Store.{Store}
use Rattle.pg_cells.specs.pg_store.Beginning.{begin, with_intents}
use Rattle.pg_cells.specs.pg_store.Births.{draw_birth, fill_at, with_birth}
use Rattle.pg_cells.specs.pg_store.Store.{is_full, is_held}
use Rattle.pg_cells.specs.pg_store.Wishes.{without_wish}
use Rattle.pg_cells.specs.pg_pieces.Done.{Done, idle}
use Rattle.pg_cells.specs.pg_pieces.Intending.{each}
use Rattle.pg_cells.specs.pg_pieces.Taking.{take_entry_noted}
use Rattle.pg_intentions.specs.pg_repair.Filling.{fill}
use Rattle.pg_checks.specs.Answer.{Answer, answer, answered, unless}
use Rattle.pg_checks.specs.Asking.{latest}
use Rattle.pg_checks.specs.Checks.{in_time}
pub use Rattle.pg_checks.specs.Listing.{dirs_of, has_cell_for, last_listing, later_listing, lists_by, lists_in}
use Rattle.pg_calls.specs.Demoting.{unless_root}
use Rattle.pg_calls.specs.Making.{drawn, make_place}
use Rattle.pg_calls.specs.Naming.{raised}

-- ---- the check

abbrev pub unless_full : Store → FileId → Result FileId LookupError
unless_full store file = unless (is_full store file) Held file

-- neither the root nor what is held and full
abbrev pub lost_at : Store → FileId → Result FileId LookupError
lost_at store id = and_then (and_then (in_time store id) unless_root) (unless_full store)

-- ---- a filling replica

-- a live place in the root, by the thing's id, with the next stamp
abbrev pub root_place : Store → ℕ → FileId → Place
root_place store moment id =
    record { stamp = drawn store moment; parent = root; name = tilde_name id; live = true }

abbrev pub placed_in_root : FileId → Store → Work → Done
placed_in_root id store work = make_place id (root_place store work.now id) (idle store work)

-- no place of it is known
abbrev pub has_blank_place : Store → FileId → Bool
has_blank_place store id =
    is_same_stamp (own_or_blank store.names id).place.stamp (blank_place id).stamp

abbrev pub placed_lost : Store → FileId → Work → Done
placed_lost store id work = if has_blank_place store id
    then placed_in_root id store work else idle store work

abbrev pub filled : FileId → Done → Done
filled id done = fill done.store id done.work

-- it is full as it is; where its place is blank it gets one in the root
abbrev pub fill_lost : Store → FileId → Work → Done
fill_lost store id work = filled id (placed_lost store id work)

-- ---- a file that is not held

abbrev pub bare_entry : FileId → Place → Entry
bare_entry id place = record { child = id; place = place; flags = [] }

-- a directory's cell for it takes a place
abbrev pub mark : FileId → Place → Store → FileId → Work → Done
mark id place store dir work = take_entry_noted store dir (bare_entry id place) work

-- so of these directories, one behind another
abbrev pub marked_each : Store → FileId → Place → List FileId → Work → Done
marked_each store id place dirs work = each (mark id place) store dirs work

abbrev pub dead_by : Store → ℕ → Option Entry → FileId → Place
dead_by store moment None id = blank_place id
dead_by store moment (Some entry) id = record {
  stamp = drawn store moment;
  parent = entry.place.parent;
  name = entry.place.name;
  live = false;
}

-- a dead place with the next stamp, where a directory's cell says that the thing stands
abbrev pub dead_at : Store → ℕ → FileId → FileId → Place
dead_at store moment id dir = dead_by store moment (cell_at store.names dir id) id

abbrev pub unwished : Store → FileId → Store
unwished store id = record store { wishes = without_wish store.wishes id }

-- these directories' cells for it take a dead place, which is made
abbrev pub strike_from : Store → FileId → FileId → List FileId → Work → Done
strike_from store id dir dirs work =
    marked_each (unwished store id) id (dead_at store work.now id dir) dirs
    (with_made work (update.Place id (dead_at store work.now id dir)))

abbrev pub struck_out : Store → FileId → Work → Option FileId → Done
struck_out store id work None = idle store work
struck_out store id work (Some dir) = strike_from store id dir (dirs_of store.names id) work

-- where a held directory lists it, it has a dead place from then on, wherever it is known
abbrev pub strike_out : Store → FileId → Work → Done
strike_out store id work =
    struck_out store id work (last_listing store.names id (dirs_of store.names id))

-- ---- a directory that is not held

abbrev pub is_patch_to : FileId → Intent → Bool
is_patch_to id (intent.Patch dir entry target) = is_same_file dir id
is_patch_to id _ = false

abbrev pub is_wanted_by : Store → FileId → List FileId → Bool
is_wanted_by store id dirs = not (length dirs == 0)
    || (is_some (fill_at store id) || list_any (is_patch_to id) store.intents)

-- a held cell, a Fill or a Patch names it
abbrev pub is_wanted : Store → FileId → Bool
is_wanted store id = is_wanted_by store id (dirs_of store.names id)

abbrev pub if_live : Place → Option Place
if_live place = if place.live then Some place else None

abbrev pub place_of : Option Entry → Option Place
place_of None = None
place_of (Some entry) = if_live entry.place

abbrev pub place_in : NamesValue → FileId → Option FileId → Option Place
place_in names id None = None
place_in names id (Some dir) = place_of (cell_at names dir id)

-- the place of the cell with the latest place, where that is live
abbrev pub last_place : NamesValue → FileId → Option Place
last_place names id = place_in names id (latest names id None (dirs_of names id))

-- the Fill of a directory, which has another birth, ends
abbrev pub unfilled : Store → FileId → Store
unfilled store id = with_intents store (ended store.intents (intent_key.Fill id))

abbrev pub begun_with : Store → FileId → Attributes → Store
begun_with store id own =
    begin (unfilled (with_birth store) id) id (draw_birth store) Last own true

-- where it is known to be live, and else in the root
abbrev pub begun_at : Store → FileId → Work → Option Place → Done
begun_at store id work (Some place) =
    idle (begun_with store id (record { place = place; flags = [] })) work
begun_at store id work None = placed_in_root id (begun_with store id (blank_own id)) work

-- it begins anew, full and gold
abbrev pub begin_lost : Store → FileId → Work → Done
begin_lost store id work = if is_wanted store id
    then raised id (begun_at store id work (last_place store.names id))
    else idle store work

-- ---- all

abbrev pub forget_lost : Store → FileId → Work → Done
forget_lost store id work = if is_held store id then fill_lost store id work
    else (if is_dir id then begin_lost store id work else strike_out store id work)

abbrev pub forget : Store → FileId → Work → Answer
forget store id work = answered store work (lost_at store id)
    (λ found. answer (forget_lost store found work) reply.Done)
