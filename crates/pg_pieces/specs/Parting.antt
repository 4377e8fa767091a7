-- What keeps a replica from going.
use Rattle.std.specs.Prelude.{ℕ, Bool, false, ◌&&◌, not, if◌then◌else◌, List, Option, None, Some}
use Rattle.std.specs.List.{find}
use Rattle.std.specs.Option.{option_map, option_or}
use Rattle.pg_base.specs.declared.id.FileId.{FileId}
use Rattle.pg_base.specs.Id.{is_same_file}
use Rattle.pg_edges.specs.declared.edge.Edge.{Edge}
use Rattle.pg_edges.specs.Edges.{is_none}
use Rattle.pg_call.specs.declared.refusal.Refusal.{Refusal}
use Rattle.pg_call.specs.declared.refusal.Refusal.TheVariants as refusal
use Rattle.pg_call.specs.declared.refusal.Unsettled.TheVariants as unsettled
use Rattle.pg_store.specs.pg_intent.declared.intent.Intent.{Intent}
use Rattle.pg_store.specs.pg_intent.Intent.{is_about, kind_of, target_of}
use Rattle.pg_store.specs.pg_names.Names.{InodeValue, NamesValue}
use Rattle.pg_store.specs.declared.store.Store.{Store}
use Rattle.pg_store.specs.Store.{replica_of}
use Rattle.pg_pieces.specs.Golds.{is_gold}

-- ---- children

-- what is held has a live place in the directory
abbrev pub is_child_of : FileId → FileId × InodeValue → Bool
is_child_of dir h = h.1.own.place.live && is_same_file h.1.own.place.parent dir

-- the same of a thing that may be held
abbrev pub is_child_at : FileId → FileId → Option InodeValue → Bool
is_child_at dir file None = false
is_child_at dir file (Some x) = is_child_of dir (file, x)

-- the least such thing
abbrev pub first_child : NamesValue → FileId → Option FileId
first_child names dir = option_map (λ h. h.0) (find (is_child_of dir) names.held)

abbrev pub has_child : Store → FileId → Option Refusal
has_child store file = option_map (λ child. refusal.HasChild child) (first_child store.names file)

-- ---- what is not settled

-- an intention about it, with its target
abbrev pub by_intent : FileId → Intent → Refusal
by_intent file i =
    refusal.Unsettled (unsettled.Intent (kind_of i)) file (target_of i)

-- a peer that has not acknowledged every key
abbrev pub by_edge : FileId → Edge → Refusal
by_edge file e = refusal.Unsettled unsettled.Cell file e.peer

abbrev pub is_unclean : Edge → Bool
is_unclean e = not (is_none e.keys)

-- the first intention of which it is the file, the directory or the child; else the first such peer
abbrev pub unsettled_by : Store → FileId → Option Refusal
unsettled_by store file =
    option_or (option_map (by_intent file) (find (is_about file) store.intents))
    (option_map (by_edge file) (find is_unclean (replica_of store file).edges))

-- ---- all

abbrev pub if_gold : Bool → Option Refusal
if_gold gold = if gold then Some refusal.IsGold else None

-- why it may not go: it is gold, a held thing has a live place in it, or something about it is not
-- settled
abbrev pub stays_for : Store → FileId → Option Refusal
stays_for store file = option_or (if_gold (is_gold store file))
    (option_or (has_child store file) (unsettled_by store file))
