-- Directories that are not held here, and have to hear of children that moved.
use Rattle.std.specs.Prelude.{Bool, ◌&&◌, if◌then◌else◌}
use Rattle.std.specs.List.{list_any}
use Rattle.pg_base.specs.declared.id.FileId.{FileId}
use Rattle.pg_base.specs.Id.{is_same_file}
use Rattle.pg_graph.specs.pg_intent.declared.intent.Intent.{Intent}
use Rattle.pg_graph.specs.pg_intent.declared.intent.Intent.TheVariants as intent
use Rattle.pg_graph.specs.pg_intent.declared.key.IntentKey.TheVariants as intent_key
use Rattle.pg_graph.specs.pg_intent.Intents.{begun_on, intent_at}
use Rattle.pg_graph.specs.pg_msg.declared.work.Slot.{Slot}
use Rattle.pg_graph.specs.pg_msg.declared.work.Work.{Work}
use Rattle.pg_graph.specs.pg_store.declared.store.Store.{Store}
use Rattle.pg_graph.specs.pg_store.Servers.{first_target}
use Rattle.pg_graph.specs.pg_store.Store.{is_held}
use Rattle.pg_graph.specs.pg_pieces.Done.{Done, idle}
use Rattle.pg_repair.specs.Confirming.{own_entry}
use Rattle.pg_intentions.specs.Intending.{begin_intent, each, in_order}

-- it carries the place and the flags that the child has now
abbrev pub patch_of : Store → Slot → Work → Intent
patch_of store slot work =
    intent.Patch slot.dir (own_entry store slot.child) (first_target store work.from)

-- a live place of the child in the directory was replaced: a Patch begins where that is not held
abbrev pub begin_patch : Store → Slot → Work → Done
begin_patch store slot work =
    if is_held store slot.dir then idle store work
    else begin_intent store (patch_of store slot work) work

-- of each place that was replaced in the event, by directory and then by child
abbrev pub begin_patches : Store → Work → Done
begin_patches store work = each begin_patch store (in_order work.left) work

-- ---- what stands then

abbrev pub is_slot : FileId → FileId → Slot → Bool
is_slot dir child slot = is_same_file dir slot.dir && is_same_file child slot.child

-- a live place of the child in the directory was replaced in the event
abbrev pub was_left : Work → FileId → FileId → Bool
was_left work dir child = list_any (is_slot dir child) work.left

-- the Patch that stands, or none, begins again with the place and the flags that the child has now
abbrev pub patch_again : Store → FileId → FileId → Work → Intent
patch_again store dir child work =
    begun_on (intent_at store.intents (intent_key.Patch dir child))
    (patch_of store (record { dir = dir; child = child }) work)
