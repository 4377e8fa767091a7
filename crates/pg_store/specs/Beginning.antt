-- Replicas that begin.
use Rattle.std.specs.Prelude.{ℕ, Bool, List, [], ◌∷◌, if◌then◌else◌, Option, None, Some}
use Rattle.std.specs.List.{flat_map}
use Rattle.pg_base.specs.declared.id.FileId.{FileId}
use Rattle.pg_base.specs.declared.policy.Policy.{Policy}
use Rattle.pg_base.specs.Id.{is_same_file}
use Rattle.pg_announced.specs.Announced.{without_file}
use Rattle.pg_intent.specs.declared.intent.Intent.{Intent}
use Rattle.pg_intent.specs.declared.intent.Intent.TheVariants as intent
use Rattle.pg_intent.specs.declared.key.IntentKey.{IntentKey}
use Rattle.pg_intent.specs.declared.key.IntentKey.TheVariants as intent_key
use Rattle.pg_intent.specs.Intents.{ended, intent_at}
use Rattle.pg_names.specs.declared.attributes.Attributes.{Attributes}
use Rattle.pg_names.specs.Names.{begin as begin_names, let_go as let_go_names, raise}
use Rattle.pg_replica.specs.Replica.{new_replica}
use Rattle.pg_replica.specs.Replicas.{put_replica, without_replica}
use Rattle.pg_store.specs.declared.store.Store.{Store}
use Rattle.pg_store.specs.Store.{take_entry}
use Rattle.pg_store.specs.Wishes.{without_wish}

abbrev pub with_intents : Store → List Intent → Store
with_intents store intents = record store { intents = intents }

-- ---- the Patches of a directory

-- the key of a Patch of the second directory for this child, where it is the first
abbrev pub patch_key_if : FileId → FileId → FileId → List IntentKey
patch_key_if dir to child = if is_same_file to dir then intent_key.Patch dir child ∷ [] else []

-- the key of an intention, where it is a Patch of this directory
abbrev pub patch_key : FileId → Intent → List IntentKey
patch_key dir (intent.Patch to entry target) = patch_key_if dir to entry.child
patch_key dir _ = []

-- those of all its Patches, in the order in which they began
abbrev pub patches_of : FileId → List Intent → List IntentKey
patches_of dir is = flat_map (patch_key dir) is

-- the directory takes the entry of a Patch
abbrev pub take_told : Store → FileId → Intent → Store
take_told store dir (intent.Patch to entry target) = take_entry store dir entry
take_told store dir _ = store

abbrev pub take_told_in : Store → FileId → Option Intent → Store
take_told_in store dir None = store
take_told_in store dir (Some patch) = take_told store dir patch

-- and the Patch ends
abbrev pub take_patch : Store → FileId → IntentKey → Store
take_patch store dir k = take_told_in (with_intents store (ended store.intents k)) dir
    (intent_at store.intents k)

abbrev pub take_patches : Store → FileId → List IntentKey → Store
take_patches store dir [] = store
take_patches store dir (k ∷ ks) = take_patches (take_patch store dir k) dir ks

-- ---- the end

-- a replica goes, with all that it has and what is noted of its file
abbrev pub let_go : Store → FileId → Store
let_go store file = record store {
  names = let_go_names store.names file;
  replicas = without_replica store.replicas file;
  announced = without_file store.announced file;
}

-- ---- the beginning

-- a replica of this birth stands, full or filling, with this place and these flags, no version and
-- no edge, and the wish for the thing has ended
abbrev pub put_new : Store → FileId → ℕ → Policy → Attributes → Bool → Store
put_new store file birth policy own full = record store {
  names = raise (begin_names store.names file own full) own.place.stamp.time;
  replicas = put_replica store.replicas file (new_replica birth policy);
  wishes = without_wish store.wishes file;
}

-- and a directory has taken the entries of its Patches, which have ended
abbrev pub begin : Store → FileId → ℕ → Policy → Attributes → Bool → Store
begin store file birth policy own full =
    take_patches (put_new store file birth policy own full) file (patches_of file store.intents)
