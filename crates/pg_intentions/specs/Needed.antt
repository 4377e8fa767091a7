-- What is to be filled, in its own words; and which intentions stand behind the end of an event.
use Rattle.std.specs.Prelude.{◌≡◌, ◌↔◌, ◌⊎◌, ◌&&◌, not, true, false, if◌then◌else◌, [], Some, is_some}
use Rattle.std.specs.List.Sorted.{IsStrictlySortedBy}
use Rattle.std.specs.Map.{keys_of}
use Rattle.pg_base.specs.declared.id.FileId.{FileId}
use Rattle.pg_base.specs.Id.{file_cmp}
use Rattle.pg_graph.specs.pg_intent.declared.key.IntentKey.TheVariants as intent_key
use Rattle.pg_graph.specs.pg_intent.Intents.{intent_at}
use Rattle.pg_graph.specs.pg_msg.declared.work.Work.{Work}
use Rattle.pg_graph.specs.pg_names.Names.{InodeValue, NamesValue, is_held, known}
use Rattle.pg_graph.specs.pg_house.Work.{is_root}
use Rattle.pg_graph.specs.pg_store.declared.store.Store.{Store}
use Rattle.pg_graph.specs.pg_store.Births.{fill_at}
use Rattle.pg_graph.specs.pg_store.Store.{is_held as is_held_at}
use Rattle.pg_graph.specs.pg_pieces.Done.{idle}
use Rattle.pg_intentions.specs.Beginning.{begin_end}
use Rattle.pg_intentions.specs.Confirms.{is_doubtful}
use Rattle.pg_intentions.specs.Fills.{files_to_fill, is_in}
use Rattle.pg_intentions.specs.Patches.{patch_again, was_left}
use Rattle.pg_intentions.specs.Seeks.{has_seek, is_seeking}

-- what is held and filling
abbrev pub IsFilling : NamesValue → FileId → Type 0
IsFilling names file = (x : InodeValue) × (known names file ≡ Some x) × (x.full ≡ false)

-- what is not held, and is the parent in the live place of something held that is not the root
pub record IsLackedParent (names : NamesValue) (file : FileId) : Type 0 where
  pub away : is_held names file ≡ false
  pub child : FileId
  pub x : InodeValue
  pub held : known names child ≡ Some x
  pub inner : is_root child ≡ false
  pub live : x.own.place.live ≡ true
  pub parent : x.own.place.parent ≡ file

abbrev pub IsToFill : NamesValue → FileId → Type 0
IsToFill names file = IsFilling names file ⊎ IsLackedParent names file

-- a thing is to be filled exactly where it is so: by ids, as things are held
abbrev pub IsWhatIsToFill : NamesValue → FileId → Type 0
IsWhatIsToFill names file = IsStrictlySortedBy file_cmp (keys_of names.held)
    → is_in (files_to_fill names) file ≡ true ↔ IsToFill names file

-- behind the end of an event a Fill of a thing stands exactly where it is to be filled
abbrev pub HasItsFill : Store → Work → FileId → Type 0
HasItsFill store work file = is_some (fill_at (begin_end store work).store file)
    ≡ is_in (files_to_fill store.names) file

-- and a Confirm only of a child that the directory lists, and that is not held
abbrev pub IsConfirmedInDoubt : Store → Work → FileId → FileId → Type 0
IsConfirmedInDoubt store work dir child =
    is_some (intent_at (begin_end store work).store.intents (intent_key.Confirm dir child)) ≡ true
    → is_doubtful store dir child ≡ true

-- a Patch begins, or begins again, where a live place in the directory was replaced and that is not
-- held; any other is as it was
abbrev pub IsPatched : Store → Work → FileId → FileId → Type 0
IsPatched store work dir child =
    intent_at (begin_end store work).store.intents (intent_key.Patch dir child)
    ≡ (if was_left work dir child && not (is_held_at store dir)
    then Some (patch_again store dir child work)
    else intent_at store.intents (intent_key.Patch dir child))

-- a Seek of a thing stands exactly where it seeks
abbrev pub HasItsSeek : Store → Work → FileId → Type 0
HasItsSeek store work file = has_seek (begin_end store work).store file ≡ is_seeking store file

-- and nothing is left to do: where no place was replaced since then, no doubtful cell came and no
-- edge was made, the end of a further event changes nothing
abbrev pub LeavesNothing : Store → Work → Type 0
LeavesNothing store work = (later : Work) → later.left ≡ [] → later.unsure ≡ []
    → later.linked ≡ []
    → begin_end (begin_end store work).store later ≡ idle (begin_end store work).store later
