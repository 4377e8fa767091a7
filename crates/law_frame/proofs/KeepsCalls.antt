-- WHAT A LAW SAYS OF THE PIECES OF A CALL: each piece keeps it, where the call is one that has this
-- piece.
use Rattle.std.proofs.Common.{[], ℕ, ◌≡◌, ◌==◌, Bool, true, false, List, Option, None, Some}
use Rattle.std.specs.Prelude.{Ok}
use Rattle.pg_run.specs.pg_base.declared.id.FileId.{FileId}
use Rattle.pg_run.specs.pg_base.declared.id.Kind.{Kind}
use Rattle.pg_run.specs.pg_base.declared.id.Kind.TheVariants.{Dir, File}
use Rattle.pg_run.specs.pg_base.declared.policy.Policy.{Policy}
use Rattle.pg_run.specs.pg_call.declared.call.Call.{Call}
use Rattle.pg_run.specs.pg_call.declared.call.Call.TheVariants as call
use Rattle.pg_run.specs.pg_lookup.declared.paths.Found.{Found}
use Rattle.pg_run.specs.pg_msg.declared.message.Message.TheVariants as message
use Rattle.pg_run.specs.pg_msg.declared.update.Update.TheVariants as update
use Rattle.pg_run.specs.pg_msg.declared.work.Work.{Work}
use Rattle.pg_run.specs.pg_msg.Work.{with_made}
use Rattle.pg_run.specs.pg_names.declared.attributes.Attributes.{Attributes}
use Rattle.pg_run.specs.pg_names.Names.{blank_own, fill as fill_names, is_dir}
use Rattle.pg_run.specs.pg_patch.Ranges.{RangesValue, cut_to, written}
use Rattle.pg_run.specs.pg_register.declared.flag.Flag.{Flag}
use Rattle.pg_run.specs.pg_register.declared.place.Place.{Place}
use Rattle.pg_run.specs.pg_store.declared.store.Store.{Store}
use Rattle.pg_run.specs.pg_store.declared.wishes.Wish.{Wish}
use Rattle.pg_run.specs.pg_store.Births.{draw_birth, with_birth, with_wish}
use Rattle.pg_run.specs.pg_store.Store.{is_full, is_held, with_names}
use Rattle.pg_run.specs.pg_pieces.Done.{Done, idle}
use Rattle.pg_run.specs.pg_pieces.Intending.{begin_intent}
use Rattle.pg_run.specs.pg_pieces.Making.{make_flag, own_next}
use Rattle.pg_run.specs.pg_pieces.Posting.{post}
use Rattle.pg_run.specs.pg_pieces.Taking.{take_entry_noted}
use Rattle.pg_run.specs.pg_checks.declared.checks.NewName.{NewName}
use Rattle.pg_run.specs.pg_checks.declared.checks.Move.{Move}
use Rattle.pg_run.specs.pg_checks.Asking.{fresh_wish, holder, standing}
use Rattle.pg_run.specs.pg_checks.Checks.{empty_dir_at, file_at, move_of, new_name}
use Rattle.pg_run.specs.pg_calls.Bodies.{when_fit}
use Rattle.pg_run.specs.pg_calls.Demoting.{demoted_at}
use Rattle.pg_run.specs.pg_calls.Dropping.{clean_gold, dropped_at, leave_of}
use Rattle.pg_run.specs.pg_calls.Forgetting.{bare_entry, begun_with, dead_at, dirs_of, has_cell_for, is_wanted, last_listing, last_place, lists_in, lost_at, root_place, unwished}
use Rattle.pg_run.specs.pg_calls.GivingUp.{enter_view, removal_at}
use Rattle.pg_run.specs.pg_calls.Making.{drawn, first_ranges, make_place, make_version}
use Rattle.pg_run.specs.pg_calls.Naming.{begun, dead_place, next_id, place_in, with_id}

-- ---- what a call came to

-- what is asked for by a new wish: it is not held and full, nothing asks for it yet, and there is a
-- server to be asked
pub record IsNewWish (a : Store) (found : Found) : Type 0 where
  pub missing : is_full a found.file ≡ false
  pub none : standing a found.file ≡ None
  pub some : (holder a found == 0) ≡ false

-- ---- what a call makes

-- the call that makes a new thing of this kind
abbrev pub making : Kind → Policy → List ℕ → Call
making Dir policy path = call.Mkdir path
making File policy path = call.Create path policy

-- what a lost directory has where it begins anew: its last place, if it is live
abbrev pub lost_own : FileId → Option Place → Attributes
lost_own id (Some place) = record { place = place; flags = [] }
lost_own id None = blank_own id

-- of this call, at this store and with this work
module _ (a : Store) (w : Work) where
  -- of a new thing of this kind, with a name that may be taken
  abbrev pub IsNew : Kind → List ℕ → FileId → Place → Type 0
  IsNew kind path file place = (new : NewName) × (new_name a (next_id a kind) path ≡ Ok new)
      × (file ≡ next_id a kind) × (place ≡ place_in (with_id a) w.now new)

  -- it gives up what was lost of this thing
  abbrev pub IsLost : Call → FileId → Type 0
  IsLost (call.Forget id) file = lost_at a id ≡ Ok file
  IsLost _ file = ⊥

  -- a file, and the latest that lists it is this directory
  pub record IsStruck (c : Call) (id dir : FileId) : Type 0 where
    pub lost : IsLost c id
    pub file : is_dir id ≡ false
    pub listed : last_listing a.names id (dirs_of a.names id) ≡ Some dir
    pub lists : lists_in a.names id dir ≡ true

  -- it begins anew, as a held cell, a Fill or a Patch names it, where it was last
  pub record IsBegun (c : Call) (id : FileId) (own : Attributes) : Type 0 where
    pub lost : IsLost c id
    pub wanted : is_wanted a id ≡ true
    pub is : own ≡ lost_own id (last_place a.names id)

  -- it drops the replica of this thing
  abbrev pub Drops : Call → FileId → Type 0
  Drops (call.Drop target) file = dropped_at a target ≡ Ok file
  Drops _ file = ⊥

  -- this place of this thing, where the server holds this meanwhile
  abbrev pub MakesPlace : Store → Call → FileId → Place → Type 0
  MakesPlace b (call.Mkdir path) file place = IsNew Dir path file place
  MakesPlace b (call.Create path policy) file place = IsNew File path file place
  MakesPlace b (call.Rename from to) file place = (move : Move) × (move_of a from to ≡ Ok move)
      × (file ≡ move.thing) × (place ≡ place_in a w.now move.to)
  MakesPlace b (call.Unlink path) file place =
      (file_at a path ≡ Ok file) × (place ≡ dead_place a w.now file)
  MakesPlace b (call.Rmdir path) file place =
      (empty_dir_at a path ≡ Ok file) × (place ≡ dead_place a w.now file)
  MakesPlace b (call.Forget id) file place =
      (lost_at a id ≡ Ok file) × (place ≡ root_place b w.now file)
  MakesPlace b _ file place = ⊥

  -- the server's next flag of this thing, raised or not
  abbrev pub MakesFlag : Call → FileId → Bool → Type 0
  MakesFlag (call.Mkdir path) file raised = (file ≡ next_id a Dir) × (raised ≡ true)
  MakesFlag (call.Create path policy) file raised = (file ≡ next_id a File) × (raised ≡ true)
  MakesFlag (call.Forget id) file raised = (lost_at a id ≡ Ok file) × (raised ≡ true)
  MakesFlag (call.Demote target) file raised = (demoted_at a target ≡ Ok file) × (raised ≡ false)
  MakesFlag _ file raised = ⊥

  -- a version of this file, with these ranges
  abbrev pub MakesVersion : Call → FileId → RangesValue → Type 0
  MakesVersion (call.Create path policy) file ranges =
      (file ≡ next_id a File) × (ranges ≡ first_ranges)
  MakesVersion (call.Write path offset bytes) file ranges = (x : FileId) × (file_at a path ≡ Ok x)
      × (when_fit a ranges x ≡ Ok file) × (ranges ≡ written offset bytes)
  MakesVersion (call.Cut path length) file ranges = (x : FileId) × (file_at a path ≡ Ok x)
      × (when_fit a ranges x ≡ Ok file) × (ranges ≡ cut_to length)
  MakesVersion _ file ranges = ⊥

-- ---- the pieces

-- I outlives each piece of this call, at this store and with this work, and P holds of what it leaves
--
-- wishes, asks: a call that does not go on leaves this, where what is not here yet is asked for by a
-- new wish, or as it is asked for already
-- makes_new: a new thing begins; makes_place, makes_flag, makes_version: and what the call makes
-- begins_leave: leave is asked for
-- fills, strikes, marks, begins_lost: what was lost is full as it is, or dead wherever it is known,
-- or begins anew
-- enters: a server that is given up is removed; leaves: and what any other call leaves
pub record KeepsCalls (a : Store) (w : Work) (c : Call) (I P : Done → Type 0) : Type 0 where
  pub wishes : (found : Found) → IsNewWish a found → I (idle a w)
      → P (idle (with_wish (with_birth a) found.file (fresh_wish a (holder a found)))
      (post a (holder a found) (message.Fetch found.file (draw_birth a)) w))
  pub asks : (file : FileId) (wish : Wish) → standing a file ≡ Some wish
      → (wish.target == 0) ≡ false → I (idle a w)
      → P (idle a (post a wish.target (message.Fetch file wish.birth) w))
  pub makes_new : (kind : Kind) (policy : Policy) (path : List ℕ) (new : NewName)
      → (new_name a (next_id a kind) path ≡ Ok new) × (c ≡ making kind policy path) → I (idle a w)
      → I (idle (begun (with_id a) (next_id a kind) policy) w)
  pub makes_place : (d : Done) (file : FileId) (place : Place) → MakesPlace a w d.store c file place
      → I d → I (make_place file place d)
  pub makes_flag : (d : Done) (file : FileId) (raised : Bool) → MakesFlag a w c file raised
      → I d → I (make_flag d.store file (own_next d.store file raised) d.work)
  pub makes_version : (d : Done) (file : FileId) (ranges : RangesValue)
      → MakesVersion a w c file ranges
      → I d → I (make_version file (drawn d.store d.work.now) ranges d)
  pub begins_leave : (file : FileId) (flag : Flag)
      → (clean_gold a file ≡ Some flag) × Drops a w c file → I (idle a w) → I (begin_intent a (leave_of file flag) w)
  pub fills : (d : Done) (id : FileId) → IsLost a w c id
      → I d → I (idle (with_names d.store (fill_names d.store.names id)) d.work)
  pub strikes : (id dir : FileId) → IsStruck a w c id dir → I (idle a w)
      → I (idle (unwished a id) (with_made w (update.Place id (dead_at a w.now id dir))))
  pub marks : (d : Done) (id dir to : FileId)
      → IsStruck a w c id dir × (has_cell_for a.names id to ≡ true)
      → I d → I (take_entry_noted d.store to (bare_entry id (dead_at a w.now id dir)) d.work)
  pub begins_lost : (id : FileId) (own : Attributes) → IsBegun a w c id own
      → is_held a id ≡ false → I (idle a w) → I (idle (begun_with a id own) w)
  pub enters : (view server : ℕ) → c ≡ call.Giveup view server
      → removal_at a view server ≡ Ok (tt {0}) → I (idle a w) → P (enter_view a server w)
  pub leaves : (d : Done) → I d → P d
