-- The house rules as single steps, each of the lowest rule that applies.
use Rattle.std.specs.Prelude.{ℕ, ◌≡◌, ◌≢◌, ◌≤◌, ◌<◌, ◌⊎◌, ◌^◌, false, true, List, Some, suc, zero}
use Rattle.std.specs.List.Sorted.{IsStrictlySortedBy}
use Rattle.std.specs.Map.{keys_of}
use Rattle.std.specs.Ordering.{is_lt}
use Rattle.pg_run.specs.pg_base.declared.id.FileId.{FileId}
use Rattle.pg_run.specs.pg_base.declared.stamp.Stamp.{Stamp}
use Rattle.pg_run.specs.pg_base.Id.{file_cmp}
use Rattle.pg_run.specs.pg_entries.declared.entry.Entry.{Entry}
use Rattle.pg_run.specs.pg_entries.Entry.{is_listed}
use Rattle.pg_run.specs.pg_house.Facts.{AreByServer, AreOrdered, IsLast, IsOfDirs}
use Rattle.pg_run.specs.pg_house.House.{house}
use Rattle.pg_run.specs.pg_house.Passing.{pass}
use Rattle.pg_run.specs.pg_house.Placing.{drawn, live_place, made_at, place_at}
use Rattle.pg_run.specs.pg_house.Work.{State, is_root}
use Rattle.pg_run.specs.pg_names.declared.attributes.Attributes.{Attributes}
use Rattle.pg_run.specs.pg_names.Names.{NamesValue, cell_at, directories, is_dir, own_at}
use Rattle.pg_run.specs.pg_register.Place.{first_stamp, root, tilde_name}
use Rattle.law_house.specs.Standing.{IsInCycle, IsLeastLatest}

-- ---- where a rule applies

-- passing applies to a thing other than the root where it changes something
pub record Passes (st : State) (file : FileId) : Type 0 where
  pub other : is_root file ≡ false
  pub changes : pass st (directories st.names) file ≢ st

-- return applies to a held directory other than the root whose place is dead, and made: the blank
-- one has the first stamp; and that lists a child
pub record Returns (names : NamesValue) (dir : FileId) : Type 0 where
  pub kind : is_dir dir ≡ true
  pub other : dir ≢ root
  pub own : Attributes
  pub held : own_at names dir ≡ Some own
  pub dead : own.place.live ≡ false
  pub made : own.place.stamp ≢ first_stamp
  pub child : FileId
  pub cell : Entry
  pub has : cell_at names dir child ≡ Some cell
  pub lists : is_listed dir cell ≡ true

-- it applies to no thing
abbrev pub NonePasses : State → Type 0
NonePasses st = (file : FileId) → Passes st file → ⊥

abbrev pub NoneReturns : NamesValue → Type 0
NoneReturns names = (dir : FileId) → Returns names dir → ⊥

abbrev pub NoneCycles : NamesValue → Type 0
NoneCycles names = (dir : FileId) → IsInCycle names dir → ⊥

-- ---- what one application does

-- passing, of the least thing to which it applies
pub record IsPassing (before after : State) : Type 0 where
  pub file : FileId
  pub applies : Passes before file
  pub least : (less : FileId) → is_lt (file_cmp less file) ≡ true → Passes before less → ⊥
  pub does : after ≡ pass before (directories before.names) file

-- the stamp that a server draws at a moment: its own, later than all that it knows of, and, while
-- the clock has not ended, no earlier than the moment; and no later than it has to be
pub record IsDrawn (moment : ℕ) (names : NamesValue) (stamp : Stamp) : Type 0 where
  pub own : stamp.server ≡ names.server
  pub later : names.last < stamp.time
  pub since : moment ≤ 2 ^ 62 → moment ≤ stamp.time
  pub ended : 2 ^ 62 ≤ moment → 2 ^ 62 ≤ stamp.time
  pub least : (time : ℕ) → names.last < time → moment ≤ time → stamp.time ≤ time
  pub last : (time : ℕ) → names.last < time → 2 ^ 62 ≤ time → stamp.time ≤ time

-- a directory gets a new live place, in this one and with this name, and nothing else changes
abbrev pub made_live : ℕ → State → FileId → FileId → List ℕ → State
made_live moment st dir parent name =
    made_at st dir (live_place (drawn moment st.names) parent name)

-- return, of the least directory to which it applies, where passing applies to nothing: it gets a
-- new live place with the same parent and name
pub record IsReturn (moment : ℕ) (before after : State) : Type 0 where
  pub passed : NonePasses before
  pub dir : FileId
  pub applies : Returns before.names dir
  pub least : (less : FileId) → is_lt (file_cmp less dir) ≡ true → Returns before.names less → ⊥
  pub stamp : IsDrawn moment before.names (drawn moment before.names)
  pub does : let place = place_at before.names dir in
      after ≡ made_live moment before dir place.parent place.name

-- cycle breaking, where neither passing nor return applies: the member with the latest place gets a
-- new live place in the root, with a name made of its id, and of several such the least does
pub record IsBreaking (moment : ℕ) (before after : State) : Type 0 where
  pub passed : NonePasses before
  pub returned : NoneReturns before.names
  pub dir : FileId
  pub applies : IsLeastLatest before.names dir
  pub stamp : IsDrawn moment before.names (drawn moment before.names)
  pub does : after ≡ made_live moment before dir root (tilde_name dir)

-- one step: the lowest rule that applies, to the least thing to which it does
abbrev pub IsStep : ℕ → State → State → Type 0
IsStep moment before after =
    IsPassing before after ⊎ (IsReturn moment before after ⊎ IsBreaking moment before after)

-- so many steps
abbrev pub StepsTo : ℕ → ℕ → State → State → Type 0
StepsTo moment zero before after = before ≡ after
StepsTo moment (suc n) before after =
    (next : State) × IsStep moment before next × StepsTo moment n next after

-- no rule applies
pub record IsAtEnd (st : State) : Type 0 where
  pub passed : NonePasses st
  pub returned : NoneReturns st.names
  pub unmoved : NoneCycles st.names

-- some steps lead there, and there no rule applies
pub record EndsIn (moment : ℕ) (before after : State) : Type 0 where
  pub steps : ℕ
  pub leads : StepsTo moment steps before after
  pub ends : IsAtEnd after

-- what a server knows of names before the rules run: only directories have entries, flags are by
-- server, no stamp of a place is later than the greatest time, and things and the entries of each
-- directory are by id
pub record AreFit (names : NamesValue) : Type 0 where
  pub of_dirs : IsOfDirs names
  pub by_server : AreByServer names
  pub last : IsLast names
  pub things : IsStrictlySortedBy file_cmp (keys_of names.held)
  pub entries : AreOrdered names

-- ends: single steps lead to what the house gives, and there no rule applies
-- only: they lead to no other end
pub record GoesBySteps (moment : ℕ) (st : State) : Type 0 where
  pub ends : EndsIn moment st (house moment st)
  pub only : (end : State) → EndsIn moment st end → end ≡ house moment st

-- THE HOUSE GOES BY STEPS, each of the lowest rule that applies, to the least id
abbrev pub HouseGoesBySteps : Type 0
HouseGoesBySteps = (moment : ℕ) (st : State) → AreFit st.names → GoesBySteps moment st
