-- The house rules, behind the first effect of an event.
use Rattle.std.specs.Prelude.{if◌then◌else◌, List, [], ◌∷◌, drop, length}
use Rattle.pg_base.specs.declared.id.FileId.{FileId}
use Rattle.pg_pieces.specs.pg_msg.declared.work.Touched.{Touched}
use Rattle.pg_pieces.specs.pg_msg.declared.work.Work.{Work}
use Rattle.pg_pieces.specs.pg_house.House.{house}
use Rattle.pg_pieces.specs.pg_house.Work.{State, state_of}
use Rattle.pg_pieces.specs.pg_store.declared.store.Store.{Store}
use Rattle.pg_pieces.specs.pg_store.Store.{touch, with_names}
use Rattle.pg_pieces.specs.Done.{Done, idle}
use Rattle.pg_pieces.specs.Golds.{goldless, is_goldless}
use Rattle.pg_pieces.specs.Making.{raise_flag}

-- each of these keys is touched, in their order
abbrev pub touch_all : Store → List Touched → Store
touch_all store [] = store
touch_all store (t ∷ ts) = touch_all (touch store t.file t.key) ts

-- the rules left this: the keys that they say they changed are touched
abbrev pub with_state : Store → Work → State → Done
with_state store work st = record {
  store = touch_all (with_names store st.names) (drop (length work.touched) st.work.touched);
  work = st.work;
}

-- the house rules run until none applies, and what they change is touched
abbrev pub rules : Store → Work → Done
rules store work = with_state store work (house work.now (state_of store.names work))

abbrev pub ruled : Done → Done
ruled done = rules done.store done.work

-- ---- golds

-- where a thing sees no live gold the server raises its flag of it, and the rules run again, by
-- which the flag passes to the cells for the thing
abbrev pub raise_gold : Store → FileId → Work → Done
raise_gold store file work =
    if is_goldless store file then ruled (raise_flag store file work) else idle store work

-- of each of these, in their order
abbrev pub raise_golds : List FileId → Done → Done
raise_golds [] done = done
raise_golds (file ∷ files) done = raise_golds files (raise_gold done.store file done.work)

abbrev pub golds_raised : Done → Done
golds_raised done = raise_golds (goldless done.store) done

-- the house rules run until none applies, and then each thing that sees no live gold becomes one,
-- by id
abbrev pub settle : Store → Work → Done
settle store work = golds_raised (rules store work)
