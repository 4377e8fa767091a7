-- Calls that make names, move them and take them away.
use Rattle.std.specs.Prelude.{ℕ, true, false, ◌+◌, List}
use Rattle.pg_base.specs.declared.id.FileId.{FileId}
use Rattle.pg_base.specs.declared.id.Kind.{Kind}
use Rattle.pg_base.specs.declared.id.Kind.TheVariants.{Dir, File}
use Rattle.pg_base.specs.declared.policy.Policy.{Policy}
use Rattle.pg_base.specs.declared.policy.Policy.TheVariants.{Last}
use Rattle.pg_register.specs.declared.place.Place.{Place}
use Rattle.pg_cells.specs.pg_msg.declared.work.Work.{Work}
use Rattle.pg_cells.specs.pg_names.Names.{blank_own, own_or_blank}
use Rattle.pg_cells.specs.pg_call.declared.reply.Reply.TheVariants.{Done as IsDone, Made}
use Rattle.pg_cells.specs.pg_store.declared.store.Store.{Store}
use Rattle.pg_cells.specs.pg_store.Beginning.{begin}
use Rattle.pg_cells.specs.pg_store.Births.{draw_birth, with_birth}
use Rattle.pg_cells.specs.pg_store.Seen.{server_of}
use Rattle.pg_cells.specs.pg_pieces.Done.{Done, idle}
use Rattle.pg_cells.specs.pg_pieces.Making.{raise_flag}
use Rattle.pg_checks.specs.declared.checks.Move.{Move}
use Rattle.pg_checks.specs.declared.checks.NewName.{NewName}
use Rattle.pg_checks.specs.Answer.{Answer, answer, answered}
use Rattle.pg_checks.specs.Checks.{empty_dir_at, file_at, move_of, new_name}
use Rattle.pg_calls.specs.Making.{drawn, first_ranges, make_place, make_version}

-- the id that the server gives out next
abbrev pub next_id : Store → Kind → FileId
next_id store kind =
    record { kind = kind; server = server_of store; number = store.files + 1 }

-- it was given out
abbrev pub with_id : Store → Store
with_id store = record store { files = store.files + 1 }

-- a live place with the next stamp
abbrev pub place_in : Store → ℕ → NewName → Place
place_in store moment new =
    record { stamp = drawn store moment; parent = new.dir; name = new.name; live = true }

-- a full replica of a thing begins under a fresh birth: of the thing nothing is known
abbrev pub begun : Store → FileId → Policy → Store
begun store id policy =
    begin (with_birth store) id (draw_birth store) policy (blank_own id) true

-- its server raises its flag
abbrev pub raised : FileId → Done → Done
raised id done = raise_flag done.store id done.work

-- a full replica of a new thing begins, which has a place and the server's raised flag
abbrev pub with_thing : Store → Work → FileId → Policy → NewName → Done
with_thing store work id policy new =
    raised id (make_place id (place_in store work.now new) (idle (begun store id policy) work))

-- a new directory
abbrev pub mkdir : Store → List ℕ → Work → Answer
mkdir store text work =
    answered store work (new_name store (next_id store Dir) text)
    (λ new. answer (with_thing (with_id store) work (next_id store Dir) Last new)
    (Made (next_id store Dir)))

-- the first version of a file has no byte
abbrev pub with_first_version : FileId → Done → Done
with_first_version id done = make_version id (drawn done.store done.work.now) first_ranges done

-- a new file, which has this policy
abbrev pub create : Store → List ℕ → Policy → Work → Answer
create store text policy work =
    answered store work (new_name store (next_id store File) text)
    (λ new. answer
    (with_first_version (next_id store File)
    (with_thing (with_id store) work (next_id store File) policy new))
    (Made (next_id store File)))

-- a new live place
abbrev pub moved : Store → Work → Move → Done
moved store work move =
    make_place move.thing (place_in store work.now move.to) (idle store work)

abbrev pub rename : Store → List ℕ → List ℕ → Work → Answer
rename store from to work =
    answered store work (move_of store from to) (λ move. answer (moved store work move) IsDone)

-- a dead place with the parent and the name that the thing has
abbrev pub dead_place : Store → ℕ → FileId → Place
dead_place store moment file = record {
  stamp = drawn store moment;
  parent = (own_or_blank store.names file).place.parent;
  name = (own_or_blank store.names file).place.name;
  live = false;
}

abbrev pub taken_away : Store → Work → FileId → Done
taken_away store work file =
    make_place file (dead_place store work.now file) (idle store work)

abbrev pub unlink : Store → List ℕ → Work → Answer
unlink store text work =
    answered store work (file_at store text)
    (λ file. answer (taken_away store work file) IsDone)

abbrev pub rmdir : Store → List ℕ → Work → Answer
rmdir store text work =
    answered store work (empty_dir_at store text)
    (λ dir. answer (taken_away store work dir) IsDone)
