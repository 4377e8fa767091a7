-- What a replica has of names is determined by which updates it took: statements.
use Rattle.std.specs.Prelude.{ℕ, ◌≡◌, ◌↔◌, List}
use Rattle.pg_run.specs.pg_base.declared.id.FileId.{FileId}
use Rattle.pg_run.specs.pg_content.Content.{Among}
use Rattle.pg_run.specs.pg_event.declared.event.Event.{Event}
use Rattle.pg_run.specs.pg_names.Names.{NamesValue, cell_at, own_at}
use Rattle.pg_run.specs.pg_register.declared.flag.Flag.{Flag}
use Rattle.pg_run.specs.pg_register.declared.place.Place.{Place}
use Rattle.pg_run.specs.Laws.{AtEach}
use Rattle.pg_run.specs.Run.{World, run}
use Rattle.pg_run.specs.State.{entry_state, own_state}
use Rattle.pg_run.specs.Took.{Take, Taker}
use Rattle.pg_run.specs.Took.Take.{Began, TookFlag, TookPlace}
use Rattle.pg_run.specs.Took.Taker.{InDir, Itself}

-- ---- the same updates

-- a replica took the same updates of a thing here and there: each place and each flag that it took
-- in one of both it took in the other, in whatever order and however often
pub record AreTheSame (by : Taker) (thing : FileId) (here there : List Take) : Type 0 where
  pub places : (place : Place)
      → Among (TookPlace by thing place) here ↔ Among (TookPlace by thing place) there
  pub flags : (flag : Flag)
      → Among (TookFlag by thing flag) here ↔ Among (TookFlag by thing flag) there

-- so did the replica of a thing with all that it took of names: it began in both or in neither, and
-- took the same of the thing itself and, as a directory, of each child
pub record TookTheSame (file : FileId) (here there : List Take) : Type 0 where
  pub began : Among (Began file) here ↔ Among (Began file) there
  pub own : AreTheSame Itself file here there
  pub children : (child : FileId) → AreTheSame (InDir file) child here there

-- ---- what they come to

-- the same is known of a thing: it is held with one place and the same flags, or is not held; and
-- of each child there is the same entry, or none
pub record HaveTheSame (file : FileId) (here there : NamesValue) : Type 0 where
  pub own : own_at here file ≡ own_at there file
  pub entries : (child : FileId) → cell_at here file child ≡ cell_at there file child

-- of a server in one world, and of one in another or in the same
-- own: the same updates of a thing itself come to the same place and the same flags
-- entry: those that a directory took of a child to the same entry of it
-- names: and where two replicas took the same, their servers have the same
pub record IsDetermined (w : World) (s : ℕ) (v : World) (t : ℕ) : Type 0 where
  pub own : (file : FileId) → AreTheSame Itself file (w.took s) (v.took t)
      → own_state file (w.took s) ≡ own_state file (v.took t)
  pub entry : (dir child : FileId) → AreTheSame (InDir dir) child (w.took s) (v.took t)
      → entry_state dir child (w.took s) ≡ entry_state dir child (v.took t)
  pub names : (file : FileId) → TookTheSame file (w.took s) (v.took t)
      → HaveTheSame file (w.stores s).names (v.stores t).names

-- NAMES ARE DETERMINED: so it is of any two servers, behind the same events or behind others: of
-- one run, be it at two moments of it, or of two
abbrev pub NamesAreDetermined : ℕ → Type 0
NamesAreDetermined servers = (events others : List Event) → AtEach servers (λ s.
    AtEach servers (λ t. IsDetermined (run servers events) s (run servers others) t))
