-- What a forget removes does not come back in its event.
use Rattle.std.specs.Prelude.{ℕ, ◌≡◌, false, Contains, List}
use Rattle.pg_run.specs.pg_base.declared.id.FileId.{FileId}
use Rattle.pg_run.specs.pg_call.declared.call.Call.TheVariants.{Forget}
use Rattle.pg_run.specs.pg_event.declared.event.Event.{Event}
use Rattle.pg_run.specs.pg_event.declared.event.Event.TheVariants.{Call as Called}
use Rattle.pg_run.specs.pg_msg.declared.update.Update.TheVariants as update
use Rattle.pg_run.specs.pg_names.Names.{is_dir}
use Rattle.pg_run.specs.pg_register.declared.place.Place.{Place}
use Rattle.pg_run.specs.pg_server.declared.input.Input.TheVariants as input
use Rattle.pg_run.specs.Run.{made_behind, next, run}

-- A FORGET STAYS: a dead place that a client's forget makes is of the file that it names, never of
-- a directory, and in that event the house rules make no place of this file
abbrev pub ForgetsStay : ℕ → Type 0
ForgetsStay servers = (events : List Event) (s moment : ℕ) (id file : FileId) (removal : Place)
    → let w = run servers events in
    Contains (next servers w (Called s moment (Forget id))).entry.made (update.Place file removal)
    → removal.live ≡ false
    → (file ≡ id) × (is_dir file ≡ false)
    × ((place : Place) → ¬ (Contains (made_behind (w.stores s) (input.Call moment (Forget id)))
    (update.Place file place)))
