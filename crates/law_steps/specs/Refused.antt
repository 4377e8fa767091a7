-- What a step leaves that tells a refusal, of a world before it and behind it.
use Rattle.std.specs.Prelude.{ℕ, ◌≡◌, ◌≢◌, ◌++◌, [], ◌∷◌, false, None, Some}
use Rattle.law_refused.specs.Refusals.{AsksFor}
use Rattle.pg_run.specs.pg_base.declared.id.FileId.{FileId}
use Rattle.pg_run.specs.pg_call.declared.call.Call.{Call}
use Rattle.pg_run.specs.pg_call.declared.refusal.Refusal.{Refusal}
use Rattle.pg_run.specs.pg_call.declared.refusal.Refusal.TheVariants.{NotYet}
use Rattle.pg_run.specs.pg_call.declared.reply.Reply.TheVariants.{Refused}
use Rattle.pg_run.specs.pg_event.declared.event.Event.{Event}
use Rattle.pg_run.specs.pg_event.declared.event.Event.TheVariants.{Call as Called}
use Rattle.pg_world.specs.Played.{Played, held, next_entry}

-- the world behind a step by this event that did not run out of memory
abbrev pub stepped : Played → Event → Played
stepped p event =
    record { servers = p.servers; events = p.events ++ event ∷ []; failed = false }

-- The step is not void, made nothing, and no other server changed. For any reason but `NotYet` the
-- server that was called is as it was too, and nothing was sent. With `NotYet` that thing is asked
-- for, and nothing else changed or was sent
pub record RefusedStepLeaves (p : Played) (event : Event) (server : ℕ) (why : Refusal)
    : Type 0 where
  pub void : (next_entry p event).void ≡ None
  pub made : (next_entry p event).made ≡ []
  pub still : (s : ℕ) → s ≢ server → held (stepped p event) s ≡ held p s
  pub other : ((file : FileId) → why ≢ NotYet file)
      → (held (stepped p event) server ≡ held p server) × ((next_entry p event).sent ≡ [])
  pub missing : (file : FileId) → why ≡ NotYet file
      → AsksFor (held p server) (held (stepped p event) server) file (next_entry p event).sent

-- wherever a step tells a client that its call was refused
abbrev pub RefusedStepsChangeNothing : Type 0
RefusedStepsChangeNothing = (p : Played) (server moment : ℕ) (call : Call) (why : Refusal)
    → (next_entry p (Called server moment call)).reply ≡ Some (Refused why)
    → RefusedStepLeaves p (Called server moment call) server why
