-- What comes of a call, and how a call is refused: with the first reason in the order of the
-- refusals. Then nothing has changed, but that what is not here yet is asked for.
use Rattle.std.specs.Prelude.{◌≡◌, Bool, if◌then◌else◌, Result, Ok, Err}
use Rattle.pg_pieces.specs.pg_msg.declared.work.Work.{Work}
use Rattle.pg_pieces.specs.pg_call.declared.refusal.Refusal.{Refusal}
use Rattle.pg_pieces.specs.pg_call.declared.refusal.Refusal.TheVariants as refusal
use Rattle.pg_pieces.specs.pg_call.declared.reply.Reply.{Reply}
use Rattle.pg_pieces.specs.pg_call.declared.reply.Reply.TheVariants.{Refused}
use Rattle.pg_lookup.specs.declared.paths.LookupError.{LookupError}
use Rattle.pg_lookup.specs.declared.paths.LookupError.TheVariants as stop
use Rattle.pg_lookup.specs.Walk.{refused}
use Rattle.pg_pieces.specs.pg_store.declared.store.Store.{Store}
use Rattle.pg_pieces.specs.Done.{Done}
use Rattle.pg_checks.specs.declared.call_error.CallError.{CallError}
use Rattle.pg_checks.specs.declared.call_error.CallError.TheVariants as denied
use Rattle.pg_checks.specs.Asking.{ask_for}

-- what the server holds then, what comes of the event so far, and what the client is told
pub record Answer : Type 0 where
  pub store : Store
  pub work : Work
  pub reply : Reply

abbrev pub answer : Done → Reply → Answer
answer done reply = record { store = done.store; work = done.work; reply = reply }

-- nothing changes, and the client is told this
abbrev pub told : Store → Work → Reply → Answer
told store work reply = record { store = store; work = work; reply = reply }

-- the call does not go on: it is refused, and what it came to that is not here yet is asked for
abbrev pub deny : Store → LookupError → Work → Answer
deny store (stop.Refused why) work = told store work (Refused why)
deny store (stop.NotYet found) work =
    answer (ask_for store found work) (Refused (refusal.NotYet found.file))

-- the call goes on with what a check found, or does not go on
abbrev pub answered : {A : Type 0} → Store → Work → Result A LookupError → (A → Answer) → Answer
answered store work (Err why) next = deny store why work
answered store work (Ok found) next = next found

-- a call that looks changes nothing where it goes on: this is told of what a check found
abbrev pub replied : {A : Type 0} → Store → Work → Result A LookupError → (A → Reply) → Answer
replied store work check tell = answered store work check (λ found. told store work (tell found))

-- refused where this holds
abbrev pub unless : {A : Type 0} → Bool → Refusal → A → Result A LookupError
unless bad why found = if bad then refused why else Ok found

-- ---- how the program answers a check

-- what was found, or why it does not go on; where memory ran out nothing is said
abbrev pub Tells : {A : Type 0} → Result A CallError → Result A LookupError → Type 0
Tells (Ok found) check = check ≡ Ok found
Tells (Err (denied.Stopped why)) check = check ≡ Err why
Tells (Err denied.OutOfMemory) check = Unit {0}

-- and what it leaves of a call that does not go on: where memory ran out, no answer
abbrev pub Leaves : CallError → Store → Work → Answer → Type 0
Leaves (denied.Stopped why) store work left = left ≡ deny store why work
Leaves denied.OutOfMemory store work left = ⊥
