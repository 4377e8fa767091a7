-- A replica that is to go.
use Rattle.std.specs.Prelude.{ℕ, ◌==◌, ◌&&◌, if◌then◌else◌, Option, None, Some, Result, Ok}
use Rattle.std.specs.List.{find}
use Rattle.pg_base.specs.declared.id.FileId.{FileId}
use Rattle.pg_register.specs.declared.flag.Flag.{Flag}
use Rattle.pg_cells.specs.pg_intent.declared.intent.Intent.{Intent}
use Rattle.pg_cells.specs.pg_intent.declared.intent.Intent.TheVariants as intent
use Rattle.pg_cells.specs.pg_msg.declared.work.Work.{Work}
use Rattle.pg_checks.specs.pg_lookup.declared.paths.LookupError.{LookupError}
use Rattle.pg_checks.specs.pg_lookup.Walk.{and_then, refused}
use Rattle.pg_cells.specs.pg_call.declared.call.Target.{Target}
use Rattle.pg_cells.specs.pg_call.declared.refusal.Refusal.{Refusal}
use Rattle.pg_cells.specs.pg_call.declared.reply.Reply.TheVariants.{Leaving}
use Rattle.pg_cells.specs.pg_store.declared.store.Store.{Store}
use Rattle.pg_cells.specs.pg_pieces.Done.{Done, idle}
use Rattle.pg_cells.specs.pg_pieces.Golds.{flags_of}
use Rattle.pg_cells.specs.pg_pieces.Intending.{begin_intent}
use Rattle.pg_cells.specs.pg_pieces.Parting.{stays_for}
use Rattle.pg_checks.specs.Answer.{Answer, answer, answered}
use Rattle.pg_checks.specs.Checks.{target_at}
use Rattle.pg_calls.specs.Demoting.{is_clean_gold, unless_root}

-- ---- the check

abbrev pub refused_for : FileId → Option Refusal → Result FileId LookupError
refused_for file None = Ok file
refused_for file (Some why) = refused why

-- any but the root that nothing keeps here
abbrev pub unless_kept : Store → FileId → Result FileId LookupError
unless_kept store file = refused_for file (stays_for store file)

abbrev pub dropped_at : Store → Target → Result FileId LookupError
dropped_at store target =
    and_then (and_then (target_at store target) unless_root) (unless_kept store)

-- ---- the call

-- the least live gold to which a clean edge leads
abbrev pub clean_gold : Store → FileId → Option Flag
clean_gold store file = find (is_clean_gold store file) (flags_of store file)

abbrev pub leave_of : FileId → Flag → Intent
leave_of file flag = intent.Leave file flag.server flag.birth

-- it is asked for leave; where there is none, which no run comes to, nothing begins
abbrev pub leaving : Store → FileId → Work → Option Flag → Answer
leaving store file work None = answer (idle store work) (Leaving 0)
leaving store file work (Some flag) =
    answer (begin_intent store (leave_of file flag) work) (Leaving flag.server)

abbrev pub drop : Store → Target → Work → Answer
drop store target work = answered store work (dropped_at store target)
    (λ file. leaving store file work (clean_gold store file))
