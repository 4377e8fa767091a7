-- A gold replica that is to be so no more.
use Rattle.std.specs.Prelude.{Bool, ◌&&◌, not, if◌then◌else◌, Result}
use Rattle.std.specs.List.{list_any}
use Rattle.pg_base.specs.declared.id.FileId.{FileId}
use Rattle.pg_register.specs.declared.flag.Flag.{Flag}
use Rattle.pg_register.specs.Flag.{is_live}
use Rattle.pg_cells.specs.pg_msg.declared.work.Work.{Work}
use Rattle.pg_cells.specs.pg_house.Returning.{is_root}
use Rattle.pg_checks.specs.pg_lookup.declared.paths.LookupError.{LookupError}
use Rattle.pg_checks.specs.pg_lookup.Walk.{and_then}
use Rattle.pg_cells.specs.pg_call.declared.call.Target.{Target}
use Rattle.pg_cells.specs.pg_call.declared.refusal.Refusal.TheVariants.{LastGold, Root}
use Rattle.pg_cells.specs.pg_call.declared.reply.Reply.TheVariants.{Done as IsDone}
use Rattle.pg_cells.specs.pg_store.declared.store.Store.{Store}
use Rattle.pg_cells.specs.pg_store.Links.{is_clean}
use Rattle.pg_cells.specs.pg_store.Seen.{removed_of}
use Rattle.pg_cells.specs.pg_pieces.Done.{Done, idle}
use Rattle.pg_cells.specs.pg_pieces.Golds.{flags_of, is_gold}
use Rattle.pg_cells.specs.pg_pieces.Making.{lower_flag}
use Rattle.pg_checks.specs.Answer.{Answer, answer, answered, unless}
use Rattle.pg_checks.specs.Checks.{target_at}

-- ---- another gold replica that has it all

-- the flag of a live gold replica, to which there is an edge with nothing unacknowledged
abbrev pub is_clean_gold : Store → FileId → Flag → Bool
is_clean_gold store file flag =
    is_live (removed_of store) flag && is_clean store file flag.server flag.birth

-- a clean edge matches a raised flag of a live server
abbrev pub has_clean_gold : Store → FileId → Bool
has_clean_gold store file =
    list_any (is_clean_gold store file) (flags_of store file)

-- ---- the check

abbrev pub unless_root : FileId → Result FileId LookupError
unless_root file = unless (is_root file) Root file

-- any but the root, also one that is not gold: else, where no clean edge matches a raised flag of a
-- live server, it is refused
abbrev pub unless_last : Store → FileId → Result FileId LookupError
unless_last store file = unless (not (has_clean_gold store file)) LastGold file

abbrev pub demoted_at : Store → Target → Result FileId LookupError
demoted_at store target =
    and_then (and_then (target_at store target) unless_root) (unless_last store)

-- ---- the call

-- the server lowers its flag; what is not gold stays as it is
abbrev pub lowered : Store → FileId → Work → Done
lowered store file work =
    if is_gold store file then lower_flag store file work else idle store work

abbrev pub demote : Store → Target → Work → Answer
demote store target work =
    answered store work (demoted_at store target)
    (λ file. answer (lowered store file work) IsDone)
