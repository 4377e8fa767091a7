use Rattle.pg_log.proofs.Unique.{opens_once, one_place, never_both}
use Rattle.pg_log.proofs.laws.files_open_once.Goals as goal

pub returns-clause-entries : goal.returns-clause-entries
returns-clause-entries c = opens_once

pub returns-clause-place : goal.returns-clause-place
returns-clause-place c = one_place

pub returns-clause-never_both : goal.returns-clause-never_both
returns-clause-never_both c = never_both
