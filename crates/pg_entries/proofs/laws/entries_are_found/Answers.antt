use Rattle.pg_entries.proofs.Found.{put_is_found, joined_is_found}
use Rattle.pg_entries.proofs.laws.entries_are_found.Goals as goal

pub returns-clause-put : goal.returns-clause-put
returns-clause-put c = put_is_found

pub returns-clause-joined : goal.returns-clause-joined
returns-clause-joined c = joined_is_found
