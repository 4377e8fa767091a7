use Rattle.pg_content.proofs.Covering.{joined_covers, stands_versions, still_covered, written_covers}
use Rattle.pg_content.proofs.laws.covering_goes_on.Goals as goal

pub returns-clause-join : goal.returns-clause-join
returns-clause-join c = λ h k policy heads are m is. (joined_covers h k policy heads are m is).0

pub returns-clause-joined : goal.returns-clause-joined
returns-clause-joined c = λ h k policy heads are m is. (joined_covers h k policy heads are m is).1

pub returns-clause-write : goal.returns-clause-write
returns-clause-write c = written_covers

pub returns-clause-covered : goal.returns-clause-covered
returns-clause-covered c = still_covered

pub returns-clause-versions : goal.returns-clause-versions
returns-clause-versions c = stands_versions
