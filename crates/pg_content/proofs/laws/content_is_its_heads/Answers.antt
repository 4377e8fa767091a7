use Rattle.pg_content.proofs.Standing.{among_head, head_among, same_content}
use Rattle.pg_content.proofs.StandsWritten.{may_be_made, stands_later, stands_written}
use Rattle.pg_content.proofs.StandsJoined.{stands_joined}
use Rattle.pg_content.proofs.HeadsOf.{content_is, content_stands}
use Rattle.pg_content.proofs.laws.content_is_its_heads.Goals as goal

pub returns-clause-join : goal.returns-clause-join
returns-clause-join c = λ h k content old new f m is more. stands_joined h k content old new f m is more

pub returns-clause-write : goal.returns-clause-write
returns-clause-write c = λ m h k content set f based. stands_written m h k content set f based

pub returns-clause-later : goal.returns-clause-later
returns-clause-later c = λ m h k content set f. stands_later m h k content set f

pub returns-clause-heads : goal.returns-clause-heads
returns-clause-heads c = λ h k content set f m is. (head_among content h k set f m is, among_head content h k set f m is)

pub returns-clause-same : goal.returns-clause-same
returns-clause-same c = same_content

pub returns-clause-whole : goal.returns-clause-whole
returns-clause-whole c = λ h k content set f. content_is h k content set f

pub returns-clause-closed : goal.returns-clause-closed
returns-clause-closed c = λ policy h k set closed. content_stands policy h k set closed

pub returns-clause-next : goal.returns-clause-next
returns-clause-next c = λ m h k content set f based. may_be_made m h content set f based k
