use Rattle.pg_cells.specs.pg_pieces.Done.{link_of}
use Rattle.theory_flood_pieces.proofs.Settling.{whole_settle}
use Rattle.theory_flood_pieces.proofs.Whole.{whole_acknowledge, whole_entry, whole_flag, whole_place, whole_version, whole_write}
use Rattle.theory_flood_pieces.proofs.laws.servers_stay_whole.Goals as goal

pub returns-clause-places : goal.returns-clause-places
returns-clause-places c = λ f p n s a k. whole_place n s a k f p

pub returns-clause-flags : goal.returns-clause-flags
returns-clause-flags c = λ f p n s a k. whole_flag n s a k f p

pub returns-clause-entries : goal.returns-clause-entries
returns-clause-entries c = λ d e dir n s a k. whole_entry n s a k d e dir

pub returns-clause-versions : goal.returns-clause-versions
returns-clause-versions c = λ f v n s a k. whole_version n s a k f v

pub returns-clause-writes : goal.returns-clause-writes
returns-clause-writes c = λ f stamp ranges n s a held k. whole_write n s a k f stamp ranges

pub returns-clause-answers : goal.returns-clause-answers
returns-clause-answers c = λ from ends q g n s a k. whole_acknowledge n s a k ends.file (link_of from ends) q g

pub returns-clause-rules : goal.returns-clause-rules
returns-clause-rules c = λ work n s a k. whole_settle n s a work k
