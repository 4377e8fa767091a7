use Rattle.law_births.proofs.Given.{fills_stand, ids_free}
use Rattle.law_births.proofs.Owing.{byes_begin_where_one_goes, byes_end_by_answers, each_peer_is_told}
use Rattle.law_births.proofs.Went.{births_end_by_leave, edges_go_by_word, what_goes_is_over}
use Rattle.law_births.proofs.laws.events_of_leaving.Goals as goal

pub returns-clause-edges : goal.returns-clause-edges
returns-clause-edges c n intends = edges_go_by_word n (fills_stand n intends) (ids_free n)

pub returns-clause-ends : goal.returns-clause-ends
returns-clause-ends c n intends = births_end_by_leave n (fills_stand n intends) (ids_free n)

pub returns-clause-over : goal.returns-clause-over
returns-clause-over c n intends = what_goes_is_over n (fills_stand n intends) (ids_free n)

pub returns-clause-begin : goal.returns-clause-begin
returns-clause-begin c n intends = byes_begin_where_one_goes n intends

pub returns-clause-told : goal.returns-clause-told
returns-clause-told c n intends = each_peer_is_told n intends

pub returns-clause-answered : goal.returns-clause-answered
returns-clause-answered c n intends = byes_end_by_answers n intends
