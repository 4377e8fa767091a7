use Rattle.law_births.proofs.Alone.{greater_births_replace_edges, links_name_the_sender}
use Rattle.law_births.proofs.Given.{fills_stand, ids_free}
use Rattle.law_births.proofs.laws.edges_follow_births.Goals as goal

pub returns-clause-greater : goal.returns-clause-greater
returns-clause-greater c n intends = greater_births_replace_edges n (fills_stand n intends) (ids_free n)

pub returns-clause-sender : goal.returns-clause-sender
returns-clause-sender c n intends = links_name_the_sender n (fills_stand n intends) (ids_free n)
