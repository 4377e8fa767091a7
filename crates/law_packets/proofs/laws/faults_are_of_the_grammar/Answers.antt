use Rattle.law_packets.proofs.Grammar.{bad, long, memory, short, tail}
use Rattle.law_packets.proofs.laws.faults_are_of_the_grammar.Goals as goal

pub returns : goal.returns
returns c = record { bad = bad 40000; long = long 40000; short = short 40000; tail = tail 40000; memory = memory 40000 }
