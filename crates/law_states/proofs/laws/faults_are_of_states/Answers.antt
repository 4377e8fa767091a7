use Rattle.law_states.proofs.Places.{bad, long, memory, short, state_fault, tail}
use Rattle.pg_packet_fields.specs.declared.error.PacketError.TheVariants.{OutOfMemory, Short, BadTag, TooLong, Tail}
use Rattle.law_states.proofs.laws.faults_are_of_states.Goals as goal

pub returns : goal.returns
returns c = record {
  bad = λ bytes place width e. bad bytes place (state_fault bytes (BadTag place) width e);
  long = λ bytes place width e. long bytes place (state_fault bytes (TooLong place) width e);
  short = λ bytes place width e. short bytes place (state_fault bytes (Short place) width e);
  tail = λ bytes place width e. tail bytes place (state_fault bytes (Tail place) width e);
  memory = λ bytes width e. memory bytes (state_fault bytes OutOfMemory width e);
}
