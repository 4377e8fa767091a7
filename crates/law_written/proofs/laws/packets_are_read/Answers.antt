use Rattle.law_written.proofs.laws.packets_are_read.Goals as goal

pub returns : goal.returns
returns c = record {
  whole = c.packet_is_whole.ensures;
  read = λ few. c.packets_read_back.ensures.written c.args.packet.now c.packet_is_whole.ensures few;
}
