use Rattle.law_written.proofs.laws.packets_are_apart.Goals as goal

pub returns : goal.returns
returns c = λ rest same. c.packets_read_back.ensures.apart c.args.a.now c.args.b.now rest c.packet_is_whole.ensures c.packet_is_whole-2.ensures same
