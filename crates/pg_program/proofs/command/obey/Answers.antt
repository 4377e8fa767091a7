use Rattle.std.proofs.Common.{refl, rules, subst, sym}
use Rattle.pg_command.specs.Words.{AreNumbers, IsCalling, IsCommand, IsNode}
use Rattle.pg_program.proofs.command.obey.Goals as goal

pub make-requires-clause-servers : goal.make-requires-clause-servers
make-requires-clause-servers g c = let h : AreNumbers c.in-Make.n = subst IsCommand c.in-Make.is c.requires in h.servers

pub make-requires-clause-events : goal.make-requires-clause-events
make-requires-clause-events g c = let h : AreNumbers c.in-Make.n = subst IsCommand c.in-Make.is c.requires in h.events

pub soak-requires-clause-servers : goal.soak-requires-clause-servers
soak-requires-clause-servers g c = let h : AreNumbers c.in-Soak.n = subst IsCommand c.in-Soak.is c.requires in h.servers

pub soak-requires-clause-events : goal.soak-requires-clause-events
soak-requires-clause-events g c = let h : AreNumbers c.in-Soak.n = subst IsCommand c.in-Soak.is c.requires in h.events

pub call-requires : goal.call-requires
call-requires g c = let h : IsCalling c.in-Call.server c.in-Call.port c.in-Call.request = subst IsCommand c.in-Call.is c.requires in h

pub returns-in-Replay : goal.returns-in-Replay
returns-in-Replay g c = rw c.in-Replay.is (record {
  acts = record {
    done = λ e. rw (sym c.handed-meters.ensures) (c.replay.ensures.done e);
    whole = c.replay.ensures.whole;
    whole_first = c.replay.ensures.whole_first;
    prefix = λ e. rw (sym c.handed-meters.ensures) (c.replay.ensures.prefix e);
    read = c.replay.ensures.read;
    write = c.replay.ensures.write;
    long = c.replay.ensures.long;
    short = c.replay.ensures.short;
    bad = c.replay.ensures.bad;
    whole_bad = c.replay.ensures.whole_bad;
    first_bad = c.replay.ensures.first_bad;
    complete = c.replay.ensures.complete;
    ends = c.replay.ensures.ends;
  };
  keeps = (refl, refl, refl, c.replay.ensures.untouched);
})

pub returns-in-Make : goal.returns-in-Make
returns-in-Make g c = rw c.in-Make.is (record {
  acts = record {
    done = λ e. (_, refl, c.make.ensures.done e);
    prefix = λ e. (_, refl, c.make.ensures.prefix e);
    write = c.make.ensures.write;
    complete = c.make.ensures.complete;
    ends = c.make.ensures.ends;
  };
  keeps = (refl, refl, refl, refl, c.make.ensures.untouched);
})

pub returns-in-Soak : goal.returns-in-Soak
returns-in-Soak g c = rw c.in-Soak.is (record {
  acts = record {
    done = λ e. (_, refl, c.soak.ensures.done e);
    prefix = λ e. (_, refl, c.soak.ensures.prefix e);
    write = c.soak.ensures.write;
    complete = c.soak.ensures.complete;
    ends = c.soak.ensures.ends;
  };
  keeps = (refl, refl, refl, refl, c.soak.ensures.untouched);
})

pub returns-in-Node : goal.returns-in-Node
returns-in-Node g c = rw c.in-Node.is (record {
  acts = record {
    does = rw (sym c.as_slice.ensures) c.node.ensures.does;
    safe = rw (sym c.as_slice.ensures) c.node.ensures.safe;
    answers = rw (sym c.as_slice.ensures) c.node.ensures.answers;
    ends = c.node.ensures.end;
  };
  keeps = (refl, refl);
})

pub returns-in-Call : goal.returns-in-Call
returns-in-Call g c = rw c.in-Call.is (record {
  acts = record {
    does = c.call.ensures.asks;
    net = c.call.ensures.net;
    write = c.call.ensures.write;
    ends = c.call.ensures.ends;
  };
  keeps = (refl, refl, refl);
})

pub returns-in-Help : goal.returns-in-Help
returns-in-Help g c = rw c.in-Help.is (record {
  acts = record {
    done = λ e. let x = c.help.ensures.done e in (x.0, tt, x.1);
    prefix = λ e. let x = c.help.ensures.prefix e in (x.0, tt, x.1);
    write = c.help.ensures.write;
    complete = c.help.ensures.complete;
    ends = c.help.ensures.ends;
  };
  keeps = (refl, refl, refl, refl, c.help.ensures.untouched);
})
