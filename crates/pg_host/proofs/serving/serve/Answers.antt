use Rattle.std.proofs.Common.{inl, inr, refl, arith}
use Rattle.pg_disk.proofs.Tries.{keeps_none}
use Rattle.pg_disk.specs.Told.{given}
use Rattle.pg_event.specs.declared.status.Status.TheVariants as status
use Rattle.pg_server.specs.declared.input.Input.TheVariants.{Restart}
use Rattle.pg_host.proofs.Ended.{answered_started, answered_unstarted, later_or, memory_part, net_part, runs_no_refusal, unstarted_part}
use Rattle.pg_host.proofs.Readable.{input_read, start_read}
use Rattle.pg_host.proofs.Refused.{no_refusal_memory, no_refusal_net}
use Rattle.pg_host.proofs.Whole.{none_at_start, served_none, served_runs}
use Rattle.pg_host.proofs.serving.serve.Goals as goal

pub returns-in-Err-clause-served : goal.returns-in-Err-clause-served
returns-in-Err-clause-served g c =
    served_none g.N.Net.tells g.C.Clock.tells g.D.Disk.tells c.args.server c.args.servers c.args.port c.args.turns status.NetFault (g.N.Net.told c.args.net.now) (g.N.Net.takes c.args.net.now) (g.C.Clock.told c.args.clock.now) (g.D.Disk.told c.args.disk.now) (g.N.Net.told c.bind.new.self) (g.N.Net.takes c.bind.new.self) (g.D.Disk.told c.args.disk.now)
    net_part (λ tells. inl (c.in-Err.ensures.same tells, λ heard. refl)) c.bind.ensures.takes (λ tells. keeps_none 0 (g.D.Disk.told c.args.disk.now)) (λ tells. none_at_start c.args.server c.args.servers (g.D.Disk.told c.args.disk.now)) (λ tells. input_read c.entries_read_back.ensures.written Restart tt)
    (λ refusal. absurd (no_refusal_net status.NetFault refl refusal))

pub returns-in-Err-room-clause-served : goal.returns-in-Err-room-clause-served
returns-in-Err-room-clause-served g c =
    served_none g.N.Net.tells g.C.Clock.tells g.D.Disk.tells c.args.server c.args.servers c.args.port c.args.turns status.OutOfMemory (g.N.Net.told c.args.net.now) (g.N.Net.takes c.args.net.now) (g.C.Clock.told c.args.clock.now) (g.D.Disk.told c.args.disk.now) (g.N.Net.told c.bind.new.self) (g.N.Net.takes c.bind.new.self) (g.D.Disk.told c.args.disk.now)
    memory_part (λ tells. inr (c.in-Ok.ensures.bound tells)) c.bind.ensures.takes (λ tells. keeps_none 0 (g.D.Disk.told c.args.disk.now)) (λ tells. none_at_start c.args.server c.args.servers (g.D.Disk.told c.args.disk.now)) (λ tells. input_read c.entries_read_back.ensures.written Restart tt)
    (λ refusal. absurd (no_refusal_memory status.OutOfMemory refl refusal))

pub returns-in-Err-start-clause-served : goal.returns-in-Err-start-clause-served
returns-in-Err-start-clause-served g c =
    served_none g.N.Net.tells g.C.Clock.tells g.D.Disk.tells c.args.server c.args.servers c.args.port c.args.turns c.in-Err-start.status (g.N.Net.told c.args.net.now) (g.N.Net.takes c.args.net.now) (g.C.Clock.told c.args.clock.now) (g.D.Disk.told c.args.disk.now) (g.N.Net.told c.bind.new.self) (g.N.Net.takes c.bind.new.self) (g.D.Disk.told c.start.new.disk)
    (unstarted_part g.D.Disk.tells c.args.server c.args.servers (given (g.D.Disk.told c.args.disk.now) 0) (g.D.Disk.faults c.args.disk.now) (g.D.Disk.faults c.start.new.disk) c.in-Err-start.status c.in-Err-start.ensures.err)
    (λ tells. inr (c.in-Ok.ensures.bound tells)) c.bind.ensures.takes c.start.ensures.others c.start.ensures.any_moment (λ tells. input_read c.entries_read_back.ensures.written Restart tt)
    c.in-Err-start.ensures.refused

pub returns-clause-served : goal.returns-clause-served
returns-clause-served g c =
    served_runs g.N.Net.tells g.C.Clock.tells g.D.Disk.tells c.args.server c.args.servers c.args.port c.args.turns c.take_turns.result (g.N.Net.told c.args.net.now) (g.N.Net.takes c.args.net.now) (g.C.Clock.told c.args.clock.now) (g.D.Disk.told c.args.disk.now)
    (g.N.Net.told c.bind.new.self) (g.N.Net.takes c.bind.new.self) (g.D.Disk.told c.start.new.disk) _ _
    (g.N.Net.told c.take_turns.new.net) (g.N.Net.takes c.take_turns.new.net) (g.C.Clock.told c.take_turns.new.clock) (g.D.Disk.told c.take_turns.new.disk) c.take_turns.new.log c.take_turns.new.node.store
    c.in-Ok.ensures.bound c.bind.ensures.takes c.in-Ok-start.started.2 c.in-Ok-start.ensures.started c.start.ensures.any_moment c.start.ensures.others (λ tells. input_read c.entries_read_back.ensures.written Restart tt)
    (λ tells. start_read c.entries_read_back.ensures.written c.args.server c.args.servers (omega (arith, c.requires.last, c.requires.most)) c.requires.most)
    (runs_no_refusal (g.N.Net.faults c.bind.new.self) (g.N.Net.faults c.take_turns.new.net) (g.D.Disk.faults c.start.new.disk) (g.D.Disk.faults c.take_turns.new.disk) c.take_turns.result c.take_turns.ensures.end) c.take_turns.ensures.runs

pub returns-in-Err-start-clause-found : goal.returns-in-Err-start-clause-found
returns-in-Err-start-clause-found g c = λ tells.
    answered_unstarted c.args.server c.args.servers (g.N.Net.faults c.args.net.now) (g.N.Net.faults c.bind.new.self) (g.D.Disk.faults c.args.disk.now) (g.D.Disk.faults c.start.new.disk)
    (given (g.D.Disk.told c.args.disk.now) 0) c.in-Err-start.status g.D.Disk.tells tells c.in-Err-start.ensures.err

pub returns-clause-found : goal.returns-clause-found
returns-clause-found g c = λ tells.
    let st = c.in-Ok-start.ensures.started in
    answered_started c.args.server c.args.servers (g.N.Net.faults c.args.net.now) (g.N.Net.faults c.take_turns.new.net) (g.D.Disk.faults c.args.disk.now) (g.D.Disk.faults c.take_turns.new.disk)
    (given (g.D.Disk.told c.args.disk.now) 0) c.take_turns.result (st.folded.old, record { entries = st.entries; opens = st.opened tells; is = st.folded.is })
    (later_or (g.N.Net.faults c.args.net.now) (g.N.Net.faults c.bind.new.self) (g.N.Net.faults c.take_turns.new.net) (g.N.Net.faults c.take_turns.new.net)
    (g.D.Disk.faults c.args.disk.now) (g.D.Disk.faults c.start.new.disk) (g.D.Disk.faults c.take_turns.new.disk) (g.D.Disk.faults c.take_turns.new.disk)
    c.bind.ensures.cause.later (omega arith) c.start.ensures.later (omega arith) c.take_turns.result c.take_turns.ensures.end)
