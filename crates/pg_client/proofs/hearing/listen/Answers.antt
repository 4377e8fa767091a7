use Rattle.std.proofs.Common.{◌∙◌, sym, arith}
use Rattle.pg_net.specs.Net.{given_by}
use Rattle.pg_client.proofs.Hears.{heard_failed, heard_more, heard_reply, heard_unread}
use Rattle.pg_client.proofs.hearing.listen.Goals as goal

pub returns-in-Err-clause-listens : goal.returns-in-Err-clause-listens
returns-in-Err-clause-listens g c =
    heard_failed g.N.Net.tells c.takes._count (g.N.Net.told c.args.net.now) (g.N.Net.told c.takes.net) (g.N.Net.takes c.args.net.now) (g.N.Net.takes c.takes.net) c.takes.invariant.heard
    (g.N.Net.told c.take.new.self) (g.N.Net.takes c.take.new.self) (omega arith) c.in-Err.ensures.same c.in-Err.ensures.failed

pub returns-in-Err-heard-clause-listens : goal.returns-in-Err-heard-clause-listens
returns-in-Err-heard-clause-listens g c =
    heard_unread g.N.Net.tells c.takes._count (g.N.Net.told c.args.net.now) (g.N.Net.told c.takes.net) (g.N.Net.takes c.args.net.now) (g.N.Net.takes c.takes.net) c.takes.invariant.heard
    (g.N.Net.told c.take.new.self) (g.N.Net.takes c.take.new.self) (given_by c.in-Ok.answer c.take.new.buf)
    (λ tells. (c.in-Ok.ensures.taken tells).given) (λ tells. (c.in-Ok.ensures.taken tells).sent) (λ tells. (c.in-Ok.ensures.taken tells).bound) c.in-Ok.ensures.takes (omega arith)

pub returns-in-Some-clause-listens : goal.returns-in-Some-clause-listens
returns-in-Some-clause-listens g c =
    heard_reply g.N.Net.tells c.takes._count (g.N.Net.told c.args.net.now) (g.N.Net.told c.takes.net) (g.N.Net.takes c.args.net.now) (g.N.Net.takes c.takes.net) c.takes.invariant.heard
    (g.N.Net.told c.take.new.self) (g.N.Net.takes c.take.new.self) (given_by c.in-Ok.answer c.take.new.buf)
    (λ tells. (c.in-Ok.ensures.taken tells).given) (λ tells. (c.in-Ok.ensures.taken tells).sent) (λ tells. (c.in-Ok.ensures.taken tells).bound) c.in-Ok.ensures.takes
    c.in-Some.reply (sym c.in-Ok-heard.ensures ∙ c.in-Some.is) (omega arith)

pub takes-preserved : goal.takes-preserved
takes-preserved g c = record {
  heard = heard_more g.N.Net.tells c.takes._count (g.N.Net.told c.args.net.now) (g.N.Net.told c.takes.net) (g.N.Net.takes c.args.net.now) (g.N.Net.takes c.takes.net) c.takes.invariant.heard
      (g.N.Net.told c.take.new.self) (g.N.Net.takes c.take.new.self) (given_by c.in-Ok.answer c.take.new.buf)
      (λ tells. (c.in-Ok.ensures.taken tells).given) (λ tells. (c.in-Ok.ensures.taken tells).sent) (λ tells. (c.in-Ok.ensures.taken tells).bound) c.in-Ok.ensures.takes
      (sym c.in-Ok-heard.ensures ∙ c.in-None.is);
  later = omega (arith, c.takes.invariant.later, c.take.ensures.cause.later);
}
