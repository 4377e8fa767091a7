use Rattle.std.proofs.Common.{ap, length, arith, inl}
use Rattle.pg_base.proofs.Parts.{not_cut}
use Rattle.pg_journal_lines.proofs.Behinds.{printed_cut}
use Rattle.pg_journal.proofs.journal.first_line.Goals as goal

pub returns-in_default-clause-fault : goal.returns-in_default-clause-fault
returns-in_default-clause-fault c f e = inl (λ h. not_cut 10 c.args.text.now h.0 h.1 c.in_default.ensures.none h.2, cc)

pub returns-in-None-clause-lacks : goal.returns-in-None-clause-lacks
returns-in-None-clause-lacks c f e = record {
  some = λ q. let n = ap length q in let some = c.requires in omega arith;
  none = λ line rest fits same.
      let none = rw c.in-None.is at c.in_ok-line.ensures.none in
      none line fits (printed_cut c.args.text.now c.in-Some.body.now c.in-Some.rest.now line rest fits c.in-Some.ensures.first c.in-Some.ensures.whole same);
}
