use Rattle.std.proofs.Common.{◌≡◌, ◌∷◌, ℕ, List, sym, subst}
use Rattle.pg_host.specs.Starts.{IsNoFold}
use Rattle.pg_host.proofs.Starts.{folded_some}
use Rattle.pg_host.proofs.folding.folded.Goals as goal

pub returns-in-Ok-fold_log-clause-folded : goal.returns-in-Ok-fold_log-clause-folded
returns-in-Ok-fold_log-clause-folded c =
    folded_some c.args.server c.args.servers c.args.checkpoint c.args.entries.now c.in-Some.first.now c.in-Some.later.now c.in-Some.ensures.cases.0
    c.in-Ok.begun.1 c.in-Ok.begun.0.store c.fold_log.new.node.store c.in-Ok.ensures.on c.in-Ok-fold_log.ensures.folded

pub returns-in-Err-fold_log-clause-err : goal.returns-in-Err-fold_log-clause-err
returns-in-Err-fold_log-clause-err c =
    subst (λ (es : List (List ℕ)). IsNoFold c.args.server c.args.servers es c.in-Err-fold_log.status) (sym c.in-Some.ensures.cases.0) c.in-Err-fold_log.ensures.err
