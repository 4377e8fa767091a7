use Rattle.std.proofs.Common.{◌≡◌, ◌+◌, ◌∷◌, ℕ, List, length, refl, subst, arith}
use Rattle.pg_host.specs.Entries.{start_of}
use Rattle.pg_host.specs.Logs.{IsStart}
use Rattle.pg_host.specs.Starts.{IsUnread}
use Rattle.pg_host.proofs.Folds.{bad_first, bad_later}
use Rattle.pg_host.proofs.Starts.{folded_other, log_fold}
use Rattle.pg_host.proofs.folding.fold_log.Goals as goal

pub returns-in-Err-clause-err : goal.returns-in-Err-clause-err
returns-in-Err-clause-err c =
    bad_first c.args.server c.args.servers (c.args.first.now ∷ c.args.later.now) c.args.first.now c.args.later.now refl c.in-Err.status
    (subst (λ (b : List ℕ). IsUnread 16 (start_of b) c.in-Err.status) c.as_slice.ensures c.in-Err.ensures.err)

pub returns-in-Err-check-clause-err : goal.returns-in-Err-check-clause-err
returns-in-Err-check-clause-err c =
    bad_later c.args.server c.args.servers (c.args.first.now ∷ c.args.later.now) c.args.first.now c.args.later.now refl c.in-Err-check.status c.in-Ok.named.0 c.in-Ok.named.1 (21 + c.len.result)
    (subst (λ (b : List ℕ). IsStart c.in-Ok.named.0 c.in-Ok.named.1 b) c.as_slice.ensures c.in-Ok.ensures.read) (omega (arith, c.len.ensures)) c.in-Err-check.ensures.err

pub returns-in-Ok-check-clause-err : goal.returns-in-Ok-check-clause-err
returns-in-Ok-check-clause-err c =
    folded_other c.args.server c.args.servers c.in-Ok.named.0 c.in-Ok.named.1 c.args.first.now c.args.later.now (subst (λ (b : List ℕ). IsStart c.in-Ok.named.0 c.in-Ok.named.1 b) c.as_slice.ensures c.in-Ok.ensures.read) _ refl
    (λ both. omega (arith, both.0, both.1)) c.in-Ok-check.ensures.read

pub returns-in-Err-fold-clause-err : goal.returns-in-Err-fold-clause-err
returns-in-Err-fold-clause-err c =
    bad_later c.args.server c.args.servers (c.args.first.now ∷ c.args.later.now) c.args.first.now c.args.later.now refl c.in-Err-fold.status c.in-Ok.named.0 c.in-Ok.named.1 (21 + c.len.result)
    (subst (λ (b : List ℕ). IsStart c.in-Ok.named.0 c.in-Ok.named.1 b) c.as_slice.ensures c.in-Ok.ensures.read) (omega (arith, c.len.ensures)) c.in-Err-fold.ensures.err

pub returns-in-Ok-take_again-clause-folded : goal.returns-in-Ok-take_again-clause-folded
returns-in-Ok-take_again-clause-folded c =
    log_fold c.args.server c.args.servers c.in-Ok.named.0 c.in-Ok.named.1 c.args.first.now c.args.later.now (subst (λ (b : List ℕ). IsStart c.in-Ok.named.0 c.in-Ok.named.1 b) c.as_slice.ensures c.in-Ok.ensures.read)
    c.args.skip c.args.node.now.store c.fold.new.server.store c.take_again.new.server.store (omega arith) (omega arith) c.in-Ok-fold.ensures.fold c.in-Ok-take_again.ensures.store
