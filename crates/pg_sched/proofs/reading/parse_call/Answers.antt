use Rattle.std.proofs.Common.{◌≡◌, ◌-◌, ◌∷◌, [], Bor, List, ℕ, arith, drop, length, take}
use Rattle.std.proofs.lemmas.Result.{IfErr-weaker}
use Rattle.pg_call.specs.declared.error.WordsError.TheVariants.{Bad}
use Rattle.pg_call.specs.declared.fault.Fault.{Fault}
use Rattle.pg_sched.specs.Cause.{IsCalledCause, IsRestCause}
use Rattle.pg_sched.specs.Fields.{called_fields}
use Rattle.pg_sched.proofs.Words.{called_there}
use Rattle.pg_sched.proofs.reading.parse_call.Goals as goal
use Rattle.pg_words.proofs.ListWords.{texts}
use Rattle.pg_words.proofs.WordIndexes.{at}

pub returns-clause-bad : goal.returns-clause-bad
returns-clause-bad c =
    let ws = c.args.words.now in
    let d : Bor (List ℕ) = record { ref_ptr = (0, 0); now = [] } in
    let kind = c.in-Some.kind in
    IfErr-weaker c.named_of.result
    (λ e. (f : Fault) → e ≡ Bad f → IsRestCause (called_fields kind) (at ws d 0 ∷ at ws d 1 ∷ texts (take (length ws - 3) (drop 3 ws))) f)
    (λ e. (f : Fault) → e ≡ Bad f → IsCalledCause (texts ws) f)
    (λ e h f q. called_there ws d kind f (omega arith) c.in-Some.ensures.found (h f q)) c.named_of.ensures.bad
