use Rattle.std.proofs.Common.{rules, ℕ, ◌≡◌, List, Result, Ok, Err, not, subst, sym}
use Rattle.pg_pieces.specs.pg_call.declared.refusal.Refusal.TheVariants.{ClockEnd}
use Rattle.pg_pieces.specs.pg_store.Store.{is_before_clock_end}
use Rattle.pg_lookup.specs.declared.paths.LookupError.{LookupError}
use Rattle.pg_lookup.specs.Walk.{and_then, reach_parent}
use Rattle.pg_checks.specs.declared.checks.NewName.{NewName}
use Rattle.pg_checks.specs.declared.call_error.CallError.{CallError}
use Rattle.pg_checks.specs.Answer.{Tells}
use Rattle.pg_checks.specs.Checks.{in_time, new_name_in}
use Rattle.pg_checks.specs.Paths.{new_path_of}
use Rattle.pg_checks.proofs.Telling.{other_refused, stops}
use Rattle.pg_checks.proofs.checks.new_name.Goals as goal

pub returns-in_err-in_time : goal.returns-in_err-in_time
returns-in_err-in_time c =
    let store = c.args.store.now in
    let path : List (List ℕ) = c.in_ok-path.path in
    let next : List (List ℕ) → Result NewName LookupError = λ parts. and_then (reach_parent store.names parts) (new_name_in store.names c.args.child parts) in
    let first : new_path_of c.args.text.now ≡ Ok path = search rules in
    let why : CallError = c.in_err-in_time.field-0.0 in
    let same : c.from_residual-in_err-in_time.result ≡ Err why = search rules in
    let late : Tells {A = List (List ℕ)} (Err why) (in_time store path) =
    other_refused (not (is_before_clock_end store)) ClockEnd (tt {0}) path why c.in_err-in_time.ensures in
    let check = and_then (new_path_of c.args.text.now) (in_time store) in
    subst (λ r. Tells r (and_then check next)) (sym same)
    (stops check next why (subst (λ x. Tells {A = List (List ℕ)} (Err why) (and_then x (in_time store))) (sym first) late))
