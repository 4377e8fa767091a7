use Rattle.std.proofs.Common.{rules, ◌≡◌, Ok, Err, ap, sym, subst, ◌∙◌, not}
use Rattle.pg_pieces.specs.pg_call.declared.refusal.Refusal.TheVariants.{ClockEnd}
use Rattle.pg_pieces.specs.pg_store.Store.{is_before_clock_end}
use Rattle.pg_checks.specs.declared.call_error.CallError.{CallError}
use Rattle.pg_checks.specs.declared.paths.Paths.{Paths}
use Rattle.pg_lookup.specs.Walk.{and_then}
use Rattle.pg_checks.specs.Answer.{Tells}
use Rattle.pg_checks.specs.Checks.{in_time, move_along}
use Rattle.pg_checks.specs.Paths.{paths_of}
use Rattle.pg_checks.proofs.Telling.{goes_on, other_found, other_refused, stops}
use Rattle.pg_checks.proofs.checks.move_of.Goals as goal

pub returns-in_err-in_time : goal.returns-in_err-in_time
returns-in_err-in_time c =
    let store = c.args.store.now in
    let paths = c.in_ok-paths.paths in
    let first : paths_of c.args.from.now c.args.to.now ≡ Ok paths = search rules in
    let why : CallError = c.in_err-in_time.field-0.0 in
    let result = c.from_residual-in_err-in_time.result in
    let same : result ≡ Err why = search rules in
    let late : Tells {A = Paths} (Err why) (in_time store paths) = other_refused (not (is_before_clock_end store)) ClockEnd (tt {0}) paths why c.in_err-in_time.ensures in
    let check = and_then (paths_of c.args.from.now c.args.to.now) (in_time store) in
    subst (λ r. Tells r (and_then check (move_along store))) (sym same)
    (stops check (move_along store) why (subst (λ x. Tells {A = Paths} (Err why) (and_then x (in_time store))) (sym first) late))

pub returns : goal.returns
returns c =
    let store = c.args.store.now in
    let paths = c.in_ok-paths.paths in
    let first : paths_of c.args.from.now c.args.to.now ≡ Ok paths = search rules in
    let time : in_time store (tt {0}) ≡ Ok (tt {0}) = search rules in
    goes_on c.move_along.result (and_then (paths_of c.args.from.now c.args.to.now) (in_time store)) (move_along store) paths
    (ap (λ x. and_then x (in_time store)) first ∙ other_found (not (is_before_clock_end store)) ClockEnd (tt {0}) paths time) c.move_along.ensures
