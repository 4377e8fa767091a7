use Rattle.std.proofs.Common.{◌≡◌, sym, ◌∙◌, arith, Some, decimal}
use Rattle.std.proofs.lemmas.Fmt.{decimal_injective}
use Rattle.std.proofs.lemmas.Bool.Decides.{Decides-eqb}
use Rattle.std.proofs.lemmas.List.{append_cancel_left}
use Rattle.std.proofs.lemmas.Slice.Eq.{strip_prefix_is}
use Rattle.pg_sched.proofs.Lines.{format}
use Rattle.pg_sched.proofs.schedule.count_in.Goals as goal
use Rattle.pg_sched.proofs.schedule.count_in.Goals.{then-servers-eq0-via-then-servers-eq0, then-servers-eq0-via-else-servers-eq0+then-servers-gt64}

pub returns-then-servers-eq0-clause-none : goal.returns-then-servers-eq0-clause-none
returns-then-servers-eq0-clause-none c n fits e =
    let stripped = strip_prefix_is Decides-eqb c.args.line.now format (Some c.in_ok-word.word) c.in_ok-word.ensures.cases in
    let word : c.in_ok-word.word.now ≡ decimal n = append_cancel_left format c.in_ok-word.word.now (decimal n) (sym stripped ∙ e) in
    let least = fits.0 in
    let most = fits.1 in
    let same : n ≡ c.in_ok-servers.servers = decimal_injective n c.in_ok-servers.servers (omega arith) (omega arith) (sym word ∙ c.in_ok-servers.ensures.found) in
    elim c.then-servers-eq0.branch [
      | then-servers-eq0-via-then-servers-eq0 w ↦ omega arith
      | then-servers-eq0-via-else-servers-eq0+then-servers-gt64 w ↦ omega arith
    ]
