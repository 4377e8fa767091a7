use Rattle.std.proofs.Common.{ℕ, ◌≡◌, ◌+◌, ◌<◌, ◌∙◌, sym, ap, refl, length, arith, rules}
use Rattle.pg_call.specs.declared.error.WordsError.{WordsError}
use Rattle.pg_call.specs.declared.error.WordsError.TheVariants as words
use Rattle.pg_sched.specs.declared.error.ReadError.{ReadError}
use Rattle.pg_sched.specs.declared.error.ReadError.TheVariants as read
use Rattle.pg_call.specs.declared.fault.Fault.{Fault}
use Rattle.pg_sched.proofs.Causes.{cause_lacks}
use Rattle.pg_sched.proofs.Refusals.{bad_parts}
use Rattle.pg_sched.proofs.schedule.lines_of.Goals as goal

-- what the error of a line was
was_bad : (e : WordsError) (r : ReadError) (k : ℕ) → (e ≡ words.OutOfMemory → r ≡ read.OutOfMemory) → ((f : Fault) → e ≡ words.Bad f → r ≡ read.BadLine k f)
    → (n : ℕ) (f : Fault) → r ≡ read.BadLine n f → (e ≡ words.Bad f) × (n ≡ k)
was_bad words.OutOfMemory r k memory bad n f q = let m = memory refl in absurd cc
was_bad (words.Bad g) r k memory bad n f q = let parts = bad_parts k n g f (sym (bad g refl) ∙ q) in (ap words.Bad parts.1, sym parts.0)

pub returns-in-Err-clause-bad : goal.returns-in-Err-clause-bad
returns-in-Err-clause-bad c n f q =
    let was = was_bad c.in-Err.e c.at.result (c.len.result + 2) c.at.ensures.memory c.at.ensures.bad n f q in
    let done = c.loop-rest.invariant in
    let some : 0 < length c.loop-rest.rest.now = search rules in
    let count : length c.loop-rest.lines.items ≡ c.len.result = sym c.loop-rest.lines.ok.0 ∙ sym c.len.ensures in (
      length c.loop-rest.lines.items,
      record {
        good = c.loop-rest.lines.items;
        rest = c.loop-rest.rest.now;
        each = done.each;
        whole = done.whole;
        count_is = refl;
        bad = cause_lacks c.loop-rest.rest.now f some (c.in-Err.ensures.bad f was.0 2 (omega arith));
        cause = c.in-Err.ensures.bad f was.0 (length c.loop-rest.lines.items + 2) (omega arith);
      },
      was.1 ∙ ap (λ k. k + 2) (sym count),
    )
