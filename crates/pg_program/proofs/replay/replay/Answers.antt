use Rattle.std.proofs.Common.{◌≡◌, ℕ, List, Option, None, Some, IfSome, inl, inr, sym, subst, ◌∙◌}
use Rattle.pg_sched.specs.declared.error.ReadError.TheVariants as error
use Rattle.pg_call.specs.declared.fault.Fault.{Fault}
use Rattle.pg_event.specs.declared.status.Status.TheVariants as status
use Rattle.pg_meter.specs.declared.meter.Reading.{Reading}
use Rattle.pg_replay.specs.Text.{IsTextOf}
use Rattle.pg_sched.specs.Schedule.{IsFirstBad}
use Rattle.pg_program.proofs.replay.replay.Goals as goal

-- what was read of a known input is the input
whole_is : (left : Option (List ℕ)) (read all : List ℕ) → left ≡ Some all → IfSome left (λ bytes. read ≡ bytes) → read ≡ all
whole_is left read all e h = let P : Option (List ℕ) → Type 0 = (λ o. IfSome o (λ bytes. read ≡ bytes)) in subst P e h

moved : (left : Option (List ℕ)) (read text all : List ℕ) (n : ℕ) (f : Fault) → left ≡ Some all → IfSome left (λ bytes. read ≡ bytes) → text ≡ read → IsFirstBad all n f → IsFirstBad text n f
moved left read text all n f e h same bad = let P : List ℕ → Type 0 = (λ bytes. IsFirstBad bytes n f) in subst P (sym (same ∙ whole_is left read all e h)) bad

-- what is said of the text that was read is said of the input
of_input : (left : Option (List ℕ)) (read text : List ℕ) (n : ℕ) (f : Fault) → IfSome left (λ bytes. read ≡ bytes) → text ≡ read → IsFirstBad text n f → IfSome left (λ input. IsFirstBad input n f)
of_input None read text n f h same bad = h
of_input (Some all) read text n f h same bad = let P : List ℕ → Type 0 = (λ bytes. IsFirstBad bytes n f) in subst P (same ∙ h) bad

-- what is written of the text that was read is written of the input
written_of : (left : Option (List ℕ)) (m : List Reading) (read given text out : List ℕ) (P : List ℕ → Type 0) → IfSome left (λ bytes. read ≡ bytes) → given ≡ read → IsTextOf m given (λ t. text ≡ t) → out ≡ text → P out → IfSome left (λ input. IsTextOf m input P)
written_of None m read given text out P h same x e p = h
written_of (Some all) m read given text out P h same x e p = record {
  servers = x.servers;
  lines = x.lines;
  count = x.count;
  each = x.each;
  whole = sym h ∙ sym same ∙ x.whole;
  printed = x.printed;
  written = subst P (e ∙ x.written) p;
}

same_line : (a n : ℕ) (b f : Fault) → status.BadLine a b ≡ status.BadLine n f → error.BadLine a b ≡ error.BadLine n f
same_line a n b f e = cc

pub returns-in-BadLine-clause-bad : goal.returns-in-BadLine-clause-bad
returns-in-BadLine-clause-bad g c = λ n f e.
    let is = c.in-BadLine.is in
    of_input (g.S.Source.remaining c.args.source.now) c.in-Ok.input.items c.deref.result.now n f c.in-Ok.ensures.whole c.deref.ensures.value
    (c.in-Err-journal_of.ensures.bad n f (is ∙ same_line c.in-BadLine.number n c.in-BadLine.fault f e))

pub returns-in-BadLine-clause-first_bad : goal.returns-in-BadLine-clause-first_bad
returns-in-BadLine-clause-first_bad g c = λ input n f left short bad calm.
    let is = c.in-BadLine.is in
    elim (c.in-Err-journal_of.ensures.first n f (moved (g.S.Source.remaining c.args.source.now) c.in-Ok.input.items c.deref.result.now input n f left c.in-Ok.ensures.whole c.deref.ensures.value bad)) [
      | inl e ↦ inl (cc)
      | inr e ↦ absurd (cc)
    ]

pub returns-in-Ok-write_all-clause-first_bad : goal.returns-in-Ok-write_all-clause-first_bad
returns-in-Ok-write_all-clause-first_bad g c = λ input n f left short bad calm.
    absurd (c.in-Ok-journal_of.ensures.first n f (moved (g.S.Source.remaining c.args.source.now) c.in-Ok.input.items c.deref.result.now input n f left c.in-Ok.ensures.whole c.deref.ensures.value bad))

pub returns-clause-first_bad : goal.returns-clause-first_bad
returns-clause-first_bad g c = λ input n f left short bad calm.
    absurd (c.in-Ok-journal_of.ensures.first n f (moved (g.S.Source.remaining c.args.source.now) c.in-Ok.input.items c.deref.result.now input n f left c.in-Ok.ensures.whole c.deref.ensures.value bad))

pub returns-in-Ok-write_all-clause-done : goal.returns-in-Ok-write_all-clause-done
returns-in-Ok-write_all-clause-done g c = λ done.
    written_of (g.S.Source.remaining c.args.source.now) _ c.in-Ok.input.items c.deref.result.now c.in-Ok-journal_of.text c.as_slice.result.now _
    c.in-Ok.ensures.whole c.deref.ensures.value c.in-Ok-journal_of.ensures.written c.as_slice.ensures c.in-Ok-write_all.ensures.ok

pub returns-clause-prefix : goal.returns-clause-prefix
returns-clause-prefix g c = λ fault.
    written_of (g.S.Source.remaining c.args.source.now) _ c.in-Ok.input.items c.deref.result.now c.in-Ok-journal_of.text c.as_slice.result.now _
    c.in-Ok.ensures.whole c.deref.ensures.value c.in-Ok-journal_of.ensures.written c.as_slice.ensures c.in-Err-write_all.ensures.err
