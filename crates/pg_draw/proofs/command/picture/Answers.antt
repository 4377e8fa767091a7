use Rattle.std.proofs.Common.{◌≡◌, ℕ, List, inl, inr}
use Rattle.pg_journal.specs.Journal.{IsFirstOther}
use Rattle.pg_draw.specs.Written.{LacksAt}
use Rattle.pg_draw.proofs.Texts.{of_all}
use Rattle.pg_draw.proofs.command.picture.Goals as goal

pub returns-in-BadLine-clause-first_bad : goal.returns-in-BadLine-clause-first_bad
returns-in-BadLine-clause-first_bad g c = λ input n f left short bad calm.
    let is = c.in-BadLine.is in
    elim (c.in-Err-text_of.ensures.first_bad n f (of_all (g.S.Source.remaining c.args.source.now) c.in-Ok.input.items c.deref.result.now input (λ b. IsFirstOther b n f)
    left c.in-Ok.ensures.whole c.deref.ensures.value bad)) [
      | inl e ↦ inl (cc)
      | inr e ↦ absurd (cc)
    ]

pub returns-in-BadLine-clause-first_lack : goal.returns-in-BadLine-clause-first_lack
returns-in-BadLine-clause-first_lack g c = λ input n l left short lacks calm.
    let is = c.in-BadLine.is in
    elim (c.in-Err-text_of.ensures.first_lack n l (of_all (g.S.Source.remaining c.args.source.now) c.in-Ok.input.items c.deref.result.now input (λ b. LacksAt b n l)
    left c.in-Ok.ensures.whole c.deref.ensures.value lacks)) [
      | inl e ↦ absurd (cc)
      | inr e ↦ absurd (cc)
    ]

pub returns-in-Lacks-clause-first_bad : goal.returns-in-Lacks-clause-first_bad
returns-in-Lacks-clause-first_bad g c = λ input n f left short bad calm.
    let is = c.in-Lacks.is in
    elim (c.in-Err-text_of.ensures.first_bad n f (of_all (g.S.Source.remaining c.args.source.now) c.in-Ok.input.items c.deref.result.now input (λ b. IsFirstOther b n f)
    left c.in-Ok.ensures.whole c.deref.ensures.value bad)) [
      | inl e ↦ absurd (cc)
      | inr e ↦ absurd (cc)
    ]

pub returns-in-Lacks-clause-first_lack : goal.returns-in-Lacks-clause-first_lack
returns-in-Lacks-clause-first_lack g c = λ input n l left short lacks calm.
    let is = c.in-Lacks.is in
    elim (c.in-Err-text_of.ensures.first_lack n l (of_all (g.S.Source.remaining c.args.source.now) c.in-Ok.input.items c.deref.result.now input (λ b. LacksAt b n l)
    left c.in-Ok.ensures.whole c.deref.ensures.value lacks)) [
      | inl e ↦ inl (cc)
      | inr e ↦ absurd (cc)
    ]

pub returns-in-Ok-write_all-clause-first_bad : goal.returns-in-Ok-write_all-clause-first_bad
returns-in-Ok-write_all-clause-first_bad g c = λ input n f left short bad calm.
    absurd (c.in-Ok-text_of.ensures.first_bad n f (of_all (g.S.Source.remaining c.args.source.now) c.in-Ok.input.items c.deref.result.now input (λ b. IsFirstOther b n f)
    left c.in-Ok.ensures.whole c.deref.ensures.value bad))

pub returns-in-Ok-write_all-clause-first_lack : goal.returns-in-Ok-write_all-clause-first_lack
returns-in-Ok-write_all-clause-first_lack g c = λ input n l left short lacks calm.
    absurd (c.in-Ok-text_of.ensures.first_lack n l (of_all (g.S.Source.remaining c.args.source.now) c.in-Ok.input.items c.deref.result.now input (λ b. LacksAt b n l)
    left c.in-Ok.ensures.whole c.deref.ensures.value lacks))

pub returns-clause-first_bad : goal.returns-clause-first_bad
returns-clause-first_bad g c = λ input n f left short bad calm.
    absurd (c.in-Ok-text_of.ensures.first_bad n f (of_all (g.S.Source.remaining c.args.source.now) c.in-Ok.input.items c.deref.result.now input (λ b. IsFirstOther b n f)
    left c.in-Ok.ensures.whole c.deref.ensures.value bad))

pub returns-clause-first_lack : goal.returns-clause-first_lack
returns-clause-first_lack g c = λ input n l left short lacks calm.
    absurd (c.in-Ok-text_of.ensures.first_lack n l (of_all (g.S.Source.remaining c.args.source.now) c.in-Ok.input.items c.deref.result.now input (λ b. LacksAt b n l)
    left c.in-Ok.ensures.whole c.deref.ensures.value lacks))
