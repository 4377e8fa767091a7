use Rattle.std.proofs.Common.{◌≡◌, ◌∙◌, Bool, true, false, refl, sym, subst}
use Rattle.pg_checkpoint.proofs.Outcomes.{keeps_all}
use Rattle.pg_saving.proofs.Outcomes.{none_leaves}
use Rattle.pg_host.specs.Savings.{is_due}
use Rattle.pg_host.specs.Slots.{SavesIf}
use Rattle.pg_host.proofs.saving.save_behind.Goals as goal

pub returns-then-not-is_due-clause-saved : goal.returns-then-not-is_due-clause-saved
returns-then-not-is_due-clause-saved g c = λ tells was loads.
    let not : is_due c.args.came c.is_due.new.count.since ≡ false = sym c.is_due.ensures.due ∙ c.if-not-is_due.true in
    (was, loads, subst (λ (b : Bool). SavesIf b c.args.server c.args.servers c.is_due.new.count.entries c.args.store.now was was) (sym not) refl)

pub returns-then-not-is_due-clause-any_moment : goal.returns-then-not-is_due-clause-any_moment
returns-then-not-is_due-clause-any_moment g c = λ tells settled was loads.
    none_leaves c.args.server c.args.servers c.is_due.new.count.entries c.args.store.now (g.D.Disk.told c.args.disk.now) settled was loads

pub returns-then-not-is_due-clause-others : goal.returns-then-not-is_due-clause-others
returns-then-not-is_due-clause-others g c = λ tells. keeps_all (g.D.Disk.told c.args.disk.now)

pub returns-in-Ok-clause-saved : goal.returns-in-Ok-clause-saved
returns-in-Ok-clause-saved g c = λ tells was loads.
    let due : is_due c.args.came c.is_due.new.count.since ≡ true = sym c.is_due.ensures.due ∙ c.if-not-is_due.false in
    let s = c.in-Ok.ensures.saved tells was loads in
    (s.0, s.2, subst (λ (b : Bool). SavesIf b c.args.server c.args.servers c.is_due.new.count.entries c.args.store.now was s.0) (sym due) s.1)
