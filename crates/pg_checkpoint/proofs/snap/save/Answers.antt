use Rattle.std.proofs.Common.{◌∙◌, inl, sym, subst}
use Rattle.pg_disk.specs.Told.{Told}
use Rattle.pg_checkpoint.specs.Loads.{next, LoadsOldOrNew}
use Rattle.pg_checkpoint.specs.Saves.{SlotsLeave, KeepsRest}
use Rattle.pg_checkpoint.proofs.Outcomes.{slots_started, keeps_all}
use Rattle.pg_checkpoint.proofs.Saving.{rest_stays, none_left, moments, loads_new, settled_new, is_replaced}
use Rattle.pg_checkpoint.proofs.snap.save.Goals as goal

pub returns-in_err-turn-clause-any_moment : goal.returns-in_err-turn-clause-any_moment
returns-in_err-turn-clause-any_moment g c = λ tells settled was is.
    let old : Told = g.D.Disk.told c.args.disk.now in
    subst (λ (t : Told). SlotsLeave old t (LoadsOldOrNew was (next was c.args.folded c.args.bytes.now))) (sym (c.prepare.ensures.same tells))
    (slots_started old (LoadsOldOrNew was (next was c.args.folded c.args.bytes.now)) settled (inl is))

pub returns-in_err-turn-clause-others : goal.returns-in_err-turn-clause-others
returns-in_err-turn-clause-others g c = λ tells.
    let old : Told = g.D.Disk.told c.args.disk.now in
    subst (λ (t : Told). KeepsRest old t) (sym (c.prepare.ensures.same tells)) (keeps_all old)

pub returns-in_err-replace-clause-any_moment : goal.returns-in_err-replace-clause-any_moment
returns-in_err-replace-clause-any_moment g c = λ tells.
    moments (g.D.Disk.told c.args.disk.now) (g.D.Disk.told c.prepare.new.disk) (g.D.Disk.told c.replace.new.disk) (c.prepare.ensures.same tells) c.in_ok-turn.turn (c.in_ok-turn.ensures.turn tells) (c.replace.ensures.keeps tells)
    c.args.folded c.args.bytes.now c.deref.result.now c.replace.result c.in_ok-turn.ensures.fits (c.deref.ensures.value ∙ c.in_ok-turn.ensures.slot) (c.replace.ensures.replaced tells)

pub returns-in_err-replace-clause-others : goal.returns-in_err-replace-clause-others
returns-in_err-replace-clause-others g c = λ tells.
    rest_stays (g.D.Disk.told c.args.disk.now) (g.D.Disk.told c.prepare.new.disk) (g.D.Disk.told c.replace.new.disk) (c.prepare.ensures.same tells) c.in_ok-turn.turn (c.in_ok-turn.ensures.turn tells) (c.replace.ensures.keeps tells)

pub returns-in_err-replace-clause-whole : goal.returns-in_err-replace-clause-whole
returns-in_err-replace-clause-whole g c = λ tells full. absurd
    (none_left (g.D.Disk.told c.args.disk.now) (g.D.Disk.told c.prepare.new.disk) (g.D.Disk.told c.replace.new.disk) (c.prepare.ensures.same tells) c.in_ok-turn.turn (c.in_ok-turn.ensures.turn tells) (c.replace.ensures.keeps tells)
    c.in_ok-turn.ensures.fits.number full)

pub returns-clause-any_moment : goal.returns-clause-any_moment
returns-clause-any_moment g c = λ tells.
    moments (g.D.Disk.told c.args.disk.now) (g.D.Disk.told c.prepare.new.disk) (g.D.Disk.told c.replace.new.disk) (c.prepare.ensures.same tells) c.in_ok-turn.turn (c.in_ok-turn.ensures.turn tells) (c.replace.ensures.keeps tells)
    c.args.folded c.args.bytes.now c.deref.result.now c.replace.result c.in_ok-turn.ensures.fits (c.deref.ensures.value ∙ c.in_ok-turn.ensures.slot) (c.replace.ensures.replaced tells)

pub returns-clause-others : goal.returns-clause-others
returns-clause-others g c = λ tells.
    rest_stays (g.D.Disk.told c.args.disk.now) (g.D.Disk.told c.prepare.new.disk) (g.D.Disk.told c.replace.new.disk) (c.prepare.ensures.same tells) c.in_ok-turn.turn (c.in_ok-turn.ensures.turn tells) (c.replace.ensures.keeps tells)

pub returns-clause-whole : goal.returns-clause-whole
returns-clause-whole g c = λ tells full. absurd
    (none_left (g.D.Disk.told c.args.disk.now) (g.D.Disk.told c.prepare.new.disk) (g.D.Disk.told c.replace.new.disk) (c.prepare.ensures.same tells) c.in_ok-turn.turn (c.in_ok-turn.ensures.turn tells) (c.replace.ensures.keeps tells)
    c.in_ok-turn.ensures.fits.number full)

pub returns-clause-saved : goal.returns-clause-saved
returns-clause-saved g c = λ tells.
    let replaced = is_replaced (g.D.Disk.told c.args.disk.now) (g.D.Disk.told c.prepare.new.disk) (g.D.Disk.told c.replace.new.disk) (c.prepare.ensures.same tells) c.in_ok-turn.turn (c.in_ok-turn.ensures.turn tells) (c.replace.ensures.keeps tells)
    c.args.folded c.args.bytes.now c.deref.result.now _ c.in_ok-turn.ensures.fits (c.deref.ensures.value ∙ c.in_ok-turn.ensures.slot) (c.in_ok-replace.ensures.replaced tells) in
    loads_new (g.D.Disk.told c.args.disk.now) (g.D.Disk.told c.prepare.new.disk) (g.D.Disk.told c.replace.new.disk) (c.prepare.ensures.same tells) c.in_ok-turn.turn (c.in_ok-turn.ensures.turn tells) (c.replace.ensures.keeps tells)
    c.args.folded c.args.bytes.now c.deref.result.now replaced.holds

pub returns-clause-settled : goal.returns-clause-settled
returns-clause-settled g c = λ tells.
    let replaced = is_replaced (g.D.Disk.told c.args.disk.now) (g.D.Disk.told c.prepare.new.disk) (g.D.Disk.told c.replace.new.disk) (c.prepare.ensures.same tells) c.in_ok-turn.turn (c.in_ok-turn.ensures.turn tells) (c.replace.ensures.keeps tells)
    c.args.folded c.args.bytes.now c.deref.result.now _ c.in_ok-turn.ensures.fits (c.deref.ensures.value ∙ c.in_ok-turn.ensures.slot) (c.in_ok-replace.ensures.replaced tells) in
    settled_new (g.D.Disk.told c.args.disk.now) (g.D.Disk.told c.prepare.new.disk) (g.D.Disk.told c.replace.new.disk) (c.prepare.ensures.same tells) c.in_ok-turn.turn (c.in_ok-turn.ensures.turn tells) (c.replace.ensures.keeps tells)
    c.args.folded c.args.bytes.now c.deref.result.now replaced.settled
