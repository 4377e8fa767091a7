use Rattle.std.proofs.Common.{◌∙◌, ap, sym}
use Rattle.pg_server.specs.Local.{Effect}
use Rattle.pg_host.proofs.Stepped.{effect_is, sent_to, sent_well, store_fits, told_well}
use Rattle.pg_host.proofs.entering.take.Goals as goal

pub returns-in-Ok-clause-store : goal.returns-in-Ok-clause-store
returns-in-Ok-clause-store c =
    c.in-Ok.ensures.store ∙ ap (λ (e : Effect). e.store) (sym (effect_is c.args.server.now.store c.args.input))

pub returns-in-Ok-clause-out : goal.returns-in-Ok-clause-out
returns-in-Ok-clause-out c =
    c.in-Ok.ensures.out ∙ ap (λ (e : Effect). e.out) (sym (effect_is c.args.server.now.store c.args.input))

pub returns-in-Ok-clause-fits : goal.returns-in-Ok-clause-fits
returns-in-Ok-clause-fits c =
    store_fits c.args.server.now.store c.args.input (c.sends_packets.ensures.step c.args.server.now.store c.args.input c.requires.fits c.requires.input c.requires.few)
    c.step.new.self.store (returns-in-Ok-clause-store c)

pub returns-in-Ok-clause-told : goal.returns-in-Ok-clause-told
returns-in-Ok-clause-told c =
    told_well c.args.server.now.store c.args.input (c.sends_packets.ensures.step c.args.server.now.store c.args.input c.requires.fits c.requires.input c.requires.few)
    c.in-Ok.out (returns-in-Ok-clause-out c)

pub returns-in-Ok-clause-to : goal.returns-in-Ok-clause-to
returns-in-Ok-clause-to c =
    sent_to c.args.server.now.store c.args.input (c.sends_packets.ensures.step c.args.server.now.store c.args.input c.requires.fits c.requires.input c.requires.few)
    c.in-Ok.out (returns-in-Ok-clause-out c)

pub returns-in-Ok-clause-well : goal.returns-in-Ok-clause-well
returns-in-Ok-clause-well c =
    sent_well c.args.server.now.store c.args.input (c.sends_packets.ensures.step c.args.server.now.store c.args.input c.requires.fits c.requires.input c.requires.few)
    c.in-Ok.out (returns-in-Ok-clause-out c)
