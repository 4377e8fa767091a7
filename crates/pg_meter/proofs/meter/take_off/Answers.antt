use Rattle.std.proofs.Common.{Some, map, option_map, sym, ap, ◌∙◌}
use Rattle.pg_meter.specs.Note.{reading}
use Rattle.pg_meter.specs.declared.meter.Reading.{Reading}
use Rattle.pg_meter.proofs.Steps.{slot_of_map, without_of_map}
use Rattle.pg_meter.proofs.meter.take_off.Goals as goal

pub returns-in_err-meter-clause-rest : goal.returns-in_err-meter-clause-rest
returns-in_err-meter-clause-rest g c =
    let of : (_ → Reading) = λ m. reading ((goal.Meter-dyn g (m.vtable, m.value)).counts m.value) ((goal.Meter-dyn g (m.vtable, m.value)).counted m.value) in
    ap (map (λ o. option_map of o)) c.take_at.ensures.rest ∙ without_of_map of c.args.meters.now.items c.args.number

pub returns-clause-reading : goal.returns-clause-reading
returns-clause-reading g c =
    let of : (_ → Reading) = λ m. reading ((goal.Meter-dyn g (m.vtable, m.value)).counts m.value) ((goal.Meter-dyn g (m.vtable, m.value)).counted m.value) in
    sym (slot_of_map of c.args.meters.now.items c.args.number ∙ ap (option_map of) (sym c.take_at.ensures.taken ∙ c.in_ok-meter.was) ∙ ap Some (sym c.read.ensures))

pub returns-clause-rest : goal.returns-clause-rest
returns-clause-rest g c =
    let of : (_ → Reading) = λ m. reading ((goal.Meter-dyn g (m.vtable, m.value)).counts m.value) ((goal.Meter-dyn g (m.vtable, m.value)).counted m.value) in
    ap (map (λ o. option_map of o)) c.take_at.ensures.rest ∙ without_of_map of c.args.meters.now.items c.args.number
