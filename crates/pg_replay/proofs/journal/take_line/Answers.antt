use Rattle.std.proofs.Common.{List, [], ◌≡◌, ◌∙◌, arith, drop, map, option_map, sym, ap}
use Rattle.std.proofs.lemmas.List.{drop_all}
use Rattle.pg_meter.specs.Note.{Readings, reading}
use Rattle.pg_meter.specs.declared.meter.Reading.{Reading}
use Rattle.pg_replay.specs.declared.mark.Mark.{Mark}
use Rattle.pg_replay.specs.Text.{others_than, seen_marks}
use Rattle.pg_replay.proofs.journal.take_line.Goals as goal

pub returns-clause-seen : goal.returns-clause-seen
returns-clause-seen g c =
    let of : (_ → Reading) = λ m. reading ((goal.Meter-dyn g (m.vtable, m.value)).counts m.value) ((goal.Meter-dyn g (m.vtable, m.value)).counted m.value) in
    let marks = c.deref-mark-items.result.now in
    let i = c.loop-mark.mark-index in
    let seen : Readings = map (λ o. option_map of o) c.loop-mark.meters.items in
    let handed : Readings = map (λ o. option_map of o) c.args.meters.now.items in
    let over : drop i marks ≡ [] = drop_all i marks (let f = c.loop-mark-test.false in omega arith) in
    ap (λ (ms : List Mark). seen_marks seen ms) (sym over) ∙ c.loop-mark.invariant
    ∙ ap (λ (rs : Readings). seen_marks rs marks) c.take_off_by-off.ensures.rest
    ∙ ap (λ (ms : List Mark). seen_marks (others_than handed c.args.line.now) ms) c.deref-mark-items.ensures.value
