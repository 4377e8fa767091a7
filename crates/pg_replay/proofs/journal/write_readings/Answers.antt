use Rattle.std.proofs.Common.{◌≡◌, ◌+◌, ◌++◌, [], ◌∷◌, map, option_map, take, get_or, arith, sym, subst, ap, ◌∙◌}
use Rattle.std.proofs.lemmas.List.{map-append, take_more}
use Rattle.pg_meter.specs.Note.{Readings, reading}
use Rattle.pg_meter.specs.declared.meter.Reading.{Reading}
use Rattle.pg_trace.specs.JournalLine.{ArePrinted, journal_spelling}
use Rattle.pg_replay.specs.Text.{reading_lines}
use Rattle.pg_replay.proofs.Journals.{reading_printed, reading_written}
use Rattle.pg_replay.proofs.journal.write_readings.Goals as goal

pub loop-slot-preserved : goal.loop-slot-preserved
loop-slot-preserved g c =
    let of : (_ → Reading) = λ m. reading ((goal.Meter-dyn g (m.vtable, m.value)).counts m.value) ((goal.Meter-dyn g (m.vtable, m.value)).counted m.value) in
    let slots = c.args.meters.now.items in
    let i = c.loop-slot.slot-index in
    let slot = c.slot-item.result in
    let is = subst (λ xs. slot ≡ get_or xs i slot) c.deref-slot-items.ensures.value c.slot-item.is in
    let before : Readings = map (λ o. option_map of o) (take i slots) in
    let more : map (λ o. option_map of o) (take (i + 1) slots) ≡ before ++ option_map of slot ∷ [] =
    ap (map (λ o. option_map of o)) (take_more slots i slot (omega arith))
    ∙ map-append (λ o. option_map of o) (take i slots) (get_or slots i slot ∷ [])
    ∙ ap (λ o. before ++ option_map of o ∷ []) (sym is) in
    let P : Readings → Type 0 = λ rs. c.write_slot.new.out ≡ c.args.out.now ++ journal_spelling (reading_lines rs) in
    let Q : Readings → Type 0 = λ rs. ArePrinted (reading_lines rs) in
    record {
      text = subst P (sym more)
          (reading_written c.args.out.now before (option_map of slot) c.loop-slot.out c.write_slot.new.out c.loop-slot.invariant.text c.in_ok-write_slot.ensures.text);
      printed = subst Q (sym more) (reading_printed before (option_map of slot) c.loop-slot.invariant.printed c.in_ok-write_slot.ensures.spelled);
    }
