use Rattle.std.proofs.Common.{rules, ◌≡◌, ◌≤◌, ◌+◌, ◌∙◌, ℕ, List, ◌∷◌, Some, arith, drop, length, map, option_map, refl, subst, sym, ap}
use Rattle.std.proofs.lemmas.List.{drop_all, drop_more}
use Rattle.std.proofs.lemmas.Simd.{map-map}
use Rattle.pg_meter.specs.Note.{Readings, reading}
use Rattle.pg_meter.specs.declared.meter.Reading.{Reading}
use Rattle.pg_sched.specs.Schedule.{AreLines, IsCount, spelling}
use Rattle.pg_sched.specs.declared.line.Line.{Line}
use Rattle.pg_replay.specs.Text.{journal_of, others_than, text_of}
use Rattle.pg_replay.proofs.Journals.{IsLeft, all_written, begun, not_bad_line, one_taken, readings_seen}
use Rattle.pg_replay.proofs.journal.journal_of.Goals as goal

pub loop-i-init : goal.loop-i-init
loop-i-init g c =
    let of : (_ → Reading) = λ m. reading ((goal.Meter-dyn g (m.vtable, m.value)).counts m.value) ((goal.Meter-dyn g (m.vtable, m.value)).counted m.value) in
    let a = c.in_ok-replay.replay in
    let readings : Readings = map (λ o. option_map of o) c.in_ok-meters.meters.items in
    let b = c.in_ok-replay.ensures in
    record {
      servers = refl;
      going = ap (λ w. w.failed) b.world;
      counted = b.marks;
      left = begun _ a (map of c.args.meters.items) readings c.as_slice-lines.result.now b
          (c.in_ok-meters.ensures ∙ sym (map-map Some of c.args.meters.items));
    }

pub loop-i-preserved : goal.loop-i-preserved
loop-i-preserved g c =
    let of : (_ → Reading) = λ m. reading ((goal.Meter-dyn g (m.vtable, m.value)).counts m.value) ((goal.Meter-dyn g (m.vtable, m.value)).counted m.value) in
    let lines = c.as_slice-lines.result.now in
    let i = c.loop-i.i in
    let a = c.loop-i.replay in
    let b = c.take_line.new.replay in
    let line = c.index-lines-i.result in
    let n = c.in_ok-replay.replay.world.servers in
    let handed = map of c.args.meters.items in
    let text = text_of handed n lines in
    let whole = journal_of handed n lines in
    let readings : Readings = map (λ o. option_map of o) c.loop-i.meters.items in
    let seen : Readings = map (λ o. option_map of o) c.take_line.new.meters.items in
    let t = c.in_ok-take_line.ensures.taken in
    let cut : drop i lines ≡ line ∷ drop (i + 1) lines = drop_more lines i line (omega arith)
    ∙ ap (λ (x : Line). x ∷ drop (i + 1) lines) (sym c.index-lines-i.is) in
    let P : ℕ → Type 0 = λ s. IsLeft s a readings (i + 2) (line ∷ drop (i + 1) lines) text whole in
    let behind = readings_seen a b (i + 2) readings (others_than readings line) seen line c.loop-i.invariant.counted t
    refl c.in_ok-take_line.ensures.seen in
    let S : Readings → Type 0 = λ rs. IsLeft a.world.servers b rs (i + 2 + 1) (drop (i + 1) lines) text whole in
    let Q : ℕ → Type 0 = λ s. IsLeft s b seen (i + 2 + 1) (drop (i + 1) lines) text whole in
    let more = subst Q c.loop-i.invariant.servers
    (subst S (sym behind)
    (one_taken a b readings (i + 2) line (drop (i + 1) lines) text whole t
    (subst P (sym c.loop-i.invariant.servers)
    (subst (λ (ls : List Line). IsLeft n a readings (i + 2) ls text whole) cut c.loop-i.invariant.left)))) in
    let R : ℕ → Type 0 = λ k. IsLeft n b seen k (drop (i + 1) lines) text whole in
    let last = subst R (omega arith) more in
    record {
      servers = t.servers ∙ c.loop-i.invariant.servers;
      going = t.going;
      counted = search rules;
      left = record { so_far = last.so_far; printed = last.printed };
    }

pub returns-clause-written : goal.returns-clause-written
returns-clause-written g c =
    let of : (_ → Reading) = λ m. reading ((goal.Meter-dyn g (m.vtable, m.value)).counts m.value) ((goal.Meter-dyn g (m.vtable, m.value)).counted m.value) in
    let found = c.in_ok-schedule.ensures.found in
    let lines = c.as_slice-lines.result.now in
    let i = c.loop-i.i in
    let a = c.loop-i.replay in
    let n = c.in_ok-replay.replay.world.servers in
    let servers : n ≡ c.in_ok-schedule.schedule.servers = ap (λ w. w.servers) c.in_ok-replay.ensures.world in
    let readings : Readings = map (λ o. option_map of o) c.loop-i.meters.items in
    let handed = map of c.args.meters.items in
    let text = text_of handed n lines in
    let whole = journal_of handed n lines in
    let over : length lines ≤ i = (let f = c.loop-i-test.false in omega arith) in
    let all = all_written a c.tell.new.self n (i + 2) readings (drop i lines) c.write_readings.new.out text whole
    (drop_all i lines over) c.loop-i.invariant.servers c.in_ok-tell.ensures c.in_ok-write_readings.ensures.text
    c.in_ok-write_readings.ensures.spelled c.loop-i.invariant.left in
    record {
      servers = n;
      lines = lines;
      count = subst IsCount (sym servers) found.0;
      each = subst AreLines (sym c.as_slice-lines.ensures) found.1;
      whole = found.2 ∙ ap (λ s. spelling s c.in_ok-schedule.schedule.lines) (sym servers)
          ∙ ap (λ (ls : List Line). spelling n ls) (sym c.as_slice-lines.ensures);
      printed = all.1;
      written = all.0;
    }

pub returns-clause-first : goal.returns-clause-first
returns-clause-first g c = λ n f bad. absurd (c.in_ok-schedule.ensures.first n f bad)

pub returns-in_err-take_line-clause-bad : goal.returns-in_err-take_line-clause-bad
returns-in_err-take_line-clause-bad g c = not_bad_line c.from_residual-in_err-take_line.result c.args.input.now (search rules)

pub returns-in_err-tell-clause-bad : goal.returns-in_err-tell-clause-bad
returns-in_err-tell-clause-bad g c = not_bad_line c.from_residual-in_err-tell.result c.args.input.now (search rules)

pub returns-in_err-write_readings-clause-bad : goal.returns-in_err-write_readings-clause-bad
returns-in_err-write_readings-clause-bad g c = not_bad_line c.from_residual-in_err-write_readings.result c.args.input.now (search rules)
