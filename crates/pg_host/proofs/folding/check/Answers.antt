use Rattle.std.proofs.Common.{◌≡◌, ◌∙◌, ◌+◌, ◌<◌, ◌^◌, ℕ, List, length, ap, sym, subst, arith}
use Rattle.pg_host.specs.Entries.{input_of}
use Rattle.pg_host.specs.Starts.{IsUnread}
use Rattle.pg_host.proofs.Folds.{read_more, room_for, unfolded}
use Rattle.pg_host.proofs.folding.check.Goals as goal

pub check_input-requires : goal.check_input-requires
check_input-requires c =
    let at : c.loop-entry.gate + (5 + length c.entry-item.result) < 2 ^ 64 =
    room_for c.args.entries.now c.loop-entry.entry-index c.entry-item.result (omega arith) c.entry-item.is c.args.from c.loop-entry.gate c.loop-entry.invariant.so_far.gate_is c.requires.room in
    let same : length c.as_slice.result.now ≡ length c.entry-item.result = ap length c.as_slice.ensures in
    record { room = omega (arith, at, same) }

pub returns-in-Err-clause-err : goal.returns-in-Err-clause-err
returns-in-Err-clause-err c =
    unfolded c.args.entries.now c.loop-entry.entry-index c.entry-item.result (omega arith) c.entry-item.is c.args.from c.loop-entry.gate c.loop-entry.invariant.so_far.done c.in-Err.status
    c.loop-entry.invariant.so_far.read c.loop-entry.invariant.so_far.gate_is (subst (λ (b : List ℕ). IsUnread c.loop-entry.gate (input_of b) c.in-Err.status) c.as_slice.ensures c.in-Err.ensures.err)

pub overflow_add-gate : goal.overflow_add-gate
overflow_add-gate c =
    let at : c.loop-entry.gate + (5 + length c.entry-item.result) < 2 ^ 64 =
    room_for c.args.entries.now c.loop-entry.entry-index c.entry-item.result (omega arith) c.entry-item.is c.args.from c.loop-entry.gate c.loop-entry.invariant.so_far.gate_is c.requires.room in
    omega (arith, at)

pub overflow_add-gate-in-loop-entry : goal.overflow_add-gate-in-loop-entry
overflow_add-gate-in-loop-entry c =
    let at : c.loop-entry.gate + (5 + length c.entry-item.result) < 2 ^ 64 =
    room_for c.args.entries.now c.loop-entry.entry-index c.entry-item.result (omega arith) c.entry-item.is c.args.from c.loop-entry.gate c.loop-entry.invariant.so_far.gate_is c.requires.room in
    omega (arith, at, c.len.ensures)

pub loop-entry-preserved : goal.loop-entry-preserved
loop-entry-preserved c = record {
  so_far = read_more c.args.entries.now c.loop-entry.entry-index c.entry-item.result (omega arith) c.entry-item.is c.args.from c.loop-entry.gate (c.loop-entry.gate + 5 + c.len.result) c.in-Ok.ensures.read.input
      c.loop-entry.invariant.so_far (ap input_of (sym c.as_slice.ensures) ∙ c.in-Ok.ensures.read.read) (sym c.as_slice.ensures ∙ c.in-Ok.ensures.read.spelled) (omega (arith, c.len.ensures));
}
