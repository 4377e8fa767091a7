use Rattle.std.proofs.Common.{◌≡◌, ◌∙◌, ◌+◌, ◌<◌, ◌^◌, ℕ, List, length, ap, sym, subst, arith}
use Rattle.pg_host.specs.Entries.{input_of}
use Rattle.pg_host.specs.Starts.{IsUnread}
use Rattle.pg_host.proofs.Folds.{fold_more, room_for, unfolded}
use Rattle.pg_host.proofs.folding.fold.Goals as goal

pub read_input-requires : goal.read_input-requires
read_input-requires c =
    let at : c.loop-k.gate + (5 + length c.index-entries-k.result) < 2 ^ 64 =
    room_for c.args.entries.now c.loop-k.k c.index-entries-k.result (omega arith) c.index-entries-k.is c.args.from c.loop-k.gate c.loop-k.invariant.so_far.gate_is c.requires.room in
    let same : length c.as_slice.result.now ≡ length c.index-entries-k.result = ap length c.as_slice.ensures in
    record { room = omega (arith, at, same) }

pub returns-in-Err-clause-err : goal.returns-in-Err-clause-err
returns-in-Err-clause-err c =
    unfolded c.args.entries.now c.loop-k.k c.index-entries-k.result (omega arith) c.index-entries-k.is c.args.from c.loop-k.gate c.loop-k.invariant.so_far.done c.in-Err.status
    c.loop-k.invariant.so_far.read c.loop-k.invariant.so_far.gate_is (subst (λ (b : List ℕ). IsUnread c.loop-k.gate (input_of b) c.in-Err.status) c.as_slice.ensures c.in-Err.ensures.err)

pub overflow_add-gate : goal.overflow_add-gate
overflow_add-gate c =
    let at : c.loop-k.gate + (5 + length c.index-entries-k.result) < 2 ^ 64 =
    room_for c.args.entries.now c.loop-k.k c.index-entries-k.result (omega arith) c.index-entries-k.is c.args.from c.loop-k.gate c.loop-k.invariant.so_far.gate_is c.requires.room in
    omega (arith, at)

pub overflow_add-gate-in-loop-k : goal.overflow_add-gate-in-loop-k
overflow_add-gate-in-loop-k c =
    let at : c.loop-k.gate + (5 + length c.index-entries-k.result) < 2 ^ 64 =
    room_for c.args.entries.now c.loop-k.k c.index-entries-k.result (omega arith) c.index-entries-k.is c.args.from c.loop-k.gate c.loop-k.invariant.so_far.gate_is c.requires.room in
    omega (arith, at, c.len.ensures)

pub loop-k-preserved : goal.loop-k-preserved
loop-k-preserved c = record {
  so_far = fold_more c.args.entries.now c.loop-k.k c.index-entries-k.result (omega arith) c.index-entries-k.is c.args.from c.loop-k.gate (c.loop-k.gate + 5 + c.len.result) c.args.skip c.in-Ok.input
      c.args.server.now.store c.loop-k.server.store c.take_behind.new.server.store c.loop-k.invariant.so_far
      (ap input_of (sym c.as_slice.ensures) ∙ c.in-Ok.ensures.read) (sym c.as_slice.ensures ∙ c.in-Ok.ensures.spelled) (omega (arith, c.len.ensures)) c.in-Ok-take_behind.ensures.taken;
  going = c.in-Ok-take_behind.ensures.going;
  fits = c.in-Ok-take_behind.ensures.fits;
}
