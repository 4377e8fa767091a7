use Rattle.std.proofs.Common.{◌-◌, arith, drop, length, length-drop}
use Rattle.std.proofs.lemmas.List.{length-take}
use Rattle.pg_log.proofs.Lengths.{end_in_entry}
use Rattle.pg_log.proofs.block.entry_in.Goals as goal

pub returns-then-bytes-length-clause-err : goal.returns-then-bytes-length-clause-err
returns-then-bytes-length-clause-err c =
    let found = c.in_ok-length.ensures.ok in
    end_in_entry c.args.block.now c.in_ok-length.field-0 found.0 found.1 found.2 (omega (arith, c.if-bytes-length.true, length-take (length c.args.block.now - 4) (drop 4 c.args.block.now), length-drop 4 c.args.block.now))
