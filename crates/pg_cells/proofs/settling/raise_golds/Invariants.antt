use Rattle.std.proofs.Common.{◌≡◌, drop}
use Rattle.pg_pieces.specs.Done.{idle}
use Rattle.pg_cells.specs.Settling.{raise_golds}
use Rattle.pg_cells.proofs.settling.raise_golds.Given as goal

abbrev pub invariant-loop-file : goal.invariant-loop-file
invariant-loop-file l = raise_golds (drop l.file-index l.files) (idle l.store l.work) ≡ raise_golds l.files (idle l.fn.store l.fn.work)
