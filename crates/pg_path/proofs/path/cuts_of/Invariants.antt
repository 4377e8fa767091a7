use Rattle.std.proofs.Common.{length, ◌<◌}
use Rattle.pg_path.proofs.Cuts.{Cut}
use Rattle.pg_path.proofs.path.cuts_of.Given as goal

abbrev pub invariant-loop-part : goal.invariant-loop-part
invariant-loop-part l = record {
  so_far : Cut l.text l.start l.rest l.cuts.items;
  some : 1 < length l.text;
}

abbrev pub decreases-loop-part : goal.decreases-loop-part
decreases-loop-part l = length l.rest
