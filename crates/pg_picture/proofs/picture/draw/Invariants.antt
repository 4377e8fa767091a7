use Rattle.std.proofs.Common.{◌≡◌, ◌≤◌, ◌+◌, ◌-◌, ◌*◌, length}
use Rattle.pg_picture.specs.Picture.{draw, draw_from}
use Rattle.pg_picture.proofs.picture.draw.Given as goal

abbrev pub invariant-loop-line : goal.invariant-loop-line
invariant-loop-line l = record {
  whole : length l.rest ≤ length l.journal;
  room : l.sketch.height + length l.sketch.bag + 3 * length l.rest ≤ 3 * length l.journal;
  same : draw_from (length l.journal - length l.rest + 1) l.course l.sketch l.rest ≡ draw l.journal;
}

abbrev pub decreases-loop-line : goal.decreases-loop-line
decreases-loop-line l = length l.rest
