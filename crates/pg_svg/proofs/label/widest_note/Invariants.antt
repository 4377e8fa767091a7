use Rattle.std.proofs.Common.{◌≡◌, ◌≤◌, ◌++◌, take, drop}
use Rattle.pg_svg.specs.Label.{widest_note}
use Rattle.pg_svg.proofs.label.widest_note.Given as goal

abbrev pub invariant-loop-note : goal.invariant-loop-note
invariant-loop-note l = record {
  most : l.widest ≤ 140;
  same : widest_note l.widest (drop l.note-index l.notes) ≡ widest_note 0 l.notes;
}
