use Rattle.std.proofs.Common.{◌∷◌, take}
use Rattle.std.specs.Fmt.{HasWritten, IsPlainFormatter}
use Rattle.std.specs.List.{flat_map}
use Rattle.pg_patch.specs.declared.part.Part.{Part}
use Rattle.pg_msg.specs.UpdateText.{part_word}
use Rattle.pg_msg.proofs.ranges_word.PartsWordDisplay.fmt.Given as goal

abbrev pub invariant-loop-part : goal.invariant-loop-part
invariant-loop-part g l =
    IsPlainFormatter l.initial.f → HasWritten g.W.Write.write_str_gives l.initial.f (flat_map (λ (p : Part). 44 ∷ part_word p) (take l.part-index l.rest)) l.f
