use Rattle.theory_flood_pieces.proofs.Counting.{is_sound}
use Rattle.theory_flood_pieces.proofs.laws.cells_are_sound.Goals as goal

pub returns : goal.returns
returns c = is_sound
