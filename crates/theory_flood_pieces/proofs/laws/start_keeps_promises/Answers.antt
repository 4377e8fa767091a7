use Rattle.theory_flood_pieces.proofs.Start.{start_kept, start_tags, start_whole}
use Rattle.theory_flood_pieces.proofs.laws.start_keeps_promises.Goals as goal

pub returns-clause-whole : goal.returns-clause-whole
returns-clause-whole c = λ n s. (start_whole n s, start_tags n s)

pub returns-clause-edges : goal.returns-clause-edges
returns-clause-edges c = start_kept
