use Rattle.theory_flood_pieces.proofs.Leaving.{whole_gone}
use Rattle.theory_flood_pieces.proofs.Whole.{whole_alike, whole_link, whole_unlink}
use Rattle.theory_flood_pieces.proofs.WholeBeginning.{whole_begun, whole_filled}
use Rattle.theory_flood_pieces.proofs.Views.{whole_enter}
use Rattle.theory_flood_pieces.proofs.laws.links_leave_whole.Goals as goal

pub returns-clause-links : goal.returns-clause-links
returns-clause-links c = λ n s a file peer birth other k. whole_link n s a k file peer birth other

pub returns-clause-unlinks : goal.returns-clause-unlinks
returns-clause-unlinks c = λ file peer birth n s a k. whole_unlink n s a k file peer birth

pub returns-clause-beginnings : goal.returns-clause-beginnings
returns-clause-beginnings c = λ n s a file birth policy own full away flags k. whole_begun n s a file birth policy own full away flags k

pub returns-clause-goings : goal.returns-clause-goings
returns-clause-goings c = λ file n s a k. whole_gone n s a file k

pub returns-clause-beside : goal.returns-clause-beside
returns-clause-beside c = λ n s a b same patches k. whole_alike n s a k b same patches

pub returns-clause-filling : goal.returns-clause-filling
returns-clause-filling c = λ file n s a k. whole_filled n s a file k

pub returns-clause-views : goal.returns-clause-views
returns-clause-views c = λ server n s a k. whole_enter n s server a k
