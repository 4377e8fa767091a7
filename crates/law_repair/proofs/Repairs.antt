-- The repair theorem, and what stands by it without a premise on graphs.
use Rattle.std.proofs.Common.{ℕ}
use Rattle.pg_run.specs.Laws.{QuietDirectoriesAreBroughtBack, QuietNamesFormATree, QuietServersAgree, QuietThingsAreListedOnlyWhereTheyStand}
use Rattle.law_repair.specs.Given.{StandOn}
use Rattle.law_repair.specs.Kept.{KeptDirectoriesAreBroughtBack, KeptNamesFormATree, KeptRunsAreConnected, KeptServersAgree, KeptThingsAreConnected, KeptThingsAreListedOnlyWhereTheyStand}
use Rattle.law_repair.proofs.Walking.{repaired}

-- REPAIR
pub kept_connected : (n : ℕ) → StandOn n → KeptThingsAreConnected n
kept_connected n on events quiet file kept = repaired n on file events kept quiet

pub all_connected : (n : ℕ) → StandOn n → KeptRunsAreConnected n
all_connected n on events quiet kept file s t ls lt a b = kept_connected n on events quiet file (kept file s ls a) s t ls lt a b

pub kept_agree : (n : ℕ) → StandOn n → QuietServersAgree n → KeptServersAgree n
kept_agree n on agree events quiet file kept = agree events quiet file (kept_connected n on events quiet file kept)

pub kept_tree : (n : ℕ) → StandOn n → QuietNamesFormATree n → KeptNamesFormATree n
kept_tree n on tree events quiet kept = tree events quiet (all_connected n on events quiet kept)

pub kept_listed : (n : ℕ) → StandOn n → QuietThingsAreListedOnlyWhereTheyStand n → KeptThingsAreListedOnlyWhereTheyStand n
kept_listed n on listed events quiet kept = listed events quiet (all_connected n on events quiet kept)

pub kept_back : (n : ℕ) → StandOn n → QuietDirectoriesAreBroughtBack n → KeptDirectoriesAreBroughtBack n
kept_back n on back events quiet kept = back events quiet (all_connected n on events quiet kept)
