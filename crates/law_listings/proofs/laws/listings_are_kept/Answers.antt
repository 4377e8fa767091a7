use Rattle.law_listings.proofs.Runs.{kept_in_runs, mailed_in_runs}
use Rattle.law_listings.proofs.laws.listings_are_kept.Goals as goal

pub returns-clause-kept : goal.returns-clause-kept
returns-clause-kept c = λ n k. kept_in_runs n k

pub returns-clause-letters : goal.returns-clause-letters
returns-clause-letters c = λ n k. mailed_in_runs n k
