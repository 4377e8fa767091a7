use Rattle.pg_cells.specs.pg_store.Store.{take_entry, take_flag, take_place}
use Rattle.theory_flood_pieces.proofs.Counting.{steps_on}
use Rattle.theory_flood_pieces.proofs.Taking.{entry_taken, flag_taken, place_taken, took_steps}
use Rattle.theory_flood_pieces.proofs.Together.{own_of_held, replica_of_held}
use Rattle.theory_flood_pieces.proofs.LawsOf.{version_of_held}
use Rattle.theory_flood_pieces.proofs.laws.what_comes_is_taken.Goals as goal

pub returns-clause-places : goal.returns-clause-places
returns-clause-places c = λ n s a f k held p.
    let own = own_of_held a.names f held in
    let t = place_taken a f own.0 own.1 p in
    let b = take_place a f p in
    (steps_on a b (took_steps t.keys a b t.took), t.holds)

pub returns-clause-flags : goal.returns-clause-flags
returns-clause-flags c = λ n s a f k held p.
    let own = own_of_held a.names f held in
    let t = flag_taken a f own.0 own.1 p in
    let b = take_flag a f p in
    (steps_on a b (took_steps t.keys a b t.took), t.holds)

pub returns-clause-entries : goal.returns-clause-entries
returns-clause-entries c = λ n s a d k held e sure.
    let own = own_of_held a.names d held in
    let t = entry_taken a d own.0 own.1 e sure k.names.children in
    let b = take_entry a d e in
    (steps_on a b (took_steps t.keys a b t.took), t.holds)

pub returns-clause-versions : goal.returns-clause-versions
returns-clause-versions c = λ n s a f k held h m of is. version_of_held a f (replica_of_held a k.together f held) h m of is
