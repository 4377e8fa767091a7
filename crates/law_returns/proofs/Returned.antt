-- Where a directory comes back, each child that it lists has a place that its remover did not know.
use Rattle.std.proofs.Common.{ℕ, ◌++◌, ◌&&◌, ◌∷◌, Some, sym, ap, subst, ◌∙◌}
use Rattle.std.proofs.lemmas.Bool.{false≢true}
use Rattle.pg_run.specs.pg_base.Id.{is_same_file}
use Rattle.pg_run.specs.pg_names.Names.{cell_at}
use Rattle.pg_run.specs.pg_register.declared.place.Place.{Place}
use Rattle.pg_run.specs.pg_server.Local.{first_effect}
use Rattle.pg_run.specs.theory_flood_pieces.Names.{IsEntryKnownBy}
use Rattle.pg_run.specs.Run.{run}
use Rattle.pg_run.proofs.Frame.{acts_is}
use Rattle.law_returns.specs.Gate.{EdgesAreKept, KnowsChildren, ReturnsFindNewPlaces}
use Rattle.law_returns.proofs.Begun.{gated_behind, is_late, removed_are_empty, stands_all}
use Rattle.law_returns.proofs.Deaths.{IsCaused, first_dead}
use Rattle.law_returns.proofs.Gated.{first_known, hears}
use Rattle.law_returns.proofs.Knowing.{knows_on, knows_stay}
use Rattle.law_returns.proofs.Lasting.{still_first}

-- JUSTIFIED RETURN
pub returns_find_new : (n : ℕ) → EdgesAreKept n → ReturnsFindNewPlaces n
returns_find_new n edges before removing between last dir removal r s asked takes there at found grew child e c was is listed =
    let events = before ++ removing ∷ between in
    let w = run n events in
    let a = w.stores s in
    let reach = acts_is n w last (record { server = s; asked = asked }) takes in
    let old = (run n before).stores removal.stamp.server in
    let late = is_late n edges before removing dir removal r in
    let gated = gated_behind n edges before removing dir removal r between in
    let k = stands_all n edges events in
    let caused : IsCaused a asked dir removal =
    first_dead dir r.directory removal r.dead late a asked (hears n dir r.directory removal r.dead late w k last s asked reach.least reach.most takes reach.came) there at in
    let first : KnowsChildren dir old.names a.names =
    first_known n dir r.directory removal r.dead late old.names w k gated s asked reach.least reach.most (still_first a asked removal there) reach.came caused in
    let behind = (first_effect a asked).store.names in
    let then : KnowsChildren dir old.names found =
    knows_on dir old.names behind found
    (knows_stay dir removal late old.names a (first_effect a asked).store (k.on.whole s).together (k.on.grow last s asked takes).0
    (k.on.stay last s asked takes).0 first at) grew in
    let both : IsEntryKnownBy (Some e) (Some c) = subst (λ o. IsEntryKnownBy (Some e) o) is (subst (λ o. IsEntryKnownBy o (cell_at found dir child)) was (then child)) in (
      both.place,
      λ same.
          let not_listed = removed_are_empty n edges before removing dir removal r child e was in
          false≢true (sym not_listed ∙ ap (λ (p : Place). p.live && is_same_file p.parent dir) (sym same) ∙ listed),
    )
