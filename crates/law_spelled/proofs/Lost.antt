-- What was lost is given up: what is held then fits.
use Rattle.std.proofs.Common.{ℕ, ◌≡◌, Bool, true, false, cond, List, [], ◌∷◌, filter, Option, None, Some, ◌⊎◌, inl, inr, refl, sym, subst}
use Rattle.std.proofs.lemmas.Option.{none-some, same_Some}
use Rattle.pg_base.specs.declared.id.FileId.{FileId}
use Rattle.pg_base.specs.declared.policy.Policy.TheVariants.{Last}
use Rattle.pg_content.specs.Content.{Among}
use Rattle.pg_content.proofs.Members.{among_filter}
use Rattle.pg_entries.specs.declared.entry.Entry.{Entry}
use Rattle.pg_server.specs.pg_pieces.pg_intent.declared.key.IntentKey.TheVariants as intent_key
use Rattle.pg_server.specs.pg_pieces.pg_intent.Intents.{ended}
use Rattle.pg_msg.specs.declared.update.Update.TheVariants as update
use Rattle.pg_msg.specs.declared.work.Work.{Work}
use Rattle.pg_msg.specs.Work.{with_made}
use Rattle.pg_server.specs.pg_pieces.pg_names.declared.attributes.Attributes.{Attributes}
use Rattle.pg_server.specs.pg_pieces.pg_names.Names.{NamesValue, blank_own, cell_at, is_dir}
use Rattle.pg_register.specs.declared.place.Place.{Place}
use Rattle.pg_server.proofs.pg_pieces.pg_house.Truths.{chosen}
use Rattle.pg_server.specs.pg_pieces.pg_store.declared.store.Store.{Store}
use Rattle.pg_server.specs.pg_pieces.pg_store.Births.{draw_birth, with_birth}
use Rattle.pg_server.specs.pg_pieces.pg_store.Store.{is_held}
use Rattle.pg_server.specs.pg_pieces.pg_store.Wishes.{without_wish}
use Rattle.pg_server.specs.pg_checks.Asking.{cell_in, is_later, later, latest}
use Rattle.pg_server.specs.pg_pieces.Done.{idle}
use Rattle.pg_server.specs.pg_calls.Forgetting.{bare_entry, begin_lost, begun_at, begun_with, dead_at, dead_by, dirs_of, fill_lost, forget_lost, has_blank_place, is_wanted, last_listing, last_place, lists_in, mark, marked_each, placed_in_root, placed_lost, root_place, strike_out, struck_out, unfilled, unwished}
use Rattle.pg_server.specs.pg_calls.Naming.{raised}
use Rattle.pg_server.proofs.pg_calls.LastPlace.{last_is, listed_there}
use Rattle.law_spelled.specs.Stores.{FitsListed, FitsNames, FitsOwn, FitsPlace, FitsStore}
use Rattle.law_spelled.proofs.Flags.{no_flags}
use Rattle.law_spelled.proofs.Handlers.{filled_fits, flag_raised}
use Rattle.law_spelled.proofs.Intents.{ended_fit}
use Rattle.law_spelled.proofs.Making.{made_place}
use Rattle.law_spelled.proofs.Notes.{wish_ended}
use Rattle.law_spelled.proofs.Places.{blank_own_fits, cell_fits, tilde_fits}
use Rattle.law_spelled.proofs.Stores.{FitsDone, begun_fits, born, entry_noted, intended, wished}

-- ---- a place in the root, by the thing's id

rooted : (s : Store) (f : FileId) (work : Work) → FitsDone (idle s work) → FitsDone (placed_in_root f s work)
rooted s f work h = made_place f (root_place s work.now f) (idle s work) (record { parent = refl; name = tilde_fits f }) h

-- ---- a filling replica

filled : (s : Store) (f : FileId) (work : Work) → FitsDone (idle s work) → FitsDone (fill_lost s f work)
filled s f work h =
    let d = placed_lost s f work in
    let placed : FitsDone d = chosen FitsDone (has_blank_place s f) (placed_in_root f s work) (idle s work) (rooted s f work h) h in
    filled_fits d.store f d.work (record { store = placed.store; work = placed.work })

-- ---- a file that is struck out

marks_fit : (f : FileId) (q : Place) → FitsListed f (bare_entry f q) → (dirs : List FileId) (s : Store) (work : Work)
    → FitsDone (idle s work) → FitsDone (marked_each s f q dirs work)
marks_fit f q new [] s work h = h
marks_fit f q new (d ∷ dirs) s work h =
    let one = mark f q s d work in
    let a = entry_noted s work h d (bare_entry f q) new in
    marks_fit f q new dirs one.store one.work (record { store = a.store; work = a.work })

-- the dead place has the name that it had
dead_fits : (s : Store) (moment : ℕ) (f : FileId) (c : Entry) → FitsListed f c → FitsListed f (bare_entry f (dead_by s moment (Some c) f))
dead_fits s moment f c old = record { child = refl; place = record { parent = old.place.parent; name = old.place.name }; flags = no_flags }

dead_at_fits : (s : Store) (moment : ℕ) (f dir : FileId) → FitsNames s.names → lists_in s.names f dir ≡ true
    → FitsListed f (bare_entry f (dead_at s moment f dir))
dead_at_fits s moment f dir h listed =
    let l = listed_there s.names f dir listed in
    subst (λ o. FitsListed f (bare_entry f (dead_by s moment o f))) (sym l.1)
    (dead_fits s moment f l.0 (cell_fits s.names h dir f l.0 l.1))

-- the latest is one of them
latest_by : (t : Bool) (dir : FileId) (first : Option FileId) (d : FileId) → cond t (Some dir) first ≡ Some d → (first ≡ Some d) ⊎ (d ≡ dir)
latest_by true dir first d h = inr (sym (same_Some dir d h))
latest_by false dir first d h = inl h

latest_in : (names : NamesValue) (f : FileId) (dirs : List FileId) (first : Option FileId) (d : FileId) → latest names f first dirs ≡ Some d
    → (first ≡ Some d) ⊎ Among d dirs
latest_in names f [] first d h = inl h
latest_in names f (dir ∷ dirs) first d h =
    elim (latest_in names f dirs (later names f first dir) d h) [
      | inl one ↦ elim (latest_by (is_later (cell_in names f first) (cell_at names dir f)) dir first d one) [
        | inl old ↦ inl old
        | inr new ↦ inr (inl new)
      ]
      | inr more ↦ inr (inr more)
    ]

struck : (s : Store) (f : FileId) (work : Work) (o : Option FileId) → last_listing s.names f (dirs_of s.names f) ≡ o
    → FitsDone (idle s work) → FitsDone (struck_out s f work o)
struck s f work None e h = h
struck s f work (Some dir) e h =
    let dirs = dirs_of s.names f in
    let dead = dead_at s work.now f dir in
    let some : lists_in s.names f dir ≡ true = elim (latest_in s.names f (filter (lists_in s.names f) dirs) None dir e) [
      | inl none ↦ absurd (none-some dir none)
      | inr here ↦ (among_filter (lists_in s.names f) dir dirs here).1
    ] in
    let new = dead_at_fits s work.now f dir h.store.names some in
    marks_fit f dead new dirs (unwished s f) (with_made work (update.Place f dead))
    (record {
      store = wished s h.store (without_wish s.wishes f) (wish_ended s.wishes f h.store.wishes);
      work = record { sent = h.work.sent; tail = h.work.tail; left = h.work.left; unsure = h.work.unsure; from = h.work.from };
    })

-- ---- a directory that begins anew

begun : (s : Store) (f : FileId) (own : Attributes) → FitsOwn f own → FitsStore s → FitsStore (begun_with s f own)
begun s f own k h =
    let b = with_birth s in
    let rest = intended b (born s h) (ended s.intents (intent_key.Fill f)) (ended_fit s.intents (intent_key.Fill f) h.intents) in
    begun_fits (unfilled b f) f (draw_birth s) Last own true k rest

begun_place : (s : Store) (f : FileId) (work : Work) (o : Option Place) → last_place s.names f ≡ o → FitsDone (idle s work)
    → FitsDone (begun_at s f work o)
begun_place s f work None e h =
    rooted (begun_with s f (blank_own f)) f work (record { store = begun s f (blank_own f) (blank_own_fits f) h.store; work = h.work })
begun_place s f work (Some q) e h =
    let l = last_is s.names f q e in
    let old = cell_fits s.names h.store.names l.dir f l.cell l.there in
    let place : FitsPlace f q = subst (FitsPlace f) l.is old.place in
    record { store = begun s f (record { place = q; flags = [] }) (record { place = place; flags = no_flags }) h.store; work = h.work }

anew : (s : Store) (f : FileId) (work : Work) → FitsDone (idle s work) → FitsDone (begin_lost s f work)
anew s f work h =
    let d = begun_at s f work (last_place s.names f) in
    let k = begun_place s f work (last_place s.names f) refl h in
    chosen FitsDone (is_wanted s f) (raised f d) (idle s work)
    (flag_raised d.store f d.work (record { store = k.store; work = k.work })) h

-- A FORGET
pub forgotten : (s : Store) (work : Work) → FitsDone (idle s work) → (f : FileId) → FitsDone (forget_lost s f work)
forgotten s work h f =
    chosen FitsDone (is_held s f) (fill_lost s f work) (cond (is_dir f) (begin_lost s f work) (strike_out s f work))
    (filled s f work h)
    (chosen FitsDone (is_dir f) (begin_lost s f work) (strike_out s f work) (anew s f work h)
    (struck s f work (last_listing s.names f (dirs_of s.names f)) refl h))
