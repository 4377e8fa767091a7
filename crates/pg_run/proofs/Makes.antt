-- What is made in an event: first what its first effect made, then what the house rules made.
use Rattle.std.proofs.Common.{◌≡◌, ℕ, zero, suc, List, [], ◌∷◌, ◌++◌, length, true, Option, None, Some, refl, sym, ap, ◌∙◌}
use Rattle.std.specs.Prelude.{drop}
use Rattle.std.proofs.Math.Seq.{drop-append_seam}
use Rattle.std.proofs.lemmas.List.{append-nil, append_assoc}
use Rattle.pg_base.specs.declared.id.FileId.{FileId}
use Rattle.pg_register.specs.Place.{root, tilde_name}
use Rattle.pg_server.specs.pg_pieces.pg_msg.declared.update.Update.{Update}
use Rattle.pg_server.specs.pg_pieces.pg_msg.declared.update.Update.TheVariants as update
use Rattle.pg_server.specs.pg_pieces.pg_msg.Work.{with_made, with_touched}
use Rattle.pg_edges.specs.declared.key.Key.TheVariants as key
use Rattle.pg_server.specs.pg_pieces.pg_names.Names.{directories}
use Rattle.pg_server.specs.pg_pieces.pg_house.Work.{State, state_of}
use Rattle.pg_server.specs.pg_pieces.pg_house.Passing.{pass_all}
use Rattle.pg_server.specs.pg_pieces.pg_house.Placing.{drawn, live_place, made_at, place_at, placed, repeated}
use Rattle.pg_server.specs.pg_pieces.pg_house.Returning.{first_returning, return_first, returned}
use Rattle.pg_server.specs.pg_pieces.pg_house.Cycles.{break_first, first_moving, moved}
use Rattle.pg_server.specs.pg_pieces.pg_house.House.{house, movable}
use Rattle.pg_server.proofs.pg_pieces.pg_house.Truths.{chosen}
use Rattle.pg_server.proofs.pg_pieces.pg_house.Made.{all_made, left_made, pass_made}
use Rattle.pg_server.specs.pg_pieces.pg_call.declared.reply.Reply.{Reply}
use Rattle.pg_server.specs.pg_pieces.pg_msg.declared.work.Work.{Work}
use Rattle.pg_server.specs.pg_pieces.pg_store.declared.store.Store.{Store}
use Rattle.pg_server.specs.pg_pieces.pg_store.Store.{is_newer_flag}
use Rattle.pg_server.specs.pg_pieces.Done.{Done}
use Rattle.pg_server.specs.pg_pieces.Making.{own_next, raise_flag}
use Rattle.pg_server.specs.pg_cells.Settling.{rules, settle}
use Rattle.pg_server.proofs.pg_cells.Settled.{settle_keeps}
use Rattle.pg_server.proofs.pg_intentions.Steady.{begin_end_stays}
use Rattle.pg_server.specs.declared.input.Input.{Input}
use Rattle.pg_server.specs.Local.{Effect, closed, effect, finished, first_effect, reply_to, settled, takes_effect}
use Rattle.pg_run.specs.Run.{first_made}
use Rattle.pg_run.specs.Came.{IsMadeInParts}

-- ---- a list goes on from another

abbrev pub IsFront : List Update → List Update → Type 0
IsFront xs ys = (us : List Update) × (ys ≡ xs ++ us)

pub front_same : (xs ys : List Update) → ys ≡ xs → IsFront xs ys
front_same xs ys e = ([], e ∙ sym (append-nil xs))

pub front_then : (xs ys zs : List Update) → IsFront xs ys → IsFront ys zs → IsFront xs zs
front_then xs ys zs f g = (f.0 ++ g.0, g.1 ∙ ap (λ l. l ++ g.0) f.1 ∙ append_assoc xs f.0 g.0)

rest_of : (xs ys : List Update) → IsFront xs ys → ys ≡ xs ++ drop (length xs) ys
rest_of xs ys f = f.1 ∙ ap (λ l. xs ++ l) (sym (ap (drop (length xs)) f.1 ∙ drop-append_seam xs f.0))

-- ---- return and cycles make more

abbrev GoesOn : State → State → Type 0
GoesOn a b = IsFront a.work.made b.work.made

on_then : (a b c : State) → GoesOn a b → GoesOn b c → GoesOn a c
on_then a b c f g = front_then a.work.made b.work.made c.work.made f g

still : (a : State) → GoesOn a a
still a = front_same a.work.made a.work.made refl

placed_on : (moment : ℕ) (ds : List FileId) (st : State) (f p : FileId) (name : List ℕ) → GoesOn st (placed moment ds st f p name)
placed_on moment ds st f p name =
    let place = live_place (drawn moment st.names) p name in
    let work = with_touched (with_made st.work (update.Place f place)) f key.Place in
    (update.Place f place ∷ [], pass_made (made_at st f place) ds f ∙ left_made work f (place_at st.names f))

returned_on : (moment : ℕ) (ds : List FileId) (st : State) (o : Option FileId) → GoesOn st (returned moment ds st o)
returned_on moment ds st None = still st
returned_on moment ds st (Some d) = placed_on moment ds st d (place_at st.names d).parent (place_at st.names d).name

moved_on : (moment : ℕ) (ds : List FileId) (st : State) (o : Option FileId) → GoesOn st (moved moment ds st o)
moved_on moment ds st None = still st
moved_on moment ds st (Some d) = placed_on moment ds st d root (tilde_name d)

repeated_on : (step : State → State) → ((st : State) → GoesOn st (step st)) → (n : ℕ) (st : State) → GoesOn st (repeated n step st)
repeated_on step each zero st = still st
repeated_on step each (suc n) st = on_then st (step st) (repeated n step (step st)) (each st) (repeated_on step each n (step st))

house_on : (moment : ℕ) (st : State) → GoesOn st (house moment st)
house_on moment st =
    let ds = directories st.names in
    let one = pass_all st ds (movable st.names) in
    let two = repeated (length ds) (return_first moment ds) one in
    on_then st one (house moment st) (front_same st.work.made one.work.made (all_made st ds (movable st.names)))
    (on_then one two (house moment st)
    (repeated_on (return_first moment ds) (λ t. returned_on moment ds t (first_returning t.names ds)) (length ds) one)
    (repeated_on (break_first moment ds) (λ t. moved_on moment ds t (first_moving t.names (length ds) None ds)) (length ds) two))

-- ---- a flag is raised, and the rules run again

rules_on : (store : Store) (work : Work) → IsFront work.made (rules store work).work.made
rules_on store work = house_on work.now (state_of store.names work)

raised_on : (store : Store) (file : FileId) (work : Work) → IsFront work.made (raise_flag store file work).work.made
raised_on store file work =
    let flag = own_next store file true in
    let made = with_made work (update.Flag file flag) in (
      update.Flag file flag ∷ [],
      chosen (λ (w : Work). w.made ≡ made.made) (is_newer_flag store file flag)
          (with_touched made file (key.Flag flag.server)) made refl refl,
    )

settle_on : (store : Store) (work : Work) → IsFront work.made (settle store work).work.made
settle_on store work =
    settle_keeps (λ s w. IsFront work.made w.made)
    (λ s w f. front_then work.made w.made (rules s w).work.made f (rules_on s w))
    (λ s file w is f. front_then work.made w.made (raise_flag s file w).work.made f (raised_on s file w))
    store work (front_same work.made work.made refl)

-- ---- an effect

-- what the house rules make is behind what was made before
closed_front : (r : Option Reply) (d : Done) → IsFront d.work.made (closed r d).out.made
closed_front r d =
    let rest = settled d in
    front_then d.work.made rest.work.made (closed r d).out.made (settle_on d.store d.work)
    (front_same rest.work.made (closed r d).out.made (begin_end_stays rest.store rest.work).made)

made_front : (store : Store) (asked : Input) → IsFront (first_made store asked) (effect store asked).out.made
made_front store asked =
    let d = first_effect store asked in
    let r = reply_to store asked in
    chosen (λ (done : Effect). IsFront d.work.made done.out.made) (takes_effect store asked) (closed r d) (finished r d)
    (closed_front r d) (front_same d.work.made d.work.made refl)

pub is_made_in_parts : IsMadeInParts
is_made_in_parts store asked = rest_of (first_made store asked) (effect store asked).out.made (made_front store asked)
