-- A server that is given up, and what was lost: each piece keeps the rule of the edges.
use Rattle.std.proofs.Common.{ℕ, ◌≡◌, true, false, cond, List, [], ◌∷◌, Option, None, Some, is_some, refl, All}
use Rattle.std.specs.Prelude.{nat_lt}
use Rattle.std.specs.List.{filter}
use Rattle.std.specs.Map.{keys_of}
use Rattle.std.proofs.lemmas.List.Elements.{All-cons, All-head, All-nil, All-tail}
use Rattle.pg_run.specs.pg_base.declared.id.FileId.{FileId}
use Rattle.pg_run.specs.pg_base.declared.policy.Policy.TheVariants.{Last}
use Rattle.pg_run.specs.pg_edges.declared.edge.Edge.{Edge}
use Rattle.pg_run.specs.pg_entries.declared.entry.Entry.{Entry}
use Rattle.pg_run.specs.pg_house.Facts.{IsOfDirs}
use Rattle.pg_run.specs.pg_intent.declared.key.IntentKey.TheVariants as intent_key
use Rattle.pg_run.specs.pg_msg.declared.message.Ends.{Ends}
use Rattle.pg_run.specs.pg_msg.declared.message.Message.TheVariants as message
use Rattle.pg_run.specs.pg_msg.declared.update.Update.TheVariants as update
use Rattle.pg_run.specs.pg_msg.declared.work.Work.{Work}
use Rattle.pg_run.specs.pg_msg.Work.{with_made}
use Rattle.pg_run.specs.pg_names.declared.attributes.Attributes.{Attributes}
use Rattle.pg_run.specs.pg_names.Names.{NamesValue, blank_own, cell_at, is_dir}
use Rattle.pg_run.specs.pg_register.declared.place.Place.{Place}
use Rattle.pg_run.specs.pg_register.Flag.{IsByServer}
use Rattle.pg_run.specs.pg_store.declared.store.Store.{Store}
use Rattle.pg_run.specs.pg_store.Births.{draw_birth, with_birth}
use Rattle.pg_run.specs.pg_store.Store.{is_held}
use Rattle.pg_run.specs.pg_store.Views.{enter}
use Rattle.pg_run.specs.pg_pieces.declared.accepting.EdgeUse.TheVariants as manner
use Rattle.pg_run.specs.pg_pieces.Accepting.{accept, ends_to, is_accepted}
use Rattle.pg_run.specs.pg_pieces.Done.{Done, idle}
use Rattle.pg_run.specs.pg_pieces.Making.{raise_flag}
use Rattle.pg_run.specs.pg_repair.Filling.{few_golds, invite, invited, is_bronze, live_golds, raise_if_few}
use Rattle.pg_run.specs.pg_intentions.Inviting.{invite_along, invite_each, invite_of, invites, loose_edge}
use Rattle.pg_run.specs.pg_calls.Forgetting.{bare_entry, begin_lost, begun_at, begun_with, dead_at, dirs_of, fill_lost, forget_lost, has_blank_place, has_cell_for, is_wanted, last_listing, last_place, mark, marked_each, placed_in_root, placed_lost, root_place, strike_from, strike_out, struck_out, unfilled, unwished}
use Rattle.pg_run.specs.pg_calls.GivingUp.{doubt_all, enter_view}
use Rattle.pg_run.specs.pg_calls.Making.{make_place}
use Rattle.pg_run.specs.pg_calls.Naming.{raised}
use Rattle.pg_run.specs.theory_flood_pieces.Seen.{Hearing}
use Rattle.pg_run.specs.theory_flood_pieces.Whole.{IsOther}
use Rattle.pg_run.proofs.theory_flood_pieces.Choices.{chosen, decided}
use Rattle.pg_run.proofs.theory_flood_pieces.Views.{enter_steps, whole_enter}
use Rattle.law_acks.proofs.Handlers.{accept_done, ended_done, fill_done, none_sorted}
use Rattle.law_acks.proofs.Pieces.{IsDone, Stands, begun_done, beside_done, entry_done, on_done, place_done, posted_last, raised_done, same_done}

-- ---- what has a cell is a directory

some_cell : (o : Option Entry) → is_some o ≡ true → (e : Entry) × (o ≡ Some e)
some_cell None h = absurd (let z : false ≡ true = h in cc)
some_cell (Some e) h = (e, refl)

module _ (names : NamesValue) (dirs : IsOfDirs names) (id : FileId) where
  has_dir : (dir : FileId) → has_cell_for names id dir ≡ true → is_dir dir ≡ true
  has_dir dir h = let e = some_cell (cell_at names dir id) h in dirs dir id e.0 e.1

  all_dirs : (ids : List FileId) → All (λ d. is_dir d ≡ true) (filter (has_cell_for names id) ids)
  all_dirs [] = All-nil (λ (d : FileId). is_dir d ≡ true)
  all_dirs (d ∷ ids) =
      let rest = all_dirs ids in
      let found = filter (has_cell_for names id) ids in
      decided (All (λ (x : FileId). is_dir x ≡ true)) (has_cell_for names id d) (d ∷ found) found
      (λ is. All-cons (λ (x : FileId). is_dir x ≡ true) d found (has_dir d is) rest) (λ no. rest)

-- ---- Server s of n came from a, having heard this

module _ (n s : ℕ) (a : Store) (heard : Hearing) where
  abbrev Is : Done → Type 0
  Is d = IsDone n s a heard d

  abbrev At : Store → Work → Type 0
  At b work = Stands n s a heard b work

  -- ---- more of a kind are asked to be gold

  few_done : (b : Store) (work : Work) → At b work → (file : FileId) → Is (raise_if_few b file work)
  few_done b work u file =
      chosen Is (nat_lt (live_golds b file) few_golds) (raise_flag b file work) (idle b work)
      (raised_done n s a heard b work file u) u

  invited_done : (d : Done) → Is d → (ends : Ends) → Is (invited ends d)
  invited_done d u ends =
      chosen Is (is_bronze d.store ends.file) (raise_if_few d.store ends.file d.work) d
      (few_done d.store d.work u ends.file) u

  pub invite_done : (b : Store) (work : Work) → At b work → (ends : Ends) → IsOther n s work.from
      → Is (invite b ends work)
  invite_done b work u ends other =
      let met = accept b ends manner.Needs work in
      let v = accept_done n s a heard b work u ends manner.Needs other in
      chosen Is (is_accepted b work.from manner.Needs ends) (invited ends met) met (invited_done met v ends) v

  -- ---- a server is given up

  along_done : (b : Store) (work : Work) → At b work → (file : FileId) (o : Option Edge)
      → At b (invite_along b file o work)
  along_done b work u file None = u
  along_done b work u file (Some e) =
      posted_last n s a heard b work u e.peer (message.Invite (ends_to b file e.birth)) (λ from. refl) tt

  each_invited : (b : Store) (files : List FileId) (work : Work) → At b work → At b (invite_each b files work)
  each_invited b [] work u = u
  each_invited b (file ∷ files) work u =
      each_invited b files (invite_of b file work)
      (chosen (At b) (invites b file) (invite_along b file (loose_edge b file) work) work
      (along_done b work u file (loose_edge b file)) u)

  pub enter_view_done : (b : Store) (work : Work) → At b work → (server : ℕ) → Is (enter_view b server work)
  enter_view_done b work u server =
      let c = enter b server in
      each_invited c (keys_of c.names.held) (doubt_all c work)
      (same_done n s a heard c work (doubt_all c work) (record { sent = refl; from = refl; tail = refl })
      (on_done n s a heard b work u c (enter_steps b server) (whole_enter n s server b u.way.whole)))

  -- ---- what was lost

  pub made_place : (d : Done) → Is d → (f : FileId) (place : Place) → Is (make_place f place d)
  made_place d u f place =
      place_done n s a heard d.store (with_made d.work (update.Place f place)) u f place

  in_root_done : (b : Store) (work : Work) → At b work → (id : FileId) → Is (placed_in_root id b work)
  in_root_done b work u id = made_place (idle b work) u id (root_place b work.now id)

  -- a filling replica
  fill_lost_done : (b : Store) (work : Work) → At b work → (id : FileId) → Is (fill_lost b id work)
  fill_lost_done b work u id =
      let placed = placed_lost b id work in
      let v = chosen Is (has_blank_place b id) (placed_in_root id b work) (idle b work) (in_root_done b work u id) u in
      fill_done n s a heard placed.store placed.work v id

  -- a file that is not held
  marks_done : (id : FileId) (place : Place) (dirs : List FileId) → All (λ d. is_dir d ≡ true) dirs
      → (b : Store) (work : Work) → At b work → Is (marked_each b id place dirs work)
  marks_done id place [] are b work u = u
  marks_done id place (dir ∷ dirs) are b work u =
      let d = mark id place b dir work in
      marks_done id place dirs (All-tail (λ (x : FileId). is_dir x ≡ true) dir dirs are) d.store d.work
      (entry_done n s a heard b work u dir (bare_entry id place) (All-head (λ (x : FileId). is_dir x ≡ true) dir dirs are))

  struck_done : (b : Store) (work : Work) → At b work → (id dir : FileId)
      → Is (strike_from b id dir (dirs_of b.names id) work)
  struck_done b work u id dir =
      let place = dead_at b work.now id dir in
      let free = unwished b id in
      let noted = with_made work (update.Place id place) in
      let v : At free noted =
      beside_done n s a heard b noted u free (record { servers = refl; tags = refl; names = refl; replicas = refl }) u.way.whole.patches in
      marks_done id place (dirs_of b.names id) (all_dirs b.names u.way.whole.names.dirs id (keys_of b.names.held)) free noted v

  struck_by : (b : Store) (work : Work) → At b work → (id : FileId) (o : Option FileId) → Is (struck_out b id work o)
  struck_by b work u id None = u
  struck_by b work u id (Some dir) = struck_done b work u id dir

  -- a directory that is not held
  begun_lost : (b : Store) (work : Work) → At b work → (id : FileId) (own : Attributes) → is_held b id ≡ false
      → IsByServer own.flags → At (begun_with b id own) work
  begun_lost b work u id own away sorted =
      let counted = with_birth b in
      let v : At counted work =
      beside_done n s a heard b work u counted (record { servers = refl; tags = refl; names = refl; replicas = refl }) u.way.whole.patches in
      begun_done n s a heard (unfilled counted id) work (ended_done n s a heard counted work v (intent_key.Fill id)) id (draw_birth b) Last own
      true away sorted

  begun_by : (b : Store) (work : Work) → At b work → (id : FileId) → is_held b id ≡ false → (o : Option Place)
      → Is (begun_at b id work o)
  begun_by b work u id away (Some place) = begun_lost b work u id (record { place = place; flags = [] }) away none_sorted
  begun_by b work u id away None =
      in_root_done (begun_with b id (blank_own id)) work (begun_lost b work u id (blank_own id) away none_sorted) id

  begin_lost_done : (b : Store) (work : Work) → At b work → (id : FileId) → is_held b id ≡ false
      → Is (begin_lost b id work)
  begin_lost_done b work u id away =
      let begun = begun_at b id work (last_place b.names id) in
      chosen Is (is_wanted b id) (raised id begun) (idle b work)
      (raised_done n s a heard begun.store begun.work id (begun_by b work u id away (last_place b.names id))) u

  pub forget_done : (b : Store) (work : Work) → At b work → (id : FileId) → Is (forget_lost b id work)
  forget_done b work u id =
      decided Is (is_held b id) (fill_lost b id work) (cond (is_dir id) (begin_lost b id work) (strike_out b id work))
      (λ held. fill_lost_done b work u id)
      (λ away. chosen Is (is_dir id) (begin_lost b id work) (strike_out b id work) (begin_lost_done b work u id away)
      (struck_by b work u id (last_listing b.names id (dirs_of b.names id))))
