-- What was lost is given up: what a forget makes, and what begins or is struck out, is what the
-- server knows more then.
use Rattle.std.proofs.Common.{ℕ, ◌≡◌, ◌&&◌, ◌||◌, Bool, true, false, cond, not, List, [], ◌∷◌, ◌++◌, map, Option, None, Some, Result, Ok, Err, refl, sym, ap, subst, ◌∙◌, inl, inr}
use Rattle.std.specs.List.{flat_map}
use Rattle.std.specs.Map.{keys_of}
use Rattle.pg_run.specs.pg_base.declared.id.FileId.{FileId}
use Rattle.pg_run.specs.pg_base.declared.policy.Policy.TheVariants.{Last}
use Rattle.pg_run.specs.pg_base.Id.{is_same_file}
use Rattle.pg_run.specs.pg_base.Stamp.{is_before}
use Rattle.pg_run.specs.pg_content.Content.{Among}
use Rattle.pg_run.proofs.pg_content.Members.{among_filter}
use Rattle.pg_run.specs.pg_register.declared.place.Place.{Place}
use Rattle.pg_run.specs.pg_register.Flag.{IsByServer}
use Rattle.pg_run.specs.pg_register.Place.{blank_place, first_stamp, root, root_place as place_of_root}
use Rattle.pg_run.proofs.pg_register.ByServer.{IsByServer-nil}
use Rattle.pg_run.specs.pg_intent.declared.intent.Intent.{Intent}
use Rattle.pg_run.specs.pg_intent.declared.intent.Intent.TheVariants as intent
use Rattle.pg_run.specs.pg_intent.declared.key.IntentKey.TheVariants as intent_key
use Rattle.pg_run.specs.pg_intent.Intents.{ended}
use Rattle.pg_run.proofs.pg_intent.Kept.{own-ended}
use Rattle.pg_run.specs.pg_msg.declared.update.Update.TheVariants as update
use Rattle.pg_run.specs.pg_msg.declared.work.Work.{Work}
use Rattle.pg_run.specs.pg_msg.Work.{new_work, with_made}
use Rattle.pg_run.specs.pg_call.declared.reply.Reply.TheVariants as reply
use Rattle.pg_run.specs.pg_names.declared.attributes.Attributes.{Attributes}
use Rattle.pg_run.specs.pg_names.Names.{NamesValue, blank_own, cell_at, is_dir, known}
use Rattle.pg_run.specs.pg_house.Facts.{IsHeld}
use Rattle.pg_run.proofs.pg_house.Greatest.{cell_held}
use Rattle.pg_run.proofs.pg_house.Truths.{chosen_false}
use Rattle.pg_run.proofs.theory_flood_pieces.Choices.{chosen}
use Rattle.pg_run.proofs.theory_flood_pieces.Together.{own_of_held}
use Rattle.pg_run.specs.pg_lookup.declared.paths.LookupError.{LookupError}
use Rattle.pg_run.specs.pg_lookup.declared.paths.LookupError.TheVariants as stop
use Rattle.pg_run.specs.pg_store.declared.store.Store.{Store}
use Rattle.pg_run.specs.pg_store.Births.{draw_birth, with_birth}
use Rattle.pg_run.specs.pg_store.Store.{is_held}
use Rattle.pg_run.specs.pg_pieces.Done.{Done, idle}
use Rattle.pg_run.specs.pg_pieces.Making.{own_next}
use Rattle.pg_run.specs.pg_checks.Answer.{Answer, answer, answered}
use Rattle.pg_run.specs.pg_calls.Forgetting.{bare_entry, begin_lost, begun_at, begun_with, dead_at, dirs_of, fill_lost, forget_lost, has_blank_place, has_cell_for, is_wanted, last_place, mark, marked_each, last_listing, placed_in_root, placed_lost, root_place, strike_out, struck_out, unfilled, unwished}
use Rattle.pg_run.specs.pg_calls.Naming.{next_id, raised}
use Rattle.pg_run.specs.pg_base.declared.id.Kind.{Kind}
use Rattle.pg_run.specs.Carried.{anew_takes, forgotten_takes, known_takes, patch_taken, patches_taken, strikes_out, struck_by, struck_takes}
use Rattle.pg_run.specs.Known.{Told}
use Rattle.pg_run.specs.Took.{Take, entry_takes, flags_of, places_of, take_of}
use Rattle.pg_run.specs.Took.Take.{Began, TookPlace}
use Rattle.pg_run.specs.Took.Taker.{InDir, Itself}
use Rattle.pg_run.proofs.Lists.{among_back}
use Rattle.pg_run.proofs.pg_calls.LastPlace.{IsLastPlace, cell_there, last_is}
use Rattle.law_names.specs.Goes.{Goes}
use Rattle.law_names.specs.Merged.{IsNewId}
use Rattle.law_names.proofs.Calls.{denied}
use Rattle.law_names.proofs.Going.{goes_entry, goes_reordered, still_held}
use Rattle.law_names.proofs.Held.{away_inner, none_of}
use Rattle.law_names.proofs.Making.{DoneIs, fill_made, flag_made, place_made}
use Rattle.law_names.proofs.Messages.{IsReady}
use Rattle.law_names.proofs.Patched.{from_front, goes_with_patches, to_front}
use Rattle.law_passing.proofs.Takes.{began_held}

-- ---- Patches stay where a Fill ends

ended_fill : (f id : FileId) (is : List Intent) → flat_map (patch_taken f) (ended is (intent_key.Fill id)) ≡ flat_map (patch_taken f) is
ended_fill f id [] = refl
ended_fill f id (intent.Bye file birth peer peer_birth ∷ is) = ended_fill f id is
ended_fill f id (intent.Seek file target ∷ is) = ended_fill f id is
ended_fill f id (intent.Fill file birth target ∷ is) = by (is_same_file id file) (ended_fill f id is)
  where
    by : (t : Bool) → flat_map (patch_taken f) (ended is (intent_key.Fill id)) ≡ flat_map (patch_taken f) is
        → flat_map (patch_taken f) (cond (not t) (intent.Fill file birth target ∷ ended is (intent_key.Fill id)) (ended is (intent_key.Fill id)))
        ≡ flat_map (patch_taken f) is
    by true rest = rest
    by false rest = rest
ended_fill f id (intent.Confirm dir child target ∷ is) = ended_fill f id is
ended_fill f id (intent.Leave file peer peer_birth ∷ is) = ended_fill f id is
ended_fill f id (intent.Patch to e target ∷ is) = ap (λ xs. cond (is_same_file to f) (entry_takes f e) [] ++ xs) (ended_fill f id is)

module _ (removed : List ℕ) (p : Told) (a : Store) (now : List Take) (k : Goes removed a.names now) (ready : IsReady p a) (moment : ℕ) where
  abbrev Is : NamesValue → List Take → Type 0
  Is = Goes removed

  abbrev W : Work
  W = new_work moment 0

  module _ (id : FileId) where
    -- ---- a filling replica is full as it is

    placed_goes : IsHeld a.names id → DoneIs removed now (placed_lost a id W)
    placed_goes held =
        chosen (DoneIs removed now) (has_blank_place a id) (placed_in_root id a W) (idle a W)
        (place_made removed now (idle a W) k id held (root_place a moment id)) k

    filled_goes : IsHeld a.names id → DoneIs removed now (fill_lost a id W)
    filled_goes held =
        let d = placed_lost a id W in
        let rest = map take_of d.work.made ++ now in
        let placed = placed_goes held in
        fill_made removed now d placed id
        (still_held removed a.names d.store.names now rest k placed (λ x h. among_back x (map take_of d.work.made) now h) id held)

    -- ---- a file is struck out

    module _ (q : Place) where
      abbrev Takes : List FileId → List Take
      Takes dirs = map (λ d. TookPlace (InDir d) id q) dirs

      marks_go : (dirs : List FileId) (s : Store) (w : Work) (xs : List Take) → Is s.names xs
          → ((d : FileId) → Among d dirs → IsHeld s.names d × (is_dir d ≡ true))
          → Is (marked_each s id q dirs w).store.names (Takes dirs ++ xs)
      marks_go [] s w xs h each = h
      marks_go (d ∷ dirs) s w xs h each =
          let one = TookPlace (InDir d) id q ∷ [] in
          let b = mark id q s d w in
          let here = each d (inl refl) in
          let next = goes_entry removed s xs h d here.0 here.1 (bare_entry id q) IsByServer-nil in
          let held : (e : FileId) → Among e dirs → IsHeld b.store.names e × (is_dir e ≡ true) =
          (λ e i. let was = each e (inr i) in
          (still_held removed s.names b.store.names xs (one ++ xs) h next (λ x j. inr j) e was.0, was.1)) in
          goes_reordered removed (marked_each s id q (d ∷ dirs) w).store.names (Takes dirs ++ (one ++ xs)) ((one ++ Takes dirs) ++ xs)
          (marks_go dirs b.store b.work (one ++ xs) next held) (to_front one (Takes dirs) xs) (from_front one (Takes dirs) xs)

    with_cell : (d : FileId) → Among d (dirs_of a.names id) → IsHeld a.names d × (is_dir d ≡ true)
    with_cell d among =
        let c = cell_there a.names id d (cell_at a.names d id) refl (among_filter (has_cell_for a.names id) d (keys_of a.names.held) among).1 in
        (cell_held a.names d id c.0 c.1, k.dirs d id c.0 c.1)

    struck_goes : (o : Option FileId) → Is (struck_out a id W o).store.names (struck_by a moment id o ++ now)
    struck_goes None = k
    struck_goes (Some dir) =
        let dead = dead_at a moment id dir in
        marks_go dead (dirs_of a.names id) (unwished a id) (with_made W (update.Place id dead)) now k with_cell

    -- ---- a directory begins anew

    module _ (away : is_held a id ≡ false) where
      abbrev First : Store
      First = unfilled (with_birth a) id

      inner : is_same_file id root ≡ false
      inner = away_inner a id ready.intends.held.root away (is_same_file id root) refl

      began : (own : Attributes) (first : is_before first_stamp own.place.stamp ≡ false → own.place ≡ blank_place id) → own.flags ≡ []
          → Is (begun_with a id own).names ((Began id ∷ places_of Itself id own.place ++ (flags_of Itself id own.flags ++ patches_taken a id)) ++ now)
      began own first none =
          let sorted = subst IsByServer (sym none) IsByServer-nil in
          let all = goes_with_patches removed First now k id (none_of (known a.names id) away) inner (draw_birth a) Last own true sorted first
          (own-ended a.intents (intent_key.Fill id) ready.intends.keys)
          (λ e target h. ready.patches id e target (among_filter _ (intent.Patch id e target) a.intents h).0) in
          let P : List Take → Type 0 = λ xs. Is (begun_with a id own).names
          ((Began id ∷ places_of Itself id own.place ++ (flags_of Itself id own.flags ++ xs)) ++ now) in
          subst P (ended_fill id id a.intents) all

      there : (s : NamesValue) (xs : List Take) (more : List Take) → Is s (more ++ (Began id ∷ xs)) → IsHeld s id
      there s xs more h = h.tells.held id (began_held (more ++ (Began id ∷ xs)) id (among_back (Began id) more (Began id ∷ xs) (inl refl)))

      abbrev Anew : Option Place → List Take
      Anew o = Began id ∷ known_takes id o ++ patches_taken a id

      -- with the live place that is known
      placed_at : (q : Place) → IsLastPlace a.names id q → Is (begun_with a id (record { place = q; flags = [] })).names (Anew (Some q) ++ now)
      placed_at q l =
          let told : p.IsPlace id q = subst (p.IsPlace id) l.is (ready.cells l.dir id l.cell l.there) in
          let first : is_before first_stamp q.stamp ≡ false → q ≡ blank_place id =
          (λ h. ready.first id q told h ∙ chosen_false (is_same_file id root) place_of_root (blank_place id) inner) in
          let P : List Take → Type 0 = λ xs. Is (begun_with a id (record { place = q; flags = [] })).names ((Began id ∷ xs ++ patches_taken a id) ++ now) in
          subst P (live_takes q l.live) (began (record { place = q; flags = [] }) first refl)
        where
          live_takes : (r : Place) → r.live ≡ true → places_of Itself id r ≡ TookPlace Itself id r ∷ []
          live_takes r live = ap (λ t. cond (t || is_before first_stamp r.stamp) (TookPlace Itself id r ∷ []) []) live

      -- or with one in the root that is made
      rooted : DoneIs removed (Anew None ++ now) (begun_at a id W None)
      rooted =
          let b = begun_with a id (blank_own id) in
          let here = began (blank_own id) (λ h. refl) refl in
          place_made removed (Anew None ++ now) (idle b W) here id (there b.names (patches_taken a id ++ now) [] here) (root_place b moment id)

      at_goes : (o : Option Place) → last_place a.names id ≡ o → DoneIs removed (Anew o ++ now) (begun_at a id W o)
      at_goes None e = rooted
      at_goes (Some q) e = placed_at q (last_is a.names id q e)

      raised_goes : (o : Option Place) (d : Done) → DoneIs removed (Anew o ++ now) d → DoneIs removed (Anew o ++ now) (raised id d)
      raised_goes o d h =
          flag_made removed (Anew o ++ now) d h id
          (there d.store.names ((known_takes id o ++ patches_taken a id) ++ now) (map take_of d.work.made) h) (own_next d.store id true)

      wanted_by : (t : Bool) → DoneIs removed (cond t (Anew (last_place a.names id)) [] ++ now)
          (cond t (raised id (begun_at a id W (last_place a.names id))) (idle a W))
      wanted_by true =
          raised_goes (last_place a.names id) (begun_at a id W (last_place a.names id)) (at_goes (last_place a.names id) refl)
      wanted_by false = k

    -- ---- what was lost

    abbrev Lost : Bool → Bool → Done
    Lost held dir = cond held (fill_lost a id W) (cond dir (begin_lost a id W) (strike_out a id W))

    abbrev Brought : Bool → Bool → List Take
    Brought held dir =
        cond (not held && not dir) [] (map take_of (Lost held dir).work.made)
        ++ (cond held [] (cond dir (anew_takes a id) (struck_takes a moment id)) ++ now)

    lost_by : (held dir : Bool) → is_held a id ≡ held → Is (Lost held dir).store.names (Brought held dir)
    lost_by true dir h = filled_goes (own_of_held a.names id h)
    lost_by false true h = wanted_by h (is_wanted a id)
    lost_by false false h = struck_goes (last_listing a.names id (dirs_of a.names id))

  module _ (ids : (kind : Kind) → IsNewId a (next_id a kind)) where
    abbrev Asked : Result FileId LookupError → Answer
    Asked o = answered a W o (λ found. answer (forget_lost a found W) reply.Done)

    -- A FORGET
    pub forget_goes : (o : Result FileId LookupError)
        → Is (Asked o).store.names (cond (strikes_out a o) [] (map take_of (Asked o).work.made) ++ (forgotten_takes a moment o ++ now))
    forget_goes (Err (stop.Refused why)) = denied removed p a now k ready ids moment (stop.Refused why)
    forget_goes (Err (stop.NotYet found)) = denied removed p a now k ready ids moment (stop.NotYet found)
    forget_goes (Ok id) = lost_by id (is_held a id) (is_dir id) refl
