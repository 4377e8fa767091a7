-- What a forget makes: dead places are of the file that it names.
use Rattle.std.proofs.Common.{ℕ, ◌≡◌, ◌==◌, true, false, cond, not, nat_lt, [], ◌∷◌, Option, None, Some, Result, Ok, Err, All, refl, sym, ap, subst, ◌∙◌}
use Rattle.std.proofs.lemmas.Bool.{false≢true}
use Rattle.std.proofs.lemmas.List.Elements.{All-append, All-cons, All-nil}
use Rattle.pg_run.specs.pg_base.declared.id.FileId.{FileId}
use Rattle.pg_run.specs.pg_call.declared.call.Call.TheVariants.{Forget}
use Rattle.pg_run.specs.pg_call.declared.refusal.Refusal.TheVariants.{ClockEnd, Held, Root}
use Rattle.pg_run.specs.pg_call.declared.reply.Reply.TheVariants.{Done as IsDone}
use Rattle.pg_run.specs.pg_checks.Answer.{Answer, answer, answered, deny}
use Rattle.pg_run.specs.pg_checks.Asking.{ask_by, fetch, fresh_wish, holder, standing}
use Rattle.pg_run.specs.pg_checks.Checks.{in_time}
use Rattle.pg_run.specs.pg_calls.Demoting.{unless_root}
use Rattle.pg_run.specs.pg_calls.Forgetting.{begin_lost, begun_at, begun_with, dead_at, dirs_of, fill_lost, forget_lost, has_blank_place, is_wanted, last_listing, last_place, lost_at, placed_in_root, placed_lost, root_place, strike_out, struck_out, unless_full, unwished}
use Rattle.pg_run.specs.pg_calls.Naming.{raised}
use Rattle.pg_run.proofs.pg_calls.Checked.{behind, unless_ok}
use Rattle.pg_run.specs.pg_house.Work.{is_root}
use Rattle.pg_run.specs.pg_lookup.Walk.{and_then}
use Rattle.pg_run.specs.pg_lookup.declared.paths.Found.{Found}
use Rattle.pg_run.specs.pg_lookup.declared.paths.LookupError.{LookupError}
use Rattle.pg_run.specs.pg_lookup.declared.paths.LookupError.TheVariants as stop
use Rattle.pg_run.specs.pg_msg.declared.message.Message.TheVariants as message
use Rattle.pg_run.specs.pg_msg.declared.update.Update.{Update}
use Rattle.pg_run.specs.pg_msg.declared.update.Update.TheVariants as update
use Rattle.pg_run.specs.pg_msg.declared.work.Work.{Work}
use Rattle.pg_run.specs.pg_msg.Work.{new_work, with_made}
use Rattle.pg_run.specs.pg_names.Names.{blank_own, fill as names_fill, is_dir}
use Rattle.pg_run.specs.pg_pieces.Done.{Done, idle}
use Rattle.pg_run.specs.pg_pieces.Making.{own_next, raise_flag}
use Rattle.pg_run.specs.pg_pieces.Posting.{post}
use Rattle.pg_run.specs.pg_register.declared.flag.Flag.{Flag}
use Rattle.pg_run.specs.pg_register.declared.place.Place.{Place}
use Rattle.pg_run.specs.pg_repair.Filling.{few_golds, live_golds}
use Rattle.pg_run.specs.pg_server.declared.input.Input.TheVariants as input
use Rattle.pg_run.specs.pg_store.declared.store.Store.{Store}
use Rattle.pg_run.specs.pg_store.declared.wishes.Wish.{Wish}
use Rattle.pg_run.specs.pg_store.Births.{with_birth, with_wish}
use Rattle.pg_run.specs.pg_store.Store.{is_before_clock_end, is_full, is_held, with_names}
use Rattle.pg_run.proofs.theory_flood_pieces.Choices.{chosen, decided}
use Rattle.pg_run.specs.Run.{first_made}
use Rattle.pg_run.proofs.Striking.{marked_made}
use Rattle.law_names.proofs.Notes.{flag_noted_made, place_noted_made}

same_file_of : (f g : FileId) (p q : Place) → update.Place f p ≡ update.Place g q → f ≡ g
same_file_of f g p q h = cc

same_place_of : (f g : FileId) (p q : Place) → update.Place f p ≡ update.Place g q → p ≡ q
same_place_of f g p q h = cc

no_place : (f g : FileId) (x : Flag) (q : Place) → update.Flag f x ≡ update.Place g q → ⊥
no_place f g x q h = cc

-- a dead place is of this one, and that is a file
abbrev pub IsOfFile : FileId → Update → Type 0
IsOfFile f u = (g : FileId) (p : Place) → u ≡ update.Place g p → p.live ≡ false
    → (g ≡ f) × (is_dir g ≡ false)

-- the check answers the thing that is named
lost_same : (a : Store) (id found : FileId) → lost_at a id ≡ Ok found → id ≡ found
lost_same a id found h =
    let last = behind (and_then (in_time a id) unless_root) (unless_full a) found h in
    let first = behind (in_time a id) unless_root last.0 last.1 in
    let time = unless_ok (not (is_before_clock_end a)) ClockEnd id first.0 first.1 in
    let here = unless_ok (is_root first.0) Root first.0 last.0 first.2 in
    let there = unless_ok (is_full a last.0) Held last.0 found last.2 in
    time.1 ∙ (here.1 ∙ there.1)

module _ (a : Store) (moment : ℕ) where
  abbrev W : Work
  W = new_work moment 0

  -- ---- where it does not go on, nothing is made

  fetched : (f : FileId) (wish : Wish) → (fetch a f wish W).made ≡ []
  fetched f wish = chosen (λ (w : Work). w.made ≡ []) (wish.target == 0) W
      (post a wish.target (message.Fetch f wish.birth) W) refl refl

  asked_by : (found : Found) (o : Option Wish) → (ask_by a found o W).work.made ≡ []
  asked_by found None =
      let f = found.file in
      let target = holder a found in
      chosen (λ (d : Done). d.work.made ≡ []) (target == 0) (idle a W)
      (idle (with_wish (with_birth a) f (fresh_wish a target))
      (fetch a f (fresh_wish a target) W)) refl
      (fetched f (fresh_wish a target))
  asked_by found (Some wish) = fetched found.file wish

  denied : (why : LookupError) → (deny a why W).work.made ≡ []
  denied (stop.Refused why) = refl
  denied (stop.NotYet found) = asked_by found (standing a found.file)

  -- ---- what was lost

  module _ (id : FileId) where
    abbrev Q : Update → Type 0
    Q = IsOfFile id

    abbrev Fine : Done → Type 0
    Fine d = All Q d.work.made

    live_fine : (p : Place) → p.live ≡ true → Q (update.Place id p)
    live_fine p live g q same dead =
        absurd (false≢true (sym dead ∙ (ap (λ (z : Place). z.live)
        (sym (same_place_of id g p q same)) ∙ live)))

    dead_fine : is_dir id ≡ false → (p : Place) → Q (update.Place id p)
    dead_fine file p g q same dead =
        let e = same_file_of id g p q same in (sym e, ap is_dir (sym e) ∙ file)

    flag_fine : (x : Flag) → Q (update.Flag id x)
    flag_fine x g q same dead = absurd (no_place id g x q same)

    one_fine : (u : Update) → Q u → All Q (u ∷ [])
    one_fine u h = All-cons Q u [] h (All-nil Q)

    placed_fine : (s : Store) → Fine (placed_in_root id s W)
    placed_fine s =
        let p = root_place s moment id in
        let u = update.Place id p in
        subst (All Q) (sym (place_noted_made s id p (with_made W u)))
        (one_fine u (live_fine p refl))

    raise_fine : (s : Store) (w : Work) → All Q w.made → Fine (raise_flag s id w)
    raise_fine s w h =
        let x = own_next s id true in
        let u = update.Flag id x in
        subst (All Q) (sym (flag_noted_made s id x (with_made w u)))
        (All-append Q w.made (u ∷ []) h (one_fine u (flag_fine x)))

    -- a filling replica is full as it is
    fill_fine : Fine (fill_lost a id W)
    fill_fine =
        let d = placed_lost a id W in
        let s = with_names d.store (names_fill d.store.names id) in
        let placed : Fine d = chosen Fine (has_blank_place a id) (placed_in_root id a W) (idle a W)
        (placed_fine a) (All-nil Q) in
        chosen Fine (nat_lt (live_golds s id) few_golds) (raise_flag s id d.work) (idle s d.work)
        (raise_fine s d.work placed) placed

    -- a directory begins anew
    begun_fine : (o : Option Place) → Fine (begun_at a id W o)
    begun_fine None = placed_fine (begun_with a id (blank_own id))
    begun_fine (Some place) = All-nil Q

    begin_fine : Fine (begin_lost a id W)
    begin_fine =
        let d = begun_at a id W (last_place a.names id) in
        chosen Fine (is_wanted a id) (raised id d) (idle a W)
        (raise_fine d.store d.work (begun_fine (last_place a.names id))) (All-nil Q)

    -- a file is struck out
    struck_fine : is_dir id ≡ false → (o : Option FileId) → Fine (struck_out a id W o)
    struck_fine file None = All-nil Q
    struck_fine file (Some dir) =
        let dead = dead_at a moment id dir in
        let u = update.Place id dead in
        subst (All Q)
        (sym (marked_made (dirs_of a.names id) (unwished a id) id dead (with_made W u)))
        (one_fine u (dead_fine file dead))

    forget_fine : Fine (forget_lost a id W)
    forget_fine =
        chosen Fine (is_held a id) (fill_lost a id W)
        (cond (is_dir id) (begin_lost a id W) (strike_out a id W)) fill_fine
        (decided Fine (is_dir id) (begin_lost a id W) (strike_out a id W) (λ dir. begin_fine)
        (λ file. struck_fine file (last_listing a.names id (dirs_of a.names id))))

  -- ---- any forget

  abbrev Goes : FileId → Answer
  Goes found = answer (forget_lost a found W) IsDone

  by_check : (id : FileId) (r : Result FileId LookupError) → lost_at a id ≡ r
      → All (IsOfFile id) (answered a W r Goes).work.made
  by_check id (Err why) is = subst (All (IsOfFile id)) (sym (denied why)) (All-nil (IsOfFile id))
  by_check id (Ok found) is =
      subst (λ (z : FileId). All (IsOfFile id) (forget_lost a z W).work.made)
      (lost_same a id found is) (forget_fine id)

  pub made_fine : (id : FileId)
      → All (IsOfFile id) (first_made a (input.Call moment (Forget id)))
  made_fine id = by_check id (lost_at a id) refl
