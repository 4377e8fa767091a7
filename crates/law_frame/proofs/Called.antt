-- A CALL: what outlives its pieces outlives it.
use Rattle.std.proofs.Common.{[], ℕ, ◌≡◌, ◌==◌, Bool, true, false, cond, List, ◌∷◌, Option, None, Some, All, inl, inr, refl, sym, ap, subst}
use Rattle.std.specs.List.{filter}
use Rattle.std.specs.Map.{keys_of}
use Rattle.std.specs.Prelude.{Err, Ok, Result, nat_lt}
use Rattle.std.proofs.lemmas.List.Elements.{All-head, All-tail, filter_passes}
use Rattle.std.proofs.lemmas.Option.{none-some}
use Rattle.pg_run.specs.pg_base.declared.id.FileId.{FileId}
use Rattle.pg_run.specs.pg_base.declared.id.Kind.{Kind}
use Rattle.pg_run.specs.pg_base.declared.id.Kind.TheVariants.{Dir, File}
use Rattle.pg_run.specs.pg_base.declared.policy.Policy.{Policy}
use Rattle.pg_run.specs.pg_base.declared.policy.Policy.TheVariants.{Last}
use Rattle.pg_run.specs.pg_call.declared.call.Call.{Call}
use Rattle.pg_run.specs.pg_call.declared.call.Call.TheVariants as call
use Rattle.pg_run.specs.pg_call.declared.refusal.Refusal.TheVariants.{NotYet}
use Rattle.pg_run.specs.pg_call.declared.reply.Reply.{Reply}
use Rattle.pg_run.specs.pg_call.declared.reply.Reply.TheVariants as reply
use Rattle.pg_run.specs.pg_lookup.declared.paths.Found.{Found}
use Rattle.pg_run.specs.pg_lookup.declared.paths.LookupError.{LookupError}
use Rattle.pg_run.specs.pg_lookup.declared.paths.LookupError.TheVariants as stop
use Rattle.pg_run.specs.pg_msg.declared.message.Message.TheVariants as message
use Rattle.pg_run.specs.pg_msg.declared.update.Update.TheVariants as update
use Rattle.pg_run.specs.pg_msg.declared.work.Work.{Work}
use Rattle.pg_run.specs.pg_msg.Work.{with_made}
use Rattle.pg_run.specs.pg_names.Names.{blank_own, is_dir}
use Rattle.pg_run.specs.pg_names.Names.{fill as fill_names}
use Rattle.pg_run.specs.pg_patch.Ranges.{RangesValue, cut_to, written}
use Rattle.pg_run.specs.pg_register.declared.flag.Flag.{Flag}
use Rattle.pg_run.specs.pg_register.declared.place.Place.{Place}
use Rattle.pg_run.specs.pg_store.declared.store.Store.{Store}
use Rattle.pg_run.specs.pg_store.declared.wishes.Wish.{Wish}
use Rattle.pg_run.specs.pg_store.Births.{with_birth, with_wish}
use Rattle.pg_run.specs.pg_store.Store.{is_full, is_held, with_names}
use Rattle.pg_run.specs.pg_pieces.Done.{Done, idle}
use Rattle.pg_run.specs.pg_pieces.Golds.{is_gold}
use Rattle.pg_run.specs.pg_pieces.Intending.{begin_intent}
use Rattle.pg_run.specs.pg_pieces.Making.{lower_flag, raise_flag}
use Rattle.pg_run.specs.pg_pieces.Posting.{post}
use Rattle.pg_run.specs.pg_repair.Filling.{few_golds, live_golds}
use Rattle.pg_run.specs.pg_checks.declared.checks.NewName.{NewName}
use Rattle.pg_run.specs.pg_checks.Answer.{Answer, answered, deny, replied, told}
use Rattle.pg_run.specs.pg_checks.Asking.{ask_by, fetch, fresh_wish, holder, standing}
use Rattle.pg_run.specs.pg_checks.Checks.{dir_at, empty_dir_at, file_at, in_time, move_of, new_name, target_at}
use Rattle.pg_run.specs.pg_calls.Bodies.{change, change_file, when_fit}
use Rattle.pg_run.specs.pg_calls.Calls.{do_call}
use Rattle.pg_run.specs.pg_calls.Demoting.{demoted_at, lowered}
use Rattle.pg_run.specs.pg_calls.Dropping.{clean_gold, dropped_at, leave_of, leaving}
use Rattle.pg_run.specs.pg_calls.Forgetting.{begin_lost, begun_at, begun_with, dead_at, dirs_of, fill_lost, forget_lost, has_blank_place, has_cell_for, is_wanted, last_listing, last_place, lists_in, lost_at, mark, marked_each, placed_lost, root_place, strike_out, struck_out, unwished}
use Rattle.pg_run.specs.pg_calls.GivingUp.{removal_at}
use Rattle.pg_run.specs.pg_calls.Making.{drawn, first_ranges, make_place, make_version}
use Rattle.pg_run.specs.pg_calls.Naming.{begun, dead_place, moved, next_id, place_in, taken_away, with_first_version, with_id, with_thing}
use Rattle.pg_run.proofs.pg_calls.Refused.{refused_only_asks}
use Rattle.pg_run.proofs.pg_content.Members.{among_filter}
use Rattle.pg_run.proofs.Striking.{latest_in}
use Rattle.pg_run.proofs.theory_flood_pieces.Choices.{chosen, decided}
use Rattle.law_frame.proofs.KeepsCalls.{Drops, IsLost, IsStruck, KeepsCalls, lost_own, making}

module _ (a : Store) (w : Work) (I P : Done → Type 0) where
  abbrev Leaves : Answer → Type 0
  Leaves x = P (idle x.store x.work)

  -- where it is refused as a thing is not here yet, the thing is not held and full
  abbrev Missing : Answer → Type 0
  Missing x = (file : FileId) → x.reply ≡ reply.Refused (NotYet file) → is_full a file ≡ false

  missing : (c : Call) → Missing (do_call a c w)
  missing c file is = (refused_only_asks a c w (NotYet file) is).missing file refl

  module _ (c : Call) (k : KeepsCalls a w c I P) (h : I (idle a w)) where
    -- ---- a call that does not go on

    fetched : (b : Store) (file : FileId) (wish : Wish) → (wish.target == 0) ≡ false
        → P (idle b (post a wish.target (message.Fetch file wish.birth) w))
        → P (idle b (fetch a file wish w))
    fetched b file wish some to =
        let sent = post a wish.target (message.Fetch file wish.birth) w in
        subst (λ (t : Bool). P (idle b (cond t w sent))) (sym some) to

    asked_keeps : (found : Found) (o : Option Wish) → standing a found.file ≡ o
        → is_full a found.file ≡ false → P (ask_by a found o w)
    asked_keeps found None is away =
        let wish = fresh_wish a (holder a found) in
        let b = with_wish (with_birth a) found.file wish in
        decided P (holder a found == 0) (idle a w) (idle b (fetch a found.file wish w))
        (λ none. k.leaves (idle a w) h)
        (λ some. fetched b found.file wish some
        (k.wishes found (record { missing = away; none = is; some = some }) h))
    asked_keeps found (Some wish) is away =
        decided (λ (v : Work). P (idle a v)) (wish.target == 0) w
        (post a wish.target (message.Fetch found.file wish.birth) w)
        (λ none. k.leaves (idle a w) h)
        (λ some. k.asks found.file wish is some h)

    pub denied : (why : LookupError) → Missing (deny a why w) → Leaves (deny a why w)
    denied (stop.Refused why) none = k.leaves (idle a w) h
    denied (stop.NotYet found) none =
        asked_keeps found (standing a found.file) refl (none found.file refl)

    goes_further : {A : Type 0} (r : Result A LookupError) (next : A → Answer)
        → Missing (answered a w r next)
        → ((x : A) → r ≡ Ok x → Missing (next x) → Leaves (next x)) → Leaves (answered a w r next)
    goes_further (Err why) next none each = denied why none
    goes_further (Ok x) next none each = each x refl none

    goes_on : {A : Type 0} (r : Result A LookupError) (next : A → Answer)
        → Missing (answered a w r next)
        → ((x : A) → r ≡ Ok x → Leaves (next x)) → Leaves (answered a w r next)
    goes_on r next none each = goes_further r next none (λ x is rest. each x is)

    -- one that only looks
    looks : {A : Type 0} (r : Result A LookupError) (tell : A → Reply)
        → Missing (replied a w r tell) → Leaves (replied a w r tell)
    looks r tell none =
        goes_on r (λ x. told a w (tell x)) none (λ x is. k.leaves (idle a w) h)

    -- ---- what was lost

    module _ (id : FileId) (lost : IsLost a w c id)
        (places : (b : Store) → I (idle b w) → I (make_place id (root_place b w.now id) (idle b w)))
        (raises : (d : Done) → I d → I (raise_flag d.store id d.work)) where
      fill_keeps : I (fill_lost a id w)
      fill_keeps =
          let d = placed_lost a id w in
          let b = with_names d.store (fill_names d.store.names id) in
          let place = root_place a w.now id in
          let to = chosen I (has_blank_place a id) (make_place id place (idle a w)) (idle a w)
          (places a h) h in
          let full = k.fills d id lost to in
          chosen I (nat_lt (live_golds b id) few_golds) (raise_flag b id d.work) (idle b d.work)
          (raises (idle b d.work) full) full

      begin_keeps : is_held a id ≡ false → I (begin_lost a id w)
      begin_keeps away =
          let d = begun_at a id w (last_place a.names id) in
          decided I (is_wanted a id) (raise_flag d.store id d.work) (idle a w)
          (λ wanted. raises d (by (last_place a.names id) refl wanted)) (λ no. h)
        where
          begins : (o : Option Place) → last_place a.names id ≡ o → is_wanted a id ≡ true
              → I (idle (begun_with a id (lost_own id o)) w)
          begins o at wanted =
              k.begins_lost id (lost_own id o)
              (record { lost = lost; wanted = wanted; is = ap (lost_own id) (sym at) }) away h

          by : (o : Option Place) → last_place a.names id ≡ o → is_wanted a id ≡ true
              → I (begun_at a id w o)
          by (Some place) at wanted = begins (Some place) at wanted
          by None at wanted = places (begun_with a id (blank_own id)) (begins None at wanted)

      abbrev HasCell : FileId → Type 0
      HasCell dir = has_cell_for a.names id dir ≡ true

      marks_keep : (dir : FileId) → IsStruck a w c id dir → (dirs : List FileId) → All HasCell dirs
          → (d : Done) → I d → I (marked_each d.store id (dead_at a w.now id dir) dirs d.work)
      marks_keep dir struck [] all d to = to
      marks_keep dir struck (at ∷ dirs) all d to =
          let dead = dead_at a w.now id dir in
          marks_keep dir struck dirs (All-tail HasCell at dirs all) (mark id dead d.store at d.work)
          (k.marks d id dir at (struck, All-head HasCell at dirs all) to)

      latest_lists : (dir : FileId) → last_listing a.names id (dirs_of a.names id) ≡ Some dir
          → lists_in a.names id dir ≡ true
      latest_lists dir is =
          let Lists = lists_in a.names id in
          let dirs = dirs_of a.names id in
          elim (latest_in a.names id (filter Lists dirs) None dir is) [
            | inl none ↦ absurd (none-some dir none)
            | inr here ↦ (among_filter Lists dir dirs here).1
          ]

      strike_keeps : is_dir id ≡ false → (o : Option FileId)
          → last_listing a.names id (dirs_of a.names id) ≡ o → I (struck_out a id w o)
      strike_keeps file None is = h
      strike_keeps file (Some dir) is =
          let v = with_made w (update.Place id (dead_at a w.now id dir)) in
          let struck : IsStruck a w c id dir =
          record { lost = lost; file = file; listed = is; lists = latest_lists dir is } in
          marks_keep dir struck (dirs_of a.names id)
          (filter_passes (has_cell_for a.names id) (keys_of a.names.held)) (idle (unwished a id) v)
          (k.strikes id dir struck h)

      pub lost_keeps : I (forget_lost a id w)
      lost_keeps =
          let far = cond (is_dir id) (begin_lost a id w) (strike_out a id w) in
          decided I (is_held a id) (fill_lost a id w) far (λ held. fill_keeps)
          (λ away. decided I (is_dir id) (begin_lost a id w) (strike_out a id w)
          (λ dir. begin_keeps away)
          (λ file. strike_keeps file (last_listing a.names id (dirs_of a.names id)) refl))

    -- ---- what is made

    -- a new thing
    module _ (kind : Kind) (policy : Policy) (path : List ℕ)
        (of : c ≡ making kind policy path)
        (places : (d : Done) (new : NewName) → new_name a (next_id a kind) path ≡ Ok new → I d
        → I (make_place (next_id a kind) (place_in (with_id a) w.now new) d))
        (raises : (d : Done) → I d → I (raise_flag d.store (next_id a kind) d.work)) where
      thing_keeps : (new : NewName) → new_name a (next_id a kind) path ≡ Ok new
          → I (with_thing (with_id a) w (next_id a kind) policy new)
      thing_keeps new is =
          let id = next_id a kind in
          let b = idle (begun (with_id a) id policy) w in
          let placed = make_place id (place_in (with_id a) w.now new) b in
          raises placed (places b new is (k.makes_new kind policy path new (is, of) h))

    change_keeps : (path : List ℕ) (ranges : RangesValue) → Missing (change a path ranges w)
        → ((x file : FileId) → file_at a path ≡ Ok x → when_fit a ranges x ≡ Ok file
        → I (make_version file (drawn a w.now) ranges (idle a w)))
        → Leaves (change a path ranges w)
    change_keeps path ranges none makes =
        goes_further (file_at a path) (change_file a ranges w) none
        (λ x found rest. goes_on (when_fit a ranges x) _ rest
        (λ file fits. k.leaves (make_version file (drawn a w.now) ranges (idle a w))
        (makes x file found fits)))

    leave_keeps : (file : FileId) → Drops a w c file → (o : Option Flag) → clean_gold a file ≡ o
        → Leaves (leaving a file w o)
    leave_keeps file drops None is = k.leaves (idle a w) h
    leave_keeps file drops (Some flag) is =
        k.leaves (begin_intent a (leave_of file flag) w) (k.begins_leave file flag (is, drops) h)

  -- ---- any call

  -- THE WALK
  pub call_keeps : (c : Call) → KeepsCalls a w c I P → I (idle a w) → Leaves (do_call a c w)
  call_keeps (call.Mkdir path) k h =
      let c = call.Mkdir path in
      let id = next_id a Dir in
      goes_on c k h (new_name a id path) _ (missing c)
      (λ new is. k.leaves (with_thing (with_id a) w id Last new) (thing_keeps c k h Dir Last path refl
      (λ d x so. k.makes_place d id (place_in (with_id a) w.now x) (x, so, refl, refl))
      (λ d. k.makes_flag d id true (refl, refl)) new is))
  call_keeps (call.Create path policy) k h =
      let c = call.Create path policy in
      let id = next_id a File in
      goes_on c k h (new_name a id path) _ (missing c)
      (λ new is.
      let d = with_thing (with_id a) w id policy new in
      k.leaves (with_first_version id d) (k.makes_version d id first_ranges (refl, refl)
      (thing_keeps c k h File policy path refl
      (λ b x so. k.makes_place b id (place_in (with_id a) w.now x) (x, so, refl, refl))
      (λ b. k.makes_flag b id true (refl, refl)) new is)))
  call_keeps (call.Write path offset bytes) k h =
      change_keeps (call.Write path offset bytes) k h path (written offset bytes)
      (missing (call.Write path offset bytes))
      (λ x file found fits. k.makes_version (idle a w) file (written offset bytes)
      (x, found, fits, refl) h)
  call_keeps (call.Cut path length) k h =
      change_keeps (call.Cut path length) k h path (cut_to length) (missing (call.Cut path length))
      (λ x file found fits. k.makes_version (idle a w) file (cut_to length)
      (x, found, fits, refl) h)
  call_keeps (call.Read path offset count) k h =
      let c = call.Read path offset count in looks c k h (file_at a path) _ (missing c)
  call_keeps (call.Fresh path) k h =
      let c = call.Fresh path in looks c k h (file_at a path) _ (missing c)
  call_keeps (call.Ls path from) k h =
      let c = call.Ls path from in looks c k h (dir_at a path) _ (missing c)
  call_keeps (call.Stat target) k h =
      let c = call.Stat target in looks c k h (target_at a target) _ (missing c)
  call_keeps (call.Rename from to) k h =
      goes_on (call.Rename from to) k h (move_of a from to) _ (missing (call.Rename from to))
      (λ move is. k.leaves (moved a w move) (k.makes_place (idle a w) move.thing
      (place_in a w.now move.to) (move, is, refl, refl) h))
  call_keeps (call.Unlink path) k h =
      goes_on (call.Unlink path) k h (file_at a path) _ (missing (call.Unlink path))
      (λ file is. k.leaves (taken_away a w file)
      (k.makes_place (idle a w) file (dead_place a w.now file) (is, refl) h))
  call_keeps (call.Rmdir path) k h =
      goes_on (call.Rmdir path) k h (empty_dir_at a path) _ (missing (call.Rmdir path))
      (λ dir is. k.leaves (taken_away a w dir)
      (k.makes_place (idle a w) dir (dead_place a w.now dir) (is, refl) h))
  call_keeps (call.Forget id) k h =
      goes_on (call.Forget id) k h (lost_at a id) _ (missing (call.Forget id))
      (λ file is. k.leaves (forget_lost a file w) (lost_keeps (call.Forget id) k h file is
      (λ b to. k.makes_place (idle b w) file (root_place b w.now file) (is, refl) to)
      (λ d to. k.makes_flag d file true (is, refl) to)))
  call_keeps (call.Demote target) k h =
      goes_on (call.Demote target) k h (demoted_at a target) _ (missing (call.Demote target))
      (λ file is. k.leaves (lowered a file w)
      (chosen I (is_gold a file) (lower_flag a file w) (idle a w)
      (k.makes_flag (idle a w) file false (is, refl) h) h))
  call_keeps (call.Drop target) k h =
      goes_on (call.Drop target) k h (dropped_at a target) _ (missing (call.Drop target))
      (λ file is. leave_keeps (call.Drop target) k h file is (clean_gold a file) refl)
  call_keeps (call.Giveup view server) k h =
      goes_on (call.Giveup view server) k h (removal_at a view server) _ (missing (call.Giveup view server))
      (λ found is. k.enters view server refl is h)
  call_keeps call.Status k h =
      looks call.Status k h (in_time a (tt {0})) _ (missing call.Status)
  call_keeps call.Stop k h = looks call.Stop k h (in_time a (tt {0})) _ (missing call.Stop)
