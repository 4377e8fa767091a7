-- What calls leave of what goes last in an event: all of it, but for the invites of a server that
-- gives another one up.
use Rattle.std.proofs.Common.{[], ℕ, ◌≡◌, ◌==◌, Bool, true, false, cond, List, ◌∷◌, Option, Some, None, refl, ◌∙◌}
use Rattle.std.specs.Prelude.{Err, Ok, Result}
use Rattle.std.specs.List.{filter}
use Rattle.pg_base.specs.declared.id.FileId.{FileId}
use Rattle.pg_register.specs.declared.flag.Flag.{Flag}
use Rattle.pg_register.specs.declared.place.Place.{Place}
use Rattle.pg_server.specs.pg_pieces.pg_msg.declared.message.Message.TheVariants as message
use Rattle.pg_server.specs.pg_pieces.pg_msg.declared.update.Update.TheVariants as update
use Rattle.pg_server.specs.pg_pieces.pg_msg.declared.work.Work.{Work}
use Rattle.pg_server.specs.pg_pieces.pg_msg.Work.{with_made}
use Rattle.pg_server.specs.pg_pieces.pg_names.Names.{is_dir}
use Rattle.pg_server.specs.pg_pieces.pg_call.declared.call.Call.{Call}
use Rattle.pg_server.specs.pg_pieces.pg_call.declared.call.Call.TheVariants as call
use Rattle.pg_server.specs.pg_checks.pg_lookup.declared.paths.LookupError.{LookupError}
use Rattle.pg_server.specs.pg_checks.pg_lookup.declared.paths.LookupError.TheVariants as stop
use Rattle.pg_server.specs.pg_pieces.pg_store.declared.store.Store.{Store}
use Rattle.pg_server.specs.pg_pieces.pg_store.Births.{with_birth, with_wish}
use Rattle.pg_server.specs.pg_pieces.pg_store.Store.{is_held, with_names}
use Rattle.pg_server.specs.pg_pieces.Golds.{is_gold}
use Rattle.pg_server.specs.pg_pieces.Done.{idle}
use Rattle.pg_server.specs.pg_pieces.Making.{lower_flag, own_next, raise_flag}
use Rattle.pg_server.specs.pg_pieces.Posting.{post}
use Rattle.pg_server.specs.pg_checks.Answer.{Answer, answered, deny}
use Rattle.pg_server.specs.pg_checks.Asking.{ask_by, ask_first, fetch as ask, fresh_wish, holder, latest, standing}
use Rattle.pg_server.specs.pg_calls.Forgetting.{bare_entry, begin_lost, begun_at, begun_with, dead_at, dirs_of, fill_lost, forget_lost, has_blank_place, is_wanted, last_place, lists_in, lost_at, mark, marked_each, placed_lost, root_place, strike_out, struck_out, unwished}
use Rattle.pg_server.specs.pg_calls.Calls.{do_call}
use Rattle.pg_server.specs.pg_calls.Demoting.{demoted_at}
use Rattle.pg_server.specs.pg_calls.Dropping.{clean_gold, dropped_at, leave_of, leaving}
use Rattle.pg_server.specs.pg_calls.Making.{make_place}
use Rattle.pg_base.specs.declared.id.Kind.TheVariants.{Dir, File}
use Rattle.pg_base.specs.declared.policy.Policy.{Policy}
use Rattle.pg_base.specs.declared.policy.Policy.TheVariants.{Last}
use Rattle.pg_patch.specs.Ranges.{RangesValue, cut_to, written}
use Rattle.pg_server.specs.pg_pieces.pg_names.Names as names
use Rattle.pg_server.specs.pg_checks.pg_lookup.declared.paths.Found.{Found}
use Rattle.pg_server.specs.pg_checks.declared.checks.NewName.{NewName}
use Rattle.pg_server.specs.pg_pieces.pg_store.declared.wishes.Wish.{Wish}
use Rattle.pg_server.specs.pg_checks.Checks.{dir_at, empty_dir_at, file_at, in_time, move_of, new_name, target_at}
use Rattle.pg_server.specs.pg_calls.Naming.{begun, dead_place, next_id, place_in, with_id, with_thing}
use Rattle.pg_server.specs.pg_calls.Bodies.{change, change_file, when_fit}
use Rattle.pg_run.proofs.Tails.{Same, begin_same, done_either, either, entry_same, fill_same, flag_made_same, place_made_same}

ask_first_same : (a : Store) (file : FileId) (target : ℕ) (w : Work) → Same w (ask_first a file target w).work
ask_first_same a file target w =
    let wish = fresh_wish a target in
    done_either w (target == 0) (idle a w) (idle (with_wish (with_birth a) file wish) (ask a file wish w)) refl (ask_sent_same a file wish w)
  where
    ask_sent_same : (a : Store) (file : FileId) (wish : Wish) (w : Work) → Same w (ask a file wish w)
    ask_sent_same a file wish w = either w (wish.target == 0) w (post a wish.target (message.Fetch file wish.birth) w) refl refl

ask_by_same : (a : Store) (found : Found) (o : Option Wish) (w : Work) → Same w (ask_by a found o w).work
ask_by_same a found None w = ask_first_same a found.file (holder a found) w
ask_by_same a found (Some wish) w = either w (wish.target == 0) w (post a wish.target (message.Fetch found.file wish.birth) w) refl refl

deny_same : (a : Store) (why : LookupError) (w : Work) → Same w (deny a why w).work
deny_same a (stop.Refused why) w = refl
deny_same a (stop.NotYet found) w = ask_by_same a found (standing a found.file) w

pub answered_same : {A : Type 0} (a : Store) (w : Work) (r : Result A LookupError) (next : A → Answer)
    → ((x : A) → Same w (next x).work) → Same w (answered a w r next).work
answered_same a w (Err why) next h = deny_same a why w
answered_same a w (Ok x) next h = h x

thing_same : (a : Store) (w : Work) (id : FileId) (policy : Policy) (new : NewName) → Same w (with_thing a w id policy new).work
thing_same a w id policy new =
    let one = begun a id policy in
    let d = make_place id (place_in a w.now new) (idle one w) in
    flag_made_same d.store id (own_next d.store id true) d.work ∙ place_made_same id (place_in a w.now new) (idle one w)

change_same : (a : Store) (ranges : RangesValue) (w : Work) (text : List ℕ) → Same w (change a text ranges w).work
change_same a ranges w text =
    answered_same a w (file_at a text) (change_file a ranges w) (λ file. answered_same a w (when_fit a ranges file) _ (λ fit. refl))

leaving_same : (a : Store) (file : FileId) (w : Work) (o : Option Flag) → Same w (leaving a file w o).work
leaving_same a file w None = refl
leaving_same a file w (Some flag) = begin_same a (leave_of file flag) w

-- ---- what was lost is given up

fill_lost_same : (a : Store) (id : FileId) (w : Work) → Same w (fill_lost a id w).work
fill_lost_same a id w =
    let d = placed_lost a id w in
    fill_same (with_names d.store (names.fill d.store.names id)) id d.work
    ∙ done_either w (has_blank_place a id) (make_place id (root_place a w.now id) (idle a w)) (idle a w)
    (place_made_same id (root_place a w.now id) (idle a w)) refl

marked_same : (dirs : List FileId) (a : Store) (id : FileId) (place : Place) (w : Work)
    → Same w (marked_each a id place dirs w).work
marked_same [] a id place w = refl
marked_same (dir ∷ dirs) a id place w =
    let one = mark id place a dir w in
    marked_same dirs one.store id place one.work ∙ entry_same a dir (bare_entry id place) w

struck_same : (a : Store) (id : FileId) (w : Work) (o : Option FileId) → Same w (struck_out a id w o).work
struck_same a id w None = refl
struck_same a id w (Some dir) =
    let dead = dead_at a w.now id dir in
    marked_same (dirs_of a.names id) (unwished a id) id dead (with_made w (update.Place id dead))

begun_same : (a : Store) (id : FileId) (w : Work) (o : Option Place) → Same w (begun_at a id w o).work
begun_same a id w (Some place) = refl
begun_same a id w None =
    let b = begun_with a id (names.blank_own id) in
    place_made_same id (root_place b w.now id) (idle b w)

begin_lost_same : (a : Store) (id : FileId) (w : Work) → Same w (begin_lost a id w).work
begin_lost_same a id w =
    let d = begun_at a id w (last_place a.names id) in
    done_either w (is_wanted a id) (raise_flag d.store id d.work) (idle a w)
    (flag_made_same d.store id (own_next d.store id true) d.work ∙ begun_same a id w (last_place a.names id)) refl

lost_same : (a : Store) (id : FileId) (w : Work) → Same w (forget_lost a id w).work
lost_same a id w =
    let rest = cond (is_dir id) (begin_lost a id w) (strike_out a id w) in
    done_either w (is_held a id) (fill_lost a id w) rest (fill_lost_same a id w)
    (done_either w (is_dir id) (begin_lost a id w) (strike_out a id w) (begin_lost_same a id w)
    (struck_same a id w (latest a.names id None (filter (lists_in a.names id) (dirs_of a.names id)))))

-- ---- all calls but one

-- a server gives up another one
abbrev pub is_giveup : Call → Bool
is_giveup (call.Giveup view server) = true
is_giveup _ = false

pub call_same : (a : Store) (c : Call) (w : Work) → is_giveup c ≡ false → Same w (do_call a c w).work
call_same a (call.Mkdir path) w h = answered_same a w (new_name a (next_id a Dir) path) _ (λ new. thing_same (with_id a) w (next_id a Dir) Last new)
call_same a (call.Create path policy) w h =
    answered_same a w (new_name a (next_id a File) path) _ (λ new. thing_same (with_id a) w (next_id a File) policy new)
call_same a (call.Write path offset bytes) w h = change_same a (written offset bytes) w path
call_same a (call.Cut path length) w h = change_same a (cut_to length) w path
call_same a (call.Read path offset count) w h = answered_same a w (file_at a path) _ (λ file. refl)
call_same a (call.Fresh path) w h = answered_same a w (file_at a path) _ (λ file. refl)
call_same a (call.Ls path from) w h = answered_same a w (dir_at a path) _ (λ dir. refl)
call_same a (call.Stat target) w h = answered_same a w (target_at a target) _ (λ file. refl)
call_same a (call.Rename from to) w h =
    answered_same a w (move_of a from to) _ (λ move. place_made_same move.thing (place_in a w.now move.to) (idle a w))
call_same a (call.Unlink path) w h = answered_same a w (file_at a path) _ (λ file. place_made_same file (dead_place a w.now file) (idle a w))
call_same a (call.Rmdir path) w h = answered_same a w (empty_dir_at a path) _ (λ dir. place_made_same dir (dead_place a w.now dir) (idle a w))
call_same a (call.Forget id) w h = answered_same a w (lost_at a id) _ (λ found. lost_same a found w)
call_same a (call.Demote target) w h =
    answered_same a w (demoted_at a target) _
    (λ file. done_either w (is_gold a file) (lower_flag a file w) (idle a w) (flag_made_same a file (own_next a file false) w) refl)
call_same a (call.Drop target) w h = answered_same a w (dropped_at a target) _ (λ file. leaving_same a file w (clean_gold a file))
call_same a (call.Giveup view server) w h = absurd (let z : true ≡ false = h in cc)
call_same a call.Status w h = answered_same a w (in_time a (tt {0})) _ (λ found. refl)
call_same a call.Stop w h = answered_same a w (in_time a (tt {0})) _ (λ found. refl)
