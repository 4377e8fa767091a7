-- What calls send: no answers.
use Rattle.std.proofs.Common.{ℕ, ◌≡◌, ◌==◌, true, false, List, Option, None, Some, Result, Ok, Err, refl}
use Rattle.std.proofs.lemmas.List.Elements.{All-nil}
use Rattle.pg_base.specs.declared.id.FileId.{FileId}
use Rattle.pg_base.specs.declared.id.Kind.{Kind}
use Rattle.pg_base.specs.declared.id.Kind.TheVariants.{Dir, File}
use Rattle.pg_base.specs.declared.policy.Policy.{Policy}
use Rattle.pg_base.specs.declared.policy.Policy.TheVariants.{Last}
use Rattle.pg_server.specs.pg_pieces.pg_call.declared.call.Call.{Call}
use Rattle.pg_server.specs.pg_pieces.pg_call.declared.call.Call.TheVariants as call
use Rattle.pg_server.specs.pg_pieces.pg_call.declared.reply.Reply.{Reply}
use Rattle.pg_server.specs.pg_pieces.pg_call.declared.reply.Reply.TheVariants as reply
use Rattle.pg_server.specs.pg_pieces.pg_msg.declared.message.Message.TheVariants as message
use Rattle.pg_server.specs.pg_pieces.pg_msg.declared.message.Sent.{Sent}
use Rattle.pg_server.specs.pg_pieces.pg_msg.declared.update.Update.TheVariants as update
use Rattle.pg_server.specs.pg_pieces.pg_msg.declared.work.Work.{Work}
use Rattle.pg_server.specs.pg_pieces.pg_msg.Work.{new_work, with_made}
use Rattle.pg_server.specs.pg_pieces.pg_names.Names.{known}
use Rattle.pg_patch.specs.Ranges.{RangesValue, cut_to, written}
use Rattle.theory_flood_pieces.proofs.Choices.{chosen}
use Rattle.pg_register.specs.declared.flag.Flag.{Flag}
use Rattle.pg_register.specs.declared.place.Place.{Place}
use Rattle.pg_server.specs.pg_pieces.pg_store.declared.store.Store.{Store}
use Rattle.pg_server.specs.pg_pieces.pg_store.declared.wishes.Wish.{Wish}
use Rattle.pg_server.specs.pg_pieces.pg_store.Births.{with_birth, with_wish}
use Rattle.pg_server.specs.pg_checks.pg_lookup.declared.paths.Found.{Found}
use Rattle.pg_server.specs.pg_checks.pg_lookup.declared.paths.LookupError.{LookupError}
use Rattle.pg_server.specs.pg_checks.pg_lookup.declared.paths.LookupError.TheVariants as stop
use Rattle.pg_server.specs.pg_pieces.Done.{Done, idle}
use Rattle.pg_server.specs.pg_pieces.Golds.{is_gold}
use Rattle.pg_server.specs.pg_pieces.Making.{lower_flag, own_next}
use Rattle.pg_server.specs.pg_checks.declared.checks.NewName.{NewName}
use Rattle.pg_server.specs.pg_checks.Answer.{Answer, answer, answered, deny, replied, told}
use Rattle.pg_server.specs.pg_checks.Asking.{ask_by, fetch as fetch_wish, fresh_wish, holder, standing}
use Rattle.pg_server.specs.pg_calls.Bodies.{change, change_file, shown_part, when_fit}
use Rattle.pg_server.specs.pg_calls.Calls.{do_call}
use Rattle.pg_server.specs.pg_checks.Checks.{dir_at, empty_dir_at, file_at, in_time, move_of, new_name, target_at}
use Rattle.pg_server.specs.pg_calls.Demoting.{demoted_at, lowered}
use Rattle.pg_server.specs.pg_calls.Dropping.{clean_gold, dropped_at, leave_of, leaving}
use Rattle.pg_server.specs.pg_calls.Forgetting.{forget_lost, lost_at}
use Rattle.pg_server.specs.pg_calls.GivingUp.{enter_view, removal_at}
use Rattle.pg_server.specs.pg_calls.Looks.{counts, listing, page, stat_of}
use Rattle.pg_server.specs.pg_calls.Making.{drawn, make_place, make_version}
use Rattle.pg_server.specs.pg_calls.Naming.{begun, dead_place, moved, next_id, place_in, taken_away, with_first_version, with_id, with_thing}
use Rattle.pg_run.proofs.SendsLosses.{enter_fine, lost_fine}
use Rattle.pg_run.proofs.Sends.{Fine, intent_fine, is_plain, made_fine, place_fine, posted_plain, raised_fine}

module _ (Q : Sent → Type 0) (plain : (m : Sent) → is_plain m.packet.message ≡ true → Q m) where
  abbrev Fits : Work → Type 0
  Fits work = Fine Q plain 0 work

  start_fine : (moment : ℕ) → Fits (new_work moment 0)
  start_fine moment = (All-nil Q, All-nil Q, refl)

  -- ---- calls

  module _ (a : Store) (moment : ℕ) where
    abbrev W : Work
    W = new_work moment 0

    none : Fits W
    none = start_fine moment

    abbrev Quiet : Answer → Type 0
    Quiet b = Fits b.work

    fetch_quiet : (f : FileId) (wish : Wish) → Fits (fetch_wish a f wish W)
    fetch_quiet f wish = chosen Fits (wish.target == 0) W _ none (posted_plain Q plain 0 a wish.target (message.Fetch f wish.birth) W refl none)

    asked_quiet : (found : Found) (o : Option Wish) → Fits (ask_by a found o W).work
    asked_quiet found (Some wish) = fetch_quiet found.file wish
    asked_quiet found None =
        let target = holder a found in
        let wish = fresh_wish a target in
        chosen (λ (d : Done). Fits d.work) (target == 0) (idle a W) (idle (with_wish (with_birth a) found.file wish) (fetch_wish a found.file wish W)) none (fetch_quiet found.file wish)

    denied_quiet : (why : LookupError) → Quiet (deny a why W)
    denied_quiet (stop.Refused why) = none
    denied_quiet (stop.NotYet found) = asked_quiet found (standing a found.file)

    going : {A : Type 0} (r : Result A LookupError) (next : A → Answer) → ((x : A) → Quiet (next x)) → Quiet (answered a W r next)
    going (Err why) next each = denied_quiet why
    going (Ok x) next each = each x

    looks : {A : Type 0} (r : Result A LookupError) (tell : A → Reply) → Quiet (replied a W r tell)
    looks r tell = going r (λ x. told a W (tell x)) (λ x. none)

    thing_quiet : (kind : Kind) (policy : Policy) (new : NewName) → Fits (with_thing (with_id a) W (next_id a kind) policy new).work
    thing_quiet kind policy new =
        let id = next_id a kind in
        let place = place_in (with_id a) moment new in
        let b = begun (with_id a) id policy in
        let put = make_place id place (idle b W) in
        raised_fine Q plain 0 put.store id put.work (place_fine Q plain 0 b id place (with_made W (update.Place id place)) none)

    moved_quiet : (f : FileId) (place : Place) → Fits (make_place f place (idle a W)).work
    moved_quiet f place = place_fine Q plain 0 a f place (with_made W (update.Place f place)) none

    -- a flag is lowered, or nothing changes
    lowered_quiet : (f : FileId) → Fits (lowered a f W).work
    lowered_quiet f = chosen (λ (e : Done). Fits e.work) (is_gold a f) (lower_flag a f W) (idle a W) (made_fine Q plain 0 a f (own_next a f false) W none) none

    -- a Leave begins
    leaving_quiet : (f : FileId) (o : Option Flag) → Quiet (leaving a f W o)
    leaving_quiet f None = none
    leaving_quiet f (Some flag) = intent_fine Q plain 0 a (leave_of f flag) W none

    change_quiet : (text : List ℕ) (ranges : RangesValue) → Quiet (change a text ranges W)
    change_quiet text ranges = going (file_at a text) (change_file a ranges W) (λ f. going (when_fit a ranges f) (λ fit. answer (make_version fit (drawn a moment) ranges (idle a W)) (reply.Wrote (drawn a moment))) (λ fit. none))

    pub call_fine : (x : Call) → Quiet (do_call a x W)
    call_fine (call.Mkdir text) = going (new_name a (next_id a Dir) text) (λ new. answer (with_thing (with_id a) W (next_id a Dir) Last new) (reply.Made (next_id a Dir))) (λ new. thing_quiet Dir Last new)
    call_fine (call.Create text policy) = going (new_name a (next_id a File) text) (λ new. answer (with_first_version (next_id a File) (with_thing (with_id a) W (next_id a File) policy new)) (reply.Made (next_id a File))) (λ new. thing_quiet File policy new)
    call_fine (call.Write text offset bytes) = change_quiet text (written offset bytes)
    call_fine (call.Cut text length) = change_quiet text (cut_to length)
    call_fine (call.Read text offset count) = looks (file_at a text) (λ f. reply.Bytes (shown_part a f offset count))
    call_fine (call.Fresh text) = looks (file_at a text) _
    call_fine (call.Ls text from) = looks (dir_at a text) (λ d. page (listing d (known a.names d)) from)
    call_fine (call.Stat target) = looks (target_at a target) (λ f. reply.Stat (stat_of a f))
    call_fine (call.Rename from to) = going (move_of a from to) (λ move. answer (moved a W move) reply.Done) (λ move. moved_quiet move.thing (place_in a moment move.to))
    call_fine (call.Unlink text) = going (file_at a text) (λ f. answer (taken_away a W f) reply.Done) (λ f. moved_quiet f (dead_place a moment f))
    call_fine (call.Rmdir text) = going (empty_dir_at a text) (λ d. answer (taken_away a W d) reply.Done) (λ d. moved_quiet d (dead_place a moment d))
    call_fine (call.Forget id) =
        going (lost_at a id) (λ found. answer (forget_lost a found W) reply.Done)
        (λ found. lost_fine Q plain 0 found a W none)
    call_fine (call.Demote target) = going (demoted_at a target) (λ f. answer (lowered a f W) reply.Done) (λ f. lowered_quiet f)
    call_fine (call.Drop target) = going (dropped_at a target) (λ f. leaving a f W (clean_gold a f)) (λ f. leaving_quiet f (clean_gold a f))
    call_fine (call.Giveup view server) =
        going (removal_at a view server) (λ found. answer (enter_view a server W) reply.Done)
        (λ found. enter_fine Q plain 0 a server W none)
    call_fine call.Status = looks (in_time a (tt {0})) (λ found. reply.Status (counts a))
    call_fine call.Stop = looks (in_time a (tt {0})) (λ found. reply.Done)
