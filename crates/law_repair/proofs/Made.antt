-- Which flags of a full gold thing the first effect of an input makes: none, unless it is demoted.
use Rattle.std.proofs.Common.{ℕ, ◌≡◌, ◌==◌, ◌&&◌, not, Bool, true, false, cond, List, [], ◌∷◌, ◌++◌, Option, None, Some, Result, Ok, Err, refl, sym, ap, ◌∙◌, inl, inr, ◌⊎◌}
use Rattle.std.specs.List.{flat_map}
use Rattle.std.proofs.lemmas.Bool.{and_parts, false≢true, not-true}
use Rattle.std.proofs.lemmas.List.Elements.{All-append, All-nil}
use Rattle.pg_run.specs.pg_base.declared.id.FileId.{FileId}
use Rattle.pg_run.specs.pg_base.declared.id.Kind.{Kind}
use Rattle.pg_run.specs.pg_base.declared.id.Kind.TheVariants.{Dir, File}
use Rattle.pg_run.specs.pg_base.declared.policy.Policy.{Policy}
use Rattle.pg_run.specs.pg_base.declared.policy.Policy.TheVariants.{Last}
use Rattle.pg_run.specs.pg_base.Id.{is_same_file}
use Rattle.pg_run.proofs.pg_base.Orders.{is_same_file-true}
use Rattle.pg_run.specs.pg_call.declared.call.Call.{Call}
use Rattle.pg_run.specs.pg_call.declared.call.Call.TheVariants as call
use Rattle.pg_run.specs.pg_call.declared.call.Target.{Target}
use Rattle.pg_run.specs.pg_call.declared.refusal.Refusal.TheVariants.{Held}
use Rattle.pg_run.specs.pg_call.declared.reply.Reply.{Reply}
use Rattle.pg_run.specs.pg_msg.declared.message.Ends.{Ends}
use Rattle.pg_run.specs.pg_msg.declared.message.Message.{Message}
use Rattle.pg_run.specs.pg_msg.declared.message.Message.TheVariants as message
use Rattle.pg_run.specs.pg_msg.declared.update.Update.TheVariants as update
use Rattle.pg_run.specs.pg_msg.declared.work.Work.{Work}
use Rattle.pg_run.specs.pg_msg.Work.{new_work, with_made}
use Rattle.pg_run.specs.pg_names.Names.{blank_own, fill as fill_names, is_dir}
use Rattle.pg_run.specs.pg_patch.Ranges.{RangesValue, cut_to, written}
use Rattle.pg_run.specs.pg_register.declared.flag.Flag.{Flag}
use Rattle.pg_run.specs.pg_register.declared.place.Place.{Place}
use Rattle.pg_run.specs.pg_calls.Bodies.{change, change_file, when_fit}
use Rattle.pg_run.specs.pg_calls.Calls.{do_call}
use Rattle.pg_run.specs.pg_calls.Demoting.{demoted_at, lowered}
use Rattle.pg_run.specs.pg_calls.Dropping.{clean_gold, dropped_at, leave_of, leaving}
use Rattle.pg_run.specs.pg_calls.Forgetting.{begin_lost, begun_at, begun_with, dead_at, dirs_of, fill_lost, forget_lost, has_blank_place, is_wanted, last_listing, last_place, lost_at, placed_in_root, placed_lost, root_place, strike_out, struck_out, unless_full, unwished}
use Rattle.pg_run.specs.pg_calls.GivingUp.{enter_view, removal_at}
use Rattle.pg_run.specs.pg_calls.Making.{drawn, first_ranges, make_place}
use Rattle.pg_run.specs.pg_calls.Naming.{begun, dead_place, next_id, place_in, raised, with_id, with_thing}
use Rattle.pg_run.proofs.pg_calls.Checked.{behind, unless_ok}
use Rattle.pg_run.specs.pg_checks.declared.checks.NewName.{NewName}
use Rattle.pg_run.specs.pg_checks.Answer.{Answer, answered, replied, told}
use Rattle.pg_run.specs.pg_checks.Asking.{ask_by, ask_first, fetch, fresh_wish, holder, standing}
use Rattle.pg_run.specs.pg_checks.Checks.{dir_at, empty_dir_at, file_at, in_time, move_of, new_name, target_at}
use Rattle.pg_run.specs.pg_lookup.declared.paths.Found.{Found}
use Rattle.pg_run.specs.pg_lookup.declared.paths.LookupError.{LookupError}
use Rattle.pg_run.specs.pg_lookup.declared.paths.LookupError.TheVariants as stop
use Rattle.pg_run.specs.pg_pieces.declared.accepting.EdgeUse.TheVariants as manner
use Rattle.pg_run.specs.pg_pieces.Accepting.{accept, is_accepted, with_gone}
use Rattle.pg_run.specs.pg_pieces.Done.{Done, idle}
use Rattle.pg_run.specs.pg_pieces.Golds.{is_gold}
use Rattle.pg_run.specs.pg_pieces.Intending.{begin_intent}
use Rattle.pg_run.specs.pg_pieces.Making.{lower_flag, own_next}
use Rattle.pg_run.specs.pg_pieces.Posting.{post}
use Rattle.pg_run.specs.pg_cells.Sending.{cells_where, is_any}
use Rattle.pg_run.specs.pg_cells.Ticks.{tick}
use Rattle.pg_run.specs.pg_repair.Filling.{fill, full, invite, invited, is_bronze, raise_if_few}
use Rattle.pg_run.specs.pg_intentions.Requests.{ask_all, asks}
use Rattle.pg_run.specs.pg_server.declared.input.Input.{Input}
use Rattle.pg_run.specs.pg_server.declared.input.Input.TheVariants as input
use Rattle.pg_run.specs.pg_server.Local.{first_effect, is_heard, receive, ticked, without_sources}
use Rattle.pg_run.specs.pg_store.declared.store.Store.{Store}
use Rattle.pg_run.specs.pg_store.declared.wishes.Wish.{Wish}
use Rattle.pg_run.specs.pg_store.Births.{has_birth, with_birth, with_wish}
use Rattle.pg_run.specs.pg_store.Links.{knows_later}
use Rattle.pg_run.specs.pg_store.Store.{is_full, is_held, is_before_clock_end, with_names}
use Rattle.pg_run.proofs.theory_flood_pieces.Choices.{chosen, decided}
use Rattle.law_golds.specs.law_births.Flags.{AnyBye, SaysMessage, SaysStore}
use Rattle.law_golds.proofs.Effects.{SaysPacket}
use Rattle.law_golds.proofs.Losing.{entered_says}
use Rattle.law_golds.proofs.Received.{said_begun_intent, said_received, said_walk_of_tick}
use Rattle.law_golds.proofs.Says.{Says, SaysSent, said_asked}
use Rattle.law_golds.proofs.Sending.{asks_all, cells_say}
use Rattle.pg_run.proofs.Event.{Comes}
use Rattle.pg_run.proofs.pg_calls.Walked.{full_held}
use Rattle.law_repair.proofs.Unflagged.{NoneOf, Of, few_none, flag_none, marks_none, none_both, none_nil, none_place, place_none, raise_none, none_same, version_none}

-- ---- a full gold thing at a server

module _ (s : ℕ) (a : Store) (file : FileId) (all : is_full a file ≡ true) (gold : is_gold a file ≡ true) where
  -- what is not full is another thing, and so is what is not gold
  apart_by : (f : FileId) (t : Bool) → is_same_file f file ≡ t → (f ≡ file → ⊥) → t ≡ false
  apart_by f true e never = absurd (never (is_same_file-true f file e))
  apart_by f false e never = refl

  apart : (f : FileId) → (f ≡ file → ⊥) → is_same_file f file ≡ false
  apart f never = apart_by f (is_same_file f file) refl never

  not_full : (f : FileId) → is_full a f ≡ false → is_same_file f file ≡ false
  not_full f h = apart f (λ e. false≢true (sym h ∙ ap (is_full a) e ∙ all))

  -- ---- messages

  module _ (Q : FileId → Flag → Type 0) (k : SaysStore Q AnyBye s a) where
    start_says : (moment from : ℕ) → Says Q s [] (idle a (new_work moment from))
    start_says moment from = record { store = k; sent = All-nil (SaysSent Q); tail = All-nil (SaysSent Q); made = refl }

    said : (d : Done) → Says Q s [] d → Of file d
    said d h = none_same file [] d.work.made h.made (none_nil file)

    full_none : (ends : Ends) (w : Work) → NoneOf file w.made → Of file (full a ends w)
    full_none ends w h =
        let f = ends.file in
        let accepted = is_accepted a w.from manner.Answers ends in
        decided (Of file) (accepted && not (is_full a f)) (fill a f w) (idle a w)
        (λ t. few_none file (with_names a (fill_names a.names f)) f w (not_full f (not-true (is_full a f) (and_parts accepted (not (is_full a f)) t).1)) h)
        (λ e. h)

    invite_none : (ends : Ends) (from : ℕ) → Of file (invite a ends (new_work 0 from))
    invite_none ends from =
        let f = ends.file in
        let w = new_work 0 from in
        let met = accept a ends manner.Needs w in
        let first : Of file met = said met (said_asked Q s [] a ends w (start_says 0 from)) in
        let P : Store → Type 0 = λ b. is_gold b file ≡ true in
        let later = knows_later a ends.file w.from ends.sender in
        let gold_met : P met.store =
        chosen (λ (d : Done). P d.store) (has_birth a ends.file ends.receiver) (cond later (idle a w) (idle a w)) (idle a (with_gone a ends manner.Needs w))
        (chosen (λ (d : Done). P d.store) later (idle a w) (idle a w) gold gold) gold in
        chosen (Of file) (is_accepted a w.from manner.Needs ends) (invited ends met) met
        (decided (Of file) (is_bronze met.store f) (raise_if_few met.store f met.work) met
        (λ bronze.
        let plain = not-true (is_gold met.store f) (and_parts (is_full met.store f) (not (is_gold met.store f)) bronze).1 in
        few_none file met.store f met.work (apart f (λ e. false≢true (sym plain ∙ ap (is_gold met.store) e ∙ gold_met))) first)
        (λ no. first))
        first

    received : (from : ℕ) (m : Message) → SaysMessage Q m → Of file (receive a m (new_work 0 from))
    received from (message.Full ends) says = full_none ends (new_work 0 from) (none_nil file)
    received from (message.Invite ends) says = invite_none ends from
    received from m says =
        said (receive a m (new_work 0 from)) (said_received Q s [] a (new_work 0 from) m refl says (start_says 0 from))

    -- a tick
    released_says : SaysStore Q AnyBye s (without_sources a)
    released_says = record { names = k.names; intents = k.intents }

    ticks_say : (moment word : ℕ) → Says Q s [] (ticked a word (new_work moment 0))
    ticks_say moment word =
        let b = without_sources a in
        said_walk_of_tick Q s [] b word (ask_all b (tick b (new_work moment 0)))
        (record {
          store = released_says;
          sent = All-append (SaysSent Q) ([] ++ cells_where b is_any) (flat_map (asks b) b.intents)
              (All-append (SaysSent Q) [] (cells_where b is_any) (All-nil (SaysSent Q)) (cells_say Q s b released_says is_any))
              (asks_all Q s b released_says);
          tail = All-nil (SaysSent Q);
          made = refl;
        })

    -- ---- calls

    -- it is demoted
    pub record IsDemoted (asked : Input) : Type 0 where
      pub moment : ℕ
      pub target : Target
      pub is : asked ≡ input.Call moment (call.Demote target)
      pub found : demoted_at a target ≡ Ok file

    module _ (asked : Input) (away : (kind : Kind) → is_held a (next_id a kind) ≡ false) where
      abbrev Result_of : Done → Type 0
      Result_of d = Of file d ⊎ IsDemoted asked

      abbrev OfAnswer : Answer → Type 0
      OfAnswer b = NoneOf file b.work.made ⊎ IsDemoted asked

      module _ (moment : ℕ) where
        abbrev W : Work
        W = new_work moment 0

        nothing : NoneOf file W.made
        nothing = none_nil file

        fetch_none : (b : Store) (f : FileId) (wish : Wish) → NoneOf file (fetch b f wish W).made
        fetch_none b f wish = chosen (λ (w : Work). NoneOf file w.made) (wish.target == 0) W (post b wish.target (message.Fetch f wish.birth) W) nothing nothing

        first_asks : (f : FileId) (target : ℕ) → Of file (ask_first a f target W)
        first_asks f target =
            let wish = fresh_wish a target in
            chosen (Of file) (target == 0) (idle a W) (idle (with_wish (with_birth a) f wish) (fetch a f wish W)) nothing (fetch_none a f wish)

        asked_by : (found : Found) (o : Option Wish) → Of file (ask_by a found o W)
        asked_by found None = first_asks found.file (holder a found)
        asked_by found (Some wish) = fetch_none a found.file wish

        answers : {A : Type 0} (check : Result A LookupError) (next : A → Answer) → ((x : A) → check ≡ Ok x → OfAnswer (next x)) → OfAnswer (answered a W check next)
        answers (Err (stop.Refused why)) next each = inl nothing
        answers (Err (stop.NotYet found)) next each = inl (asked_by found (standing a found.file))
        answers (Ok x) next each = each x refl

        looks : {A : Type 0} (check : Result A LookupError) (tell : A → Reply) → OfAnswer (replied a W check tell)
        looks check tell = answers check (λ x. told a W (tell x)) (λ x is. inl nothing)

        changes : (text : List ℕ) (ranges : RangesValue) → OfAnswer (change a text ranges W)
        changes text ranges =
            answers (file_at a text) (change_file a ranges W)
            (λ f is. answers (when_fit a ranges f) _ (λ fit so. inl (version_none file (idle a W) fit (drawn a W.now) ranges nothing)))

        -- a new thing is another one
        new_apart : (kind : Kind) → is_same_file (next_id a kind) file ≡ false
        new_apart kind = apart (next_id a kind) (λ e. false≢true (sym (away kind) ∙ ap (is_held a) e ∙ full_held a.names file all))

        thing_none : (kind : Kind) (policy : Policy) (new : NewName) → Of file (with_thing (with_id a) W (next_id a kind) policy new)
        thing_none kind policy new =
            let id = next_id a kind in
            let place = place_in (with_id a) W.now new in
            let d = make_place id place (idle (begun (with_id a) id policy) W) in
            raise_none file d.store id d.work (new_apart kind) (place_none file (begun (with_id a) id policy) id place W nothing)

        leaves : (f : FileId) (o : Option Flag) → OfAnswer (leaving a f W o)
        leaves f None = inl nothing
        leaves f (Some flag) = inl (said (begin_intent a (leave_of f flag) W) (said_begun_intent Q s [] (idle a W) (leave_of f flag) tt (start_says moment 0)))

        -- what is forgotten is another one
        lost_apart : (id found : FileId) → lost_at a id ≡ Ok found → is_same_file found file ≡ false
        lost_apart id found is =
            let one = behind _ (unless_full a) found is in
            let last = unless_ok (is_full a one.0) Held one.0 found one.2 in
            not_full found (ap (is_full a) (sym last.1) ∙ last.0)

        struck_none : (id : FileId) (o : Option FileId) → Of file (struck_out a id W o)
        struck_none id None = nothing
        struck_none id (Some dir) =
            let dead = dead_at a W.now id dir in
            marks_none file (dirs_of a.names id) (unwished a id) id dead (with_made W (update.Place id dead))
            (none_both file W.made (update.Place id dead ∷ []) nothing (none_place file id dead))

        at_none : (id : FileId) (o : Option Place) → is_same_file id file ≡ false → Of file (raised id (begun_at a id W o))
        at_none id (Some p) other = raise_none file (begun_with a id (record { place = p; flags = [] })) id W other nothing
        at_none id None other =
            let b = begun_with a id (blank_own id) in
            let d = placed_in_root id b W in
            raise_none file d.store id d.work other (place_none file b id (root_place b W.now id) W nothing)

        lost_none : (id : FileId) → is_same_file id file ≡ false → Of file (forget_lost a id W)
        lost_none id other =
            let placed = placed_lost a id W in
            let first : Of file placed = chosen (Of file) (has_blank_place a id) (placed_in_root id a W) (idle a W) (place_none file a id (root_place a W.now id) W nothing) nothing in
            chosen (Of file) (is_held a id) (fill_lost a id W) (cond (is_dir id) (begin_lost a id W) (strike_out a id W))
            (few_none file (with_names placed.store (fill_names placed.store.names id)) id placed.work other first)
            (chosen (Of file) (is_dir id) (begin_lost a id W) (strike_out a id W)
            (chosen (Of file) (is_wanted a id) (raised id (begun_at a id W (last_place a.names id))) (idle a W) (at_none id (last_place a.names id) other) nothing)
            (struck_none id (last_listing a.names id (dirs_of a.names id))))

        demoted_by : (target : Target) → asked ≡ input.Call moment (call.Demote target) → (f : FileId) → demoted_at a target ≡ Ok f
            → (t : Bool) → is_same_file f file ≡ t → Result_of (lowered a f W)
        demoted_by target is f found true same =
            inr (record { moment = moment; target = target; is = is; found = found ∙ ap Ok (is_same_file-true f file same) })
        demoted_by target is f found false other =
            inl (chosen (Of file) (is_gold a f) (lower_flag a f W) (idle a W) (flag_none file a f (own_next a f false) W other nothing) nothing)

        called : (c : Call) → asked ≡ input.Call moment c → OfAnswer (do_call a c W)
        called (call.Mkdir text) is = answers (new_name a (next_id a Dir) text) _ (λ new at. inl (thing_none Dir Last new))
        called (call.Create text policy) is =
            answers (new_name a (next_id a File) text) _
            (λ new at.
            let d = with_thing (with_id a) W (next_id a File) policy new in
            inl (version_none file d (next_id a File) (drawn d.store d.work.now) first_ranges (thing_none File policy new)))
        called (call.Write text offset bytes) is = changes text (written offset bytes)
        called (call.Cut text length) is = changes text (cut_to length)
        called (call.Read text offset count) is = looks (file_at a text) _
        called (call.Fresh text) is = looks (file_at a text) _
        called (call.Ls text from) is = looks (dir_at a text) _
        called (call.Stat target) is = looks (target_at a target) _
        called (call.Rename from to) is = answers (move_of a from to) _ (λ move at. inl (place_none file a move.thing (place_in a W.now move.to) W nothing))
        called (call.Unlink text) is = answers (file_at a text) _ (λ f at. inl (place_none file a f (dead_place a W.now f) W nothing))
        called (call.Rmdir text) is = answers (empty_dir_at a text) _ (λ f at. inl (place_none file a f (dead_place a W.now f) W nothing))
        called (call.Forget id) is = answers (lost_at a id) _ (λ found at. inl (lost_none found (lost_apart id found at)))
        called (call.Demote target) is = answers (demoted_at a target) _ (λ f at. demoted_by target is f at (is_same_file f file) refl)
        called (call.Drop target) is = answers (dropped_at a target) _ (λ f at. leaves f (clean_gold a f))
        called (call.Giveup view server) is =
            answers (removal_at a view server) _ (λ found at. inl (said (enter_view a server W) (entered_says Q s a W (start_says moment 0) server)))
        called call.Status is = looks (in_time a (tt {0})) _
        called call.Stop is = looks (in_time a (tt {0})) _

      -- ---- any input

      first_by : (x : Input) → asked ≡ x → Comes (SaysPacket Q) x → Result_of (first_effect a x)
      first_by (input.Call moment c) is came = called moment c is
      first_by (input.Tick moment word) is came =
          let w = new_work moment 0 in
          inl (chosen (Of file) (is_before_clock_end a) (ticked a word w) (idle a w) (said (ticked a word w) (ticks_say moment word)) (none_nil file))
      first_by (input.Arrival packet) is came =
          inl (chosen (Of file) (is_heard a packet) (receive a packet.message (new_work 0 packet.from)) (idle a (new_work 0 packet.from))
          (received packet.from packet.message came) (none_nil file))
      first_by input.Restart is came = inl (none_nil file)

      -- WHAT THE FIRST EFFECT MAKES
      pub first_made : Comes (SaysPacket Q) asked → Result_of (first_effect a asked)
      first_made came = first_by asked refl came
