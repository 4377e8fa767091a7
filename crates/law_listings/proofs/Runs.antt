-- In every run what directories list is asked after or known, and messages keep what they promise.
use Rattle.std.proofs.Common.{ℕ, ◌≡◌, ◌≤◌, ◌<◌, ◌+◌, ◌&&◌, not, Bool, true, false, cond, length, List, Option, [], ◌∷◌, ◌++◌, map, None, Some, refl, sym, ap, subst, ◌∙◌, inl, inr, All, arith}
use Rattle.std.specs.Prelude.{Contains}
use Rattle.std.proofs.lemmas.List.{length-append}
use Rattle.std.proofs.lemmas.List.Elements.{All-contains_itself, All-nil, All-weaker}
use Rattle.std.proofs.lemmas.Option.{none-some}
use Rattle.std.proofs.lemmas.Bool.{and_from}
use Rattle.pg_run.specs.pg_base.declared.id.FileId.{FileId}
use Rattle.pg_run.specs.pg_base.Id.{is_same_file}
use Rattle.pg_run.specs.pg_base.Stamp.{is_before}
use Rattle.pg_run.proofs.pg_base.Orders.{is_same_file-true}
use Rattle.pg_run.proofs.pg_content.Members.{all_among}
use Rattle.pg_run.specs.pg_entries.declared.entry.Entry.{Entry}
use Rattle.pg_run.specs.pg_event.declared.event.Event.{Event}
use Rattle.pg_run.specs.pg_event.declared.event.Event.TheVariants as happening
use Rattle.pg_run.specs.pg_event.declared.entry.VoidCause.{VoidCause}
use Rattle.pg_run.proofs.theory_flood.Flood.{after_itself}
use Rattle.pg_run.specs.pg_house.Holding.{waits}
use Rattle.pg_run.specs.pg_house.Passing.{greatest}
use Rattle.pg_run.specs.pg_house.Facts.{IsPassed}
use Rattle.pg_run.proofs.pg_house.Going.{HaveChildren}
use Rattle.theory_listing.specs.Promises.{Kept}
use Rattle.theory_listing.specs.World.{stepped}
use Rattle.theory_listing.specs.Runs.{IsStep, removed}
use Rattle.theory_listing.proofs.Promises.{step_keeps}
use Rattle.theory_listing.proofs.Worlds.{removal_keeps, start_keeps}
use Rattle.pg_run.specs.pg_msg.declared.message.Message.{Message}
use Rattle.pg_run.specs.pg_msg.declared.message.Message.TheVariants as message
use Rattle.pg_run.specs.pg_msg.declared.message.Packet.{Packet}
use Rattle.pg_run.specs.pg_names.declared.attributes.Attributes.{Attributes}
use Rattle.pg_run.specs.pg_names.Names.{cell_at, directories, entry_in, new_names, own_at, own_of}
use Rattle.pg_run.proofs.pg_names.Holding.{begun_known}
use Rattle.law_places.specs.Laws.{tells}
use Rattle.law_places.proofs.Worlds.{no_cell, own_first, run_known}
use Rattle.pg_run.specs.pg_register.declared.place.Place.{Place}
use Rattle.pg_run.specs.pg_register.Flag.{is_removed}
use Rattle.pg_run.specs.pg_register.Place.{root}
use Rattle.pg_run.specs.Intending.{IntendsInOrder, IntentionsAreInOrder}
use Rattle.pg_run.specs.Journal.{mail, removals}
use Rattle.pg_run.specs.Known.{IsPlaceOf}
use Rattle.pg_run.specs.Run.{Step, is_live, is_server, Taking, World, effect_step, idle_step, next, run, run_from, start, taking_in, world_after}
use Rattle.pg_run.proofs.Frame.{Acts, HasCome, IsFramed, acts_is, each_after, framed, next_is, run_more}
use Rattle.pg_run.proofs.Lists.{contained_among}
use Rattle.pg_run.proofs.Removals.{none_removed}
use Rattle.pg_run.specs.pg_server.declared.input.Input.{Input}
use Rattle.pg_run.specs.pg_server.declared.input.Input.TheVariants as input
use Rattle.pg_run.specs.pg_server.Local.{Effect, effect, first_effect}
use Rattle.theory_listing_house.specs.Listing.{cell_place}
use Rattle.theory_listing_house.proofs.Seen.{cell_is, own_is}
use Rattle.pg_run.specs.pg_store.declared.store.Store.{Store}
use Rattle.pg_run.specs.pg_store.Seen.{removed_of, view_of}
use Rattle.pg_run.specs.pg_store.Start.{root_own}
use Rattle.pg_run.specs.pg_store.Store.{new_store}
use Rattle.pg_run.proofs.pg_store.Pairs.{start_together}
use Rattle.law_listings.specs.Laws.{HasLetter, ListingsAreKept, ListingsStandOn, MessagesHaveLetters}
use Rattle.law_listings.specs.Letters.{Letter, letter, letters, letters_by, letters_from, listings, of_stores, place_of}
use Rattle.law_listings.proofs.Births.{AreBirthsOf, not_over}
use Rattle.law_listings.proofs.Dropping.{drop_is_safe, is_there}
use Rattle.law_listings.proofs.Heard.{IsBehind}
use Rattle.law_listings.proofs.Views.{holds_held, ordered}
use Rattle.law_listings.proofs.Events.{IsAsked, IsGood, IsStepBy, SaysOf, input_step}
use Rattle.law_listings.proofs.Worlds.{IsFrom, kept_with, letters_promised, live_by, removed_by, turned}
use Rattle.law_listings.proofs.Mailed.{letter_stays, letters_stay, letters_then}
use Rattle.law_listings.proofs.Receiving.{IsOne}

-- ---- the start

no_cells : (n s : ℕ) (d c : FileId) → of_stores.cell (new_store n s) d c ≡ None
no_cells n s d c = ap cell_place (ap (entry_in c) (begun_known (new_names s) root (root_own n) true d) ∙ no_cell n c (is_same_file d root))

root_alone : (n s : ℕ) (c : FileId) (q : Place) → of_stores.own (new_store n s) c ≡ Some q → c ≡ root
root_alone n s c q h =
    let o = own_is (own_at (new_store n s).names c) q h in
    (own_first n c o.0 (is_same_file c root) refl (sym (ap own_of (begun_known (new_names s) root (root_own n) true c)) ∙ o.1)).0

start_kept : (n : ℕ) → Kept of_stores (listings n (start n) [])
start_kept n = start_keeps of_stores (listings n (start n) []) (record {
  silent = refl;
  settled = λ s. record {
    cells = λ d c q h. absurd (none-some q (sym (no_cells n s d c) ∙ h));
    passing = λ d c q r other own cell. absurd (none-some r (sym (no_cells n s d c) ∙ cell));
    own_parent = λ d c q own in_ held. absurd (in_.inner (root_alone n s c q own));
    patch_of = λ d c q h in_. absurd (none-some q h);
    not_past = λ f m h e past. not_over (new_store n s) (start_together n s) f m (holds_held (new_store n s) f h) e past;
  };
  empty = λ s d c. no_cells n s d c;
})

-- ---- a run

own_children : (n : ℕ) → IntentionsAreInOrder n → (events : List Event) (s : ℕ) → HaveChildren ((run n events).stores s).names
own_children n order events s = ((run_known n order events).known s).names.child

module _ (n : ℕ) (k : ListingsStandOn n) where
  -- what goes along a run
  pub record Keeps (w : World) (sent : List Letter) : Type 0 where
    pub kept : Kept of_stores (listings n w sent)
    pub views : (j : ℕ) → view_of (w.stores j) ≤ length (removals w.journal)
    pub mailed : All (HasLetter w sent) (mail w.journal)

  -- ---- a later place than a thing's own is held back

  module _ (events : List Event) (s : ℕ) (least : 1 ≤ s) (most : s ≤ n) where
    abbrev Ran : World
    Ran = run n events

    abbrev A : Store
    A = Ran.stores s

    later_by : (x r : Place) → r ≡ x → is_before x.stamp r.stamp ≡ true → ⊥
    later_by x r same low = ordered.never x.stamp (subst (λ (y : Place). is_before x.stamp y.stamp ≡ true) same low)

    passed_back : (c e : FileId) (o : Attributes) (x : Entry) → own_at A.names c ≡ Some o → cell_at A.names e c ≡ Some x → IsPassed A.names (directories A.names) c o
        → is_before o.place.stamp x.place.stamp ≡ true → waits (removed_of A) c o.place x.place ≡ true
    passed_back c e o x held cell p low =
        let top = greatest A.names c o (directories A.names) in
        let is : x.place ≡ top.place = ap (λ (y : Entry). y.place) (p.cells e x cell) in
        elim p.place [
          | inl same ↦ absurd (later_by o.place x.place (is ∙ ap (λ (y : Attributes). y.place) (sym same)) low)
          | inr back ↦ ap (waits (removed_of A) c o.place) is ∙ back
        ]

    back_by : (c e : FileId) (o : Attributes) (x : Entry) → own_at A.names c ≡ Some o → cell_at A.names e c ≡ Some x → (t : Bool) → is_same_file c root ≡ t
        → is_before o.place.stamp x.place.stamp ≡ true → waits (removed_of A) c o.place x.place ≡ true
    back_by c e o x held cell false apart low = passed_back c e o x held cell ((k.house events s least most).passing c o held apart) low
    back_by c e o x held cell true same low =
        absurd (none-some x (sym (k.unlisted events s least most e) ∙ sym (ap (cell_at A.names e) (is_same_file-true c root same)) ∙ cell))

    behind : IsBehind A
    behind = record {
      back = λ c e x r own cell low. (
          let o = own_is (own_at A.names c) x own in
          let y = cell_is (cell_at A.names e c) r cell in
          let P : Place → Place → Type 0 = λ p q. is_before p.stamp q.stamp ≡ true → waits (removed_of A) c p q ≡ true in
          let at : P o.0.place y.0.place = back_by c e o.0 y.0 o.1 y.1 (is_same_file c root) refl in
          subst (P x) y.2 (subst (λ (p : Place). P p y.0.place) o.2 at) low);
    }

    order : IntendsInOrder A
    order = k.order events s least most

    -- a place that it has was made
    known : (f : FileId) (own : Attributes) → own_at A.names f ≡ Some own → IsPlaceOf Ran f own.place
    known f own h = k.made events f own.place (inl (s, inl (own, h, refl)))

    -- ---- an event at this server

    module _ (event : Event) (asked : Input) (takes : taking_in n Ran event ≡ Some (record { server = s; asked = asked })) (sent : List Letter) (old : Keeps Ran sent) where
      abbrev E : Effect
      E = effect A asked

      abbrev Taken : Taking
      Taken = record { server = s; asked = asked }

      abbrev Next : World
      Next = world_after Ran (effect_step Ran event s asked)

      acts : Acts n Ran Taken
      acts = acts_is n Ran event Taken takes

      there : is_live n Ran s ≡ true
      there = and_from (is_server n s) (not (is_removed (removals Ran.journal) s)) (is_there n s least most) (ap not acts.live)

      -- it removes none
      same_removals : removals Next.journal ≡ removals Ran.journal
      same_removals = none_removed n Ran event Taken takes None (removals Ran.journal)

      next_world : run n (events ++ event ∷ []) ≡ world_after Ran (effect_step Ran event s asked)
      next_world = run_more n (start n) events event ∙ ap (world_after Ran) (next_is n Ran event (record { server = s; asked = asked }) takes)

      next_store : (run n (events ++ event ∷ [])).stores s ≡ E.store
      next_store = ap (λ (v : World). v.stores s) next_world ∙ after_itself Ran.stores s E.store

      next_order : IntendsInOrder E.store
      next_order = subst IntendsInOrder next_store (k.order (events ++ event ∷ []) s least most)

      births : AreBirthsOf A (first_effect A asked).store E.store
      births = record {
        was = order.held.together;
        now = next_order.held.together;
        first = (k.stay events event s asked takes).0;
        whole = (k.stay events event s asked takes).1;
        into = (k.moves events event s asked takes).0;
        behind = (k.moves events event s asked takes).1;
      }

      abbrev Last : ℕ
      Last = length (removals Ran.journal)

      good : (last : ℕ) → IsGood last sent s A behind order (k.away events s least most).fresh (own_children n k.order events s) (old.kept.settled s) (first_effect A asked) E
      good last = record {
        sound = k.sound events event s asked takes;
        next_order = next_order;
        next_children = subst (λ (a : Store). HaveChildren a.names) next_store (own_children n k.order (events ++ event ∷ []) s);
        births = births;
      }

      -- the place that a message tells is that which is known with its stamp
      one_by : (packet : Packet) (l : HasLetter Ran sent (record { to = s; packet = packet })) (m : Message) → m ≡ packet.message → Contains (mail Ran.journal) (record { to = s; packet = packet })
          → IsOne A l.store m
      one_by packet l (message.PlaceIs dir e) is came = λ q cell same.
          let x = cell_is (cell_at A.names dir e.child) q cell in
          let told : tells packet.message e.child e.place = subst (λ (m : Message). tells m e.child e.place) is (refl, refl) in
          k.one events e.child q e.place (inl (s, inr (dir, x.0, x.1, x.2))) (inr (inr (record { sent = record { to = s; packet = packet }; mailed = came; tells = told }))) same
      one_by packet l (message.LeaveOk ends stamp) is came = λ q own same.
          let o = own_is (own_at A.names ends.file) q own in
          let p = l.place ends stamp (sym is) in
          k.own events ends.file q (place_of l.store ends.file) (subst (IsPlaceOf Ran ends.file) o.2 (known ends.file o.0 o.1)) p.1 (same ∙ sym p.0)
      one_by packet l m is came = tt

      asked_is : (last : ℕ) (x : Input) → HasCome Ran s x → IsAsked last sent s A behind order (k.away events s least most).fresh (own_children n k.order events s) (old.kept.settled s) x
      asked_is last (input.Call moment c) came = tt
      asked_is last (input.Tick moment word) came =
          let tick = happening.Tick s moment word in
          let t : Taking = record { server = s; asked = input.Tick moment word } in
          let here : taking_in n Ran tick ≡ Some t = ap (λ b. cond b (Some t) None) there in
          let e = effect A (input.Tick moment word) in
          λ time. sym (after_itself Ran.stores s e.store) ∙ sym (ap (λ (z : Step). z.stores s) (next_is n Ran tick t here)) ∙ (k.ticks events s moment word there).loses time
      asked_is last (input.Arrival packet) came =
          let l = all_among (HasLetter Ran sent) (mail Ran.journal) (record { to = s; packet = packet }) old.mailed (contained_among (mail Ran.journal) (record { to = s; packet = packet }) came) in
          record { store = l.store; among = l.among; one = one_by packet l packet.message refl came }
      asked_is last input.Restart came = tt

      -- BY THE RULE, whichever view is asked after
      pub by_rule : (last : ℕ) → HasCome Ran s asked → IsStepBy last sent s asked A E
      by_rule last came =
          input_step last sent s A behind order (k.away events s least most).fresh (own_children n k.order events s) (old.kept.settled s) asked (asked_is last asked came) (good last)

      -- all that it sends is from it
      all_from : All (IsFrom s (view_of E.store)) E.out.sent
      all_from =
          All-weaker (Contains E.out.sent) (IsFrom s (view_of E.store)) (λ m has. k.sent events event s asked takes m has)
          E.out.sent (All-contains_itself E.out.sent)

      -- its view is of removals that there were
      own_view : view_of E.store ≤ length (removals Next.journal)
      own_view =
          let P : World → Type 0 = λ v. view_of (v.stores s) ≤ length (removals v.journal) in
          subst (λ (a : Store). view_of a ≤ length (removals Next.journal)) (after_itself Ran.stores s E.store)
          (subst P next_world (k.views (events ++ event ∷ []) s least most).within)

      views_then : (j : ℕ) → view_of (Next.stores j) ≤ length (removals Next.journal)
      views_then =
          each_after (λ j a. view_of a ≤ length (removals Next.journal)) Ran.stores s E.store
          (λ j. subst (λ (rs : List ℕ). view_of (Ran.stores j) ≤ length rs) (sym same_removals) (old.views j)) own_view

      -- A STEP OF A RUN
      step_kept : HasCome Ran s asked → Keeps Next (map (letter A) E.out.sent ++ sent)
      step_kept came =
          let w = listings n Ran sent in
          let r = by_rule Last came in
          let next = stepped of_stores w s E.store (SaysOf A E.out.sent) in
          let step : IsStep of_stores w s E.store r.heard (SaysOf A E.out.sent) = record {
            live = there;
            said = elim r.said [ inl other ↦ inl other | inr l ↦ inr l.among ];
            rule = r.rule;
            safe = λ up f q own none. (
                let says_so = (r.rule.let_go f q own none).1 in
                drop_is_safe n k (own_children n k.order) events sent event s least most asked takes next_order.held.together came up r.heard r.said f q own none says_so.0 says_so.1);
          } in
          let kept_then = step_keeps of_stores ordered w s E.store r.heard (SaysOf A E.out.sent) old.kept step in
          record {
            kept = kept_with next (is_live n Next) (length (removals Next.journal)) (map (letter A) E.out.sent ++ sent)
                (λ j. ap (λ (rs : List ℕ). is_server n j && not (is_removed rs j)) same_removals) (ap (λ (rs : List ℕ). length rs) same_removals) kept_then
                (letters_promised next A s (view_of E.store) sent E.out.sent all_from kept_then.promises);
            views = views_then;
            mailed = letters_stay Ran (effect_step Ran event s asked) A sent E.out.sent known r.stamped (mail Ran.journal) old.mailed;
          }

  -- ---- events one after another

  module _ (w : World) (event : Event) (cause : Option VoidCause) (sent : List Letter) (old : Keeps w sent) where
    abbrev After : World
    After = world_after w (idle_step w event cause)

    abbrev Was : List ℕ
    Was = removals w.journal

    abbrev Are : List ℕ
    Are = removals After.journal

    still_mailed : All (HasLetter After sent) (mail w.journal)
    still_mailed = All-weaker (HasLetter w sent) (HasLetter After sent) (λ m l. letter_stays w (idle_step w event cause) [] sent m l) (mail w.journal) old.mailed

    -- nothing changes
    none_gone : Are ≡ Was → Keeps After sent
    none_gone same = record {
      kept = kept_with (listings n w sent) (is_live n After) (length Are) sent
          (λ j. ap (λ (rs : List ℕ). is_server n j && not (is_removed rs j)) same) (ap (λ (rs : List ℕ). length rs) same) old.kept old.kept.promises;
      views = λ j. subst (λ (rs : List ℕ). view_of (w.stores j) ≤ length rs) (sym same) (old.views j);
      mailed = still_mailed;
    }

    -- a server is removed, which nobody has entered
    one_gone : (s : ℕ) → Are ≡ Was ++ s ∷ [] → Keeps After sent
    one_gone s more =
        let longer : length Are ≡ length Was + 1 = ap (λ (rs : List ℕ). length rs) more ∙ length-append Was (s ∷ []) in
        let new : (j : ℕ) → view_of (w.stores j) < length Are = (λ j. (let low = old.views j in omega (arith, longer))) in
        let seen = listings n w sent in
        let kept = removal_keeps of_stores seen s (length Are) new old.kept in
        record {
          kept = kept_with (removed of_stores seen s (length Are)) (is_live n After) (length Are) sent
              (λ j. ap (λ (rs : List ℕ). is_server n j && not (is_removed rs j)) more ∙ live_by (is_server n j) Was s j (turned s j)) refl kept kept.promises;
          views = λ j. (let low = new j in omega arith);
          mailed = still_mailed;
        }

    idle_kept : Keeps After sent
    idle_kept = elim (removed_by event cause Was) [ inl same ↦ none_gone same | inr more ↦ one_gone more.0 more.1 ]

  event_kept : (events : List Event) (event : Event) (o : Option Taking) (step : Step) → taking_in n (run n events) event ≡ o → IsFramed n (run n events) event o step
      → (sent : List Letter) → Keeps (run n events) sent → Keeps (world_after (run n events) step) (letters_by (run n events) o ++ sent)
  event_kept events event None step is f sent old =
      subst (λ (z : Step). Keeps (world_after (run n events) z) sent) (sym f.1) (idle_kept (run n events) event f.0 sent old)
  event_kept events event (Some t) step is f sent old =
      subst (λ (z : Step). Keeps (world_after (run n events) z) (letters_by (run n events) (Some t) ++ sent)) (sym f.1)
      (step_kept events t.server f.0.least f.0.most event t.asked is sent old f.0.came)

  kept_on : (before events : List Event) → Keeps (run n before) (letters n before) → Keeps (run_from n (run n before) events) (letters_from n (run n before) (letters n before) events)
  kept_on before [] old = old
  kept_on before (event ∷ events) old =
      let w = run n before in
      let P : World → List Letter → Type 0 = λ v ls. Keeps (run_from n v events) (letters_from n v ls events) in
      let more : run n (before ++ event ∷ []) ≡ world_after w (next n w event) = run_more n (start n) before event in
      let told : letters n (before ++ event ∷ []) ≡ letters_by w (taking_in n w event) ++ letters n before = letters_then n before event (taking_in n w event) refl in
      let then = event_kept before event (taking_in n w event) (next n w event) refl (framed n w event) (letters n before) old in
      let there : Keeps (run n (before ++ event ∷ [])) (letters n (before ++ event ∷ [])) =
      subst (λ (v : World). Keeps v (letters n (before ++ event ∷ []))) (sym more) (subst (Keeps (world_after w (next n w event))) (sym told) then) in
      subst (λ (v : World). P v (letters_by w (taking_in n w event) ++ letters n before)) more (subst (P (run n (before ++ event ∷ []))) told (kept_on (before ++ event ∷ []) events there))

  pub all_kept : (events : List Event) → Keeps (run n events) (letters n events)
  all_kept events = kept_on [] events (record { kept = start_kept n; views = λ j. (let h : 0 ≤ 0 = omega arith in h); mailed = All-nil (HasLetter (start n) []) })

  -- IN EVERY RUN
  pub kept_in_runs : ListingsAreKept n
  kept_in_runs events = (all_kept events).kept

  pub mailed_in_runs : MessagesHaveLetters n
  mailed_in_runs events m came =
      all_among (HasLetter (run n events) (letters n events)) (mail (run n events).journal) m (all_kept events).mailed (contained_among (mail (run n events).journal) m came)
