-- The gate stands along a run: a removal comes to a server only with all that its remover knew of
-- the directory's children.
use Rattle.std.proofs.Common.{ℕ, ◌≡◌, ◌≤◌, ◌<◌, arith, true, false, List, get_or, Option, None, Some, All, refl, sym, ap, subst, ◌∙◌, inl, inr}
use Rattle.std.proofs.lemmas.Bool.{false≢true}
use Rattle.std.proofs.lemmas.List.Elements.{All-append, All-contains, All-nil, All-weaker}
use Rattle.pg_run.specs.pg_base.declared.id.FileId.{FileId}
use Rattle.pg_run.specs.pg_base.declared.stamp.Stamp.{Stamp}
use Rattle.pg_run.specs.pg_entries.declared.cell.Cell.{Cell}
use Rattle.pg_run.specs.pg_entries.declared.entry.Entry.{Entry}
use Rattle.pg_run.specs.pg_event.declared.event.Event.{Event}
use Rattle.pg_run.specs.theory_flood.World.{after}
use Rattle.pg_run.proofs.theory_flood.Flood.{after_itself, here}
use Rattle.pg_run.specs.pg_intent.declared.intent.Intent.{Intent}
use Rattle.pg_run.specs.pg_intent.declared.key.IntentKey.{IntentKey}
use Rattle.pg_run.specs.pg_intent.Intents.{intent_at}
use Rattle.pg_run.specs.pg_msg.declared.message.Ends.{Ends}
use Rattle.pg_run.specs.pg_msg.declared.message.Granted.{Granted}
use Rattle.pg_run.specs.pg_msg.declared.message.Message.{Message}
use Rattle.pg_run.specs.pg_msg.declared.message.Message.TheVariants as message
use Rattle.pg_run.specs.pg_msg.declared.message.Packet.{Packet}
use Rattle.pg_run.specs.pg_msg.declared.message.Sent.{Sent}
use Rattle.pg_run.specs.pg_calls.Making.{drawn}
use Rattle.pg_run.proofs.pg_house.Lasting.{drawn_late}
use Rattle.pg_run.specs.pg_names.Names.{NamesValue, is_dir}
use Rattle.pg_run.specs.pg_register.declared.place.Place.{Place}
use Rattle.pg_run.specs.pg_store.declared.store.Store.{Store}
use Rattle.pg_run.specs.pg_store.Seen.{removed_of, view_of}
use Rattle.pg_run.specs.pg_store.Together.{BirthsMove}
use Rattle.pg_run.proofs.pg_store.Over.{moves_then}
use Rattle.pg_run.specs.pg_cells.Sending.{Wanted, cells_where}
use Rattle.pg_run.specs.pg_intentions.Intending.{pieces}
use Rattle.pg_run.specs.pg_intentions.Requests.{asks}
use Rattle.pg_run.specs.pg_server.declared.input.Input.{Input}
use Rattle.pg_run.specs.pg_server.declared.input.Input.TheVariants as input
use Rattle.pg_run.specs.pg_server.Local.{effect, first_effect, is_heard}
use Rattle.pg_run.specs.theory_flood_pieces.Growing.{Grows}
use Rattle.pg_run.specs.Journal.{mail}
use Rattle.pg_run.specs.Laws.{TakesIn}
use Rattle.pg_run.specs.Run.{Step, World, effect_step, idle_step, next, run_from, world_after}
use Rattle.pg_run.specs.Views.{IsInView, removed_by}
use Rattle.pg_run.proofs.Frame.{HasCome}
use Rattle.law_full.proofs.Acting.{next_by, runs_keep}
use Rattle.law_full.proofs.Sends.{effect_sends}
use Rattle.law_full.proofs.Told.{asks_are}
use Rattle.law_full.proofs.Works.{is_plain}
use Rattle.law_returns.specs.Gate.{Brings, IsDated, IsGated, IsMindful, IsStillThere, KnowsChildren, KnowsOrOver, place_at}
use Rattle.law_returns.proofs.Deaths.{HearsMindful, IsCaused, effect_dead}
use Rattle.law_returns.proofs.Gating.{Guards, guarded}
use Rattle.law_returns.proofs.Fronts.{heard_view, still_on, still_view, view_still, view_within, within_on}
use Rattle.law_returns.proofs.Lasting.{last_up, still_before}
use Rattle.law_returns.proofs.Letters.{AreMindful, StandsOn}
use Rattle.law_returns.proofs.Knowing.{at_most, knows_here, knows_over, knows_stay, not_both, over_on}

-- ---- messages of other kinds bring nothing

plain_brings : (dir : FileId) (removal : Place) (m : Message) → is_plain m ≡ true → Brings dir removal m → ⊥
plain_brings dir removal m plain b = false≢true (sym (ap is_plain b.is) ∙ plain)

grant_brings : (p q : Ends) (g : Granted) (tag : ℕ) (c : Cell) → message.Grant p g ≡ message.Cell q tag c → ⊥
grant_brings p q g tag c h = cc

full_brings : (p q : Ends) (tag : ℕ) (c : Cell) → message.Full p ≡ message.Cell q tag c → ⊥
full_brings p q tag c h = cc

confirm_brings : (d : FileId) (e : Entry) (q : Ends) (tag : ℕ) (c : Cell) → message.Confirm d e ≡ message.Cell q tag c → ⊥
confirm_brings d e q tag c h = cc

-- ---- a world, with all that is proved of it

pub record Stands (n : ℕ) (w : World) : Type 0 where
  pub on : StandsOn n w
  pub mindful : AreMindful w

module _ (n : ℕ) (dir : FileId) (is : is_dir dir ≡ true) (removal : Place) (dead : removal.live ≡ false) (late : 1 ≤ removal.stamp.time) where
  -- ---- a server takes an input

  module _ (w : World) (k : Stands n w) (event : Event) (s : ℕ) (asked : Input) (least : 1 ≤ s) (most : s ≤ n) (takes : TakesIn n w event s asked) (came : HasCome w s asked) where
    abbrev pub Here : Store
    Here = w.stores s

    abbrev pub Then : Store
    Then = (effect Here asked).store

    abbrev pub Later : ℕ → Store
    Later = after w.stores s Then

    abbrev pub Next : World
    Next = world_after w (effect_step w event s asked)

    grows : Grows Here Then
    grows = (k.on.grow event s asked takes).1

    moves : BirthsMove Here Then
    moves = let m = k.on.move event s asked takes in moves_then Here (first_effect Here asked).store Then m.0 m.1

    -- where the directory has the removal at the end, what was known of its children is
    pub then_knows : (known : NamesValue) → KnowsChildren dir known Here.names → place_at Then.names dir ≡ removal
        → KnowsChildren dir known Then.names
    then_knows known h at =
        knows_stay dir removal late known Here Then (k.on.whole s).together grows (k.on.stay event s asked takes).1 h at

    later_over : (known : NamesValue) (birth t : ℕ) → KnowsOrOver dir known (w.stores t) birth → KnowsOrOver dir known (Later t) birth
    later_over known birth t h = elim (here w.stores s Then t) [
      | inl e ↦ (let P : Store → Type 0 = λ x. KnowsOrOver dir known x birth in
          let Q : ℕ → Type 0 = λ i. KnowsOrOver dir known (w.stores i) birth in
          subst P (sym e.1) (over_on dir known Here Then birth grows moves (subst Q e.0 h)))
      | inr e ↦ (let P : Store → Type 0 = λ x. KnowsOrOver dir known x birth in subst P (sym e.1) h)
    ]

    -- times go up
    pub lasts : (t : ℕ) → (w.stores t).names.last ≤ (Later t).names.last
    lasts t = elim (here w.stores s Then t) [
      | inl e ↦ (let P : Store → Type 0 = λ x. (w.stores t).names.last ≤ x.names.last in
          let Q : ℕ → Type 0 = λ i. (w.stores i).names.last ≤ Then.names.last in
          subst P (sym e.1) (subst Q (sym e.0) (last_up Here asked)))
      | inr e ↦ (let P : Store → Type 0 = λ x. (w.stores t).names.last ≤ x.names.last in subst P (sym e.1) (omega arith))
    ]

    hears_by : (x : Input) → HasCome w s x → HearsMindful x
    hears_by (input.Call moment c) sent = tt
    hears_by (input.Tick moment word) sent = tt
    hears_by (input.Arrival packet) sent =
        All-contains (λ (m : Sent). IsMindful m.packet.message) (mail w.journal) (record { to = s; packet = packet }) k.mindful.said sent
    hears_by input.Restart sent = tt

    pub hears : HearsMindful asked
    hears = hears_by asked came

    -- the removal is there behind the event: it was there, or is the server's own, or came in a
    -- message
    pub caused : IsStillThere (removed_of Then) removal → place_at Then.names dir ≡ removal → IsCaused Here asked dir removal
    caused there at = effect_dead dir is removal dead late Here asked hears there at

    -- ---- what is sent in the event

    module _ (next : StandsOn n Next) where
      abbrev Before : Sent → Type 0
      Before m = Guards n w k.on.acked k.on.whole s least most dir is removal dead m

      abbrev Behind : Sent → Type 0
      Behind m = Guards n Next next.acked next.whole s least most dir is removal dead m

      itself : Later s ≡ Then
      itself = after_itself w.stores s Then

      behind_cells : (P : Sent → Type 0) → ((m : Sent) → Behind m → P m) → (wanted : Wanted) → All P (cells_where Then wanted)
      behind_cells P each wanted =
          subst (λ (x : Store). All P (cells_where x wanted)) itself
          (All-weaker Behind P each (cells_where (Later s) wanted) (guarded n Next next.acked next.whole s least most dir is removal dead wanted))

      -- what follows for messages that bring the removal from cells before the event, and behind
      -- it, holds of all that is sent
      pub all_sent : (P : Sent → Type 0) → ((m : Sent) → ¬ (Brings dir removal m.packet.message) → P m) → ((m : Sent) → Before m → P m) → ((m : Sent) → Behind m → P m) → All P (effect Here asked).out.sent
      all_sent P none before behind =
          effect_sends P Here asked (record {
            plain = λ x plain. none x (plain_brings dir removal x.packet.message plain);
            replies = λ packet same. record {
              granted = λ b to ends own x. none _ (λ b. grant_brings _ b.ends _ b.tag _ b.is);
              full = λ file birth fetched holds clean. none _ (λ b. full_brings _ b.ends b.tag _ b.is);
            };
            cells_before = λ wanted. All-weaker Before P before (cells_where Here wanted) (guarded n w k.on.acked k.on.whole s least most dir is removal dead wanted);
            cells_behind = behind_cells P behind;
            asked_before = λ i d lt. asks_none Here (get_or Here.intents i d);
            asked_behind = λ q. asked_none q (intent_at Then.intents q);
          })
        where
          asks_none : (b : Store) (i : Intent) → All P (asks b i)
          asks_none b i =
              asks_are P (λ x plain. none x (plain_brings dir removal x.packet.message plain)) b i
              (λ d child target e is there to. none _ (λ b. confirm_brings d e b.ends b.tag _ b.is))

          asked_none : (q : IntentKey) (o : Option Intent) → All P (pieces (asks Then) o)
          asked_none q None = All-nil P
          asked_none q (Some i) = asks_none Then i

      -- ---- views

      view_here : IsInView w s Here
      view_here = k.on.views s least most

      view_then : IsInView Next s (Later s)
      view_then = next.views s least most

      abbrev Taken : Step
      Taken = effect_step w event s asked

      -- what is sent from before has a front of the removals behind the event
      pub dated_before : (m : Sent) → m.packet.view ≡ view_of Here → IsDated Next m
      dated_before m same = within_on w Taken m.packet.view (view_within w s Here m.packet.view view_here same)

      pub still_sent : (m : Sent) → m.packet.view ≡ view_of Here → IsStillThere (removed_by Next m.packet.view) removal → IsStillThere (removed_of Here) removal
      still_sent m same there =
          view_still w s Here m.packet.view removal view_here same
          (still_on w Taken m.packet.view removal (view_within w s Here m.packet.view view_here same) there)

      pub dated_behind : (m : Sent) → m.packet.view ≡ view_of (Later s) → IsDated Next m
      dated_behind m same = view_within Next s (Later s) m.packet.view view_then same

      pub still_then : (m : Sent) → m.packet.view ≡ view_of (Later s) → IsStillThere (removed_by Next m.packet.view) removal → IsStillThere (removed_of Then) removal
      still_then m same there =
          subst (λ (x : Store). IsStillThere (removed_of x) removal) itself
          (view_still Next s (Later s) m.packet.view removal view_then same there)

      -- ---- who knows the removal knows the children

      module _ (known : NamesValue) (before : IsStillThere (removed_of Here) removal → place_at Here.names dir ≡ removal → KnowsChildren dir known Here.names) (behind : IsStillThere (removed_of Then) removal → place_at Then.names dir ≡ removal → KnowsChildren dir known Then.names) where
        abbrev pub OfMessage : Sent → Type 0
        OfMessage m = (b : Brings dir removal m.packet.message) → IsDated Next m
            × (IsStillThere (removed_by Next m.packet.view) removal → 1 ≤ m.to → m.to ≤ n → KnowsOrOver dir known (Later m.to) b.ends.receiver)

        behind_known : (m : Sent) → Behind m → OfMessage m
        behind_known m g b =
            let h = g b in
            let at : place_at Then.names dir ≡ removal = ap (λ (x : Store). place_at x.names dir) (sym itself) ∙ h.place in
            let knows : KnowsOrOver dir Then.names (Later m.to) b.ends.receiver =
            subst (λ (x : Store). KnowsOrOver dir x.names (Later m.to) b.ends.receiver) itself h.knows in
            (dated_behind m h.view, λ there l q. knows_over dir known Then.names (Later m.to) b.ends.receiver (behind (still_then m h.view there) at) knows)

        before_known : (m : Sent) → Before m → OfMessage m
        before_known m g b =
            let h = g b in (
              dated_before m h.view,
              λ there l q. later_over known b.ends.receiver m.to
                  (knows_over dir known Here.names (w.stores m.to) b.ends.receiver (before (still_sent m h.view there) h.place) h.knows),
            )

        pub sent_known : All OfMessage (effect Here asked).out.sent
        sent_known = all_sent OfMessage (λ m none b. absurd (none b)) before_known behind_known

  -- ---- the gate stands on

  module _ (known : NamesValue) (w : World) (k : Stands n w) (gated : IsGated n known dir removal w) where
    -- the stamp that is drawn now is later
    not_now : (s moment : ℕ) → removal.stamp ≡ drawn (w.stores s) moment → ⊥
    not_now s moment now =
        let a = w.stores s in
        let maker : removal.stamp.server ≡ s = ap (λ (x : Stamp). x.server) now ∙ (k.on.whole s).server in
        let past : removal.stamp.time ≤ a.names.last =
        subst (λ (i : ℕ). removal.stamp.time ≤ (w.stores i).names.last) maker gated.passed in
        let later : a.names.last < removal.stamp.time =
        subst (λ (x : Stamp). a.names.last < x.time) (sym now) (drawn_late moment a.names.last (drawn a moment).time refl) in
        not_both removal.stamp.time a.names.last past later

    -- what a message that is heard brings is known, where the maker is not removed in the view
    came_known : (s : ℕ) → 1 ≤ s → s ≤ n → IsStillThere (removed_of (w.stores s)) removal → (packet : Packet) → is_heard (w.stores s) packet ≡ true
        → HasCome w s (input.Arrival packet) → (b : Brings dir removal packet.message) → KnowsOrOver dir known (w.stores s) b.ends.receiver
    came_known s least most there packet heard sent b =
        let P : Sent → Type 0 = λ m. (c : Brings dir removal m.packet.message) → IsDated w m
        × (IsStillThere (removed_by w m.packet.view) removal → 1 ≤ m.to → m.to ≤ n → KnowsOrOver dir known (w.stores m.to) c.ends.receiver) in
        let said = All-contains P (mail w.journal) (record { to = s; packet = packet }) gated.brought sent b in
        said.1 (still_view w s (w.stores s) packet.view removal (k.on.views s least most) (heard_view (w.stores s) packet heard) there) least most

    pub first_known : (s : ℕ) (asked : Input) → 1 ≤ s → s ≤ n → IsStillThere (removed_of (w.stores s)) removal → HasCome w s asked → IsCaused (w.stores s) asked dir removal
        → KnowsChildren dir known (w.stores s).names
    first_known s (input.Call moment c) least most there sent (inl same) = gated.there s least most there (sym same)
    first_known s (input.Call moment c) least most there sent (inr now) = absurd (not_now s moment now)
    first_known s (input.Tick moment word) least most there sent same = gated.there s least most there (sym same)
    first_known s (input.Arrival packet) least most there sent (inl same) = gated.there s least most there (sym same)
    first_known s (input.Arrival packet) least most there sent (inr c) =
        knows_here dir known (w.stores s) c.1.ends.receiver (came_known s least most there packet c.0 sent c.1) c.2
    first_known s input.Restart least most there sent same = gated.there s least most there (sym same)

    gated_acted : (event : Event) (s : ℕ) (asked : Input) → 1 ≤ s → s ≤ n → TakesIn n w event s asked → HasCome w s asked
        → Stands n (world_after w (effect_step w event s asked)) → IsGated n known dir removal (world_after w (effect_step w event s asked))
    gated_acted event s asked least most takes sent next =
        let a = w.stores s in
        let step = effect_step w event s asked in
        let now = Later w k event s asked least most takes sent in
        let end = Then w k event s asked least most takes sent in
        let behind : IsStillThere (removed_of end) removal → place_at end.names dir ≡ removal → KnowsChildren dir known end.names =
        λ there at. then_knows w k event s asked least most takes sent known
        (first_known s asked least most (still_before a asked removal there) sent (caused w k event s asked least most takes sent there at)) at in
        let P : Sent → Type 0 = λ m. (b : Brings dir removal m.packet.message) → IsDated (world_after w step) m
        × (IsStillThere (removed_by (world_after w step) m.packet.view) removal → 1 ≤ m.to → m.to ≤ n → KnowsOrOver dir known (now m.to) b.ends.receiver) in
        record {
          passed = at_most removal.stamp.time (w.stores removal.stamp.server).names.last (now removal.stamp.server).names.last gated.passed
              (lasts w k event s asked least most takes sent removal.stamp.server);
          there = λ t l m there at. elim (here w.stores s end t) [
            | inl e ↦ (let Q : Store → Type 0 = λ x. KnowsChildren dir known x.names in
                subst Q (sym e.1) (behind (subst (λ (x : Store). IsStillThere (removed_of x) removal) e.1 there)
                (ap (λ (x : Store). place_at x.names dir) (sym e.1) ∙ at)))
            | inr e ↦ (let Q : Store → Type 0 = λ x. KnowsChildren dir known x.names in
                subst Q (sym e.1) (gated.there t l m (subst (λ (x : Store). IsStillThere (removed_of x) removal) e.1 there)
                (ap (λ (x : Store). place_at x.names dir) (sym e.1) ∙ at)))
          ];
          brought = All-append P (effect a asked).out.sent (mail w.journal)
              (sent_known w k event s asked least most takes sent next.on known (gated.there s least most) behind)
              (λ i d lt b.
              let m = get_or (mail w.journal) i d in
              let old = gated.brought i d lt b in (
                within_on w step m.packet.view old.0,
                λ there l q. later_over w k event s asked least most takes sent known b.ends.receiver m.to
                    (old.1 (still_on w step m.packet.view removal old.0 there) l q),
              ));
        }

  -- AN EVENT KEEPS THE GATE
  pub gated_next : (known : NamesValue) (w : World) (e : Event) → Stands n w → Stands n (world_after w (next n w e)) → IsGated n known dir removal w → IsGated n known dir removal (world_after w (next n w e))
  gated_next known w e k then gated =
      next_by n w (λ (v : World). Stands n v → IsGated n known dir removal v) (record {
        still = λ event cause after.
            (let step = idle_step w event cause in
            record {
              passed = gated.passed;
              there = gated.there;
              brought = λ i d lt b.
                  (let m = get_or (mail w.journal) i d in
                  let old = gated.brought i d lt b in
                  (within_on w step m.packet.view old.0, λ there l q. old.1 (still_on w step m.packet.view removal old.0 there) l q));
            });
        acted = λ event s asked least most takes sent after. gated_acted known w k gated event s asked least most takes sent after;
      }) e then

  -- AND SO DOES A RUN
  pub gated_from : (known : NamesValue) (w : World) (events : List Event) → ((some : List Event) → Stands n (run_from n w some)) → IsGated n known dir removal w → IsGated n known dir removal (run_from n w events)
  gated_from known w events holds gated = runs_keep n (Stands n) (IsGated n known dir removal) (gated_next known) w events holds gated
