-- In every run each server is sound, and all that is known, intended and sent is said: ids were
-- given out, parents are directories, names are those that clients give or are made of ids, and
-- flags are of the run's servers.
use Rattle.std.proofs.Common.{ℕ, ◌≡◌, ◌≤◌, ◌<◌, ◌+◌, ◌^◌, Bool, true, false, List, Option, None, Some, is_some, refl, sym, ap, subst, ◌∙◌, inl, inr, arith}
use Rattle.std.proofs.lemmas.List.Elements.{All-append, All-contains, All-nil}
use Rattle.law_frame.specs.pg_run.pg_base.declared.id.FileId.{FileId}
use Rattle.law_frame.specs.pg_run.pg_base.declared.id.Kind.{Kind}
use Rattle.law_frame.specs.pg_run.pg_base.Id.{is_same_file}
use Rattle.law_frame.proofs.pg_run.pg_base.Orders.{is_same_file-true}
use Rattle.law_frame.specs.pg_run.pg_intent.declared.intent.Intent.{Intent}
use Rattle.law_frame.specs.pg_run.pg_msg.declared.message.Sent.{Sent}
use Rattle.law_frame.specs.pg_run.pg_msg.Work.{new_work}
use Rattle.law_frame.specs.pg_run.pg_call.declared.call.Call.{Call}
use Rattle.law_frame.specs.pg_run.pg_event.declared.event.Event.{Event}
use Rattle.law_frame.specs.pg_run.pg_names.Names.{InodeValue, known, own_of}
use Rattle.law_frame.specs.pg_run.pg_register.Place.{root}
use Rattle.law_frame.specs.pg_run.theory_flood.World.{after}
use Rattle.law_frame.proofs.pg_run.theory_flood.Flood.{after_itself, here}
use Rattle.law_frame.specs.pg_run.pg_store.declared.store.Store.{Store}
use Rattle.law_frame.specs.pg_run.pg_store.Births.{fill_at}
use Rattle.law_frame.specs.pg_run.pg_store.Seen.{server_of}
use Rattle.law_frame.specs.pg_run.pg_store.Store.{is_held}
use Rattle.law_frame.proofs.pg_run.pg_store.InTime.{files_in_time}
use Rattle.law_frame.specs.pg_run.pg_intentions.Fills.{files_to_fill, is_in}
use Rattle.law_frame.specs.pg_run.pg_intentions.Needed.{IsToFill}
use Rattle.law_frame.proofs.pg_run.pg_intentions.Needs.{what_is_needed}
use Rattle.law_frame.specs.pg_run.pg_calls.Calls.{do_call}
use Rattle.law_frame.specs.pg_run.pg_calls.Naming.{next_id}
use Rattle.law_frame.specs.pg_run.pg_server.declared.input.Input.{Input}
use Rattle.law_frame.specs.pg_run.pg_server.declared.input.Input.TheVariants as input
use Rattle.law_frame.specs.pg_run.pg_server.Local.{effect, first_effect}
use Rattle.law_frame.specs.pg_run.pg_house.Facts.{AreOrdered}
use Rattle.law_frame.specs.pg_run.theory_flood_pieces.Whole.{IsWhole}
use Rattle.law_frame.proofs.pg_run.theory_flood_pieces.Together.{own_of_held}
use Rattle.law_frame.specs.pg_run.Journal.{mail}
use Rattle.law_frame.specs.pg_run.Run.{World, effect_step, run, start, world_after}
use Rattle.law_frame.proofs.pg_run.Frame.{HasCome, holds_in_runs, no_server_comes}
use Rattle.law_order.specs.Laws.{files_of}
use Rattle.law_order.specs.Named.{IsMade, naming}
use Rattle.law_order.specs.Saying.{IsSaidOfMessage}
use Rattle.law_order.proofs.Called.{GivesNewIds}
use Rattle.law_order.proofs.Effects.{IsAskable, effect_sound, first_any}
use Rattle.law_order.proofs.Ended.{IsAtRest, IsDone}
use Rattle.law_order.proofs.Files.{effect_files, effect_same}
use Rattle.law_order.proofs.First.{first_rest}
use Rattle.law_order.proofs.Naming.{member, message_later, naming_closed, rest_later, sent_later}
use Rattle.law_order.proofs.Sent.{AreSaidOf}

pub record AreSound (n : ℕ) (w : World) : Type 0 where
  pub servers : (k : ℕ) → IsAtRest (naming n (files_of w.stores)) n k (w.stores k)
  pub mail : AreSaidOf (naming n (files_of w.stores)) (mail w.journal)

-- ---- the next id of a server is not known

module _ (n s : ℕ) (a : Store) (files : ℕ → ℕ) (least : 1 ≤ s) (mine : files s ≡ a.files) (k : IsAtRest (naming n files) n s a) (kind : Kind) where
  abbrev Id : FileId
  Id = next_id a kind

  not_given : (m : ℕ) → m ≡ a.files → a.files + 1 ≤ m → ⊥
  not_given m e h = omega arith

  pub not_made : IsMade n files Id → ⊥
  not_made (inl e) =
      let zero_is : server_of a ≡ 0 = ap (λ (x : FileId). x.server) e in
      let same = k.sound.whole.server in
      omega (arith, zero_is, same, least)
  not_made (inr b) =
      let given : a.files + 1 ≤ files s = subst (λ (m : ℕ). a.files + 1 ≤ files m) k.sound.whole.server b.given in
      not_given (files s) mine given

  away_by : (t : Bool) → is_held a Id ≡ t → is_held a Id ≡ false
  away_by false there = there
  away_by true there =
      let own = own_of_held a.names Id there in
      absurd (not_made (k.sound.named.said.own Id own.0 own.1).thing)

  known_own : (f : FileId) (x : InodeValue) → known a.names f ≡ Some x → IsMade n files f × IsMade n files x.own.place.parent
  known_own f x h = let was = k.sound.named.said.own f x.own (ap own_of h) in (was.thing, was.place.parent)

  not_to_fill : IsToFill a.names Id → ⊥
  not_to_fill (inl x) = not_made (known_own Id x.0 x.1).0
  not_to_fill (inr l) = not_made (subst (IsMade n files) l.parent (known_own l.child l.x l.held).1)

  gap_by : (o : Option Intent) → fill_at a Id ≡ o → fill_at a Id ≡ None
  gap_by None there = there
  gap_by (Some i) there =
      let in_files : is_in (files_to_fill a.names) Id ≡ true = sym (k.fills Id) ∙ ap (λ (o : Option Intent). is_some o) there in
      absurd (not_to_fill ((what_is_needed a.names Id k.sound.named.tidy.keys).0 in_files))

  pub is_away : is_held a Id ≡ false
  is_away = away_by (is_held a Id) refl

  pub has_no_fill : fill_at a Id ≡ None
  has_no_fill = gap_by (fill_at a Id) refl

  other_by : (t : Bool) → is_same_file Id root ≡ t → t ≡ false
  other_by false e = refl
  other_by true e =
      let zero_is : server_of a ≡ 0 = ap (λ (x : FileId). x.server) (is_same_file-true Id root e) in
      let same = k.sound.whole.server in
      absurd (omega (arith, zero_is, same, least))

  pub is_no_root : is_same_file Id root ≡ false
  is_no_root = other_by (is_same_file Id root) refl

-- ---- a server takes an input

module _ (n : ℕ) (w : World) (k : AreSound n w) (s : ℕ) (least : 1 ≤ s) (most : s ≤ n) (asked : Input) where
  abbrev Here : Store
  Here = w.stores s

  abbrev Then : Store
  Then = (effect Here asked).store

  abbrev Later : ℕ → ℕ
  Later = files_of (after w.stores s Then)

  more : (j : ℕ) → (w.stores j).files ≤ Later j
  more j = elim (here w.stores s Then j) [
    | inl e ↦ (let P : Store → Type 0 = λ x. (w.stores j).files ≤ x.files in
        let Q : ℕ → Type 0 = λ i. (w.stores i).files ≤ Then.files in
        subst P (sym e.1) (subst Q (sym e.0) (effect_files Here asked)))
    | inr e ↦ (let P : Store → Type 0 = λ x. (w.stores j).files ≤ x.files in
        subst P (sym e.1) (omega arith))
  ]

  fits : (m : ℕ) → m < 2 ^ 62 → m + 1 < 2 ^ 64
  fits m h = omega arith

  -- the id that a call gives out
  is_new : (x : Call) (moment : ℕ) → asked ≡ input.Call moment x → GivesNewIds (naming n Later) Here x (new_work moment 0)
  is_new x moment is going kind made =
      let rest = k.servers s in
      let server : server_of Here ≡ s = rest.sound.whole.server in
      let at : Later s ≡ Then.files = ap (λ (b : Store). b.files) (after_itself w.stores s Then) in
      let first : Then.files ≡ (do_call Here x (new_work moment 0)).store.files =
      ap (λ (y : Input). (effect Here y).store.files) is ∙ effect_same Here (input.Call moment x) in
      let given : Here.files + 1 ≤ Later s = (let e = at ∙ first ∙ made in omega arith) in
      let P : ℕ → Type 0 = λ m. Here.files + 1 ≤ Later m in
      record {
        away = is_away n s Here (files_of w.stores) least refl rest kind;
        gap = has_no_fill n s Here (files_of w.stores) least refl rest kind;
        thing = inr (record {
          least = subst (λ (m : ℕ). 1 ≤ m) (sym server) least;
          most = subst (λ (m : ℕ). m ≤ n) (sym server) most;
          number = fits Here.files (files_in_time Here going);
          given = subst P (sym server) given;
        });
        other = is_no_root n s Here (files_of w.stores) least refl rest kind;
      }

  askable : (x : Input) → asked ≡ x → HasCome w s x → IsAskable (naming n Later) Here x
  askable (input.Call moment x) is way = is_new x moment is
  askable (input.Tick moment word) is way = tt
  askable (input.Arrival packet) is way =
      let P : Sent → Type 0 = λ m. IsSaidOfMessage (naming n (files_of w.stores)) m.packet.message in
      message_later n (files_of w.stores) Later more packet.message
      (All-contains P (mail w.journal) (record { to = s; packet = packet }) k.mail way)
  askable input.Restart is way = tt

  done : HasCome w s asked → IsDone (naming n Later) n s (effect Here asked)
  done way =
      effect_sound (naming n Later) (naming_closed n Later) n s (member n Later s least most) Here
      (rest_later n (files_of w.stores) Later more s Here (k.servers s)) asked (askable asked refl way)

  -- behind the first effect
  pub first_runs : HasCome w s asked → IsWhole n s (first_effect Here asked).store
  first_runs way =
      (first_any (naming n Later) (naming_closed n Later) n s (member n Later s least most) Here
      (rest_later n (files_of w.stores) Later more s Here (k.servers s)) asked (askable asked refl way)).whole

  -- there entries are by id
  pub first_ordered : HasCome w s asked → AreOrdered (first_effect Here asked).store.names
  first_ordered way =
      (first_any (naming n Later) (naming_closed n Later) n s (member n Later s least most) Here
      (rest_later n (files_of w.stores) Later more s Here (k.servers s)) asked (askable asked refl way)).named.tidy.ordered

  pub acted : (event : Event) → HasCome w s asked → AreSound n (world_after w (effect_step w event s asked))
  acted event way =
      let e = done way in
      let M : Sent → Type 0 = λ m. IsSaidOfMessage (naming n Later) m.packet.message in
      record {
        servers = λ j. elim (here w.stores s Then j) [
          | inl at ↦ (let Q : ℕ → Type 0 = λ i. IsAtRest (naming n Later) n i Then in
              subst (IsAtRest (naming n Later) n j) (sym at.1) (subst Q (sym at.0) e.rest))
          | inr at ↦ subst (IsAtRest (naming n Later) n j) (sym at.1) (rest_later n (files_of w.stores) Later more j (w.stores j) (k.servers j))
        ];
        mail = All-append M (effect Here asked).out.sent (mail w.journal) e.sent (sent_later n (files_of w.stores) Later more (mail w.journal) k.mail);
      }

-- ---- every run

-- IN EVERY RUN
pub sound_run : (n : ℕ) (events : List Event) → AreSound n (run n events)
sound_run n events =
    holds_in_runs n (AreSound n) (record {
      first = record {
        servers = λ s. first_rest n (files_of (start n).stores) s;
        mail = All-nil (λ (m : Sent). IsSaidOfMessage (naming n (files_of (start n).stores)) m.packet.message);
      };
      idle = λ w event cause k. record { servers = k.servers; mail = k.mail };
      comes = λ past event server is k. absurd (no_server_comes event server is);
      acts = λ before event t is act k. acted n (run n before) k t.server act.least act.most t.asked event act.came;
    }) events
