-- What an event does at a server: each place that is known then, and each that is told, may stand,
-- where those that it makes may; and what these are.
use Rattle.std.proofs.Common.{ℕ, ◌≡◌, ◌≤◌, false, Option, refl, sym, subst, All, arith}
use Rattle.std.proofs.lemmas.List.Elements.{All-nil}
use Rattle.law_frame.specs.pg_run.pg_base.declared.id.FileId.{FileId}
use Rattle.law_frame.specs.pg_run.pg_base.Id.{is_same_file}
use Rattle.law_frame.specs.pg_run.pg_call.declared.reply.Reply.{Reply}
use Rattle.law_frame.specs.pg_run.pg_house.Work.{State, state_of}
use Rattle.law_frame.proofs.pg_run.pg_house.Drawn.{IsDrawn, drawn_on}
use Rattle.law_frame.specs.pg_run.pg_msg.Work.{new_work}
use Rattle.law_frame.proofs.pg_run.theory_flood_pieces.Choices.{chosen}
use Rattle.law_frame.specs.pg_run.pg_register.declared.place.Place.{Place}
use Rattle.law_frame.specs.pg_run.pg_register.Place.{blank_place, root}
use Rattle.law_frame.proofs.pg_run.pg_intentions.Steady.{begin_end_stays}
use Rattle.law_frame.specs.pg_run.pg_server.declared.input.Input.{Input}
use Rattle.law_frame.specs.pg_run.pg_server.declared.input.Input.TheVariants as input
use Rattle.law_frame.specs.pg_run.pg_server.Local.{Effect, closed, effect, finished, first_effect, intended, is_heard, receive, reply_to, settled, takes_effect, ticked, without_sources, without_volatile}
use Rattle.law_frame.specs.pg_run.pg_store.declared.store.Store.{Store}
use Rattle.law_frame.specs.pg_run.pg_store.Seen.{server_of}
use Rattle.law_frame.specs.pg_run.pg_store.Store.{is_before_clock_end}
use Rattle.law_frame.specs.pg_run.pg_pieces.Done.{Done, idle}
use Rattle.law_frame.specs.pg_run.pg_cells.Ticks.{tick}
use Rattle.law_frame.specs.pg_run.pg_intentions.Requests.{ask_all}
use Rattle.law_frame.proofs.pg_run.Event.{nothing_last}
use Rattle.law_frame.proofs.pg_run.LastWalks.{lasts_have}
use Rattle.law_places.proofs.Origins.{IsMade}
use Rattle.law_places.proofs.Behind.{MayMake, again_fine, ends_told, intended_fine, settle_fine, settle_made}
use Rattle.law_places.proofs.Called.{called}
use Rattle.law_places.proofs.Fine.{AreKnown, IsFine, as_before}
use Rattle.law_places.proofs.Messages.{OfMessage, OfSent, message_further}
use Rattle.law_places.proofs.Timed.{AreTimed}
use Rattle.law_places.proofs.Leaving.{RootStays}
use Rattle.law_places.proofs.Handled.{receive_fine}
use Rattle.law_places.proofs.Walks.{tick_fine}

-- a message tells of places that may stand
abbrev pub OfInput : (FileId → Place → Type 0) → Input → Type 0
OfInput P (input.Arrival packet) = OfMessage P packet.message
OfInput P _ = Unit {0}

pub input_further : (P Q : FileId → Place → Type 0) → ((f : FileId) (p : Place) → P f p → Q f p) → (asked : Input) → OfInput P asked → OfInput Q asked
input_further P Q up (input.Arrival packet) h = message_further P Q up packet.message h
input_further P Q up (input.Call moment call) h = tt
input_further P Q up (input.Tick moment word) h = tt
input_further P Q up input.Restart h = tt

module _ (P : FileId → Place → Type 0) (blanks : (f : FileId) → is_same_file f root ≡ false → P f (blank_place f)) (s : ℕ) (some : 1 ≤ s) (a : Store) where
  abbrev Fine : Done → Type 0
  Fine d = IsFine P s a.names.last d

  abbrev May : Effect → Type 0
  May e = MayMake P blanks s a.names.last e.out.made

  abbrev pub ended : Effect → State
  ended e = state_of e.store.names (record (new_work 0 0) { made = e.out.made })

  -- what an event leaves
  pub record Leaves (e : Effect) : Type 0 where
    pub known : AreKnown P e.store
    pub timed : AreTimed e.store.names
    pub sent : All (OfSent P) e.out.sent
    pub drawn : IsDrawn s a.names.last (ended e)

  -- ---- the end

  finished_leaves : (r : Option Reply) (d : Done) → Fine d → All (OfSent P) d.work.tail → Leaves (finished r d)
  finished_leaves r d k last = record {
    known = k.known;
    timed = k.timed;
    sent = ends_told P blanks s a.names.last d k last;
    drawn = drawn_on s a.names.last (state_of d.store.names d.work) (ended (finished r d)) k.drawn refl (omega arith) (λ f p h. h);
  }

  -- what was made stays made
  closed_made : (r : Option Reply) (d : Done) (f : FileId) (p : Place) → IsMade d.work.made f p → IsMade (closed r d).out.made f p
  closed_made r d f p h =
      let mid = settled d in
      subst (λ us. IsMade us f p) (sym (begin_end_stays mid.store mid.work).made) (settle_made P blanks s a.names.last d f p h)

  closed_leaves : (r : Option Reply) (d : Done) → Fine d → All (OfSent P) d.work.tail → May (closed r d) → Leaves (closed r d)
  closed_leaves r d k last may =
      let mid = settled d in
      let first = settle_fine P blanks s a.names.last d k (λ f p h. may f p (subst (λ us. IsMade us f p) (sym (begin_end_stays mid.store mid.work).made) h)) in
      finished_leaves r (intended mid) (intended_fine P blanks s a.names.last mid first) (subst (All (OfSent P)) (sym (nothing_last d)) last)

  -- ---- an input

  module _ (known : AreKnown P a) (timed : AreTimed a.names) (server : server_of a ≡ s) (stays : RootStays a) where
    begins : (now from : ℕ) → Fine (idle a (new_work now from))
    begins now from = record {
      known = known;
      timed = timed;
      sent = All-nil (OfSent P);
      drawn = record { server = server; low = omega arith; each = λ f p h. absurd h; one = λ f g p q h i e. absurd h };
    }

    first_fine : (asked : Input) → OfInput P asked → MayMake P blanks s a.names.last (first_effect a asked).work.made → Fine (first_effect a asked)
    first_fine (input.Call moment call) asks may = called P blanks s a.names.last some a moment call (begins moment 0) may
    first_fine (input.Tick moment word) asks may =
        let work = new_work moment 0 in
        let b = without_sources a in
        let still = as_before P s a.names.last (idle a work) (idle b work) refl refl refl refl (begins moment 0) in
        chosen Fine (is_before_clock_end a) (ticked a word work) (idle a work)
        (tick_fine P s a.names.last word (idle b (ask_all b (tick b work))) (again_fine P blanks s a.names.last (idle b work) still)) (begins moment 0)
    first_fine (input.Arrival packet) asks may =
        let work = new_work 0 packet.from in
        chosen Fine (is_heard a packet) (receive a packet.message work) (idle a work)
        (receive_fine P blanks s a.names.last a work packet.message stays asks (begins 0 packet.from)) (begins 0 packet.from)
    first_fine input.Restart asks may =
        as_before P s a.names.last (idle a (new_work 0 0)) (idle (without_volatile a) (new_work 0 0)) refl refl refl refl (begins 0 0)

    -- AN EVENT
    pub effect_leaves : (asked : Input) → OfInput P asked → May (effect a asked) → Leaves (effect a asked)
    effect_leaves asked asks =
        let d = first_effect a asked in
        let r = reply_to a asked in
        let last = lasts_have (OfSent P) a asked (λ file e origin birth hops word. tt) (λ b file e. tt) in
        chosen (λ (e : Effect). May e → Leaves e) (takes_effect a asked) (closed r d) (finished r d)
        (λ may. closed_leaves r d (first_fine asked asks (λ f p h. may f p (closed_made r d f p h))) last may)
        (λ may. finished_leaves r d (first_fine asked asks may) last)
