-- Which dead places are made: those of things that go in a call. The house rules make live places
-- alone, and of directories.
use Rattle.std.proofs.Common.{ℕ, ◌≡◌, true, false, List, Option, All, refl, sym, ap, subst, ◌∙◌, inl, inr}
use Rattle.std.proofs.lemmas.Bool.{false≢true}
use Rattle.std.proofs.lemmas.List.Elements.{All-nil, All-push}
use Rattle.pg_run.specs.pg_base.declared.id.FileId.{FileId}
use Rattle.pg_run.specs.pg_register.declared.flag.Flag.{Flag}
use Rattle.pg_run.specs.pg_register.declared.place.Place.{Place}
use Rattle.pg_run.specs.pg_register.Place.{root}
use Rattle.pg_run.specs.pg_call.declared.reply.Reply.{Reply}
use Rattle.pg_run.specs.pg_msg.declared.message.Message.{Message}
use Rattle.pg_run.specs.pg_msg.declared.update.MadeVersion.{MadeVersion}
use Rattle.pg_run.specs.pg_msg.declared.update.Update.{Update}
use Rattle.pg_run.specs.pg_msg.declared.update.Update.TheVariants as update
use Rattle.pg_run.specs.pg_msg.declared.work.Work.{Work}
use Rattle.pg_run.specs.pg_msg.Work.{new_work}
use Rattle.pg_run.specs.pg_house.Work.{state_of}
use Rattle.pg_run.specs.pg_store.declared.store.Store.{Store}
use Rattle.pg_run.specs.pg_pieces.Done.{Done, idle}
use Rattle.pg_run.specs.pg_cells.Settling.{rules}
use Rattle.pg_run.specs.pg_cells.Ticks.{tick}
use Rattle.pg_run.specs.pg_intentions.Requests.{ask_all}
use Rattle.pg_run.proofs.pg_intentions.Steady.{begin_end_stays}
use Rattle.pg_run.specs.pg_server.declared.input.Input.{Input}
use Rattle.pg_run.specs.pg_server.declared.input.Input.TheVariants as input
use Rattle.pg_run.specs.pg_server.Local.{Effect, closed, effect, finished, first_effect, is_heard, receive, reply_to, settled, takes_effect}
use Rattle.pg_run.proofs.theory_flood_pieces.Choices.{chosen}
use Rattle.pg_run.proofs.Ticked.{tick_work}
use Rattle.law_full.proofs.HousePlaces.{StaysSo, house_stays}
use Rattle.law_full.proofs.Called.{IsGoing, call_sends}
use Rattle.law_full.proofs.Replies.{MayAnswer, receive_sends, tick_sends}
use Rattle.law_full.proofs.Works.{IsClosed, settled_sends}

-- a thing goes in a call
abbrev pub GoesIn : Store → Input → FileId → Place → Type 0
GoesIn a (input.Call moment c) f p = IsGoing a moment f p
GoesIn a (input.Tick moment word) f p = ⊥
GoesIn a (input.Arrival packet) f p = ⊥
GoesIn a input.Restart f p = ⊥

same_file_of : (f g : FileId) (p q : Place) → update.Place f p ≡ update.Place g q → f ≡ g
same_file_of f g p q h = cc

same_place_of : (f g : FileId) (p q : Place) → update.Place f p ≡ update.Place g q → p ≡ q
same_place_of f g p q h = cc

no_flag : (f g : FileId) (x : Flag) (q : Place) → update.Flag f x ≡ update.Place g q → ⊥
no_flag f g x q h = cc

no_version : (x : MadeVersion) (g : FileId) (q : Place) → update.Version x ≡ update.Place g q → ⊥
no_version x g q h = cc

module _ (a : Store) (asked : Input) where
  -- where an update is a dead place, its thing goes
  abbrev pub IsOfGoing : Update → Type 0
  IsOfGoing u = (f : FileId) (p : Place) → u ≡ update.Place f p → p.live ≡ false → GoesIn a asked f p

  abbrev Of : Work → Type 0
  Of w = All IsOfGoing w.made

  live_made : (f : FileId) (p : Place) → p.live ≡ true → IsOfGoing (update.Place f p)
  live_made f p live g q same dead = absurd (false≢true (sym dead ∙ ap (λ (x : Place). x.live) (sym (same_place_of f g p q same)) ∙ live))

  gone_made : (f : FileId) (p : Place) → GoesIn a asked f p → IsOfGoing (update.Place f p)
  gone_made f p goes g q same dead =
      let P : FileId → Type 0 = λ x. GoesIn a asked x q in
      let S : Place → Type 0 = λ x. GoesIn a asked f x in
      subst P (same_file_of f g p q same) (subst S (same_place_of f g p q same) goes)

  flag_made : (f : FileId) (x : Flag) → IsOfGoing (update.Flag f x)
  flag_made f x g q same dead = absurd (no_flag f g x q same)

  version_made : (x : MadeVersion) → IsOfGoing (update.Version x)
  version_made x g q same dead = absurd (no_version x g q same)

  made_closed : IsClosed Of
  made_closed = record {
    touched = λ w f q h. h;
    left = λ w d f h. h;
    unsure = λ w d f h. h;
    linked = λ w f peer h. h;
    begun = λ w i h. h;
    flagged = λ w f g h. All-push IsOfGoing w.made (update.Flag f g) h (flag_made f g);
    sent = λ w x is h. h;
    last = λ w x is h. h;
  }

  any_answers : (w : Work) (m : Message) → MayAnswer Of a w m
  any_answers w m = record { granted = λ v b to ends own x h. h; full = λ file birth is holds clean h. h }

-- ---- the first effect

first_made : (a : Store) (asked : Input) → All (IsOfGoing a asked) (first_effect a asked).work.made
first_made a (input.Call moment c) =
    let asked = input.Call moment c in
    let w = new_work moment 0 in
    call_sends (λ (v : Work). All (IsOfGoing a asked) v.made) (made_closed a asked) a w
    (record {
      place = λ v f p how h. All-push (IsOfGoing a asked) v.made (update.Place f p) h (elim how [ inl live ↦ live_made a asked f p live | inr goes ↦ gone_made a asked f p goes ]);
      version = λ v u h. All-push (IsOfGoing a asked) v.made (update.Version u) h (version_made a asked u);
    }) (All-nil (IsOfGoing a asked)) c
first_made a (input.Tick moment word) =
    let asked = input.Tick moment word in
    let w = new_work moment 0 in
    let none = All-nil (IsOfGoing a asked) in
    tick_work a moment word (λ (v : Work). All (IsOfGoing a asked) v.made) none
    (λ early. tick_sends (λ (v : Work). All (IsOfGoing a asked) v.made) (made_closed a asked) a word (ask_all a (tick a w)) none)
first_made a (input.Arrival packet) =
    let asked = input.Arrival packet in
    let w = new_work 0 packet.from in
    chosen (λ (d : Done). All (IsOfGoing a asked) d.work.made) (is_heard a packet) (receive a packet.message w) (idle a w)
    (receive_sends (λ (v : Work). All (IsOfGoing a asked) v.made) (made_closed a asked) a w (All-nil (IsOfGoing a asked)) packet.message (any_answers a asked w packet.message))
    (All-nil (IsOfGoing a asked))
first_made a input.Restart = All-nil (IsOfGoing a input.Restart)

-- ---- the end

module _ (a : Store) (asked : Input) where
  any_so : (R : List ℕ) → StaysSo root R (λ (p : Place). Unit {0}) (IsOfGoing a asked)
  any_so R = record { taken = λ own top up q. tt; live = λ p live some. tt; made = λ f p live. live_made a asked f p live }

  ruled_made : (b : Store) (w : Work) → All (IsOfGoing a asked) w.made → All (IsOfGoing a asked) (rules b w).work.made
  ruled_made b w all =
      let s = b.names in
      (house_stays root s.removed (λ (p : Place). Unit {0}) (IsOfGoing a asked) (any_so s.removed) w.now (state_of s w) (record { removed = refl; place = tt; made = all })).made

  closed_made : (r : Option Reply) (d : Done) → All (IsOfGoing a asked) d.work.made → All (IsOfGoing a asked) (closed r d).out.made
  closed_made r d all =
      subst (All (IsOfGoing a asked)) (sym (begin_end_stays (settled d).store (settled d).work).made)
      (settled_sends (λ (w : Work). All (IsOfGoing a asked) w.made) (made_closed a asked) ruled_made d.store d.work all)

  -- IN AN EVENT
  pub effect_made : All (IsOfGoing a asked) (effect a asked).out.made
  effect_made =
      let d = first_effect a asked in
      let r = reply_to a asked in
      chosen (λ (e : Effect). All (IsOfGoing a asked) e.out.made) (takes_effect a asked) (closed r d) (finished r d) (closed_made r d (first_made a asked)) (first_made a asked)
