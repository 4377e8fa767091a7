-- The end of a refused call: house rules and intentions find nothing to do, also beside a new wish.
use Rattle.std.proofs.Common.{[], ℕ, ◌≡◌, ◌≢◌, ◌==◌, ◌⊎◌, Bool, true, false, cond, List, ◌∷◌, Option, None, Some, inl, inr, refl, sym, ap, subst, ◌∙◌}
use Rattle.std.proofs.lemmas.Bool.{false≢true}
use Rattle.std.proofs.lemmas.Bool.Decides.{Decides-eqb}
use Rattle.std.proofs.lemmas.List.{append-nil}
use Rattle.pg_run.specs.pg_base.declared.id.FileId.{FileId}
use Rattle.pg_run.specs.pg_call.declared.refusal.Refusal.{Refusal}
use Rattle.pg_run.specs.pg_call.declared.refusal.Refusal.TheVariants.{NotYet}
use Rattle.pg_run.specs.pg_call.declared.reply.Reply.{Reply}
use Rattle.pg_run.specs.pg_house.Facts.{AreOrdered}
use Rattle.pg_run.specs.pg_lookup.declared.paths.Found.{Found}
use Rattle.pg_run.specs.pg_msg.declared.message.Message.TheVariants.{Fetch}
use Rattle.pg_run.specs.pg_msg.declared.message.Sent.{Sent}
use Rattle.pg_run.specs.pg_msg.declared.work.Work.{Work}
use Rattle.pg_run.specs.pg_msg.Work.{new_work}
use Rattle.pg_run.specs.pg_store.declared.store.Store.{Store}
use Rattle.pg_run.specs.pg_store.declared.wishes.Wish.{Wish}
use Rattle.pg_run.specs.pg_store.Births.{draw_birth, with_birth, with_wish}
use Rattle.pg_run.specs.pg_store.Store.{is_full}
use Rattle.pg_run.specs.pg_pieces.Done.{Done, idle}
use Rattle.pg_run.specs.pg_pieces.Posting.{post, sent_to}
use Rattle.pg_run.specs.pg_checks.Answer.{Answer}
use Rattle.pg_run.specs.pg_checks.Asking.{ask_by, ask_for, fresh_wish, holder, standing}
use Rattle.pg_run.specs.pg_intentions.Beginning.{begin_end}
use Rattle.pg_run.specs.pg_server.Local.{Effect, closed, done_of, finished}
use Rattle.pg_run.specs.Golds.{FullSeeGold}
use Rattle.pg_run.specs.Laws.{IsInOrder}
use Rattle.pg_run.proofs.pg_checks.Stopping.{is_not_yet}
use Rattle.pg_run.proofs.pg_intentions.Idle.{ConfirmsFit, FillsFit, SeeksFit, confirms_fit, fills_fit, leaves_pass, nothing_to_do, seeks_fit}
use Rattle.pg_run.proofs.pg_intentions.Leaves.{AllPass, all_moved}
use Rattle.pg_run.proofs.Ticks.{IsTidy, StaysIntended, closed_is, nothing_more}
use Rattle.law_turns.proofs.Told.{ByServer}
use Rattle.law_refused.specs.Refusals.{AsksAgain, AsksFirst, AsksFor}
use Rattle.law_refused.proofs.Asked.{first_asked, nothing_stands, wish_stands}
use Rattle.law_refused.proofs.Left.{Leaves}

-- what the end of an event asks of a server, so that it finds nothing to do
record IsAtRest (b : Store) : Type 0 where
  pub order : IsInOrder b.names
  pub ordered : AreOrdered b.names
  pub golds : FullSeeGold b
  pub still : StaysIntended b

-- no more is done than to send this
abbrev Sending : ℕ → List Sent → Work
Sending moment ms = record (new_work moment 0) { sent = ms }

-- the end of an event, whether or not it takes effect
abbrev pub End : Bool → Reply → Done → Effect
End t r d = cond t (closed (Some r) d) (finished (Some r) d)

module _ (b : Store) (k : IsAtRest b) (moment : ℕ) (r : Reply) (ms : List Sent) where
  abbrev Bare : Effect
  Bare = finished (Some r) (idle b (Sending moment ms))

  ends : (t : Bool) → End t r (idle b (Sending moment ms)) ≡ Bare
  ends true = closed_is b k.order k.ordered k.golds k.still (Some r) (Sending moment ms) refl refl refl
  ends false = refl

  sends : Bare.out.sent ≡ ms
  sends = nothing_more b ms [] ∙ append-nil ms

-- what a refused call leaves at its server, and what it sends
pub record RefusalEnds (a : Store) (why : Refusal) (e : Effect) : Type 0 where
  pub made : e.out.made ≡ []
  pub other : ((file : FileId) → why ≢ NotYet file) → (e.store ≡ a) × (e.out.sent ≡ [])
  pub missing : (file : FileId) → why ≡ NotYet file → AsksFor a e.store file e.out.sent

-- what it asks, and that a server is at rest with that
record Asking (a : Store) (file : FileId) (moment : ℕ) (d : Done) : Type 0 where
  pub store : Store
  pub rests : IsAtRest store
  pub ms : List Sent
  pub is : d ≡ idle store (Sending moment ms)
  pub asks : AsksAgain a store file ms ⊎ AsksFirst a store file ms

is_none : (t : ℕ) → (t == 0) ≡ true → t ≡ 0
is_none t e = (Decides-eqb t 0).0 e

is_some_one : (t : ℕ) → (t == 0) ≡ false → t ≢ 0
is_some_one t e none = false≢true (sym e ∙ (Decides-eqb t 0).1 none)

same_file : (f g : FileId) → NotYet f ≡ NotYet g → f ≡ g
same_file f g h = cc

module _ (n s : ℕ) (a : Store) (k : IsTidy n s a) (flags : ByServer a) where
  -- ---- a server is at rest, and so it is beside a new wish

  rests : IsAtRest a
  rests = record { order = k.order; ordered = k.ordered; golds = k.golds; still = k.still }

  abbrev Zero : Work
  Zero = new_work 0 0

  rested : begin_end a Zero ≡ idle a Zero
  rested = k.still Zero refl refl refl

  fills : FillsFit a
  fills = subst (λ (d : Done). FillsFit d.store) rested (fills_fit a Zero)

  seeks : SeeksFit a
  seeks = subst (λ (d : Done). SeeksFit d.store) rested (seeks_fit a Zero)

  confirms : ConfirmsFit a
  confirms = subst (λ (d : Done). ConfirmsFit d.store) rested (confirms_fit a Zero)

  leaves : AllPass a a.intents
  leaves = subst (λ (d : Done). AllPass d.store d.store.intents) rested (leaves_pass a Zero)

  abbrev Wishing : FileId → Wish → Store
  Wishing file wish = with_wish (with_birth a) file wish

  wishing_rests : (file : FileId) (wish : Wish) → IsAtRest (Wishing file wish)
  wishing_rests file wish = record {
    order = k.order;
    ordered = k.ordered;
    golds = k.golds;
    still = λ work left unsure linked.
        nothing_to_do (Wishing file wish) fills seeks confirms
        (all_moved a (Wishing file wish) refl refl a.intents leaves) work left unsure linked;
  }

  -- ---- what is asked

  module _ (moment : ℕ) (found : Found) where
    abbrev Start : Work
    Start = new_work moment 0

    abbrev Asked : Done → Type 0
    Asked d = Asking a found.file moment d

    again : (wish : Wish) → standing a found.file ≡ Some wish → (t : Bool) → (wish.target == 0) ≡ t
        → Asked (idle a (cond t Start (post a wish.target (Fetch found.file wish.birth) Start)))
    again wish stands true e = record {
      store = a;
      rests = rests;
      ms = [];
      is = refl;
      asks = inl (record {
        wish = wish;
        stands = wish_stands found.file a wish stands;
        same = refl;
        nobody = λ none. refl;
        fetch = λ some. absurd (some (is_none wish.target e));
      });
    }
    again wish stands false e = record {
      store = a;
      rests = rests;
      ms = sent_to a wish.target (Fetch found.file wish.birth) ∷ [];
      is = refl;
      asks = inl (record {
        wish = wish;
        stands = wish_stands found.file a wish stands;
        same = refl;
        nobody = λ none. absurd (is_some_one wish.target e none);
        fetch = λ some. refl;
      });
    }

    abbrev To : ℕ
    To = holder a found

    abbrev Fresh : Store
    Fresh = Wishing found.file (fresh_wish a To)

    first : standing a found.file ≡ None → (t : Bool) → (To == 0) ≡ t
        → Asked (cond t (idle a Start)
        (idle Fresh (cond t Start (post a To (Fetch found.file (draw_birth a)) Start))))
    first new true e = record {
      store = a;
      rests = rests;
      ms = [];
      is = refl;
      asks = inr (record {
        way = found.way;
        target = To;
        asked = first_asked a k.by_id flags found.file found.way;
        new = nothing_stands found.file a new;
        nobody = λ none. (refl, refl);
        fetch = λ some. absurd (some (is_none To e));
      });
    }
    first new false e = record {
      store = Fresh;
      rests = wishing_rests found.file (fresh_wish a To);
      ms = sent_to a To (Fetch found.file (draw_birth a)) ∷ [];
      is = refl;
      asks = inr (record {
        way = found.way;
        target = To;
        asked = first_asked a k.by_id flags found.file found.way;
        new = nothing_stands found.file a new;
        nobody = λ none. absurd (is_some_one To e none);
        fetch = λ some. (refl, refl);
      });
    }

    asked_by : (o : Option Wish) → standing a found.file ≡ o → Asked (ask_by a found o Start)
    asked_by None new = first new (To == 0) refl
    asked_by (Some wish) stands = again wish stands (wish.target == 0) refl

    asked : Asked (ask_for a found Start)
    asked = asked_by (standing a found.file) refl

  -- ---- the end of the event

  module _ (moment : ℕ) (why : Refusal) (r : Reply) (t : Bool) where
    nothing_ends : is_not_yet why ≡ false → RefusalEnds a why (End t r (idle a (new_work moment 0)))
    nothing_ends other =
        subst (RefusalEnds a why) (sym (ends a rests moment r [] t))
        (record {
          made = refl;
          other = λ no. (refl, sends a rests moment r []);
          missing = λ file e. absurd (false≢true (sym other ∙ ap is_not_yet e));
        })

    asked_ends : (found : Found) → why ≡ NotYet found.file → is_full a found.file ≡ false
        → (d : Done) → Asking a found.file moment d → RefusalEnds a why (End t r d)
    asked_ends found is none d asks =
        let b = asks.store in
        let sent = sends b asks.rests moment r asks.ms in
        let P : FileId → List Sent → Type 0 = (λ f ms. AsksFor a b f ms) in
        let all : P found.file asks.ms = record { missing = none; asks = asks.asks } in
        subst (RefusalEnds a why)
        (sym (ap (End t r) asks.is ∙ ends b asks.rests moment r asks.ms t))
        (record {
          made = refl;
          other = λ no. absurd (no found.file is);
          missing = λ file e.
              subst (λ f. P f (Bare b asks.rests moment r asks.ms).out.sent)
              (same_file found.file file (sym is ∙ e)) (subst (P found.file) (sym sent) all);
        })

    -- A REFUSED CALL ENDS SO
    pub refusal_ends : (left : Answer) → Leaves a (new_work moment 0) why left
        → RefusalEnds a why (End t r (done_of left))
    refusal_ends left leaves_so = elim leaves_so [
      | inl all ↦ subst (λ (d : Done). RefusalEnds a why (End t r d)) (sym all.same)
          (nothing_ends all.other)
      | inr x ↦ subst (λ (d : Done). RefusalEnds a why (End t r d)) (sym x.asks)
          (asked_ends x.found x.is x.none (ask_for a x.found (new_work moment 0)) (asked moment x.found))
    ]
