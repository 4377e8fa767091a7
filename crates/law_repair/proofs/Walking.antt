-- From moment to moment: at each quiet one the graph of a thing that was kept is connected.
use Rattle.std.proofs.Common.{ℕ, ◌≡◌, Bool, true, false, List, [], ◌∷◌, ◌++◌, Some, append_assoc, refl, sym, ap, subst, ◌∙◌, inl, inr, ◌⊎◌}
use Rattle.std.proofs.lemmas.Bool.{false≢true}
use Rattle.std.proofs.lemmas.List.{append-nil}
use Rattle.pg_run.specs.pg_base.declared.id.FileId.{FileId}
use Rattle.pg_run.specs.pg_event.declared.event.Event.{Event}
use Rattle.pg_run.specs.pg_event.declared.quiet.Quiet.{Quiet}
use Rattle.pg_run.specs.pg_event.declared.quiet.Quiet.TheVariants as told
use Rattle.law_leaving.proofs.Lists.{split_last}
use Rattle.pg_run.specs.Graphs.{Holds, IsConnected}
use Rattle.pg_run.specs.Quiet.{IsQuiet, quiet_of}
use Rattle.pg_run.specs.Run.{World, run}
use Rattle.pg_run.proofs.Frame.{live_is}
use Rattle.pg_run.proofs.QuietAnswers.{quiet_is_told}
use Rattle.law_golds.proofs.law_births.Has.{born_of}
use Rattle.pg_run.specs.pg_store.Store.{is_full, replica_at}
use Rattle.pg_run.specs.pg_store.Together.{birth_at}
use Rattle.law_repair.specs.Given.{StandOn}
use Rattle.law_repair.specs.Kept.{AreNeighbours, IsCreated, IsGoldAt, IsKept, IsMoment, StaysGold, is_held_by}
use Rattle.law_repair.proofs.Joining.{all_full, all_know, connected, full_held, full_is}
use Rattle.law_repair.proofs.Agreed.{AreAgreed}
use Rattle.law_repair.proofs.Keeping.{agreed_on}
use Rattle.law_repair.proofs.Starts.{created_agreed, created_connected, holds_held, none_holds, start_agreed, start_connected}

-- ---- lists

-- a list has nothing, or a last entry
pub record HasLast {A : Type 0} (xs : List A) : Type 0 where
  pub before : List A
  pub last : A
  pub is : xs ≡ before ++ last ∷ []

last_of : {A : Type 0} (xs : List A) → (xs ≡ []) ⊎ HasLast xs
last_of [] = inl refl
last_of (x ∷ xs) = elim (last_of xs) [
  | inl none ↦ inr (record { before = []; last = x; is = ap (λ ys. x ∷ ys) none })
  | inr l ↦ inr (record { before = x ∷ l.before; last = l.last; is = ap (λ ys. x ∷ ys) l.is })
]

no_nil : {A : Type 0} (x : A) (xs ys : List A) → [] ≡ (x ∷ xs) ++ ys → ⊥
no_nil x xs ys h = cc

-- ---- whether a run is quiet

quiet_by : (n : ℕ) (w : World) (q : Quiet) → quiet_of n w ≡ q → IsQuiet n w ⊎ (IsQuiet n w → ⊥)
quiet_by n w told.Quiet is = inl ((quiet_is_told n w).0 is)
quiet_by n w (told.Waits cause) is = inr (λ quiet. let z : told.Quiet ≡ told.Waits cause = sym ((quiet_is_told n w).1 quiet) ∙ is in cc)

quiet_or : (n : ℕ) (w : World) → IsQuiet n w ⊎ (IsQuiet n w → ⊥)
quiet_or n w = quiet_by n w (quiet_of n w) refl

module _ (n : ℕ) (on : StandOn n) (file : FileId) where
  abbrev At : List Event → World
  At events = run n events

  -- some server held the thing by then
  pub record WasHeld (events : List Event) : Type 0 where
    pub before : List Event
    pub behind : List Event
    pub split : events ≡ before ++ behind
    pub held : is_held_by (At before) file n ≡ true

  -- at a moment: what is known of each gold one, and that the graph is connected where all is quiet
  pub record Stage (first : List Event) : Type 0 where
    pub begun : WasHeld first
    pub moment : IsMoment n file first
    pub good : (k birth : ℕ) → IsGoldAt n (At first) file k birth → AreAgreed n (At first) file k
    pub graph : IsQuiet n (At first) → IsConnected n (At first) file

  -- ---- the creation

  created_by : (first : List Event) → IsCreated n file first → (first ≡ []) ⊎ HasLast first → Stage first
  created_by first c (inl none) =
      let G : List Event → Type 0 = λ es. (k birth : ℕ) → IsGoldAt n (At es) file k birth → AreAgreed n (At es) file k in
      let Q : List Event → Type 0 = λ es. IsQuiet n (At es) → IsConnected n (At es) file in
      record {
        begun = record { before = first; behind = []; split = sym (append-nil first); held = c.held };
        moment = inl c;
        good = subst G (sym none) (λ k birth g. start_agreed n file k);
        graph = subst Q (sym none) (λ quiet. start_connected n on file quiet);
      }
  created_by first c (inr l) =
      let G : List Event → Type 0 = λ es. (k birth : ℕ) → IsGoldAt n (At es) file k birth → AreAgreed n (At es) file k in
      let Q : List Event → Type 0 = λ es. IsQuiet n (At es) → IsConnected n (At es) file in
      let none = c.new l.before l.last [] l.is in
      record {
        begun = record { before = first; behind = []; split = sym (append-nil first); held = c.held };
        moment = inl c;
        good = subst G (sym l.is) (λ k birth g. created_agreed n on l.before l.last file none k birth g);
        graph = subst Q (sym l.is) (λ quiet. created_connected n on l.before l.last file none);
      }

  created_stage : (first : List Event) → IsCreated n file first → Stage first
  created_stage first c = created_by first c (last_of first)

  -- ---- a quiet moment

  module _ (first : List Event) (begun : WasHeld first) (quiet : IsQuiet n (At first)) (graph : IsConnected n (At first) file) where
    holds : (k m : ℕ) → birth_at ((At first).stores k) file ≡ Some m → Holds (At first) file k
    holds k m born = (let x = born_of (replica_at ((At first).stores k) file) m born in record { replica = x.0; is = x.1 })

    full_there : (k birth : ℕ) → IsGoldAt n (At first) file k birth → is_full ((At first).stores k) file ≡ true
    full_there k birth g = full_is n on first quiet file k (all_full n on first quiet file k g.live (holds k birth g.born))

    quiet_stage : Stage first
    quiet_stage = record {
      begun = begun;
      moment = inr (record { quiet = quiet; before = begun.before; behind = begun.behind; split = begun.split; held = begun.held });
      good = λ k birth g. record {
        known = λ t live full. (
          full_there k birth g,
          all_know n on first quiet file graph k g.live (holds k birth g.born) t live (full_held n on first quiet file t live full) k,
        );
        told = λ m ends there says of_file live born. (
          full_there k birth g,
          all_know n on first quiet file graph k g.live (holds k birth g.born) m.to live (holds m.to ends.receiver born) k,
        );
      };
      graph = λ q. graph;
    }

  -- ---- from one moment to the next

  module _ (first more : List Event) (stage : Stage first) (stays : StaysGold n file first more) where
    abbrev K : ℕ
    K = stays.server

    abbrev Agreed : List Event → Type 0
    Agreed events = AreAgreed n (At events) file K

    along : (before rest : List Event) → more ≡ before ++ rest → Agreed (first ++ before) → Agreed (first ++ more)
    along before [] split agreed = subst (λ (es : List Event). Agreed (first ++ es)) (sym (split ∙ append-nil before)) agreed
    along before (e ∷ es) split agreed =
        let assoc : (first ++ before) ++ e ∷ [] ≡ first ++ (before ++ e ∷ []) = append_assoc first before (e ∷ []) in
        let split_on : more ≡ (before ++ e ∷ []) ++ es = split ∙ sym (append_assoc before (e ∷ []) es) in
        let G : List Event → Type 0 = λ ds. IsGoldAt n (At ds) file K stays.birth in
        let later : G ((first ++ before) ++ e ∷ []) = subst G (sym assoc) (stays.gold (before ++ e ∷ []) es split_on) in
        along (before ++ e ∷ []) es split_on
        (subst Agreed assoc
        (agreed_on n on (first ++ before) e file K stays.birth (stays.gold before (e ∷ es) split) later agreed (stays.known before e es split)))

    gold_first : IsGoldAt n (At first) file K stays.birth
    gold_first = subst (λ (es : List Event). IsGoldAt n (At es) file K stays.birth) (append-nil first) (stays.gold [] more refl)

    agreed_last : Agreed (first ++ more)
    agreed_last = along [] more refl (subst Agreed (sym (append-nil first)) (stage.good K stays.birth gold_first))

    gold_last : IsGoldAt n (At (first ++ more)) file K stays.birth
    gold_last = stays.gold more [] (sym (append-nil more))

    next_connected : IsQuiet n (At (first ++ more)) → IsConnected n (At (first ++ more)) file
    next_connected quiet =
        connected n on (first ++ more) quiet file K stays.birth gold_last (λ t live full. (agreed_last.known t live full).1)

  -- ---- a walk over the events

  held_more : (first more : List Event) → WasHeld first → WasHeld (first ++ more)
  held_more first more w = record {
    before = w.before;
    behind = w.behind ++ more;
    split = ap (λ es. es ++ more) w.split ∙ append_assoc w.before w.behind more;
    held = w.held;
  }

  -- what was held before is not created then
  not_created : (first : List Event) (e : Event) (more : List Event) → WasHeld first → IsCreated n file (first ++ e ∷ more) → ⊥
  not_created first e more w c = by w.behind refl
    where
      by : (behind : List Event) → w.behind ≡ behind → ⊥
      by [] is =
          false≢true (sym (c.new w.before e more
          (ap (λ es. es ++ e ∷ more) (w.split ∙ ap (λ es. w.before ++ es) is ∙ append-nil w.before))) ∙ w.held)
      by (d ∷ ds) is =
          false≢true (sym (c.new w.before d (ds ++ e ∷ more)
          (ap (λ es. es ++ e ∷ more) (w.split ∙ ap (λ es. w.before ++ es) is) ∙ append_assoc w.before (d ∷ ds) (e ∷ more))) ∙ w.held)

  module _ (events : List Event) (kept : IsKept n file events) where
    abbrev Goal : Type 0
    Goal = IsQuiet n (At events) → IsConnected n (At events) file

    -- no moment comes behind the first of these events
    abbrev NoneYet : List Event → List Event → Type 0
    NoneYet first more = (e : Event) (before behind : List Event) → more ≡ (e ∷ before) ++ behind → IsMoment n file (first ++ e ∷ before) → ⊥

    -- so none is between, if the next one is
    none_between : (first more : List Event) (d : Event) → NoneYet first more → (e f : Event) (before behind : List Event)
        → more ++ d ∷ [] ≡ (e ∷ before) ++ f ∷ behind → IsMoment n file (first ++ e ∷ before) → ⊥
    none_between first more d none e f before behind split moment = elim (split_last more d (e ∷ before) f behind split) [
      | inl l ↦ none e before [] (sym l.before ∙ sym (append-nil (e ∷ before))) moment
      | inr r ↦ none e before (f ∷ r.0) r.1 moment
    ]

    none_more : (first more : List Event) (d : Event) → WasHeld first → (IsQuiet n (At (first ++ (more ++ d ∷ []))) → ⊥) → NoneYet first more
        → NoneYet first (more ++ d ∷ [])
    none_more first more d begun loud none e before [] split moment =
        let same : more ++ d ∷ [] ≡ e ∷ before = split ∙ append-nil (e ∷ before) in
        elim moment [
          | inl created ↦ not_created first e before begun created
          | inr quiet ↦ loud (subst (λ (es : List Event). IsQuiet n (At (first ++ es))) (sym same) quiet.quiet)
        ]
    none_more first more d begun loud none e before (f ∷ behind) split moment = none_between first more d none e f before behind split moment

    none_first : (first : List Event) → NoneYet first []
    none_first first e before behind split moment = no_nil e before behind split

    module _ (first : List Event) (stage : Stage first) where
      -- the next moment
      arrive : (more : List Event) (e : Event) (rest ds : List Event) → more ≡ e ∷ rest → events ≡ (first ++ more) ++ ds
          → ((e f : Event) (before behind : List Event) → more ≡ (e ∷ before) ++ f ∷ behind → IsMoment n file (first ++ e ∷ before) → ⊥)
          → IsQuiet n (At (first ++ more)) → Stage (first ++ more)
      arrive more e rest ds is split none quiet =
          let held = held_more first more stage.begun in
          let end : IsMoment n file (first ++ more) = inr (record { quiet = quiet; before = held.before; behind = held.behind; split = held.split; held = held.held }) in
          let neighbours : AreNeighbours n file first more = record { begin = stage.moment; end = end; between = none } in
          let P : List Event → Type 0 = λ es. events ≡ (first ++ es) ++ ds → AreNeighbours n file first es → StaysGold n file first es in
          let stays : StaysGold n file first more = subst P (sym is) (kept first e rest ds) split neighbours in
          quiet_stage (first ++ more) held quiet (next_connected first more stage stays quiet)

    first_entry : (more : List Event) (d : Event) → (e : Event) × (rest : List Event) × (more ++ d ∷ [] ≡ e ∷ rest)
    first_entry [] d = (d, [], refl)
    first_entry (x ∷ xs) d = (x, xs ++ d ∷ [], refl)

    walk : (rest first more : List Event) → events ≡ (first ++ more) ++ rest → Stage first → NoneYet first more → Goal
    walk [] first [] split stage none quiet =
        let same : events ≡ first = split ∙ append-nil (first ++ []) ∙ append-nil first in
        let Q : List Event → Type 0 = λ es. IsConnected n (At es) file in
        subst Q (sym same) (stage.graph (subst (λ (es : List Event). IsQuiet n (At es)) same quiet))
    walk [] first (e ∷ more) split stage none quiet =
        let same : events ≡ first ++ e ∷ more = split ∙ append-nil (first ++ e ∷ more) in
        let held = held_more first (e ∷ more) stage.begun in
        absurd (none e more [] (sym (append-nil (e ∷ more)))
        (inr (record { quiet = subst (λ (es : List Event). IsQuiet n (At es)) same quiet; before = held.before; behind = held.behind; split = held.split; held = held.held })))
    walk (d ∷ ds) first more split stage none quiet =
        let on_split : events ≡ (first ++ (more ++ d ∷ [])) ++ ds =
        split ∙ sym (append_assoc (first ++ more) (d ∷ []) ds) ∙ ap (λ es. es ++ ds) (append_assoc first more (d ∷ [])) in
        elim (quiet_or n (At (first ++ (more ++ d ∷ [])))) [
          | inl now ↦ (
              let e = first_entry more d in
              let next = arrive first stage (more ++ d ∷ []) e.0 e.1 ds e.2 on_split (none_between first more d none) now in
              walk ds (first ++ (more ++ d ∷ [])) [] (on_split ∙ ap (λ es. es ++ ds) (sym (append-nil (first ++ (more ++ d ∷ []))))) next
              (none_first (first ++ (more ++ d ∷ []))) quiet)
          | inr loud ↦ walk ds first (more ++ d ∷ []) on_split stage (none_more first more d stage.begun loud none) quiet
        ]

    -- ---- to its creation

    abbrev NotHeld : List Event → Type 0
    NotHeld events = (before : List Event) (e : Event) (behind : List Event) → events ≡ before ++ e ∷ behind → is_held_by (At before) file n ≡ false

    not_more : (events : List Event) (d : Event) → NotHeld events → is_held_by (At events) file n ≡ false → NotHeld (events ++ d ∷ [])
    not_more es d none now before e behind split = elim (split_last es d before e behind split) [
      | inl l ↦ ap (λ (xs : List Event). is_held_by (At xs) file n) l.before ∙ now
      | inr r ↦ none before e r.0 r.1
    ]

    nobody : (es : List Event) → events ≡ es → is_held_by (At es) file n ≡ false → Goal
    nobody es same none quiet s t ls lt a b =
        let i = live_is n (At events) s ls in
        let held = holds_held n s (At events) file (on.holding.whole events s i.least i.most) a in
        absurd (false≢true (sym (none_holds (At events) file n s (ap (λ (xs : List Event). is_held_by (At xs) file n) same ∙ none) i.least i.most) ∙ held))

    find_by : (t : Bool) (rest before : List Event) → is_held_by (At before) file n ≡ t → events ≡ before ++ rest → NotHeld before → Goal
    find_by true rest before held split none =
        let created : IsCreated n file before = record { held = held; new = none } in
        walk rest before [] (split ∙ ap (λ es. es ++ rest) (sym (append-nil before))) (created_stage before created) (none_first before)
    find_by false [] before held split none = nobody before (split ∙ append-nil before) held
    find_by false (d ∷ ds) before held split none =
        find_by (is_held_by (At (before ++ d ∷ [])) file n) ds (before ++ d ∷ []) refl (split ∙ sym (append_assoc before (d ∷ []) ds)) (not_more before d none held)

    -- REPAIR
    pub repaired : Goal
    repaired = find_by (is_held_by (At []) file n) events [] refl refl (λ before e behind split. absurd (no_split before e behind split))
      where
        no_split : (before : List Event) (e : Event) (behind : List Event) → [] ≡ before ++ e ∷ behind → ⊥
        no_split [] e behind h = cc
        no_split (x ∷ xs) e behind h = cc
