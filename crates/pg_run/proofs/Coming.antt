-- What a server took is what came to it.
use Rattle.std.proofs.Common.{◌≡◌, ◌≢◌, ℕ, Bool, true, false, List, [], ◌∷◌, Option, None, Some, ◌||◌, ◌⊎◌, inl, inr, refl, sym, ap, subst, ◌∙◌}
use Rattle.std.proofs.lemmas.Option.{none-some, same_Some}
use Rattle.pg_base.specs.declared.id.FileId.{FileId}
use Rattle.pg_base.specs.Id.{is_same_file}
use Rattle.pg_base.proofs.Orders.{is_same_file-refl, is_same_file-true}
use Rattle.pg_content.specs.Content.{Among}
use Rattle.theory_flood.proofs.Flood.{here}
use Rattle.pg_event.specs.declared.event.Event.{Event}
use Rattle.pg_server.specs.declared.input.Input.{Input}
use Rattle.pg_server.specs.Local.{takes_effect}
use Rattle.pg_server.specs.pg_pieces.pg_house.Facts.{is_among}
use Rattle.pg_run.specs.Carried.{gone_in}
use Rattle.pg_run.specs.Took.{Take, held, is_held, without_gone}
use Rattle.pg_run.specs.Took.Taker.{Itself}
use Rattle.pg_run.specs.Took.Take.{Began, TookFlag, TookPlace, TookVersion}
use Rattle.pg_run.specs.Run.{Step, Taking, World, effect_step, next, run_from, start, taking_in, took_after, world_after}
use Rattle.pg_run.specs.Came.{Brings, CameFrom, Leaves, NoneLeaves, TakesWhatCame, all_brought}
use Rattle.pg_run.proofs.Knowing.{Tells}
use Rattle.pg_run.proofs.Bringing.{gained_at, kept_at, told_at}
use Rattle.pg_run.proofs.Frame.{IsFramed, framed}
use Rattle.pg_run.proofs.Gone.{Is, Keeps, Loses, begun_kept, begun_lost, version_kept, version_lost}

-- ---- the test whether a thing is among some

or_cases : (s t : Bool) → s || t ≡ true → (s ≡ true) ⊎ (t ≡ true)
or_cases true t h = inl refl
or_cases false t h = inr h

or_later : (s t : Bool) → t ≡ true → s || t ≡ true
or_later true t h = refl
or_later false t h = h

true_among : (file : FileId) (fs : List FileId) → is_among file fs ≡ true → Among file fs
true_among file [] h = absurd (let z : false ≡ true = h in cc)
true_among file (f ∷ fs) h = elim (or_cases (is_same_file f file) (is_among file fs) h) [
  | inl same ↦ inl (sym (is_same_file-true f file same))
  | inr later ↦ inr (true_among file fs later)
]

among_true : (file : FileId) (fs : List FileId) → Among file fs → is_among file fs ≡ true
among_true file [] k = absurd k
among_true file (f ∷ fs) k = elim k [
  | inl same ↦ ap (λ t. t || is_among file fs) (ap (λ (g : FileId). is_same_file g file) (sym same) ∙ is_same_file-refl file)
  | inr later ↦ or_later (is_same_file f file) (is_among file fs) (among_true file fs later)
]

-- ---- one event

module _ (n s : ℕ) where
  -- what a server took in a step in which this is taken, or nothing
  abbrev TookBy : World → Option Taking → Step → Type 0
  TookBy w None step = step.took s ≡ w.took s
  TookBy w (Some t) step =
      ((s ≡ t.server) × (step.took s ≡ took_after (w.stores t.server) (w.asked t.server) (w.took t.server) t.asked))
      ⊎ ((s ≢ t.server) × (step.took s ≡ w.took s))

  by_effect : (w : World) (event : Event) (server : ℕ) (asked : Input)
      → TookBy w (Some (record { server = server; asked = asked })) (effect_step w event server asked)
  by_effect w event server asked = here w.took server (took_after (w.stores server) (w.asked server) (w.took server) asked) s

  by_frame : (w : World) (event : Event) (o : Option Taking) (step : Step) → IsFramed n w event o step → TookBy w o step
  by_frame w event None step f = ap (λ (z : Step). z.took s) f.1
  by_frame w event (Some t) step f =
      subst (TookBy w (Some t)) (sym f.1) (by_effect w event t.server t.asked)

  by_event : (w : World) (event : Event) → TookBy w (taking_in n w event) (next n w event)
  by_event w event = by_frame w event (taking_in n w event) (next n w event) (framed n w event)

  module _ (Of : FileId → Type 0) (u : Take) where
    abbrev Told : List Take → Type 0
    Told takes = Tells takes u

    brings_here : (w : World) (event : Event) (t : Taking) → taking_in n w event ≡ Some t → s ≡ t.server
        → takes_effect (w.stores t.server) t.asked ≡ true → Told (all_brought (w.stores t.server) (w.asked t.server) t.asked) → Brings n w event s Told
    brings_here w event t h same going told = record {
      asked = t.asked;
      takes = h ∙ ap (λ (k : ℕ). Some (record { server = k; asked = t.asked })) (sym same);
      going = subst (λ (k : ℕ). takes_effect (w.stores k) t.asked ≡ true) (sym same) going;
      holds = subst (λ (k : ℕ). Told (all_brought (w.stores k) (w.asked k) t.asked)) (sym same) told;
    }

    -- ---- it was told before, and the replica stays

    -- what is left at the server that takes an input
    abbrev LeftAt : World → Taking → List Take
    LeftAt w t = without_gone (gone_in (w.stores t.server) t.asked) (w.took t.server)

    none_takes : (w : World) (event : Event) → taking_in n w event ≡ None → ¬ (Leaves n w event s Of)
    none_takes w event h l = absurd (none-some _ (sym h ∙ l.takes))

    other_takes : (w : World) (event : Event) (t : Taking) → taking_in n w event ≡ Some t → s ≢ t.server
        → ¬ (Leaves n w event s Of)
    other_takes w event t h other l =
        other (sym (ap (λ (x : Taking). x.server) (same_Some t (record { server = s; asked = l.asked }) (sym h ∙ l.takes))))

    stays_there : Loses Of u → (w : World) (event : Event) (t : Taking) → taking_in n w event ≡ Some t
        → (takes_effect (w.stores t.server) t.asked ≡ true → Told (LeftAt w t)) → ¬ (Leaves n w event s Of)
    stays_there loses w event t h left l =
        let same : t ≡ record { server = s; asked = l.asked } = same_Some t _ (sym h ∙ l.takes) in
        let going : takes_effect (w.stores t.server) t.asked ≡ true =
        ap (λ (x : Taking). takes_effect (w.stores x.server) x.asked) same ∙ l.going in
        let gone : gone_in (w.stores t.server) t.asked ≡ Some l.file =
        ap (λ (x : Taking). gone_in (w.stores x.server) x.asked) same ∙ l.gone in
        loses l.file l.of (w.took t.server)
        (subst (λ (o : Option FileId). Told (without_gone o (w.took t.server))) gone (left going))

    told_by : Loses Of u → (w : World) (event : Event) (o : Option Taking) (step : Step) → taking_in n w event ≡ o → TookBy w o step
        → Told (step.took s) → (Told (w.took s) × ¬ (Leaves n w event s Of)) ⊎ Brings n w event s Told
    told_by loses w event None step h took told = inl (subst Told took told, none_takes w event h)
    told_by loses w event (Some t) step h took told = elim took [
      | inl at ↦ (
          let r = told_at (w.stores t.server) (w.asked t.server) (w.took t.server) t.asked u (takes_effect (w.stores t.server) t.asked) refl (subst Told at.1 told) in
          elim r [
            | inl old ↦ inl (subst (λ (k : ℕ). Told (w.took k)) (sym at.0) old.0, stays_there loses w event t h old.1)
            | inr new ↦ inr (brings_here w event t h at.0 new.0 new.1)
          ])
      | inr other ↦ inl (subst Told other.1 told, other_takes w event t h other.0)
    ]

    -- ---- and so it is told then

    leaves_here : (w : World) (event : Event) (t : Taking) → taking_in n w event ≡ Some t → s ≡ t.server
        → takes_effect (w.stores t.server) t.asked ≡ true → (file : FileId) → gone_in (w.stores t.server) t.asked ≡ Some file
        → Of file → Leaves n w event s Of
    leaves_here w event t h same going file gone of = record {
      asked = t.asked;
      takes = h ∙ ap (λ (k : ℕ). Some (record { server = k; asked = t.asked })) (sym same);
      going = subst (λ (k : ℕ). takes_effect (w.stores k) t.asked ≡ true) (sym same) going;
      file = file;
      gone = subst (λ (k : ℕ). gone_in (w.stores k) t.asked ≡ Some file) (sym same) gone;
      of = of;
    }

    left_by : Keeps Of u → (takes : List Take) (o : Option FileId) → ((file : FileId) → o ≡ Some file → ¬ (Of file)) → Told takes
        → Told (without_gone o takes)
    left_by keeps takes None others told = told
    left_by keeps takes (Some file) others told = keeps file (others file refl) takes told

    kept_by : Keeps Of u → (w : World) (event : Event) (o : Option Taking) (step : Step) → taking_in n w event ≡ o → TookBy w o step
        → Told (w.took s) → ¬ (Leaves n w event s Of) → Told (step.took s)
    kept_by keeps w event None step h took told stays = subst Told (sym took) told
    kept_by keeps w event (Some t) step h took told stays = elim took [
      | inl at ↦ (
          let there : Told (w.took t.server) = subst (λ (k : ℕ). Told (w.took k)) at.0 told in
          subst Told (sym at.1)
          (kept_at (w.stores t.server) (w.asked t.server) (w.took t.server) t.asked u (takes_effect (w.stores t.server) t.asked) refl there
          (λ going. left_by keeps (w.took t.server) (gone_in (w.stores t.server) t.asked)
          (λ file gone of. stays (leaves_here w event t h at.0 going file gone of)) there)))
      | inr other ↦ subst Told (sym other.1) told
    ]

    gained_by : (w : World) (event : Event) (step : Step) → TookBy w (taking_in n w event) step → (b : Brings n w event s Told) → Told (step.took s)
    gained_by w event step took b =
        let took_here : TookBy w (Some (record { server = s; asked = b.asked })) step = subst (λ (o : Option Taking). TookBy w o step) b.takes took in
        elim took_here [
          | inl at ↦ subst Told (sym at.1) (gained_at (w.stores s) (w.asked s) (w.took s) b.asked u (takes_effect (w.stores s) b.asked) b.going b.holds)
          | inr other ↦ absurd (other.0 refl)
        ]

    -- ---- any events

    abbrev Since : World → List Event → List Take → Type 0
    Since w events takes = (Told takes × NoneLeaves n w events s Of) ⊎ CameFrom n w events s Of Told

    -- one event more before these
    told_first : Loses Of u → (event : Event) (events : List Event) (w : World)
        → Since (world_after w (next n w event)) events ((next n w event).took s) → Since w (event ∷ events) (w.took s)
    told_first loses event events w since = elim since [
      | inl at ↦ elim (told_by loses w event (taking_in n w event) (next n w event) refl (by_event w event) at.0) [
        | inl old ↦ inl (old.0, (old.1, at.1))
        | inr new ↦ inr (inl (new, at.1))
      ]
      | inr later ↦ inr (inr later)
    ]

    came_from : Loses Of u → (events : List Event) (w : World) → Told ((run_from n w events).took s) → Since w events (w.took s)
    came_from loses [] w told = inl (told, tt)
    came_from loses (event ∷ events) w told =
        told_first loses event events w (came_from loses events (world_after w (next n w event)) told)

    first_told : Keeps Of u → (event : Event) (events : List Event) (w : World) → Told (w.took s) → ¬ (Leaves n w event s Of)
        → NoneLeaves n (world_after w (next n w event)) events s Of
        → Since (world_after w (next n w event)) events ((next n w event).took s)
    first_told keeps event events w old stays none =
        inl (kept_by keeps w event (taking_in n w event) (next n w event) refl (by_event w event) old stays, none)

    first_brings : (event : Event) (events : List Event) (w : World) → Brings n w event s Told
        → NoneLeaves n (world_after w (next n w event)) events s Of
        → Since (world_after w (next n w event)) events ((next n w event).took s)
    first_brings event events w now none = inl (gained_by w event (next n w event) (by_event w event) now, none)

    since_next : Keeps Of u → (event : Event) (events : List Event) (w : World) → Since w (event ∷ events) (w.took s)
        → Since (world_after w (next n w event)) events ((next n w event).took s)
    since_next keeps event events w (inl (old, (stays, none))) = first_told keeps event events w old stays none
    since_next keeps event events w (inr (inl (now, none))) = first_brings event events w now none
    since_next keeps event events w (inr (inr later)) = inr later

    from_came : Keeps Of u → (events : List Event) (w : World) → Since w events (w.took s) → Told ((run_from n w events).took s)
    from_came keeps [] w since = elim since [ inl old ↦ old.0 | inr none ↦ absurd none ]
    from_came keeps (event ∷ events) w since =
        from_came keeps events (world_after w (next n w event)) (since_next keeps event events w since)

-- ---- what is held, as a test

module _ (n s : ℕ) (file : FileId) where
  abbrev IsHeldIn : List Take → Type 0
  IsHeldIn takes = is_held file takes ≡ true

  abbrev Begun : List Take → Type 0
  Begun takes = Tells takes (Began file)

  held_told : (takes : List Take) → IsHeldIn takes → Begun takes
  held_told takes h = true_among file (held takes) h

  told_held : (takes : List Take) → Begun takes → IsHeldIn takes
  told_held takes k = among_true file (held takes) k

  -- what each brings, said in another way
  module _ (P Q : List Take → Type 0) (so : (takes : List Take) → P takes → Q takes) where
    brings_so : (w : World) (event : Event) → Brings n w event s P → Brings n w event s Q
    brings_so w event b = record { asked = b.asked; takes = b.takes; going = b.going; holds = so (all_brought (w.stores s) (w.asked s) b.asked) b.holds }

    from_so : (w : World) (events : List Event) → CameFrom n w events s (Is file) P → CameFrom n w events s (Is file) Q
    from_so w [] k = k
    from_so w (event ∷ events) (inl (now, none)) = inl (brings_so w event now, none)
    from_so w (event ∷ events) (inr later) = inr (from_so (world_after w (next n w event)) events later)

    since_so : (events : List Event) → (P ((start n).took s) × NoneLeaves n (start n) events s (Is file)) ⊎ CameFrom n (start n) events s (Is file) P
        → (Q ((start n).took s) × NoneLeaves n (start n) events s (Is file)) ⊎ CameFrom n (start n) events s (Is file) Q
    since_so events k = elim k [
      | inl old ↦ inl (so ((start n).took s) old.0, old.1)
      | inr came ↦ inr (from_so (start n) events came)
    ]

  began : (events : List Event) → IsHeldIn ((run_from n (start n) events).took s)
      → (IsHeldIn ((start n).took s) × NoneLeaves n (start n) events s (Is file)) ⊎ CameFrom n (start n) events s (Is file) IsHeldIn
  began events h =
      since_so Begun IsHeldIn told_held events
      (came_from n s (Is file) (Began file) (begun_lost file) events (start n) (held_told ((run_from n (start n) events).took s) h))

  from_begun : (events : List Event) → (IsHeldIn ((start n).took s) × NoneLeaves n (start n) events s (Is file)) ⊎ CameFrom n (start n) events s (Is file) IsHeldIn
      → IsHeldIn ((run_from n (start n) events).took s)
  from_begun events h =
      told_held ((run_from n (start n) events).took s)
      (from_came n s (Is file) (Began file) (begun_kept file) events (start n) (since_so IsHeldIn Begun held_told events h))

-- whatever goes, and as long as nothing does
abbrev Nothing : FileId → Type 0
Nothing file = ⊥

abbrev Any : FileId → Type 0
Any file = Unit {0}

pub takes_what_came : (n : ℕ) → TakesWhatCame n
takes_what_came n events s = record {
  began = λ file. (began n s file events, from_begun n s file events);
  places = λ thing place.
      came_from n s Nothing (TookPlace Itself thing place) (λ file of takes told. absurd of) events (start n);
  places_kept = λ thing place.
      from_came n s Any (TookPlace Itself thing place) (λ file none takes told. absurd (none tt)) events (start n);
  flags = λ thing flag.
      came_from n s Nothing (TookFlag Itself thing flag) (λ file of takes told. absurd of) events (start n);
  flags_kept = λ thing flag.
      from_came n s Any (TookFlag Itself thing flag) (λ file none takes told. absurd (none tt)) events (start n);
  versions = λ file stamp. (
    came_from n s (Is file) (TookVersion file stamp) (version_lost file stamp) events (start n),
    from_came n s (Is file) (TookVersion file stamp) (version_kept file stamp) events (start n),
  );
}
