-- Behind any input what a server notes agrees with whom it asked.
use Rattle.std.proofs.Common.{ℕ, ◌≡◌, ◌⊎◌, ◌++◌, ◌||◌, Bool, true, false, cond, List, [], ◌∷◌, drop, length, Option, None, Some, inl, inr, refl, sym, ap, subst, ◌∙◌}
use Rattle.std.proofs.lemmas.Bool.{and_from, false≢true, or_right}
use Rattle.pg_run.specs.pg_base.declared.head.Head.{Head}
use Rattle.pg_run.specs.pg_base.declared.id.FileId.{FileId}
use Rattle.pg_run.specs.pg_base.declared.policy.Policy.{Policy}
use Rattle.pg_run.specs.pg_base.declared.stamp.Stamp.{Stamp}
use Rattle.pg_run.proofs.pg_names.Lookups.{apart_back}
use Rattle.pg_run.specs.pg_content.Content.{Among}
use Rattle.pg_run.specs.pg_content.History.{IsHistory, Made}
use Rattle.pg_run.specs.pg_msg.declared.message.Message.{Message}
use Rattle.pg_run.specs.pg_msg.declared.message.Message.TheVariants as message
use Rattle.pg_run.specs.pg_msg.Work.{new_work}
use Rattle.pg_run.specs.Asked.{asked_behind, ends_asking, ends_with, goes as is_gone}
use Rattle.pg_run.specs.Asking.{Asked, last_wanted}
use Rattle.pg_run.specs.Carried.{gone_by, gone_in}
use Rattle.pg_run.specs.Journal.{Born, made_for, made_of, with_ancestors}
use Rattle.pg_run.specs.Passed.{passed, passed_with}
use Rattle.pg_run.specs.Run.{brought, made_behind, removed_then, took_after, took_first}
use Rattle.pg_run.specs.Took.{Take, stamps_taken, without_gone}
use Rattle.pg_run.specs.pg_server.declared.input.Input.{Input}
use Rattle.pg_run.specs.pg_server.declared.input.Input.TheVariants as input
use Rattle.pg_run.specs.pg_server.Local.{Effect, closed, effect, finished, first_effect, is_heard, receive, reply_to, takes_effect}
use Rattle.pg_run.specs.pg_store.declared.store.Store.{Store}
use Rattle.pg_run.specs.pg_pieces.Done.{Done, idle}
use Rattle.pg_run.specs.theory_bodies.Asked.{AreAgreed, AskStep, Asking, asking_of}
use Rattle.pg_run.specs.theory_bodies.Book.{IsHeadOf}
use Rattle.pg_run.specs.theory_bodies.Protocol.{Note}
use Rattle.pg_run.proofs.theory_bodies.Agreeing.{agreed}
use Rattle.pg_run.proofs.theory_flood_pieces.Choices.{chosen}
use Rattle.law_contents.proofs.Agreed.{Agrees}
use Rattle.law_contents.proofs.AsksInputs.{CarriesInput, first_step}
use Rattle.law_contents.proofs.Changes.{Keeps}
use Rattle.law_contents.proofs.Covered.{covered_taken}
use Rattle.law_contents.proofs.Ends.{closed_ends, finished_ends}
use Rattle.law_contents.proofs.Going.{came_left, came_without}
use Rattle.law_contents.proofs.Goings.{Over, Step, step_keeps, step_on}
use Rattle.law_contents.proofs.Histories.{AreMade, IsNextUpdate, by_file, last_history, later_head, one_more_made}
use Rattle.law_contents.proofs.NotesCome.{noted_of}
use Rattle.law_contents.proofs.Rules.{AreNames}
use Rattle.law_contents.proofs.Servers.{Came, IsServer, Stands, came_of}
use Rattle.law_contents.proofs.Sets.{IsWithin, taken_within, within_taken}
use Rattle.law_contents.proofs.Takes.{stamps_after}
use Rattle.law_contents.proofs.Wantless.{AreOther, last_first, last_same, received_other}

-- the same versions, or one more
abbrev pub MayGrow : List Born → List Born → Type 0
MayGrow us vs = (vs ≡ us) ⊎ ((u : Born) × (vs ≡ u ∷ us) × IsNextUpdate us u)

-- ---- the end of an event

module _ (a : Store) (asked : Input) where
  abbrev First : Done
  First = first_effect a asked

  abbrev Whole : Effect
  Whole = effect a asked

  pub end_keeps : Keeps First.store Whole.store
  end_keeps =
      chosen (λ (x : Effect). Keeps First.store x.store) (takes_effect a asked)
      (closed (reply_to a asked) First) (finished (reply_to a asked) First)
      (closed_ends First.store First.work (reply_to a asked)).keeps
      (finished_ends First.store First.work (reply_to a asked)).keeps

  names_behind : AreNames (made_behind a asked)
  names_behind =
      chosen (λ (x : Effect). AreNames (drop (length First.work.made) x.out.made))
      (takes_effect a asked) (closed (reply_to a asked) First) (finished (reply_to a asked) First)
      (closed_ends First.store First.work (reply_to a asked)).behind
      (finished_ends First.store First.work (reply_to a asked)).behind

-- ---- what came stays, where the replica does not go

stays_behind : (xs ys : List Stamp) (x : Stamp) → Among x ys → Among x (xs ++ ys)
stays_behind [] ys x l = l
stays_behind (y ∷ xs) ys x l = inr (stays_behind xs ys x l)

left_by : (o : Option FileId) (f : FileId) (came : Came) → is_gone f o ≡ false
    → came_without o came f ≡ came f
left_by None f came e = refl
left_by (Some g) f came e = ap (λ z. cond z [] (came f)) (apart_back g f e)

module _ (a : Store) (wants : Asked) (before : List Take) (asked : Input) (f : FileId) where
  abbrev Gone : Option FileId
  Gone = gone_in a asked

  abbrev Then : Bool → List Take
  Then going = cond going (passed_with (removed_then a asked)
      (passed (removed_then a asked) (took_first a wants before asked)) (made_behind a asked)) before

  came_by : (going : Bool) → (going ≡ true → is_gone f Gone ≡ false) → (x : Stamp)
      → Among x (stamps_taken f before) → Among x (stamps_taken f (Then going))
  came_by false stays x l = l
  came_by true stays x l =
      let more = stamps_taken f (brought a wants asked) in
      let left : stamps_taken f (without_gone Gone before) ≡ stamps_taken f before =
      came_left Gone before f ∙ left_by Gone f (came_of before) (stays refl) in
      subst (Among x) (sym (stamps_after f (removed_then a asked) (brought a wants asked)
      (without_gone Gone before) (made_behind a asked) (names_behind a asked)))
      (stays_behind more (stamps_taken f (without_gone Gone before)) x (subst (Among x) (sym left) l))

  pub came_stays : (takes_effect a asked ≡ true → is_gone f Gone ≡ false) → (x : Stamp)
      → Among x (came_of before f) → Among x (came_of (took_after a wants before asked) f)
  came_stays stays x l = came_by (takes_effect a asked) stays x l

-- ---- versions, or one more

module _ (us vs : List Born) (made : AreMade us) (grow : MayGrow us vs) where
  pub made_then : AreMade vs
  made_then = elim grow [
    | inl same ↦ subst AreMade (sym same) made
    | inr more ↦ subst AreMade (sym more.1) (one_more_made more.0 us made more.2)
  ]

  -- a fact on histories that outlives one version more
  grown : (P : FileId → List Made → Type 0)
      → ((f : FileId) (m : Made) (h : List Made) → IsHistory (m ∷ h) → P f h → P f (m ∷ h))
      → ((f : FileId) → P f (made_for f us)) → (f : FileId) → P f (made_for f vs)
  grown P later here = elim grow [
    | inl same ↦ subst (λ (xs : List Born). (f : FileId) → P f (made_for f xs)) (sym same) here
    | inr more ↦ (
        let u = more.0 in
        subst (λ (xs : List Born). (f : FileId) → P f (made_for f xs)) (sym more.1)
        (by_file P u us (later u.made.file (made_of u) (made_for u.made.file us)
        (last_history u us made more.2) (here u.made.file)) here))
  ]

  grown_head : (policy : Policy) (f : FileId) (head : Head) → IsHeadOf policy (made_for f us) head
      → IsHeadOf policy (made_for f vs) head
  grown_head policy f head is =
      grown (λ g h. (x : Head) → IsHeadOf policy (made_for g us) x → IsHeadOf policy h x)
      (λ g m h history old x of. later_head policy m h history x (old x of)) (λ g x of. of) f head is

  grown_within : (f : FileId) (set new : List Stamp) → ((t : Stamp) → Among t set → Among t new)
      → (t : Stamp) → IsWithin (made_for f us) set t → IsWithin (made_for f vs) new t
  grown_within f set new more t w =
      grown (λ g h. (x : Stamp) → IsWithin (made_for g us) set x → IsWithin h new x)
      (λ g m h history old x of. let z = old x of in
      (z.0, z.1, elim z.2 [ inl itself ↦ inl itself | inr further ↦ inr (inr further) ]))
      (λ g x of. (of.0, more of.0 of.1, of.2)) f t w

-- ---- a replica goes

none_some : (x : Asking) → None ≡ Some x → ⊥
none_some x e = cc

none_note : (x : Note) → None ≡ Some x → ⊥
none_note x e = cc

same_note : (x y : Note) → Some x ≡ Some y → x ≡ y
same_note x y e = cc

-- nobody is asked: no note asks anybody
agreed_none : (Was Is : Type 0) (was now : Option Asking) (before behind : Option Note) → now ≡ None
    → AskStep Is was now before behind → AreAgreed Was was before → AreAgreed Is now behind
agreed_none Was Is was now before behind none step k = record {
  noted = λ n e some. elim step [
    | inl wanted ↦ absurd (none_some (asking_of wanted.note) (sym none ∙ wanted.asked))
    | inr one ↦ elim one [
      | inl released ↦ absurd (some (released.lost n e))
      | inr two ↦ elim two [
        | inl covered ↦ absurd (none_note n (sym covered.ended ∙ e))
        | inr idle ↦ absurd (none_some (asking_of n)
            (sym none ∙ idle.asked ∙ k.noted n (sym idle.note ∙ e) some))
      ]
    ]
  ];
  asks = λ t e. absurd (none_some t (sym none ∙ e));
}

module _ (a : Store) (wants : Asked) (f : FileId) (t : Stamp) where
  gone_other : (from : ℕ) (m : Message) → is_gone f (gone_by a from m) ≡ true
      → AreOther (receive a m (new_work 0 from)).work.sent
  gone_other from (message.LeaveOk ends stamp) h = received_other a from (message.LeaveOk ends stamp) tt
  gone_other from m h = absurd (false≢true h)

  -- the replica goes: nobody is asked any more
  none_asked : (asked : Input) → is_gone f (gone_in a asked) ≡ true → takes_effect a asked ≡ true
      → asked_behind a wants asked f t ≡ None
  none_asked (input.Call moment c) leaves takes = absurd (false≢true leaves)
  none_asked (input.Tick moment word) leaves takes = absurd (false≢true leaves)
  none_asked input.Restart leaves takes = absurd (false≢true leaves)
  none_asked (input.Arrival packet) leaves heard =
      let asked = input.Arrival packet in
      let m = packet.message in
      let was = wants f t in
      let ends_it : ends_asking a asked f t was ≡ true =
      and_from (is_heard a packet)
      (ends_with a packet.from m f t was || is_gone f (gone_by a packet.from m)) heard
      (or_right (ends_with a packet.from m f t was) (is_gone f (gone_by a packet.from m)) leaves) in
      let work = new_work 0 packet.from in
      let first : (first_effect a asked).work.sent ≡ (receive a m work).work.sent =
      ap (λ (z : Bool). (cond z (receive a m work) (idle a work)).work.sent) heard in
      last_first a asked f t (cond (ends_asking a asked f t was) None was)
      ∙ ap (λ ms. last_wanted f t ms (cond (ends_asking a asked f t was) None was)) first
      ∙ last_same f t (receive a m work).work.sent (cond (ends_asking a asked f t was) None was)
      (gone_other packet.from m leaves)
      ∙ ap (λ z. cond z None was) ends_it

-- ---- BEHIND ANY INPUT

module _ {s : ℕ} {a : Store} {us : List Born} {p : FileId → Policy} {N : FileId → Type 0}
    (before : List Take) (k : IsServer s a us p N (came_of before)) (wants : Asked)
    (agrees : Agrees a us (came_of before) wants) (asked : Input) (h : CarriesInput us p N asked)
    (vs : List Born) (q : FileId → Policy) (grow : MayGrow us vs)
    (stands : Stands s (effect a asked).store vs q (came_of (took_after a wants before asked))) where
  abbrev e : Store
  e = (effect a asked).store

  abbrev came_then : Came
  came_then = came_of (took_after a wants before asked)

  module _ (f : FileId) (t : Stamp) where
    abbrev Was : Type 0
    Was = Among t (with_ancestors (made_for f us) (came_of before f))

    abbrev Is : Type 0
    Is = Among t (with_ancestors (made_for f vs) (came_then f))

    abbrev now : Option Asking
    now = asked_behind a wants asked f t

    history : IsHistory (made_for f vs)
    history = (made_then us vs k.made grow).histories f

    over_taken : Over a e f t → Is
    over_taken over =
        let note = k.stands.notes f t over.0 over.1 in
        let head = grown_head us vs k.made grow (p f) f over.0.head note.head in
        subst (λ (x : Stamp). Among x (with_ancestors (made_for f vs) (came_then f))) note.at
        (covered_taken history (stands.files f) (p f) over.0.head head over.2)

    step : AskStep Is (wants f t) now (noted_of a.announced f t) (noted_of e.announced f t)
    step =
        let base = cond (ends_asking a asked f t (wants f t)) None (wants f t) in
        let first = first_step k wants agrees f t asked h (end_keeps a asked) in
        let d = first_effect a asked in
        let P : Option Asking → Type 0 = (λ o. Step a e f t (wants f t) o) in
        step_on (Over a e f t) Is over_taken (wants f t) now (noted_of a.announced f t)
        (noted_of e.announced f t)
        (subst P (sym (last_first a asked f t base))
        (step_keeps a d.store e (end_keeps a asked) f t (wants f t)
        (last_wanted f t d.work.sent base) first))

    taken_on : (takes_effect a asked ≡ true → is_gone f (gone_in a asked) ≡ false) → Was → Is
    taken_on stays l =
        within_taken (made_for f vs) history (came_then f) (stands.known f) t
        (grown_within us vs k.made grow f (came_of before f) (came_then f)
        (came_stays a wants before asked f stays) t
        (taken_within (made_for f us) (came_of before f) t l))

    by_going : (gone going : Bool) → is_gone f (gone_in a asked) ≡ gone → takes_effect a asked ≡ going
        → AreAgreed Is now (noted_of e.announced f t)
    by_going false going stays takes =
        agreed Was Is (taken_on (λ effect_. stays)) (wants f t) now (noted_of a.announced f t)
        (noted_of e.announced f t) (agrees f t) step
    by_going true false leaves none =
        agreed Was Is (taken_on (λ takes. absurd (false≢true (sym none ∙ takes)))) (wants f t) now
        (noted_of a.announced f t) (noted_of e.announced f t) (agrees f t) step
    by_going true true leaves takes =
        agreed_none Was Is (wants f t) now (noted_of a.announced f t) (noted_of e.announced f t)
        (none_asked a wants f t asked leaves takes) step (agrees f t)

  pub agrees_behind : Agrees e vs came_then (asked_behind a wants asked)
  agrees_behind f t = by_going f t (is_gone f (gone_in a asked)) (takes_effect a asked) refl refl
