-- Why a thing was not kept: from one quiet moment to the next no gold replica stayed. What is asked
-- of a run for this is a few words, each of which is computed in one walk over its events.
use Rattle.std.proofs.Common.{ℕ, ◌≡◌, ◌≤◌, ◌||◌, ◌&&◌, zero, suc, Bool, true, false, List, [], ◌∷◌, ◌++◌, append_assoc, refl, sym, ap, subst, ◌∙◌, inl, inr, arith}
use Rattle.std.proofs.lemmas.Bool.{and_from, and_parts, false≢true, or_parts}
use Rattle.std.proofs.lemmas.List.{append-nil}
use Rattle.pg_run.specs.pg_base.declared.id.FileId.{FileId}
use Rattle.pg_run.specs.pg_event.declared.event.Event.{Event}
use Rattle.pg_run.specs.pg_event.declared.quiet.Quiet.{Quiet}
use Rattle.pg_run.specs.pg_event.declared.quiet.Quiet.TheVariants as quiet
use Rattle.pg_run.specs.pg_pieces.Golds.{is_gold}
use Rattle.pg_run.specs.Quiet.{quiet_of}
use Rattle.pg_run.specs.Run.{World, is_live, next, run, run_from, start, world_after}
use Rattle.pg_run.proofs.Frame.{live_is}
use Rattle.pg_run.proofs.QuietAnswers.{at_or_below, quiet_is_told}
use Rattle.law_repair.specs.Kept.{AreNeighbours, IsGoldAt, IsKept, IsMoment, StaysGold, is_held_by}

-- ---- what is computed

abbrev is_waiting : Quiet → Bool
is_waiting quiet.Quiet = false
is_waiting (quiet.Waits cause) = true

-- the run waits for something
abbrev pub waits : ℕ → World → Bool
waits n w = is_waiting (quiet_of n w)

-- so it does from this world on, but behind the last of the events
abbrev pub waits_on : ℕ → World → List Event → Bool
waits_on n w [] = true
waits_on n w (e ∷ more) = waits n w && waits_on n (world_after w (next n w e)) more

-- of the first so many servers one was gold, and is live later
abbrev pub some_stays : ℕ → World → World → FileId → ℕ → Bool
some_stays n first last file zero = false
some_stays n first last file (suc k) = (is_live n last (suc k) && is_gold (first.stores (suc k)) file) || some_stays n first last file k

-- ---- what it says

pub quiet_by : (q : Quiet) → is_waiting q ≡ false → q ≡ quiet.Quiet
quiet_by quiet.Quiet h = refl
quiet_by (quiet.Waits cause) h = absurd (false≢true (sym h))

waits_between : (n : ℕ) (w : World) (all before : List Event) (f : Event) (behind : List Event) → waits_on n w all ≡ true
    → all ≡ before ++ f ∷ behind → waits n (run_from n w before) ≡ true
waits_between n w [] [] f behind h is = cc
waits_between n w [] (x ∷ xs) f behind h is = cc
waits_between n w (e ∷ more) [] f behind h is = (and_parts (waits n w) (waits_on n (world_after w (next n w e)) more) h).0
waits_between n w (e ∷ more) (x ∷ xs) f behind h is =
    let same : e ≡ x = cc in
    let rest : more ≡ xs ++ f ∷ behind = cc in
    let next_one = (and_parts (waits n w) (waits_on n (world_after w (next n w e)) more) h).1 in
    subst (λ y. waits n (run_from n w (y ∷ xs)) ≡ true) same
    (waits_between n (world_after w (next n w e)) more xs f behind next_one rest)

none_stays : (n : ℕ) (first last : World) (file : FileId) (k : ℕ) → some_stays n first last file k ≡ false → (s : ℕ) → 1 ≤ s → s ≤ k
    → is_live n last s ≡ true → is_gold (first.stores s) file ≡ true → ⊥
none_stays n first last file zero h s least most live gold = absurd (omega arith)
none_stays n first last file (suc k) h s least most live gold =
    let parts = or_parts (is_live n last (suc k) && is_gold (first.stores (suc k)) file) (some_stays n first last file k) h in
    elim (at_or_below k s most) [
      | inl it ↦
          let both = and_from (is_live n last s) (is_gold (first.stores s) file) live gold in
          false≢true (sym parts.0 ∙ ap (λ i. is_live n last i && is_gold (first.stores i) file) (sym it) ∙ both)
      | inr less ↦ none_stays n first last file k parts.1 s least less live gold
    ]

run_on : (n : ℕ) (w : World) (xs ys : List Event) → run_from n w (xs ++ ys) ≡ run_from n (run_from n w xs) ys
run_on n w [] ys = refl
run_on n w (x ∷ xs) ys = run_on n (world_after w (next n w x)) xs ys

-- ---- so it was not kept

-- it was held behind the first of these events, all is quiet behind the next ones, then no more
-- until behind the last ones; and who was gold at that quiet moment is not live at the next
module _ (n : ℕ) (file : FileId) (made : List Event) (d : Event) (heard : List Event) (e : Event) (more : List Event) where
  abbrev First : List Event
  First = made ++ d ∷ heard

  abbrev Then : World
  Then = world_after (run n First) (next n (run n First) e)

  module _ (was : is_held_by (run n made) file n ≡ true) (still : waits n (run n First) ≡ false)
      (waiting : waits_on n Then more ≡ true) (again : waits n (run n (First ++ e ∷ more)) ≡ false)
      (none : some_stays n (run n First) (run n (First ++ e ∷ more)) file n ≡ false) where
    moment : (events behind : List Event) → events ≡ made ++ behind → waits n (run n events) ≡ false → IsMoment n file events
    moment events behind split none_waits = inr (record {
      quiet = (quiet_is_told n (run n events)).0 (quiet_by (quiet_of n (run n events)) none_waits);
      before = made;
      behind = behind;
      split = split;
      held = was;
    })

    no_moment : (events xs : List Event) → events ≡ made ++ d ∷ xs → waits n (run n events) ≡ true → IsMoment n file events → ⊥
    no_moment events xs split waits_then (inl created) = false≢true (sym (created.new made d xs split) ∙ was)
    no_moment events xs split waits_then (inr behind) =
        let told = (quiet_is_told n (run n events)).1 behind.quiet in
        false≢true (sym (ap is_waiting told) ∙ waits_then)

    near : AreNeighbours n file First (e ∷ more)
    near = record {
      begin = moment First (d ∷ heard) refl still;
      end = moment (First ++ e ∷ more) ((d ∷ heard) ++ e ∷ more) (append_assoc made (d ∷ heard) (e ∷ more)) again;
      between = λ g f before behind is.
          let same : e ≡ g = cc in
          let rest : more ≡ before ++ f ∷ behind = cc in
          let here = ap (waits n) (run_on n (start n) First (e ∷ before)) ∙ waits_between n Then more before f behind waiting rest in
          no_moment (First ++ g ∷ before) (heard ++ g ∷ before) (append_assoc made (d ∷ heard) (g ∷ before))
          (subst (λ y. waits n (run n (First ++ y ∷ before)) ≡ true) same here);
    }

    pub not_kept : (behind : List Event) → IsKept n file ((First ++ e ∷ more) ++ behind) → ⊥
    not_kept behind kept =
        let stays : StaysGold n file First (e ∷ more) = kept First e more behind refl near in
        let first : IsGoldAt n (run n First) file stays.server stays.birth
        = subst (λ es. IsGoldAt n (run n es) file stays.server stays.birth) (append-nil First) (stays.gold [] (e ∷ more) refl) in
        let last : IsGoldAt n (run n (First ++ e ∷ more)) file stays.server stays.birth
        = stays.gold (e ∷ more) [] (sym (append-nil (e ∷ more))) in
        let i = live_is n (run n (First ++ e ∷ more)) stays.server last.live in
        none_stays n (run n First) (run n (First ++ e ∷ more)) file n none stays.server i.least i.most last.live first.gold
