-- Who takes an input is removed in nobody's view; and what is removed in a server's view stays so.
use Rattle.std.proofs.Common.{ℕ, ◌≡◌, ◌≤◌, ◌||◌, ◌==◌, Bool, true, false, zero, suc, List, [], ◌∷◌, ◌++◌, Some, refl, sym, ap, subst, ◌∙◌, arith}
use Rattle.std.specs.Prelude.{nat_le, take}
use Rattle.std.proofs.lemmas.Bool.{false≢true, leb-false, leb-true}
use Rattle.pg_run.specs.pg_event.declared.event.Event.{Event}
use Rattle.pg_run.specs.pg_register.Flag.{is_removed}
use Rattle.pg_run.specs.pg_store.declared.store.Store.{Store}
use Rattle.pg_run.specs.pg_store.Seen.{removed_of, view_of}
use Rattle.pg_run.specs.pg_store.Store.{new_store}
use Rattle.pg_run.specs.Journal.{removals}
use Rattle.pg_run.specs.Laws.{store_after}
use Rattle.pg_run.specs.Run.{Taking, World, run, taking_in}
use Rattle.pg_run.proofs.Frame.{Acts, OutlivesEvents, acts_is, holds_in_runs, no_server_comes, other_after}
use Rattle.law_leaving.specs.Premises.{StandOn}

-- ---- fronts

or_on : (t u v : Bool) → (u ≡ true → v ≡ true) → (t || u) ≡ true → (t || v) ≡ true
or_on true u v on h = refl
or_on false u v on h = on h

-- who is among the first ones is among all
in_front : (k : ℕ) (removed : List ℕ) (s : ℕ) → is_removed (take k removed) s ≡ true → is_removed removed s ≡ true
in_front zero removed s h = absurd (false≢true h)
in_front (suc k) [] s h = absurd (false≢true h)
in_front (suc k) (x ∷ removed) s h =
    or_on (x == s) (is_removed (take k removed) s) (is_removed removed s) (in_front k removed s) h

-- ---- numbers of no server

module _ (n k : ℕ) (away : 1 ≤ k → k ≤ n → ⊥) where
  abbrev IsUntouched : World → Type 0
  IsUntouched w = w.stores k ≡ new_store n k

  other : (w : World) (t : Taking) → Acts n w t → k ≡ t.server → ⊥
  other w t acts same =
      away (subst (λ z. 1 ≤ z) (sym same) acts.least) (subst (λ z. z ≤ n) (sym same) acts.most)

  untouched : OutlivesEvents n IsUntouched
  untouched = record {
    first = refl;
    idle = λ w event cause h. h;
    comes = λ past event server is h. absurd (no_server_comes event server is);
    acts = λ events event t is acts h.
        other_after (run n events).stores t.server _ k (other (run n events) t acts) ∙ h;
  }

  none_there : (events : List Event) (s : ℕ) → is_removed (removed_of (store_after n events k)) s ≡ false
  none_there events s =
      ap (λ (a : Store). is_removed (removed_of a) s) (holds_in_runs n IsUntouched untouched events)

-- ---- who takes an input

module _ (n : ℕ) (on : StandOn n) (events : List Event) (event : Event) (t : Taking)
    (is : taking_in n (run n events) event ≡ Some t) where
  abbrev W : World
  W = run n events

  acts : Acts n W t
  acts = acts_is n W event t is

  in_view : (k : ℕ) → 1 ≤ k → k ≤ n → is_removed (removed_of (store_after n events k)) t.server ≡ true → ⊥
  in_view k least most h =
      let a = store_after n events k in
      let front = (on.views events k least most).front in
      let there : is_removed (take (view_of a) (removals W.journal)) t.server ≡ true =
      ap (λ (r : List ℕ). is_removed r t.server) front ∙ h in
      false≢true (sym acts.live ∙ in_front (view_of a) (removals W.journal) t.server there)

  outside : (k : ℕ) → (1 ≤ k → k ≤ n → ⊥) → is_removed (removed_of (store_after n events k)) t.server ≡ true → ⊥
  outside k away h = false≢true (sym (none_there n k away events t.server) ∙ h)

  by : (k : ℕ) (u v : Bool) → nat_le 1 k ≡ u → nat_le k n ≡ v
      → is_removed (removed_of (store_after n events k)) t.server ≡ true → ⊥
  by k false v one two h =
      let less = leb-false 1 k one in
      outside k (λ least most. omega arith) h
  by k true false one two h =
      let more = leb-false k n two in
      outside k (λ least most. omega arith) h
  by k true true one two h = in_view k (leb-true 1 k one) (leb-true k n two) h

  pub unremoved : (k : ℕ) → is_removed (removed_of (store_after n events k)) t.server ≡ true → ⊥
  unremoved k h = by k (nat_le 1 k) (nat_le k n) refl refl h

  pub stays_removed : (u : ℕ) → is_removed (removed_of (store_after n events t.server)) u ≡ true
      → is_removed (removed_of (store_after n (events ++ event ∷ []) t.server)) u ≡ true
  stays_removed u h = on.lasting events (event ∷ []) t.server acts.least acts.most u h
