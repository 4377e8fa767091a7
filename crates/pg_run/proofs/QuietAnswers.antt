-- A world is told to be quiet exactly where it is.
use Rattle.std.proofs.Common.{[], ℕ, ◌≡◌, ◌≤◌, ◌==◌, Bool, true, false, cond, List, ◌∷◌, ◌++◌, length, map, refl, sym, ap, ◌∙◌, inl, inr, ◌⊎◌, arith, zero, suc, eq-eqb}
use Rattle.std.proofs.lemmas.Bool.{cases_lt, eqb-true}
use Rattle.pg_server.specs.pg_pieces.pg_msg.declared.message.Sent.{Sent}
use Rattle.pg_server.specs.pg_pieces.pg_msg.Sent.{summary}
use Rattle.pg_event.specs.declared.quiet.Cause.{Cause}
use Rattle.pg_event.specs.declared.quiet.Cause.TheVariants.{Message, Owed, View}
use Rattle.pg_event.specs.declared.quiet.Quiet.TheVariants.{Quiet}
use Rattle.pg_server.specs.Owing.{owed}
use Rattle.pg_server.specs.pg_pieces.pg_store.Seen.{view_of}
use Rattle.pg_run.specs.Journal.{bag, removals}
use Rattle.pg_run.specs.Run.{World, is_live}
use Rattle.pg_run.specs.Quiet.{IsQuiet, causes, first_of, lag, of_live, quiet_of}
use Rattle.pg_run.specs.Laws.{QuietIsTold}
use Rattle.pg_run.proofs.Frame.{live_is}

-- ---- lists

pub both_empty : {A : Type 0} (xs ys : List A) → xs ++ ys ≡ [] → (xs ≡ []) × (ys ≡ [])
both_empty [] ys h = (refl, h)
both_empty (x ∷ xs) ys h = cc

pub map_empty : {A B : Type 0} (f : A → B) (xs : List A) → map f xs ≡ [] → xs ≡ []
map_empty f [] h = refl
map_empty f (x ∷ xs) h = cc

-- ---- what the live servers of the first give

pub at_or_below : (k s : ℕ) → s ≤ suc k → (s ≡ suc k) ⊎ (s ≤ k)
at_or_below k s h = elim (cases_lt k s) [ inl more ↦ inl (omega arith) | inr less ↦ inr less ]

module _ {A : Type 0} (n : ℕ) (w : World) (of : ℕ → List A) where
  given : (t : Bool) (xs : List A) → t ≡ true → cond t xs [] ≡ [] → xs ≡ []
  given true xs e h = h
  given false xs e h = absurd (let z : false ≡ true = e in cc)

  pub live_below : (k s : ℕ) → of_live n w of k ≡ [] → is_live n w s ≡ true → 1 ≤ s → s ≤ k → of s ≡ []
  live_below zero s h live least most = absurd (omega arith)
  live_below (suc k) s h live least most =
      let parts = both_empty (of_live n w of k) (cond (is_live n w (suc k)) (of (suc k)) []) h in
      elim (at_or_below k s most) [
        | inl last ↦ ap of last
            ∙ given (is_live n w (suc k)) (of (suc k)) (ap (is_live n w) (sym last) ∙ live) parts.1
        | inr less ↦ live_below k s parts.0 live least less
      ]

  not_given : (k : ℕ) → (is_live n w k ≡ true → of k ≡ []) → (t : Bool) → is_live n w k ≡ t
      → cond t (of k) [] ≡ []
  not_given k h true e = h e
  not_given k h false e = refl

  pub none_live : (k : ℕ) → ((s : ℕ) → is_live n w s ≡ true → of s ≡ []) → of_live n w of k ≡ []
  none_live zero h = refl
  none_live (suc k) h =
      ap (λ (os : List A). os ++ cond (is_live n w (suc k)) (of (suc k)) []) (none_live k h)
      ∙ not_given (suc k) (h (suc k)) (is_live n w (suc k)) refl

  -- of each live server
  pub live_none : of_live n w of n ≡ [] → (s : ℕ) → is_live n w s ≡ true → of s ≡ []
  live_none h s live = let is = live_is n w s live in live_below n s h live is.least is.most

-- ---- views

lags_not : (v l : ℕ) (c : Cause) (t : Bool) → (v == l) ≡ t → cond t [] (c ∷ []) ≡ [] → v ≡ l
lags_not v l c true e h = eqb-true v l e
lags_not v l c false e h = cc

pub view_last : (w : World) (s : ℕ) → lag w s ≡ [] → view_of (w.stores s) ≡ length (removals w.journal)
view_last w s h =
    let v = view_of (w.stores s) in
    let l = length (removals w.journal) in
    lags_not v l (View s v) (v == l) refl h

pub no_lag : (w : World) (s : ℕ) → view_of (w.stores s) ≡ length (removals w.journal) → lag w s ≡ []
no_lag w s h =
    let v = view_of (w.stores s) in
    ap (λ (t : Bool). cond t [] (View s v ∷ [])) (eq-eqb v (length (removals w.journal)) h)

-- ---- the answer

none_first : (causes : List Cause) → first_of causes ≡ Quiet → causes ≡ []
none_first [] h = refl
none_first (c ∷ cs) h = cc

abbrev Owing : World → ℕ → List Cause
Owing w s = map Owed (owed (w.stores s))

told_quiet : (n : ℕ) (w : World) → quiet_of n w ≡ Quiet → IsQuiet n w
told_quiet n w h =
    let none = none_first (causes n w) h in
    let messages = map (λ (m : Sent). Message (summary m)) (bag w.journal) in
    let lags = of_live n w (lag w) n in
    let owing = of_live n w (Owing w) n in
    let parts = both_empty messages (lags ++ owing) none in
    let rest = both_empty lags owing parts.1 in
    record {
      silent = map_empty (λ (m : Sent). Message (summary m)) (bag w.journal) parts.0;
      views = λ s live. view_last w s (live_none n w (lag w) rest.0 s live);
      nothing = λ s live. map_empty Owed (owed (w.stores s)) (live_none n w (Owing w) rest.1 s live);
    }

quiet_told : (n : ℕ) (w : World) → IsQuiet n w → quiet_of n w ≡ Quiet
quiet_told n w q =
    let lags = of_live n w (lag w) n in
    let owing = of_live n w (Owing w) n in
    ap (λ (ms : List Sent). first_of (map (λ m. Message (summary m)) ms ++ (lags ++ owing))) q.silent
    ∙ ap (λ (cs : List Cause). first_of (cs ++ owing))
    (none_live n w (lag w) n (λ s live. no_lag w s (q.views s live)))
    ∙ ap first_of (none_live n w (Owing w) n (λ s live. ap (map Owed) (q.nothing s live)))

pub quiet_is_told : QuietIsTold
quiet_is_told n w = (told_quiet n w, quiet_told n w)
