-- What a world is told to wait for is the first of its causes.
use Rattle.std.proofs.Common.{ℕ, zero, suc, ◌≡◌, ◌≢◌, ◌≤◌, ◌<◌, ◌==◌, Bool, true, false, cond, List, [], ◌∷◌, ◌++◌, length, map, Some, refl, sym, ap, subst, ◌∙◌, inl, inr, arith, eq-eqb}
use Rattle.std.specs.Prelude.{slice_get}
use Rattle.std.proofs.lemmas.Bool.{eqb-true}
use Rattle.std.proofs.lemmas.Option.{none-some, same_Some}
use Rattle.law_frame.specs.pg_run.pg_event.declared.quiet.Cause.{Cause}
use Rattle.law_frame.specs.pg_run.pg_event.declared.quiet.Cause.TheVariants.{Message, Owed, View}
use Rattle.law_frame.specs.pg_run.pg_event.declared.quiet.Owing.{Owing}
use Rattle.law_frame.specs.pg_run.pg_event.declared.quiet.Quiet.TheVariants.{Quiet, Waits}
use Rattle.law_frame.specs.pg_run.pg_msg.declared.message.Sent.{Sent}
use Rattle.law_frame.specs.pg_run.pg_msg.Sent.{summary}
use Rattle.law_frame.specs.pg_run.pg_server.Owing.{owed}
use Rattle.law_frame.specs.pg_run.pg_store.Seen.{view_of}
use Rattle.law_frame.proofs.pg_run.theory_flood_pieces.Choices.{decided}
use Rattle.law_frame.specs.pg_run.Journal.{bag, removals}
use Rattle.law_frame.specs.pg_run.Quiet.{causes, first_of, lag, of_live}
use Rattle.law_frame.specs.pg_run.Run.{World, is_live}
use Rattle.law_frame.proofs.pg_run.Frame.{live_is}
use Rattle.law_frame.proofs.pg_run.QuietAnswers.{at_or_below, live_below, live_none, map_empty, no_lag, none_live, view_last}
use Rattle.law_ticks.specs.Laws.{FirstCauseIsTold, IsFirstCause, IsFirstOwed, IsFirstView}

-- ---- the first of what all live servers give

module _ {A : Type 0} (n : ℕ) (w : World) (of : ℕ → List A) where
  abbrev Upto : ℕ → List A
  Upto k = of_live n w of k

  abbrev Given : ℕ → List A
  Given k = cond (is_live n w k) (of k) []

  -- of the first k servers the least live one that gives something, and the first of it
  record IsFirstOf (k : ℕ) (x : A) : Type 0 where
    pub server : ℕ
    pub live : is_live n w server ≡ true
    pub most : server ≤ k
    pub first : slice_get (of server) 0 ≡ Some x
    pub before : (s : ℕ) → is_live n w s ≡ true → s < server → of s ≡ []

  one_more : (k : ℕ) (x : A) → IsFirstOf k x → IsFirstOf (suc k) x
  one_more k x f = record { server = f.server; live = f.live; most = (let m = f.most in omega arith); first = f.first; before = f.before }

  first_by : (k : ℕ) (x : A) (xs : List A) → Upto k ≡ xs → (t : Bool) → is_live n w (suc k) ≡ t
      → slice_get (xs ++ cond t (of (suc k)) []) 0 ≡ Some x → (slice_get xs 0 ≡ Some x → IsFirstOf k x) → IsFirstOf (suc k) x
  first_by k x [] e true live h rest = record {
    server = suc k;
    live = live;
    most = omega arith;
    first = h;
    before = λ s there less. live_below n w of k s e there (live_is n w s there).least (omega arith);
  }
  first_by k x [] e false live h rest = absurd (none-some x h)
  first_by k x (y ∷ ys) e t live h rest = one_more k x (rest h)

  first_of_live : (k : ℕ) (x : A) → slice_get (Upto k) 0 ≡ Some x → IsFirstOf k x
  first_of_live zero x h = absurd (none-some x h)
  first_of_live (suc k) x h = first_by k x (Upto k) refl (is_live n w (suc k)) refl h (first_of_live k x)

  -- and the other way round
  head_by : (xs ys : List A) (x : A) → slice_get xs 0 ≡ Some x → slice_get (xs ++ ys) 0 ≡ Some x
  head_by [] ys x h = absurd (none-some x h)
  head_by (z ∷ xs) ys x h = h

  none_before : (k l : ℕ) → k < l → ((s : ℕ) → is_live n w s ≡ true → s < l → of s ≡ []) → Upto k ≡ []
  none_before zero l less h = refl
  none_before (suc k) l less h =
      ap (λ (os : List A). os ++ Given (suc k)) (none_before k l (omega arith) h)
      ∙ decided (λ (os : List A). os ≡ []) (is_live n w (suc k)) (of (suc k)) [] (λ live. h (suc k) live less) (λ none. refl)

  live_first : (k : ℕ) (x : A) → IsFirstOf k x → slice_get (Upto k) 0 ≡ Some x
  live_first zero x f = absurd (let l = (live_is n w f.server f.live).least in let m = f.most in omega arith)
  live_first (suc k) x f = elim (at_or_below k f.server f.most) [
    | inl last ↦
        ap (λ (zs : List A). slice_get (zs ++ Given (suc k)) 0) (none_before k f.server (omega (arith, last)) f.before)
        ∙ ap (λ (t : Bool). slice_get (cond t (of (suc k)) []) 0) (ap (is_live n w) (sym last) ∙ f.live)
        ∙ ap (λ (s : ℕ). slice_get (of s) 0) (sym last) ∙ f.first
    | inr less ↦
        head_by (Upto k) (Given (suc k)) x
        (live_first k x (record { server = f.server; live = f.live; most = less; first = f.first; before = f.before }))
  ]

-- ---- what one server gives

module _ (w : World) where
  abbrev Last : ℕ
  Last = length (removals w.journal)

  abbrev Owes : ℕ → List Cause
  Owes s = map Owed (owed (w.stores s))

  -- a view that lags behind
  lag_by : (s v : ℕ) (cause : Cause) (t : Bool) → (v == Last) ≡ t → slice_get (cond t [] (View s v ∷ [])) 0 ≡ Some cause
      → (View s v ≡ cause) × (v ≢ Last)
  lag_by s v cause true e h = absurd (none-some cause h)
  lag_by s v cause false e h =
      (same_Some (View s v) cause h, λ same. let z : false ≡ true = sym e ∙ eq-eqb v Last same in cc)

  lag_is : (s : ℕ) (cause : Cause) → slice_get (lag w s) 0 ≡ Some cause
      → (View s (view_of (w.stores s)) ≡ cause) × (view_of (w.stores s) ≢ Last)
  lag_is s cause h = lag_by s (view_of (w.stores s)) cause (view_of (w.stores s) == Last) refl h

  lags_by : (s v : ℕ) → v ≢ Last → (t : Bool) → (v == Last) ≡ t → slice_get (cond t [] (View s v ∷ [])) 0 ≡ Some (View s v)
  lags_by s v apart true e = absurd (apart (eqb-true v Last e))
  lags_by s v apart false e = refl

  -- what is owed
  owed_by : (os : List Owing) (cause : Cause) → slice_get (map Owed os) 0 ≡ Some cause
      → (o : Owing) × (slice_get os 0 ≡ Some o) × (Owed o ≡ cause)
  owed_by [] cause h = absurd (none-some cause h)
  owed_by (o ∷ os) cause h = (o, refl, same_Some (Owed o) cause h)

  owes_by : (os : List Owing) (o : Owing) → slice_get os 0 ≡ Some o → slice_get (map Owed os) 0 ≡ Some (Owed o)
  owes_by [] o h = absurd (none-some o h)
  owes_by (x ∷ os) o h = ap (λ (z : Owing). Some (Owed z)) (same_Some x o h)

-- ---- the first cause

waits_for : (cs : List Cause) (cause : Cause) → first_of cs ≡ Waits cause → slice_get cs 0 ≡ Some cause
waits_for [] cause h = absurd (let z : Quiet ≡ Waits cause = h in cc)
waits_for (c ∷ cs) cause h = let same : c ≡ cause = cc in ap (λ (z : Cause). Some z) same

waits_so : (cs : List Cause) (cause : Cause) → slice_get cs 0 ≡ Some cause → first_of cs ≡ Waits cause
waits_so [] cause h = absurd (none-some cause h)
waits_so (c ∷ cs) cause h = ap (λ (z : Cause). Waits z) (same_Some c cause h)

module _ (n : ℕ) (w : World) where
  abbrev Is : Cause → Type 0
  Is cause = IsFirstCause n w cause

  abbrev Lags : List Cause
  Lags = of_live n w (lag w) n

  abbrev Owings : List Cause
  Owings = of_live n w (Owes w) n

  told_rest : (cause : Cause) (ls : List Cause) → Lags ≡ ls → bag w.journal ≡ [] → slice_get (ls ++ Owings) 0 ≡ Some cause → Is cause
  told_rest cause [] e none h =
      let f = first_of_live n w (Owes w) n cause h in
      let o = owed_by w (owed (w.stores f.server)) cause f.first in
      let first : IsFirstOwed n w o.0 = record {
        server = f.server;
        live = f.live;
        first = o.1;
        before = λ s live less. map_empty Owed (owed (w.stores s)) (f.before s live less);
      } in
      subst Is o.2 (none, (λ s live. view_last w s (live_none n w (lag w) e s live)), first)
  told_rest cause (l ∷ ls) e none h =
      let f = first_of_live n w (lag w) n cause (ap (λ (zs : List Cause). slice_get zs 0) e ∙ h) in
      let v = lag_is w f.server cause f.first in
      let first : IsFirstView n w f.server (view_of (w.stores f.server)) = record {
        live = f.live;
        is = refl;
        behind = v.1;
        before = λ s live less. view_last w s (f.before s live less);
      } in
      subst Is v.0 (none, first)

  told_first : (cause : Cause) (ms : List Sent) → bag w.journal ≡ ms
      → slice_get (map (λ m. Message (summary m)) ms ++ (Lags ++ Owings)) 0 ≡ Some cause → Is cause
  told_first cause [] e h = told_rest cause Lags refl e h
  told_first cause (m ∷ ms) e h =
      subst Is (same_Some (Message (summary m)) cause h)
      (record { message = m; first = ap (λ (zs : List Sent). slice_get zs 0) e; is = refl })

  -- and the other way round
  message_told : (ms : List Sent) (m : Sent) (rest : List Cause) → slice_get ms 0 ≡ Some m
      → slice_get (map (λ m. Message (summary m)) ms ++ rest) 0 ≡ Some (Message (summary m))
  message_told [] m rest h = absurd (none-some m h)
  message_told (x ∷ ms) m rest h = ap (λ (z : Sent). Some (Message (summary z))) (same_Some x m h)

  silent : bag w.journal ≡ [] → slice_get (causes n w) 0 ≡ slice_get (Lags ++ Owings) 0
  silent e = ap (λ (ms : List Sent). slice_get (map (λ m. Message (summary m)) ms ++ (Lags ++ Owings)) 0) e

  first_told : (cause : Cause) → Is cause → slice_get (causes n w) 0 ≡ Some cause
  first_told (Message told) f =
      message_told (bag w.journal) f.message (Lags ++ Owings) f.first ∙ ap (λ z. Some (Message z)) f.is
  first_told (View server view) f =
      let v = f.1 in
      let behind : view_of (w.stores server) ≢ length (removals w.journal) = λ same. v.behind (sym v.is ∙ same) in
      let lags = lags_by w server (view_of (w.stores server)) behind (view_of (w.stores server) == Last w) refl in
      silent f.0
      ∙ head_by n w (lag w) Lags Owings (View server view)
      (live_first n w (lag w) n (View server view) (record {
        server = server;
        live = v.live;
        most = (live_is n w server v.live).most;
        first = lags ∙ ap (λ (z : ℕ). Some (View server z)) v.is;
        before = λ s live less. no_lag w s (v.before s live less);
      }))
  first_told (Owed o) f =
      let g = f.2 in
      silent f.0
      ∙ ap (λ (ls : List Cause). slice_get (ls ++ Owings) 0) (none_live n w (lag w) n (λ s live. no_lag w s (f.1 s live)))
      ∙ live_first n w (Owes w) n (Owed o) (record {
        server = g.server;
        live = g.live;
        most = (live_is n w g.server g.live).most;
        first = owes_by w (owed (w.stores g.server)) o g.first;
        before = λ s live less. ap (map Owed) (g.before s live less);
      })

pub first_cause_is_told : FirstCauseIsTold
first_cause_is_told n w cause = (
  λ h. told_first n w cause (bag w.journal) refl (waits_for (causes n w) cause h),
  λ f. waits_so (causes n w) cause (first_told n w cause f),
)
