-- Whether all is done, and what a run waits for first.
use Rattle.std.proofs.Common.{ℕ, ◌≡◌, ◌≤◌, ◌<◌, ◌+◌, ◌==◌, ◌++◌, Bool, true, false, cond, Option, None, Some, List, [], ◌∷◌, map, refl, sym, ap, subst, ◌∙◌, zero, suc, length, slice_get, arith, inl, inr}
use Rattle.std.proofs.lemmas.Bool.{cases_lt}
use Rattle.pg_msg.specs.declared.message.Sent.{Sent}
use Rattle.pg_msg.specs.Sent.{summary}
use Rattle.pg_event.specs.declared.quiet.Owing.{Owing}
use Rattle.pg_event.specs.declared.quiet.Cause.{Cause}
use Rattle.pg_event.specs.declared.quiet.Cause.TheVariants.{Message, Owed, View}
use Rattle.pg_event.specs.declared.quiet.Quiet.TheVariants.{Quiet, Waits}
use Rattle.pg_server.specs.Owing.{owed}
use Rattle.pg_store.specs.declared.store.Store.{Store}
use Rattle.pg_store.specs.Seen.{view_of}
use Rattle.pg_run.specs.Journal.{bag, removals}
use Rattle.pg_run.specs.Quiet.{first_of, lag, of_live, quiet_of}
use Rattle.pg_run.specs.Run.{World}
use Rattle.pg_world.specs.declared.machine.Machine.{Machine}
use Rattle.pg_world.specs.Stands.{Stands, lives, of_one}
use Rattle.pg_world.proofs.Standing.{live_so}

-- ---- the first that live servers give

first_there : {A : Type 0} (xs ys : List A) (o : A) → slice_get xs 0 ≡ Some o → slice_get (xs ++ ys) 0 ≡ Some o
first_there {A} [] ys o h = absurd (let e : ◌≡◌ {A = Option A} None (Some o) = h in cc)
first_there {A} (x ∷ xs) ys o h = h

-- where there is no first, there is none
pub none_there : {A : Type 0} (xs : List A) → slice_get xs 0 ≡ None → xs ≡ []
none_there {A} [] h = refl
none_there {A} (x ∷ xs) h = absurd (let e : ◌≡◌ {A = Option A} (Some x) None = h in cc)

module _ (n : ℕ) (w : World) (of : ℕ → List Cause) where
  -- the servers before give none, and this one gives this first: so it is the first of all
  pub first_live : (i k : ℕ) (c : Cause) → of_live n w of i ≡ [] → slice_get (of_one n w of (suc i)) 0 ≡ Some c → suc i ≤ k
      → slice_get (of_live n w of k) 0 ≡ Some c
  first_live i zero c none h le = absurd (omega arith)
  first_live i (suc m) c none h le = elim (cases_lt i m) [
    | inl lt ↦ first_there (of_live n w of m) (of_one n w of (suc m)) c (first_live i m c none h (omega arith))
    | inr ge ↦
        let same : i ≡ m = omega arith in
        let P : ℕ → Type 0 = λ k. slice_get (of_live n w of k ++ of_one n w of (suc k)) 0 ≡ Some c in
        subst P same (ap (λ xs. slice_get (xs ++ of_one n w of (suc i)) 0) none ∙ h)
  ]

  -- this one more gives none either
  pub none_live : (i k : ℕ) → k ≡ i + 1 → of_live n w of i ≡ [] → slice_get (of_one n w of k) 0 ≡ None → of_live n w of k ≡ []
  none_live i k is none h =
      let one : suc i ≡ k = omega (arith, is) in
      let P : ℕ → Type 0 = λ k. of_live n w of k ≡ [] in
      let Q : ℕ → Type 0 = λ k. slice_get (of_one n w of k) 0 ≡ None in
      subst P one
      (ap (λ xs. xs ++ of_one n w of (suc i)) none ∙ none_there (of_one n w of (suc i)) (subst Q (sym one) h))

  pub first_at : (i k m : ℕ) (c : Cause) → k ≡ i + 1 → of_live n w of i ≡ [] → Some c ≡ slice_get (of_one n w of k) 0 → k ≤ m
      → Some c ≡ slice_get (of_live n w of m) 0
  first_at i k m c is none h le =
      let one : suc i ≡ k = omega (arith, is) in
      let Q : ℕ → Type 0 = λ k. slice_get (of_one n w of k) 0 ≡ Some c in
      sym (first_live i m c none (subst Q (sym one) (sym h)) (omega (arith, one, le)))

  -- who is removed gives none, and who is live what it has
  pub dead_gives : (m : Machine) (server : ℕ) → Stands m w → lives n m.removed server ≡ false → None ≡ slice_get (of_one n w of server) 0
  dead_gives m server h away =
      ap (λ (t : Bool). slice_get (cond t (of server) []) 0) (sym away ∙ live_so m w n server h)

  pub live_gives : (m : Machine) (server : ℕ) (o : Option Cause) → Stands m w → lives n m.removed server ≡ true → o ≡ slice_get (of server) 0
      → o ≡ slice_get (of_one n w of server) 0
  live_gives m server o h live is =
      is ∙ ap (λ (t : Bool). slice_get (cond t (of server) []) 0) (sym live ∙ live_so m w n server h)

-- ---- what one gives

some_mapped : (os : List Owing) (x : Owing) → Some x ≡ slice_get os 0 → Some (Owed x) ≡ slice_get (map Owed os) 0
some_mapped [] x h = absurd (let e : ◌≡◌ {A = Option Owing} (Some x) None = h in cc)
some_mapped (y ∷ os) x h = let same : x ≡ y = cc in ap (λ (z : Owing). Some (Owed z)) same

none_mapped : (os : List Owing) → None ≡ slice_get os 0 → None ≡ slice_get (map Owed os) 0
none_mapped [] h = refl
none_mapped (y ∷ os) h = absurd (let e : ◌≡◌ {A = Option Owing} None (Some y) = h in cc)

-- what is owed first, or that nothing is
pub owed_some : (a b : Store) (x : Owing) → Some x ≡ slice_get (owed a) 0 → a ≡ b → Some (Owed x) ≡ slice_get (map Owed (owed b)) 0
owed_some a b x is same = some_mapped (owed b) x (is ∙ ap (λ (s : Store). slice_get (owed s) 0) same)

pub owed_none : (a b : Store) → None ≡ slice_get (owed a) 0 → a ≡ b → None ≡ slice_get (map Owed (owed b)) 0
owed_none a b is same = none_mapped (owed b) (is ∙ ap (λ (s : Store). slice_get (owed s) 0) same)

module _ (m : Machine) (w : World) (server view last : ℕ) (h : Stands m w) (is : view ≡ view_of (w.stores server)) (all : last ≡ length (removals w.journal)) where
  -- whether the view is the last
  same_test : (view == last) ≡ (view_of (w.stores server) == length (removals w.journal))
  same_test = ap (λ (k : ℕ). k == last) is ∙ ap (λ (k : ℕ). view_of (w.stores server) == k) all

  lag_by : (t : Bool) → (view == last) ≡ t → slice_get (lag w server) 0 ≡ slice_get (cond t [] (View server (view_of (w.stores server)) ∷ [])) 0
  lag_by t e =
      ap (λ (t : Bool). slice_get (cond t [] (View server (view_of (w.stores server)) ∷ [])) 0) (sym same_test ∙ e)

  pub lags_not : (view == last) ≡ true → None ≡ slice_get (lag w server) 0
  lags_not e = sym (lag_by true e)

  pub lags : (view == last) ≡ false → Some (View server view) ≡ slice_get (lag w server) 0
  lags e = ap (λ (k : ℕ). Some (View server k)) is ∙ sym (lag_by false e)

-- ---- whether all is done

-- a message is under way: the first of all is waited for
pub waits_message : (n : ℕ) (w : World) (ms : List Sent) (m : Sent) → ms ≡ bag w.journal → Some m ≡ slice_get ms 0
    → Waits (Message (summary m)) ≡ quiet_of n w
waits_message n w [] m e h = absurd (let f : ◌≡◌ {A = Option Sent} (Some m) None = h in cc)
waits_message n w (x ∷ ms) m e h =
    let same : m ≡ x = cc in
    ap (λ (z : Sent). Waits (Message (summary z))) same
    ∙ ap (λ (xs : List Sent). first_of (map (λ z. Message (summary z)) xs
    ++ (of_live n w (lag w) n ++ of_live n w (λ s. map Owed (owed (w.stores s))) n))) e

first_waits : (xs : List Cause) (c : Cause) → slice_get xs 0 ≡ Some c → first_of xs ≡ Waits c
first_waits [] c h = absurd (let e : ◌≡◌ {A = Option Cause} None (Some c) = h in cc)
first_waits (x ∷ xs) c h = let same : x ≡ c = cc in ap (λ (z : Cause). Waits z) same

module _ (n : ℕ) (w : World) (none : bag w.journal ≡ []) where
  no_message : quiet_of n w ≡ first_of (of_live n w (lag w) n ++ of_live n w (λ s. map Owed (owed (w.stores s))) n)
  no_message =
      ap (λ (ms : List Sent). first_of (map (λ m. Message (summary m)) ms
      ++ (of_live n w (lag w) n ++ of_live n w (λ s. map Owed (owed (w.stores s))) n))) none

  -- a view lags behind
  pub waits_view : (c : Cause) → Some c ≡ slice_get (of_live n w (lag w) n) 0 → Waits c ≡ quiet_of n w
  waits_view c h =
      sym (no_message ∙ first_waits (of_live n w (lag w) n ++ of_live n w (λ s. map Owed (owed (w.stores s))) n) c
      (first_there (of_live n w (lag w) n) (of_live n w (λ s. map Owed (owed (w.stores s))) n) c (sym h)))

  module _ (level : None ≡ slice_get (of_live n w (lag w) n) 0) where
    no_view : quiet_of n w ≡ first_of (of_live n w (λ s. map Owed (owed (w.stores s))) n)
    no_view =
        no_message ∙ ap (λ (cs : List Cause). first_of (cs ++ of_live n w (λ s. map Owed (owed (w.stores s))) n))
        (none_there (of_live n w (lag w) n) (sym level))

    -- this is owed first
    pub waits_for : (c : Cause) → Some c ≡ slice_get (of_live n w (λ s. map Owed (owed (w.stores s))) n) 0 → Waits c ≡ quiet_of n w
    waits_for c h = sym (no_view ∙ first_waits (of_live n w (λ s. map Owed (owed (w.stores s))) n) c (sym h))

    -- or nothing is
    pub waits_not : None ≡ slice_get (of_live n w (λ s. map Owed (owed (w.stores s))) n) 0 → Quiet ≡ quiet_of n w
    waits_not h =
        sym (no_view ∙ ap first_of (none_there (of_live n w (λ s. map Owed (owed (w.stores s))) n) (sym h)))
