-- No message under way is to a removed server.
use Rattle.std.proofs.Common.{[], ℕ, ◌≡◌, ◌==◌, ◌||◌, Bool, true, false, cond, not, List, ◌∷◌, ◌++◌, Option, None, Some, refl, sym, ap, subst, ◌∙◌, All}
use Rattle.std.specs.Prelude.{filter}
use Rattle.std.proofs.lemmas.Bool.{eqb-true, false≢true, not-true}
use Rattle.std.proofs.lemmas.List.Elements.{All-append, All-cons, All-head, All-nil, All-tail}
use Rattle.pg_run.specs.pg_event.declared.entry.Entry.{Entry}
use Rattle.pg_run.specs.pg_event.declared.entry.VoidCause.{VoidCause}
use Rattle.pg_run.specs.pg_event.declared.event.Event.{Event}
use Rattle.pg_run.specs.pg_event.declared.event.Event.TheVariants.{Call, Tick, Deliver, Lose, Repeat, Restart, Remove}
use Rattle.pg_run.specs.pg_msg.declared.message.Sent.{Sent}
use Rattle.pg_run.specs.pg_register.Flag.{is_removed}
use Rattle.pg_run.specs.Journal.{bag, bag_after, bag_behind, message_at, removals, removed_in, to_live}
use Rattle.pg_run.specs.Run.{run}
use Rattle.pg_run.proofs.Bags.{at_message, left_copied, left_without}
use Rattle.law_rests.specs.Rests.{NoneIsUnderWayToRemoved}

-- ---- lists

module _ {A : Type 0} (Q P : A → Type 0) (test : A → Bool)
    (both : (x : A) → test x ≡ true → Q x → P x) where
  one_more : (x : A) (rest : List A) (t : Bool) → test x ≡ t → Q x → All P rest
      → All P (cond t (x ∷ rest) rest)
  one_more x rest true is q all = All-cons P x rest (both x is q) all
  one_more x rest false is q all = all

  -- what is picked passes the test
  picked : (xs : List A) → All Q xs → All P (filter test xs)
  picked [] all = All-nil P
  picked (x ∷ xs) all =
      let rest = picked xs (All-tail Q x xs all) in
      one_more x (filter test xs) (test x) refl (All-head Q x xs all) rest

every : {A : Type 0} (xs : List A) → All (λ x. Unit {0}) xs
every xs = λ i d lt. tt

-- ---- removals

or_more : {b c : Bool} (a : Bool) → (b ≡ true → c ≡ true) → (a || b) ≡ true → (a || c) ≡ true
or_more true grows h = refl
or_more false grows h = grows h

or_none : {b c : Bool} (a : Bool) → (b ≡ false → c ≡ false) → (a || b) ≡ false → (a || c) ≡ false
or_none true stays h = h
or_none false stays h = stays h

-- a server that is removed stays so
pub still_removed : (removed more : List ℕ) (t : ℕ) → is_removed removed t ≡ true
    → is_removed (removed ++ more) t ≡ true
still_removed [] more t h = absurd (false≢true h)
still_removed (r ∷ removed) more t h = or_more (r == t) (still_removed removed more t) h

differs : (s t : ℕ) → not (t == s) ≡ true → (u : Bool) → (s == t) ≡ u → u ≡ false
differs s t apart false is = refl
differs s t apart true is =
    let same : s ≡ t = eqb-true s t is in
    let turned : (t == s) ≡ true = ap (λ k. k == s) (sym same) ∙ ap (λ k. s == k) same ∙ is in
    absurd (false≢true (sym (not-true (t == s) apart) ∙ turned))

-- one more is removed, and it is another
other_removed : (removed : List ℕ) (s t : ℕ) → (s == t) ≡ false → is_removed removed t ≡ false
    → is_removed (removed ++ s ∷ []) t ≡ false
other_removed [] s t apart h = ap (λ u. u || false) apart
other_removed (r ∷ removed) s t apart h = or_none (r == t) (other_removed removed s t apart) h

-- ---- one event

abbrev IsToLive : List ℕ → Sent → Type 0
IsToLive removed m = is_removed removed m.to ≡ false

module _ (removed : List ℕ) (ms : List Sent) (sent : List Sent)
    (old : All (IsToLive removed) ms) where
  live : All (IsToLive removed) (to_live removed sent)
  live =
      picked (λ m. Unit {0}) (IsToLive removed) (λ m. not (is_removed removed m.to))
      (λ m kept q. not-true (is_removed removed m.to) kept) sent (every sent)

  with_sent : All (IsToLive removed) (ms ++ to_live removed sent)
  with_sent = All-append (IsToLive removed) ms (to_live removed sent) old live

  left : (server : ℕ) (void : Option VoidCause)
      → All (IsToLive (removed_in (Remove server) void removed)) (bag_behind ms server void)
  left server None =
      picked (IsToLive removed) (IsToLive (removed ++ server ∷ [])) (λ m. not (m.to == server))
      (λ m kept q.
      let apart = differs server m.to kept (server == m.to) refl in
      other_removed removed server m.to apart q)
      ms old
  left server (Some cause) = old

  under_way : (event : Event) (void : Option VoidCause)
      → All (IsToLive (removed_in event void removed)) (bag_after removed ms event void sent)
  under_way (Call server moment call) void = with_sent
  under_way (Tick server moment word) void = with_sent
  under_way (Deliver number) void =
      All-append (IsToLive removed) _ (to_live removed sent)
      (left_without (IsToLive removed) ms number (message_at ms number) old) live
  under_way (Lose number) void =
      left_without (IsToLive removed) ms number (message_at ms number) old
  under_way (Repeat number) void =
      left_copied (IsToLive removed) ms (message_at ms number) old
      (λ m is. at_message (IsToLive removed) ms number m old is)
  under_way (Restart server) void = with_sent
  under_way (Remove server) void = left server void

-- ---- a journal

all_to_live : (journal : List Entry) → All (IsToLive (removals journal)) (bag journal)
all_to_live [] = All-nil (IsToLive [])
all_to_live (entry ∷ earlier) =
    let rest = all_to_live earlier in
    under_way (removals earlier) (bag earlier) entry.sent rest entry.event entry.void

pub none_to_removed : (n : ℕ) → NoneIsUnderWayToRemoved n
none_to_removed n events m there =
    let journal = (run n events).journal in
    subst (IsToLive (removals journal)) there.2 (all_to_live journal there.0 m there.1)
