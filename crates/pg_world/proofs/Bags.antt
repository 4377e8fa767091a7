-- The messages that go to the bag, and those that leave it, where servers are removed.
use Rattle.std.proofs.Common.{ℕ, ◌≡◌, ◌==◌, ◌++◌, ◌∙◌, not, Bool, true, false, cond, Option, None, Some, List, [], ◌∷◌, slice_get, remove, sym, ap}
use Rattle.std.proofs.lemmas.List.{append-nil, append_assoc}
use Rattle.pg_msg.specs.declared.message.Sent.{Sent}
use Rattle.pg_register.specs.Flag.{is_removed}
use Rattle.pg_run.specs.Journal.{to_live, without_to}
use Rattle.pg_world.specs.Stands.{unless_removed, unless_to}

-- ---- what is sent

-- one message more, behind what is done
module _ (removed : List ℕ) (before behind : List Sent) (x : Sent) (rest all : List Sent) where
  pub one_sent : behind ≡ before ++ unless_removed removed x → before ++ to_live removed (x ∷ rest) ≡ all
      → behind ++ to_live removed rest ≡ all
  one_sent is whole = by (is_removed removed x.to) is whole
    where
      by : (t : Bool) → behind ≡ before ++ cond t [] (x ∷ []) → before ++ cond (not t) (x ∷ to_live removed rest) (to_live removed rest) ≡ all
          → behind ++ to_live removed rest ≡ all
      by true is whole = ap (λ ms. ms ++ to_live removed rest) (is ∙ append-nil before) ∙ whole
      by false is whole =
          ap (λ ms. ms ++ to_live removed rest) is ∙ append_assoc before (x ∷ []) (to_live removed rest) ∙ whole

-- ---- what leaves the bag

module _ (server : ℕ) where
  same_sent : (x y : Sent) → ◌≡◌ {A = Option Sent} (Some x) (Some y) → y ≡ x
  same_sent x y e = cc

  out_by : (y : Sent) (ys left new all : List Sent) (t : Bool) → new ≡ left ++ cond t [] (y ∷ [])
      → left ++ cond (not t) (y ∷ without_to server ys) (without_to server ys) ≡ all → new ++ without_to server ys ≡ all
  out_by y ys left new all true is whole = ap (λ ms. ms ++ without_to server ys) (is ∙ append-nil left) ∙ whole
  out_by y ys left new all false is whole =
      ap (λ ms. ms ++ without_to server ys) is ∙ append_assoc left (y ∷ []) (without_to server ys) ∙ whole

  -- the first message leaves it
  pub one_out : (bag : List Sent) (x : Sent) (left new all : List Sent) → Some x ≡ slice_get bag 0 → new ≡ left ++ unless_to server x
      → left ++ without_to server bag ≡ all → new ++ without_to server (remove bag 0) ≡ all
  one_out [] x left new all there is whole = absurd (let e : ◌≡◌ {A = Option Sent} (Some x) None = there in cc)
  one_out (y ∷ ys) x left new all there is whole =
      out_by y ys left new all (y.to == server) (is ∙ ap (λ (m : Sent). left ++ unless_to server m) (sym (same_sent x y there))) whole

  -- none is left
  pub all_out : (bag left all : List Sent) → None ≡ slice_get bag 0 → left ++ without_to server bag ≡ all → left ≡ all
  all_out [] left all none whole = sym (append-nil left) ∙ whole
  all_out (y ∷ ys) left all none whole = absurd (let e : ◌≡◌ {A = Option Sent} None (Some y) = none in cc)
