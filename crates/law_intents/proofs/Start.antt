-- At the start nothing seeks: each server's replica of the root is gold, and has an edge to each
-- other one.
use Rattle.std.proofs.Common.{ℕ, zero, suc, ◌≡◌, ◌≤◌, ◌<◌, ◌==◌, ◌&&◌, ◌||◌, ◌⊎◌, Bool, true, false, cond, not, is_some, List, [], ◌∷◌, Option, None, Some, All, inl, inr, refl, sym, ap, subst, ◌∙◌, arith}
use Rattle.std.specs.List.{list_any}
use Rattle.std.proofs.lemmas.Bool.{eqb-true}
use Rattle.std.proofs.lemmas.Bool.Decides.{nat_tests}
use Rattle.std.proofs.lemmas.List.Elements.{All-head, All-nil, All-tail}
use Rattle.law_frame.specs.pg_run.pg_base.declared.id.FileId.{FileId}
use Rattle.law_frame.specs.pg_run.pg_base.Id.{is_same_file}
use Rattle.law_frame.proofs.pg_run.pg_base.Orders.{is_same_file-true}
use Rattle.law_frame.specs.pg_run.pg_edges.declared.edge.Edge.{Edge}
use Rattle.law_frame.specs.pg_run.pg_edges.Edges.{is_listed}
use Rattle.law_frame.specs.pg_run.pg_register.declared.flag.Flag.{Flag}
use Rattle.law_frame.specs.pg_run.pg_register.Flag.{flag_of, is_live, is_raised_with, newest}
use Rattle.law_frame.specs.pg_run.pg_register.Place.{root}
use Rattle.law_frame.proofs.pg_run.pg_register.ByServer.{flag_of-join_flag}
use Rattle.law_frame.specs.pg_run.pg_replica.Root.{clean_edges}
use Rattle.law_frame.specs.pg_run.pg_store.declared.store.Store.{Store}
use Rattle.law_frame.specs.pg_run.pg_store.Start.{first_flag, first_flags}
use Rattle.law_frame.specs.pg_run.pg_store.Store.{new_store}
use Rattle.law_frame.specs.pg_run.pg_pieces.Golds.{is_gold}
use Rattle.law_frame.specs.pg_run.pg_intentions.Seeks.{has_gold_apart, has_gold_edge, is_apart, is_seeking}
use Rattle.law_frame.proofs.pg_run.theory_flood_pieces.Listed.{listed_first, none_least}
use Rattle.law_frame.proofs.pg_run.theory_flood_pieces.Start.{Root}
use Rattle.law_order.proofs.FlagsSay.{all_join}

-- ---- flags

record IsFirst (n : ℕ) (flag : Flag) : Type 0 where
  pub least : 1 ≤ flag.server
  pub most : flag.server ≤ n
  pub birth : flag.birth ≡ 1

fits : (k n : ℕ) → suc k ≤ n → (1 ≤ suc k) × (k ≤ n)
fits k n h = (omega arith, omega arith)

each_first : (n k : ℕ) → k ≤ n → All (IsFirst n) (first_flags k)
each_first n zero h = All-nil (IsFirst n)
each_first n (suc k) h =
    all_join (IsFirst n) (first_flags k) (first_flag (suc k)) (record { least = (fits k n h).0; most = h; birth = refl }) (each_first n k (fits k n h).1)

before : (s k : ℕ) → suc k < s → ((suc k == s) ≡ false) × (k < s)
before s k h = (grind (arith, nat_tests), omega arith)

none_later : (k s : ℕ) → k < s → flag_of (first_flags k) s ≡ None
none_later zero s h = refl
none_later (suc k) s h =
    let b = before s k h in
    flag_of-join_flag (first_flag (suc k)) (first_flags k) s
    ∙ ap (λ (t : Bool). cond t (newest (flag_of (first_flags k) s) (Some (first_flag (suc k)))) (flag_of (first_flags k) s)) b.0
    ∙ none_later k s b.1

above : (k s : ℕ) → suc k ≡ s → k < s
above k s e = omega (arith, e)

other : (s j k : ℕ) → j ≡ suc k → s ≤ j → (j == s) ≡ false → s ≤ k
other s j k is le apart = grind (arith, nat_tests)

flag_by : (k s : ℕ) (t : Bool) → (suc k == s) ≡ t → s ≤ suc k → (s ≤ k → flag_of (first_flags k) s ≡ Some (first_flag s))
    → cond t (newest (flag_of (first_flags k) s) (Some (first_flag (suc k)))) (flag_of (first_flags k) s) ≡ Some (first_flag s)
flag_by k s true same le rest =
    let is : suc k ≡ s = eqb-true (suc k) s same in
    ap (λ (o : Option Flag). newest o (Some (first_flag (suc k)))) (none_later k s (above k s is)) ∙ ap (λ (m : ℕ). Some (first_flag m)) is
flag_by k s false apart le rest = rest (other s (suc k) k refl le apart)

flag_first : (k s : ℕ) → 1 ≤ s → s ≤ k → flag_of (first_flags k) s ≡ Some (first_flag s)
flag_first zero s least le = absurd (none_least s least le)
flag_first (suc k) s least le =
    flag_of-join_flag (first_flag (suc k)) (first_flags k) s ∙ flag_by k s (suc k == s) refl le (λ less. flag_first k s least less)

-- ---- the root

module _ (n s : ℕ) where
  abbrev Start : Store
  Start = new_store n s

  abbrev Edges : List Edge
  Edges = clean_edges s n

  reached : (live same listed : Bool) → (same ≡ true) ⊎ (listed ≡ true) → ((live && not same) && not listed) ≡ false
  reached true true listed h = refl
  reached true false true h = refl
  reached true false false (inl h) = sym h
  reached true false false (inr h) = sym h
  reached false same listed h = refl

  to_each : (flag : Flag) → IsFirst n flag → (t : Bool) → (flag.server == s) ≡ t → (t ≡ true) ⊎ (is_listed Edges flag.server flag.birth ≡ true)
  to_each flag k true same = inl refl
  to_each flag k false apart =
      inr (ap (λ (b : ℕ). is_listed Edges flag.server b) k.birth ∙ listed_first s n flag.server k.least k.most apart)

  one_reached : (flag : Flag) → IsFirst n flag → is_apart s [] Edges flag ≡ false
  one_reached flag k =
      reached (is_live [] flag) (flag.server == s) (is_listed Edges flag.server flag.birth) (to_each flag k (flag.server == s) refl)

  all_reached : (flags : List Flag) → All (IsFirst n) flags → list_any (is_apart s [] Edges) flags ≡ false
  all_reached [] all = refl
  all_reached (f ∷ fs) all =
      ap (λ (t : Bool). t || list_any (is_apart s [] Edges) fs) (one_reached f (All-head (IsFirst n) f fs all))
      ∙ all_reached fs (All-tail (IsFirst n) f fs all)

  itself : n ≤ n
  itself = omega arith

  none_apart : has_gold_apart Start root ≡ false
  none_apart = all_reached (first_flags n) (each_first n n itself)

  root_seeks : 1 ≤ s → s ≤ n → is_seeking Start root ≡ false
  root_seeks least most =
      ap (λ (o : Option Flag). cond (is_raised_with o 1) (has_gold_apart Start root) (not (has_gold_edge Start root))) (flag_first n s least most) ∙ none_apart

  by : (file : FileId) (t : Bool) → is_same_file file root ≡ t → 1 ≤ s → s ≤ n → is_seeking Start file ≡ false
  by file true same least most = subst (λ (f : FileId). is_seeking Start f ≡ false) (sym (is_same_file-true file root same)) (root_seeks least most)
  by file false apart least most =
      ap (λ (t : Bool). is_some (cond t (Some (Root n)) None) && cond (is_gold Start file) (has_gold_apart Start file) (not (has_gold_edge Start file))) apart

  -- NOTHING SEEKS
  pub none_seeks : 1 ≤ s → s ≤ n → (file : FileId) → is_seeking Start file ≡ false
  none_seeks least most file = by file (is_same_file file root) refl least most
