-- A gold replica's own flag, and what others know of it: no flag of its birth is newer.
use Rattle.std.proofs.Common.{ℕ, ◌≡◌, ◌≤◌, ◌<◌, ◌==◌, ◌||◌, ◌&&◌, nat_lt, true, false, List, Option, None, Some, refl, sym, ap, subst, ◌∙◌, inl, inr, ◌⊎◌, arith}
use Rattle.std.specs.List.{IsAmong}
use Rattle.std.proofs.lemmas.Bool.{and_parts, eqb-true, false≢true}
use Rattle.std.proofs.lemmas.Bool.Decides.{nat_tests}
use Rattle.std.proofs.lemmas.Option.{none-some, same_Some}
use Rattle.pg_run.specs.pg_base.declared.id.FileId.{FileId}
use Rattle.pg_run.specs.pg_event.declared.event.Event.{Event}
use Rattle.pg_run.specs.pg_names.declared.attributes.Attributes.{Attributes}
use Rattle.pg_run.specs.pg_names.Names.{or_blank, own_at}
use Rattle.pg_run.specs.pg_register.declared.flag.Flag.{Flag}
use Rattle.pg_run.specs.pg_register.Flag.{flag_of, is_older, is_raised, is_raised_with}
use Rattle.pg_run.specs.pg_pieces.Golds.{flags_of, is_gold}
use Rattle.pg_run.specs.pg_store.declared.store.Store.{Store}
use Rattle.pg_run.specs.pg_store.Births.{birth_of}
use Rattle.pg_run.specs.pg_store.Store.{replica_at}
use Rattle.pg_run.specs.pg_store.Together.{IsOver, birth_at}
use Rattle.pg_run.specs.theory_flood_pieces.Whole.{IsWhole}
use Rattle.law_golds.proofs.law_births.Has.{born_of, tests_so}
use Rattle.law_golds.proofs.law_births.Here.{birth_is}
use Rattle.law_full.proofs.Clean.{among_of}
use Rattle.pg_run.specs.Births.{IsBirthAt, WasGivenOut}
use Rattle.pg_run.specs.Known.{IsFlagOf, IsOwnFlag, IsUpToOwn}
use Rattle.pg_run.specs.Run.{World, run}
use Rattle.pg_run.proofs.Found.{flag_found}
use Rattle.pg_run.proofs.Frame.{live_is}
use Rattle.pg_run.proofs.Lists.{among_contained}
use Rattle.law_repair.specs.Given.{StandOn}
use Rattle.law_repair.specs.Kept.{IsGoldAt}

-- what a store knows of a server's flag of a thing
abbrev pub flag_at : Store → FileId → ℕ → Option Flag
flag_at a file k = flag_of (flags_of a file) k

own_or : (file : FileId) (k : ℕ) (g : Flag) (o : Option Attributes) → flag_of (or_blank file o).flags k ≡ Some g → (own : Attributes) × (o ≡ Some own)
own_or file k g None h = absurd (none-some g h)
own_or file k g (Some own) h = (own, refl)

-- of what a flag is known, that is held
pub own_of_known : (a : Store) (file : FileId) (k : ℕ) (g : Flag) → flag_at a file k ≡ Some g → (own : Attributes) × (own_at a.names file ≡ Some own)
own_of_known a file k g h = own_or file k g (own_at a.names file) h

-- ---- numbers

older_is : (b n c m : ℕ) → b ≡ c → n < m → (nat_lt b c || (b == c && nat_lt n m)) ≡ true
older_is b n c m same less = grind (arith, nat_tests)

same_birth : (b n c m : ℕ) → b ≤ c → (nat_lt b c || (b == c && nat_lt n m)) ≡ false → b ≡ c
same_birth b n c m le h = grind (arith, nat_tests)

pub not_older_itself : (g : Flag) → is_older g g ≡ false
not_older_itself g = by g.birth g.number
  where
    by : (b n : ℕ) → (nat_lt b b || (b == b && nat_lt n n)) ≡ false
    by b n = grind (arith, nat_tests)

-- ---- a birth that is held

pub held_not_over : (a : Store) (file : FileId) (birth : ℕ) → birth_at a file ≡ Some birth → IsOver a file birth → ⊥
held_not_over a file birth born over =
    let x = born_of (replica_at a file) birth born in
    false≢true (sym over.away ∙ tests_so (replica_at a file) x.0 birth x.1 x.2)

-- ---- the own flag of a gold replica

pub record OwnFlag (a : Store) (file : FileId) (k birth : ℕ) : Type 0 where
  pub flag : Flag
  pub there : flag_at a file k ≡ Some flag
  pub server_is : flag.server ≡ k
  pub birth_is : flag.birth ≡ birth
  pub raised : flag.raised ≡ true

own_by : (a : Store) (file : FileId) (k birth : ℕ) (o : Option Flag) → flag_at a file k ≡ o → is_raised_with o birth ≡ true → OwnFlag a file k birth
own_by a file k birth None there h = absurd (false≢true h)
own_by a file k birth (Some g) there h =
    let both = and_parts g.raised (g.birth == birth) h in
    record {
      flag = g;
      there = there;
      server_is = (flag_found (flags_of a file) k g there).1;
      birth_is = eqb-true g.birth birth both.1;
      raised = both.0;
    }

pub own_flag : (n k : ℕ) (a : Store) (file : FileId) (birth : ℕ) → IsWhole n k a → birth_at a file ≡ Some birth → is_gold a file ≡ true
    → OwnFlag a file k birth
own_flag n k a file birth whole born gold =
    own_by a file k birth (flag_at a file k) refl
    (ap (λ (m : ℕ). is_raised_with (flag_at a file k) m) (sym (birth_is a file birth born))
    ∙ ap (λ (m : ℕ). is_raised (flags_of a file) m (birth_of a file)) (sym whole.server) ∙ gold)

module _ (n : ℕ) (on : StandOn n) (events : List Event) (file : FileId) (k birth : ℕ) (g : IsGoldAt n (run n events) file k birth) where
  abbrev W : World
  W = run n events

  abbrev A : ℕ → Store
  A s = W.stores s

  pub whole_there : IsWhole n k (A k)
  whole_there = let i = live_is n W k g.live in on.holding.whole events k i.least i.most

  pub own_there : OwnFlag (A k) file k birth
  own_there = own_flag n k (A k) file birth whole_there g.born g.gold

  abbrev F : Flag
  F = own_there.flag

  birth_there : IsBirthAt (A k) file birth
  birth_there = let x = born_of (replica_at (A k) file) birth g.born in inl (x.0, x.1, x.2)

  -- no birth of it that was given out is greater
  pub given_below : (m : ℕ) → WasGivenOut n events file k m → m ≤ birth
  given_below m given = let i = live_is n W k g.live in (on.holding.alone events k i.least i.most file).greatest m birth given birth_there

  -- ---- a flag that is known of it

  pub record IsOfIt (y : Flag) : Type 0 where
    pub known : IsFlagOf n W file y
    pub server_is : y.server ≡ k
    pub below : y.birth ≤ birth

  pub known_of : (t : ℕ) → 1 ≤ t → t ≤ n → (y : Flag) → flag_at (A t) file k ≡ Some y → IsOfIt y
  known_of t least most y there =
      let own = own_of_known (A t) file k y there in
      let in_own : flag_of own.0.flags k ≡ Some y = ap (λ (o : Option Attributes). flag_of (or_blank file o).flags k) (sym own.1) ∙ there in
      let found = flag_found own.0.flags k y in_own in
      let among : IsAmong own.0.flags y = among_of own.0.flags y (among_contained own.0.flags y found.0) in
      let Given : ℕ → Type 0 = λ m. WasGivenOut n events file m y.birth in
      record {
        known = (((on.holding.carried events).stores t least most).own file own.0 own.1).flags_are y found.0;
        server_is = found.1;
        below = given_below y.birth (subst Given found.1 ((on.holding.known events).flags t least most file own.0 y own.1 among));
      }

  last_is : (own : Attributes) (last : Flag) → own_at (A k).names file ≡ Some own → flag_of own.flags k ≡ Some last → last ≡ F
  last_is own last held is =
      same_Some last F (sym is ∙ ap (λ (o : Option Attributes). flag_of (or_blank file o).flags k) (sym held) ∙ own_there.there)

  -- where it is not older than the own flag, it is that
  pub top : (y : Flag) → IsOfIt y → is_older y F ≡ false → y ≡ F
  top y of up =
      let P : ℕ → Type 0 = λ i. IsOwnFlag (A i) file y ⊎ IsOver (A i) file y.birth in
      by (subst P of.server_is (on.holding.own events file y of.known))
    where
      upto : (last : Flag) → last ≡ F → IsUpToOwn y last → y ≡ F
      upto last same (inl is) = is ∙ same
      upto last same (inr up_to) =
          let birth_same : y.birth ≡ F.birth = up_to.0 ∙ ap (λ (f : Flag). f.birth) same in
          let number_less : y.number < F.number = subst (λ (f : Flag). y.number < f.number) same up_to.1 in
          absurd (false≢true (sym up ∙ older_is y.birth y.number F.birth F.number birth_same number_less))

      by : IsOwnFlag (A k) file y ⊎ IsOver (A k) file y.birth → y ≡ F
      by (inl own) =
          let is : flag_of own.own.flags k ≡ Some own.last = ap (flag_of own.own.flags) (sym of.server_is) ∙ own.is in
          upto own.last (last_is own.own own.last own.held is) own.upto
      by (inr over) =
          let le : y.birth ≤ F.birth = subst (λ (m : ℕ). y.birth ≤ m) (sym own_there.birth_is) of.below in
          let same : y.birth ≡ birth = same_birth y.birth y.number F.birth F.number le up ∙ own_there.birth_is in
          absurd (held_not_over (A k) file birth g.born (subst (λ (m : ℕ). IsOver (A k) file m) same over))
