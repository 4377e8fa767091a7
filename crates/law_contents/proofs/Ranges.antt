-- The ranges of what is made are ranges, and so are those of the deltas that are kept.
use Rattle.std.proofs.Common.{ℕ, ◌≡◌, ◌≤◌, ◌+◌, ◌^◌, ◌-◌, Bool, true, false, cond, eqb, ltb, max, min, List, [], ◌∷◌, length, map, Ok, refl, sym, subst, inl, inr, arith}
use Rattle.std.proofs.lemmas.Bool.{ltb-false}
use Rattle.std.proofs.lemmas.Bool.Decides.{nat_tests}
use Rattle.pg_run.specs.pg_base.declared.id.FileId.{FileId}
use Rattle.pg_run.specs.pg_patch.Ranges.{IsRanges, RangesValue, applied, body_limit, cut_to, kept, length_of, written}
use Rattle.pg_run.specs.pg_base.declared.policy.Policy.{Policy}
use Rattle.pg_run.specs.pg_base.declared.policy.Policy.TheVariants.{Join, Last}
use Rattle.pg_run.specs.pg_base.declared.stamp.Stamp.{Stamp}
use Rattle.pg_run.specs.pg_base.Version.{VersionValue}
use Rattle.pg_run.specs.pg_content.Content.{ContentValue, next_length, shown_bytes}
use Rattle.pg_run.specs.pg_content.Shown.{shown}
use Rattle.pg_run.specs.pg_delta.declared.delta.KeptDelta.{KeptDelta}
use Rattle.pg_run.specs.pg_delta.Kept.{with_delta}
use Rattle.pg_run.proofs.pg_delta.Fronts.{length_is}
use Rattle.pg_run.specs.pg_call.declared.refusal.Refusal.TheVariants.{ManyActors, TooLong}
use Rattle.pg_run.specs.pg_replica.Replica.{has_many_actors, is_too_long}
use Rattle.pg_run.specs.pg_store.declared.store.Store.{Store}
use Rattle.pg_run.specs.pg_store.Seen.{server_of}
use Rattle.pg_run.specs.pg_store.Store.{content_of, replica_of}
use Rattle.pg_run.specs.pg_checks.Answer.{unless}
use Rattle.pg_run.specs.pg_calls.Bodies.{when_fit}
use Rattle.pg_run.specs.pg_calls.Making.{first_ranges}
use Rattle.pg_run.proofs.pg_calls.Checked.{behind, fit_found, unless_ok}
use Rattle.pg_run.proofs.theory_bodies.Computing.{HaveRanges}
use Rattle.pg_run.proofs.theory_bodies.Holdings.{with_among}

-- one delta more
pub ranges_with : (deltas : List KeptDelta) (e : KeptDelta) → HaveRanges deltas → IsRanges e.ranges
    → HaveRanges (with_delta deltas e)
ranges_with deltas e old new d l = elim (with_among deltas e d l) [
  | inl last ↦ (let P : KeptDelta → Type 0 = (λ x. IsRanges x.ranges) in subst P (sym last) new)
  | inr there ↦ old d there
]

-- those of the first version
pub first_are : IsRanges first_ranges
first_are = record { keep = omega arith; least = omega arith; parts = tt }

nothing_long : length (applied [] first_ranges) ≤ body_limit
nothing_long =
    let none : length (applied [] first_ranges) ≡ 0 =
    (length_is [] first_ranges 0 0 refl (omega arith)).0 refl in
    omega arith

first_long : (policy : Policy) → length (applied (shown policy []) first_ranges) ≤ body_limit
first_long Last = nothing_long
first_long Join = nothing_long

-- and its body
pub first_short : (c : ContentValue) → c.heads ≡ [] → next_length c first_ranges ≤ body_limit
first_short c none =
    let P : List VersionValue → Type 0 = (λ vs. length (applied (shown c.policy
    (map {B = Stamp × List ℕ} (λ (v : VersionValue). (v.head.stamp, v.body)) vs)) first_ranges)
    ≤ body_limit) in
    subst P (sym none) (first_long c.policy)

-- ---- what a client writes

least_by : (stays least m : ℕ) → max stays least ≡ m → m ≤ body_limit → least ≤ body_limit
least_by stays least m e few = omega arith

-- what is not too long has no least length that is
short : (body : List ℕ) (r : RangesValue) → ltb body_limit (length (applied body r)) ≡ false
    → r.least ≤ body_limit
short body r tested =
    let m = length (applied body r) in
    let n = min (length body) (2 ^ 64 - 1) in
    let few : m ≤ body_limit = ltb-false body_limit m tested in
    let is : length_of n r ≡ m = (length_is body r n m refl (omega arith)).1 refl in
    least_by (kept r.keep n) r.least m is few

-- so of what fits
module _ (store : Store) (ranges : RangesValue) (f g : FileId) (h : when_fit store ranges f ≡ Ok g)
  where
    fits : is_too_long (replica_of store f) ranges ≡ false
    fits =
        let b = behind (unless (is_too_long (replica_of store f) ranges) TooLong f)
        (λ fit. unless (has_many_actors (replica_of store fit) (server_of store)) ManyActors fit) g h
        in
        (unless_ok (is_too_long (replica_of store f) ranges) TooLong f b.0 b.1).0

    pub fit_short : ranges.least ≤ body_limit
    fit_short = short (shown_bytes (replica_of store f).content) ranges fits

    -- and so is the body that is made of what is shown
    pub fit_long : next_length (content_of store g) ranges ≤ body_limit
    fit_long =
        let P : FileId → Type 0 = (λ x. next_length (content_of store x) ranges ≤ body_limit) in
        subst P (fit_found store ranges f g h)
        (ltb-false body_limit (next_length (content_of store f) ranges) fits)

abbrev written_when : Bool → ℕ → List ℕ → RangesValue
written_when none offset bytes = cond none (record { keep = 4294967295; least = 0; parts = [] })
    (record {
      keep = 4294967295;
      least = offset + length bytes;
      parts = record { offset = offset; bytes = bytes } ∷ [];
    })

written_by : (none : Bool) (offset : ℕ) (bytes : List ℕ) → eqb (length bytes) 0 ≡ none
    → (written_when none offset bytes).least ≤ body_limit
    → IsRanges (written_when none offset bytes)
written_by true offset bytes e few =
    record { keep = omega arith; least = omega arith; parts = tt }
written_by false offset bytes e few = record {
  keep = omega arith;
  least = omega arith;
  parts = (omega arith, grind (arith, nat_tests), omega arith, tt);
}

pub written_are : (offset : ℕ) (bytes : List ℕ) → (written offset bytes).least ≤ body_limit
    → IsRanges (written offset bytes)
written_are offset bytes few = written_by (eqb (length bytes) 0) offset bytes refl few

pub cut_are : (n : ℕ) → n ≤ body_limit → IsRanges (cut_to n)
cut_are n few = record { keep = omega arith; least = omega arith; parts = tt }
