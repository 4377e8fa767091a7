-- The vectors of a history are in order, so that each number in one is that of its actor.
use Rattle.std.proofs.Common.{ℕ, ◌≡◌, ◌==◌, ◌&&◌, ◌<◌, ◌≤◌, ◌+◌, ◌^◌, Bool, true, false, nat_le, max, List, [], ◌∷◌, get_or, map, refl, ap, subst, arith}
use Rattle.std.specs.Prelude.{fold, unwrap_or}
use Rattle.std.specs.List.Sorted.{IsStrictlySortedBy}
use Rattle.std.specs.Map.{keys_of}
use Rattle.std.proofs.lemmas.Bool.Decides.{nat_tests}
use Rattle.std.proofs.lemmas.List.Folds.{list_any_none}
use Rattle.pg_run.specs.pg_base.declared.stamp.Stamp.{Stamp}
use Rattle.pg_run.specs.pg_base.declared.vector.Actor.{Actor}
use Rattle.pg_run.specs.pg_base.Stamp.{clock_end}
use Rattle.pg_run.specs.pg_base.Vector.{actor_cmp, joined, number_at, raised}
use Rattle.pg_run.proofs.pg_base.Entries.{IsStrictlySortedBy-insert_entry, lookup-place}
use Rattle.pg_run.proofs.pg_base.Vectors.{actor_total}
use Rattle.pg_run.specs.pg_content.Content.{joined_all, one_more}
use Rattle.pg_run.specs.pg_content.History.{Made, is_same_stamp, maker, vector_of}
use Rattle.pg_run.specs.pg_replica.Replica.{has_own_end}
use Rattle.pg_run.proofs.theory_flood_pieces.Choices.{chosen}

abbrev pub IsSorted : List (Actor × ℕ) → Type 0
IsSorted es = IsStrictlySortedBy actor_cmp (keys_of es)

none_sorted : IsSorted []
unfolding IsStrictlySortedBy
none_sorted = tt

sorted_raised : (es : List (Actor × ℕ)) (q : Actor) (n : ℕ) → IsSorted es → IsSorted (raised es q n)
sorted_raised es q n h =
    chosen IsSorted (n == 0) es _ h
    (IsStrictlySortedBy-insert_entry actor_cmp actor_total q (max (number_at es q) n) es h)

sorted_joined : (xs ys : List (Actor × ℕ)) → IsSorted ys → IsSorted (joined xs ys)
sorted_joined [] ys h = h
sorted_joined (x ∷ xs) ys h = sorted_raised (joined xs ys) x.0 x.1 (sorted_joined xs ys h)

-- what all of these know, each of them in order
sorted_all : (f : Stamp → List (Actor × ℕ)) → ((s : Stamp) → IsSorted (f s))
    → (known : List (Actor × ℕ)) (bs : List Stamp)
    → IsSorted known → IsSorted (fold joined known (map f bs))
sorted_all f each known [] h = h
sorted_all f each known (b ∷ bs) h =
    sorted_all f each (joined known (f b)) bs (sorted_joined known (f b) (each b))

pub sorted_vector : (h : List Made) (s : Stamp) → IsSorted (vector_of h s)
sorted_vector [] s = none_sorted
sorted_vector (m ∷ h) s =
    let known = joined_all (map (vector_of h) m.bases) in
    chosen IsSorted (is_same_stamp s m.stamp) (one_more known (maker m)) (vector_of h s)
    (sorted_raised known (maker m) (number_at known (maker m) + 1)
    (sorted_all (vector_of h) (sorted_vector h) [] m.bases none_sorted))
    (sorted_vector h s)

none_by : (b : Bool) (n last : ℕ) → n ≤ last → last < 2 ^ 62 → (b && nat_le clock_end n) ≡ false
none_by true n last upto time = grind (arith, nat_tests)
none_by false n last upto time = refl

-- where no number is later than a time before the clock's end, none is at its end
pub none_at_end : (server last : ℕ) (es : List (Actor × ℕ)) → IsSorted es
    → ((q : Actor) → number_at es q ≤ last) → last < 2 ^ 62 → has_own_end server es ≡ false
none_at_end server last es sorted upto time =
    list_any_none (λ (e : Actor × ℕ). e.0.server == server && nat_le clock_end e.1) es
    (λ i d lt. let e = get_or es i d in
    let number : number_at es e.0 ≡ e.1 =
    ap (λ o. unwrap_or o 0) (lookup-place actor_cmp actor_total e.0 e.1 es i d sorted lt refl) in
    let most = upto e.0 in
    let P : ℕ → Type 0 = (λ n. n ≤ last) in
    none_by (e.0.server == server) e.1 last (subst P number most) time)
