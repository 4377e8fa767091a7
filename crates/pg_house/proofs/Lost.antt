-- Where nothing that is dirty leads to a cycle nothing does.
use Rattle.std.proofs.Common.{◌≡◌, ℕ, zero, suc, ◌+◌, Bool, true, false, ◌&&◌, not, if◌then◌else◌, List, [], ◌∷◌, length, Option, None, Some, refl, sym, ap, ◌∙◌, subst, inl, inr, ◌⊎◌}
use Rattle.std.specs.List.{list_any}
use Rattle.std.proofs.lemmas.Bool.{false≢true, or_parts}
use Rattle.pg_base.specs.declared.id.FileId.{FileId}
use Rattle.pg_base.specs.Id.{is_same_file}
use Rattle.pg_base.proofs.Orders.{is_same_file-true}
use Rattle.pg_index.specs.Ids.{is_one_of}
use Rattle.pg_register.specs.declared.place.Place.{Place}
use Rattle.pg_register.specs.Place.{root}
use Rattle.pg_names.specs.declared.attributes.Attributes.{Attributes}
use Rattle.pg_names.specs.Names.{NamesValue, directories, is_dir, own_at}
use Rattle.pg_names.specs.Calm.{AllCome, Comes, IsStop}
use Rattle.pg_names.specs.Calm as calm
use Rattle.pg_house.specs.Returning.{is_root}
use Rattle.pg_house.specs.Placing.{place_of}
use Rattle.pg_house.specs.Cycles.{above, climb, first_moving, is_inner, is_live_own, is_lost}
use Rattle.pg_house.proofs.Truths.{or_cases}
use Rattle.pg_house.proofs.AllClimb.{out_stays}
use Rattle.pg_house.proofs.Crowded.{ComesOut, none_moves}

none_at : (p : FileId → Bool) (q k : FileId) (ks : List FileId) → (is_same_file q k ≡ true) ⊎ (is_one_of q ks ≡ true) → p k ≡ false → ((is_one_of q ks ≡ true) → p q ≡ false) → p q ≡ false
none_at p q k ks (inl same) none rest = ap p (is_same_file-true q k same) ∙ none
none_at p q k ks (inr later) none rest = rest later

-- where none passes, one of them does not
none_of : (p : FileId → Bool) (ks : List FileId) (q : FileId) → list_any p ks ≡ false → is_one_of q ks ≡ true → p q ≡ false
none_of p [] q none h = absurd (false≢true h)
none_of p (k ∷ ks) q none h =
    let both = or_parts (p k) (list_any p ks) none in
    none_at p q k ks (or_cases (is_same_file q k) (is_one_of q ks) h) both.0 (none_of p ks q both.1)

-- ---- the words of names

live_is : (o : Option Attributes) → calm.is_live_own o ≡ is_live_own o
live_is None = refl
live_is (Some own) = refl

place_is : (o : Option Attributes) → calm.place_of o ≡ place_of o
place_is None = refl
place_is (Some own) = refl

inner_is : (s : NamesValue) (d : FileId) → calm.is_inner s d ≡ is_inner s d
inner_is s d = ap (λ b. is_dir d && (not (is_root d) && b)) (live_is (own_at s d))

above_is : (s : NamesValue) (d : FileId) → calm.above s d ≡ above s d
above_is s d =
    ap (λ b. if b then (calm.place_of (own_at s d)).parent else root) (inner_is s d)
    ∙ ap (λ (p : Place). if is_inner s d then p.parent else root) (place_is (own_at s d))

-- ---- where one comes to

module _ (s : NamesValue) (ids : List FileId) where
  come : (n : ℕ) (d : FileId) → Comes s ids n d → (k : ℕ) × IsStop s ids (climb s k d)
  come zero d c = (0, c)
  come (suc n) d (inl c) = (0, c)
  come (suc n) d (inr c) = let r = come n (calm.above s d) c in (suc r.0, subst (λ q. IsStop s ids (climb s r.0 q)) (above_is s d) r.1)

  module _ (none : list_any (is_lost s (length (directories s))) ids ≡ false) where
    stop_out : (d : FileId) → IsStop s ids d → is_lost s (length (directories s)) d ≡ false
    stop_out d (inl dirty) = none_of (is_lost s (length (directories s))) ids d none dirty
    stop_out d (inr out) = let n = length (directories s) in out_stays s (n + n) d (sym (inner_is s d) ∙ out)

    comes_out : AllCome s ids → (d : FileId) → ComesOut s d
    comes_out all d =
        let a = all d in
        let r = come a.0 d a.1 in
        (r.0, stop_out (climb s r.0 d) r.1)

    pub dirty_moves : AllCome s ids → first_moving s (length (directories s)) None (directories s) ≡ None
    dirty_moves all = none_moves s (λ d inner. comes_out all d)
