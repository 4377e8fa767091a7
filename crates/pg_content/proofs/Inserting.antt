-- Where a version goes: in front of the first whose stamp is not before its own.
use Rattle.std.proofs.Common.{◌≡◌, ℕ, suc, ◌+◌, ◌≤◌, Bool, true, false, cond, not, zero, List, [], ◌∷◌, length, ◌⊎◌, inl, inr, refl, sym, ap, subst, ◌∙◌, arith}
use Rattle.std.specs.List.{insert, position_or_len}
use Rattle.std.specs.List.Sorted.{IsPartitionPoint}
use Rattle.std.proofs.lemmas.List.Sums.{prefix_len-le-length}
use Rattle.pg_base.specs.declared.stamp.Stamp.{Stamp}
use Rattle.pg_base.specs.Stamp.{is_before}
use Rattle.pg_base.specs.Version.{VersionValue, stamp_of}
use Rattle.pg_content.specs.Shown.{inserted}
use Rattle.pg_content.specs.Content.{Among}

module _ {A : Type 0} (stamp : A → Stamp) (s : Stamp) where
  -- whether an element is not before the stamp
  abbrev pub stops : A → Bool
  stops y = not (is_before (stamp y) s)

  pub stop-most : (ys : List A) → position_or_len stops ys ≤ length ys
  stop-most ys = prefix_len-le-length (λ y. not (stops y)) ys

  insert_behind : (y x : A) (ys : List A) (i j : ℕ) → j ≡ suc i → insert (y ∷ ys) j x ≡ y ∷ insert ys i x
  insert_behind y x ys i j e = rw e refl

  inserted_by : (x y : A) (ys : List A) (b : Bool) → insert ys (position_or_len stops ys) x ≡ inserted stamp x ys → insert (y ∷ ys) (cond (not (not b)) (1 + position_or_len stops ys) 0) x ≡ cond b (y ∷ inserted stamp x ys) (x ∷ y ∷ ys)
  inserted_by x y ys true rest = insert_behind y x ys (position_or_len stops ys) (1 + position_or_len stops ys) (omega arith) ∙ ap (λ zs. y ∷ zs) rest
  inserted_by x y ys false rest = refl

  insert_is : (x : A) → stamp x ≡ s → (ys : List A) → insert ys (position_or_len stops ys) x ≡ inserted stamp x ys
  insert_is x same [] = refl
  insert_is x same (y ∷ ys) =
      let P : Stamp → Type 0 = λ t. insert (y ∷ ys) (position_or_len stops (y ∷ ys)) x ≡ cond (is_before (stamp y) t) (y ∷ inserted stamp x ys) (x ∷ y ∷ ys) in
      subst P (sym same) (inserted_by x y ys (is_before (stamp y) s) (insert_is x same ys))

  parted_by : (y : A) (ys : List A) (b : Bool) (i : ℕ) → is_before (stamp y) s ≡ b → i ≡ cond b (1 + position_or_len stops ys) 0 → i ≡ position_or_len stops (y ∷ ys)
  parted_by y ys true i e at = at ∙ sym (ap (λ b. cond (not (not b)) (1 + position_or_len stops ys) 0) e)
  parted_by y ys false i e at = at ∙ sym (ap (λ b. cond (not (not b)) (1 + position_or_len stops ys) 0) e)

  -- the index, as a search by halves gives it
  pub stop-parted : (ys : List A) (i : ℕ) → i ≤ length ys → IsPartitionPoint (λ y. is_before (stamp y) s ≡ true) (λ y. is_before (stamp y) s ≡ false) ys i → i ≡ position_or_len stops ys
  stop-parted [] zero le parts = refl
  stop-parted [] (suc i) le parts = absurd (omega arith)
  stop-parted (y ∷ ys) zero le parts = parted_by y ys false zero (parts.1 0 y (omega arith) (omega arith)) refl
  stop-parted (y ∷ ys) (suc i) le parts =
      let rest = stop-parted ys i (omega arith) ((λ k d from lt. parts.0 (suc k) d (omega arith) (omega arith)), (λ k d from lt. parts.1 (suc k) d (omega arith) (omega arith))) in
      parted_by y ys true (suc i) (parts.0 0 y (omega arith) (omega arith)) (omega arith)

  -- an insert there puts it in its order
  pub insert_at_stop : (x : A) (ys : List A) (i : ℕ) → stamp x ≡ s → i ≡ position_or_len stops ys → insert ys i x ≡ inserted stamp x ys
  insert_at_stop x ys i same e = ap (λ j. insert ys j x) e ∙ insert_is x same ys

-- ---- what stands there then

module _ (x : VersionValue) where
  among_by : (v w : VersionValue) (ws : List VersionValue) (b : Bool) → (Among x (inserted stamp_of v ws) → (x ≡ v) ⊎ Among x ws) → Among x (cond b (w ∷ inserted stamp_of v ws) (v ∷ w ∷ ws)) → (x ≡ v) ⊎ ((x ≡ w) ⊎ Among x ws)
  among_by v w ws true rest k = elim k [
    | inl same ↦ inr (inl same)
    | inr later ↦ elim (rest later) [ inl put ↦ inl put | inr there ↦ inr (inr there) ]
  ]
  among_by v w ws false rest k = k

  pub among_inserted : (v : VersionValue) (ws : List VersionValue) → Among x (inserted stamp_of v ws) → (x ≡ v) ⊎ Among x ws
  among_inserted v [] k = k
  among_inserted v (w ∷ ws) k = among_by v w ws (is_before w.head.stamp v.head.stamp) (among_inserted v ws) k

  put_by : (v w : VersionValue) (ws : List VersionValue) (b : Bool) → ((x ≡ v) ⊎ Among x ws → Among x (inserted stamp_of v ws)) → (x ≡ v) ⊎ ((x ≡ w) ⊎ Among x ws) → Among x (cond b (w ∷ inserted stamp_of v ws) (v ∷ w ∷ ws))
  put_by v w ws true rest k = elim k [
    | inl put ↦ inr (rest (inl put))
    | inr there ↦ elim there [ inl same ↦ inl same | inr later ↦ inr (rest (inr later)) ]
  ]
  put_by v w ws false rest k = k

  pub inserted_among : (v : VersionValue) (ws : List VersionValue) → (x ≡ v) ⊎ Among x ws → Among x (inserted stamp_of v ws)
  inserted_among v [] k = k
  inserted_among v (w ∷ ws) k = put_by v w ws (is_before w.head.stamp v.head.stamp) (inserted_among v ws) k
