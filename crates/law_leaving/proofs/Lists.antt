-- Members of lists; and runs, one event after another.
use Rattle.std.specs.List.{IsAmong}
use Rattle.std.proofs.Common.{◌≡◌, All, List, [], ◌∷◌, ◌++◌, append_assoc, inl, inr, ◌⊎◌, refl, sym, ap, subst, ◌∙◌}
use Rattle.std.proofs.lemmas.List.{append-nil}

-- what holds of all holds of one of them
pub member_at : {A : Type 0} (P : A → Type 0) (xs : List A) (x : A) → All P xs → IsAmong xs x → P x
member_at P xs x all is = subst P (sym is.1.1) (all is.0 x is.1.0)

module _ {A : Type 0} where
  -- what holds at first, and goes on by each one more
  pub along : (P : List A → Type 0) → ((before : List A) (e : A) → P before → P (before ++ e ∷ []))
      → (before rest : List A) → P before → P (before ++ rest)
  along P step before [] k = subst P (sym (append-nil before)) k
  along P step before (e ∷ es) k =
      subst P (append_assoc before (e ∷ []) es) (along P step (before ++ e ∷ []) es (step before e k))

  -- where a list with one more is split at an entry: that is the last one, or the list was split
  -- there
  pub record IsLast (xs : List A) (e : A) (ys : List A) (d : A) (zs : List A) : Type 0 where
    pub before : ys ≡ xs
    pub entry : d ≡ e
    pub none : zs ≡ []

  pub split_last : (xs : List A) (e : A) (ys : List A) (d : A) (zs : List A) → xs ++ e ∷ [] ≡ ys ++ d ∷ zs
      → IsLast xs e ys d zs ⊎ ((rest : List A) × (xs ≡ ys ++ d ∷ rest))
  split_last [] e [] d [] same = inl (record { before = refl; entry = (let x = same in cc); none = refl })
  split_last [] e [] d (z ∷ zs) same = absurd (let x = same in cc)
  split_last [] e (y ∷ []) d zs same = absurd (let x = same in cc)
  split_last [] e (y ∷ (y' ∷ ys)) d zs same = absurd (let x = same in cc)
  split_last (x ∷ xs) e [] d zs same =
      let head : x ≡ d = (let z = same in cc) in
      inr (xs, ap (λ z. z ∷ xs) head)
  split_last (x ∷ xs) e (y ∷ ys) d zs same =
      let head : x ≡ y = (let z = same in cc) in
      let tail : xs ++ e ∷ [] ≡ ys ++ d ∷ zs = (let z = same in cc) in
      elim (split_last xs e ys d zs tail) [
        | inl l ↦ inl (record { before = ap (λ z. z ∷ ys) (sym head) ∙ ap (λ z. x ∷ z) l.before; entry = l.entry; none = l.none })
        | inr r ↦ inr (r.0, ap (λ z. z ∷ xs) head ∙ ap (λ z. y ∷ z) r.1)
      ]
