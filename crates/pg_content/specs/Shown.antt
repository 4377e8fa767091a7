-- What a file shows of bodies that stand side by side.
use Rattle.std.specs.Prelude.{ℕ, if◌then◌else◌, List, [], ◌∷◌, ◌++◌}
use Rattle.pg_base.specs.declared.stamp.Stamp.{Stamp}
use Rattle.pg_base.specs.Stamp.{is_before}
use Rattle.pg_base.specs.declared.policy.Policy.{Policy}
use Rattle.pg_base.specs.declared.policy.Policy.TheVariants.{Last, Join}

-- x in front of the first whose stamp is not before its own
abbrev pub inserted : {A : Type 0} → (A → Stamp) → A → List A → List A
inserted stamp x [] = x ∷ []
inserted stamp x (y ∷ ys) =
    if is_before (stamp y) (stamp x) then y ∷ inserted stamp x ys else x ∷ y ∷ ys

-- the same in the order of their stamps
abbrev pub by_stamp : {A : Type 0} → (A → Stamp) → List A → List A
by_stamp stamp [] = []
by_stamp stamp (x ∷ xs) = inserted stamp x (by_stamp stamp xs)

-- the body of the last, and nothing where there is none
abbrev pub last_body : List (Stamp × List ℕ) → List ℕ
last_body [] = []
last_body (x ∷ []) = x.1
last_body (x ∷ y ∷ ys) = last_body (y ∷ ys)

-- the bodies one after another
abbrev pub all_bodies : List (Stamp × List ℕ) → List ℕ
all_bodies [] = []
all_bodies (x ∷ xs) = x.1 ++ all_bodies xs

-- of bodies with their stamps, the one of the greatest stamp; or all of them in the order of their
-- stamps
abbrev pub shown : Policy → List (Stamp × List ℕ) → List ℕ
shown Last bodies = last_body (by_stamp (λ b. b.0) bodies)
shown Join bodies = all_bodies (by_stamp (λ b. b.0) bodies)
