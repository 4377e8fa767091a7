-- Loops: one thing done after another.
use Rattle.std.proofs.Common.{◌≡◌, List, ◌∷◌, sym, ap, ◌∙◌}
use Rattle.pg_store.specs.pg_house.pg_msg.declared.work.Work.{Work}
use Rattle.pg_store.specs.declared.store.Store.{Store}
use Rattle.pg_pieces.specs.Done.{Done}
use Rattle.pg_pieces.specs.Intending.{each}

-- what is done and what is left come to this
abbrev pub Comes : {A : Type 0} → (Store → A → Work → Done) → Store → List A → Work → Done → Type 0
Comes step s left v r = ((each step s left v).store ≡ r.store) × ((each step s left v).work ≡ r.work)

-- the list is another one
pub begins : {A : Type 0} (step : Store → A → Work → Done) (s : Store) (v : Work) (left all : List A) → left ≡ all → Comes step s left v (each step s all v)
begins {A} step s v left all same =
    (ap (λ (xs : List A). (each step s xs v).store) same, ap (λ (xs : List A). (each step s xs v).work) same)

-- one step more
pub one_each : {A : Type 0} (step : Store → A → Work → Done) (s t : Store) (v w : Work) (left rest : List A) (x : A) (r : Done) → left ≡ x ∷ rest
    → t ≡ (step s x v).store → w ≡ (step s x v).work → Comes step s left v r → Comes step t rest w r
one_each {A} step s t v w left rest x r is store work comes =
    let same : each step t rest w ≡ each step s left v =
    ap (λ (y : Store). each step y rest w) store
    ∙ ap (λ (y : Work). each step (step s x v).store rest y) work
    ∙ sym (ap (λ (xs : List A). each step s xs v) is) in
    (ap (λ (d : Done). d.store) same ∙ comes.0, ap (λ (d : Done). d.work) same ∙ comes.1)
