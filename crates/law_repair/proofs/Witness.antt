-- The definitions of what is kept, tried on two runs by computation.
use Rattle.std.proofs.Common.{◌≡◌, Bool, true, false, List, [], ◌∷◌, ◌++◌, append_assoc, drop, refl, sym, ap, subst, ◌∙◌}
use Rattle.std.specs.List.{list_any}
use Rattle.std.proofs.lemmas.Bool.{false≢true, or_parts}
use Rattle.pg_run.specs.pg_call.declared.call.Call.TheVariants as call
use Rattle.pg_run.specs.pg_event.declared.event.Event.{Event}
use Rattle.pg_run.specs.pg_event.declared.event.Event.TheVariants.{Call, Deliver, Remove}
use Rattle.pg_run.specs.pg_register.Place.{root}
use Rattle.pg_run.specs.Run.{run}
use Rattle.pg_run.proofs.QuietAnswers.{quiet_is_told}
use Rattle.law_repair.specs.Kept.{IsGoldAt, IsKept}
use Rattle.law_repair.specs.Witness.{LossIsNotKept, RemovalKeepsTheRoot, forgotten, heard, looked_at, loss, lost_dir, lost_file, made, removal}
use Rattle.law_repair.proofs.Unkept.{not_kept}

-- ---- what begins a list

abbrev Along : {A : Type 0} → (List A → Type 0) → List A → Type 0
Along P [] = P []
Along P (x ∷ xs) = P [] × Along (λ ys. P (x ∷ ys)) xs

at_first : {A : Type 0} (P : List A → Type 0) (all : List A) → Along P all → P []
at_first P [] h = h
at_first P (x ∷ xs) h = h.0

along : {A : Type 0} (P : List A → Type 0) (all : List A) → Along P all → (xs ys : List A) → all ≡ xs ++ ys → P xs
along P all h [] ys e = at_first P all h
along P [] h (x ∷ xs) ys e = cc
along P (a ∷ all) h (x ∷ xs) ys e =
    let same : a ≡ x = cc in
    let rest : all ≡ xs ++ ys = cc in
    subst (λ v. P (v ∷ xs)) same (along (λ zs. P (a ∷ zs)) all h.1 xs ys rest)

-- ---- forgetting

abbrev is_forget : Event → Bool
is_forget (Call server moment (call.Forget file)) = true
is_forget e = false

not_among : (all xs ys : List Event) (f : Event) → list_any is_forget all ≡ false → all ≡ xs ++ f ∷ ys → is_forget f ≡ false
not_among [] [] ys f none e = cc
not_among [] (x ∷ xs) ys f none e = cc
not_among (a ∷ all) [] ys f none e =
    let same : a ≡ f = cc in
    subst (λ v. is_forget v ≡ false) same (or_parts (is_forget a) (list_any is_forget all) none).0
not_among (a ∷ all) (x ∷ xs) ys f none e =
    let rest : all ≡ xs ++ f ∷ ys = cc in
    not_among all xs ys f (or_parts (is_forget a) (list_any is_forget all) none).1 rest

-- ---- the root, kept through a removal

abbrev Gold : List Event → Type 0
Gold events = IsGoldAt 3 (run 3 events) root 1 1

golds : Along Gold removal
golds = (
  record { live = refl; born = refl; gold = refl },
  (
    record { live = refl; born = refl; gold = refl },
    (record { live = refl; born = refl; gold = refl }, record { live = refl; born = refl; gold = refl }),
  ),
)

-- what stands in the middle of three lists is split, and so are all three
joined : (all first more behind before rest : List Event) → all ≡ (first ++ more) ++ behind → more ≡ before ++ rest
    → all ≡ (first ++ before) ++ (rest ++ behind)
joined all first more behind before rest split is =
    split ∙ ap (λ es. (first ++ es) ++ behind) is ∙ ap (λ es. es ++ behind) (sym (append_assoc first before rest))
    ∙ append_assoc (first ++ before) rest behind

root_kept : IsKept 3 root removal
root_kept first e more behind split near = record {
  server = 1;
  birth = 1;
  gold = λ before rest is. along Gold removal golds (first ++ before) (rest ++ behind)
      (joined removal first (e ∷ more) behind before rest split is);
  known = λ before f rest is forgets.
      let none : is_forget f ≡ false = not_among removal (first ++ before) (rest ++ behind) f refl
      (joined removal first (e ∷ more) behind before (f ∷ rest) split is) in
      false≢true (sym none ∙ ap is_forget forgets.is);
}

pub removal_keeps_the_root : RemovalKeepsTheRoot
removal_keeps_the_root = record {
  quiet = (quiet_is_told 3 (run 3 removal)).0 refl;
  kept = root_kept;
}

-- ---- a file and a directory whose one gold replica goes with its server

pub loss_is_not_kept : LossIsNotKept
loss_is_not_kept = record {
  quiet = (quiet_is_told 2 (run 2 loss)).0 refl;
  file = not_kept 2 lost_file made (Deliver 1) (drop 1 heard) (Remove 1) (drop 1 forgotten) refl refl refl refl refl looked_at;
  directory = not_kept 2 lost_dir made (Deliver 1) (drop 1 heard) (Remove 1) (drop 1 forgotten) refl refl refl refl refl looked_at;
}
