-- What a crash leaves of a log that goes on.
use Rattle.std.proofs.Common.{◌≡◌, ◌⊎◌, inl, inr, ℕ, ◌+◌, ◌≤◌, List, [], ◌∷◌, ◌++◌, length, map, take, Option, Ok, refl, sym, ◌∙◌, ap, subst, arith, append_assoc, length-append}
use Rattle.std.proofs.lemmas.List.{append-nil, map-append, take-append-le}
use Rattle.std.proofs.Math.Seq.{take-append-add}
use Rattle.pg_disk.specs.Disk.{IsImage}
use Rattle.pg_disk.specs.Told.{Told, steps}
use Rattle.pg_disk.specs.Moments.{LeavesOnly, LeavesSince}
use Rattle.pg_disk.proofs.Moments.{leaves_started, leaves_then, leaves_weaker}
use Rattle.pg_log.specs.Bytes.{OpensTo}
use Rattle.pg_log.specs.Log.{Stands, OpensWithOrWithout}
use Rattle.pg_log.proofs.Standing.{stands_opens}
use Rattle.pg_host.specs.declared.asking.Asked.{Asked}
use Rattle.pg_host.specs.Entries.{entries_for, entry_for, input_of}
use Rattle.pg_host.specs.Host.{AreRead, LeavesSome}
use Rattle.pg_host.specs.Logs.{OpensToSome}

-- nothing was done
pub none_done : (log : Option ℕ) (told : Told) (entries : List (List ℕ)) (entry : List ℕ) → Stands log told entries → LeavesSince 0 told told (OpensWithOrWithout entries entry)
none_done log told entries entry stands = leaves_started told.chosen 0 (OpensWithOrWithout entries entry) told.history (λ image is. inl (stands_opens log told entries stands image is))

pub same_entry : (old new : Told) (entries : List (List ℕ)) (bytes entry : List ℕ) → bytes ≡ entry → LeavesSince 0 old new (OpensWithOrWithout entries bytes) → LeavesSince 0 old new (OpensWithOrWithout entries entry)
same_entry old new entries bytes entry is leaves = subst (λ (b : List ℕ). LeavesSince 0 old new (OpensWithOrWithout entries b)) is leaves

-- ---- the log's entries, and the first of some others

pub to_some : (entries : List (List ℕ)) (entry : List ℕ) (file : List ℕ) → OpensWithOrWithout entries entry file → OpensToSome entries (entry ∷ []) file
to_some entries entry file (inl without) = (0, omega arith, subst (λ (es : List (List ℕ)). OpensTo file es) (sym (append-nil entries)) without)
to_some entries entry file (inr one) = (1, omega arith, one)

pub some_more : (entries xs ys : List (List ℕ)) (file : List ℕ) → OpensToSome entries xs file → OpensToSome entries (xs ++ ys) file
some_more entries xs ys file opens =
    let k = opens.0 in
    let within : k ≤ length xs = opens.1 in
    (k, omega (arith, within, length-append xs ys), subst (λ (l : List (List ℕ)). OpensTo file (entries ++ l)) (sym (take-append-le k xs ys within)) opens.2)

pub some_behind : (entries xs ys : List (List ℕ)) (file : List ℕ) → OpensToSome (entries ++ xs) ys file → OpensToSome entries (xs ++ ys) file
some_behind entries xs ys file opens =
    let k = opens.0 in
    let within : k ≤ length ys = opens.1 in (
      length xs + k,
      omega (arith, within, length-append xs ys),
      subst (λ (l : List (List ℕ)). OpensTo file l) (append_assoc entries xs (take k ys) ∙ ap (λ (l : List (List ℕ)). entries ++ l) (sym (take-append-add xs ys k))) opens.2,
    )

pub leaves_on : (a b d : Told) (entries xs ys : List (List ℕ)) → b.chosen ≡ a.chosen → LeavesSince 0 a b (OpensToSome entries xs) → LeavesSince 0 b d (OpensToSome (entries ++ xs) ys)
    → LeavesSince 0 a d (OpensToSome entries (xs ++ ys))
leaves_on a b d entries xs ys chosen first second =
    leaves_then a.chosen 0 (OpensToSome entries (xs ++ ys)) a.history b.history d.history
    (leaves_weaker a.chosen 0 (OpensToSome entries xs) (OpensToSome entries (xs ++ ys)) a.history b.history (some_more entries xs ys) first)
    (subst (λ (name : List ℕ). LeavesOnly name 0 b.history d.history (OpensToSome entries (xs ++ ys))) chosen
    (leaves_weaker b.chosen 0 (OpensToSome (entries ++ xs) ys) (OpensToSome entries (xs ++ ys)) b.history d.history (some_behind entries xs ys) second))

-- ---- inputs as entries

pub entries-append : (xs ys : List Asked) → entries_for (xs ++ ys) ≡ entries_for xs ++ entries_for ys
entries-append xs ys = map-append (λ (a : Asked). entry_for a.input) xs ys

pub regroup : (entries : List (List ℕ)) (own more : List Asked) → (entries ++ entries_for own) ++ entries_for more ≡ entries ++ entries_for (own ++ more)
regroup entries own more = append_assoc entries (entries_for own) (entries_for more) ∙ ap (λ (l : List (List ℕ)). entries ++ l) (sym (entries-append own more))

pub read-append : (xs ys : List Asked) → AreRead xs → AreRead ys → AreRead (xs ++ ys)
read-append xs ys first second =
    ap (map input_of) (entries-append xs ys)
    ∙ map-append input_of (entries_for xs) (entries_for ys)
    ∙ (λ i. first i ++ second i)
    ∙ sym (map-append (λ (a : Asked). Ok a.input) xs ys)

-- nothing was done to a log that stands
pub none_leaves : (log : Option ℕ) (told : Told) (entries : List (List ℕ)) (own : List Asked) → Stands log told entries → LeavesSome entries own told told
none_leaves log told entries own stands = leaves_started told.chosen 0 (OpensToSome entries (entries_for own)) told.history
    (λ image is. (0, omega arith, subst (λ (es : List (List ℕ)). OpensTo image es) (sym (append-nil entries)) (stands_opens log told entries stands image is)))

pub some_leave : (old new : Told) (entries : List (List ℕ)) (a : Asked) → LeavesSince 0 old new (OpensWithOrWithout entries (entry_for a.input)) → LeavesSome entries (a ∷ []) old new
some_leave old new entries a leaves =
    leaves_weaker old.chosen 0 (OpensWithOrWithout entries (entry_for a.input)) (OpensToSome entries (entry_for a.input ∷ [])) old.history new.history (to_some entries (entry_for a.input)) leaves
