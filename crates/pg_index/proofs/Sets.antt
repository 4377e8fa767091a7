-- The sets by id after the program wrote one of them.
use Rattle.std.proofs.Common.{◌≡◌, Bool, true, false, ◌||◌, ◌&&◌, not, cond, List, [], ◌∷◌, length, arith, Option, None, Some, refl, sym, ap, subst, ◌∙◌}
use Rattle.std.specs.Cmp.{eq_by_cmp_equiv}
use Rattle.std.specs.Option.{IsSome}
use Rattle.std.specs.Map.{lookup, set_value}
use Rattle.std.specs.BTreeMap.{is_at, insert_entry}
use Rattle.std.proofs.lemmas.Map.{lookup-set_value}
use Rattle.pg_base.specs.declared.id.FileId.{FileId}
use Rattle.pg_base.specs.Id.{file_cmp, is_same_file}
use Rattle.pg_base.proofs.Maps.{lookup-insert_entry}
use Rattle.pg_base.proofs.Orders.{file_total, is_same_file-refl, is_same_file-true}
use Rattle.pg_index.specs.Ids.{ListsValue, has, ids_at, is_one_of, or_none}
use Rattle.pg_index.proofs.Members.{IsPut, Order, kept_at, less_at, more_at, same_sym}

alike : (d x y : FileId) → is_same_file d x ≡ true → is_same_file d y ≡ is_same_file x y
alike d x y h = ap (λ (q : FileId). is_same_file q y) (is_same_file-true d x h)

-- what is found of an id's set
abbrev pub IsFound : Order → ListsValue → FileId → Option (List FileId) → Type 0
IsFound R lists key o = lookup (is_at (R key)) lists ≡ o

found_ids : (R : Order) → R ≡ file_cmp → (lists : ListsValue) (key : FileId) (o : Option (List FileId)) → IsFound R lists key o → lookup (is_at (file_cmp key)) lists ≡ o
found_ids R same lists key o h = subst (λ (r : Order). lookup (is_at (r key)) lists ≡ o) same h

put_there : (R : Order) → R ≡ file_cmp → (old new : ListsValue) (key : FileId) (ids w : List FileId) → IsFound R old key (Some ids) → new ≡ set_value (is_at (R key)) old w → IsPut old new key w
put_there R same old new key ids w there set k =
    ap (λ xs. lookup (is_at (file_cmp k)) xs) (subst (λ (r : Order). new ≡ set_value (is_at (r key)) old w) same set)
    ∙ lookup-set_value (eq_by_cmp_equiv file_total) (is_at (file_cmp key)) (alike key) k w old (subst IsSome (sym (found_ids R same old key (Some ids) there)) refl)

pub bare : (w : List FileId) → length w ≡ 0 → w ≡ []
bare [] h = refl
bare (x ∷ xs) h = absurd (omega arith)

-- an empty set is taken out
bare_by : (t : Bool) (old : ListsValue) (key k q : FileId) → is_same_file key k ≡ t → ids_at old key ≡ [] → is_one_of q (or_none (cond t None (lookup (is_at (file_cmp k)) old))) ≡ has old k q
bare_by false old key k q e none = refl
bare_by true old key k q e none = sym (ap (λ p. has old p q) (sym (is_same_file-true key k e)) ∙ ap (is_one_of q) none)

bare_gone : (R : Order) → R ≡ file_cmp → (old new : ListsValue) (key : FileId) → ids_at old key ≡ [] → ((q : FileId) → lookup (is_at (R q)) new ≡ cond (is_at (R key) q) None (lookup (is_at (R q)) old))
    → (k q : FileId) → has new k q ≡ has old k q
bare_gone R same old new key none out k q =
    let gone : lookup (is_at (file_cmp k)) new ≡ cond (is_same_file key k) None (lookup (is_at (file_cmp k)) old) =
    (subst (λ (r : Order). (p : FileId) → lookup (is_at (r p)) new ≡ cond (is_at (r key) p) None (lookup (is_at (r p)) old)) same out) k in
    ap (λ o. is_one_of q (or_none o)) gone ∙ bare_by (is_same_file key k) old key k q refl none

-- the set of an id that had one
module _ (R : Order) (same : R ≡ file_cmp) (old new view : ListsValue) (key file : FileId) (ids w : List FileId) (there : IsFound R old key (Some ids)) (set : new ≡ set_value (is_at (R key)) old w) (is : old ≡ view) where
  was : ids_at old key ≡ ids
  was = ap or_none (found_ids R same old key (Some ids) there)

  -- it is this one from then on
  set_is : ids_at new key ≡ w
  set_is = ap or_none (put_there R same old new key ids w there set key ∙ ap (λ b. cond b (Some w) (lookup (is_at (file_cmp key)) old)) (is_same_file-refl key))

  pub more_there : ((q : FileId) → is_one_of q w ≡ (is_same_file file q || is_one_of q ids))
      → (k q : FileId) → has new k q ≡ ((is_same_file key k && is_same_file file q) || has view k q)
  more_there more k q = more_at old new key w ids (put_there R same old new key ids w there set) was file more k q ∙ ap (λ l. (is_same_file key k && is_same_file file q) || has l k q) is

  pub less_there : ((q : FileId) → is_one_of q w ≡ (not (is_same_file file q) && is_one_of q ids))
      → (k q : FileId) → has new k q ≡ (not (is_same_file key k && is_same_file file q) && has view k q)
  less_there less k q = less_at old new key w ids (put_there R same old new key ids w there set) was file less k q ∙ ap (λ l. not (is_same_file key k && is_same_file file q) && has l k q) is

  -- and where it is empty it is taken out
  pub less_gone : ((q : FileId) → is_one_of q w ≡ (not (is_same_file file q) && is_one_of q ids)) → w ≡ []
      → (gone : ListsValue) → ((q : FileId) → lookup (is_at (R q)) gone ≡ cond (is_at (R key) q) None (lookup (is_at (R q)) new))
      → (k q : FileId) → has gone k q ≡ (not (is_same_file key k && is_same_file file q) && has view k q)
  less_gone less none gone out k q = bare_gone R same new gone key (set_is ∙ none) out k q ∙ less_there less k q

  pub kept_there : w ≡ ids → (k q : FileId) → has new k q ≡ has view k q
  kept_there kept k q = kept_at old new key w ids (put_there R same old new key ids w there set) was kept k q ∙ ap (λ l. has l k q) is

pub put_new : (R : Order) → (before old new : ListsValue) (key : FileId) (w : List FileId) → before ≡ old → new ≡ insert_entry R before key w → new ≡ insert_entry R old key w
put_new R before old new key w same put = put ∙ ap (λ xs. insert_entry R xs key w) same

-- the set of an id that had none
pub more_new : (R : Order) → R ≡ file_cmp → (old new view : ListsValue) (key file : FileId) (none w : List FileId) → IsFound R old key None → new ≡ insert_entry R old key w → old ≡ view → none ≡ []
    → ((q : FileId) → is_one_of q w ≡ (is_same_file file q || is_one_of q none))
    → (k q : FileId) → has new k q ≡ ((is_same_file key k && is_same_file file q) || has view k q)
more_new R same old new view key file none w absent put is empty more k q =
    let made : IsPut old new key w = λ p.
    ap (λ xs. lookup (is_at (file_cmp p)) xs) (subst (λ (r : Order). new ≡ insert_entry r old key w) same put)
    ∙ lookup-insert_entry file_cmp file_total p key w old ∙ ap (λ b. cond b (Some w) (lookup (is_at (file_cmp p)) old)) (same_sym p key) in
    more_at old new key w none made (ap or_none (found_ids R same old key None absent) ∙ sym empty) file more k q ∙ ap (λ l. (is_same_file key k && is_same_file file q) || has l k q) is

and_false : (b : Bool) → false ≡ (b && false)
and_false true = refl
and_false false = refl

-- and from which one goes
less_by : (t : Bool) (old : ListsValue) (key file k q : FileId) → is_same_file key k ≡ t → ids_at old key ≡ [] → has old k q ≡ (not (t && is_same_file file q) && has old k q)
less_by false old key file k q e none = refl
less_by true old key file k q e none =
    let gone : has old k q ≡ false = ap (λ p. has old p q) (sym (is_same_file-true key k e)) ∙ ap (is_one_of q) none in
    gone ∙ and_false (not (is_same_file file q)) ∙ ap (λ b. not (is_same_file file q) && b) (sym gone)

pub less_none : (R : Order) → R ≡ file_cmp → (old new view : ListsValue) (key file : FileId) → IsFound R old key None → new ≡ old → old ≡ view
    → (k q : FileId) → has new k q ≡ (not (is_same_file key k && is_same_file file q) && has view k q)
less_none R same old new view key file absent kept is k q =
    ap (λ l. has l k q) (kept ∙ is) ∙ less_by (is_same_file key k) view key file k q refl (ap (λ l. ids_at l key) (sym is) ∙ ap or_none (found_ids R same old key None absent))
