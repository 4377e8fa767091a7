-- What is known of each child after an entry came, and when nothing changes by it.
use Rattle.std.proofs.Common.{◌≡◌, ◌↔◌, IsTrue, Bool, true, false, cond, None, Some, List, refl, sym, ap, ◌∙◌}
use Rattle.std.specs.List.Sorted.{IsStrictlySortedBy}
use Rattle.std.specs.Map.{keys_of}
use Rattle.std.specs.BTreeMap.{is_at, insert_entry}
use Rattle.std.proofs.lemmas.Map.Steps.{set_value_same}
use Rattle.pg_base.specs.declared.id.FileId.{FileId}
use Rattle.pg_base.specs.Id.{file_cmp, is_same_file}
use Rattle.pg_base.proofs.Maps.{lookup-insert_entry}
use Rattle.pg_base.proofs.Orders.{file_total, is_same_file-true, is_same_file-refl}
use Rattle.pg_entries.specs.declared.entry.Entry.{Entry}
use Rattle.pg_entries.specs.Entry.{PutIsFound, JoinedIsFound, entry_of, join_entry, joined, joined_to}
use Rattle.pg_entries.proofs.Joining.{insert_there}

pub put_is_found : (es : List (FileId × Entry)) (e : Entry) (child : FileId) → PutIsFound es e child
put_is_found es e child = lookup-insert_entry file_cmp file_total child e.child e es

joined_by : (es : List (FileId × Entry)) (e : Entry) (child : FileId) (t : Bool) → is_same_file child e.child ≡ t
    → cond t (Some (joined_to (entry_of es e.child) e)) (entry_of es child) ≡ cond t (Some (joined_to (entry_of es child) e)) (entry_of es child)
joined_by es e child true same = ap (λ q. Some (joined_to (entry_of es q) e)) (sym (is_same_file-true child e.child same))
joined_by es e child false other = refl

pub joined_is_found : (es : List (FileId × Entry)) (e : Entry) (child : FileId) → JoinedIsFound es e child
joined_is_found es e child =
    lookup-insert_entry file_cmp file_total child e.child (joined_to (entry_of es e.child) e) es
    ∙ joined_by es e child (is_same_file child e.child) refl

own_found : (es : List (FileId × Entry)) (e : Entry) → entry_of (join_entry es e) e.child ≡ Some (joined_to (entry_of es e.child) e)
own_found es e =
    joined_is_found es e e.child
    ∙ ap (λ t. cond t (Some (joined_to (entry_of es e.child) e)) (entry_of es e.child)) (is_same_file-refl e.child)

some_same : {A : Type 0} (x y : A) → Some x ≡ Some y → x ≡ y
some_same x y e = cc

-- where an entry of the child stands, nothing changes where that stays
pub stays_there : (es : List (FileId × Entry)) (e held : Entry) (t : Bool) → IsStrictlySortedBy file_cmp (keys_of es) → entry_of es e.child ≡ Some held → IsTrue t ↔ (joined held e ≡ held) → IsTrue t ↔ (join_entry es e ≡ es)
stays_there es e held t s there h =
    let with : joined_to (entry_of es e.child) e ≡ joined held e = ap (λ o. joined_to o e) there in (
      λ k.
          let same : joined_to (entry_of es e.child) e ≡ held = with ∙ h.0 k in
          ap (insert_entry file_cmp es e.child) same ∙ insert_there e.child held held es s there ∙ set_value_same (is_at (file_cmp e.child)) es held there,
      λ same.
          h.1 (some_same (joined held e) held (sym (ap Some with) ∙ sym (own_found es e) ∙ ap (λ xs. entry_of xs e.child) same ∙ there)),
    )

-- and a new child changes something
pub stays_nowhere : (es : List (FileId × Entry)) (e : Entry) → entry_of es e.child ≡ None → IsTrue false ↔ (join_entry es e ≡ es)
stays_nowhere es e none = (
  λ k. absurd (let x : false ≡ true = k in cc),
  λ same. absurd (let x : Some (joined_to (entry_of es e.child) e) ≡ None = sym (own_found es e) ∙ ap (λ xs. entry_of xs e.child) same ∙ none in cc),
)
