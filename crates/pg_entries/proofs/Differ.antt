-- No two children that a directory lists show one name.
use Rattle.std.proofs.Common.{◌≡◌, ℕ, refl, Bool, true, false, cond, ◌&&◌, List, ◌++◌, sym, ap, ◌∙◌, Less, Equal, Greater}
use Rattle.std.specs.declared.cmp.Ordering.{Ordering}
use Rattle.std.specs.Ordering.{ordering_then, ordering_reverse, is_lt, is_eq}
use Rattle.std.specs.List.{list_any, IsAmong}
use Rattle.std.specs.Map.{values_of}
use Rattle.std.proofs.lemmas.List.Folds.{list_any-from_Any}
use Rattle.std.proofs.lemmas.Bool.{false_from_ne_true, and_from}
use Rattle.pg_base.specs.declared.id.FileId.{FileId}
use Rattle.pg_base.specs.Id.{file_cmp}
use Rattle.pg_base.proofs.Orders.{is_same_file-true}
use Rattle.pg_register.specs.Place.{tilde_name}
use Rattle.pg_entries.specs.declared.entry.Entry.{Entry}
use Rattle.pg_entries.specs.Entry.{is_listed}
use Rattle.pg_entries.specs.Names.{HasName}
use Rattle.pg_entries.specs.Shown.{claim_of, claim_cmp, is_rival, is_hidden, shown_name}
use Rattle.pg_entries.proofs.Claims.{claim_total, same_name-is}
use Rattle.pg_entries.proofs.Tildes.{own_or_plain, both_with_id}

none_passes : {X : Type 0} (p : X → Bool) (xs : List X) (x : X) → list_any p xs ≡ false → IsAmong xs x → p x ≡ false
none_passes p xs x none at =
    false_from_ne_true (p x) (λ h. let some = list_any-from_Any p xs (at.0, x, at.1.0, sym at.1.1, h) in (let y : true ≡ false = sym some ∙ none in cc))

-- a child that is not hidden goes before each other of its name
not_before : (es : List (FileId × Entry)) (dir : FileId) (a b : Entry) → is_hidden es dir a ≡ false → IsAmong (values_of es) b → is_listed dir b ≡ true → b.place.name ≡ a.place.name → is_lt (claim_cmp (claim_of b) (claim_of a)) ≡ false
not_before es dir a b plain at listed same =
    let rival : is_rival dir a.place.name b ≡ true = and_from (is_listed dir b) _ listed (same_name-is b.place.name a.place.name same) in
    sym (ap (λ t. t && is_lt (claim_cmp (claim_of b) (claim_of a))) rival) ∙ none_passes (λ (o : Entry). is_rival dir a.place.name o && is_lt (claim_cmp (claim_of o) (claim_of a))) (values_of es) b plain at

pub tied_by : (x y : Ordering) → x ≡ ordering_reverse y → is_lt x ≡ false → is_lt y ≡ false → x ≡ Equal
tied_by x Less e h k = cc
tied_by x Equal e h k = e
tied_by x Greater e h k = (let z : is_lt x ≡ true = ap is_lt e in cc)

second_tied : (x y : Ordering) → ordering_then x y ≡ Equal → y ≡ Equal
second_tied Less y e = cc
second_tied Equal y e = e
second_tied Greater y e = cc

both_plain : (es : List (FileId × Entry)) (dir : FileId) (a b : Entry) → IsAmong (values_of es) a → IsAmong (values_of es) b → is_listed dir a ≡ true → is_listed dir b ≡ true → is_hidden es dir a ≡ false → is_hidden es dir b ≡ false → a.place.name ≡ b.place.name → a.child ≡ b.child
both_plain es dir a b at bt al bl ah bh same =
    let tied = tied_by (claim_cmp (claim_of a) (claim_of b)) (claim_cmp (claim_of b) (claim_of a)) (claim_total.antisymm (claim_of a) (claim_of b)) (not_before es dir b a bh at al same) (not_before es dir a b ah bt bl (sym same)) in
    is_same_file-true a.child b.child (ap is_eq (second_tied _ (file_cmp a.child b.child) tied))

abbrev name_by : Bool → Entry → List ℕ
name_by t e = cond t (e.place.name ++ tilde_name e.child) e.place.name

differ_by : (es : List (FileId × Entry)) (dir : FileId) (a b : Entry) (t u : Bool) → is_hidden es dir a ≡ t → is_hidden es dir b ≡ u → IsAmong (values_of es) a → IsAmong (values_of es) b → is_listed dir a ≡ true → is_listed dir b ≡ true → HasName a → HasName b
    → name_by t a ≡ name_by u b → a.child ≡ b.child
differ_by es dir a b false false ah bh at bt al bl an bn same = both_plain es dir a b at bt al bl ah bh same
differ_by es dir a b true true ah bh at bt al bl an bn same = both_with_id a.place.name b.place.name a.child b.child an.id bn.id same
differ_by es dir a b false true ah bh at bt al bl an bn same = own_or_plain a.place.name b.place.name a.child b.child an.id bn.id an.name same
differ_by es dir a b true false ah bh at bt al bl an bn same = sym (own_or_plain b.place.name a.place.name b.child a.child bn.id an.id bn.name (sym same))

pub differ : (es : List (FileId × Entry)) (dir : FileId) (a b : Entry) → IsAmong (values_of es) a → IsAmong (values_of es) b → is_listed dir a ≡ true → is_listed dir b ≡ true → HasName a → HasName b → shown_name es dir a ≡ shown_name es dir b → a.child ≡ b.child
differ es dir a b at bt al bl an bn same = differ_by es dir a b (is_hidden es dir a) (is_hidden es dir b) refl refl at bt al bl an bn same
