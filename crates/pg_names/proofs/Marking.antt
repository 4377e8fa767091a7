-- Marks that come one by one, and holders that go so.
use Rattle.std.proofs.Common.{◌≡◌, Bool, true, false, ◌||◌, ◌&&◌, not, List, [], ◌∷◌, Option, None, Some, is_some, Bor, refl, sym, ap, ◌∙◌}
use Rattle.std.specs.Map.{keys_of}
use Rattle.std.specs.Option.{option_copied}
use Rattle.std.proofs.lemmas.Bool.{and_parts}
use Rattle.pg_base.specs.declared.id.FileId.{FileId}
use Rattle.pg_base.specs.Id.{is_same_file}
use Rattle.pg_base.proofs.Orders.{is_same_file-true}
use Rattle.pg_entries.specs.declared.entry.Entry.{Entry}
use Rattle.pg_entries.specs.Entry.{entry_of}
use Rattle.pg_index.specs.Ids.{ListsValue, has, is_one_of}
use Rattle.pg_index.proofs.Members.{found, same_sym}
use Rattle.pg_names.specs.declared.spots.Spot.{Spot}
use Rattle.pg_names.specs.declared.spots.Spots.{Spots}
use Rattle.pg_names.specs.Calm.{is_cell, is_spot}
use Rattle.pg_names.specs.Indexed.{has_spot}
use Rattle.pg_names.proofs.Frames.{IsGrown, grown_insert}

-- stays: what was marked is
-- total: what is marked or still comes
pub record Goes (before now : List FileId) (files rest : List FileId) : Type 0 where
  pub stays : IsGrown before now
  pub total : (q : FileId) → (is_one_of q rest || is_one_of q now) ≡ (is_one_of q files || is_one_of q before)

pub goes_from : (marks files rest : List FileId) → rest ≡ files → Goes marks marks files rest
goes_from marks files rest is = record { stays = λ q h. h; total = λ q. ap (λ xs. is_one_of q xs || is_one_of q marks) is }

turned : (k r m : Bool) → (r || (k || m)) ≡ ((k || r) || m)
turned true true m = refl
turned true false m = refl
turned false true m = refl
turned false false m = refl

pub goes_on : (before now next files rest left : List FileId) (k : FileId) → Goes before now files rest → rest ≡ k ∷ left → ((q : FileId) → is_one_of q next ≡ (is_same_file k q || is_one_of q now)) → Goes before next files left
goes_on before now next files rest left k g more put = record {
  stays = λ q h. grown_insert now next k put q (g.stays q h);
  total = λ q. ap (λ b. is_one_of q left || b) (put q ∙ ap (λ b. b || is_one_of q now) (same_sym k q)) ∙ turned (is_same_file q k) (is_one_of q left) (is_one_of q now)
      ∙ ap (λ xs. is_one_of q xs || is_one_of q now) (sym more) ∙ g.total q;
}

or_first : (a b : Bool) → a ≡ true → (a || b) ≡ true
or_first a b h = ap (λ x. x || b) h

pub goes_all : (before now files rest : List FileId) → Goes before now files rest → rest ≡ [] → (q : FileId) → is_one_of q files ≡ true → is_one_of q now ≡ true
goes_all before now files rest g none q h = ap (λ xs. is_one_of q xs || is_one_of q now) (sym none) ∙ g.total q ∙ or_first (is_one_of q files) (is_one_of q before) h

-- ---- holders

-- what is left of them, where these are still to go
abbrev pub Drops : FileId → ListsValue → ListsValue → List FileId → List FileId → Type 0
Drops dir before now files rest = (child q : FileId) → (not (is_same_file dir q && is_one_of child rest) && has now child q) ≡ (not (is_same_file dir q && is_one_of child files) && has before child q)

pub drops_from : (dir : FileId) (holders : ListsValue) (files rest : List FileId) → rest ≡ files → Drops dir holders holders files rest
drops_from dir holders files rest is child q = ap (λ xs. not (is_same_file dir q && is_one_of child xs) && has holders child q) is

less : (d k r h : Bool) → (not (d && r) && (not (k && d) && h)) ≡ (not (d && (k || r)) && h)
less false true r h = refl
less false false r h = refl
less true true true h = refl
less true true false h = refl
less true false true h = refl
less true false false h = refl

pub drops_on : (dir : FileId) (before now next : ListsValue) (files rest left : List FileId) (k : FileId) → Drops dir before now files rest → rest ≡ k ∷ left
    → ((child q : FileId) → has next child q ≡ (not (is_same_file k child && is_same_file dir q) && has now child q)) → Drops dir before next files left
drops_on dir before now next files rest left k g more cut child q =
    ap (λ b. not (is_same_file dir q && is_one_of child left) && b) (cut child q ∙ ap (λ b. not (b && is_same_file dir q) && has now child q) (same_sym k child))
    ∙ less (is_same_file dir q) (is_same_file child k) (is_one_of child left) (has now child q)
    ∙ ap (λ xs. not (is_same_file dir q && is_one_of child xs) && has now child q) (sym more) ∙ g child q

no_more : (d h : Bool) → h ≡ (not (d && false) && h)
no_more true h = refl
no_more false h = refl

pub cell_some : (o : Option Entry) → is_some o ≡ is_cell o
cell_some None = refl
cell_some (Some e) = refl

-- what is lent is there where the thing itself is
pub lent_some : {X : Type 0} (o : Option (Bor X)) → is_some (option_copied o) ≡ is_some o
lent_some None = refl
lent_some (Some b) = refl

pub drops_all : (dir : FileId) (before now : ListsValue) (entries : List (FileId × Entry)) (rest : List FileId) → Drops dir before now (keys_of entries) rest → rest ≡ []
    → (child q : FileId) → has now child q ≡ (not (is_same_file dir q && is_cell (entry_of entries child)) && has before child q)
drops_all dir before now entries rest g none child q =
    no_more (is_same_file dir q) (has now child q) ∙ ap (λ xs. not (is_same_file dir q && is_one_of child xs) && has now child q) (sym none) ∙ g child q
    ∙ ap (λ b. not (is_same_file dir q && b) && has before child q) (found child entries ∙ cell_some (entry_of entries child))

-- ---- what came is taken back

undone : (s h : Bool) → (s ≡ true → h ≡ false) → (not s && (s || h)) ≡ h
undone true h e = sym (e refl)
undone false h e = refl

was_there : (s h : Bool) → (s ≡ true → h ≡ true) → (s || h) ≡ h
was_there true h e = sym (e refl)
was_there false h e = refl

module _ (old put : ListsValue) (c d : FileId) (came : (k q : FileId) → has put k q ≡ ((is_same_file c k && is_same_file d q) || has old k q)) where
  at_both : (k q : FileId) (b : Bool) → has old c d ≡ b → (is_same_file c k && is_same_file d q) ≡ true → has old k q ≡ b
  at_both k q b h s =
      let p = and_parts (is_same_file c k) (is_same_file d q) s in
      ap (λ x. has old x q) (sym (is_same_file-true c k p.0)) ∙ ap (has old c) (sym (is_same_file-true d q p.1)) ∙ h

  pub taken_back : (new : ListsValue) → ((k q : FileId) → has new k q ≡ (not (is_same_file c k && is_same_file d q) && has put k q)) → has old c d ≡ false → (k q : FileId) → has new k q ≡ has old k q
  taken_back new went none k q =
      went k q ∙ ap (λ b. not (is_same_file c k && is_same_file d q) && b) (came k q) ∙ undone (is_same_file c k && is_same_file d q) (has old k q) (at_both k q false none)

  pub was_holder : has old c d ≡ true → (k q : FileId) → has put k q ≡ has old k q
  was_holder there k q = came k q ∙ was_there (is_same_file c k && is_same_file d q) (has old k q) (at_both k q true there)

pub spot_back : (old put new : Spots) (f : FileId) (spot : Spot) → ((live : Bool) (dir q : FileId) → has_spot put live dir q ≡ ((is_same_file f q && is_spot live dir f spot) || has_spot old live dir q))
    → ((live : Bool) (dir q : FileId) → has_spot new live dir q ≡ (not (is_same_file f q && is_spot live dir f spot) && has_spot put live dir q))
    → (live : Bool) (dir q : FileId) → has_spot old live dir f ≡ false → has_spot new live dir q ≡ has_spot old live dir q
spot_back old put new f spot came left live dir q away =
    let s = is_same_file f q && is_spot live dir f spot in
    left live dir q ∙ ap (λ b. not s && b) (came live dir q)
    ∙ undone s (has_spot old live dir q) (λ both. let p = and_parts (is_same_file f q) _ both in ap (has_spot old live dir) (sym (is_same_file-true f q p.0)) ∙ away)
