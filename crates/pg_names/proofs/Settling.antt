-- A thing that was found calm is marked no longer.
use Rattle.std.proofs.Common.{◌≡◌, ℕ, zero, suc, Bool, true, false, ◌||◌, ◌&&◌, not, if◌then◌else◌, inl, inr, List, [], ◌∷◌, Option, Some, refl, sym, ap, subst, ◌∙◌}
use Rattle.std.specs.List.{list_any}
use Rattle.std.proofs.lemmas.Bool.{and_parts, false≢true, true≢false}
use Rattle.pg_base.specs.declared.id.FileId.{FileId}
use Rattle.pg_base.specs.Id.{is_same_file}
use Rattle.pg_base.proofs.Orders.{is_same_file-true}
use Rattle.pg_register.specs.Flag.{IsByServer, is_live}
use Rattle.pg_entries.specs.declared.entry.Entry.{Entry}
use Rattle.pg_index.specs.Ids.{ListsValue, ids_at, is_one_of}
use Rattle.pg_names.specs.declared.spots.Spots.{Spots}
use Rattle.pg_names.specs.Names.{InodeValue, NamesValue, cell_at, known}
use Rattle.pg_names.specs.Same.{is_same_entry}
use Rattle.pg_names.specs.Calm.{AllCome, AreCalm, Comes, IsCalm, IsSettled, IsStop, above, cell_for, is_cell, is_inner, is_returning, is_root, lacks_cell, lacks_parent}
use Rattle.pg_names.specs.Indexed.{IsIndexed}
use Rattle.pg_names.specs.Tests.{comes, is_apart_at, is_apart_by, is_found_calm, is_settled, is_sound, passes}
use Rattle.pg_names.proofs.Alike.{entry-true}

is_no : (b : Bool) → not b ≡ true → b ≡ false
is_no false h = refl
is_no true h = absurd (false≢true h)

is_yes : (b : Bool) → not b ≡ false → b ≡ true
is_yes true h = refl
is_yes false h = absurd (true≢false h)

or_parts : (a b : Bool) → (a || b) ≡ false → (a ≡ false) × (b ≡ false)
or_parts false b h = (refl, h)
or_parts true b h = absurd (true≢false h)

-- ---- the cells

none_by : (p : FileId → Bool) (k q : FileId) (ids : List FileId) (t : Bool) → is_same_file q k ≡ t → (t || is_one_of q ids) ≡ true → p k ≡ false → (is_one_of q ids ≡ true → p q ≡ false) → p q ≡ false
none_by p k q ids true same h free rest = ap p (is_same_file-true q k same) ∙ free
none_by p k q ids false apart h free rest = rest h

none_at : (p : FileId → Bool) (ids : List FileId) → list_any p ids ≡ false → (q : FileId) → is_one_of q ids ≡ true → p q ≡ false
none_at p [] h q has = absurd (false≢true has)
none_at p (k ∷ ids) h q has =
    let parts = or_parts (p k) (list_any p ids) h in
    none_by p k q ids (is_same_file q k) refl has parts.0 (none_at p ids parts.1 q)

module _ (s : NamesValue) (f : FileId) (dirs : List FileId) (held : (dir : FileId) → is_cell (cell_at s dir f) ≡ true → is_one_of dir dirs ≡ true) where
  settled_from : (x : InodeValue) (t : Bool) → is_root f ≡ t → (t || (not (lacks_cell s f x.own.place) && (not (lacks_parent s x.own.place) && not (is_returning f x)))) ≡ true → t ≡ false → IsSettled s f x
  settled_from x true root h other = absurd (true≢false other)
  settled_from x false root h other =
      let a = and_parts (not (lacks_cell s f x.own.place)) _ h in
      let b = and_parts (not (lacks_parent s x.own.place)) _ a.1 in
      record { cell = is_no (lacks_cell s f x.own.place) a.0; parent = is_no (lacks_parent s x.own.place) b.0; returning = is_no (is_returning f x) b.1 }

  passed : (x : InodeValue) → IsByServer x.own.flags → passes s dirs f (Some x) ≡ true → IsCalm s f x
  passed x rises h =
      let a = and_parts (is_sound s x) _ h in
      let b = and_parts (is_settled s f x) _ a.1 in
      let full = and_parts x.full _ a.0 in
      let gold = and_parts (list_any (is_live s.removed) x.own.flags) _ full.1 in
      let same : (dir : FileId) (cell : Entry) → cell_at s dir f ≡ Some cell → cell ≡ cell_for f x.own = λ dir cell c.
      entry-true cell (cell_for f x.own) (is_yes (is_same_entry cell (cell_for f x.own))
      (sym (ap (is_apart_by f x.own) c) ∙ none_at (is_apart_at s f x.own) dirs (is_no _ b.1) dir (held dir (ap is_cell c)))) in
      record {
        cells = same;
        full = full.0;
        gold = gold.0;
        number = is_no _ gold.1;
        by_server = rises;
        settled = λ other. settled_from x (is_root f) refl b.0 other;
      }

  found_by : (o : Option InodeValue) (x : InodeValue) → IsByServer x.own.flags → passes s dirs f o ≡ true → o ≡ Some x → IsCalm s f x
  found_by o x rises h is = passed x rises (ap (passes s dirs f) (sym is) ∙ h)

-- ---- the way up

comes_by : (s : NamesValue) (e : List FileId) (n : ℕ) (dir : FileId) (t : Bool) → is_inner s dir ≡ t → (if t then comes s n (above s dir) else true) ≡ true → (comes s n (above s dir) ≡ true → Comes s e n (above s dir)) → Comes s e (suc n) dir
comes_by s e n dir false out h up = inl (inr out)
comes_by s e n dir true inner h up = inr (up h)

comes_out : (s : NamesValue) (e : List FileId) (n : ℕ) (dir : FileId) → comes s n dir ≡ true → Comes s e n dir
comes_out s e zero dir h = absurd (false≢true h)
comes_out s e (suc n) dir h = comes_by s e n dir (is_inner s dir) refl h (comes_out s e n (above s dir))

module _ (s : NamesValue) (f : FileId) (d e : List FileId) (less : (q : FileId) → is_one_of q e ≡ (not (is_same_file f q) && is_one_of q d)) (count : ℕ) (ends : comes s count f ≡ true) where
  stays_by : (dir : FileId) (t : Bool) → is_same_file f dir ≡ t → is_one_of dir d ≡ true → (m : ℕ) × Comes s e m dir
  stays_by dir true same there = (count, subst (Comes s e count) (is_same_file-true f dir same) (comes_out s e count f ends))
  stays_by dir false apart there = (0, inl (less dir ∙ ap (λ b. not b && is_one_of dir d) apart ∙ there))

  stop_by : (dir : FileId) → IsStop s d dir → (m : ℕ) × Comes s e m dir
  stop_by dir st = elim st [
    | inl there ↦ stays_by dir (is_same_file f dir) refl there
    | inr out ↦ (0, inr out)
  ]

  longer : (n : ℕ) (dir : FileId) → Comes s d n dir → (m : ℕ) × Comes s e m dir
  longer zero dir st = stop_by dir st
  longer (suc n) dir c = elim c [
    | inl st ↦ stop_by dir st
    | inr up ↦ let r = longer n (above s dir) up in (suc r.0, inr r.1)
  ]

  all_still : AllCome s d → AllCome s e
  all_still all dir = let c = all dir in longer c.0 dir c.1

calm_still : (s : NamesValue) (f : FileId) (d e : List FileId) → ((q : FileId) → is_one_of q e ≡ (not (is_same_file f q) && is_one_of q d)) → AreCalm s d → ((x : InodeValue) → known s f ≡ Some x → IsCalm s f x)
    → (q : FileId) (x : InodeValue) (t : Bool) → is_same_file f q ≡ t → known s q ≡ Some x → is_one_of q e ≡ false → IsCalm s q x
calm_still s f d e less calm here q x true same k free =
    let is : f ≡ q = is_same_file-true f q same in
    subst (λ p. IsCalm s p x) is (here x (ap (known s) is ∙ k))
calm_still s f d e less calm here q x false apart k free = calm q x k (sym (less q ∙ ap (λ b. not b && is_one_of q d) apart) ∙ free)

pub settled_indexed : (s : NamesValue) (f : FileId) (d e dirs : List FileId) (spots : Spots) (holders : ListsValue) (count : ℕ) → is_found_calm s (ids_at holders f) count f ≡ true
    → ((x : InodeValue) → known s f ≡ Some x → IsByServer x.own.flags)
    → ((q : FileId) → is_one_of q e ≡ (not (is_same_file f q) && is_one_of q d)) → IsIndexed s d dirs spots holders → IsIndexed s e dirs spots holders
settled_indexed s f d e dirs spots holders count found rises less ix =
    let both = and_parts (passes s (ids_at holders f) f (known s f)) _ found in
    let here : (x : InodeValue) → known s f ≡ Some x → IsCalm s f x = λ x k. found_by s f (ids_at holders f) (λ dir c. ix.holders_are f dir ∙ c) (known s f) x (rises x k) both.0 k in
    record {
      calm = λ q x k free. calm_still s f d e less ix.calm here q x (is_same_file f q) refl k free;
      come = all_still s f d e less count both.1 ix.come;
      dirs_are = ix.dirs_are;
      spots_are = ix.spots_are;
      holders_are = ix.holders_are;
    }
