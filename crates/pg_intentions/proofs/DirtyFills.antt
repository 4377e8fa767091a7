-- What is not dirty is full, and its parent is held.
use Rattle.std.proofs.Common.{◌≡◌, Bool, true, false, ◌&&◌, ◌||◌, not, cond, ◌<◌, List, [], ◌∷◌, length, get_or, Option, None, Some, refl, sym, ap, ◌∙◌, subst, All}
use Rattle.std.specs.List.{filter}
use Rattle.std.specs.List.Sorted.{IsStrictlySortedBy}
use Rattle.std.specs.Map.{keys_of, lookup}
use Rattle.std.specs.BTreeMap.{insert_entry, is_at}
use Rattle.std.proofs.lemmas.Bool.{or_parts}
use Rattle.std.proofs.lemmas.List.Elements.{All-head, All-tail}
use Rattle.pg_base.specs.declared.id.FileId.{FileId}
use Rattle.pg_base.specs.Id.{file_cmp}
use Rattle.pg_base.proofs.Orders.{file_total}
use Rattle.pg_base.proofs.Entries.{lookup-place}
use Rattle.pg_graph.specs.pg_names.Names.{InodeValue, NamesValue, is_held, known}
use Rattle.pg_graph.specs.pg_names.Calm.{AreCalm, IsCalm}
use Rattle.pg_graph.specs.pg_house.Work.{is_root}
use Rattle.pg_graph.proofs.pg_pieces.pg_house.Dirty.{of_dirty}
use Rattle.pg_graph.specs.pg_replica.Index.{Files}
use Rattle.pg_intentions.specs.Fills.{files_to_fill, lacks_parent, with_each, with_filling, with_held, with_known, with_parent}

-- something of it is to be filled
abbrev pub is_short : NamesValue → FileId → Option InodeValue → Bool
is_short s q None = false
is_short s q (Some x) = not x.full || lacks_parent s q x

full_is : (t : Bool) → not t ≡ false → t ≡ true
full_is true h = refl
full_is false h = sym h

module _ (s : NamesValue) where
  abbrev Test : FileId → Bool
  Test q = is_short s q (known s q)

  -- of each of these
  abbrev pub with_all : Files → List FileId → Files
  with_all files [] = files
  with_all files (q ∷ qs) = with_all (with_known s files q (known s q)) qs

  -- ---- what is short of nothing adds nothing
  nothing_of : (files : Files) (q : FileId) (x : InodeValue) → is_short s q (Some x) ≡ false → with_held s files q x ≡ files
  nothing_of files q x h =
      let both = or_parts (not x.full) (lacks_parent s q x) h in
      ap (λ t. with_parent s (cond t files (insert_entry file_cmp files q tt)) q x) (full_is x.full both.0)
      ∙ ap (λ t. cond t (insert_entry file_cmp files x.own.place.parent tt) files) both.1

  nothing_by : (files : Files) (q : FileId) (o : Option InodeValue) → is_short s q o ≡ false → with_known s files q o ≡ files
  nothing_by files q None h = refl
  nothing_by files q (Some x) h = nothing_of files q x h

  all_by : (q : FileId) (qs : List FileId) (files : Files) (t : Bool) → Test q ≡ t → ((fs : Files) → with_all fs (filter Test qs) ≡ with_all fs qs)
      → with_all files (cond t (q ∷ filter Test qs) (filter Test qs)) ≡ with_all (with_known s files q (known s q)) qs
  all_by q qs files true h rest = rest (with_known s files q (known s q))
  all_by q qs files false h rest = rest files ∙ sym (ap (λ (fs : Files). with_all fs qs) (nothing_by files q (known s q) h))

  all_where : (qs : List FileId) (files : Files) → with_all files (filter Test qs) ≡ with_all files qs
  all_where [] files = refl
  all_where (q ∷ qs) files = all_by q qs files (Test q) refl (all_where qs)

  -- ---- all that is held, by its ids
  abbrev AreFound : List (FileId × InodeValue) → Type 0
  AreFound es = All (λ (e : FileId × InodeValue). known s e.0 ≡ Some e.1) es

  each_is : (es : List (FileId × InodeValue)) (files : Files) → AreFound es → with_each s files es ≡ with_all files (keys_of es)
  each_is [] files found = refl
  each_is (e ∷ es) files found =
      let P : FileId × InodeValue → Type 0 = λ e. known s e.0 ≡ Some e.1 in
      ap (λ (o : Option InodeValue). with_each s (with_known s files e.0 o) es) (sym (All-head P e es found))
      ∙ each_is es (with_known s files e.0 (known s e.0)) (All-tail P e es found)

  unheld : (q : FileId) → known s q ≡ None → Test q ≡ false
  unheld q h = ap (is_short s q) h

  root_or : (t a : Bool) → ((t ≡ false) → a ≡ false) → (not t && a) ≡ false
  root_or true a h = refl
  root_or false a h = h refl

  quiet : (q : FileId) (x : InodeValue) → known s q ≡ Some x → IsCalm s q x → Test q ≡ false
  quiet q x h c =
      ap (is_short s q) h
      ∙ ap (λ t. not t || lacks_parent s q x) c.full
      ∙ root_or (is_root q) (x.own.place.live && not (is_held s x.own.place.parent)) (λ r. (c.settled r).parent)

  pub dirty_fills : (ids : List FileId) → IsStrictlySortedBy file_cmp (keys_of s.held) → IsStrictlySortedBy file_cmp ids → AreCalm s ids
      → with_all [] ids ≡ files_to_fill s
  dirty_fills ids sorted rises calm =
      sym (all_where ids [])
      ∙ ap (with_all []) (sym (of_dirty s ids sorted rises calm Test unheld quiet))
      ∙ all_where (keys_of s.held) []
      ∙ sym (each_is s.held [] (λ i d lt. lookup-place file_cmp file_total (get_or s.held i d).0 (get_or s.held i d).1 s.held i d sorted lt refl))
