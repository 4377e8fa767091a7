-- The indexes after one thing more is held.
use Rattle.std.proofs.Common.{◌≡◌, Bool, true, false, ◌||◌, ◌&&◌, cond, inl, inr, List, Option, None, Some, is_some, refl, sym, ap, ◌∙◌}
use Rattle.std.proofs.lemmas.Bool.{false≢true}
use Rattle.pg_base.specs.declared.id.FileId.{FileId}
use Rattle.std.specs.List.Sorted.{IsStrictlySortedBy}
use Rattle.std.specs.Map.{keys_of}
use Rattle.std.specs.BTreeMap.{insert_entry}
use Rattle.pg_base.specs.Id.{file_cmp, is_same_file}
use Rattle.pg_base.proofs.Entries.{IsStrictlySortedBy-insert_entry, entries_from_lookup}
use Rattle.pg_base.proofs.Orders.{file_exact, file_total, is_same_file-true}
use Rattle.pg_index.specs.Ids.{ListsValue, is_one_of}
use Rattle.pg_names.specs.declared.attributes.Attributes.{Attributes}
use Rattle.pg_names.specs.declared.spots.Spots.{Spots}
use Rattle.pg_names.specs.Names.{InodeValue, NamesValue, begin, is_dir, is_held, known, let_go, new_held, own_of}
use Rattle.pg_names.specs.Calm.{AreCalm, IsSettled, is_cell, is_in, is_placed, is_root, is_spot, spot_of}
use Rattle.pg_names.specs.Indexed.{IsIndexed, has_spot}
use Rattle.pg_names.proofs.Lookups.{apart_back}
use Rattle.pg_names.proofs.Going.{of_parts, sorted_where, without}
use Rattle.pg_names.proofs.Gone.{gone_other}
use Rattle.pg_names.proofs.Holding.{begun_cells, begun_known, begun_other, begun_same}
use Rattle.pg_names.proofs.Frames.{IsGrown, IsOnWay, all_come, apart_from, calm_by, settled_by, unmarked}
use Rattle.pg_names.proofs.Departing.{AreMarked, back, not_dead, not_live}

or_no : (a b : Bool) → ((a && false) || b) ≡ b
or_no true b = refl
or_no false b = refl

no_or : (b : Bool) → (b || false) ≡ b
no_or true = refl
no_or false = refl

or_with : (a : Bool) → ((a && true) || (a && false)) ≡ (a && true)
or_with true = refl
or_with false = refl

module _ (s : NamesValue) (f : FileId) (own : Attributes) (full : Bool) (none : known s f ≡ None) (e : List FileId) (there : is_one_of f e ≡ true) (live_marked : AreMarked s true f e) (dead_marked : AreMarked s false f e) where
  known_other : (q : FileId) → is_same_file f q ≡ false → known (begin s f own full) q ≡ known s q
  known_other q apart = begun_other s f own full q (apart_back f q apart)

  held_other : (q : FileId) → is_same_file f q ≡ false → is_held (begin s f own full) q ≡ is_held s q
  held_other q apart = ap (λ (o : Option InodeValue). is_some o) (known_other q apart)

  settled_at : (q : FileId) (x : InodeValue) (t : Bool) → is_same_file f x.own.place.parent ≡ t → known s q ≡ Some x → is_one_of q e ≡ false → is_root q ≡ false → IsSettled s q x → IsSettled (begin s f own full) q x
  settled_at q x false apart k free other st = settled_by s (begin s f own full) q x (held_other x.own.place.parent apart) (begun_cells s f own full none x.own.place.parent q) st
  settled_at q x true same k free other st =
      let inside : is_same_file x.own.place.parent f ≡ true = back f x.own.place.parent same in
      absurd (false≢true (sym (not_live s f q e x x.own.place.live live_marked k free other inside refl) ∙ not_dead s f q e x x.own.place.live dead_marked k free other inside refl))

  calm_begun : (d : List FileId) → IsGrown d e → AreCalm s d → AreCalm (begin s f own full) e
  calm_begun d grown calm q x k free =
      let was : known s q ≡ Some x = sym (known_other q (apart_from e f q there free)) ∙ k in
      calm_by s (begin s f own full) q x (calm q x was (unmarked d e grown q free)) (λ dir cell c. sym (begun_cells s f own full none dir q) ∙ c) refl refl
      (λ other st. settled_at q x (is_same_file f x.own.place.parent) refl was free other st)

  way_begun : (dir : FileId) (t : Bool) → is_same_file f dir ≡ t → IsOnWay s (begin s f own full) e dir
  way_begun dir true same = inl (ap (λ p. is_one_of p e) (sym (is_same_file-true f dir same)) ∙ there)
  way_begun dir false apart = inr (inl (ap own_of (known_other dir apart)))

  known_at : (q : FileId) → is_same_file f q ≡ true → known (begin s f own full) q ≡ Some (new_held own full)
  known_at q same = ap (known (begin s f own full)) (sym (is_same_file-true f q same)) ∙ begun_same s f own full

  absent_at : (q : FileId) → is_same_file f q ≡ true → known s q ≡ None
  absent_at q same = ap (known s) (sym (is_same_file-true f q same)) ∙ none

  dir_by : (q : FileId) (t : Bool) → is_same_file f q ≡ t → ((is_dir f && t) || (is_dir q && is_held s q)) ≡ (is_dir q && is_held (begin s f own full) q)
  dir_by q false apart = or_no (is_dir f) (is_dir q && is_held s q) ∙ ap (λ b. is_dir q && b) (sym (held_other q apart))
  dir_by q true same =
      ap (λ p. (is_dir p && true) || (is_dir q && is_held s q)) (is_same_file-true f q same) ∙ ap (λ (o : Option InodeValue). (is_dir q && true) || (is_dir q && is_some o)) (absent_at q same) ∙ or_with (is_dir q)
      ∙ ap (λ (o : Option InodeValue). is_dir q && is_some o) (sym (known_at q same))

  spot_by : (live : Bool) (dir q : FileId) (t : Bool) → is_same_file f q ≡ t → ((t && is_spot live dir f (spot_of own.place)) || is_placed s live dir q) ≡ is_placed (begin s f own full) live dir q
  spot_by live dir q false apart = ap (λ o. is_in live dir q (own_of o)) (sym (known_other q apart))
  spot_by live dir q true same =
      ap (λ o. is_spot live dir f (spot_of own.place) || is_in live dir q (own_of o)) (absent_at q same) ∙ no_or (is_spot live dir f (spot_of own.place))
      ∙ ap (λ p. is_spot live dir p (spot_of own.place)) (is_same_file-true f q same) ∙ ap (λ o. is_in live dir q (own_of o)) (sym (known_at q same))

  pub begun_indexed : (d dirs dirs' : List FileId) (spots spots' : Spots) (holders : ListsValue) → IsGrown d e → IsIndexed s d dirs spots holders
      → ((q : FileId) → is_one_of q dirs' ≡ ((is_dir f && is_same_file f q) || is_one_of q dirs))
      → ((live : Bool) (dir q : FileId) → has_spot spots' live dir q ≡ ((is_same_file f q && is_spot live dir f (spot_of own.place)) || has_spot spots live dir q))
      → IsIndexed (begin s f own full) e dirs' spots' holders
  begun_indexed d dirs dirs' spots spots' holders grown ix more put = record {
    calm = calm_begun d grown ix.calm;
    come = all_come s (begin s f own full) d e grown (λ dir. way_begun dir (is_same_file f dir) refl) ix.come;
    dirs_are = λ q. more q ∙ ap (λ b. (is_dir f && is_same_file f q) || b) (ix.dirs_are q) ∙ dir_by q (is_same_file f q) refl;
    spots_are = λ live dir q. put live dir q ∙ ap (λ b. (is_same_file f q && is_spot live dir f (spot_of own.place)) || b) (ix.spots_are live dir q) ∙ spot_by live dir q (is_same_file f q) refl;
    holders_are = λ g q. ix.holders_are g q ∙ ap is_cell (sym (begun_cells s f own full none q g));
  }

-- ---- a thing that was held begins again

again_by : (s : NamesValue) (f : FileId) (own : Attributes) (full : Bool) (q : FileId) (t : Bool) → is_same_file q f ≡ t → cond t (Some (new_held own full)) (known (let_go s f) q) ≡ cond t (Some (new_held own full)) (known s q)
again_by s f own full q true same = refl
again_by s f own full q false apart = gone_other s f q (apart_back q f apart)

pub begin_again : (s : NamesValue) (f : FileId) (own : Attributes) (full : Bool) → IsStrictlySortedBy file_cmp (keys_of s.held) → begin (let_go s f) f own full ≡ begin s f own full
begin_again s f own full sorted =
    let x = new_held own full in
    ap (of_parts s.server s.last s.removed)
    (entries_from_lookup file_cmp file_total file_exact (insert_entry file_cmp (let_go s f).held f x) (insert_entry file_cmp s.held f x)
    (IsStrictlySortedBy-insert_entry file_cmp file_total f x (let_go s f).held (sorted_where (without f) s.held sorted))
    (IsStrictlySortedBy-insert_entry file_cmp file_total f x s.held sorted)
    (λ q. begun_known (let_go s f) f own full q ∙ again_by s f own full q (is_same_file q f) refl ∙ sym (begun_known s f own full q)))
