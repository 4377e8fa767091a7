-- The indexes after a thing is held no longer.
use Rattle.std.proofs.Common.{◌≡◌, Bool, true, false, ◌&&◌, not, inl, inr, List, Option, Some, is_some, refl, sym, ap, ◌∙◌}
use Rattle.std.proofs.lemmas.Bool.{false≢true}
use Rattle.pg_base.specs.declared.id.FileId.{FileId}
use Rattle.pg_base.specs.Id.{is_same_file}
use Rattle.pg_base.proofs.Orders.{is_same_file-true, is_same_file-refl}
use Rattle.pg_index.specs.Ids.{ListsValue, has, is_one_of}
use Rattle.pg_names.specs.declared.spots.Spots.{Spots}
use Rattle.pg_names.specs.Names.{InodeValue, NamesValue, cell_at, entry_in, is_dir, is_held, known, let_go, own_at, own_of}
use Rattle.pg_names.specs.Calm.{AreCalm, IsSettled, is_cell, is_in, is_inner, is_live_own, is_placed, is_root, is_update}
use Rattle.pg_names.specs.Indexed.{IsIndexed, has_spot}
use Rattle.pg_names.proofs.Gone.{gone_cell, gone_cell_other, gone_other, gone_own_other, gone_same, gone_stayed}
use Rattle.pg_names.proofs.Frames.{IsGrown, IsOnWay, all_come, calm_by, settled_by, unmarked}

pub and_no : (a : Bool) → (a && false) ≡ false
and_no true = refl
and_no false = refl

no_and : (a b : Bool) → (a && (b && false)) ≡ false
no_and true b = and_no b
no_and false b = refl

-- what stands in a directory is among these
abbrev pub AreMarked : NamesValue → Bool → FileId → List FileId → Type 0
AreMarked s live f e = (q : FileId) → is_placed s live f q ≡ true → is_one_of q e ≡ true

spotted : (live root same : Bool) → root ≡ false → live ≡ true → same ≡ true → (not root && (live && same)) ≡ true
spotted live root same a b c = ap (λ r. not r && (live && same)) a ∙ ap (λ l. l && same) b ∙ c

-- so a thing that is not among them does not stand in it
pub not_live : (s : NamesValue) (f q : FileId) (e : List FileId) (x : InodeValue) (b : Bool) → AreMarked s true f e → known s q ≡ Some x → is_one_of q e ≡ false → is_root q ≡ false → is_same_file x.own.place.parent f ≡ true
    → x.own.place.live ≡ b → b ≡ false
not_live s f q e x false marked k free other same live = refl
not_live s f q e x true marked k free other same live =
    absurd (false≢true (sym free ∙ marked q (ap (λ o. is_in true f q (own_of o)) k ∙ spotted x.own.place.live (is_root q) (is_same_file x.own.place.parent f) other live same)))

pub not_dead : (s : NamesValue) (f q : FileId) (e : List FileId) (x : InodeValue) (b : Bool) → AreMarked s false f e → known s q ≡ Some x → is_one_of q e ≡ false → is_root q ≡ false → is_same_file x.own.place.parent f ≡ true
    → x.own.place.live ≡ b → b ≡ true
not_dead s f q e x true marked k free other same live = refl
not_dead s f q e x false marked k free other same live =
    absurd (false≢true (sym free ∙ marked q (ap (λ o. is_in false f q (own_of o)) k ∙ spotted (not x.own.place.live) (is_root q) (is_same_file x.own.place.parent f) other (ap not live) same)))

pub back : (a b : FileId) → is_same_file a b ≡ true → is_same_file b a ≡ true
back a b h = ap (λ p. is_same_file p a) (sym (is_same_file-true a b h)) ∙ is_same_file-refl a

-- ---- a thing goes

module _ (s : NamesValue) (f : FileId) (e : List FileId) (marked : AreMarked s true f e) where
  held_other : (q : FileId) → is_same_file f q ≡ false → is_held (let_go s f) q ≡ is_held s q
  held_other q apart = ap (λ (o : Option InodeValue). is_some o) (gone_other s f q apart)

  held_gone : (q : FileId) → is_same_file f q ≡ true → is_held (let_go s f) q ≡ false
  held_gone q same = ap (λ (o : Option InodeValue). is_some o) (ap (known (let_go s f)) (sym (is_same_file-true f q same)) ∙ gone_same s f)

  settled_at : (q : FileId) (x : InodeValue) (t : Bool) → is_same_file f x.own.place.parent ≡ t → known s q ≡ Some x → is_one_of q e ≡ false → is_root q ≡ false → IsSettled s q x → IsSettled (let_go s f) q x
  settled_at q x false apart k free other st = settled_by s (let_go s f) q x (held_other x.own.place.parent apart) (gone_cell_other s f x.own.place.parent q apart) st
  settled_at q x true same k free other st = let p = x.own.place in record {
    cell = ap (λ b. is_update p && (is_dir p.parent && (b && not (is_cell (cell_at (let_go s f) p.parent q))))) (held_gone p.parent same) ∙ no_and (is_update p) (is_dir p.parent);
    parent = ap (λ l. l && not (is_held (let_go s f) p.parent)) (not_live s f q e x p.live marked k free other (back f p.parent same) refl);
    returning = st.returning;
  }

  calm_gone : (d : List FileId) → IsGrown d e → AreCalm s d → AreCalm (let_go s f) e
  calm_gone d grown calm q x k free =
      let h = gone_stayed s f q x k in
      calm_by s (let_go s f) q x (calm q x h.1 (unmarked d e grown q free)) (λ dir cell c. (gone_cell s f dir q cell c).1) refl refl
      (λ other st. settled_at q x (is_same_file f x.own.place.parent) refl h.1 free other st)

  inner_gone : (dir : FileId) → is_same_file f dir ≡ true → is_inner (let_go s f) dir ≡ false
  inner_gone dir same =
      ap (λ o. is_dir dir && (not (is_root dir) && is_live_own (own_of o))) (ap (known (let_go s f)) (sym (is_same_file-true f dir same)) ∙ gone_same s f)
      ∙ no_and (is_dir dir) (not (is_root dir))

  way_gone : (dir : FileId) (t : Bool) → is_same_file f dir ≡ t → IsOnWay s (let_go s f) e dir
  way_gone dir true same = inr (inr (inner_gone dir same))
  way_gone dir false apart = inr (inl (gone_own_other s f dir apart))

  none_left : (b : Bool) → (not b && b) ≡ false
  none_left true = refl
  none_left false = refl

  dir_by : (q : FileId) (t : Bool) → is_same_file f q ≡ t → (not t && (is_dir q && is_held s q)) ≡ (is_dir q && is_held (let_go s f) q)
  dir_by q true same = sym (ap (λ b. is_dir q && b) (held_gone q same) ∙ and_no (is_dir q))
  dir_by q false apart = ap (λ b. is_dir q && b) (sym (held_other q apart))

  spot_by : (live : Bool) (dir q : FileId) (t : Bool) → is_same_file f q ≡ t → (not (t && is_in live dir f (own_at s f)) && is_placed s live dir q) ≡ is_placed (let_go s f) live dir q
  spot_by live dir q true same =
      ap (λ p. not (is_in live dir f (own_at s f)) && is_placed s live dir p) (sym (is_same_file-true f q same)) ∙ none_left (is_placed s live dir f)
      ∙ sym (ap (λ o. is_in live dir q (own_of o)) (ap (known (let_go s f)) (sym (is_same_file-true f q same)) ∙ gone_same s f))
  spot_by live dir q false apart = ap (is_in live dir q) (sym (gone_own_other s f q apart))

  holder_by : (g q : FileId) (t : Bool) → is_same_file f q ≡ t → (not (t && is_cell (cell_at s f g)) && is_cell (cell_at s q g)) ≡ is_cell (cell_at (let_go s f) q g)
  holder_by g q true same =
      ap (λ p. not (is_cell (cell_at s f g)) && is_cell (cell_at s p g)) (sym (is_same_file-true f q same)) ∙ none_left (is_cell (cell_at s f g))
      ∙ sym (ap (λ o. is_cell (entry_in g o)) (ap (known (let_go s f)) (sym (is_same_file-true f q same)) ∙ gone_same s f))
  holder_by g q false apart = ap is_cell (sym (gone_cell_other s f q g apart))

  pub gone_indexed : (d dirs dirs' : List FileId) (spots spots' : Spots) (holders holders' : ListsValue) → IsGrown d e → IsIndexed s d dirs spots holders
      → ((q : FileId) → is_one_of q dirs' ≡ (not (is_same_file f q) && is_one_of q dirs))
      → ((live : Bool) (dir q : FileId) → has_spot spots' live dir q ≡ (not (is_same_file f q && is_in live dir f (own_at s f)) && has_spot spots live dir q))
      → ((g q : FileId) → has holders' g q ≡ (not (is_same_file f q && is_cell (cell_at s f g)) && has holders g q))
      → IsIndexed (let_go s f) e dirs' spots' holders'
  gone_indexed d dirs dirs' spots spots' holders holders' grown ix fewer left less = record {
    calm = calm_gone d grown ix.calm;
    come = all_come s (let_go s f) d e grown (λ dir. way_gone dir (is_same_file f dir) refl) ix.come;
    dirs_are = λ q. fewer q ∙ ap (λ b. not (is_same_file f q) && b) (ix.dirs_are q) ∙ dir_by q (is_same_file f q) refl;
    spots_are = λ live dir q. left live dir q ∙ ap (λ b. not (is_same_file f q && is_in live dir f (own_at s f)) && b) (ix.spots_are live dir q) ∙ spot_by live dir q (is_same_file f q) refl;
    holders_are = λ g q. less g q ∙ ap (λ b. not (is_same_file f q && is_cell (cell_at s f g)) && b) (ix.holders_are g q) ∙ holder_by g q (is_same_file f q) refl;
  }
