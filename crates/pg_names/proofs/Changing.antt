-- The indexes after what is held of one thing changes.
use Rattle.std.proofs.Common.{◌≡◌, Bool, true, false, ◌||◌, ◌&&◌, not, List, Some, refl, sym, ap, ◌∙◌}
use Rattle.pg_base.specs.declared.id.FileId.{FileId}
use Rattle.pg_base.specs.Id.{is_same_file}
use Rattle.pg_base.proofs.Orders.{is_same_file-true}
use Rattle.pg_entries.specs.declared.entry.Entry.{Entry}
use Rattle.pg_index.specs.Ids.{ListsValue, has, is_one_of}
use Rattle.pg_index.proofs.Members.{found}
use Rattle.pg_names.specs.declared.attributes.Attributes.{Attributes}
use Rattle.pg_names.specs.declared.spots.Spots.{Spots}
use Rattle.pg_names.specs.Names.{InodeValue, NamesValue, cell_at, is_dir, is_held, own_at, own_of, set_entry, update, with_entry}
use Rattle.pg_names.specs.Calm.{is_cell, is_in, is_placed, is_spot, spot_of}
use Rattle.pg_names.specs.Indexed.{IsIndexed, has_spot}
use Rattle.pg_names.proofs.Lookups.{apart_back, cells_kept, entry_other_child, entry_other_dir, entry_own, entry_same, known_other, update_frame}
use Rattle.pg_names.proofs.Frames.{IsFrame, IsGrown, apart_from, framed_calm, framed_come, same_frame}

-- ---- marks alone

pub grown_indexed : (s : NamesValue) (d e dirs : List FileId) (spots spots' : Spots) (holders holders' : ListsValue) → IsIndexed s d dirs spots holders → IsGrown d e
    → ((live : Bool) (dir q : FileId) → has_spot spots' live dir q ≡ has_spot spots live dir q) → ((child q : FileId) → has holders' child q ≡ has holders child q)
    → IsIndexed s e dirs spots' holders'
grown_indexed s d e dirs spots spots' holders holders' ix grown same kept = record {
  calm = framed_calm s s d e grown (same_frame s e) ix.calm;
  come = framed_come s s d e grown (same_frame s e) ix.come;
  dirs_are = ix.dirs_are;
  spots_are = λ live dir q. same live dir q ∙ ix.spots_are live dir q;
  holders_are = λ child dir. kept child dir ∙ ix.holders_are child dir;
}

-- ---- what is held of one thing changes

-- the same things are held
pub held_kept : (s : NamesValue) (f : FileId) (change : InodeValue → InodeValue) (q : FileId) → is_held (update s f change) q ≡ is_held s q
held_kept s f change q = sym (found q (update s f change).held) ∙ ap (is_one_of q) (update_frame s f change).keys ∙ found q s.held

-- but not its entries
module _ (s : NamesValue) (f : FileId) (change : InodeValue → InodeValue) (keeps : (x : InodeValue) → (change x).entries ≡ x.entries) (e : List FileId) (marked : is_one_of f e ≡ true) where
  pub own_frame : IsFrame s (update s f change) e
  own_frame = let frame = update_frame s f change in record {
    known = λ q no. known_other s f change q (apart_from e f q marked no);
    cells = λ dir q no. cells_kept s f change keeps dir q;
    held = held_kept s f change;
    removed = frame.removed;
    server = frame.server;
  }

  -- where the thing stands
  module _ (a b : Attributes) (before : own_at s f ≡ Some a) (after : own_at (update s f change) f ≡ Some b) (spots spots' : Spots)
      (was : (live : Bool) (dir q : FileId) → has_spot spots live dir q ≡ is_placed s live dir q)
      (is : (live : Bool) (dir q : FileId) → has_spot spots' live dir q
      ≡ ((is_same_file f q && is_spot live dir f (spot_of b.place)) || (not (is_same_file f q && is_spot live dir f (spot_of a.place)) && has_spot spots live dir q))) where
    taken : (x y : Bool) → (x || (not y && y)) ≡ x
    taken true y = refl
    taken false true = refl
    taken false false = refl

    spot_by : (live : Bool) (dir q : FileId) (t : Bool) → is_same_file f q ≡ t
        → ((t && is_spot live dir f (spot_of b.place)) || (not (t && is_spot live dir f (spot_of a.place)) && has_spot spots live dir q)) ≡ is_placed (update s f change) live dir q
    spot_by live dir q false h = was live dir q ∙ sym (ap (λ o. is_in live dir q (own_of o)) (known_other s f change q h))
    spot_by live dir q true h =
        let same : f ≡ q = is_same_file-true f q h in
        let old : has_spot spots live dir f ≡ is_spot live dir f (spot_of a.place) = was live dir f ∙ ap (is_in live dir f) before in
        ap (λ p. is_spot live dir f (spot_of b.place) || (not (is_spot live dir f (spot_of a.place)) && has_spot spots live dir p)) (sym same)
        ∙ ap (λ x. is_spot live dir f (spot_of b.place) || (not (is_spot live dir f (spot_of a.place)) && x)) old
        ∙ taken (is_spot live dir f (spot_of b.place)) (is_spot live dir f (spot_of a.place))
        ∙ sym (ap (is_in live dir f) after) ∙ ap (is_placed (update s f change) live dir) same

    pub moved_spots : (live : Bool) (dir q : FileId) → has_spot spots' live dir q ≡ is_placed (update s f change) live dir q
    moved_spots live dir q = is live dir q ∙ spot_by live dir q (is_same_file f q) refl

    pub own_indexed : (d dirs : List FileId) (holders : ListsValue) → IsGrown d e → IsIndexed s d dirs spots holders → IsIndexed (update s f change) e dirs spots' holders
    own_indexed d dirs holders grown ix = record {
      calm = framed_calm s (update s f change) d e grown own_frame ix.calm;
      come = framed_come s (update s f change) d e grown own_frame ix.come;
      dirs_are = λ q. ix.dirs_are q ∙ ap (λ b. is_dir q && b) (sym (held_kept s f change q));
      spots_are = moved_spots;
      holders_are = λ child dir. ix.holders_are child dir ∙ ap is_cell (sym (cells_kept s f change keeps dir child));
    }

-- ---- a cell is written

module _ (s : NamesValue) (f : FileId) (c : Entry) (b : Attributes) (there : own_at s f ≡ Some b) (e : List FileId) (marked : is_one_of f e ≡ true) (child : is_one_of c.child e ≡ true) where
  pub entry_frame : IsFrame s (set_entry s f c) e
  entry_frame = let frame = update_frame s f (with_entry c) in record {
    known = λ q no. known_other s f (with_entry c) q (apart_from e f q marked no);
    cells = λ dir q no. entry_other_child s f c dir q (apart_back c.child q (apart_from e c.child q child no));
    held = held_kept s f (with_entry c);
    removed = frame.removed;
    server = frame.server;
  }

  holder_in : (g : FileId) (t : Bool) → is_same_file c.child g ≡ t → ((t && true) || is_cell (cell_at s f g)) ≡ is_cell (cell_at (set_entry s f c) f g)
  holder_in g true h = sym (ap is_cell (ap (cell_at (set_entry s f c) f) (sym (is_same_file-true c.child g h)) ∙ entry_same s f b c there))
  holder_in g false h = sym (ap is_cell (entry_other_child s f c f g (apart_back c.child g h)))

  and_false : (x y : Bool) → ((x && false) || y) ≡ y
  and_false true y = refl
  and_false false y = refl

  holder_by : (g q : FileId) (t : Bool) → is_same_file f q ≡ t → ((is_same_file c.child g && t) || is_cell (cell_at s q g)) ≡ is_cell (cell_at (set_entry s f c) q g)
  holder_by g q true h =
      let same : f ≡ q = is_same_file-true f q h in
      ap (λ p. (is_same_file c.child g && true) || is_cell (cell_at s p g)) (sym same) ∙ holder_in g (is_same_file c.child g) refl ∙ ap (λ p. is_cell (cell_at (set_entry s f c) p g)) same
  holder_by g q false h = and_false (is_same_file c.child g) (is_cell (cell_at s q g)) ∙ sym (ap is_cell (entry_other_dir s f c q g h))

  pub entry_indexed : (d dirs : List FileId) (spots : Spots) (holders holders' : ListsValue) → IsGrown d e → IsIndexed s d dirs spots holders
      → ((g q : FileId) → has holders' g q ≡ ((is_same_file c.child g && is_same_file f q) || has holders g q)) → IsIndexed (set_entry s f c) e dirs spots holders'
  entry_indexed d dirs spots holders holders' grown ix more = record {
    calm = framed_calm s (set_entry s f c) d e grown entry_frame ix.calm;
    come = framed_come s (set_entry s f c) d e grown entry_frame ix.come;
    dirs_are = λ q. ix.dirs_are q ∙ ap (λ x. is_dir q && x) (sym (held_kept s f (with_entry c) q));
    spots_are = λ live dir q. ix.spots_are live dir q ∙ ap (is_in live dir q) (sym (entry_own s f c q));
    holders_are = λ g q. more g q ∙ ap (λ x. (is_same_file c.child g && is_same_file f q) || x) (ix.holders_are g q) ∙ holder_by g q (is_same_file f q) refl;
  }
