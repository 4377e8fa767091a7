-- The indexes after changes that touch no place and no cell, and after a thing was found calm.
use Rattle.std.proofs.Common.{◌≡◌, ℕ, Bool, true, false, ◌&&◌, nat_le, inl, inr, List, Option, None, Some, is_some, refl, sym, ap, subst, ◌∙◌}
use Rattle.std.specs.List.{list_any}
use Rattle.std.proofs.lemmas.Bool.{false≢true}
use Rattle.std.proofs.lemmas.Option.{none-some, same_Some}
use Rattle.pg_base.specs.declared.id.FileId.{FileId}
use Rattle.pg_base.specs.Id.{is_same_file}
use Rattle.pg_base.specs.Stamp.{clock_end}
use Rattle.pg_base.proofs.Orders.{is_same_file-true}
use Rattle.pg_register.specs.Flag.{flag_of, is_live, number_or_0}
use Rattle.pg_index.specs.Ids.{ListsValue, is_one_of}
use Rattle.pg_names.specs.declared.spots.Spots.{Spots}
use Rattle.pg_names.specs.Names.{InodeValue, NamesValue, changed, fill, filled, is_dir, is_held, known, remove_server, with_last}
use Rattle.pg_names.specs.Calm.{AreCalm, IsCalm, is_cell, is_in}
use Rattle.pg_names.specs.Indexed.{IsIndexed}
use Rattle.pg_names.proofs.Lookups.{known_other, known_same, update_frame}
use Rattle.pg_names.proofs.Holding.{fill_cells, fill_own}
use Rattle.pg_names.proofs.Changing.{held_kept}
use Rattle.pg_names.proofs.Frames.{IsFrame, IsGrown, all_come, calm_by, framed_calm, framed_come, settled_by}

-- ---- all that depends on what is held is as it was

alike_frame : (s : NamesValue) (last : ℕ) (e : List FileId) → IsFrame s (with_last s last) e
alike_frame s last e = record { known = λ q free. refl; cells = λ dir q free. refl; held = λ q. refl; removed = refl; server = refl }

same_marks : (d : List FileId) → IsGrown d d
same_marks d q h = h

pub last_indexed : (s : NamesValue) (last : ℕ) (d dirs : List FileId) (spots : Spots) (holders : ListsValue) → IsIndexed s d dirs spots holders → IsIndexed (with_last s last) d dirs spots holders
last_indexed s last d dirs spots holders ix = record {
  calm = framed_calm s (with_last s last) d d (same_marks d) (alike_frame s last d) ix.calm;
  come = framed_come s (with_last s last) d d (same_marks d) (alike_frame s last d) ix.come;
  dirs_are = ix.dirs_are;
  spots_are = ix.spots_are;
  holders_are = ix.holders_are;
}

held_known : (s : NamesValue) (q : FileId) (x : InodeValue) → known s q ≡ Some x → is_held s q ≡ true
held_known s q x k = ap (λ (o : Option InodeValue). is_some o) k

-- all that is held is marked
pub removed_indexed : (s : NamesValue) (server : ℕ) (d e dirs : List FileId) (spots : Spots) (holders : ListsValue) → IsGrown d e → ((q : FileId) → is_held s q ≡ true → is_one_of q e ≡ true)
    → IsIndexed s d dirs spots holders → IsIndexed (remove_server s server) e dirs spots holders
removed_indexed s server d e dirs spots holders grown marked ix = record {
  calm = λ q x k free. absurd (false≢true (sym free ∙ marked q (held_known s q x k)));
  come = all_come s (remove_server s server) d e grown (λ dir. inr (inl refl)) ix.come;
  dirs_are = ix.dirs_are;
  spots_are = ix.spots_are;
  holders_are = ix.holders_are;
}

-- ---- a thing is full

module _ (s : NamesValue) (f : FileId) where
  full_calm : (q : FileId) (x y : InodeValue) → known s q ≡ Some x → IsCalm s q x → y ≡ filled x → IsCalm (fill s f) q y
  full_calm q x y k c is = subst (IsCalm (fill s f) q) (sym is) (record {
    cells = λ dir cell h. c.cells dir cell (sym (fill_cells s f dir q) ∙ h);
    full = refl;
    gold = ap (λ (r : List ℕ). list_any (is_live r) x.own.flags) (update_frame s f filled).removed ∙ c.gold;
    number = ap (λ (k : ℕ). nat_le clock_end (number_or_0 (flag_of x.own.flags k))) (update_frame s f filled).server ∙ c.number;
    by_server = c.by_server;
    settled = λ other. let st = c.settled other in
        let t = settled_by s (fill s f) q x (held_kept s f filled x.own.place.parent) (fill_cells s f x.own.place.parent q) st in
        record { cell = t.cell; parent = t.parent; returning = t.returning };
  })

  calm_other : (q : FileId) (x : InodeValue) → IsCalm s q x → IsCalm (fill s f) q x
  calm_other q x c =
      calm_by s (fill s f) q x c (λ dir cell h. sym (fill_cells s f dir q) ∙ h) (update_frame s f filled).removed (update_frame s f filled).server
      (λ other st. settled_by s (fill s f) q x (held_kept s f filled x.own.place.parent) (fill_cells s f x.own.place.parent q) st)

  calm_same : (d : List FileId) (q : FileId) (x : InodeValue) (o : Option InodeValue) → AreCalm s d → is_same_file f q ≡ true → known (fill s f) q ≡ Some x → is_one_of q d ≡ false → known s f ≡ o → IsCalm (fill s f) q x
  calm_same d q x None calm same k free was =
      absurd (none-some x (sym was ∙ ap (known s) (is_same_file-true f q same) ∙ sym (ap (λ o. known (changed s f filled o) q) was) ∙ k))
  calm_same d q x (Some y) calm same k free was =
      let here : f ≡ q = is_same_file-true f q same in
      let before : known s q ≡ Some y = ap (known s) (sym here) ∙ was in
      let after : known (fill s f) q ≡ Some (filled y) = ap (known (fill s f)) (sym here) ∙ known_same s f filled y was in
      full_calm q y x before (calm q y before free) (sym (same_Some (filled y) x (sym after ∙ k)))

  calm_at : (d : List FileId) (q : FileId) (x : InodeValue) (t : Bool) → AreCalm s d → is_same_file f q ≡ t → known (fill s f) q ≡ Some x → is_one_of q d ≡ false → IsCalm (fill s f) q x
  calm_at d q x true calm same k free = calm_same d q x (known s f) calm same k free refl
  calm_at d q x false calm apart k free = calm_other q x (calm q x (sym (known_other s f filled q apart) ∙ k) free)

  pub fill_indexed : (d dirs : List FileId) (spots : Spots) (holders : ListsValue) → IsIndexed s d dirs spots holders → IsIndexed (fill s f) d dirs spots holders
  fill_indexed d dirs spots holders ix = record {
    calm = λ q x k free. calm_at d q x (is_same_file f q) ix.calm refl k free;
    come = all_come s (fill s f) d d (same_marks d) (λ dir. inr (inl (fill_own s f dir))) ix.come;
    dirs_are = λ q. ix.dirs_are q ∙ ap (λ b. is_dir q && b) (sym (held_kept s f filled q));
    spots_are = λ live dir q. ix.spots_are live dir q ∙ ap (is_in live dir q) (sym (fill_own s f q));
    holders_are = λ g q. ix.holders_are g q ∙ ap is_cell (sym (fill_cells s f q g));
  }
