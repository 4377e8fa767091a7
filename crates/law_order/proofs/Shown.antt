-- No directory shows two children by one name.
use Rattle.std.proofs.Common.{ℕ, ◌≡◌, ◌<◌, ◌≢◌, ◌^◌, false, List, length, get_or, Some, sym, ap, subst, ◌∙◌, inl, inr, ◌⊎◌, arith, All}
use Rattle.std.specs.List.{IsAmong}
use Rattle.std.specs.List.Sorted.{IsStrictlySortedBy}
use Rattle.std.specs.Map.{keys_of, values_of}
use Rattle.std.proofs.lemmas.Bool.{false≢true}
use Rattle.std.proofs.lemmas.List.{get_or-map, length-map}
use Rattle.law_frame.specs.pg_run.pg_base.declared.id.FileId.{FileId}
use Rattle.law_frame.specs.pg_run.pg_base.Id.{Fits, file_cmp, is_same_file}
use Rattle.law_frame.proofs.pg_run.pg_base.Entries.{lookup-place}
use Rattle.law_frame.proofs.pg_run.pg_base.Orders.{file_total}
use Rattle.law_frame.specs.pg_run.pg_entries.declared.entry.Entry.{Entry}
use Rattle.law_frame.specs.pg_run.pg_entries.Entry.{entry_of}
use Rattle.law_frame.specs.pg_run.pg_entries.Names.{HasName}
use Rattle.law_frame.proofs.pg_run.pg_entries.Differ.{differ}
use Rattle.law_frame.specs.pg_run.pg_names.Names.{InodeValue, NamesValue, cell_at, entry_in, known}
use Rattle.law_frame.specs.pg_run.pg_register.Place.{root, tilde_name}
use Rattle.law_frame.specs.pg_run.Laws.{ShowsDistinctNames}
use Rattle.law_frame.specs.pg_run.Run.{run}
use Rattle.law_order.specs.Laws.{NamesAreDistinct, files_of}
use Rattle.law_order.specs.Named.{IsMade, naming}
use Rattle.law_order.specs.Saying.{IsSaidOf}
use Rattle.law_order.proofs.Runs.{sound_run}
use Rattle.law_frame.specs.pg_run.theory_flood_pieces.Whole.{AreByChild}
use Rattle.law_frame.specs.pg_run.pg_house.Facts.{AreOrdered}

-- an entry among those of a directory is found at some child
among_found : (es : List (FileId × Entry)) (e : Entry) → IsStrictlySortedBy file_cmp (keys_of es) → IsAmong (values_of es) e → (g : FileId) × (entry_of es g ≡ Some e)
among_found es e sorted at =
    let d : FileId × Entry = (e.child, e) in
    let long : length (values_of es) ≡ length es = length-map es (λ (x : FileId × Entry). x.1) in
    let less = at.1.0 in
    let lt : at.0 < length es = omega (arith, long, less) in
    let x = get_or es at.0 d in
    let is : x.1 ≡ e = sym (get_or-map (λ (y : FileId × Entry). y.1) es at.0 d e lt) ∙ sym at.1.1 in
    let same : x ≡ (x.0, e) = ap (λ (y : Entry). (x.0, y)) is in
    (x.0, lookup-place file_cmp file_total x.0 e es at.0 d sorted lt same)

module _ (n : ℕ) (files : ℕ → ℕ) (few : n < 2 ^ 32) (s : NamesValue) (children : AreByChild s) (ordered : AreOrdered s) (said : IsSaidOf (naming n files) s) where
  fits : (f : FileId) → is_same_file f root ≡ false → IsMade n files f → Fits f
  fits f apart (inl is) = absurd (false≢true (sym apart ∙ ap (λ (x : FileId). is_same_file x root) is))
  fits f apart (inr b) = let up = b.most in record { server = omega (arith, up, few); number = b.number }

  named_at : (d g : FileId) (e : Entry) → cell_at s d g ≡ Some e → HasName e
  named_at d g e at =
      let cell = said.cells d g e at in
      let is : e.child ≡ g = children d g e at in
      let P : FileId → Type 0 = λ x. Fits x in
      let Q : FileId → Type 0 = λ x. (All (λ byte. byte ≢ 126) e.place.name) ⊎ (e.place.name ≡ tilde_name x) in
      record { id = subst P (sym is) (fits g cell.child cell.thing); name = subst Q (sym is) (cell.place.name cell.child) }

  among_named : (d : FileId) (x : InodeValue) → known s d ≡ Some x → (e : Entry) → IsAmong (values_of x.entries) e → HasName e
  among_named d x at e among =
      let found = among_found x.entries e (ordered d x at) among in
      named_at d found.0 e (ap (entry_in found.0) at ∙ found.1)

  distinct : (d : FileId) (x : InodeValue) → known s d ≡ Some x → ShowsDistinctNames d x
  distinct d x at a b la lb ha hb same = differ x.entries d a b la lb ha hb (among_named d x at a la) (among_named d x at b lb) same

pub names_distinct : (n : ℕ) → NamesAreDistinct n
names_distinct n few events s least most =
    let k = ((sound_run n events).servers s).sound in
    distinct n (files_of (run n events).stores) few ((run n events).stores s).names k.whole.names.children k.named.tidy.ordered k.named.said
