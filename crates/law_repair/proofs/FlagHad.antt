-- A flag whose cell a peer has that peer knows, or a later one; and so does who knows more.
use Rattle.std.proofs.Common.{ℕ, ◌≡◌, ◌≢◌, ◌==◌, Bool, true, false, Option, None, Some, refl, sym, ap, subst, ◌∙◌, inl, inr, ◌⊎◌}
use Rattle.std.proofs.lemmas.Bool.{eqb-true, eqb-false}
use Rattle.std.proofs.lemmas.Option.{none-some, same_Some}
use Rattle.pg_run.specs.pg_base.declared.id.FileId.{FileId}
use Rattle.pg_run.specs.pg_edges.declared.key.Key.{Key}
use Rattle.pg_run.specs.pg_edges.declared.key.Key.TheVariants as key
use Rattle.pg_run.specs.pg_entries.declared.cell.Cell.{Cell}
use Rattle.pg_run.specs.pg_entries.declared.cell.Cell.TheVariants as cell
use Rattle.pg_run.specs.pg_entries.declared.entry.Entry.{Entry}
use Rattle.pg_run.specs.theory_flood.Server.{Holds as HoldsCell}
use Rattle.pg_run.specs.pg_names.Names.{own_or_blank, cell_at as entry_at}
use Rattle.pg_run.specs.pg_register.declared.flag.Flag.{Flag}
use Rattle.pg_run.specs.pg_register.Flag.{flag_of, is_older}
use Rattle.pg_run.specs.pg_replica.Replica.{cell_at as head_at}
use Rattle.pg_run.specs.pg_base.Version.{VersionValue}
use Rattle.pg_run.specs.pg_store.declared.store.Store.{Store}
use Rattle.pg_run.specs.pg_store.Cells.{cell_at, entry_cell, flag_cell, is_sure, version_cell}
use Rattle.pg_run.specs.pg_store.Store.{content_of}
use Rattle.pg_run.specs.theory_flood_pieces.UpTo.{IsFlagKnownBy, IsFlagUpTo, IsUpTo}
use Rattle.pg_run.proofs.Found.{flag_found}
use Rattle.law_repair.proofs.GoldsThere.{flag_at}

-- two servers are one, or they are not
pub same_number : (s t : ℕ) → (s ≡ t) ⊎ (s ≢ t)
same_number s t = by (s == t) refl
  where
    by : (u : Bool) → (s == t) ≡ u → (s ≡ t) ⊎ (s ≢ t)
    by true e = inl (eqb-true s t e)
    by false e = inr (eqb-false s t e)

-- ---- a flag's cell that a peer has

no_flag : (X : Type 0) (f : Flag) (c : Cell) (o : Option Flag) → flag_cell o ≡ Some c → ((g : Flag) → o ≡ Some g → IsFlagUpTo f g → X) → IsUpTo (cell.Flag f) c → X
no_flag X f c None is next up = absurd (none-some c is)
no_flag X f c (Some g) is next up = next g refl (subst (IsUpTo (cell.Flag f)) (sym (same_Some (cell.Flag g) c is)) up)

entry_no : (X : Type 0) (f : Flag) (c : Cell) (sure : Bool) (o : Option Entry) → entry_cell o sure ≡ Some c → IsUpTo (cell.Flag f) c → X
entry_no X f c sure None is up = absurd (none-some c is)
entry_no X f c sure (Some e) is up = absurd (subst (IsUpTo (cell.Flag f)) (sym (same_Some (cell.Entry e sure) c is)) up)

version_no : (X : Type 0) (f : Flag) (c : Cell) (o : Option VersionValue) → version_cell o ≡ Some c → IsUpTo (cell.Flag f) c → X
version_no X f c None is up = absurd (none-some c is)
version_no X f c (Some v) is up = absurd (subst (IsUpTo (cell.Flag f)) (sym (same_Some (cell.Version v) c is)) up)

abbrev pub KnowsUp : Store → FileId → Flag → Type 0
KnowsUp b file f = (g : Flag) × (flag_at b file f.server ≡ Some g) × (is_older g f ≡ false)

had_by : (b : Store) (file : FileId) (f : Flag) (q : Key) (c : Cell) → cell_at b file q ≡ Some c → IsUpTo (cell.Flag f) c → KnowsUp b file f
had_by b file f key.Place c is up =
    absurd (subst (IsUpTo (cell.Flag f)) (sym (same_Some (cell.Place (own_or_blank b.names file).place) c is)) up)
had_by b file f (key.Flag m) c is up =
    no_flag (KnowsUp b file f) f c (flag_of (own_or_blank b.names file).flags m) is
    (λ g there upto.
    let server : f.server ≡ m = upto.0 ∙ (flag_found (own_or_blank b.names file).flags m g there).1 in
    (g, ap (flag_of (own_or_blank b.names file).flags) server ∙ there, upto.1)) up
had_by b file f (key.Entry child) c is up = entry_no (KnowsUp b file f) f c (is_sure b file child) (entry_at b.names file child) is up
had_by b file f (key.Version stamp) c is up = version_no (KnowsUp b file f) f c (head_at (content_of b file).heads (key.Version stamp)) is up

pub flag_had : (b : Store) (file : FileId) (f : Flag) → HoldsCell IsUpTo (cell_at b file) (cell.Flag f) → KnowsUp b file f
flag_had b file f h = had_by b file f h.key h.cell h.is h.upto

-- ---- what grows

pub grown_by : (f : Flag) (o : Option Flag) → IsFlagKnownBy (Some f) o → (g : Flag) × (o ≡ Some g) × (is_older g f ≡ false)
grown_by f None up = absurd up
grown_by f (Some g) up = (g, refl, up.1)
