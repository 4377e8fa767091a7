-- Replicas as the edges see them: their cells, and their flags.
use Rattle.std.proofs.Common.{ℕ, ◌≡◌, Bool, false, Option, None, Some, option_map, refl, sym, ap, subst, ◌∙◌, inl, inr, arith}
use Rattle.std.proofs.lemmas.Bool.Decides.{eqb_tells, nat_tests}
use Rattle.pg_run.specs.pg_base.declared.id.FileId.{FileId}
use Rattle.pg_run.specs.pg_edges.declared.key.Key.{Key}
use Rattle.pg_run.specs.pg_edges.declared.key.Key.TheVariants as key
use Rattle.pg_run.specs.pg_entries.declared.cell.Cell.{Cell}
use Rattle.pg_run.specs.pg_entries.declared.cell.Cell.TheVariants as cell
use Rattle.pg_run.specs.pg_entries.declared.entry.Entry.{Entry}
use Rattle.pg_run.specs.pg_base.Version.{VersionValue}
use Rattle.pg_run.specs.theory_flood.Server.{HoldsAll, Replica as Seen}
use Rattle.pg_run.proofs.theory_flood.Servers.{some_same}
use Rattle.theory_leaving.specs.Protocol as leaves
use Rattle.theory_leaving.specs.Protocol.{HasLater, IsSound}
use Rattle.pg_run.specs.pg_names.Names.{cell_at as entry_at, own_or_blank}
use Rattle.pg_run.specs.theory_flood_pieces.Seen.{plain, seen}
use Rattle.pg_run.specs.theory_flood_pieces.UpTo.{IsUpTo}
use Rattle.pg_run.proofs.theory_flood_pieces.Flags.{flag_server}
use Rattle.pg_run.proofs.theory_flood_pieces.Stores.{plain_at}
use Rattle.pg_run.proofs.theory_flood_pieces.Counting.{is_sound}
use Rattle.pg_run.specs.pg_register.declared.flag.Flag.{Flag}
use Rattle.pg_run.specs.pg_register.Flag.{flag_of, is_older}
use Rattle.pg_run.specs.pg_replica.declared.replica.Replica.{Replica}
use Rattle.pg_run.specs.pg_replica.Replica.{cell_at as head_at}
use Rattle.pg_run.specs.pg_store.declared.store.Store.{Store}
use Rattle.pg_run.specs.pg_store.Cells.{entry_cell, flag_cell, is_sure, version_cell}
use Rattle.pg_run.specs.pg_store.Store.{content_of, replica_at}
use Rattle.pg_run.specs.pg_store.Together.{birth_at}
use Rattle.law_leaving.specs.Seen.{flag_in, leaving}
use Rattle.law_leaving.specs.Taken.{Site}

-- ---- what is seen of a replica

-- a replica that is seen is the server's
pub seen_of : (a : Store) (file : FileId) (x : Seen Cell) (o : Option Replica) → replica_at a file ≡ o
    → option_map (seen a file) o ≡ Some x → (r : Replica) × (replica_at a file ≡ Some r) × (seen a file r ≡ x)
seen_of a file x None is e = absurd (let z : None ≡ Some x = e in cc)
seen_of a file x (Some r) is e = (r, is, some_same (seen a file r) x e)

-- and has its birth
pub seen_born : (a : Store) (file : FileId) (x : Seen Cell) (birth : ℕ) → option_map (seen a file) (replica_at a file) ≡ Some x
    → x.birth ≡ birth → birth_at a file ≡ Some birth
seen_born a file x birth e born =
    let r = seen_of a file x (replica_at a file) refl e in
    ap (option_map (λ (y : Replica). y.birth)) r.1 ∙ ap (λ b. Some b) (ap (λ (z : Seen Cell). z.birth) r.2 ∙ born)

pub cells_of : (a : Store) (file : FileId) (x : Seen Cell) → option_map (seen a file) (replica_at a file) ≡ Some x
    → x.cells ≡ plain_at a file
cells_of a file x e = let r = seen_of a file x (replica_at a file) refl e in sym (ap (λ (z : Seen Cell). z.cells) r.2)

-- ---- flags

pub flag_back : (o : Option Flag) → flag_in (option_map plain (flag_cell o)) ≡ o
flag_back None = refl
flag_back (Some f) = refl

cell_back : (c : Option Cell) (f : Flag) → flag_in c ≡ Some f → c ≡ Some (cell.Flag f)
cell_back None f e = absurd (let z : None ≡ Some f = e in cc)
cell_back (Some (cell.Place place)) f e = absurd (let z : None ≡ Some f = e in cc)
cell_back (Some (cell.Flag g)) f e = ap (λ (z : Flag). Some (cell.Flag z)) (some_same g f e)
cell_back (Some (cell.Entry entry sure)) f e = absurd (let z : None ≡ Some f = e in cc)
cell_back (Some (cell.Version version)) f e = absurd (let z : None ≡ Some f = e in cc)

no_entry : (o : Option Entry) (sure : Bool) (g : Flag) → option_map plain (entry_cell o sure) ≡ Some (cell.Flag g) → ⊥
no_entry None sure g e = let z : None ≡ Some (cell.Flag g) = e in cc
no_entry (Some entry) sure g e = let z : None ≡ Some g = ap flag_in e in cc

no_version : (o : Option VersionValue) (g : Flag) → option_map plain (version_cell o) ≡ Some (cell.Flag g) → ⊥
no_version None g e = let z : None ≡ Some (cell.Flag g) = e in cc
no_version (Some v) g e = let z : None ≡ Some g = ap flag_in e in cc

-- the flag of a server's key is its
pub flag_at : (a : Store) (file : FileId) (u : ℕ) (f : Flag) → flag_in (plain_at a file (key.Flag u)) ≡ Some f
    → flag_of (own_or_blank a.names file).flags u ≡ Some f
flag_at a file u f e = sym (flag_back (flag_of (own_or_blank a.names file).flags u)) ∙ e

-- a flag among the cells stands at its server's key
flag_stands : (b : Store) (file : FileId) (q : Key) (g : Flag) → plain_at b file q ≡ Some (cell.Flag g)
    → flag_in (plain_at b file (key.Flag g.server)) ≡ Some g
flag_stands b file key.Place g e = absurd (let z : None ≡ Some g = ap flag_in e in cc)
flag_stands b file (key.Flag v) g e =
    let at : flag_in (plain_at b file (key.Flag v)) ≡ Some g = ap flag_in e in
    let same : g.server ≡ v = flag_server (own_or_blank b.names file).flags v g (flag_at b file v g at) in
    ap (λ n. flag_in (plain_at b file (key.Flag n))) same ∙ at
flag_stands b file (key.Entry child) g e = absurd (no_entry (entry_at b.names file child) (is_sure b file child) g e)
flag_stands b file (key.Version stamp) g e = absurd (no_version (head_at (content_of b file).heads (key.Version stamp)) g e)

-- in the order of numbers
upto_by : (f g : Flag) → is_older g f ≡ false → leaves.IsFlagUpTo f g
upto_by f g e = elim (eqb_tells f.birth g.birth) [
  | inl same ↦ let born = same.1 in inr (born, grind (arith, nat_tests))
  | inr other ↦ let apart = other.1 in inl (grind (arith, nat_tests))
]

module _ (n : ℕ) (file : FileId) where
  later_by : (b : Store) (f : Flag) (u : ℕ) (q : Key) (d : Cell) → f.server ≡ u → plain_at b file q ≡ Some d → IsUpTo (cell.Flag f) d
      → HasLater (leaving n file) (plain_at b file) u f
  later_by b f u q (cell.Place p) server is up = absurd up
  later_by b f u q (cell.Flag g) server is up =
      let at : flag_in (plain_at b file (key.Flag u)) ≡ Some g =
      ap (λ v. flag_in (plain_at b file (key.Flag v))) (sym server ∙ up.0) ∙ flag_stands b file q g is in
      (g, at, upto_by f g up.1)
  later_by b f u q (cell.Entry e sure) server is up = absurd up
  later_by b f u q (cell.Version v) server is up = absurd up

  later : (a b : Site) (x y : Seen Cell) (u : ℕ) (f : Flag) → option_map (seen a.store file) (replica_at a.store file) ≡ Some x
      → option_map (seen b.store file) (replica_at b.store file) ≡ Some y → HoldsAll IsUpTo x.cells y.cells
      → flag_in (x.cells (key.Flag u)) ≡ Some f → HasLater (leaving n file) y.cells u f
  later a b x y u f one two all is =
      let first = cells_of a.store file x one in
      let second = cells_of b.store file y two in
      let mine : flag_in (plain_at a.store file (key.Flag u)) ≡ Some f = ap (λ (cs : Key → Option Cell). flag_in (cs (key.Flag u))) (sym first) ∙ is in
      let server = flag_server (own_or_blank a.store.names file).flags u f (flag_at a.store file u f mine) in
      let h = all (key.Flag u) (cell.Flag f) (cell_back (x.cells (key.Flag u)) f is) in
      let P : (Key → Option Cell) → Type 0 = (λ cs. HasLater (leaving n file) cs u f) in
      subst P (sym second) (later_by b.store f u h.key h.cell server (ap (λ (cs : Key → Option Cell). cs h.key) (sym second) ∙ h.is) h.upto)

  pub sound : IsSound (leaving n file)
  sound = record {
    edges = record {
      order = record { same = is_sound.order.same; further = is_sound.order.further };
      ends = λ a f birth c x over held. is_sound.ends a.store f birth c x over held;
    };
    flags = later;
  }
