-- A server that goes on to cover what it covers loses nothing that it holds.
use Rattle.std.proofs.Common.{ℕ, ◌≡◌, ◌⊎◌, Bool, true, false, Option, None, Some, option_map, refl, sym, ap, subst, ◌∙◌, inl, inr}
use Rattle.std.proofs.lemmas.Bool.{false≢true}
use Rattle.std.proofs.lemmas.Option.{none-some, same_Some}
use Rattle.pg_base.specs.declared.id.FileId.{FileId}
use Rattle.pg_edges.specs.declared.key.Key.{Key}
use Rattle.pg_edges.specs.declared.key.Key.TheVariants as key
use Rattle.pg_entries.specs.declared.cell.Cell.{Cell}
use Rattle.pg_entries.specs.declared.cell.Cell.TheVariants as cell
use Rattle.pg_entries.specs.declared.entry.Entry.{Entry}
use Rattle.theory_flood.specs.Protocol.{Covers, Protocol}
use Rattle.theory_flood.specs.Server.{Holds, Replica as Seen, Slot, slot}
use Rattle.theory_flood.proofs.Servers.{some_same}
use Rattle.theory_flood.proofs.Steps.{Steps}
use Rattle.pg_cells.specs.pg_msg.declared.message.Sent.{Sent}
use Rattle.pg_cells.specs.pg_names.declared.attributes.Attributes.{Attributes}
use Rattle.pg_cells.specs.pg_names.Names.{cell_at as entry_at, own_or_blank}
use Rattle.pg_register.specs.declared.flag.Flag.{Flag}
use Rattle.pg_register.specs.declared.place.Place.{Place}
use Rattle.pg_register.specs.Flag.{flag_of}
use Rattle.pg_cells.specs.pg_replica.declared.replica.Replica.{Replica}
use Rattle.pg_cells.specs.pg_store.declared.store.Store.{Store}
use Rattle.pg_cells.specs.pg_store.Births.{is_over}
use Rattle.pg_cells.specs.pg_store.Cells.{cell_at, entry_cell, flag_cell, is_sure}
use Rattle.pg_cells.specs.pg_store.Store.{replica_at}
use Rattle.pg_cells.specs.pg_store.Together.{birth_at}
use Rattle.pg_cells.proofs.pg_store.Over.{over_tested}
use Rattle.theory_flood_pieces.specs.Growing.{Grows, GrowsAt, GrowsOn}
use Rattle.theory_flood_pieces.specs.Names.{IsEntryKnownBy}
use Rattle.theory_flood_pieces.specs.Seen.{Along, at_once, cells, cells_in, plain, seen, standing}
use Rattle.theory_flood_pieces.specs.UpTo.{IsFlagKnownBy, IsPlaceUpTo, IsUpTo}
use Rattle.theory_flood_pieces.specs.Whole.{AreByChild, IsWhole}
use Rattle.theory_flood_pieces.proofs.Flags.{flag_server}
use Rattle.theory_flood_pieces.proofs.Sending.{own_key}
use Rattle.theory_flood_pieces.proofs.Stores.{plain_at}
use Rattle.theory_flood_pieces.proofs.UpTo.{cell_itself}

-- ---- cells, be they plain or not

-- what holds of cells as the edges see them holds of them
upto_plain : (c d : Cell) → IsUpTo (plain c) (plain d) → IsUpTo c d
upto_plain (cell.Place a) (cell.Place b) h = h
upto_plain (cell.Flag a) (cell.Flag b) h = h
upto_plain (cell.Entry a s) (cell.Entry b t) h = h
upto_plain (cell.Version a) (cell.Version b) h = h
upto_plain (cell.Place a) (cell.Flag b) h = absurd h
upto_plain (cell.Place a) (cell.Entry b t) h = absurd h
upto_plain (cell.Place a) (cell.Version b) h = absurd h
upto_plain (cell.Flag a) (cell.Place b) h = absurd h
upto_plain (cell.Flag a) (cell.Entry b t) h = absurd h
upto_plain (cell.Flag a) (cell.Version b) h = absurd h
upto_plain (cell.Entry a s) (cell.Place b) h = absurd h
upto_plain (cell.Entry a s) (cell.Flag b) h = absurd h
upto_plain (cell.Entry a s) (cell.Version b) h = absurd h
upto_plain (cell.Version a) (cell.Place b) h = absurd h
upto_plain (cell.Version a) (cell.Flag b) h = absurd h
upto_plain (cell.Version a) (cell.Entry b t) h = absurd h

held_by : (b : Store) (f : FileId) (c d : Cell) (q : Key) (o : Option Cell) → cell_at b f q ≡ o
    → option_map plain o ≡ Some d → IsUpTo (plain c) d → Holds IsUpTo (cell_at b f) c
held_by b f c d q None is e up = absurd (let z : None ≡ Some d = e in cc)
held_by b f c d q (Some own) is e up =
    let same : plain own ≡ d = some_same (plain own) d e in
    record {
      key = q;
      cell = own;
      is = is;
      upto = upto_plain c own (subst (IsUpTo (plain c)) (sym same) up);
    }

pub holds_itself : (b : Store) (f : FileId) (c : Cell) → Holds IsUpTo (plain_at b f) (plain c)
    → Holds IsUpTo (cell_at b f) c
holds_itself b f c h = held_by b f c h.cell h.key (cell_at b f h.key) refl h.is h.upto

-- ---- what a server goes on to cover

abbrev pub GoesOn : Protocol Store Sent Cell → Store → Store → Type 0
GoesOn p a b = (q : Slot) (c : Cell) → Covers p a q c → Covers p b q c

-- a replica is there still, and has this cell or more
record IsThere (b : Store) (f : FileId) (birth : ℕ) (c : Cell) : Type 0 where
  pub born : birth_at b f ≡ Some birth
  pub holds : Holds IsUpTo (cell_at b f) c

there_by : (b : Store) (f : FileId) (birth : ℕ) (c : Cell) (r : Seen Cell) (o : Option Replica)
    → replica_at b f ≡ o → option_map (seen b f) o ≡ Some r → r.birth ≡ birth
    → Holds IsUpTo r.cells (plain c) → IsThere b f birth c
there_by b f birth c r None is e same holds = absurd (let z : None ≡ Some r = e in cc)
there_by b f birth c r (Some y) is e same holds =
    let it : seen b f y ≡ r = some_same (seen b f y) r e in
    record {
      born = ap (option_map (λ (z : Replica). z.birth)) is
          ∙ ap (λ (z : Seen Cell). Some z.birth) it ∙ ap Some same;
      holds = holds_itself b f c (subst (λ (z : Seen Cell). Holds IsUpTo z.cells (plain c)) (sym it) holds);
    }

module _ (along : Along) (a b : Store) (on : GoesOn (cells_in along) a b) where
  -- where its birth does not count as over
  there : (f : FileId) (x : Replica) (q : Key) (c : Cell) → along.over f x.birth ≡ false → replica_at a f ≡ Some x
      → cell_at a f q ≡ Some c → IsThere b f x.birth c
  there f x q c apart here is =
      elim (on (slot f 0 0 x.birth q) (plain c) (inl (
        record {
          replica = seen a f x;
          is = ap (option_map (seen a f)) here;
          other = refl;
          holds = record { key = q; cell = plain c; is = ap (option_map plain) is; upto = cell_itself (plain c) };
        },
        tt,
      ))) [
        | inl h ↦ let t = h.0 in there_by b f x.birth c t.replica (replica_at b f) refl t.is t.other t.holds
        | inr counts ↦ absurd (false≢true (sym apart ∙ counts))
      ]

-- ---- what is held of names

abbrev flag_in : Option Cell → Option Flag
flag_in None = None
flag_in (Some (cell.Place place)) = None
flag_in (Some (cell.Flag flag)) = Some flag
flag_in (Some (cell.Entry entry sure)) = None
flag_in (Some (cell.Version version)) = None

flag_back : (o : Option Flag) (g : Flag) → flag_cell o ≡ Some (cell.Flag g) → o ≡ Some g
flag_back None g e = ap flag_in e
flag_back (Some f) g e = ap flag_in e

abbrev child_in : Option Cell → Option Entry
child_in None = None
child_in (Some (cell.Place place)) = None
child_in (Some (cell.Flag flag)) = None
child_in (Some (cell.Entry entry sure)) = Some entry
child_in (Some (cell.Version version)) = None

entry_back : (o : Option Entry) (e : Entry) (sure known : Bool)
    → entry_cell o sure ≡ Some (cell.Entry e known) → o ≡ Some e
entry_back None e sure known is = ap child_in is
entry_back (Some f) e sure known is = ap child_in is

module _ (b : Store) (own : AreByChild b.names) (f : FileId) where
  -- the cell that holds one stands at its key
  place_from : (place : Place) (q : Key) (d : Cell) → cell_at b f q ≡ Some d
      → IsUpTo (cell.Place place) d → IsPlaceUpTo place (own_or_blank b.names f).place
  place_from place q (cell.Place p) is up =
      let at : key.Place ≡ q = own_key b own f q (cell.Place p) is in
      let here : cell_at b f key.Place ≡ Some (cell.Place p) =
      subst (λ z. cell_at b f z ≡ Some (cell.Place p)) (sym at) is in
      subst (λ c. IsUpTo (cell.Place place) c)
      (sym (some_same (cell.Place (own_or_blank b.names f).place) (cell.Place p) here)) up
  place_from place q (cell.Flag g) is up = absurd up
  place_from place q (cell.Entry e sure) is up = absurd up
  place_from place q (cell.Version v) is up = absurd up

  flag_from : (flag : Flag) (n : ℕ) (q : Key) (d : Cell) → flag.server ≡ n → cell_at b f q ≡ Some d
      → IsUpTo (cell.Flag flag) d
      → IsFlagKnownBy (Some flag) (flag_of (own_or_blank b.names f).flags n)
  flag_from flag n q (cell.Place p) server is up = absurd up
  flag_from flag n q (cell.Flag g) server is up =
      let at : key.Flag n ≡ q =
      ap key.Flag (sym server ∙ up.0) ∙ own_key b own f q (cell.Flag g) is in
      let here : cell_at b f (key.Flag n) ≡ Some (cell.Flag g) =
      subst (λ z. cell_at b f z ≡ Some (cell.Flag g)) (sym at) is in
      let found = flag_back (flag_of (own_or_blank b.names f).flags n) g here in
      subst (λ (o : Option Flag). IsFlagKnownBy (Some flag) o) (sym found) up
  flag_from flag n q (cell.Entry e sure) server is up = absurd up
  flag_from flag n q (cell.Version v) server is up = absurd up

  entry_from : (e : Entry) (sure : Bool) (child : FileId) (q : Key) (d : Cell) → e.child ≡ child
      → cell_at b f q ≡ Some d → IsUpTo (cell.Entry e sure) d
      → IsEntryKnownBy (Some e) (entry_at b.names f child)
  entry_from e sure child q (cell.Place p) of is up = absurd up
  entry_from e sure child q (cell.Flag g) of is up = absurd up
  entry_from e sure child q (cell.Entry d known) of is up =
      let at : key.Entry child ≡ q =
      ap key.Entry (sym of ∙ up.child) ∙ own_key b own f q (cell.Entry d known) is in
      let here : cell_at b f (key.Entry child) ≡ Some (cell.Entry d known) =
      subst (λ z. cell_at b f z ≡ Some (cell.Entry d known)) (sym at) is in
      let found = entry_back (entry_at b.names f child) d (is_sure b f child) known here in
      subst (λ (o : Option Entry). IsEntryKnownBy (Some e) o) (sym found) up
  entry_from e sure child q (cell.Version v) of is up = absurd up

-- ---- one replica grows

module _ (along : Along) (n s : ℕ) (a b : Store) (k : IsWhole n s a) (l : IsWhole n s b)
    (on : GoesOn (cells_in along) a b) (f : FileId) where
  abbrev Mine : Attributes
  Mine = own_or_blank a.names f

  module _ (x : Replica) (here : replica_at a f ≡ Some x) (apart : along.over f x.birth ≡ false) where
    all_cells : (q : Key) (c : Cell) → cell_at a f q ≡ Some c → Holds IsUpTo (cell_at b f) c
    all_cells q c is = (there along a b on f x q c apart here is).holds

    place_grows : IsPlaceUpTo Mine.place (own_or_blank b.names f).place
    place_grows =
        let h = all_cells key.Place (cell.Place Mine.place) refl in
        place_from b l.names.children f Mine.place h.key h.cell h.is h.upto

    some_flag : (m : ℕ) (flag : Flag) → flag_of Mine.flags m ≡ Some flag
        → IsFlagKnownBy (Some flag) (flag_of (own_or_blank b.names f).flags m)
    some_flag m flag is =
        let h = all_cells (key.Flag m) (cell.Flag flag) (ap flag_cell is) in
        flag_from b l.names.children f flag m h.key h.cell (flag_server Mine.flags m flag is) h.is h.upto

    flag_by : (m : ℕ) (o : Option Flag) → flag_of Mine.flags m ≡ o
        → IsFlagKnownBy o (flag_of (own_or_blank b.names f).flags m)
    flag_by m None is = tt
    flag_by m (Some flag) is = some_flag m flag is

    entry_by : (child : FileId) (o : Option Entry) → entry_at a.names f child ≡ o
        → IsEntryKnownBy o (entry_at b.names f child)
    entry_by child None is = tt
    entry_by child (Some e) is =
        let sure = is_sure a f child in
        let h = all_cells (key.Entry child) (cell.Entry e sure)
        (ap (λ (o : Option Entry). entry_cell o sure) is) in
        entry_from b l.names.children f e sure child h.key h.cell (k.names.children f child e is) h.is h.upto

    replica_grows : (birth_at b f ≡ Some x.birth) × GrowsAt a b f
    replica_grows = (
      (there along a b on f x key.Place (cell.Place Mine.place) apart here refl).born,
      record {
        place = place_grows;
        flags = λ m. flag_by m (flag_of Mine.flags m) refl;
        entries = λ child. entry_by child (entry_at a.names f child) refl;
        cells = all_cells;
      },
    )

  grows_if : (birth : ℕ) (o : Option Replica) → replica_at a f ≡ o
      → option_map (λ (x : Replica). x.birth) o ≡ Some birth → (t : Bool) → along.over f birth ≡ t
      → ((birth_at b f ≡ Some birth) × GrowsAt a b f) ⊎ (along.over f birth ≡ true)
  grows_if birth None here is t counts = absurd (none-some birth is)
  grows_if birth (Some x) here is true counts = inr counts
  grows_if birth (Some x) here is false counts =
      let same : x.birth ≡ birth = same_Some x.birth birth is in
      let grows = replica_grows x here (ap (along.over f) same ∙ counts) in
      inl (grows.0 ∙ ap (λ (m : ℕ). Some m) same, grows.1)

  -- WHAT GOES ON TO COVER what it covers has grown, or counts as over
  pub grows_or_counts : (birth : ℕ) → birth_at a f ≡ Some birth
      → ((birth_at b f ≡ Some birth) × GrowsAt a b f) ⊎ (along.over f birth ≡ true)
  grows_or_counts birth is = grows_if birth (replica_at a f) refl is (along.over f birth) refl

-- ---- between events, and by steps in which no replica goes

-- what stores say of births counts in the end
in_the_end : (a b : Store) → GoesOn cells a b → GoesOn (cells_in (at_once (is_over b))) a b
in_the_end a b on q c h = elim h [ inl t ↦ on q c (inl t) | inr counts ↦ inr counts ]

module _ (n s : ℕ) (a b : Store) (k : IsWhole n s a) (l : IsWhole n s b) where
  -- by all that is over in the end
  pub grown_in : GoesOn (cells_in (at_once (is_over b))) a b → Grows a b
  grown_in on f birth is = elim (grows_or_counts (at_once (is_over b)) n s a b k l on f birth is) [
    | inl grows ↦ inl grows
    | inr counts ↦ inr ((over_tested b f birth).0 counts)
  ]

  pub grown : GoesOn cells a b → Grows a b
  grown on = grown_in (in_the_end a b on)

  pub grown_by_steps : Steps standing a b → GrowsOn a b
  grown_by_steps steps f birth is =
      elim (grows_or_counts (at_once (λ (g : FileId) (m : ℕ). false)) n s a b k l steps.moves.covers f birth is) [
        | inl grows ↦ grows
        | inr counts ↦ absurd (false≢true counts)
      ]

-- ---- one growth after another

pub goes_on_itself : (p : Protocol Store Sent Cell) (a : Store) → GoesOn p a a
goes_on_itself p a q c h = h

pub goes_on_further : (p : Protocol Store Sent Cell) (a b c : Store) → GoesOn p a b → GoesOn p b c → GoesOn p a c
goes_on_further p a b c f g q x h = g q x (f q x h)
