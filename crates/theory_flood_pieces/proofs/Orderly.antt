-- What the house rules ask of names stays so, whatever comes.
use Rattle.std.proofs.Common.{ℕ, ◌≡◌, ◌≤◌, max, Bool, true, false, cond, Option, None, Some, refl, sym, ap, subst, ◌∙◌, inl, inr, arith}
use Rattle.std.proofs.lemmas.Option.{same_Some}
use Rattle.pg_base.specs.declared.id.FileId.{FileId}
use Rattle.pg_base.specs.Id.{is_same_file}
use Rattle.pg_base.specs.Stamp.{is_before}
use Rattle.pg_base.proofs.Orders.{is_same_file-true}
use Rattle.pg_entries.specs.declared.entry.Entry.{Entry}
use Rattle.pg_entries.specs.Entry.{joined_to}
use Rattle.pg_cells.specs.pg_house.Facts.{IsLast}
use Rattle.pg_cells.specs.pg_names.declared.attributes.Attributes.{Attributes}
use Rattle.pg_cells.specs.pg_names.Names.{NamesValue, begin, cell_at, fill, filled, is_dir, known, new_held, own_of, join_entry, join_flag, join_place, own_at, raise, with_flag, with_joined, with_place}
use Rattle.pg_cells.proofs.pg_names.Holding.{begun_cells, begun_known, fill_cells, fill_own}
use Rattle.pg_cells.proofs.pg_names.Lookups.{flag_cell, joined_own, joined_same, own_with_flag, own_with_place, place_cell, update_frame}
use Rattle.pg_register.specs.declared.flag.Flag.{Flag}
use Rattle.pg_register.specs.declared.place.Place.{Place}
use Rattle.pg_register.specs.Flag.{IsByServer}
use Rattle.pg_register.specs.Place.{newer_place}
use Rattle.pg_register.proofs.ByServer.{IsByServer-join_flag}
use Rattle.theory_flood_pieces.specs.Whole.{AreByChild, AreOrderly}
use Rattle.theory_flood_pieces.proofs.Choices.{chosen}
use Rattle.theory_flood_pieces.proofs.Growth.{OneOwn, entry_at_one, flag_one, place_one}

-- ---- entries stand at their children

-- where no entry changes
pub same_children : (s t : NamesValue) → ((d g : FileId) → cell_at t d g ≡ cell_at s d g) → AreByChild s → AreByChild t
same_children s t same own d g e h = own d g e (sym (same d g) ∙ h)

joined_child : (o : Option Entry) (e : Entry) → ((held : Entry) → o ≡ Some held → held.child ≡ e.child) → (joined_to o e).child ≡ e.child
joined_child None e same = refl
joined_child (Some held) e same = same held refl

pub joined_children : (s : NamesValue) (d : FileId) (b : Attributes) (e : Entry) → own_at s d ≡ Some b → AreByChild s → AreByChild (join_entry s d e)
joined_children s d b e held own q g c h = elim (entry_at_one s d b held e q g) [
  | inl same ↦ own q g c (sym same ∙ h)
  | inr here ↦
      let at : cell_at (join_entry s d e) d e.child ≡ Some c = ap (λ x. cell_at (join_entry s d e) x e.child) (sym here.0) ∙ ap (cell_at (join_entry s d e) q) (sym here.1) ∙ h in
      let is : joined_to (cell_at s d e.child) e ≡ c = same_Some (joined_to (cell_at s d e.child) e) c (sym (joined_same s d b e held) ∙ at) in
      ap (λ (x : Entry). x.child) (sym is) ∙ joined_child (cell_at s d e.child) e (λ x i. own d e.child x i) ∙ sym here.1
]

-- ---- stamps

-- no stamp of a place is later than this
record AreUpTo (n : ℕ) (s : NamesValue) : Type 0 where
  pub own : (f : FileId) (own : Attributes) → own_at s f ≡ Some own → own.place.stamp.time ≤ n
  pub cells : (d g : FileId) (c : Entry) → cell_at s d g ≡ Some c → c.place.stamp.time ≤ n

up_to : (a b n : ℕ) → a ≤ b → b ≤ n → a ≤ n
up_to a b n h k = omega arith

more : (n : ℕ) (s : NamesValue) → s.last ≤ n → IsLast s → AreUpTo n s
more n s le k = record {
  own = λ f b h. up_to b.place.stamp.time s.last n (k.own f b h) le;
  cells = λ d g c h. up_to c.place.stamp.time s.last n (k.cells d g c h) le;
}

raised_last : (s : NamesValue) (time : ℕ) → AreUpTo (max s.last time) s → IsLast (raise s time)
raised_last s time k = record { own = k.own; cells = k.cells }

first_most : (a b : ℕ) → a ≤ max a b
first_most a b = grind arith

second_most : (a b : ℕ) → b ≤ max a b
second_most a b = grind arith

-- of a change of one thing's place and flags
own_cases : (P : Attributes → Type 0) (s t : NamesValue) (f : FileId) (b c : Attributes) → OneOwn s t f b c → P c → ((q : FileId) (o : Attributes) → own_at s q ≡ Some o → P o) → (q : FileId) (o : Attributes) (u : Bool) → is_same_file f q ≡ u → own_at t q ≡ Some o → P o
own_cases P s t f b c k here there q o true e h = subst P (same_Some c o (sym k.is ∙ ap (own_at t) (is_same_file-true f q e) ∙ h)) here
own_cases P s t f b c k here there q o false e h = there q o (sym (k.others q e) ∙ h)

by_cases : (P : Attributes → Type 0) (s t : NamesValue) (f : FileId) (b c : Attributes) → OneOwn s t f b c → P c → ((q : FileId) (o : Attributes) → own_at s q ≡ Some o → P o) → (q : FileId) (o : Attributes) → own_at t q ≡ Some o → P o
by_cases P s t f b c k here there q o h = own_cases P s t f b c k here there q o (is_same_file f q) refl h

-- ---- a place or a flag comes

newer_up : (n : ℕ) (a b : Place) → a.stamp.time ≤ n → b.stamp.time ≤ n → (newer_place a b).stamp.time ≤ n
newer_up n a b h k = chosen (λ (p : Place). p.stamp.time ≤ n) (is_before a.stamp b.stamp) b a k h

module _ (s : NamesValue) (f : FileId) (b : Attributes) (held : own_at s f ≡ Some b) (k : AreOrderly s) where
  pub orderly_place : (place : Place) → AreOrderly (raise (join_place s f place) place.stamp.time)
  orderly_place place =
      let t = join_place s f place in
      let n = max t.last place.stamp.time in
      let one = place_one s f b held place in
      let frame = update_frame s f (with_place place) in
      let P : ℕ → Type 0 = λ m. m ≤ n in
      let old : AreUpTo n s = more n s (subst P frame.last (first_most t.last place.stamp.time)) k.last in
      let up : AreUpTo n t = record {
        own = by_cases (λ o. o.place.stamp.time ≤ n) s t f b (own_with_place place b) one (newer_up n b.place place (old.own f b held) (second_most t.last place.stamp.time)) old.own;
        cells = λ d g c h. old.cells d g c (sym (place_cell s f place d g) ∙ h);
      } in
      record {
        dirs = λ d g c h. k.dirs d g c (sym (place_cell s f place d g) ∙ h);
        sorted = by_cases (λ o. IsByServer o.flags) s t f b (own_with_place place b) one (k.sorted f b held) k.sorted;
        last = raised_last t place.stamp.time up;
        children = same_children s t (place_cell s f place) k.children;
      }

  pub orderly_flag : (flag : Flag) → AreOrderly (join_flag s f flag)
  orderly_flag flag =
      let t = join_flag s f flag in
      let one = flag_one s f b held flag in
      let frame = update_frame s f (with_flag flag) in
      let P : ℕ → Type 0 = λ m. AreUpTo m s in
      let old : AreUpTo t.last s = subst P (sym frame.last) (record { own = k.last.own; cells = k.last.cells }) in
      record {
        dirs = λ d g c h. k.dirs d g c (sym (flag_cell s f flag d g) ∙ h);
        sorted = by_cases (λ o. IsByServer o.flags) s t f b (own_with_flag flag b) one (IsByServer-join_flag flag b.flags (k.sorted f b held)) k.sorted;
        last = record {
          own = by_cases (λ o. o.place.stamp.time ≤ t.last) s t f b (own_with_flag flag b) one (old.own f b held) old.own;
          cells = λ d g c h. old.cells d g c (sym (flag_cell s f flag d g) ∙ h);
        };
        children = same_children s t (flag_cell s f flag) k.children;
      }

-- ---- an entry comes

joined_up : (n : ℕ) (o : Option Entry) (e : Entry) → ((c : Entry) → o ≡ Some c → c.place.stamp.time ≤ n) → e.place.stamp.time ≤ n → (joined_to o e).place.stamp.time ≤ n
joined_up n None e h k = k
joined_up n (Some c) e h k = newer_up n c.place e.place (h c refl) k

module _ (s : NamesValue) (d : FileId) (b : Attributes) (held : own_at s d ≡ Some b) (dir : is_dir d ≡ true) (k : AreOrderly s) (e : Entry) where
  abbrev Then : NamesValue
  Then = join_entry s d e

  entry_cases : (P : FileId → Entry → Type 0) → P d (joined_to (cell_at s d e.child) e) → ((q g : FileId) (c : Entry) → cell_at s q g ≡ Some c → P q c) → (q g : FileId) (c : Entry) → cell_at Then q g ≡ Some c → P q c
  entry_cases P here there q g c h = elim (entry_at_one s d b held e q g) [
    | inl same ↦ there q g c (sym same ∙ h)
    | inr one ↦
        let at : cell_at Then d e.child ≡ Some c = ap (λ x. cell_at Then x e.child) (sym one.0) ∙ ap (cell_at Then q) (sym one.1) ∙ h in
        let is : joined_to (cell_at s d e.child) e ≡ c = same_Some (joined_to (cell_at s d e.child) e) c (sym (joined_same s d b e held) ∙ at) in
        let Q : FileId → Type 0 = λ x. P x c in
        subst Q (sym one.0) (subst (P d) is here)
  ]

  pub orderly_entry : AreOrderly (raise Then e.place.stamp.time)
  orderly_entry =
      let n = max Then.last e.place.stamp.time in
      let frame = update_frame s d (with_joined e) in
      let P : ℕ → Type 0 = λ m. m ≤ n in
      let old : AreUpTo n s = more n s (subst P frame.last (first_most Then.last e.place.stamp.time)) k.last in
      let up : AreUpTo n Then = record {
        own = λ f o h. old.own f o (sym (joined_own s d e f) ∙ h);
        cells = entry_cases (λ q c. c.place.stamp.time ≤ n) (joined_up n (cell_at s d e.child) e (old.cells d e.child) (second_most Then.last e.place.stamp.time)) old.cells;
      } in
      record {
        dirs = entry_cases (λ q c. is_dir q ≡ true) dir k.dirs;
        sorted = λ f o h. k.sorted f o (sym (joined_own s d e f) ∙ h);
        last = raised_last Then e.place.stamp.time up;
        children = joined_children s d b e held k.children;
      }

-- a stamp is taken
pub orderly_raised : (s : NamesValue) (time : ℕ) → AreOrderly s → AreOrderly (raise s time)
orderly_raised s time k = record { dirs = k.dirs; sorted = k.sorted; last = raised_last s time (more (max s.last time) s (first_most s.last time) k.last); children = k.children }

-- ---- a thing begins that was not held

module _ (s : NamesValue) (f : FileId) (own : Attributes) (full : Bool) (none : known s f ≡ None) (flags : IsByServer own.flags) (k : AreOrderly s) where
  abbrev Begun : NamesValue
  Begun = begin s f own full

  old_cell : (d g : FileId) (c : Entry) → cell_at Begun d g ≡ Some c → cell_at s d g ≡ Some c
  old_cell d g c h = sym (begun_cells s f own full none d g) ∙ h

  own_by_test : (P : Attributes → Type 0) → P own → ((q : FileId) (o : Attributes) → own_at s q ≡ Some o → P o) → (q : FileId) (o : Attributes) (t : Bool)
      → own_of (cond t (Some (new_held own full)) (known s q)) ≡ Some o → P o
  own_by_test P here there q o true h = subst P (same_Some own o h) here
  own_by_test P here there q o false h = there q o h

  begun_own : (P : Attributes → Type 0) → P own → ((q : FileId) (o : Attributes) → own_at s q ≡ Some o → P o) → (q : FileId) (o : Attributes) → own_at Begun q ≡ Some o → P o
  begun_own P here there q o h = own_by_test P here there q o (is_same_file q f) (sym (ap own_of (begun_known s f own full q)) ∙ h)

  pub orderly_begun : AreOrderly (raise Begun own.place.stamp.time)
  orderly_begun =
      let n = max Begun.last own.place.stamp.time in
      let old : AreUpTo n s = more n s (first_most Begun.last own.place.stamp.time) k.last in
      let up : AreUpTo n Begun = record {
        own = begun_own (λ o. o.place.stamp.time ≤ n) (second_most Begun.last own.place.stamp.time) old.own;
        cells = λ d g c h. old.cells d g c (old_cell d g c h);
      } in
      record {
        dirs = λ d g c h. k.dirs d g c (old_cell d g c h);
        sorted = begun_own (λ o. IsByServer o.flags) flags k.sorted;
        last = raised_last Begun own.place.stamp.time up;
        children = λ d g c h. k.children d g c (old_cell d g c h);
      }

-- a thing is full
pub orderly_filled : (s : NamesValue) (f : FileId) → AreOrderly s → AreOrderly (fill s f)
orderly_filled s f k =
    let frame = update_frame s f filled in
    let P : ℕ → Type 0 = λ m. (q : FileId) (o : Attributes) → own_at (fill s f) q ≡ Some o → o.place.stamp.time ≤ m in
    let Q : ℕ → Type 0 = λ m. (d g : FileId) (c : Entry) → cell_at (fill s f) d g ≡ Some c → c.place.stamp.time ≤ m in
    record {
      dirs = λ d g c h. k.dirs d g c (sym (fill_cells s f d g) ∙ h);
      sorted = λ q o h. k.sorted q o (sym (fill_own s f q) ∙ h);
      last = record {
        own = subst P (sym frame.last) (λ q o h. k.last.own q o (sym (fill_own s f q) ∙ h));
        cells = subst Q (sym frame.last) (λ d g c h. k.last.cells d g c (sym (fill_cells s f d g) ∙ h));
      };
      children = λ d g c h. k.children d g c (sym (fill_cells s f d g) ∙ h);
    }
