-- Names that change: what is known of them grows, and the keys that tell of it.
use Rattle.std.proofs.Common.{ℕ, ◌≡◌, eqb, Bool, true, false, List, [], ◌∷◌, Option, None, Some, refl, sym, ap, subst, ◌∙◌, inl, inr, ◌⊎◌}
use Rattle.std.proofs.lemmas.Bool.{eqb-true}
use Rattle.pg_base.specs.declared.id.FileId.{FileId}
use Rattle.pg_base.specs.Id.{is_same_file}
use Rattle.pg_base.proofs.Orders.{UpTo-refl, UpTo-trans, is_same_file-true}
use Rattle.pg_edges.specs.declared.key.Key.TheVariants as key
use Rattle.pg_entries.specs.declared.entry.Entry.{Entry}
use Rattle.pg_cells.specs.pg_house.Facts.{IsIn}
use Rattle.pg_cells.specs.pg_msg.declared.work.Touched.{Touched}
use Rattle.pg_cells.specs.pg_names.declared.attributes.Attributes.{Attributes}
use Rattle.pg_cells.specs.pg_names.Names.{NamesValue, cell_at, join_entry, join_flag, join_place, or_blank, own_at, own_or_blank}
use Rattle.pg_cells.proofs.pg_names.Lookups.{flag_cell, flag_other, flag_same, joined_other_child, joined_other_dir, joined_own, joined_same, own_with_flag, own_with_place, place_cell, place_other, place_same}
use Rattle.pg_register.specs.declared.flag.Flag.{Flag}
use Rattle.pg_register.specs.declared.place.Place.{Place}
use Rattle.pg_register.specs.Flag as flags
use Rattle.pg_register.specs.Flag.{flag_of}
use Rattle.theory_flood_pieces.specs.Names.{AreNamesUpTo, IsEntryKnownBy, IsToldBy}
use Rattle.theory_flood_pieces.specs.UpTo.{AreFlagsUpTo, IsPlaceUpTo}
use Rattle.theory_flood_pieces.proofs.Flags.{flag_apart, flag_joined, known_joined, newer_of_both}
use Rattle.theory_flood_pieces.proofs.UpTo.{entry_further, entry_itself, flags_further, flags_themselves}

-- ---- entries, where there are any

pub entry_known_itself : (o : Option Entry) → IsEntryKnownBy o o
entry_known_itself None = tt
entry_known_itself (Some e) = entry_itself e

pub entry_known_further : (o p q : Option Entry) → IsEntryKnownBy o p → IsEntryKnownBy p q → IsEntryKnownBy o q
entry_known_further None p q one two = tt
entry_known_further (Some e) None q one two = absurd one
entry_known_further (Some e) (Some f) None one two = absurd two
entry_known_further (Some e) (Some f) (Some g) one two = entry_further e f g one two

-- ---- names that grow, and what tells of it

pub names_further : (s t u : NamesValue) → AreNamesUpTo s t → AreNamesUpTo t u → AreNamesUpTo s u
names_further s t u a b = record {
  places = λ f. UpTo-trans (own_or_blank s f).place.stamp (own_or_blank t f).place.stamp (own_or_blank u f).place.stamp (a.places f) (b.places f);
  flags = λ f. flags_further (own_or_blank s f).flags (own_or_blank t f).flags (own_or_blank u f).flags (a.flags f) (b.flags f);
  entries = λ d g. entry_known_further (cell_at s d g) (cell_at t d g) (cell_at u d g) (a.entries d g) (b.entries d g);
}

then_told : {A : Type 0} (a b c : A) (P : Type 0) → (b ≡ a) ⊎ P → (c ≡ b) ⊎ P → (c ≡ a) ⊎ P
then_told a b c P one (inr p) = inr p
then_told a b c P (inr p) (inl e) = inr p
then_told a b c P (inl e) (inl d) = inl (d ∙ e)

pub told_further : (ts : List Touched) (s t u : NamesValue) → IsToldBy ts s t → IsToldBy ts t u → IsToldBy ts s u
told_further ts s t u a b = record {
  places = λ f. then_told (own_or_blank s f).place (own_or_blank t f).place (own_or_blank u f).place _ (a.places f) (b.places f);
  flags = λ f n. then_told (flag_of (own_or_blank s f).flags n) (flag_of (own_or_blank t f).flags n) (flag_of (own_or_blank u f).flags n) _ (a.flags f n) (b.flags f n);
  entries = λ d g. then_told (cell_at s d g) (cell_at t d g) (cell_at u d g) _ (a.entries d g) (b.entries d g);
}

-- both know the same
pub record SameNames (s t : NamesValue) : Type 0 where
  pub own : (f : FileId) → own_or_blank t f ≡ own_or_blank s f
  pub entries : (d g : FileId) → cell_at t d g ≡ cell_at s d g

pub SameNames-refl : (s : NamesValue) → SameNames s s
SameNames-refl s = record { own = λ f. refl; entries = λ d g. refl }

pub same_grow : (s t : NamesValue) → SameNames s t → AreNamesUpTo s t
same_grow s t k = record {
  places = λ f. (let P : Attributes → Type 0 = λ o. IsPlaceUpTo (own_or_blank s f).place o.place in subst P (sym (k.own f)) (UpTo-refl (own_or_blank s f).place.stamp));
  flags = λ f. (let P : Attributes → Type 0 = λ o. AreFlagsUpTo (own_or_blank s f).flags o.flags in subst P (sym (k.own f)) (flags_themselves (own_or_blank s f).flags));
  entries = λ d g. (let P : Option Entry → Type 0 = λ o. IsEntryKnownBy (cell_at s d g) o in subst P (sym (k.entries d g)) (entry_known_itself (cell_at s d g)));
}

pub same_told : (ts : List Touched) (s t : NamesValue) → SameNames s t → IsToldBy ts s t
same_told ts s t k = record {
  places = λ f. inl (ap (λ (o : Attributes). o.place) (k.own f));
  flags = λ f n. inl (ap (λ (o : Attributes). flag_of o.flags n) (k.own f));
  entries = λ d g. inl (k.entries d g);
}

-- ---- the own place and flags of one thing change

pub record OneOwn (s t : NamesValue) (f : FileId) (before after : Attributes) : Type 0 where
  pub was : own_at s f ≡ Some before
  pub is : own_at t f ≡ Some after
  pub others : (q : FileId) → is_same_file f q ≡ false → own_at t q ≡ own_at s q

own_by : (P : FileId → Attributes → Attributes → Type 0) (s t : NamesValue) (f : FileId) (b c : Attributes) → OneOwn s t f b c → P f b c → ((q : FileId) (o : Attributes) → P q o o) → (q : FileId) (u : Bool) → is_same_file f q ≡ u
    → P q (own_or_blank s q) (own_or_blank t q)
own_by P s t f b c k here there q true e =
    let Q : FileId → Type 0 = λ x. P x (own_or_blank s x) (own_or_blank t x) in
    let R : Attributes → Type 0 = λ o. P f o (own_or_blank t f) in
    let S : Attributes → Type 0 = λ o. P f b o in
    subst Q (is_same_file-true f q e) (subst R (sym (ap (or_blank f) k.was)) (subst S (sym (ap (or_blank f) k.is)) here))
own_by P s t f b c k here there q false e = let R : Attributes → Type 0 = λ o. P q (own_or_blank s q) o in subst R (sym (ap (or_blank q) (k.others q e))) (there q (own_or_blank s q))

pub by_own : (P : FileId → Attributes → Attributes → Type 0) (s t : NamesValue) (f : FileId) (b c : Attributes) → OneOwn s t f b c → P f b c → ((q : FileId) (o : Attributes) → P q o o) → (q : FileId) → P q (own_or_blank s q) (own_or_blank t q)
by_own P s t f b c k here there q = own_by P s t f b c k here there q (is_same_file f q) refl

pub one_own_grows : (s t : NamesValue) (f : FileId) (b c : Attributes) → OneOwn s t f b c → IsPlaceUpTo b.place c.place → AreFlagsUpTo b.flags c.flags
    → ((d g : FileId) → IsEntryKnownBy (cell_at s d g) (cell_at t d g)) → AreNamesUpTo s t
one_own_grows s t f b c k place fs entries = record {
  places = by_own (λ q o n. IsPlaceUpTo o.place n.place) s t f b c k place (λ q o. UpTo-refl o.place.stamp);
  flags = by_own (λ q o n. AreFlagsUpTo o.flags n.flags) s t f b c k fs (λ q o. flags_themselves o.flags);
  entries = entries;
}

-- where the entries are as they were
pub same_entries : (s t : NamesValue) → ((d g : FileId) → cell_at t d g ≡ cell_at s d g) → (d g : FileId) → IsEntryKnownBy (cell_at s d g) (cell_at t d g)
same_entries s t same d g = let P : Option Entry → Type 0 = λ o. IsEntryKnownBy (cell_at s d g) o in subst P (sym (same d g)) (entry_known_itself (cell_at s d g))

pub one_own_told : (ts : List Touched) (s t : NamesValue) (f : FileId) (b c : Attributes) → OneOwn s t f b c → (c.place ≡ b.place) ⊎ IsIn (record { file = f; key = key.Place }) ts
    → ((n : ℕ) → (flag_of c.flags n ≡ flag_of b.flags n) ⊎ IsIn (record { file = f; key = key.Flag n }) ts) → ((d g : FileId) → cell_at t d g ≡ cell_at s d g) → IsToldBy ts s t
one_own_told ts s t f b c k place fs entries = record {
  places = by_own (λ q o n. (n.place ≡ o.place) ⊎ IsIn (record { file = q; key = key.Place }) ts) s t f b c k place (λ q o. inl refl);
  flags = λ q n. by_own (λ q o m. (flag_of m.flags n ≡ flag_of o.flags n) ⊎ IsIn (record { file = q; key = key.Flag n }) ts) s t f b c k (fs n) (λ q o. inl refl) q;
  entries = λ d g. inl (entries d g);
}

-- ---- a place comes, or a flag

module _ (s : NamesValue) (f : FileId) (b : Attributes) (held : own_at s f ≡ Some b) where
  pub place_one : (place : Place) → OneOwn s (join_place s f place) f b (own_with_place place b)
  place_one place = record { was = held; is = place_same s f place b held; others = place_other s f place }

  pub place_grows : (place : Place) → AreNamesUpTo s (join_place s f place)
  place_grows place = one_own_grows s (join_place s f place) f b (own_with_place place b) (place_one place) (newer_of_both b.place place).0 (flags_themselves b.flags) (same_entries s (join_place s f place) (place_cell s f place))

  pub place_told : (place : Place) → IsToldBy (record { file = f; key = key.Place } ∷ []) s (join_place s f place)
  place_told place = one_own_told (record { file = f; key = key.Place } ∷ []) s (join_place s f place) f b (own_with_place place b) (place_one place) (inr (inl refl)) (λ n. inl refl) (place_cell s f place)

  pub flag_one : (flag : Flag) → OneOwn s (join_flag s f flag) f b (own_with_flag flag b)
  flag_one flag = record { was = held; is = flag_same s f flag b held; others = flag_other s f flag }

  pub flag_grows : (flag : Flag) → AreNamesUpTo s (join_flag s f flag)
  flag_grows flag = one_own_grows s (join_flag s f flag) f b (own_with_flag flag b) (flag_one flag) (UpTo-refl b.place.stamp) (flag_joined b.flags flag) (same_entries s (join_flag s f flag) (flag_cell s f flag))

  one_flag : (flag : Flag) (n : ℕ) (t : Bool) → eqb flag.server n ≡ t
      → (flag_of (flags.join_flag b.flags flag) n ≡ flag_of b.flags n) ⊎ IsIn (record { file = f; key = key.Flag n }) (record { file = f; key = key.Flag flag.server } ∷ [])
  one_flag flag n true e = inr (inl (ap (λ m. record { file = f; key = key.Flag m }) (eqb-true flag.server n e)))
  one_flag flag n false e = inl (flag_apart b.flags flag n e)

  pub flag_told : (flag : Flag) → IsToldBy (record { file = f; key = key.Flag flag.server } ∷ []) s (join_flag s f flag)
  flag_told flag =
      one_own_told (record { file = f; key = key.Flag flag.server } ∷ []) s (join_flag s f flag) f b (own_with_flag flag b) (flag_one flag) (inl refl) (λ n. one_flag flag n (eqb flag.server n) refl) (flag_cell s f flag)

-- ---- an entry comes

module _ (s : NamesValue) (d : FileId) (b : Attributes) (held : own_at s d ≡ Some b) (e : Entry) where
  abbrev Then : NamesValue
  Then = join_entry s d e

  entry_by : (q g : FileId) (t u : Bool) → is_same_file d q ≡ t → is_same_file g e.child ≡ u → (cell_at Then q g ≡ cell_at s q g) ⊎ ((q ≡ d) × (g ≡ e.child))
  entry_by q g false u apart child = inl (joined_other_dir s d e q g apart)
  entry_by q g true false same apart = inl (joined_other_child s d e q g apart)
  entry_by q g true true same child = inr (sym (is_same_file-true d q same), is_same_file-true g e.child child)

  pub entry_at_one : (q g : FileId) → (cell_at Then q g ≡ cell_at s q g) ⊎ ((q ≡ d) × (g ≡ e.child))
  entry_at_one q g = entry_by q g (is_same_file d q) (is_same_file g e.child) refl refl

  own_same : (q : FileId) → own_or_blank Then q ≡ own_or_blank s q
  own_same q = ap (or_blank q) (joined_own s d e q)

  entry_here : IsEntryKnownBy (cell_at s d e.child) (cell_at Then d e.child)
  entry_here = let P : Option Entry → Type 0 = λ o. IsEntryKnownBy (cell_at s d e.child) o in subst P (sym (joined_same s d b e held)) (known_joined (cell_at s d e.child) e)

  pub entry_grows : AreNamesUpTo s Then
  entry_grows = record {
    places = λ f. (let P : Attributes → Type 0 = λ o. IsPlaceUpTo (own_or_blank s f).place o.place in subst P (sym (own_same f)) (UpTo-refl (own_or_blank s f).place.stamp));
    flags = λ f. (let P : Attributes → Type 0 = λ o. AreFlagsUpTo (own_or_blank s f).flags o.flags in subst P (sym (own_same f)) (flags_themselves (own_or_blank s f).flags));
    entries = λ q g. elim (entry_at_one q g) [
      | inl same ↦ let P : Option Entry → Type 0 = λ o. IsEntryKnownBy (cell_at s q g) o in subst P (sym same) (entry_known_itself (cell_at s q g))
      | inr here ↦
          let P : FileId → Type 0 = λ x. IsEntryKnownBy (cell_at s x g) (cell_at Then x g) in
          let Q : FileId → Type 0 = λ x. IsEntryKnownBy (cell_at s d x) (cell_at Then d x) in
          subst P (sym here.0) (subst Q (sym here.1) entry_here)
    ];
  }

  pub entry_told : IsToldBy (record { file = d; key = key.Entry e.child } ∷ []) s Then
  entry_told = record {
    places = λ f. inl (ap (λ (o : Attributes). o.place) (own_same f));
    flags = λ f n. inl (ap (λ (o : Attributes). flag_of o.flags n) (own_same f));
    entries = λ q g. elim (entry_at_one q g) [
      | inl same ↦ inl same
      | inr here ↦ inr (inl (ap (λ (x : FileId). record { file = x; key = key.Entry e.child }) (sym here.0) ∙ ap (λ (x : FileId). record { file = q; key = key.Entry x }) (sym here.1)))
    ];
  }
