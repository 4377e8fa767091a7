-- What is found in names after a change.
use Rattle.std.proofs.Common.{◌≡◌, Bool, true, false, cond, Option, None, Some, refl, sym, ap, ◌∙◌, subst}
use Rattle.std.specs.Cmp.{eq_by_cmp_equiv}
use Rattle.std.specs.Option.{IsSome}
use Rattle.std.specs.Map.{keys_of}
use Rattle.std.specs.BTreeMap.{is_at}
use Rattle.std.proofs.lemmas.Map.{lookup-set_value, keys-set_value}
use Rattle.std.proofs.lemmas.Bool.{false≢true}
use Rattle.std.proofs.lemmas.Option.{none-some, same_Some}
use Rattle.pg_base.specs.declared.id.FileId.{FileId}
use Rattle.pg_base.specs.Id.{file_cmp, is_same_file}
use Rattle.pg_base.proofs.Orders.{file_total, is_same_file-true, is_same_file-refl}
use Rattle.pg_base.proofs.Maps.{lookup-insert_entry}
use Rattle.pg_register.specs.declared.flag.Flag.{Flag}
use Rattle.pg_register.specs.declared.place.Place.{Place}
use Rattle.pg_register.specs.Flag as flags
use Rattle.pg_register.specs.Place.{newer_place}
use Rattle.pg_entries.specs.declared.entry.Entry.{Entry}
use Rattle.pg_entries.specs.Entry.{entry_of, joined_to}
use Rattle.pg_names.specs.declared.attributes.Attributes.{Attributes}
use Rattle.pg_names.specs.Names.{InodeValue, NamesValue, changed, known, entry_in, own_of, own_at, cell_at, update, with_entry, with_flag, with_held, with_joined, with_own, with_place, set_entry, set_own, join_entry, join_flag, join_place}

-- ids that are one compare alike to any other
alike : (d x y : FileId) → is_same_file d x ≡ true → is_same_file d y ≡ is_same_file x y
alike d x y h = ap (λ (q : FileId). is_same_file q y) (is_same_file-true d x h)

same_by : (t : Bool) (a b : FileId) → is_same_file b a ≡ t → is_same_file a b ≡ false → t ≡ false
same_by false a b h apart = refl
same_by true a b h apart = absurd (false≢true (sym apart ∙ subst (λ (q : FileId). is_same_file q b ≡ true) (is_same_file-true b a h) (is_same_file-refl b)))

-- ids that differ do so in either order
pub apart_back : (a b : FileId) → is_same_file a b ≡ false → is_same_file b a ≡ false
apart_back a b apart = same_by (is_same_file b a) a b refl apart

some_is : (o : Option InodeValue) (x : InodeValue) → o ≡ Some x → IsSome o
some_is o x h = subst IsSome (sym h) refl

-- what is held of a thing, after what is held of one was written
pub known_held : (s : NamesValue) (f : FileId) (x y : InodeValue) (q : FileId) → known s f ≡ Some x → known (with_held s f y) q ≡ cond (is_same_file f q) (Some y) (known s q)
known_held s f x y q h = lookup-set_value (eq_by_cmp_equiv file_total) (is_at (file_cmp f)) (alike f) q y s.held (some_is (known s f) x h)

held_same : (s : NamesValue) (f : FileId) (x y : InodeValue) → known s f ≡ Some x → known (with_held s f y) f ≡ Some y
held_same s f x y h = known_held s f x y f h ∙ ap (λ b. cond b (Some y) (known s f)) (is_same_file-refl f)

held_other : (s : NamesValue) (f : FileId) (x y : InodeValue) (q : FileId) → known s f ≡ Some x → is_same_file f q ≡ false → known (with_held s f y) q ≡ known s q
held_other s f x y q h apart = known_held s f x y q h ∙ ap (λ b. cond b (Some y) (known s q)) apart

-- ---- what is held of one thing changes

module _ (s : NamesValue) (f : FileId) (change : InodeValue → InodeValue) where
  known_other_by : (o : Option InodeValue) (q : FileId) → known s f ≡ o → is_same_file f q ≡ false → known (changed s f change o) q ≡ known s q
  known_other_by None q h apart = refl
  known_other_by (Some x) q h apart = held_other s f x (change x) q h apart

  -- of every other thing the same is held
  pub known_other : (q : FileId) → is_same_file f q ≡ false → known (update s f change) q ≡ known s q
  known_other q apart = known_other_by (known s f) q refl apart

  known_same_by : (o : Option InodeValue) (x : InodeValue) → known s f ≡ o → o ≡ Some x → known (changed s f change o) f ≡ Some (change x)
  known_same_by None x h g = absurd (none-some x g)
  known_same_by (Some y) x h g = held_same s f y (change y) h ∙ ap (λ z. Some (change z)) (same_Some y x g)

  -- of the thing itself the changed
  pub known_same : (x : InodeValue) → known s f ≡ Some x → known (update s f change) f ≡ Some (change x)
  known_same x h = known_same_by (known s f) x refl h

  absent_by : (o : Option InodeValue) → own_of o ≡ None → changed s f change o ≡ s
  absent_by None h = refl
  absent_by (Some x) h = absurd (none-some x.own (sym h))

  -- what is not held is not changed
  pub known_absent : own_at s f ≡ None → update s f change ≡ s
  known_absent h = absent_by (known s f) h

  -- a change that leaves own places and flags
  own_at_by : ((x : InodeValue) → (change x).own ≡ x.own) → (x : InodeValue) (q : FileId) (t : Bool) → known s f ≡ Some x → is_same_file f q ≡ t → own_of (cond t (Some (change x)) (known s q)) ≡ own_at s q
  own_at_by keeps x q false h e = refl
  own_at_by keeps x q true h e = ap Some (keeps x) ∙ ap own_of (sym h) ∙ ap (own_at s) (is_same_file-true f q e)

  own_kept_by : ((x : InodeValue) → (change x).own ≡ x.own) → (o : Option InodeValue) (q : FileId) → known s f ≡ o → own_at (changed s f change o) q ≡ own_at s q
  own_kept_by keeps None q h = refl
  own_kept_by keeps (Some x) q h = ap own_of (known_held s f x (change x) q h) ∙ own_at_by keeps x q (is_same_file f q) h refl

  pub own_kept : ((x : InodeValue) → (change x).own ≡ x.own) → (q : FileId) → own_at (update s f change) q ≡ own_at s q
  own_kept keeps q = own_kept_by keeps (known s f) q refl

  -- one that leaves the entries
  cell_at_by : ((x : InodeValue) → (change x).entries ≡ x.entries) → (x : InodeValue) (q g : FileId) (t : Bool) → known s f ≡ Some x → is_same_file f q ≡ t → entry_in g (cond t (Some (change x)) (known s q)) ≡ cell_at s q g
  cell_at_by keeps x q g false h e = refl
  cell_at_by keeps x q g true h e = ap (λ es. entry_of es g) (keeps x) ∙ ap (entry_in g) (sym h) ∙ ap (λ k. cell_at s k g) (is_same_file-true f q e)

  cells_kept_by : ((x : InodeValue) → (change x).entries ≡ x.entries) → (o : Option InodeValue) (q g : FileId) → known s f ≡ o → cell_at (changed s f change o) q g ≡ cell_at s q g
  cells_kept_by keeps None q g h = refl
  cells_kept_by keeps (Some x) q g h = ap (entry_in g) (known_held s f x (change x) q h) ∙ cell_at_by keeps x q g (is_same_file f q) h refl

  pub cells_kept : ((x : InodeValue) → (change x).entries ≡ x.entries) → (q g : FileId) → cell_at (update s f change) q g ≡ cell_at s q g
  cells_kept keeps q g = cells_kept_by keeps (known s f) q g refl

  -- what is held after a change was held before
  back_by : (o : Option InodeValue) (q : FileId) (b : Attributes) (t : Bool) → known s f ≡ o → is_same_file f q ≡ t → own_at (changed s f change o) q ≡ Some b → (a : Attributes) × (own_at s q ≡ Some a)
  back_by None q b t h e g = (b, g)
  back_by (Some x) q b false h apart g = (b, sym (ap own_of (known_other_by (Some x) q h apart)) ∙ g)
  back_by (Some x) q b true h same g = (x.own, ap (own_at s) (sym (is_same_file-true f q same)) ∙ ap own_of h)

  pub own_back : (q : FileId) (b : Attributes) → own_at (update s f change) q ≡ Some b → (a : Attributes) × (own_at s q ≡ Some a)
  own_back q b g = back_by (known s f) q b (is_same_file f q) refl refl g

-- ---- the own place and flags of a thing are written

pub own_other : (s : NamesValue) (f : FileId) (c : Attributes) (q : FileId) → is_same_file f q ≡ false → own_at (set_own s f c) q ≡ own_at s q
own_other s f c q apart = ap own_of (known_other s f (with_own c) q apart)

same_own_by : (s : NamesValue) (f : FileId) (o : Option InodeValue) (b c : Attributes) → known s f ≡ o → own_of o ≡ Some b → own_at (set_own s f c) f ≡ Some c
same_own_by s f None b c h g = absurd (none-some b g)
same_own_by s f (Some x) b c h g = ap own_of (known_same s f (with_own c) x h)

pub own_same : (s : NamesValue) (f : FileId) (b c : Attributes) → own_at s f ≡ Some b → own_at (set_own s f c) f ≡ Some c
own_same s f b c h = same_own_by s f (known s f) b c refl h

pub own_cell : (s : NamesValue) (f : FileId) (c : Attributes) (d g : FileId) → cell_at (set_own s f c) d g ≡ cell_at s d g
own_cell s f c d g = cells_kept s f (with_own c) (λ x. refl) d g

-- ---- a cell is written, whole

pub entry_own : (s : NamesValue) (d : FileId) (e : Entry) (q : FileId) → own_at (set_entry s d e) q ≡ own_at s q
entry_own s d e q = own_kept s d (with_entry e) (λ x. refl) q

entry_same_by : (s : NamesValue) (d : FileId) (o : Option InodeValue) (b : Attributes) (e : Entry) → known s d ≡ o → own_of o ≡ Some b → cell_at (set_entry s d e) d e.child ≡ Some e
entry_same_by s d None b e h g = absurd (none-some b g)
entry_same_by s d (Some x) b e h g =
    ap (entry_in e.child) (known_same s d (with_entry e) x h) ∙ lookup-insert_entry file_cmp file_total e.child e.child e x.entries
    ∙ ap (λ t. cond t (Some e) (entry_of x.entries e.child)) (is_same_file-refl e.child)

pub entry_same : (s : NamesValue) (d : FileId) (b : Attributes) (e : Entry) → own_at s d ≡ Some b → cell_at (set_entry s d e) d e.child ≡ Some e
entry_same s d b e h = entry_same_by s d (known s d) b e refl h

pub entry_other_dir : (s : NamesValue) (d : FileId) (e : Entry) (q g : FileId) → is_same_file d q ≡ false → cell_at (set_entry s d e) q g ≡ cell_at s q g
entry_other_dir s d e q g apart = ap (entry_in g) (known_other s d (with_entry e) q apart)

-- a change of the entries of one child leaves the others
other_child_at : (s : NamesValue) (d : FileId) (change : InodeValue → InodeValue) (g q : FileId) (x : InodeValue) (t : Bool) → entry_of (change x).entries g ≡ entry_of x.entries g → known s d ≡ Some x → is_same_file d q ≡ t → entry_in g (cond t (Some (change x)) (known s q)) ≡ cell_at s q g
other_child_at s d change g q x false same h e = refl
other_child_at s d change g q x true same h e = same ∙ ap (entry_in g) (sym h) ∙ ap (λ k. cell_at s k g) (is_same_file-true d q e)

other_child_by : (s : NamesValue) (d : FileId) (change : InodeValue → InodeValue) (g q : FileId) (o : Option InodeValue) → ((x : InodeValue) → entry_of (change x).entries g ≡ entry_of x.entries g) → known s d ≡ o → cell_at (changed s d change o) q g ≡ cell_at s q g
other_child_by s d change g q None same h = refl
other_child_by s d change g q (Some x) same h = ap (entry_in g) (known_held s d x (change x) q h) ∙ other_child_at s d change g q x (is_same_file d q) (same x) h refl

pub entry_other_child : (s : NamesValue) (d : FileId) (e : Entry) (q g : FileId) → is_same_file g e.child ≡ false → cell_at (set_entry s d e) q g ≡ cell_at s q g
entry_other_child s d e q g apart =
    other_child_by s d (with_entry e) g q (known s d) (λ x. lookup-insert_entry file_cmp file_total g e.child e x.entries ∙ ap (λ t. cond t (Some e) (entry_of x.entries g)) apart) refl

-- ---- a cell came

pub joined_own : (s : NamesValue) (d : FileId) (e : Entry) (q : FileId) → own_at (join_entry s d e) q ≡ own_at s q
joined_own s d e q = own_kept s d (with_joined e) (λ x. refl) q

joined_same_by : (s : NamesValue) (d : FileId) (o : Option InodeValue) (b : Attributes) (e : Entry) → known s d ≡ o → own_of o ≡ Some b → cell_at (join_entry s d e) d e.child ≡ Some (joined_to (entry_in e.child o) e)
joined_same_by s d None b e h g = absurd (none-some b g)
joined_same_by s d (Some x) b e h g =
    ap (entry_in e.child) (known_same s d (with_joined e) x h) ∙ lookup-insert_entry file_cmp file_total e.child e.child _ x.entries
    ∙ ap (λ t. cond t (Some (joined_to (entry_of x.entries e.child) e)) (entry_of x.entries e.child)) (is_same_file-refl e.child)

pub joined_same : (s : NamesValue) (d : FileId) (b : Attributes) (e : Entry) → own_at s d ≡ Some b → cell_at (join_entry s d e) d e.child ≡ Some (joined_to (cell_at s d e.child) e)
joined_same s d b e h = joined_same_by s d (known s d) b e refl h

pub joined_other_dir : (s : NamesValue) (d : FileId) (e : Entry) (q g : FileId) → is_same_file d q ≡ false → cell_at (join_entry s d e) q g ≡ cell_at s q g
joined_other_dir s d e q g apart = ap (entry_in g) (known_other s d (with_joined e) q apart)

pub joined_other_child : (s : NamesValue) (d : FileId) (e : Entry) (q g : FileId) → is_same_file g e.child ≡ false → cell_at (join_entry s d e) q g ≡ cell_at s q g
joined_other_child s d e q g apart =
    other_child_by s d (with_joined e) g q (known s d)
    (λ x. lookup-insert_entry file_cmp file_total g e.child _ x.entries ∙ ap (λ t. cond t (Some (joined_to (entry_of x.entries e.child) e)) (entry_of x.entries g)) apart) refl

-- ---- what no change of one thing touches

pub record SameFrame (s t : NamesValue) : Type 0 where
  pub last : s.last ≡ t.last
  pub server : s.server ≡ t.server
  pub removed : s.removed ≡ t.removed
  pub keys : keys_of s.held ≡ keys_of t.held

pub SameFrame-refl : (s : NamesValue) → SameFrame s s
SameFrame-refl s = record { last = refl; server = refl; removed = refl; keys = refl }

pub SameFrame-trans : {s t u : NamesValue} → SameFrame s t → SameFrame t u → SameFrame s u
SameFrame-trans a b = record { last = a.last ∙ b.last; server = a.server ∙ b.server; removed = a.removed ∙ b.removed; keys = a.keys ∙ b.keys }

frame_by : (s : NamesValue) (f : FileId) (change : InodeValue → InodeValue) (o : Option InodeValue) → SameFrame (changed s f change o) s
frame_by s f change None = SameFrame-refl s
frame_by s f change (Some x) = record { last = refl; server = refl; removed = refl; keys = keys-set_value (is_at (file_cmp f)) s.held (change x) }

pub update_frame : (s : NamesValue) (f : FileId) (change : InodeValue → InodeValue) → SameFrame (update s f change) s
update_frame s f change = frame_by s f change (known s f)

-- ---- a place or a flag came

own_changed_by : (s : NamesValue) (f : FileId) (change : InodeValue → InodeValue) (to : Attributes → Attributes) → ((x : InodeValue) → (change x).own ≡ to x.own) → (o : Option InodeValue) (b : Attributes) → known s f ≡ o → own_of o ≡ Some b → own_at (update s f change) f ≡ Some (to b)
own_changed_by s f change to is None b h g = absurd (none-some b g)
own_changed_by s f change to is (Some x) b h g = ap own_of (known_same s f change x h) ∙ ap Some (is x) ∙ ap (λ (c : Attributes). Some (to c)) (same_Some x.own b g)

abbrev pub own_with_place : Place → Attributes → Attributes
own_with_place place own = record { place = newer_place own.place place; flags = own.flags }

abbrev pub own_with_flag : Flag → Attributes → Attributes
own_with_flag flag own = record { place = own.place; flags = flags.join_flag own.flags flag }

pub place_same : (s : NamesValue) (f : FileId) (place : Place) (b : Attributes) → own_at s f ≡ Some b → own_at (join_place s f place) f ≡ Some (own_with_place place b)
place_same s f place b h = own_changed_by s f (with_place place) (own_with_place place) (λ x. refl) (known s f) b refl h

pub place_other : (s : NamesValue) (f : FileId) (place : Place) (q : FileId) → is_same_file f q ≡ false → own_at (join_place s f place) q ≡ own_at s q
place_other s f place q apart = ap own_of (known_other s f (with_place place) q apart)

pub place_cell : (s : NamesValue) (f : FileId) (place : Place) (d g : FileId) → cell_at (join_place s f place) d g ≡ cell_at s d g
place_cell s f place d g = cells_kept s f (with_place place) (λ x. refl) d g

pub flag_same : (s : NamesValue) (f : FileId) (flag : Flag) (b : Attributes) → own_at s f ≡ Some b → own_at (join_flag s f flag) f ≡ Some (own_with_flag flag b)
flag_same s f flag b h = own_changed_by s f (with_flag flag) (own_with_flag flag) (λ x. refl) (known s f) b refl h

pub flag_other : (s : NamesValue) (f : FileId) (flag : Flag) (q : FileId) → is_same_file f q ≡ false → own_at (join_flag s f flag) q ≡ own_at s q
flag_other s f flag q apart = ap own_of (known_other s f (with_flag flag) q apart)

pub flag_cell : (s : NamesValue) (f : FileId) (flag : Flag) (d g : FileId) → cell_at (join_flag s f flag) d g ≡ cell_at s d g
flag_cell s f flag d g = cells_kept s f (with_flag flag) (λ x. refl) d g
