-- The places of what is known of names: each stands in a directory, by a name that its thing may
-- have. What changes names keeps that.
use Rattle.std.proofs.Common.{ℕ, ◌≡◌, ◌⊎◌, inl, inr, Bool, true, false, cond, List, [], ◌∷◌, Option, None, Some, All, Equal, refl, sym, subst, ◌∙◌}
use Rattle.std.specs.BTreeMap.{insert_entry, is_at}
use Rattle.std.specs.Map.{lookup}
use Rattle.std.proofs.lemmas.List.Elements.{All-head, All-nil, All-tail}
use Rattle.std.proofs.lemmas.Option.{none-some, same_Some}
use Rattle.law_frame.specs.pg_run.pg_base.declared.id.FileId.{FileId}
use Rattle.law_frame.specs.pg_run.pg_base.declared.id.Kind.TheVariants.{Dir}
use Rattle.law_frame.specs.pg_run.pg_base.Id.{file_cmp, is_same_file}
use Rattle.law_frame.specs.pg_run.pg_base.Stamp.{is_before}
use Rattle.law_frame.proofs.pg_run.pg_base.Entries.{All-insert_entry}
use Rattle.law_frame.proofs.pg_run.pg_base.Maps.{lookup-insert_entry}
use Rattle.law_frame.proofs.pg_run.pg_base.Orders.{file_total, is_same_file-true}
use Rattle.law_frame.specs.pg_run.pg_path.Name.{IsClientName}
use Rattle.law_frame.specs.pg_run.pg_register.declared.flag.Flag.{Flag}
use Rattle.law_frame.specs.pg_run.pg_register.declared.place.Place.{Place}
use Rattle.law_frame.specs.pg_run.pg_register.Place.{newer_place, tilde_name}
use Rattle.law_frame.specs.pg_run.pg_entries.declared.entry.Entry.{Entry}
use Rattle.law_frame.specs.pg_run.pg_entries.Entry.{entry_of, joined_to}
use Rattle.law_frame.specs.pg_run.pg_names.declared.attributes.Attributes.{Attributes}
use Rattle.law_frame.specs.pg_run.pg_names.Names.{InodeValue, NamesValue, begin, cell_at, changed, entry_in, fill, filled, join_entry, join_flag, join_place, known, new_held, or_blank, own_at, own_of, own_or_blank, set_entry, set_own, update, with_entry, with_flag, with_joined, with_own, with_place}
use Rattle.law_frame.proofs.pg_run.pg_names.Lookups.{known_held}
use Rattle.law_frame.specs.pg_run.pg_house.Returning.{is_root}
use Rattle.law_frame.proofs.pg_run.pg_house.Truths.{chosen}
use Rattle.pg_trace.specs.Suited.{SuitsPlace}

-- ---- places

-- a name that a client gives, or the one that is made of the thing's id
abbrev pub IsThingName : FileId → List ℕ → Type 0
IsThingName f name = IsClientName name ⊎ (name ≡ tilde_name f)

pub record IsThingPlace (f : FileId) (p : Place) : Type 0 where
  pub parent : p.parent.kind ≡ Dir
  pub name : IsThingName f p.name

-- the root alone has no name
pub record IsOwnPlace (f : FileId) (p : Place) : Type 0 where
  pub parent : p.parent.kind ≡ Dir
  pub name : ((is_root f ≡ true) × (p.name ≡ [])) ⊎ IsThingName f p.name

pub own_place : (f : FileId) (p : Place) → IsThingPlace f p → IsOwnPlace f p
own_place f p h = record { parent = h.parent; name = inr h.name }

thing_by : (f : FileId) (name : List ℕ) → is_root f ≡ false → ((is_root f ≡ true) × (name ≡ [])) ⊎ IsThingName f name → IsThingName f name
thing_by f name other (inl root) = absurd (let e : true ≡ false = sym root.0 ∙ other in cc)
thing_by f name other (inr h) = h

pub thing_place : (f : FileId) (p : Place) → is_root f ≡ false → IsOwnPlace f p → IsThingPlace f p
thing_place f p other h = record { parent = h.parent; name = thing_by f p.name other h.name }

suits_by : (f : FileId) (name : List ℕ) → ((is_root f ≡ true) × (name ≡ [])) ⊎ IsThingName f name
    → (name ≡ []) ⊎ (IsClientName name ⊎ (name ≡ tilde_name f))
suits_by f name (inl root) = inl root.1
suits_by f name (inr h) = inr h

pub suits_place : (f : FileId) (p : Place) → IsOwnPlace f p → SuitsPlace f p
suits_place f p h = record { parent = h.parent; name = suits_by f p.name h.name }

pub newer_thing : (f : FileId) (p q : Place) → IsThingPlace f p → IsThingPlace f q → IsThingPlace f (newer_place p q)
newer_thing f p q a b = chosen (IsThingPlace f) (is_before p.stamp q.stamp) q p b a

newer_own : (f : FileId) (p q : Place) → IsOwnPlace f p → IsOwnPlace f q → IsOwnPlace f (newer_place p q)
newer_own f p q a b = chosen (IsOwnPlace f) (is_before p.stamp q.stamp) q p b a

-- ---- what is held

-- a directory's entry for a child, which is not the root
pub record SuitsEntry (k : FileId) (e : Entry) : Type 0 where
  pub child : e.child ≡ k
  pub inner : is_root k ≡ false
  pub place : IsThingPlace k e.place

abbrev pub SuitEntries : List (FileId × Entry) → Type 0
SuitEntries es = All (λ (e : FileId × Entry). SuitsEntry e.0 e.1) es

pub record SuitsHeld (f : FileId) (x : InodeValue) : Type 0 where
  pub own : IsOwnPlace f x.own.place
  pub entries : SuitEntries x.entries

abbrev pub NamesSuit : NamesValue → Type 0
NamesSuit s = (f : FileId) (x : InodeValue) → known s f ≡ Some x → SuitsHeld f x

own_by : (s : NamesValue) (f : FileId) (o : Option InodeValue) (b : Attributes) → NamesSuit s → known s f ≡ o → own_of o ≡ Some b → IsOwnPlace f b.place
own_by s f None b h e g = absurd (none-some b g)
own_by s f (Some x) b h e g = subst (λ (c : Attributes). IsOwnPlace f c.place) (same_Some x.own b g) (h f x e).own

pub own_suits : (s : NamesValue) → NamesSuit s → (f : FileId) (b : Attributes) → own_at s f ≡ Some b → IsOwnPlace f b.place
own_suits s h f b g = own_by s f (known s f) b h refl g

blank_by : (s : NamesValue) (f : FileId) (o : Option Attributes) → NamesSuit s → own_at s f ≡ o → IsOwnPlace f (or_blank f o).place
blank_by s f None h e = record { parent = refl; name = inr (inr refl) }
blank_by s f (Some b) h e = own_suits s h f b e

-- what is not held has the blank place
pub blank_suits : (s : NamesValue) → NamesSuit s → (f : FileId) → IsOwnPlace f (own_or_blank s f).place
blank_suits s h f = blank_by s f (own_at s f) h refl

-- ---- entries that are found

found_at : (f : FileId) (e : FileId × Entry) (es : List (FileId × Entry)) (c : Entry) (t : Bool) → is_same_file f e.0 ≡ t
    → SuitsEntry e.0 e.1 → (lookup (is_at (file_cmp f)) es ≡ Some c → SuitsEntry f c) → cond t (Some e.1) (lookup (is_at (file_cmp f)) es) ≡ Some c
    → SuitsEntry f c
found_at f e es c false is here rest h = rest h
found_at f e es c true is here rest h =
    subst (λ (k : FileId). SuitsEntry k c) (sym (is_same_file-true f e.0 is)) (subst (SuitsEntry e.0) (same_Some e.1 c h) here)

pub entry_found : (f : FileId) (es : List (FileId × Entry)) (c : Entry) → SuitEntries es → entry_of es f ≡ Some c → SuitsEntry f c
entry_found f [] c all h = absurd (none-some c h)
entry_found f (e ∷ es) c all h =
    let P : FileId × Entry → Type 0 = (λ (x : FileId × Entry). SuitsEntry x.0 x.1) in
    found_at f e es c (is_same_file f e.0) refl (All-head P e es all) (entry_found f es c (All-tail P e es all)) h

cell_by : (s : NamesValue) (d f : FileId) (o : Option InodeValue) (c : Entry) → NamesSuit s → known s d ≡ o → entry_in f o ≡ Some c → SuitsEntry f c
cell_by s d f None c h e g = absurd (none-some c g)
cell_by s d f (Some x) c h e g = entry_found f x.entries c (h d x e).entries g

pub cell_suits : (s : NamesValue) → NamesSuit s → (d f : FileId) (c : Entry) → cell_at s d f ≡ Some c → SuitsEntry f c
cell_suits s h d f c g = cell_by s d f (known s d) c h refl g

-- ---- entries that come

equal_key : (k f : FileId) (e : Entry) → file_cmp k f ≡ Equal → SuitsEntry k e → SuitsEntry f e
equal_key k f e same h =
    let t : is_same_file k f ≡ true = rw same refl in
    subst (λ (q : FileId). SuitsEntry q e) (is_same_file-true k f t) h

pub put_suits : (es : List (FileId × Entry)) (k : FileId) (e : Entry) → SuitEntries es → SuitsEntry k e → SuitEntries (insert_entry file_cmp es k e)
put_suits es k e all h =
    All-insert_entry file_cmp (λ (x : FileId × Entry). SuitsEntry x.0 x.1) k e es all h (λ x same. equal_key k x.0 e same h)

joined_by : (f : FileId) (o : Option Entry) (e : Entry) → ((c : Entry) → o ≡ Some c → SuitsEntry f c) → SuitsEntry f e → SuitsEntry f (joined_to o e)
joined_by f None e held h = h
joined_by f (Some c) e held h =
    let old = held c refl in
    record { child = old.child; inner = old.inner; place = newer_thing f c.place e.place old.place h.place }

-- ---- changes

changed_at : (s : NamesValue) (f : FileId) (change : InodeValue → InodeValue) (x : InodeValue) (q : FileId) (y : InodeValue) (t : Bool) → is_same_file f q ≡ t
    → NamesSuit s → SuitsHeld f (change x) → cond t (Some (change x)) (known s q) ≡ Some y → SuitsHeld q y
changed_at s f change x q y false e h new g = h q y g
changed_at s f change x q y true e h new g =
    subst (λ (k : FileId). SuitsHeld k y) (is_same_file-true f q e) (subst (SuitsHeld f) (same_Some (change x) y g) new)

changed_by : (s : NamesValue) (f : FileId) (change : InodeValue → InodeValue) (o : Option InodeValue) → known s f ≡ o
    → ((x : InodeValue) → SuitsHeld f x → SuitsHeld f (change x)) → NamesSuit s → NamesSuit (changed s f change o)
changed_by s f change None e each h = h
changed_by s f change (Some x) e each h =
    λ q y g. changed_at s f change x q y (is_same_file f q) refl h (each x (h f x e)) (sym (known_held s f x (change x) q e) ∙ g)

pub update_suits : (s : NamesValue) (f : FileId) (change : InodeValue → InodeValue) → ((x : InodeValue) → SuitsHeld f x → SuitsHeld f (change x))
    → NamesSuit s → NamesSuit (update s f change)
update_suits s f change each h = changed_by s f change (known s f) refl each h

pub set_own_suits : (s : NamesValue) (f : FileId) (b : Attributes) → IsOwnPlace f b.place → NamesSuit s → NamesSuit (set_own s f b)
set_own_suits s f b new h = update_suits s f (with_own b) (λ x old. record { own = new; entries = old.entries }) h

pub set_entry_suits : (s : NamesValue) (d : FileId) (e : Entry) → SuitsEntry e.child e → NamesSuit s → NamesSuit (set_entry s d e)
set_entry_suits s d e new h =
    update_suits s d (with_entry e) (λ x old. record { own = old.own; entries = put_suits x.entries e.child e old.entries new }) h

pub join_place_suits : (s : NamesValue) (f : FileId) (p : Place) → IsOwnPlace f p → NamesSuit s → NamesSuit (join_place s f p)
join_place_suits s f p new h =
    update_suits s f (with_place p) (λ x old. record { own = newer_own f x.own.place p old.own new; entries = old.entries }) h

pub join_flag_suits : (s : NamesValue) (f : FileId) (g : Flag) → NamesSuit s → NamesSuit (join_flag s f g)
join_flag_suits s f g h = update_suits s f (with_flag g) (λ x old. record { own = old.own; entries = old.entries }) h

pub join_entry_suits : (s : NamesValue) (d : FileId) (e : Entry) → SuitsEntry e.child e → NamesSuit s → NamesSuit (join_entry s d e)
join_entry_suits s d e new h =
    update_suits s d (with_joined e)
    (λ x old. record {
      own = old.own;
      entries = put_suits x.entries e.child (joined_to (entry_of x.entries e.child) e) old.entries
          (joined_by e.child (entry_of x.entries e.child) e (λ c g. entry_found e.child x.entries c old.entries g) new);
    }) h

-- ---- one thing more is held, or is full

new_suits : (f : FileId) (own : Attributes) (full : Bool) → IsOwnPlace f own.place → SuitsHeld f (new_held own full)
new_suits f own full h = record { own = h; entries = All-nil (λ (e : FileId × Entry). SuitsEntry e.0 e.1) }

new_at : (s : NamesValue) (f : FileId) (x : InodeValue) (q : FileId) (y : InodeValue) (t : Bool) → is_same_file q f ≡ t → NamesSuit s → SuitsHeld f x
    → cond t (Some x) (known s q) ≡ Some y → SuitsHeld q y
new_at s f x q y false e h new g = h q y g
new_at s f x q y true e h new g =
    subst (λ (k : FileId). SuitsHeld k y) (sym (is_same_file-true q f e)) (subst (SuitsHeld f) (same_Some x y g) new)

pub begin_suits : (s : NamesValue) (f : FileId) (own : Attributes) (full : Bool) → IsOwnPlace f own.place → NamesSuit s → NamesSuit (begin s f own full)
begin_suits s f own full new h =
    λ q y g. new_at s f (new_held own full) q y (is_same_file q f) refl h (new_suits f own full new)
    (sym (lookup-insert_entry file_cmp file_total q f (new_held own full) s.held) ∙ g)

pub fill_suits : (s : NamesValue) (f : FileId) → NamesSuit s → NamesSuit (fill s f)
fill_suits s f h = update_suits s f filled (λ x old. record { own = old.own; entries = old.entries }) h
