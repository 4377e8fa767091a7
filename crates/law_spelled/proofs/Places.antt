-- What is known of names: each place stands in a directory by a name that it may have, and flags fit. What changes names
-- keeps that.
use Rattle.std.proofs.Common.{ℕ, ◌≡◌, inr, Bool, true, false, cond, List, [], ◌∷◌, Option, None, Some, Equal, refl, sym, subst, ◌∙◌}
use Rattle.std.specs.BTreeMap.{insert_entry, is_at}
use Rattle.std.specs.Map.{lookup}
use Rattle.std.proofs.lemmas.List.Elements.{All-head, All-nil, All-tail}
use Rattle.std.proofs.lemmas.Option.{none-some, same_Some}
use Rattle.pg_base.specs.declared.id.FileId.{FileId}
use Rattle.pg_base.specs.Id as id
use Rattle.pg_base.specs.Id.{file_cmp, is_same_file}
use Rattle.pg_base.specs.Stamp.{is_before}
use Rattle.pg_base.proofs.Entries.{All-insert_entry}
use Rattle.pg_base.proofs.Maps.{lookup-insert_entry}
use Rattle.pg_base.proofs.Orders.{file_total, is_same_file-true}
use Rattle.pg_register.specs.declared.flag.Flag.{Flag}
use Rattle.pg_register.specs.declared.place.Place.{Place}
use Rattle.pg_register.specs.Place.{IsPlaceName, blank_place, newer_place, tilde_name}
use Rattle.pg_entries.specs.declared.entry.Entry.{Entry}
use Rattle.pg_entries.specs.Entry.{entry_of, joined_to}
use Rattle.pg_server.specs.pg_pieces.pg_names.declared.attributes.Attributes.{Attributes}
use Rattle.pg_server.specs.pg_pieces.pg_names.Names.{InodeValue, NamesValue, begin, blank_own, cell_at, changed, entry_in, fill, filled, join_entry, join_flag, join_place, known, let_go, new_held, or_blank, own_at, own_of, own_or_blank, raise, remove_server, set_entry, set_own, update, with_entry, with_flag, with_joined, with_last, with_own, with_place}
use Rattle.pg_server.proofs.pg_pieces.pg_names.Gone.{gone_stayed}
use Rattle.pg_server.proofs.pg_pieces.pg_names.Lookups.{known_held}
use Rattle.pg_server.proofs.pg_pieces.pg_house.Truths.{chosen}
use Rattle.law_spelled.specs.Stores.{FitEntries, FitsInode, FitsListed, FitsNames, FitsOwn, FitsPlace}
use Rattle.law_spelled.proofs.Flags.{IsOfServer, many_more, no_flags, one_more}

-- ---- places

-- the name that is made of a thing's id
pub tilde_fits : (f : FileId) → id.Fits f → IsPlaceName (tilde_name f)
tilde_fits f fits = inr (inr (f, fits, refl))

pub newer_fits : (f : FileId) (p q : Place) → FitsPlace f p → FitsPlace f q → FitsPlace f (newer_place p q)
newer_fits f p q a b = chosen (FitsPlace f) (is_before p.stamp q.stamp) q p b a

pub blank_place_fits : (f : FileId) → FitsPlace f (blank_place f)
blank_place_fits f = record { parent = refl; name = tilde_fits f }

pub blank_own_fits : (f : FileId) → FitsOwn f (blank_own f)
blank_own_fits f = record { place = blank_place_fits f; flags = no_flags }

-- ---- what is held

own_by : (s : NamesValue) (f : FileId) (o : Option InodeValue) (b : Attributes) → FitsNames s → known s f ≡ o → own_of o ≡ Some b → FitsOwn f b
own_by s f None b h e g = absurd (none-some b g)
own_by s f (Some x) b h e g = subst (FitsOwn f) (same_Some x.own b g) (h.held f x e).own

pub own_fits : (s : NamesValue) → FitsNames s → (f : FileId) (b : Attributes) → own_at s f ≡ Some b → FitsOwn f b
own_fits s h f b g = own_by s f (known s f) b h refl g

blank_by : (s : NamesValue) (f : FileId) (o : Option Attributes) → FitsNames s → own_at s f ≡ o → FitsOwn f (or_blank f o)
blank_by s f None h e = blank_own_fits f
blank_by s f (Some b) h e = own_fits s h f b e

-- what is not held has the blank place, and no flag
pub blank_fits : (s : NamesValue) → FitsNames s → (f : FileId) → FitsOwn f (own_or_blank s f)
blank_fits s h f = blank_by s f (own_at s f) h refl

-- ---- entries that are found

found_at : (f : FileId) (e : FileId × Entry) (es : List (FileId × Entry)) (c : Entry) (t : Bool) → is_same_file f e.0 ≡ t
    → FitsListed e.0 e.1 → (lookup (is_at (file_cmp f)) es ≡ Some c → FitsListed f c) → cond t (Some e.1) (lookup (is_at (file_cmp f)) es) ≡ Some c
    → FitsListed f c
found_at f e es c false is here rest h = rest h
found_at f e es c true is here rest h =
    subst (λ (k : FileId). FitsListed k c) (sym (is_same_file-true f e.0 is)) (subst (FitsListed e.0) (same_Some e.1 c h) here)

pub entry_found : (f : FileId) (es : List (FileId × Entry)) (c : Entry) → FitEntries es → entry_of es f ≡ Some c → FitsListed f c
entry_found f [] c all h = absurd (none-some c h)
entry_found f (e ∷ es) c all h =
    let P : FileId × Entry → Type 0 = (λ (x : FileId × Entry). FitsListed x.0 x.1) in
    found_at f e es c (is_same_file f e.0) refl (All-head P e es all) (entry_found f es c (All-tail P e es all)) h

cell_by : (s : NamesValue) (d f : FileId) (o : Option InodeValue) (c : Entry) → FitsNames s → known s d ≡ o → entry_in f o ≡ Some c → FitsListed f c
cell_by s d f None c h e g = absurd (none-some c g)
cell_by s d f (Some x) c h e g = entry_found f x.entries c (h.held d x e).entries g

pub cell_fits : (s : NamesValue) → FitsNames s → (d f : FileId) (c : Entry) → cell_at s d f ≡ Some c → FitsListed f c
cell_fits s h d f c g = cell_by s d f (known s d) c h refl g

-- ---- entries that come

equal_key : (k f : FileId) (e : Entry) → file_cmp k f ≡ Equal → FitsListed k e → FitsListed f e
equal_key k f e same h =
    let t : is_same_file k f ≡ true = rw same refl in
    subst (λ (q : FileId). FitsListed q e) (is_same_file-true k f t) h

put_fits : (es : List (FileId × Entry)) (k : FileId) (e : Entry) → FitEntries es → FitsListed k e → FitEntries (insert_entry file_cmp es k e)
put_fits es k e all h =
    All-insert_entry file_cmp (λ (x : FileId × Entry). FitsListed x.0 x.1) k e es all h (λ x same. equal_key k x.0 e same h)

joined_by : (f : FileId) (o : Option Entry) (e : Entry) → ((c : Entry) → o ≡ Some c → FitsListed f c) → FitsListed f e → FitsListed f (joined_to o e)
joined_by f None e held h = h
joined_by f (Some c) e held h =
    let old = held c refl in
    record {
      child = old.child;
      place = newer_fits f c.place e.place old.place h.place;
      flags = many_more c.flags e.flags h.flags.each old.flags;
    }

-- ---- changes

changed_at : (s : NamesValue) (f : FileId) (change : InodeValue → InodeValue) (x : InodeValue) (q : FileId) (y : InodeValue) (t : Bool) → is_same_file f q ≡ t
    → FitsNames s → FitsInode f (change x) → cond t (Some (change x)) (known s q) ≡ Some y → FitsInode q y
changed_at s f change x q y false e h new g = h.held q y g
changed_at s f change x q y true e h new g =
    subst (λ (k : FileId). FitsInode k y) (is_same_file-true f q e) (subst (FitsInode f) (same_Some (change x) y g) new)

changed_by : (s : NamesValue) (f : FileId) (change : InodeValue → InodeValue) (o : Option InodeValue) → known s f ≡ o
    → ((x : InodeValue) → FitsInode f x → FitsInode f (change x)) → FitsNames s → FitsNames (changed s f change o)
changed_by s f change None e each h = h
changed_by s f change (Some x) e each h = record {
  server = h.server;
  held = λ q y g. changed_at s f change x q y (is_same_file f q) refl h (each x (h.held f x e)) (sym (known_held s f x (change x) q e) ∙ g);
}

update_fits : (s : NamesValue) (f : FileId) (change : InodeValue → InodeValue) → ((x : InodeValue) → FitsInode f x → FitsInode f (change x))
    → FitsNames s → FitsNames (update s f change)
update_fits s f change each h = changed_by s f change (known s f) refl each h

pub set_own_fits : (s : NamesValue) (f : FileId) (b : Attributes) → FitsOwn f b → FitsNames s → FitsNames (set_own s f b)
set_own_fits s f b new h = update_fits s f (with_own b) (λ x old. record { own = new; entries = old.entries }) h

pub set_entry_fits : (s : NamesValue) (d : FileId) (e : Entry) → FitsListed e.child e → FitsNames s → FitsNames (set_entry s d e)
set_entry_fits s d e new h =
    update_fits s d (with_entry e) (λ x old. record { own = old.own; entries = put_fits x.entries e.child e old.entries new }) h

pub join_place_fits : (s : NamesValue) (f : FileId) (p : Place) → FitsPlace f p → FitsNames s → FitsNames (join_place s f p)
join_place_fits s f p new h =
    update_fits s f (with_place p)
    (λ x old. record {
      own = record { place = newer_fits f x.own.place p old.own.place new; flags = old.own.flags };
      entries = old.entries;
    }) h

pub join_flag_fits : (s : NamesValue) (f : FileId) (g : Flag) → IsOfServer g → FitsNames s → FitsNames (join_flag s f g)
join_flag_fits s f g new h =
    update_fits s f (with_flag g)
    (λ x old. record {
      own = record { place = old.own.place; flags = one_more x.own.flags g new old.own.flags };
      entries = old.entries;
    }) h

pub join_entry_fits : (s : NamesValue) (d : FileId) (e : Entry) → FitsListed e.child e → FitsNames s → FitsNames (join_entry s d e)
join_entry_fits s d e new h =
    update_fits s d (with_joined e)
    (λ x old. record {
      own = old.own;
      entries = put_fits x.entries e.child (joined_to (entry_of x.entries e.child) e) old.entries
          (joined_by e.child (entry_of x.entries e.child) e (λ c g. entry_found e.child x.entries c old.entries g) new);
    }) h

-- ---- times and removals

pub last_fits : (s : NamesValue) (last : ℕ) → FitsNames s → FitsNames (with_last s last)
last_fits s last h = record { server = h.server; held = h.held }

pub raise_fits : (s : NamesValue) (time : ℕ) → FitsNames s → FitsNames (raise s time)
raise_fits s time h = record { server = h.server; held = h.held }

pub removed_fits : (s : NamesValue) (server : ℕ) → FitsNames s → FitsNames (remove_server s server)
removed_fits s server h = record { server = h.server; held = h.held }

-- ---- one thing more is held, or is full, or goes

new_fits : (f : FileId) (own : Attributes) (full : Bool) → FitsOwn f own → FitsInode f (new_held own full)
new_fits f own full h = record { own = h; entries = All-nil (λ (e : FileId × Entry). FitsListed e.0 e.1) }

new_at : (s : NamesValue) (f : FileId) (x : InodeValue) (q : FileId) (y : InodeValue) (t : Bool) → is_same_file q f ≡ t → FitsNames s → FitsInode f x
    → cond t (Some x) (known s q) ≡ Some y → FitsInode q y
new_at s f x q y false e h new g = h.held q y g
new_at s f x q y true e h new g =
    subst (λ (k : FileId). FitsInode k y) (sym (is_same_file-true q f e)) (subst (FitsInode f) (same_Some x y g) new)

pub begin_fits : (s : NamesValue) (f : FileId) (own : Attributes) (full : Bool) → FitsOwn f own → FitsNames s → FitsNames (begin s f own full)
begin_fits s f own full new h = record {
  server = h.server;
  held = λ q y g. new_at s f (new_held own full) q y (is_same_file q f) refl h (new_fits f own full new)
      (sym (lookup-insert_entry file_cmp file_total q f (new_held own full) s.held) ∙ g);
}

pub fill_fits : (s : NamesValue) (f : FileId) → FitsNames s → FitsNames (fill s f)
fill_fits s f h = update_fits s f filled (λ x old. record { own = old.own; entries = old.entries }) h

pub let_go_fits : (s : NamesValue) (f : FileId) → FitsNames s → FitsNames (let_go s f)
let_go_fits s f h = record { server = h.server; held = λ q x is. h.held q x (gone_stayed s f q x is).1 }
