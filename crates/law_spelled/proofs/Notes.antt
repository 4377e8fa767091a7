-- What is noted of versions, and wishes: what changes them keeps that they fit.
use Rattle.std.proofs.Common.{ℕ, ◌≡◌, Bool, true, false, cond, List, [], ◌∷◌, map, Option, None, Some, All, refl, subst}
use Rattle.std.specs.BTreeMap.{is_at}
use Rattle.std.specs.Map.{lookup, remove_entry, set_value}
use Rattle.std.proofs.lemmas.List.Elements.{All-cons, All-filter, All-head, All-map, All-tail}
use Rattle.std.proofs.lemmas.Option.{none-some, same_Some}
use Rattle.pg_base.specs.declared.id.FileId.{FileId}
use Rattle.pg_base.specs.Id.{file_cmp}
use Rattle.pg_base.proofs.Entries.{All-insert_entry}
use Rattle.pg_announced.specs.declared.announced.Announced.{Announced}
use Rattle.pg_announced.specs.declared.announced.NoteKey.{NoteKey}
use Rattle.pg_announced.specs.Announced.{NotesValue, change_note, changed, is_asked_of, key_cmp, lose_note, note_at, put_note, released, unasked, without_file, without_note}
use Rattle.pg_server.specs.pg_pieces.pg_replica.declared.replica.Replica.{Replica}
use Rattle.pg_server.specs.pg_pieces.pg_store.declared.wishes.Wish.{Wish}
use Rattle.pg_server.specs.pg_pieces.pg_store.Store.{notes_behind}
use Rattle.pg_server.specs.pg_pieces.pg_store.Wishes.{WishesValue, aim_each, aim_wish, aimed, aimed_at, put_wish, wish_in, without_wish}
use Rattle.pg_server.proofs.pg_pieces.pg_house.Truths.{chosen}
use Rattle.pg_packet_write.specs.Fits.{FitsHead}
use Rattle.law_spelled.specs.Stores.{FitsNote, MayBeServer}

-- ---- the values of a map

module _ {K X : Type 0} (Q : X → Type 0) where
  abbrev Has : K × X → Type 0
  Has e = Q e.1

  set_by : (test : K → Bool) (e : K × X) (es : List (K × X)) (w : X) (t : Bool) → Q w → All Has (e ∷ es) → All Has (set_value test es w)
      → All Has (cond t ((e.0, w) ∷ es) (e ∷ set_value test es w))
  set_by test e es w true k h more = All-cons Has (e.0, w) es k (All-tail Has e es h)
  set_by test e es w false k h more = All-cons Has e (set_value test es w) (All-head Has e es h) more

  pub all_set : (test : K → Bool) (es : List (K × X)) (w : X) → Q w → All Has es → All Has (set_value test es w)
  all_set test [] w k h = h
  all_set test (e ∷ es) w k h = set_by test e es w (test e.0) k h (all_set test es w k (All-tail Has e es h))

  removed_by : (test : K → Bool) (e : K × X) (es : List (K × X)) (t : Bool) → All Has (e ∷ es) → All Has (remove_entry test es)
      → All Has (cond t es (e ∷ remove_entry test es))
  removed_by test e es true h more = All-tail Has e es h
  removed_by test e es false h more = All-cons Has e (remove_entry test es) (All-head Has e es h) more

  pub all_removed : (test : K → Bool) (es : List (K × X)) → All Has es → All Has (remove_entry test es)
  all_removed test [] h = h
  all_removed test (e ∷ es) h = removed_by test e es (test e.0) h (all_removed test es (All-tail Has e es h))

  found_by : (test : K → Bool) (e : K × X) (es : List (K × X)) (x : X) (t : Bool) → Q e.1 → (lookup test es ≡ Some x → Q x)
      → cond t (Some e.1) (lookup test es) ≡ Some x → Q x
  found_by test e es x true here rest is = subst Q (same_Some e.1 x is) here
  found_by test e es x false here rest is = rest is

  pub all_found : (test : K → Bool) (es : List (K × X)) (x : X) → All Has es → lookup test es ≡ Some x → Q x
  all_found test [] x h is = absurd (none-some x is)
  all_found test (e ∷ es) x h is = found_by test e es x (test e.0) (All-head Has e es h) (all_found test es x (All-tail Has e es h)) is

-- ---- notes

abbrev pub HasFitNote : Announced → Type 0
HasFitNote n = FitsHead n.head

abbrev pub FitNotes : NotesValue → Type 0
FitNotes ns = All FitsNote ns

pub note_found : (ns : NotesValue) (k : NoteKey) (n : Announced) → FitNotes ns → note_at ns k ≡ Some n → HasFitNote n
note_found ns k n h is = all_found HasFitNote (is_at (key_cmp k)) ns n h is

pub note_put : (ns : NotesValue) (k : NoteKey) (n : Announced) → HasFitNote n → FitNotes ns → FitNotes (put_note ns k n)
note_put ns k n fits h = All-insert_entry key_cmp FitsNote k n ns h fits (λ e same. fits)

pub note_ended : (ns : NotesValue) (k : NoteKey) → FitNotes ns → FitNotes (without_note ns k)
note_ended ns k h = all_removed HasFitNote (is_at (key_cmp k)) ns h

changed_by : (f : Announced → Announced) (ns : NotesValue) (k : NoteKey) (o : Option Announced) → ((n : Announced) → HasFitNote n → HasFitNote (f n))
    → FitNotes ns → note_at ns k ≡ o → FitNotes (changed f ns k o)
changed_by f ns k None each h is = h
changed_by f ns k (Some n) each h is = all_set HasFitNote (is_at (key_cmp k)) ns (f n) (each n (note_found ns k n h is)) h

pub note_changed : (f : Announced → Announced) (ns : NotesValue) (k : NoteKey) → ((n : Announced) → HasFitNote n → HasFitNote (f n)) → FitNotes ns
    → FitNotes (change_note f ns k)
note_changed f ns k each h = changed_by f ns k (note_at ns k) each h refl

pub note_lost : (ns : NotesValue) (k : NoteKey) (from : ℕ) → FitNotes ns → FitNotes (lose_note ns k from)
note_lost ns k from h =
    chosen FitNotes (is_asked_of from (note_at ns k)) (change_note unasked ns k) ns (note_changed unasked ns k (λ n fits. fits) h) h

pub notes_released : (ns : NotesValue) → FitNotes ns → FitNotes (released ns)
notes_released ns h = All-map FitsNote (λ e. (e.0, unasked e.1)) ns h

pub notes_of_file : (ns : NotesValue) (f : FileId) → FitNotes ns → FitNotes (without_file ns f)
notes_of_file ns f h = All-filter _ FitsNote ns h

pub notes_left : (ns : NotesValue) (f : FileId) (o : Option Replica) → FitNotes ns → FitNotes (notes_behind ns f o)
notes_left ns f None h = h
notes_left ns f (Some x) h = All-filter _ FitsNote ns h

-- ---- wishes

abbrev pub IsWishToServer : Wish → Type 0
IsWishToServer w = MayBeServer w.target

abbrev pub FitWishes : WishesValue → Type 0
FitWishes ws = All (λ (w : FileId × Wish). MayBeServer w.1.target) ws

pub wish_found : (ws : WishesValue) (f : FileId) (w : Wish) → FitWishes ws → wish_in ws f ≡ Some w → IsWishToServer w
wish_found ws f w h is = all_found IsWishToServer (is_at (file_cmp f)) ws w h is

pub wish_put : (ws : WishesValue) (f : FileId) (w : Wish) → IsWishToServer w → FitWishes ws → FitWishes (put_wish ws f w)
wish_put ws f w fits h = All-insert_entry file_cmp (λ (e : FileId × Wish). IsWishToServer e.1) f w ws h fits (λ e same. fits)

pub wish_ended : (ws : WishesValue) (f : FileId) → FitWishes ws → FitWishes (without_wish ws f)
wish_ended ws f h = All-filter _ (λ (e : FileId × Wish). IsWishToServer e.1) ws h

aimed_by : (ws : WishesValue) (f : FileId) (to : ℕ) (o : Option Wish) → MayBeServer to → FitWishes ws → FitWishes (aimed ws f to o)
aimed_by ws f to None k h = h
aimed_by ws f to (Some w) k h = all_set IsWishToServer (is_at (file_cmp f)) ws (aimed_at to w) k h

pub wish_aimed : (ws : WishesValue) (f : FileId) (to : ℕ) → MayBeServer to → FitWishes ws → FitWishes (aim_wish ws f to)
wish_aimed ws f to k h = aimed_by ws f to (wish_in ws f) k h

pub wishes_aimed : (ws : WishesValue) (fs : List FileId) (to : ℕ) → MayBeServer to → FitWishes ws → FitWishes (aim_each ws fs to)
wishes_aimed ws [] to k h = h
wishes_aimed ws (f ∷ fs) to k h = wishes_aimed (aim_wish ws f to) fs to k (wish_aimed ws f to k h)
