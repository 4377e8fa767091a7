-- In the end no dead directory lists a child.
use Rattle.std.proofs.Common.{◌≡◌, ℕ, ◌<◌, Bool, true, false, ◌&&◌, ◌||◌, not, List, [], ◌∷◌, length, Option, None, Some, refl, sym, ap, ◌∙◌, inl, inr, ◌⊎◌, cond}
use Rattle.std.specs.List.{list_any}
use Rattle.std.specs.Map.{lookup, values_of}
use Rattle.std.proofs.lemmas.Bool.{false≢true, and_parts, not-true}
use Rattle.std.proofs.lemmas.Option.{none-some, same_Some}
use Rattle.pg_base.specs.declared.id.FileId.{FileId}
use Rattle.pg_base.specs.Id.{is_same_file}
use Rattle.pg_base.proofs.Orders.{is_same_file-true}
use Rattle.pg_register.specs.declared.place.Place.{Place}
use Rattle.pg_entries.specs.declared.entry.Entry.{Entry}
use Rattle.pg_names.specs.declared.attributes.Attributes.{Attributes}
use Rattle.pg_names.specs.Names.{InodeValue, NamesValue, known, own_of, entry_in, own_at}
use Rattle.pg_entries.specs.Entry.{is_listed, lists_any}
use Rattle.pg_house.specs.Work.{State}
use Rattle.pg_house.specs.Placing.{place_at, placed, repeated}
use Rattle.pg_house.specs.Returning.{is_dead, is_returning, is_returning_held, is_root, first_returning, return_first, returned}
use Rattle.pg_house.specs.Facts.{IsLast, NoDeadLists, is_among}
use Rattle.pg_house.proofs.Truths.{bool_cases}
use Rattle.pg_house.proofs.Counting.{count, count_length, count_less, find_found, find_none, until}
use Rattle.pg_house.proofs.Touches.{IsHeld}
use Rattle.pg_house.proofs.Placed.{Settled, placed_is_last, placed_own, placed_settled, placed_touches}

-- a held directory with a dead place
abbrev pub is_dead_own : FileId → Option Attributes → Bool
is_dead_own d None = false
is_dead_own d (Some c) = is_dead d c.place

abbrev pub dead : NamesValue → FileId → Bool
dead s d = is_dead_own d (own_at s d)

-- ---- what is to come back is held, and dead

pub record IsReturning (s : NamesValue) (d : FileId) : Type 0 where
  pub held : IsHeld s d
  pub dead_one : dead s d ≡ true

pub returning_by : (s : NamesValue) (d : FileId) (o : Option InodeValue) → known s d ≡ o → is_returning_held d o ≡ true → IsReturning s d
returning_by s d None h r = absurd (false≢true r)
returning_by s d (Some x) h r =
    let own : own_at s d ≡ Some x.own = ap own_of h in
    record { held = (x.own, own); dead_one = ap (is_dead_own d) own ∙ (and_parts (is_dead d x.own.place) _ r).0 }

-- it is not the root
pub not_root : (d : FileId) (o : Option Attributes) → is_dead_own d o ≡ true → is_root d ≡ false
not_root d None h = absurd (false≢true h)
not_root d (Some c) h = not-true (is_root d) (and_parts _ _ h).0

-- ---- a live place is not dead

live_not_dead : (d : FileId) (p : Place) → p.live ≡ true → (t : Bool) → is_dead d p ≡ t → t ≡ false
live_not_dead d p live false h = refl
live_not_dead d p live true h = absurd (false≢true (sym (not-true p.live (and_parts (not p.live) _ (and_parts (not (is_root d)) _ h).1).0) ∙ live))

pub not_dead : (d : FileId) (p : Place) → p.live ≡ true → is_dead d p ≡ false
not_dead d p live = live_not_dead d p live (is_dead d p) refl

own_not_dead : (d : FileId) (o : Option Attributes) → ((c : Attributes) → o ≡ Some c → c.place.live ≡ true) → is_dead_own d o ≡ false
own_not_dead d None live = refl
own_not_dead d (Some c) live = not_dead d c.place (live c refl)

-- ---- each return leaves fewer dead directories

module _ (moment : ℕ) (ds : List FileId) where
  abbrev pub Keeps : State → Type 0
  Keeps st = (Settled ds st.names) × (IsLast st.names)

  abbrev pub NoneReturns : State → Type 0
  NoneReturns st = first_returning st.names ds ≡ None

  abbrev deads : State → ℕ
  deads st = count (dead st.names) ds

  module _ (st : State) (k : Keeps st) (d p : FileId) (name : List ℕ) (r : IsReturning st.names d) where
    abbrev Next : State
    Next = placed moment ds st d p name

    now_live : dead Next.names d ≡ false
    now_live = own_not_dead d (own_at Next.names d) (λ c h. ap (λ (q : Place). q.live) (placed_own moment ds st d p name k.0 k.1 r.held c h))

    still_dead : (q : FileId) → dead Next.names q ≡ true → (is_same_file d q ≡ true) ⊎ (is_same_file d q ≡ false) → dead st.names q ≡ true
    still_dead q h (inl same) = absurd (false≢true (sym now_live ∙ ap (dead Next.names) (is_same_file-true d q same) ∙ h))
    still_dead q h (inr apart) = ap (is_dead_own q) (sym ((placed_touches moment ds st d p name k.0.dirs).own q apart)) ∙ h

    fewer : is_among d ds ≡ true → deads Next < deads st
    fewer among = count_less (dead st.names) (dead Next.names) (λ q h. still_dead q h (bool_cases (is_same_file d q))) d r.dead_one now_live ds among

  one_return : (st : State) → Keeps st → (o : Option FileId) → first_returning st.names ds ≡ o → ((returned moment ds st o ≡ st) × (first_returning st.names ds ≡ None)) ⊎ (Keeps (returned moment ds st o) × (deads (returned moment ds st o) < deads st))
  one_return st k None h = inl (refl, h)
  one_return st k (Some d) h =
      let found = find_found (is_returning st.names) ds d h in
      let r = returning_by st.names d (known st.names d) refl found.0 in
      let p = (place_at st.names d).parent in
      let name = (place_at st.names d).name in
      inr ((placed_settled moment ds st d p name k.0, placed_is_last moment ds st d p name k.0 k.1 r.held), fewer st k d p name r found.1)

  pub all_returned : (st : State) → Keeps st → Keeps (repeated (length ds) (return_first moment ds) st) × NoneReturns (repeated (length ds) (return_first moment ds) st)
  all_returned st k = until Keeps NoneReturns deads (return_first moment ds) (λ t q. one_return t q (first_returning t.names ds) refl) (length ds) st k (count_length (dead st.names) ds)

-- ---- and where none is to come back, no dead one lists a child

first_none : (a b : Bool) → (a || b) ≡ false → a ≡ false
first_none true b h = absurd (false≢true (sym h))
first_none false b h = refl

rest_none : (a b : Bool) → (a || b) ≡ false → b ≡ false
rest_none true b h = absurd (false≢true (sym h))
rest_none false b h = h

listed_at : (p : Entry → Bool) (test : FileId → Bool) (e : FileId × Entry) (es : List (FileId × Entry)) (c : Entry) (t : Bool) → cond t (Some e.1) (lookup test es) ≡ Some c → list_any p (values_of (e ∷ es)) ≡ false → ((lookup test es ≡ Some c) → list_any p (values_of es) ≡ false → p c ≡ false) → p c ≡ false
listed_at p test e es c true h none rest = ap p (sym (same_Some e.1 c h)) ∙ first_none (p e.1) (list_any p (values_of es)) none
listed_at p test e es c false h none rest = rest h (rest_none (p e.1) (list_any p (values_of es)) none)

none_listed : (p : Entry → Bool) (test : FileId → Bool) (es : List (FileId × Entry)) (c : Entry) → lookup test es ≡ Some c → list_any p (values_of es) ≡ false → p c ≡ false
none_listed p test [] c h none = absurd (none-some c h)
none_listed p test (e ∷ es) c h none = listed_at p test e es c (test e.0) h none (none_listed p test es c)

and_not : (a b : Bool) → (a && b) ≡ false → a ≡ true → b ≡ false
and_not true b h g = h
and_not false b h g = absurd (false≢true g)

dead_lists : (d : FileId) (o : Option InodeValue) (own : Attributes) → own_of o ≡ Some own → is_returning_held d o ≡ false → is_dead d own.place ≡ true → (child : FileId) (c : Entry) → entry_in child o ≡ Some c → is_listed d c ≡ false
dead_lists d None own h r gone child c g = absurd (none-some own h)
dead_lists d (Some x) own h r gone child c g =
    let same : x.own ≡ own = same_Some x.own own h in
    let none = and_not (is_dead d x.own.place) (lists_any x.entries d) r (ap (λ (q : Attributes). is_dead d q.place) same ∙ gone) in
    none_listed (is_listed d) _ x.entries c g none

pub no_dead_lists : (ds : List FileId) (s : NamesValue) → Settled ds s → first_returning s ds ≡ None → NoDeadLists s
no_dead_lists ds s k none d own h dir gone child c g = dead_lists d (known s d) own h (find_none (is_returning s) ds d none (k.dirs.held d own h dir)) gone child c g
