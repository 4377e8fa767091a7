-- In the end no live directories stand in a cycle.
use Rattle.std.proofs.Common.{◌≡◌, ℕ, ◌<◌, Bool, true, false, ◌&&◌, not, List, [], ◌∷◌, length, Option, None, Some, refl, sym, ap, ◌∙◌, subst, arith, inl, inr, ◌⊎◌}
use Rattle.std.proofs.lemmas.Bool.{false≢true, and_parts, not-true, not_from_false, and_from}
use Rattle.std.proofs.lemmas.Option.{none-some}
use Rattle.pg_base.specs.declared.id.FileId.{FileId}
use Rattle.pg_base.specs.Id.{is_same_file}
use Rattle.pg_base.proofs.Orders.{is_same_file-true}
use Rattle.pg_register.specs.declared.place.Place.{Place}
use Rattle.pg_register.specs.Place.{root, tilde_name}
use Rattle.pg_entries.specs.declared.entry.Entry.{Entry}
use Rattle.pg_names.specs.declared.attributes.Attributes.{Attributes}
use Rattle.pg_names.specs.Names.{NamesValue, own_at, cell_at, is_dir}
use Rattle.pg_entries.specs.Entry.{is_listed}
use Rattle.pg_names.proofs.Lookups.{apart_back}
use Rattle.pg_house.specs.Work.{State}
use Rattle.pg_house.specs.Passing.{is_in}
use Rattle.pg_house.specs.Placing.{drawn, live_place, place_at, place_of, placed, repeated}
use Rattle.pg_house.specs.Returning.{is_dead, is_root}
use Rattle.pg_house.specs.Cycles.{above, break_first, first_moving, is_inner, is_live_own, moved}
use Rattle.pg_house.specs.Facts.{IsLast, NoCycle, NoDeadLists}
use Rattle.pg_house.proofs.Truths.{bool_cases, chosen_true}
use Rattle.pg_house.proofs.Counting.{count, count_length, count_less, until}
use Rattle.pg_house.proofs.Touches.{IsHeld}
use Rattle.pg_house.proofs.Placed.{Settled, placed_cells, placed_is_last, placed_own, placed_settled, placed_touches}
use Rattle.pg_house.proofs.AllReturned.{not_dead}
use Rattle.pg_house.proofs.AllClimb.{IsDeep, cycle_lost, member_deep, moving_member, none_lost}

-- a live directory with a parent other than the root
abbrev is_inner_own : FileId → Option Attributes → Bool
is_inner_own d o = is_dir d && (not (is_root d) && is_live_own o)

abbrev is_stray_own : FileId → Option Attributes → Bool
is_stray_own d o = is_inner_own d o && not (is_root (place_of o).parent)

abbrev pub stray : NamesValue → FileId → Bool
stray s d = is_stray_own d (own_at s d)

-- ---- what an inner directory is

pub record IsLive (s : NamesValue) (d : FileId) : Type 0 where
  pub dir : is_dir d ≡ true
  pub other : is_root d ≡ false
  pub held : IsHeld s d

live_held : (s : NamesValue) (d : FileId) (o : Option Attributes) → own_at s d ≡ o → is_live_own o ≡ true → IsHeld s d
live_held s d None h g = absurd (false≢true g)
live_held s d (Some c) h g = (c, h)

pub inner_parts : (s : NamesValue) (d : FileId) → is_inner s d ≡ true → IsLive s d
inner_parts s d h =
    let a = and_parts (is_dir d) _ h in
    let b = and_parts (not (is_root d)) _ a.1 in
    record { dir = a.0; other = not-true (is_root d) b.0; held = live_held s d (own_at s d) refl b.1 }

-- one that stands in a live directory stands not in the root
deep_stray : (s : NamesValue) (d : FileId) → IsDeep s d → stray s d ≡ true
deep_stray s d h =
    let up : above s d ≡ (place_at s d).parent = chosen_true (is_inner s d) (place_at s d).parent root h.0 in
    let other = inner_parts s (above s d) h.1 in
    and_from (is_inner s d) _ h.0 (not_from_false (is_root (place_at s d).parent) (ap is_root (sym up) ∙ other.other))

-- ---- each move leaves fewer of them

in_root : (d : FileId) (o : Option Attributes) → ((c : Attributes) → o ≡ Some c → is_root c.place.parent ≡ true) → (t : Bool) → is_stray_own d o ≡ t → t ≡ false
in_root d o h false e = refl
in_root d None h true e = absurd (false≢true (and_parts (not (is_root d)) _ (and_parts (is_dir d) _ (and_parts (is_inner_own d None) _ e).0).1).1)
in_root d (Some c) h true e = absurd (false≢true (sym (not-true (is_root c.place.parent) (and_parts (is_inner_own d (Some c)) _ e).1) ∙ h c refl))

module _ (moment : ℕ) (ds : List FileId) where
  abbrev pub KeepsAll : State → Type 0
  KeepsAll st = (Settled ds st.names) × (IsLast st.names) × NoDeadLists st.names

  abbrev pub NoneMoves : State → Type 0
  NoneMoves st = first_moving st.names (length ds) None ds ≡ None

  abbrev strays : State → ℕ
  strays st = count (stray st.names) ds

  module _ (st : State) (k : KeepsAll st) (d : FileId) (deep : IsDeep st.names d) where
    abbrev Next : State
    Next = placed moment ds st d root (tilde_name d)

    abbrev New : Place
    New = live_place (drawn moment st.names) root (tilde_name d)

    live : IsLive st.names d
    live = inner_parts st.names d deep.0

    own_is : (c : Attributes) → own_at Next.names d ≡ Some c → c.place ≡ New
    own_is c h = placed_own moment ds st d root (tilde_name d) k.0 k.1 live.held c h

    now_in : stray Next.names d ≡ false
    now_in = in_root d (own_at Next.names d) (λ c h. ap (λ (q : Place). is_root q.parent) (own_is c h)) (stray Next.names d) refl

    still_stray : (q : FileId) → stray Next.names q ≡ true → (is_same_file d q ≡ true) ⊎ (is_same_file d q ≡ false) → stray st.names q ≡ true
    still_stray q h (inl same) = absurd (false≢true (sym now_in ∙ ap (stray Next.names) (is_same_file-true d q same) ∙ h))
    still_stray q h (inr apart) = ap (is_stray_own q) (sym ((placed_touches moment ds st d root (tilde_name d) k.0.dirs).own q apart)) ∙ h

    fewer : strays Next < strays st
    fewer = count_less (stray st.names) (stray Next.names) (λ q h. still_stray q h (bool_cases (is_same_file d q))) d (deep_stray st.names d deep) now_in ds (k.0.dirs.held d live.held.0 live.held.1 live.dir)

    -- and no dead directory lists a child because of it
    in_dead : (q : FileId) (c : Entry) → c.place ≡ New → is_root q ≡ false → is_listed q c ≡ false
    in_dead q c h other = ap (λ (p : Place). p.live && is_in q p) h ∙ apart_back q root other

    lists_by : (q : FileId) (own : Attributes) → own_at st.names q ≡ Some own → is_dir q ≡ true → is_dead q own.place ≡ true → (child : FileId) (c : Entry) → cell_at Next.names q child ≡ Some c → (is_same_file d child ≡ true) ⊎ (is_same_file d child ≡ false) → is_listed q c ≡ false
    lists_by q own h dir gone child c g (inl same) =
        in_dead q c (placed_cells moment ds st d root (tilde_name d) k.0 k.1 live.held q c (ap (cell_at Next.names q) (is_same_file-true d child same) ∙ g))
        (not-true (is_root q) (and_parts (not (is_root q)) _ gone).0)
    lists_by q own h dir gone child c g (inr apart) = k.2 q own h dir gone child c (sym ((placed_touches moment ds st d root (tilde_name d) k.0.dirs).cells q child apart) ∙ g)

    no_lists_by : (q : FileId) (own : Attributes) → own_at Next.names q ≡ Some own → is_dir q ≡ true → is_dead q own.place ≡ true → (child : FileId) (c : Entry) → cell_at Next.names q child ≡ Some c → (is_same_file d q ≡ true) ⊎ (is_same_file d q ≡ false) → is_listed q c ≡ false
    no_lists_by q own h dir gone child c g (inl same) =
        absurd (false≢true (sym (not_dead q own.place (ap (λ (p : Place). p.live) (own_is own (ap (own_at Next.names) (is_same_file-true d q same) ∙ h)))) ∙ gone))
    no_lists_by q own h dir gone child c g (inr apart) =
        lists_by q own (sym ((placed_touches moment ds st d root (tilde_name d) k.0.dirs).own q apart) ∙ h) dir gone child c g (bool_cases (is_same_file d child))

    kept : KeepsAll Next
    kept = (placed_settled moment ds st d root (tilde_name d) k.0, placed_is_last moment ds st d root (tilde_name d) k.0 k.1 live.held, λ q own h dir gone child c g. no_lists_by q own h dir gone child c g (bool_cases (is_same_file d q)))

  -- there are some directories where one moves
  pub some_dirs : (s : NamesValue) (n : ℕ) (es : List FileId) (d : FileId) → first_moving s n None es ≡ Some d → 0 < length es
  some_dirs s n [] d h = absurd (none-some d h)
  some_dirs s n (e ∷ es) d h = omega arith

  one_move : (st : State) → KeepsAll st → (o : Option FileId) → first_moving st.names (length ds) None ds ≡ o → ((moved moment ds st o ≡ st) × (first_moving st.names (length ds) None ds ≡ None)) ⊎ (KeepsAll (moved moment ds st o) × (strays (moved moment ds st o) < strays st))
  one_move st k None h = inl (refl, h)
  one_move st k (Some d) h =
      elim (moving_member st.names (length ds) None ds d h) [
        | inl never ↦ absurd (none-some d never)
        | inr m ↦
            let deep : IsDeep st.names d = subst (IsDeep st.names) m.2 (member_deep st.names (length ds) m.0 (some_dirs st.names (length ds) ds d h) m.1) in
            inr (kept st k d deep, fewer st k d deep)
      ]

  pub all_broken : (st : State) → KeepsAll st → KeepsAll (repeated (length ds) (break_first moment ds) st) × NoneMoves (repeated (length ds) (break_first moment ds) st)
  all_broken st k = until KeepsAll NoneMoves strays (break_first moment ds) (λ t q. one_move t q (first_moving t.names (length ds) None ds) refl) (length ds) st k (count_length (stray st.names) ds)

-- and where none is to move there is no cycle
pub no_cycles : (ds : List FileId) (s : NamesValue) → Settled ds s → first_moving s (length ds) None ds ≡ None → NoCycle s
no_cycles ds s k none d n inner h =
    let live = inner_parts s d inner in
    let among = k.dirs.held d live.held.0 live.held.1 live.dir in
    false≢true (sym (none_lost s (length ds) None ds d none among) ∙ cycle_lost s (length ds) n d inner h)
