-- What stays calm, and what still comes out of the live directories, when names change.
use Rattle.std.proofs.Common.{◌≡◌, ℕ, zero, suc, Bool, true, false, ◌||◌, ◌&&◌, not, if◌then◌else◌, ◌⊎◌, inl, inr, List, Some, refl, sym, ap, subst, ◌∙◌}
use Rattle.std.specs.List.{list_any}
use Rattle.std.specs.Prelude.{nat_le}
use Rattle.std.proofs.lemmas.Bool.{false≢true}
use Rattle.pg_base.specs.declared.id.FileId.{FileId}
use Rattle.pg_base.specs.Id.{is_same_file}
use Rattle.pg_base.specs.Stamp.{clock_end}
use Rattle.pg_base.proofs.Orders.{is_same_file-true, is_same_file-refl}
use Rattle.pg_register.specs.Flag.{flag_of, is_live, number_or_0}
use Rattle.pg_register.specs.Place.{root}
use Rattle.pg_entries.specs.declared.entry.Entry.{Entry}
use Rattle.pg_index.specs.Ids.{is_one_of}
use Rattle.pg_names.specs.Names.{InodeValue, NamesValue, cell_at, is_dir, is_held, known, own_at, own_of}
use Rattle.pg_names.specs.Calm.{AllCome, AreCalm, Comes, IsCalm, IsSettled, IsStop, above, is_cell, is_inner, is_live_own, is_root, is_update, place_of}

-- what is in the one is in the other
abbrev pub IsGrown : List FileId → List FileId → Type 0
IsGrown d e = (q : FileId) → is_one_of q d ≡ true → is_one_of q e ≡ true

unmarked_by : (d e : List FileId) → IsGrown d e → (q : FileId) (b : Bool) → is_one_of q d ≡ b → is_one_of q e ≡ false → b ≡ false
unmarked_by d e g q false h free = refl
unmarked_by d e g q true h free = absurd (false≢true (sym free ∙ g q h))

pub unmarked : (d e : List FileId) → IsGrown d e → (q : FileId) → is_one_of q e ≡ false → is_one_of q d ≡ false
unmarked d e g q free = unmarked_by d e g q (is_one_of q d) refl free

apart_by : (ids : List FileId) (f q : FileId) (b : Bool) → is_one_of f ids ≡ true → is_one_of q ids ≡ false → is_same_file f q ≡ b → b ≡ false
apart_by ids f q false there free h = refl
apart_by ids f q true there free h = absurd (false≢true (sym free ∙ ap (λ p. is_one_of p ids) (sym (is_same_file-true f q h)) ∙ there))

-- of two ids one is in a set, the other not
pub apart_from : (ids : List FileId) (f q : FileId) → is_one_of f ids ≡ true → is_one_of q ids ≡ false → is_same_file f q ≡ false
apart_from ids f q there free = apart_by ids f q (is_same_file f q) there free refl

-- ---- marks that come

or_true : (a : Bool) → (a || true) ≡ true
or_true true = refl
or_true false = refl

pub grown_insert : (d e : List FileId) (f : FileId) → ((q : FileId) → is_one_of q e ≡ (is_same_file f q || is_one_of q d)) → IsGrown d e
grown_insert d e f more q h = more q ∙ ap (λ b. is_same_file f q || b) h ∙ or_true (is_same_file f q)

pub marked_insert : (d e : List FileId) (f : FileId) → ((q : FileId) → is_one_of q e ≡ (is_same_file f q || is_one_of q d)) → is_one_of f e ≡ true
marked_insert d e f more = more f ∙ ap (λ b. b || is_one_of f d) (is_same_file-refl f)

pub grown_same : (d e : List FileId) → e ≡ d → IsGrown d e
grown_same d e is q h = ap (is_one_of q) is ∙ h

pub grown_more : (a b c : List FileId) → IsGrown a b → IsGrown b c → IsGrown a c
grown_more a b c first second q h = second q (first q h)

-- ---- one thing

pub calm_by : (s t : NamesValue) (f : FileId) (x : InodeValue) → IsCalm s f x → ((dir : FileId) (cell : Entry) → cell_at t dir f ≡ Some cell → cell_at s dir f ≡ Some cell)
    → t.removed ≡ s.removed → t.server ≡ s.server → (is_root f ≡ false → IsSettled s f x → IsSettled t f x) → IsCalm t f x
calm_by s t f x c back removed server settled = record {
  cells = λ dir cell h. c.cells dir cell (back dir cell h);
  full = c.full;
  gold = ap (λ (r : List ℕ). list_any (is_live r) x.own.flags) removed ∙ c.gold;
  number = ap (λ (k : ℕ). nat_le clock_end (number_or_0 (flag_of x.own.flags k))) server ∙ c.number;
  by_server = c.by_server;
  settled = λ free. settled free (c.settled free);
}

-- what is asked of the parent depends on whether it is held, and on its cell
pub settled_by : (s t : NamesValue) (f : FileId) (x : InodeValue) → is_held t x.own.place.parent ≡ is_held s x.own.place.parent
    → cell_at t x.own.place.parent f ≡ cell_at s x.own.place.parent f → IsSettled s f x → IsSettled t f x
settled_by s t f x held cell st = record {
  cell = ap (λ b. is_update x.own.place && (is_dir x.own.place.parent && (b && not (is_cell (cell_at t x.own.place.parent f))))) held
      ∙ ap (λ o. is_update x.own.place && (is_dir x.own.place.parent && (is_held s x.own.place.parent && not (is_cell o)))) cell ∙ st.cell;
  parent = ap (λ b. x.own.place.live && not b) held ∙ st.parent;
  returning = st.returning;
}

-- ---- ways up

-- a directory is marked, stands where it stood, or is live no longer
abbrev pub IsOnWay : NamesValue → NamesValue → List FileId → FileId → Type 0
IsOnWay s t e dir = (is_one_of dir e ≡ true) ⊎ ((own_at t dir ≡ own_at s dir) ⊎ (is_inner t dir ≡ false))

module _ (s t : NamesValue) (d e : List FileId) (grown : IsGrown d e) (way : (dir : FileId) → IsOnWay s t e dir) where
  inner_same : (dir : FileId) → own_at t dir ≡ own_at s dir → is_inner t dir ≡ is_inner s dir
  inner_same dir same = ap (λ o. is_dir dir && (not (is_root dir) && is_live_own o)) same

  above_same : (dir : FileId) → own_at t dir ≡ own_at s dir → above t dir ≡ above s dir
  above_same dir same = ap (λ o. if is_dir dir && (not (is_root dir) && is_live_own o) then (place_of o).parent else root) same

  stop_out : (dir : FileId) → is_inner s dir ≡ false → IsStop t e dir
  stop_out dir out = elim (way dir) [
    | inl m ↦ inl m
    | inr w ↦ elim w [
      | inl same ↦ inr (inner_same dir same ∙ out)
      | inr gone ↦ inr gone
    ]
  ]

  stop_by : (dir : FileId) → IsStop s d dir → IsStop t e dir
  stop_by dir st = elim st [
    | inl m ↦ inl (grown dir m)
    | inr out ↦ stop_out dir out
  ]

  comes_by : (n : ℕ) (dir : FileId) → Comes s d n dir → Comes t e n dir
  comes_by zero dir st = stop_by dir st
  comes_by (suc n) dir c = elim c [
    | inl st ↦ inl (stop_by dir st)
    | inr up ↦ elim (way dir) [
      | inl m ↦ inl (inl m)
      | inr w ↦ elim w [
        | inl same ↦ inr (subst (Comes t e n) (sym (above_same dir same)) (comes_by n (above s dir) up))
        | inr gone ↦ inl (inr gone)
      ]
    ]
  ]

  pub all_come : AllCome s d → AllCome t e
  all_come all dir = let c = all dir in (c.0, comes_by c.0 dir c.1)

-- ---- all but what is marked is as it was

pub record IsFrame (s t : NamesValue) (e : List FileId) : Type 0 where
  pub known : (q : FileId) → is_one_of q e ≡ false → known t q ≡ known s q
  pub cells : (dir q : FileId) → is_one_of q e ≡ false → cell_at t dir q ≡ cell_at s dir q
  pub held : (q : FileId) → is_held t q ≡ is_held s q
  pub removed : t.removed ≡ s.removed
  pub server : t.server ≡ s.server

pub framed_calm : (s t : NamesValue) (d e : List FileId) → IsGrown d e → IsFrame s t e → AreCalm s d → AreCalm t e
framed_calm s t d e grown frame calm f x k free =
    calm_by s t f x (calm f x (sym (frame.known f free) ∙ k) (unmarked d e grown f free)) (λ dir cell h. sym (frame.cells dir f free) ∙ h) frame.removed frame.server
    (λ other st. settled_by s t f x (frame.held x.own.place.parent) (frame.cells x.own.place.parent f free) st)

way_by : (s t : NamesValue) (e : List FileId) → IsFrame s t e → (dir : FileId) (b : Bool) → is_one_of dir e ≡ b → IsOnWay s t e dir
way_by s t e frame dir true h = inl h
way_by s t e frame dir false h = inr (inl (ap own_of (frame.known dir h)))

pub framed_come : (s t : NamesValue) (d e : List FileId) → IsGrown d e → IsFrame s t e → AllCome s d → AllCome t e
framed_come s t d e grown frame come = all_come s t d e grown (λ dir. way_by s t e frame dir (is_one_of dir e) refl) come

pub same_frame : (s : NamesValue) (e : List FileId) → IsFrame s s e
same_frame s e = record { known = λ q free. refl; cells = λ dir q free. refl; held = λ q. refl; removed = refl; server = refl }
