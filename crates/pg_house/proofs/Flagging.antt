-- Names to one of whose things a flag came.
use Rattle.std.proofs.Common.{◌≡◌, ◌≤◌, Bool, true, false, List, [], ◌∷◌, Option, None, Some, refl, sym, ap, ◌∙◌, subst}
use Rattle.std.proofs.lemmas.Option.{same_Some}
use Rattle.pg_base.specs.declared.id.FileId.{FileId}
use Rattle.pg_base.specs.Id.{is_same_file}
use Rattle.pg_base.proofs.Orders.{is_same_file-true}
use Rattle.pg_register.specs.declared.flag.Flag.{Flag}
use Rattle.pg_register.specs.declared.place.Place.{Place}
use Rattle.pg_register.specs.Flag.{IsByServer, join_flags}
use Rattle.pg_register.specs.Place.{newer_place}
use Rattle.pg_register.proofs.ByServer.{IsByServer-join_flag}
use Rattle.pg_entries.specs.declared.entry.Entry.{Entry}
use Rattle.pg_names.specs.declared.attributes.Attributes.{Attributes}
use Rattle.pg_names.specs.Names.{NamesValue, cell_at, join_flag, known, own_at, with_flag}
use Rattle.pg_names.proofs.Lookups.{SameFrame, flag_cell, flag_other, flag_same, known_absent, own_back, own_with_flag, update_frame}
use Rattle.pg_house.specs.Passing.{greatest, joined_with}
use Rattle.pg_house.specs.Calm.{held_place}
use Rattle.pg_house.specs.Facts.{AreByServer, AreOrdered, IsLast, IsOfDirs}
use Rattle.pg_house.proofs.Ordered.{changed_ordered}
use Rattle.pg_house.proofs.Touches.{Touches}

module _ (s : NamesValue) (f : FileId) (flag : Flag) where
  abbrev pub Flagged : NamesValue
  Flagged = join_flag s f flag

  pub flagged_frame : SameFrame Flagged s
  flagged_frame = update_frame s f (with_flag flag)

  pub flagged_touches : Touches f s Flagged
  flagged_touches = record {
    own = λ q apart. flag_other s f flag q apart;
    cells = λ q g apart. flag_cell s f flag q g;
    was = λ q h. own_back s f (with_flag flag) q h.0 h.1;
    removed = flagged_frame.removed;
    server = flagged_frame.server;
    keys = flagged_frame.keys;
  }

  -- what is held was held, in the same place, with flags by server
  abbrev WasHeld : FileId → Attributes → Type 0
  WasHeld q b = (a : Attributes) × (own_at s q ≡ Some a) × (b.place ≡ a.place) × (IsByServer a.flags → IsByServer b.flags)

  here : (b : Attributes) → own_at Flagged f ≡ Some b → WasHeld f b
  here b h =
      let was = own_back s f (with_flag flag) f b h in
      let e : own_with_flag flag was.0 ≡ b = same_Some (own_with_flag flag was.0) b (sym (flag_same s f flag was.0 was.1) ∙ h) in
      (was.0, was.1, ap (λ (o : Attributes). o.place) (sym e), λ sorted. subst (λ (o : Attributes). IsByServer o.flags) e (IsByServer-join_flag flag was.0.flags sorted))

  held_by : (q : FileId) (b : Attributes) (t : Bool) → is_same_file f q ≡ t → own_at Flagged q ≡ Some b → WasHeld q b
  held_by q b false apart h = (b, sym (flag_other s f flag q apart) ∙ h, refl, λ sorted. sorted)
  held_by q b true same h =
      let e = is_same_file-true f q same in
      subst (λ r. WasHeld r b) e (here b (ap (own_at Flagged) e ∙ h))

  pub was_held : (q : FileId) (b : Attributes) → own_at Flagged q ≡ Some b → WasHeld q b
  was_held q b h = held_by q b (is_same_file f q) refl h

  -- what the laws ask for still holds
  pub flagged_dirs : IsOfDirs s → IsOfDirs Flagged
  flagged_dirs of_dirs d g c h = of_dirs d g c (sym (flag_cell s f flag d g) ∙ h)

  pub flagged_by_server : AreByServer s → AreByServer Flagged
  flagged_by_server sorted q b h = let was = was_held q b h in was.3 (sorted q was.0 was.1)

  pub flagged_last : IsLast s → IsLast Flagged
  flagged_last last = record {
    own = λ q b h.
        let was = was_held q b h in
        subst (λ (p : Place). p.stamp.time ≤ Flagged.last) (sym was.2) (subst (λ n. was.0.place.stamp.time ≤ n) (sym flagged_frame.last) (last.own q was.0 was.1));
    cells = λ d g c h. subst (λ n. c.place.stamp.time ≤ n) (sym flagged_frame.last) (last.cells d g c (sym (flag_cell s f flag d g) ∙ h));
  }

  pub flagged_ordered : AreOrdered s → AreOrdered Flagged
  flagged_ordered ordered = changed_ordered s f (with_flag flag) (λ x h. h) (known s f) refl ordered

  -- every place is where it was
  place_here : (o : Option Attributes) → own_at s f ≡ o → held_place (own_at Flagged f) ≡ held_place (own_at s f)
  place_here None h = ap (λ (n : NamesValue). held_place (own_at n f)) (known_absent s f (with_flag flag) h)
  place_here (Some a) h = ap held_place (flag_same s f flag a h) ∙ sym (ap held_place h)

  place_by : (q : FileId) (t : Bool) → is_same_file f q ≡ t → held_place (own_at Flagged q) ≡ held_place (own_at s q)
  place_by q false apart = ap held_place (flag_other s f flag q apart)
  place_by q true same = subst (λ r. held_place (own_at Flagged r) ≡ held_place (own_at s r)) (is_same_file-true f q same) (place_here (own_at s f) refl)

  pub flagged_place : (q : FileId) → held_place (own_at Flagged q) ≡ held_place (own_at s q)
  flagged_place q = place_by q (is_same_file f q) refl

-- ---- the greatest of what is known

-- where the cells for a thing have these flags, and more of them came to the thing itself: the
-- greatest has the same place, and what the thing has
module _ (s t : NamesValue) (f : FileId) (flags more : List Flag) (again : join_flags more flags ≡ more)
    (same : (d : FileId) → cell_at t d f ≡ cell_at s d f) (all : (d : FileId) (c : Entry) → cell_at s d f ≡ Some c → c.flags ≡ flags) where
  abbrev pub IsBeside : Attributes → Attributes → Type 0
  IsBeside a b = (b.place ≡ a.place) × (b.flags ≡ more)

  joined_beside : (d : FileId) (a b : Attributes) (o : Option Entry) → cell_at s d f ≡ o → IsBeside a b → IsBeside (joined_with a o) (joined_with b o)
  joined_beside d a b None h k = k
  joined_beside d a b (Some c) h k = (
    ap (λ (p : Place). newer_place p c.place) k.0,
    ap (join_flags b.flags) (all d c h) ∙ ap (λ (fs : List Flag). join_flags fs flags) k.1 ∙ again,
  )

  pub greatest_beside : (a b : Attributes) (ds : List FileId) → IsBeside a b → IsBeside (greatest s f a ds) (greatest t f b ds)
  greatest_beside a b [] k = k
  greatest_beside a b (d ∷ ds) k =
      let next = joined_with a (cell_at s d f) in
      subst (λ o. IsBeside (greatest s f next ds) (greatest t f (joined_with b o) ds)) (sym (same d))
      (greatest_beside next (joined_with b (cell_at s d f)) ds (joined_beside d a b (cell_at s d f) refl k))
