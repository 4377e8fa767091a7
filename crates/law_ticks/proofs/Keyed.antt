-- Keys that have cells where names change, piece by piece, and keys that are touched.
use Rattle.std.proofs.Common.{ℕ, ◌≡◌, ◌==◌, ◌&&◌, Bool, true, false, cond, not, List, [], ◌∷◌, ◌++◌, Option, None, Some, refl, sym, ap, subst, ◌∙◌, inl, inr, ◌⊎◌}
use Rattle.std.proofs.lemmas.Bool.{eq-eqb, false≢true}
use Rattle.std.proofs.lemmas.Option.{none-some}
use Rattle.law_frame.specs.pg_run.pg_base.declared.id.FileId.{FileId}
use Rattle.law_frame.specs.pg_run.pg_base.Id.{is_same_file}
use Rattle.law_frame.proofs.pg_run.pg_base.Orders.{is_same_file-true}
use Rattle.law_frame.specs.pg_run.pg_edges.declared.key.Key.{Key}
use Rattle.law_frame.specs.pg_run.pg_edges.declared.key.Key.TheVariants as key
use Rattle.law_frame.specs.pg_run.pg_register.declared.flag.Flag.{Flag}
use Rattle.law_frame.specs.pg_run.pg_register.declared.place.Place.{Place}
use Rattle.law_frame.specs.pg_run.pg_register.Flag.{flag_of}
use Rattle.law_frame.specs.pg_run.pg_entries.declared.entry.Entry.{Entry}
use Rattle.law_frame.specs.pg_run.pg_msg.declared.work.Touched.{Touched}
use Rattle.law_frame.specs.pg_run.pg_msg.declared.work.Work.{Work}
use Rattle.law_frame.specs.pg_run.pg_names.declared.attributes.Attributes.{Attributes}
use Rattle.law_frame.specs.pg_run.pg_names.Names.{NamesValue, cell_at, or_blank, own_at, own_or_blank, set_entry, set_own}
use Rattle.law_frame.specs.pg_run.pg_names.Same.{is_same_place}
use Rattle.law_frame.proofs.pg_run.pg_names.Lookups.{entry_other_child, entry_other_dir, entry_own, entry_same, own_cell, own_other, own_same}
use Rattle.law_frame.specs.pg_run.pg_house.Facts.{IsHeld, IsIn}
use Rattle.law_frame.specs.pg_run.pg_house.Work.{State, note_left, place_touched, touched}
use Rattle.law_frame.specs.pg_run.pg_house.Returning.{is_root}
use Rattle.law_frame.specs.pg_run.pg_msg.Work.{with_left, with_touched}
use Rattle.law_frame.specs.pg_run.pg_house.Passing.{cell_for, flags_touched, gets, given, is_other_flag, offered, own_touched, spread, took}
use Rattle.law_frame.specs.pg_run.theory_flood_pieces.UpTo.{AreFlagsUpTo, IsFlagKnownBy}
use Rattle.law_frame.proofs.pg_run.theory_flood_pieces.Choices.{chosen}
use Rattle.law_frame.proofs.pg_run.theory_flood_pieces.Growth.{OneOwn}

-- ---- what is known of a key

-- a key of names has a cell: a place always has, a flag where one of that server is known, an entry
-- where the directory has a cell for the child. Versions are no names
abbrev pub NameHas : NamesValue → FileId → Key → Type 0
NameHas names file key.Place = Unit {0}
NameHas names file (key.Flag server) = (f : Flag) × (flag_of (own_or_blank names file).flags server ≡ Some f)
NameHas names file (key.Entry child) = (e : Entry) × (cell_at names file child ≡ Some e)
NameHas names file (key.Version stamp) = ⊥

-- ---- from one state to a later one

-- what is held stays held, what has a cell keeps one, and each key that was touched since has one
pub record Touches (s t : State) : Type 0 where
  pub held : (q : FileId) → IsHeld s.names q → IsHeld t.names q
  pub stays : (f : FileId) (k : Key) → NameHas s.names f k → NameHas t.names f k
  pub new : (x : Touched) → IsIn x t.work.touched → IsIn x s.work.touched ⊎ NameHas t.names x.file x.key

pub Touches-refl : (s : State) → Touches s s
Touches-refl s = record { held = λ q h. h; stays = λ f k h. h; new = λ x h. inl h }

pub Touches-trans : (s t u : State) → Touches s t → Touches t u → Touches s u
Touches-trans s t u a b = record {
  held = λ q h. b.held q (a.held q h);
  stays = λ f k h. b.stays f k (a.stays f k h);
  new = λ x h. elim (b.new x h) [
    | inl was ↦ elim (a.new x was) [ inl old ↦ inl old | inr has ↦ inr (b.stays x.file x.key has) ]
    | inr has ↦ inr has
  ];
}

pub in_split : (x y : Touched) (ts : List Touched) → IsIn x (ts ++ y ∷ []) → IsIn x ts ⊎ (y ≡ x)
in_split x y [] h = elim h [ inl e ↦ inr e | inr none ↦ absurd none ]
in_split x y (t ∷ ts) h = elim h [
  | inl e ↦ inl (inl e)
  | inr later ↦ elim (in_split x y ts later) [ inl old ↦ inl (inr old) | inr e ↦ inr e ]
]

-- ---- a cell of a directory

-- a directory that is held has it then
entry_by : (s : NamesValue) (d : FileId) (b : Attributes) (e : Entry) → own_at s d ≡ Some b → (q g : FileId) → (c : Entry) → cell_at s q g ≡ Some c → (t u : Bool) → is_same_file d q ≡ t → is_same_file g e.child ≡ u
    → (x : Entry) × (cell_at (set_entry s d e) q g ≡ Some x)
entry_by s d b e held q g c h false u apart child = (c, entry_other_dir s d e q g apart ∙ h)
entry_by s d b e held q g c h true false same apart = (c, entry_other_child s d e q g apart ∙ h)
entry_by s d b e held q g c h true true same child =
    let at : cell_at (set_entry s d e) q g ≡ cell_at (set_entry s d e) d e.child =
    ap (λ x. cell_at (set_entry s d e) x g) (sym (is_same_file-true d q same)) ∙ ap (cell_at (set_entry s d e) d) (is_same_file-true g e.child child) in
    (e, at ∙ entry_same s d b e held)

own_entry : (s : NamesValue) (d : FileId) (e : Entry) (q : FileId) → own_or_blank (set_entry s d e) q ≡ own_or_blank s q
own_entry s d e q = ap (or_blank q) (entry_own s d e q)

entry_stays : (s : NamesValue) (d : FileId) (b : Attributes) (e : Entry) → own_at s d ≡ Some b → (f : FileId) (k : Key) → NameHas s f k → NameHas (set_entry s d e) f k
entry_stays s d b e held f key.Place h = tt
entry_stays s d b e held f (key.Flag m) h = (h.0, ap (λ (o : Attributes). flag_of o.flags m) (own_entry s d e f) ∙ h.1)
entry_stays s d b e held f (key.Entry g) h = entry_by s d b e held f g h.0 h.1 (is_same_file d f) (is_same_file g e.child) refl refl
entry_stays s d b e held f (key.Version stamp) h = absurd h

given_touches : (st : State) (f : FileId) (top : Attributes) (d : FileId) → IsHeld st.names d → Touches st (given st f top d)
given_touches st f top d held =
    let e = cell_for f top in
    let P : Touched → Type 0 = λ x. NameHas (set_entry st.names d e) x.file x.key in
    record {
      held = λ q h. (h.0, entry_own st.names d e q ∙ h.1);
      stays = entry_stays st.names d held.0 e held.1;
      new = λ x h. elim (in_split x (record { file = d; key = key.Entry f }) st.work.touched h) [
        | inl old ↦ inl old
        | inr is ↦ inr (subst P is (e, entry_same st.names d held.0 e held.1))
      ];
    }

-- all of these are held
abbrev pub AllHeld : NamesValue → List FileId → Type 0
AllHeld s [] = Unit {0}
AllHeld s (d ∷ ds) = IsHeld s d × AllHeld s ds

pub held_further : (s t : NamesValue) → ((q : FileId) → IsHeld s q → IsHeld t q) → (ds : List FileId) → AllHeld s ds → AllHeld t ds
held_further s t up [] h = tt
held_further s t up (d ∷ ds) h = (up d h.0, held_further s t up ds h.1)

offered_touches : (st : State) (f : FileId) (own top : Attributes) (back : Bool) (d : FileId) → IsHeld st.names d → Touches st (offered st f own top back d)
offered_touches st f own top back d held = chosen (Touches st) (gets st.names f own top back d) (given st f top d) st (given_touches st f top d held) (Touches-refl st)

pub spread_touches : (st : State) (f : FileId) (own top : Attributes) (back : Bool) (ds : List FileId) → AllHeld st.names ds → Touches st (spread st f own top back ds)
spread_touches st f own top back [] h = Touches-refl st
spread_touches st f own top back (d ∷ ds) h =
    let next = offered st f own top back d in
    let one = offered_touches st f own top back d h.0 in
    Touches-trans st next (spread next f own top back ds) one (spread_touches next f own top back ds (held_further st.names next.names one.held ds h.1))

-- ---- the thing itself

-- every flag of these is found by its server
abbrev pub IsMember : Flag → List Flag → Type 0
IsMember g [] = ⊥
IsMember g (f ∷ fs) = (f ≡ g) ⊎ IsMember g fs

found_at : (f g : Flag) (fs : List Flag) (t : Bool) → (f.server == g.server) ≡ t → ((h : Flag) × (flag_of fs g.server ≡ Some h)) ⊎ (t ≡ true) → (h : Flag) × (cond t (Some f) (flag_of fs g.server) ≡ Some h)
found_at f g fs true e h = (f, refl)
found_at f g fs false e h = elim h [ inl rest ↦ rest | inr other ↦ absurd (false≢true other) ]

pub member_found : (g : Flag) (fs : List Flag) → IsMember g fs → (h : Flag) × (flag_of fs g.server ≡ Some h)
member_found g [] h = absurd h
member_found g (f ∷ fs) h = elim h [
  | inl same ↦ found_at f g fs (f.server == g.server) refl (inr (eq-eqb f.server g.server (ap (λ (x : Flag). x.server) same)))
  | inr later ↦ found_at f g fs (f.server == g.server) refl (inl (member_found g fs later))
]

module _ (f : FileId) (all : List Flag) where
  -- the key of the place, or of a flag that is found
  abbrev IsOwnKey : Touched → Type 0
  IsOwnKey x = (record { file = f; key = key.Place } ≡ x) ⊎ ((g : Flag) × IsMember g all × (record { file = f; key = key.Flag g.server } ≡ x))

  touched_by : (work : Work) (k : Key) (t : Bool) (x : Touched) → IsOwnKey (record { file = f; key = k }) → IsIn x (touched work f k t).touched → IsIn x work.touched ⊎ IsOwnKey x
  touched_by work k false x own h = inl h
  touched_by work k true x own h = elim (in_split x (record { file = f; key = k }) work.touched h) [ inl old ↦ inl old | inr is ↦ inr (subst IsOwnKey is own) ]

  flags_by : (work : Work) (held gs : List Flag) → ((g : Flag) → IsMember g gs → IsMember g all) → (x : Touched) → IsIn x (flags_touched work f held gs).touched → IsIn x work.touched ⊎ IsOwnKey x
  flags_by work held [] among x h = inl h
  flags_by work held (g ∷ gs) among x h =
      let t = is_other_flag (flag_of held g.server) g in
      elim (flags_by (touched work f (key.Flag g.server) t) held gs (λ i m. among i (inr m)) x h) [
        | inl old ↦ touched_by work (key.Flag g.server) t x (inr (g, among g (inl refl), refl)) old
        | inr own ↦ inr own
      ]

-- what is noted of a place that was replaced touches nothing
pub left_touched : (work : Work) (f : FileId) (old : Place) → (note_left work f old).touched ≡ work.touched
left_touched work f old =
    chosen (λ (w : Work). w.touched ≡ work.touched) (old.live && not (is_root f)) (with_left work old.parent f) work refl refl

placed_by : (f : FileId) (all : List Flag) (work : Work) (old : Place) (t : Bool) (x : Touched) → IsIn x (place_touched work f old t).touched
    → IsIn x work.touched ⊎ IsOwnKey f all x
placed_by f all work old false x h = inl h
placed_by f all work old true x h =
    let P : List Touched → Type 0 = λ ts. IsIn x ts in
    touched_by f all work key.Place true x (inl refl) (subst P (left_touched (with_touched work f key.Place) f old) h)

own_keys : (work : Work) (f : FileId) (own taken : Attributes) (x : Touched) → IsIn x (own_touched work f own taken).touched → IsIn x work.touched ⊎ IsOwnKey f taken.flags x
own_keys work f own taken x h =
    let t = not (is_same_place own.place taken.place) in
    elim (flags_by f taken.flags (place_touched work f own.place t) own.flags taken.flags (λ g m. m) x h) [
      | inl old ↦ placed_by f taken.flags work own.place t x old
      | inr own ↦ inr own
    ]

-- its own flags become others, among which each that was known is known
module _ (s t : NamesValue) (f : FileId) (b c : Attributes) (one : OneOwn s t f b c) (cells : (d g : FileId) → cell_at t d g ≡ cell_at s d g) (up : (m : ℕ) (g : Flag) → flag_of b.flags m ≡ Some g → (h : Flag) × (flag_of c.flags m ≡ Some h)) where
  flag_by : (q : FileId) (m : ℕ) (g : Flag) → flag_of (own_or_blank s q).flags m ≡ Some g → (u : Bool) → is_same_file f q ≡ u → (h : Flag) × (flag_of (own_or_blank t q).flags m ≡ Some h)
  flag_by q m g h false apart = (g, ap (λ o. flag_of (or_blank q o).flags m) (one.others q apart) ∙ h)
  flag_by q m g h true same =
      let at : f ≡ q = is_same_file-true f q same in
      let was : flag_of b.flags m ≡ Some g = ap (λ o. flag_of (or_blank q o).flags m) (sym one.was ∙ ap (own_at s) at) ∙ h in
      let now = up m g was in
      (now.0, ap (λ o. flag_of (or_blank q o).flags m) (sym (ap (own_at t) at) ∙ one.is) ∙ now.1)

  pub one_stays : (q : FileId) (k : Key) → NameHas s q k → NameHas t q k
  one_stays q key.Place h = tt
  one_stays q (key.Flag m) h = flag_by q m h.0 h.1 (is_same_file f q) refl
  one_stays q (key.Entry g) h = (h.0, cells q g ∙ h.1)
  one_stays q (key.Version stamp) h = absurd h

-- what is held stays held
pub one_held_stays : (s t : NamesValue) (f : FileId) (b c : Attributes) → OneOwn s t f b c → (q : FileId) → IsHeld s q → IsHeld t q
one_held_stays s t f b c k q h = at (is_same_file f q) refl
  where
    at : (u : Bool) → is_same_file f q ≡ u → IsHeld t q
    at true e = (c, ap (own_at t) (sym (is_same_file-true f q e)) ∙ k.is)
    at false e = (h.0, k.others q e ∙ h.1)

pub known_up : (o p : Option Flag) → IsFlagKnownBy o p → (g : Flag) → o ≡ Some g → (h : Flag) × (p ≡ Some h)
known_up None p up g h = absurd (none-some g h)
known_up (Some a) None up g h = absurd up
known_up (Some a) (Some b) up g h = (b, refl)

pub took_touches : (st : State) (f : FileId) (own taken : Attributes) → own_at st.names f ≡ Some own → AreFlagsUpTo own.flags taken.flags → Touches st (took st f own taken)
took_touches st f own taken held up =
    let then = set_own st.names f taken in
    let one : OneOwn st.names then f own taken = record { was = held; is = own_same st.names f own taken held; others = own_other st.names f taken } in
    let P : Touched → Type 0 = λ x. NameHas then x.file x.key in
    record {
      held = one_held_stays st.names then f own taken one;
      stays = one_stays st.names then f own taken one (λ d g. own_cell st.names f taken d g) (λ m g h. known_up (flag_of own.flags m) (flag_of taken.flags m) (up m) g h);
      new = λ x h. elim (own_keys st.work f own taken x h) [
        | inl old ↦ inl old
        | inr is ↦ inr (elim is [
          | inl place ↦ subst P place tt
          | inr flag ↦
              let there = member_found flag.0 taken.flags flag.1 in
              subst P flag.2 (there.0, ap (λ o. flag_of (or_blank f o).flags flag.0.server) one.is ∙ there.1)
        ])
      ];
    }
