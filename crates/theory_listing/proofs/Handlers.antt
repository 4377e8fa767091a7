-- First parts of steps, one for each kind of change that a handler makes.
use Rattle.std.proofs.Common.{ℕ, ◌≡◌, ◌≤◌, ◌<◌, ◌⊎◌, None, Some, refl, sym, subst, ap, ◌∙◌, inl, inr, arith}
use Rattle.theory_listing.specs.Protocol.{Protocol, AtMost, AtLeast, IsIn, Lists}
use Rattle.theory_listing.specs.World.{Message}
use Rattle.theory_listing.specs.World.Saying.{TellOk, LeaveOk, Other}
use Rattle.theory_listing.specs.Rule.{Holds, HasCell, IsToldAt, IsJustTold}
use Rattle.theory_listing.specs.Parts.{NoneLater, FirstPart}
use Rattle.theory_listing.proofs.Quiet.{some_same}

module _ {N F P S : Type 0} (p : Protocol N F P S) (least : ℕ) (a m : N) (heard : Message F P S) where
  -- what stays
  abbrev pub SameOwn : Type 0
  SameOwn = (f : F) → p.own m f ≡ p.own a f

  abbrev pub SameCells : Type 0
  SameCells = (d c : F) → p.cell m d c ≡ p.cell a d c

  abbrev pub SamePatches : Type 0
  SamePatches = (d c : F) → p.patch m d c ≡ p.patch a d c

  abbrev pub SameBirths : Type 0
  SameBirths = (f : F) → Holds p a f → Holds p m f → p.birth m f ≡ p.birth a f

  abbrev pub PastStays : Type 0
  PastStays = (f : F) (n : ℕ) → p.IsPast a f n → p.IsPast m f n

  abbrev pub Hears : Type 0
  Hears = (heard.says ≡ Other) ⊎ (heard.view ≡ p.view a)

  stay_own : SameOwn → (f : F) (q r : P) → p.own a f ≡ Some q → p.own m f ≡ Some r → (q ≡ r) ⊎ p.IsBelow (p.stamp q) (p.stamp r)
  stay_own k f q r h i = inl (some_same q r (sym h ∙ sym (k f) ∙ i))

  none_gone : SameOwn → (f : F) (q : P) → p.own a f ≡ Some q → p.own m f ≡ None → ⊥
  none_gone k f q h gone = let e : None ≡ Some q = sym gone ∙ k f ∙ h in cc

  none_taken : SameOwn → (d : F) → p.own a d ≡ None → Holds p m d → ⊥
  none_taken k d none h = let e : None ≡ Some h.0 = sym none ∙ sym (k d) ∙ h.1 in cc

  stay_cell : (d c : F) (q : P) → p.cell m d c ≡ p.cell a d c → p.cell a d c ≡ Some q → IsToldAt p m d c (p.stamp q)
  stay_cell d c q k h = (q, k ∙ h, inl refl)

  stay_patch : SamePatches → (d c : F) (q : P) → p.patch a d c ≡ Some q → AtLeast p (p.stamp q) (p.patch m d c)
  stay_patch k d c q h = (q, k d c ∙ h, inl refl)

  same_view : p.view m ≡ p.view a → p.view a ≤ p.view m
  same_view e = let Q : ℕ → Type 0 = (λ v. p.view a ≤ v) in subst Q (sym e) (omega arith)

  not_entered : p.view m ≡ p.view a → p.view a < least → least ≤ p.view m → ⊥
  not_entered e low up = omega (arith, e)

  -- NO PLACE, CELL OR PATCH CHANGES: most messages, a tick, a restart, a call that only reads or
  -- writes a body. Confirms go on, or end by what was heard
  pub record IsCalm : Type 0 where
    pub hears : Hears
    pub view : p.view m ≡ p.view a
    pub own : SameOwn
    pub cells : SameCells
    pub births : SameBirths
    pub past : PastStays
    pub patches : (d c : F) (q : P) → p.patch a d c ≡ Some q → AtLeast p (p.stamp q) (p.patch m d c) ⊎ (heard.says ≡ TellOk d c (p.stamp q))
    pub confirms : (d c : F) (q : P) → p.Confirms a d c → Lists p m d c q → p.own m c ≡ None → p.Confirms m d c ⊎ IsJustTold p heard d c q

  pub calm_first : IsCalm → FirstPart p least a m heard
  calm_first k = record {
    views = same_view k.view;
    hears = k.hears;
    birth = k.births;
    past = k.past;
    own_grows = stay_own k.own;
    cells_grow = λ d c q h held. stay_cell d c q (k.cells d c) h;
    taken = λ d c q r none held was in_ now. absurd (none_taken k.own d none held);
    patch_ends = λ d c q h. elim (k.patches d c q h) [ inl t ↦ inl t | inr e ↦ inr (inr e) ];
    let_go = λ f q h gone. absurd (none_gone k.own f q h gone);
    confirm_ends = k.confirms;
    listed_new = λ d c q l none. inl (sym (k.cells d c) ∙ l.cell);
    enters = λ low up d c q l none. absurd (not_entered k.view low up);
  }

  -- CELLS GROW, and nothing else changes; where one lists a child that is not held, it was so
  -- before, or a Confirm stands, or it is just what was told
  pub record AreCellsGrown : Type 0 where
    pub hears : Hears
    pub view : p.view m ≡ p.view a
    pub own : SameOwn
    pub births : SameBirths
    pub past : PastStays
    pub patches : SamePatches
    pub grows : (d c : F) (q : P) → p.cell a d c ≡ Some q → IsToldAt p m d c (p.stamp q)
    pub new : (d c : F) (q : P) → Lists p m d c q → p.own m c ≡ None → (p.cell a d c ≡ Some q) ⊎ p.Confirms m d c ⊎ IsJustTold p heard d c q
    pub confirms : (d c : F) (q : P) → p.Confirms a d c → Lists p m d c q → p.own m c ≡ None → p.Confirms m d c ⊎ IsJustTold p heard d c q

  pub cells_first : AreCellsGrown → FirstPart p least a m heard
  cells_first k = record {
    views = same_view k.view;
    hears = k.hears;
    birth = k.births;
    past = k.past;
    own_grows = stay_own k.own;
    cells_grow = λ d c q h held. k.grows d c q h;
    taken = λ d c q r none held was in_ now. absurd (none_taken k.own d none held);
    patch_ends = λ d c q h. inl (stay_patch k.patches d c q h);
    let_go = λ f q h gone. absurd (none_gone k.own f q h gone);
    confirm_ends = k.confirms;
    listed_new = k.new;
    enters = λ low up d c q l none. absurd (not_entered k.view low up);
  }

  -- ONE CELL IS JOINED: an entry Cell, PlaceIs, Tell. It grows; and where it lists a child that is
  -- not held, it was so before, or a Confirm stands, or it is just what was told
  pub record IsCellJoined (dir child : F) (place : P) : Type 0 where
    pub hears : Hears
    pub view : p.view m ≡ p.view a
    pub own : SameOwn
    pub births : SameBirths
    pub past : PastStays
    pub patches : SamePatches
    pub now : p.cell m dir child ≡ Some place
    pub grows : (q : P) → p.cell a dir child ≡ Some q → AtMost p (p.stamp q) (p.stamp place)
    pub others : (d c : F) → ((d ≡ dir) × (c ≡ child)) ⊎ (p.cell m d c ≡ p.cell a d c)
    pub new : IsIn p dir child place → p.own m child ≡ None → (p.cell a dir child ≡ Some place) ⊎ p.Confirms m dir child ⊎ IsJustTold p heard dir child place
    pub confirms : (d c : F) (q : P) → p.Confirms a d c → Lists p m d c q → p.own m c ≡ None → p.Confirms m d c ⊎ IsJustTold p heard d c q

  module _ (dir child : F) (place : P) (k : IsCellJoined dir child place) where
    joined_here : (q : P) → p.cell a dir child ≡ Some q → IsToldAt p m dir child (p.stamp q)
    joined_here q h = (place, k.now, k.grows q h)

    joined_grows : (d c : F) (q : P) → p.cell a d c ≡ Some q → IsToldAt p m d c (p.stamp q)
    joined_grows d c q h = elim (k.others d c) [
      | inr e ↦ stay_cell d c q e h
      | inl e ↦ let Q : F → F → Type 0 = (λ x y. p.cell a x y ≡ Some q → IsToldAt p m x y (p.stamp q)) in let R : F → Type 0 = (λ x. Q x c) in
          subst R (sym e.0) (subst (Q dir) (sym e.1) (joined_here q)) h
    ]

    abbrev NewAt : P → F → F → Type 0
    NewAt q d c = Lists p m d c q → p.own m c ≡ None → (p.cell a d c ≡ Some q) ⊎ p.Confirms m d c ⊎ IsJustTold p heard d c q

    new_here : (q : P) → NewAt q dir child
    new_here q l none =
        let e : place ≡ q = some_same place q (sym k.now ∙ l.cell) in
        let Q : P → Type 0 = (λ z. IsIn p dir child z → (p.cell a dir child ≡ Some z) ⊎ p.Confirms m dir child ⊎ IsJustTold p heard dir child z) in
        subst Q e (λ in_. k.new in_ none) l.is_in

    new_at : (d c : F) (q : P) → NewAt q d c
    new_at d c q l none = elim (k.others d c) [
      | inr e ↦ inl (sym e ∙ l.cell)
      | inl e ↦ let R : F → Type 0 = (λ x. NewAt q x c) in subst R (sym e.0) (subst (NewAt q dir) (sym e.1) (new_here q)) l none
    ]

    pub cell_first : FirstPart p least a m heard
    cell_first = cells_first (record {
      hears = k.hears;
      view = k.view;
      own = k.own;
      births = k.births;
      past = k.past;
      patches = k.patches;
      grows = joined_grows;
      new = new_at;
      confirms = k.confirms;
    })

  -- OWN PLACES GROW, and nothing else changes: a place Cell, Confirm, rename, unlink, rmdir
  pub record IsPlaced : Type 0 where
    pub hears : Hears
    pub view : p.view m ≡ p.view a
    pub held : (f : F) (q : P) → p.own a f ≡ Some q → (r : P) × (p.own m f ≡ Some r) × ((q ≡ r) ⊎ p.IsBelow (p.stamp q) (p.stamp r))
    pub gone : (f : F) → p.own a f ≡ None → p.own m f ≡ None
    pub births : SameBirths
    pub past : PastStays
    pub cells : SameCells
    pub patches : SamePatches
    pub confirms : (d c : F) → p.Confirms a d c → p.Confirms m d c

  placed_grows : IsPlaced → (f : F) (q r : P) → p.own a f ≡ Some q → p.own m f ≡ Some r → (q ≡ r) ⊎ p.IsBelow (p.stamp q) (p.stamp r)
  placed_grows k f q r h i =
      let n = k.held f q h in
      let e : n.0 ≡ r = some_same n.0 r (sym n.1 ∙ i) in
      let Q : P → Type 0 = (λ z. (q ≡ z) ⊎ p.IsBelow (p.stamp q) (p.stamp z)) in subst Q e n.2

  pub placed_first : IsPlaced → FirstPart p least a m heard
  placed_first k = record {
    views = same_view k.view;
    hears = k.hears;
    birth = k.births;
    past = k.past;
    own_grows = placed_grows k;
    cells_grow = λ d c q h held. stay_cell d c q (k.cells d c) h;
    taken = λ d c q r none held was in_ now. absurd (let e : None ≡ Some held.0 = sym (k.gone d none) ∙ held.1 in cc);
    patch_ends = λ d c q h. inl (stay_patch k.patches d c q h);
    let_go = λ f q h gone. absurd (let n = k.held f q h in let e : None ≡ Some n.0 = sym gone ∙ n.1 in cc);
    confirm_ends = λ d c q asks l none. inl (k.confirms d c asks);
    listed_new = λ d c q l none. inl (sym (k.cells d c) ∙ l.cell);
    enters = λ low up d c q l none. absurd (not_entered k.view low up);
  }

  -- A THING BECOMES HELD: Grant, mkdir, create, forget of a directory. A directory takes the places
  -- of its Patches as cells, for children that are held; no cell stood for a held child that was
  -- later than its own place, but one held back
  pub record IsBegun (thing : F) : Type 0 where
    pub hears : Hears
    pub view : p.view m ≡ p.view a
    pub was : p.own a thing ≡ None
    pub others : (f : F) → (f ≡ thing) ⊎ (p.own m f ≡ p.own a f)
    pub births : SameBirths
    pub past : PastStays
    pub cells : (d c : F) → ((d ≡ thing) × ((p.cell a d c ≡ None) × ((q : P) → p.cell m d c ≡ Some q → Holds p m c))) ⊎ (p.cell m d c ≡ p.cell a d c)
    pub patches : (d c : F) (q : P) → p.patch a d c ≡ Some q → AtLeast p (p.stamp q) (p.patch m d c) ⊎ IsToldAt p m d c (p.stamp q)
    pub confirms : (d c : F) → p.Confirms a d c → p.own m c ≡ None → p.Confirms m d c
    pub back : (c : F) (q : P) → p.own a c ≡ Some q → HasCell p m thing c ⊎ NoneLater p m c q

  module _ (thing : F) (k : IsBegun thing) where
    same_own : (f : F) (q : P) → p.own a f ≡ Some q → p.own m f ≡ p.own a f
    same_own f q h = elim (k.others f) [ inl e ↦ absurd (let x : None ≡ Some q = sym k.was ∙ sym (ap (λ z. p.own a z) e) ∙ h in cc) | inr e ↦ e ]

    kept_own : (f : F) (q r : P) → p.own a f ≡ Some q → p.own m f ≡ Some r → q ≡ r
    kept_own f q r h i = some_same q r (sym h ∙ sym (same_own f q h) ∙ i)

    begun_cells : (d c : F) (q : P) → p.cell a d c ≡ Some q → IsToldAt p m d c (p.stamp q)
    begun_cells d c q h = elim (k.cells d c) [ inl e ↦ absurd (let x : None ≡ Some q = sym e.1.0 ∙ h in cc) | inr e ↦ stay_cell d c q e h ]

    begun_taken : (d c : F) (q r : P) → p.own a d ≡ None → Holds p m d → p.own a c ≡ Some q → p.own m c ≡ Some r → HasCell p m d c ⊎ ((q ≡ r) × NoneLater p m c q)
    begun_taken d c q r none held was now = elim (k.others d) [
      | inr e ↦ absurd (let x : None ≡ Some held.0 = sym none ∙ sym e ∙ held.1 in cc)
      | inl e ↦ let Q : F → Type 0 = (λ z. HasCell p m z c ⊎ ((q ≡ r) × NoneLater p m c q)) in
          subst Q (sym e) (elim (k.back c q was) [ inl cell ↦ inl cell | inr back ↦ inr (kept_own c q r was now, back) ])
    ]

    begun_new : (d c : F) (q : P) → Lists p m d c q → p.own m c ≡ None → (p.cell a d c ≡ Some q) ⊎ p.Confirms m d c ⊎ IsJustTold p heard d c q
    begun_new d c q l none = elim (k.cells d c) [
      | inl e ↦ absurd (let h = e.1.1 q l.cell in let x : None ≡ Some h.0 = sym none ∙ h.1 in cc)
      | inr e ↦ inl (sym e ∙ l.cell)
    ]

    pub begun_first : FirstPart p least a m heard
    begun_first = record {
      views = same_view k.view;
      hears = k.hears;
      birth = k.births;
      past = k.past;
      own_grows = λ f q r h i. inl (kept_own f q r h i);
      cells_grow = λ d c q h held. begun_cells d c q h;
      taken = λ d c q r none held was in_ now. begun_taken d c q r none held was now;
      patch_ends = λ d c q h. elim (k.patches d c q h) [ inl t ↦ inl t | inr t ↦ inr (inl t) ];
      let_go = λ f q h gone. absurd (let x : None ≡ Some q = sym gone ∙ same_own f q h ∙ h in cc);
      confirm_ends = λ d c q asks l none. inl (k.confirms d c asks none);
      listed_new = begun_new;
      enters = λ low up d c q l none. absurd (not_entered k.view low up);
    }

  -- A THING IS LET GO, by the LeaveOk for its place
  pub record IsLetGo (thing : F) (born : ℕ) (place : P) : Type 0 where
    pub says : heard.says ≡ LeaveOk thing born place
    pub hears : Hears
    pub view : p.view m ≡ p.view a
    pub was : p.own a thing ≡ Some place
    pub now : p.own m thing ≡ None
    pub is_past : p.IsPast m thing (p.birth a thing)
    pub others : (f : F) → (f ≡ thing) ⊎ (p.own m f ≡ p.own a f)
    pub births : SameBirths
    pub past : PastStays
    pub cells : (d c : F) → ((d ≡ thing) × (p.cell m d c ≡ None)) ⊎ (p.cell m d c ≡ p.cell a d c)
    pub patches : SamePatches
    pub confirms : (d c : F) (q : P) → p.Confirms a d c → p.cell m d c ≡ Some q → p.Confirms m d c

  module _ (thing : F) (born : ℕ) (place : P) (k : IsLetGo thing born place) where
    not_thing : (f : F) → Holds p m f → f ≡ thing → ⊥
    not_thing f h e = let x : None ≡ Some h.0 = sym k.now ∙ sym (ap (λ z. p.own m z) e) ∙ h.1 in cc

    left_own : (f : F) (q r : P) → p.own a f ≡ Some q → p.own m f ≡ Some r → q ≡ r
    left_own f q r h i = elim (k.others f) [ inl e ↦ absurd (not_thing f (r, i) e) | inr e ↦ some_same q r (sym h ∙ sym e ∙ i) ]

    left_cells : (d c : F) (q : P) → p.cell a d c ≡ Some q → Holds p m d → IsToldAt p m d c (p.stamp q)
    left_cells d c q h held = elim (k.cells d c) [ inl e ↦ absurd (not_thing d held e.0) | inr e ↦ stay_cell d c q e h ]

    left_taken : (d : F) → p.own a d ≡ None → Holds p m d → ⊥
    left_taken d none held = elim (k.others d) [ inl e ↦ not_thing d held e | inr e ↦ let x : None ≡ Some held.0 = sym none ∙ sym e ∙ held.1 in cc ]

    abbrev IsGone : F → P → Type 0
    IsGone f q = p.IsPast m f (p.birth a f) × ((n : ℕ) × (heard.says ≡ LeaveOk f n q))

    left_thing : (q : P) → p.own a thing ≡ Some q → IsGone thing q
    left_thing q h =
        let e : place ≡ q = some_same place q (sym k.was ∙ h) in
        let Q : P → Type 0 = (λ z. heard.says ≡ LeaveOk thing born z) in (k.is_past, (born, subst Q e k.says))

    left_gone : (f : F) (q : P) → p.own a f ≡ Some q → p.own m f ≡ None → IsGone f q
    left_gone f q h gone = elim (k.others f) [
      | inr e ↦ absurd (let x : None ≡ Some q = sym gone ∙ e ∙ h in cc)
      | inl e ↦ let Q : F → Type 0 = (λ z. p.own a z ≡ Some q → IsGone z q) in subst Q (sym e) (left_thing q) h
    ]

    pub gone_first : FirstPart p least a m heard
    gone_first = record {
      views = same_view k.view;
      hears = k.hears;
      birth = k.births;
      past = k.past;
      own_grows = λ f q r h i. inl (left_own f q r h i);
      cells_grow = left_cells;
      taken = λ d c q r none held was in_ now. absurd (left_taken d none held);
      patch_ends = λ d c q h. inl (stay_patch k.patches d c q h);
      let_go = left_gone;
      confirm_ends = λ d c q asks l none. inl (k.confirms d c q asks l.cell);
      listed_new = λ d c q l none. elim (k.cells d c) [ inl e ↦ absurd (let x : None ≡ Some q = sym e.1 ∙ l.cell in cc) | inr e ↦ inl (sym e ∙ l.cell) ];
      enters = λ low up d c q l none. absurd (not_entered k.view low up);
    }

  -- A VIEW IS ENTERED: of a removal, where each child that is listed and not held is asked after,
  -- or of another change
  pub record IsEntered : Type 0 where
    pub hears : Hears
    pub view : p.view a ≤ p.view m
    pub own : SameOwn
    pub cells : SameCells
    pub patches : SamePatches
    pub births : SameBirths
    pub past : PastStays
    pub confirms : (d c : F) → p.Confirms a d c → p.Confirms m d c
    pub asks : p.view a < least → least ≤ p.view m → (d c : F) (q : P) → Lists p m d c q → p.own m c ≡ None → p.Confirms m d c

  pub entered_first : IsEntered → FirstPart p least a m heard
  entered_first k = record {
    views = k.view;
    hears = k.hears;
    birth = k.births;
    past = k.past;
    own_grows = stay_own k.own;
    cells_grow = λ d c q h held. stay_cell d c q (k.cells d c) h;
    taken = λ d c q r none held was in_ now. absurd (none_taken k.own d none held);
    patch_ends = λ d c q h. inl (stay_patch k.patches d c q h);
    let_go = λ f q h gone. absurd (none_gone k.own f q h gone);
    confirm_ends = λ d c q asks l none. inl (k.confirms d c asks);
    listed_new = λ d c q l none. inl (sym (k.cells d c) ∙ l.cell);
    enters = k.asks;
  }
