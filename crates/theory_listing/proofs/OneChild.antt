-- A small protocol: the root and one child, which has one place, or is not held.
use Rattle.std.proofs.Common.{ℕ, ◌≡◌, ◌≢◌, ◌≤◌, ◌<◌, ◌⊎◌, cond, Bool, true, false, List, All, Option, None, Some, refl, sym, subst, ap, ◌∙◌, inl, inr, arith}
use Rattle.theory_listing.specs.Protocol.{Protocol, IsOrdered}
use Rattle.theory_listing.specs.World.{Way, Saying, Message}
use Rattle.theory_listing.specs.World.Saying.{Told, LeaveOk, Other}
use Rattle.theory_listing.specs.Rule.{Holds, HasCell, IsToldAt, IsSettled, MaySend, MayStep}
use Rattle.theory_listing.proofs.Quiet.{some_same}

pub data Thing : Type 0 where
  Root : Thing
  Child : Thing

pub data Place : Type 0 where
  Top : Place
  Spot : Place

-- has: the child is held. lists: the root lists it. past: it was dropped. asks: a Confirm is owed
pub record Node : Type 0 where
  pub has : Bool
  pub lists : Bool
  pub past : Bool
  pub asks : Bool
  pub view : ℕ

abbrev pub stamp : Place → ℕ
stamp Top = 0
stamp Spot = 1

abbrev pub at : Thing → Place
at Root = Top
at Child = Spot

abbrev pub spot_if : Bool → Option Place
spot_if t = cond t (Some Spot) None

abbrev pub own : Node → Thing → Option Place
own a Root = Some Top
own a Child = spot_if a.has

abbrev pub cell : Node → Thing → Thing → Option Place
cell a Root Child = spot_if a.lists
cell a Root Root = None
cell a Child c = None

abbrev pub Asks : Node → Thing → Thing → Type 0
Asks a Root Child = a.asks ≡ true
Asks a Root Root = ⊥
Asks a Child c = ⊥

abbrev pub Past : Node → Thing → ℕ → Type 0
Past a Root n = ⊥
Past a Child n = (a.past ≡ true) × (n ≡ 1)

abbrev pub protocol : Protocol Node Thing Place ℕ
protocol = record {
  root = Root;
  parent = λ q. Root;
  IsLive = λ q. Unit {0};
  stamp = stamp;
  IsBelow = λ a b. a < b;
  own = own;
  birth = λ a f. 1;
  IsPast = Past;
  cell = cell;
  patch = λ a d c. None;
  Confirms = Asks;
  IsBack = λ a f q. ⊥;
  view = λ a. a.view;
}

abbrev pub node : Bool → Bool → Bool → Bool → ℕ → Node
node has lists past asks view = record { has = has; lists = lists; past = past; asks = asks; view = view }

pub ordered : IsOrdered protocol
ordered = record { further = λ a b c h k. omega arith; never = λ a h. omega arith }

-- where it stands, there is but one place, and the fact that was tested
pub spot_is : (t : Bool) (q : Place) → spot_if t ≡ Some q → (t ≡ true) × (q ≡ Spot)
spot_is true q h = (refl, sym (some_same Spot q h))
spot_is false q h = absurd (let e : None ≡ Some q = h in cc)

pub own_is : (a : Node) (f : Thing) (q : Place) → own a f ≡ Some q → q ≡ at f
own_is a Root q h = sym (some_same Top q h)
own_is a Child q h = (spot_is a.has q h).1

pub cell_is : (a : Node) (d c : Thing) (q : Place) → cell a d c ≡ Some q → (d ≡ Root) × (c ≡ Child) × (a.lists ≡ true) × (q ≡ Spot)
cell_is a Root Child q h = let t = spot_is a.lists q h in (refl, refl, t.0, t.1)
cell_is a Root Root q h = absurd (let e : None ≡ Some q = h in cc)
cell_is a Child c q h = absurd (let e : None ≡ Some q = h in cc)

pub held_child : (a : Node) (c : Thing) → c ≢ Root → Holds protocol a c → a.has ≡ true
held_child a Root inner h = absurd (inner refl)
held_child a Child inner h = (spot_is a.has h.0 h.1).0

-- a child that is held is listed, and its birth is not past
pub record IsFine (a : Node) : Type 0 where
  pub lists : a.has ≡ true → a.lists ≡ true
  pub fresh : a.has ≡ true → a.past ≡ false

pub listed_child : (a : Node) (c : Thing) → c ≢ Root → a.lists ≡ true → cell a Root c ≡ Some Spot
listed_child a Root inner h = absurd (inner refl)
listed_child a Child inner h = ap spot_if h

pub past_child : (a : Node) (f : Thing) (n : ℕ) → IsFine a → Holds protocol a f → Past a f n → ⊥
past_child a Root n k h past = absurd past
past_child a Child n k h past = let e : true ≡ false = sym past.0 ∙ k.fresh (spot_is a.has h.0 h.1).0 in cc

pub settled : (a : Node) → IsFine a → IsSettled protocol a
settled a k = record {
  cells = λ d c q h. let e = (cell_is a d c q h).0 in let Q : Thing → Type 0 = Holds protocol a in subst Q (sym e) (Top, refl);
  passing = λ d c q r inner h i. inl (let e = (cell_is a d c r i).1 in let f = (cell_is a d c r i).3 in own_is a c q h ∙ ap at e ∙ sym f);
  own_parent = λ d c q h i held. let Q : Thing → Type 0 = (λ z. HasCell protocol a z c) in subst Q i.parent (Spot, listed_child a c i.inner (k.lists (held_child a c i.inner (q, h))));
  patch_of = λ d c q h i. absurd (let e : None ≡ Some q = h in cc);
  not_past = λ f n h e past. past_child a f n k h past;
}

-- what a step may do
pub record IsChange (least : ℕ) (a b : Node) (heard : Message Thing Place ℕ) : Type 0 where
  pub fine : IsFine b
  pub views : a.view ≤ b.view
  pub hears : (heard.says ≡ Other) ⊎ (heard.view ≡ a.view)
  pub lists : a.lists ≡ true → b.lists ≡ true
  pub past : a.past ≡ true → b.past ≡ true
  pub let_go : a.has ≡ true → b.has ≡ false → (b.past ≡ true) × (heard.says ≡ LeaveOk Child 1 Spot)
  pub asks : a.asks ≡ true → b.has ≡ false → (b.asks ≡ true) ⊎ ((way : Way) × (heard.says ≡ Told way Root Child Spot))
  pub new : b.lists ≡ true → b.has ≡ false → (a.lists ≡ true) ⊎ (b.asks ≡ true) ⊎ ((way : Way) × (heard.says ≡ Told way Root Child Spot))
  pub enters : a.view < least → b.lists ≡ true → b.has ≡ false → b.asks ≡ true

pub no_spot : (t : Bool) → spot_if t ≡ None → t ≡ false
no_spot true h = absurd (let e : Some Spot ≡ None = h in cc)
no_spot false h = refl

pub apart : Top ≡ Spot → ⊥
apart h = cc

pub no_later : (q r : Place) → q ≡ r → stamp q < stamp r → ⊥
no_later q r e low = let same : stamp q ≡ stamp r = ap stamp e in omega arith

module _ (least : ℕ) (a b : Node) (heard : Message Thing Place ℕ) (k : IsChange least a b heard) where
  pub one_place : (f : Thing) (q r : Place) → own a f ≡ Some q → own b f ≡ Some r → q ≡ r
  one_place f q r h i = own_is a f q h ∙ sym (own_is b f r i)

  pub cells_grow : (d c : Thing) (q : Place) → cell a d c ≡ Some q → IsToldAt protocol b d c (stamp q)
  cells_grow Root Child q h = let t = spot_is a.lists q h in (Spot, ap spot_if (k.lists t.0), inl (ap stamp t.1))
  cells_grow Root Root q h = absurd (let e : None ≡ Some q = h in cc)
  cells_grow Child c q h = absurd (let e : None ≡ Some q = h in cc)

  pub past_on : (f : Thing) (n : ℕ) → Past a f n → Past b f n
  past_on Root n h = h
  past_on Child n h = (k.past h.0, h.1)

  pub let_go : (f : Thing) (q : Place) → own a f ≡ Some q → own b f ≡ None → Past b f 1 × ((n : ℕ) × (heard.says ≡ LeaveOk f n q))
  let_go Root q h gone = absurd (let e : Some Top ≡ None = gone in cc)
  let_go Child Spot h gone = let g = k.let_go (spot_is a.has Spot h).0 (no_spot b.has gone) in ((g.0, refl), (1, g.1))
  let_go Child Top h gone = absurd (apart (spot_is a.has Top h).1)

  pub confirm_ends : (d c : Thing) (q : Place) → Asks a d c → cell b d c ≡ Some q → own b c ≡ None → Asks b d c ⊎ ((way : Way) × (heard.says ≡ Told way d c q))
  confirm_ends Root Child Spot asks l gone = k.asks asks (no_spot b.has gone)
  confirm_ends Root Child Top asks l gone = absurd (apart (spot_is b.lists Top l).1)
  confirm_ends Root Root q asks l gone = absurd asks
  confirm_ends Child c q asks l gone = absurd asks

  pub was_listed : (a.lists ≡ true) → cell a Root Child ≡ Some Spot
  was_listed h = ap spot_if h

  pub new_at : (d c : Thing) (q : Place) → cell b d c ≡ Some q → own b c ≡ None → (cell a d c ≡ Some q) ⊎ Asks b d c ⊎ ((way : Way) × (heard.says ≡ Told way d c q))
  new_at Root Child Spot l gone = elim (k.new (spot_is b.lists Spot l).0 (no_spot b.has gone)) [ inl h ↦ inl (was_listed h) | inr r ↦ inr r ]
  new_at Root Child Top l gone = absurd (apart (spot_is b.lists Top l).1)
  new_at Root Root q l gone = absurd (let e : None ≡ Some q = l in cc)
  new_at Child c q l gone = absurd (let e : None ≡ Some q = l in cc)

  pub enters : a.view < least → (d c : Thing) (q : Place) → cell b d c ≡ Some q → own b c ≡ None → Asks b d c
  enters low Root Child q l gone = k.enters low (spot_is b.lists q l).0 (no_spot b.has gone)
  enters low Root Root q l gone = absurd (let e : None ≡ Some q = l in cc)
  enters low Child c q l gone = absurd (let e : None ≡ Some q = l in cc)

  pub by_rule : (sent : List (Saying Thing Place ℕ)) → All (MaySend protocol b) sent → MayStep protocol least a b heard sent
  by_rule sent sends = record {
    settled = settled b k.fine;
    views = k.views;
    hears = k.hears;
    birth = λ f h i. refl;
    past = past_on;
    own_grows = λ f q r h i. inl (one_place f q r h i);
    cells_grow = λ d c q h i. cells_grow d c q h;
    taken = λ d c q r none now was in_ is low. absurd (no_later q r (one_place c q r was is) low);
    patch_begun = λ d c q r was in_ is low none. absurd (no_later q r (one_place c q r was is) low);
    patch_ends = λ d c q h. absurd (let e : None ≡ Some q = h in cc);
    let_go = let_go;
    confirm_ends = λ d c q asks l gone. confirm_ends d c q asks l.cell gone;
    listed_new = λ d c q l gone. new_at d c q l.cell gone;
    enters = λ low up d c q l gone. enters low d c q l.cell gone;
    sends = sends;
  }
