-- The premises can be met: two servers, the root and one child. Server 1 makes the child and tells
-- it, server 2 lists it, holds it, and drops it with the leave of server 1. Then server 3 is
-- removed, server 2 asks after the child, and server 1 answers. Then nothing is owed, and the child
-- is listed at both, though only server 1 holds it.
use Rattle.std.proofs.Common.{ℕ, ◌≡◌, ◌≤◌, ◌<◌, ◌==◌, ◌||◌, ◌⊎◌, cond, Bool, true, false, List, [], ◌∷◌, take, All, None, Some, refl, sym, subst, ap, ◌∙◌, inl, inr, arith}
use Rattle.std.proofs.lemmas.List.Elements.{All-nil, All-cons}
use Rattle.std.proofs.lemmas.Bool.Decides.{eqb_tells}
use Rattle.theory_listing.specs.Protocol.{Lists}
use Rattle.theory_listing.specs.World.{Saying, Message, World, Among, after, IsCurrent}
use Rattle.theory_listing.specs.World.Way.{SureCell, PlaceIs}
use Rattle.theory_listing.specs.World.Saying.{Told, LeaveOk, Other}
use Rattle.theory_listing.specs.Rule.{MaySend, IsSafeDrop}
use Rattle.theory_listing.specs.Runs.{Event, run, IsStep, IsRun, IsStart}
use Rattle.theory_listing.specs.Runs.Event.{Step, Remove}
use Rattle.theory_listing.specs.Laws.{IsQuiet, IsListedOnly}
use Rattle.theory_listing.proofs.Somewhere.{here}
use Rattle.theory_listing.proofs.Worlds.{runs_list}
use Rattle.theory_listing.proofs.OneChild.{Asks, IsChange, IsFine, Node, at, by_rule, cell, cell_is, no_later, no_spot, node, ordered, own, own_is, protocol, settled, spot_if, spot_is, Thing, Place}
use Rattle.theory_listing.proofs.OneChild.Thing.{Root, Child}
use Rattle.theory_listing.proofs.OneChild.Place.{Top, Spot}

-- THE RUN
abbrev none : Node
none = node false false false false 0

abbrev start : World Node Thing Place ℕ
start = record { nodes = λ k. none; live = λ k. (k == 1) || (k == 2) || (k == 3); least = 0; messages = [] }

abbrev silence : Message Thing Place ℕ
silence = record { sender = 0; view = 0; says = Other }

abbrev message : ℕ → ℕ → Saying Thing Place ℕ → Message Thing Place ℕ
message s view x = record { sender = s; view = view; says = x }

abbrev events : List (Event Node Thing Place ℕ)
events =
    Step 1 (node true true false false 0) silence (Told SureCell Root Child Spot ∷ [])
    ∷ Step 2 (node false true false false 0) (message 1 0 (Told SureCell Root Child Spot)) []
    ∷ Step 2 (node true true false false 0) silence []
    ∷ Step 1 (node true true false false 0) silence (LeaveOk Child 1 Spot ∷ [])
    ∷ Step 2 (node false true true false 0) (message 1 0 (LeaveOk Child 1 Spot)) []
    ∷ Remove 3 1
    ∷ Step 1 (node true true false false 1) silence []
    ∷ Step 2 (node false true true true 1) silence []
    ∷ Step 1 (node true true false false 1) silence (Told PlaceIs Root Child Spot ∷ [])
    ∷ Step 2 (node false true true false 1) (message 1 1 (Told PlaceIs Root Child Spot)) []
    ∷ []

off : false ≡ true → ⊥
off h = cc

-- a change of a server that lets nothing go, newly lists nothing that it does not hold, and ends no
-- Confirm
calm : (least : ℕ) (a b : Node) → IsFine b → a.view ≤ b.view → (a.lists ≡ true → b.lists ≡ true) → (a.past ≡ true → b.past ≡ true) → (a.has ≡ true → b.has ≡ true) → a.asks ≡ false
    → (b.lists ≡ true → b.has ≡ false → (a.lists ≡ true) ⊎ (b.asks ≡ true)) → (a.view < least → b.lists ≡ true → b.has ≡ false → b.asks ≡ true) → IsChange least a b silence
calm least a b fine views lists past has asks new enters = record {
  fine = fine;
  views = views;
  hears = inl refl;
  lists = lists;
  past = past;
  let_go = λ h gone. absurd (off (sym gone ∙ has h));
  asks = λ h gone. absurd (off (sym asks ∙ h));
  new = λ l gone. elim (new l gone) [ inl h ↦ inl h | inr h ↦ inr (inl h) ];
  enters = enters;
}

fine_holder : (view : ℕ) → IsFine (node true true false false view)
fine_holder view = record { lists = λ h. refl; fresh = λ h. refl }

fine_other : (lists past asks : Bool) (view : ℕ) → IsFine (node false lists past asks view)
fine_other lists past asks view = record { lists = λ h. absurd (off h); fresh = λ h. absurd (off h) }

nothing : (b : Node) → All (MaySend protocol b) []
nothing b = All-nil (MaySend protocol b)

one : (b : Node) (x : Saying Thing Place ℕ) → MaySend protocol b x → All (MaySend protocol b) (x ∷ [])
one b x h = All-cons (MaySend protocol b) x [] h (nothing b)

kept_all : (a b : Node) → (a.has ≡ true → b.has ≡ true) → (f : Thing) (q : Place) → own a f ≡ Some q → own b f ≡ None → ⊥
kept_all a b has Root q h gone = let e : Some Top ≡ None = gone in cc
kept_all a b has Child q h gone = off (sym (no_spot b.has gone) ∙ has (spot_is a.has q h).0)

-- a step in which nothing is let go
calm_step : (w : World Node Thing Place ℕ) (s : ℕ) (b : Node) (heard : Message Thing Place ℕ) (sent : List (Saying Thing Place ℕ)) → w.live s ≡ true → (heard.says ≡ Other) ⊎ Among heard w.messages
    → IsChange w.least (w.nodes s) b heard → ((w.nodes s).has ≡ true → b.has ≡ true) → All (MaySend protocol b) sent → IsStep protocol w s b heard sent
calm_step w s b heard sent live said change has sends = record {
  live = live;
  said = said;
  rule = by_rule w.least (w.nodes s) b heard change sent sends;
  safe = λ up f q was gone. absurd (kept_all (w.nodes s) b has f q was gone);
}

-- the worlds before each event
abbrev world : ℕ → World Node Thing Place ℕ
world k = run protocol start (take k events)

step_1 : IsStep protocol (world 0) 1 (node true true false false 0) silence (Told SureCell Root Child Spot ∷ [])
step_1 = calm_step (world 0) 1 (node true true false false 0) silence (Told SureCell Root Child Spot ∷ []) refl (inl refl)
    (calm 0 none (node true true false false 0) (fine_holder 0) (omega arith) (λ h. refl) (λ h. h) (λ h. refl) refl (λ l gone. absurd (off (sym gone))) (λ low. absurd (omega arith)))
    (λ h. refl)
    (one (node true true false false 0) (Told SureCell Root Child Spot) (refl, λ h. off h))

step_2 : IsStep protocol (world 1) 2 (node false true false false 0) (message 1 0 (Told SureCell Root Child Spot)) []
step_2 = calm_step (world 1) 2 (node false true false false 0) (message 1 0 (Told SureCell Root Child Spot)) [] refl (inr (inl refl))
    (record {
      fine = fine_other true false false 0;
      views = omega arith;
      hears = inr refl;
      lists = λ h. refl;
      past = λ h. h;
      let_go = λ h gone. absurd (off h);
      asks = λ h gone. absurd (off h);
      new = λ l gone. inr (inr (SureCell, refl));
      enters = λ low. absurd (omega arith);
    })
    (λ h. absurd (off h)) (nothing (node false true false false 0))

step_3 : IsStep protocol (world 2) 2 (node true true false false 0) silence []
step_3 = calm_step (world 2) 2 (node true true false false 0) silence [] refl (inl refl)
    (calm 0 (node false true false false 0) (node true true false false 0) (fine_holder 0) (omega arith) (λ h. refl) (λ h. h) (λ h. refl) refl (λ l gone. inl refl) (λ low. absurd (omega arith)))
    (λ h. refl) (nothing (node true true false false 0))

step_4 : IsStep protocol (world 3) 1 (node true true false false 0) silence (LeaveOk Child 1 Spot ∷ [])
step_4 = calm_step (world 3) 1 (node true true false false 0) silence (LeaveOk Child 1 Spot ∷ []) refl (inl refl)
    (calm 0 (node true true false false 0) (node true true false false 0) (fine_holder 0) (omega arith) (λ h. refl) (λ h. h) (λ h. refl) refl (λ l gone. inl refl) (λ low. absurd (omega arith)))
    (λ h. refl)
    (one (node true true false false 0) (LeaveOk Child 1 Spot) (refl, λ d in_. inl refl))

-- the drop: server 1 holds the child, and no directory goes
safe_drop : (f : Thing) (q : Place) → own (node true true false false 0) f ≡ Some q → own (node false true true false 0) f ≡ None
    → IsSafeDrop protocol (world 4) 2 (node true true false false 0) (message 1 0 (LeaveOk Child 1 Spot)) f
safe_drop Root q was gone = absurd (let e : Some Top ≡ None = gone in cc)
safe_drop Child q was gone = record { other = λ e. absurd (omega arith); live = refl; holds = (Spot, refl); birth = λ n r e. (let x : LeaveOk Child 1 Spot ≡ LeaveOk Child n r = e in cc); cells = λ c r h. absurd (let e : None ≡ Some r = h in cc) }

step_5 : IsStep protocol (world 4) 2 (node false true true false 0) (message 1 0 (LeaveOk Child 1 Spot)) []
step_5 = record {
  live = refl;
  said = inr (inl refl);
  rule = by_rule 0 (node true true false false 0) (node false true true false 0) (message 1 0 (LeaveOk Child 1 Spot))
      (record {
        fine = fine_other true true false 0;
        views = omega arith;
        hears = inr refl;
        lists = λ h. refl;
        past = λ h. refl;
        let_go = λ h gone. (refl, refl);
        asks = λ h gone. absurd (off h);
        new = λ l gone. inl refl;
        enters = λ low. absurd (omega arith);
      }) [] (nothing (node false true true false 0));
  safe = λ up f q was gone. safe_drop f q was gone;
}

-- nobody has entered the removal
view_after : (nodes : ℕ → Node) (s : ℕ) (b : Node) → ((k : ℕ) → (nodes k).view < 1) → b.view < 1 → (k : ℕ) → (after nodes s b k).view < 1
view_after nodes s b old new k = elim (here nodes s b k) [
  | inl e ↦ let Q : Node → Type 0 = (λ z. z.view < 1) in subst Q (sym e.1) new
  | inr e ↦ let Q : Node → Type 0 = (λ z. z.view < 1) in subst Q (sym e.1) (old k)
]

removal : (k : ℕ) → ((world 5).nodes k).view < 1
removal = view_after (world 4).nodes 2 (node false true true false 0)
    (view_after (world 3).nodes 1 (node true true false false 0)
    (view_after (world 2).nodes 2 (node true true false false 0)
    (view_after (world 1).nodes 2 (node false true false false 0) (view_after (world 0).nodes 1 (node true true false false 0) (λ k. omega arith) (omega arith)) (omega arith))
    (omega arith))
    (omega arith))
    (omega arith)

step_7 : IsStep protocol (world 6) 1 (node true true false false 1) silence []
step_7 = calm_step (world 6) 1 (node true true false false 1) silence [] refl (inl refl)
    (calm 1 (node true true false false 0) (node true true false false 1) (fine_holder 1) (omega arith) (λ h. refl) (λ h. h) (λ h. refl) refl (λ l gone. inl refl) (λ low l gone. absurd (off (sym gone))))
    (λ h. refl) (nothing (node true true false false 1))

step_8 : IsStep protocol (world 7) 2 (node false true true true 1) silence []
step_8 = calm_step (world 7) 2 (node false true true true 1) silence [] refl (inl refl)
    (calm 1 (node false true true false 0) (node false true true true 1) (fine_other true true true 1) (omega arith) (λ h. refl) (λ h. refl) (λ h. absurd (off h)) refl (λ l gone. inl refl) (λ low l gone. refl))
    (λ h. absurd (off h)) (nothing (node false true true true 1))

step_9 : IsStep protocol (world 8) 1 (node true true false false 1) silence (Told PlaceIs Root Child Spot ∷ [])
step_9 = calm_step (world 8) 1 (node true true false false 1) silence (Told PlaceIs Root Child Spot ∷ []) refl (inl refl)
    (calm 1 (node true true false false 1) (node true true false false 1) (fine_holder 1) (omega arith) (λ h. refl) (λ h. h) (λ h. refl) refl (λ l gone. inl refl) (λ low. absurd (omega arith)))
    (λ h. refl)
    (one (node true true false false 1) (Told PlaceIs Root Child Spot) (λ in_. inl refl))

step_10 : IsStep protocol (world 9) 2 (node false true true false 1) (message 1 1 (Told PlaceIs Root Child Spot)) []
step_10 = calm_step (world 9) 2 (node false true true false 1) (message 1 1 (Told PlaceIs Root Child Spot)) [] refl (inr (inl refl))
    (record {
      fine = fine_other true true false 1;
      views = omega arith;
      hears = inr refl;
      lists = λ h. refl;
      past = λ h. refl;
      let_go = λ h gone. absurd (off h);
      asks = λ h gone. inr (PlaceIs, refl);
      new = λ l gone. inl refl;
      enters = λ low. absurd (omega arith);
    })
    (λ h. absurd (off h)) (nothing (node false true true false 1))

no_cell : (d c : Thing) → cell none d c ≡ None
no_cell Root Child = refl
no_cell Root Root = refl
no_cell Child c = refl

is_start : IsStart protocol start
is_start = record { silent = refl; settled = λ s. settled none (fine_other false false false 0); empty = λ s d c. no_cell d c }

-- A RUN BY THE RULE, from a start
is_run : IsRun protocol start events
is_run = (step_1, (step_2, (step_3, (step_4, (step_5, (removal, (step_7, (step_8, (step_9, (step_10, tt))))))))))

-- its end
abbrev end : World Node Thing Place ℕ
end = run protocol start events

none_live : (a b c : Bool) → a ≡ false → b ≡ false → c ≡ false → cond c false (a || b || c) ≡ true → ⊥
none_live true b c e f g h = off (sym e)
none_live false true c e f g h = off (sym f)
none_live false false true e f g h = off (sym g)
none_live false false false e f g h = off h

at_two : (A : ℕ → Type 0) → A 1 → A 2 → (s : ℕ) → end.live s ≡ true → A s
at_two A one two s live = elim (eqb_tells s 1) [
  | inl e ↦ subst A (sym e.1) one
  | inr e ↦ elim (eqb_tells s 2) [
    | inl f ↦ subst A (sym f.1) two
    | inr f ↦ elim (eqb_tells s 3) [
      | inl g ↦ absurd (let P : Bool → Type 0 = (λ t. cond t false ((s == 1) || (s == 2) || t) ≡ true) in off (subst P g.0 live))
      | inr g ↦ absurd (none_live (s == 1) (s == 2) (s == 3) e.0 f.0 g.0 live)
    ]
  ]
]

no_asks : (a : Node) → a.asks ≡ false → (d c : Thing) → Asks a d c → ⊥
no_asks a e Root Child h = off (sym e ∙ h)
no_asks a e Root Root h = absurd h
no_asks a e Child c h = absurd h

one_cell : (a b : Node) → a.lists ≡ b.lists → (d c : Thing) → cell a d c ≡ cell b d c
one_cell a b e Root Child = ap spot_if e
one_cell a b e Root Root = refl
one_cell a b e Child c = refl

is_quiet : IsQuiet protocol end
is_quiet = record {
  views = at_two (IsCurrent protocol end) (record { live = refl; view = omega arith }) (record { live = refl; view = omega arith });
  confirms = λ s d c live. no_asks (end.nodes s) (at_two (λ k. (end.nodes k).asks ≡ false) refl refl s live) d c;
  patches = λ s d c live. refl;
  filled = λ s f q live own alive inner. (Top, refl);
  passed = λ s d f q r live h i low. (let t = cell_is (end.nodes s) d f r i in no_later q r (own_is (end.nodes s) f q h ∙ ap at t.1 ∙ sym t.3) low);
  agree = λ s t f q r one two h i. own_is (end.nodes s) f q h ∙ sym (own_is (end.nodes t) f r i);
  same_cells = λ s t d c one two h i. one_cell (end.nodes s) (end.nodes t) (at_two (λ k. (end.nodes k).lists ≡ true) refl refl s one ∙ sym (at_two (λ k. (end.nodes k).lists ≡ true) refl refl t two)) d c;
}

listed_only : IsListedOnly protocol end
listed_only = runs_list protocol ordered start events is_start is_run is_quiet

-- and it says something: server 2 lists the child and does not hold it
listed : Lists protocol (end.nodes 2) Root Child Spot
listed = record { cell = refl; is_in = record { live = tt; parent = refl; inner = λ e. cc } }

not_held : own (end.nodes 2) Child ≡ None
not_held = refl
