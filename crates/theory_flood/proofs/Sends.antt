-- What a server may send.
use Rattle.std.proofs.Common.{ℕ, ◌≡◌, List, [], ◌∷◌, ◌++◌, Option, Some, refl, sym, ap, ◌∙◌, inl, inr}
use Rattle.std.proofs.lemmas.List.Elements.{All-append, All-nil, All-cons}
use Rattle.pg_edges.specs.declared.key.Key.{Key}
use Rattle.theory_flood.specs.Promises.{Saying}
use Rattle.theory_flood.specs.Promises.Saying.{CellFor, AckTo}
use Rattle.theory_flood.specs.Server.{Replica, Slot, HasCell, Holds, HoldsAll}
use Rattle.theory_flood.specs.Protocol.{Protocol, tag, Covers}
use Rattle.theory_flood.proofs.Servers.{some_same, slot_of_parts, has_parts}
use Rattle.theory_flood.proofs.Steps.{IsSamePlace, HasSoundTags, May, AllMay}

module _ {C : Type 0} where
  -- what a replica has, it holds
  pub own_held : (IsUpTo : C → C → Type 0) → ((c : C) → IsUpTo c c) → (cells : Key → Option C) (key : Key) (c : C) → cells key ≡ Some c → Holds IsUpTo cells c
  own_held IsUpTo same cells key c is = record { key = key; cell = c; is = is; upto = same c }

  pub all_held : (IsUpTo : C → C → Type 0) → ((c : C) → IsUpTo c c) → (cells : Key → Option C) → HoldsAll IsUpTo cells cells
  all_held IsUpTo same cells key c is = own_held IsUpTo same cells key c is

  pub HoldsAll-trans : (IsUpTo : C → C → Type 0) → ((a b c : C) → IsUpTo a b → IsUpTo b c → IsUpTo a c) → (f g h : Key → Option C) → HoldsAll IsUpTo f g → HoldsAll IsUpTo g h → HoldsAll IsUpTo f h
  HoldsAll-trans IsUpTo further f g h one two key c is =
      let a = one key c is in
      let b = two a.key a.cell a.is in
      record { key = b.key; cell = b.cell; is = b.is; upto = further c a.cell b.cell a.upto b.upto }

module _ {N M C : Type 0} (p : Protocol N M C) where
  -- a tag stands at one slot with a cell
  one_slot : (b : N) (q r : Slot) (y : Replica C) (c d : C) → (p.see b).replicas q.file ≡ Some y → y.birth ≡ q.own → y.cells q.key ≡ Some c → IsSamePlace r q → HasCell (p.see b) r d → (r ≡ q) × (d ≡ c)
  one_slot b q r y c d is own cell same h =
      let t = has_parts (p.see b) r d y (ap (p.see b).replicas same.0 ∙ is) h in (
        slot_of_parts r.file q.file r.own q.own r.peer q.peer r.birth q.birth r.key q.key same.0 (sym t.0 ∙ own) same.1 same.2 same.3,
        some_same d c (sym t.2 ∙ ap y.cells same.3 ∙ cell),
      )

  -- the present cell of an unacknowledged key, under its present tag, whichever event drew it
  pub cell_may : (s : ℕ) (a b : N) (heard : Saying Slot C) (q : Slot) (y : Replica C) (c : C) (g : ℕ) → HasSoundTags p b → (p.see b).replicas q.file ≡ Some y → y.birth ≡ q.own → y.cells q.key ≡ Some c → tag p b q ≡ Some g
      → May p s a b heard (CellFor s q g c)
  cell_may s a b heard q y c g sound is own cell stands = (refl, sound.below q g stands, λ r d h t. one_slot b q r y c d is own cell (sound.single r q g t stands) h)

  -- the held replica covers what it holds and took
  pub held_covers : (b : N) (q : Slot) (c : C) (y : Replica C) → (p.see b).replicas q.file ≡ Some y → y.birth ≡ q.birth → Holds p.IsUpTo y.cells c → p.Took b q.file q.birth c → Covers p b q c
  held_covers b q c y is other holds took = inl (record { replica = y; is = is; other = other; holds = holds }, took)

  -- the answer to the cell that was heard in this event
  pub answer_may : (s : ℕ) (a b : N) (owner : ℕ) (q : Slot) (g : ℕ) (c : C) → q.peer ≡ s → Covers p b q c → May p s a b (CellFor owner q g c) (AckTo owner q g)
  answer_may s a b owner q g c here covers = (q, c, here, inl refl, covers)

  -- the answer to a cell that was heard earlier, also where it names other births than that cell
  pub late_answer_may : (s : ℕ) (a b : N) (heard : Saying Slot C) (owner : ℕ) (q r : Slot) (g : ℕ) (c : C) → q.peer ≡ s → p.Noted a (CellFor owner q g c) → Covers p b q c → May p s a b heard (AckTo owner r g)
  late_answer_may s a b heard owner q r g c here noted covers = (q, c, here, inr noted, covers)

  -- ---- lists of what is sent

  pub none_sent : (s : ℕ) (a b : N) (heard : Saying Slot C) → AllMay p s a b heard []
  none_sent s a b heard = All-nil (λ m. May p s a b heard (p.says m))

  pub one_sent : (s : ℕ) (a b : N) (heard : Saying Slot C) (m : M) (ms : List M) → May p s a b heard (p.says m) → AllMay p s a b heard ms → AllMay p s a b heard (m ∷ ms)
  one_sent s a b heard m ms h hs = All-cons (λ m. May p s a b heard (p.says m)) m ms h hs

  pub both_sent : (s : ℕ) (a b : N) (heard : Saying Slot C) (ms ns : List M) → AllMay p s a b heard ms → AllMay p s a b heard ns → AllMay p s a b heard (ms ++ ns)
  both_sent s a b heard ms ns h k = All-append (λ m. May p s a b heard (p.says m)) ms ns h k
