-- A step by the rule keeps what directories and messages promise.
use Rattle.std.proofs.Common.{ℕ, ◌≡◌, ◌≤◌, ◌⊎◌, List, [], ◌∷◌, All, Option, None, Some, refl, sym, subst, ◌∙◌, inl, inr, arith}
use Rattle.std.proofs.lemmas.List.Elements.{All-nil, All-cons, All-head, All-tail, All-append, All-weaker}
use Rattle.std.proofs.lemmas.Bool.{cases_lt}
use Rattle.theory_listing.specs.Protocol.{Protocol, IsOrdered, IsIn, Lists}
use Rattle.theory_listing.specs.World.{Saying, Message, World, IsCurrent, signed, stepped}
use Rattle.theory_listing.specs.World.Way.{SureCell, PlaceIs, Tell}
use Rattle.theory_listing.specs.World.Saying.{Told, TellOk, LeaveOk, Other}
use Rattle.theory_listing.specs.Promises.{IsKnown, StillKnown, Promise, IsPromised, Kept}
use Rattle.theory_listing.specs.Rule.{IsSupersededAt, IsKnownAt, IsToldAt, IsSettled, MaySend}
use Rattle.theory_listing.specs.Runs.{IsStep}
use Rattle.theory_listing.proofs.Somewhere.{here, at_self, by_self}
use Rattle.theory_listing.proofs.Stays.{told_stays, superseded_stays, replaced, known_stays, told_known}
use Rattle.theory_listing.proofs.Quiet.{lists_own}

module _ {N F P S : Type 0} (p : Protocol N F P S) (o : IsOrdered p) (w : World N F P S) (s : ℕ) (b : N) (heard : Message F P S) (sent : List (Saying F P S)) (kept : Kept p w) (k : IsStep p w s b heard sent) where
  abbrev a : N
  a = w.nodes s

  abbrev next : World N F P S
  next = stepped p w s b sent

  view_after : (j : ℕ) → p.view (w.nodes j) ≤ p.view (next.nodes j)
  view_after j = elim (here w.nodes s b j) [
    | inl e ↦ let Q : ℕ → N → Type 0 = (λ i n. p.view (w.nodes i) ≤ p.view n) in let R : ℕ → Type 0 = (λ i. p.view (w.nodes i) ≤ p.view b) in
        subst (Q j) (sym e.1) (subst R (sym e.0) k.rule.views)
    | inr e ↦ let Q : N → Type 0 = (λ n. p.view (w.nodes j) ≤ p.view n) in subst Q (sym e.1) (omega arith)
  ]

  stays : (d c : F) (q : P) → IsIn p d c q → IsKnown p w d c q → IsKnown p next d c q
  stays d c q in_ h = known_stays p o w s b heard sent kept k d c q in_ h

  -- LEAVE SAYS, of the server that steps
  leave_at : (f : F) (n : ℕ) (q : P) (d : F) (own : Option P) → w.least ≤ p.view a → IsIn p d f q → p.own a f ≡ Some q → p.birth a f ≡ n → p.own b f ≡ own → StillKnown p next b f n q d
  leave_at f n q d None up in_ was born is = let Q : ℕ → Type 0 = (λ z. p.IsPast b f z) in inl (subst Q born (k.rule.let_go f q was is).0)
  leave_at f n q d (Some r) up in_ was born is = elim (k.rule.own_grows f q r was is) [
    | inl e ↦ let Q : P → Type 0 = (λ z. p.own b f ≡ Some z) in inr (inl (subst Q (sym e) is, k.rule.birth f (q, was) (r, is) ∙ born))
    | inr low ↦ inr (inr (replaced p o w s b heard sent kept k d f q r up was in_ is low))
  ]

  leave_self : (f : F) (n : ℕ) (q : P) (d : F) → w.least ≤ p.view a → IsIn p d f q → StillKnown p w a f n q d → StillKnown p next b f n q d
  leave_self f n q d up in_ (inl past) = inl (k.rule.past f n past)
  leave_self f n q d up in_ (inr (inl h)) = leave_at f n q d (p.own b f) up in_ h.0 h.1 refl
  leave_self f n q d up in_ (inr (inr h)) = inr (inr (superseded_stays p o w s b heard sent kept k d f q h))

  leave_other : (n : N) (f : F) (birth : ℕ) (q : P) (d : F) → StillKnown p w n f birth q d → StillKnown p next n f birth q d
  leave_other n f birth q d (inl past) = inl past
  leave_other n f birth q d (inr (inl h)) = inr (inl h)
  leave_other n f birth q d (inr (inr h)) = inr (inr (superseded_stays p o w s b heard sent kept k d f q h))

  leave_stays : (j : ℕ) (f : F) (n : ℕ) (q : P) (d : F) → w.least ≤ p.view (w.nodes j) → IsIn p d f q → StillKnown p w (w.nodes j) f n q d → StillKnown p next (next.nodes j) f n q d
  leave_stays j f n q d up in_ h = elim (here w.nodes s b j) [
    | inl e ↦ let Q : N → Type 0 = (λ z. StillKnown p next z f n q d) in let R : ℕ → Type 0 = (λ i. w.least ≤ p.view (w.nodes i)) in let T : ℕ → Type 0 = (λ i. StillKnown p w (w.nodes i) f n q d) in
        subst Q (sym e.1) (leave_self f n q d (subst R e.0 up) in_ (subst T e.0 h))
    | inr e ↦ let Q : N → Type 0 = (λ z. StillKnown p next z f n q d) in subst Q (sym e.1) (leave_other (w.nodes j) f n q d h)
  ]

  -- WHAT WAS PROMISED STAYS PROMISED
  promise_stays : (j : ℕ) (x : Saying F P S) → w.least ≤ p.view (w.nodes j) → Promise p w j x → Promise p next j x
  promise_stays j (Told way d c q) up h = λ in_. stays d c q in_ (h in_)
  promise_stays j (TellOk d c t) up h = told_stays p o w s b heard sent kept k d c t h
  promise_stays j (LeaveOk f n q) up h = λ d in_. leave_stays j f n q d up in_ (h d in_)
  promise_stays j Other up h = tt

  message_stays : (m : Message F P S) → IsPromised p w m → IsPromised p next m
  message_stays m h =
      let far = h.view in
      let on = view_after m.sender in
      record { view = omega arith; says = λ up. promise_stays m.sender m.says (omega arith) (h.says up) }

  -- LISTED, at the server that steps
  was_listed : (d c : F) (q : P) (own : Option P) → w.least ≤ p.view a → Lists p b d c q → p.own b c ≡ None → p.cell a d c ≡ Some q → p.own a c ≡ own → p.Confirms b d c ⊎ IsKnown p next d c q
  was_listed d c q (Some r) up l gone was is =
      let e : r ≡ q = lists_own p a (kept.settled s) d c q r (record { cell = was; is_in = l.is_in }) is in
      let Q : P → Type 0 = (λ z. p.own a c ≡ Some z) in
      inr (stays d c q l.is_in (record { server = s; current = record { live = k.live; view = up }; has = inl (subst Q e is) }))
  was_listed d c q None up l gone was is = elim (kept.listed s d c q (record { live = k.live; view = up }) (record { cell = was; is_in = l.is_in }) is) [
    | inr h ↦ inr (stays d c q l.is_in h)
    | inl asks ↦ elim (k.rule.confirm_ends d c q asks l gone) [
      | inl still ↦ inl still
      | inr e ↦ inr (told_known p o w s b heard sent kept k e.0 d c q e.1 up l.is_in)
    ]
  ]

  listed_current : (d c : F) (q : P) → w.least ≤ p.view a → Lists p b d c q → p.own b c ≡ None → p.Confirms b d c ⊎ IsKnown p next d c q
  listed_current d c q up l gone = elim (k.rule.listed_new d c q l gone) [
    | inl was ↦ was_listed d c q (p.own a c) up l gone was refl
    | inr r ↦ elim r [
      | inl asks ↦ inl asks
      | inr e ↦ inr (told_known p o w s b heard sent kept k e.0 d c q e.1 up l.is_in)
    ]
  ]

  listed_self : (d c : F) (q : P) → w.least ≤ p.view b → Lists p b d c q → p.own b c ≡ None → p.Confirms b d c ⊎ IsKnown p next d c q
  listed_self d c q up l gone = elim (cases_lt (p.view a) w.least) [
    | inl low ↦ inl (k.rule.enters low up d c q l gone)
    | inr old ↦ listed_current d c q old l gone
  ]

  listed_next : (j : ℕ) (d c : F) (q : P) → IsCurrent p next j → Lists p (next.nodes j) d c q → p.own (next.nodes j) c ≡ None → p.Confirms (next.nodes j) d c ⊎ IsKnown p next d c q
  listed_next j d c q current = elim (here w.nodes s b j) [
    | inl e ↦ let Q : N → Type 0 = (λ n. w.least ≤ p.view n → Lists p n d c q → p.own n c ≡ None → p.Confirms n d c ⊎ IsKnown p next d c q) in
        subst Q (sym e.1) (listed_self d c q) current.view
    | inr e ↦ let Q : N → Type 0 = (λ n. w.least ≤ p.view n → Lists p n d c q → p.own n c ≡ None → p.Confirms n d c ⊎ IsKnown p next d c q) in
        subst Q (sym e.1) (λ up l gone. elim (kept.listed j d c q (record { live = current.live; view = up }) l gone) [ inl asks ↦ inl asks | inr h ↦ inr (stays d c q l.is_in h) ]) current.view
  ]

  -- WHAT IS SENT IS PROMISED
  abbrev Knows : F → F → P → N → Type 0
  Knows d c q n = IsKnownAt p n d c q

  sure_cell : (d c : F) (q : P) (own : Option P) → w.least ≤ p.view b → Lists p b d c q → (p.Confirms b d c → ⊥) → p.own b c ≡ own → IsKnown p next d c q
  sure_cell d c q (Some r) up l none is =
      let e : r ≡ q = lists_own p b k.rule.settled d c q r l is in
      let Q : P → Type 0 = (λ z. p.own b c ≡ Some z) in
      by_self p w s b heard sent k (Knows d c q) up (inl (subst Q e is))
  sure_cell d c q None up l none is = elim (listed_self d c q up l is) [ inl asks ↦ absurd (none asks) | inr h ↦ h ]

  leave_sent : (f : F) (n : ℕ) (q : P) (d : F) → w.least ≤ p.view b → p.birth b f ≡ n → IsKnownAt p b d f q → StillKnown p next b f n q d
  leave_sent f n q d up born (inl own) = inr (inl (own, born))
  leave_sent f n q d up born (inr h) = inr (inr (by_self p w s b heard sent k (λ z. IsSupersededAt p z d f q) up h))

  sent_promise : (x : Saying F P S) → w.least ≤ p.view b → MaySend p b x → Promise p next s x
  sent_promise (Told SureCell d c q) up m = λ in_. sure_cell d c q (p.own b c) up (record { cell = m.0; is_in = in_ }) m.1 refl
  sent_promise (Told PlaceIs d c q) up m = λ in_. by_self p w s b heard sent k (Knows d c q) up (m in_)
  sent_promise (Told Tell d c q) up m = λ in_. by_self p w s b heard sent k (Knows d c q) up (inl (k.rule.settled.patch_of d c q m in_))
  sent_promise (TellOk d c t) up m = by_self p w s b heard sent k (λ n. IsToldAt p n d c t) up m
  sent_promise (LeaveOk f n q) up m = λ d in_. let e = at_self w.nodes s b in let Q : N → Type 0 = (λ z. StillKnown p next z f n q d) in subst Q (sym e) (leave_sent f n q d up m.0 (m.1 d in_))
  sent_promise Other up m = tt

  message_sent : (x : Saying F P S) → MaySend p b x → IsPromised p next (record { sender = s; view = p.view b; says = x })
  message_sent x m =
      let e = at_self w.nodes s b in
      let Q : N → Type 0 = (λ z. p.view b ≤ p.view z) in
      record { view = subst Q (sym e) (omega arith); says = λ up. sent_promise x up m }

  messages_sent : (xs : List (Saying F P S)) → All (MaySend p b) xs → All (IsPromised p next) (signed p s (p.view b) xs)
  messages_sent [] h = All-nil (IsPromised p next)
  messages_sent (x ∷ xs) h = All-cons (IsPromised p next) (record { sender = s; view = p.view b; says = x }) (signed p s (p.view b) xs) (message_sent x (All-head (MaySend p b) x xs h)) (messages_sent xs (All-tail (MaySend p b) x xs h))

  settled_next : (j : ℕ) → IsSettled p (next.nodes j)
  settled_next j = elim (here w.nodes s b j) [
    | inl e ↦ let Q : N → Type 0 = IsSettled p in subst Q (sym e.1) k.rule.settled
    | inr e ↦ let Q : N → Type 0 = IsSettled p in subst Q (sym e.1) (kept.settled j)
  ]

  -- WHAT ONE SERVER DOES BY THE RULE IS KEPT
  pub step_keeps : Kept p next
  step_keeps = record {
    settled = settled_next;
    listed = listed_next;
    promises = All-append (IsPromised p next) (signed p s (p.view b) sent) w.messages (messages_sent sent k.rule.sends) (All-weaker (IsPromised p w) (IsPromised p next) message_stays w.messages kept.promises);
  }
