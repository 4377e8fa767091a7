-- A new server: it lists nothing, and nobody leans on it.
use Rattle.std.proofs.Common.{ℕ, ◌≡◌, ◌≢◌, ◌≤◌, ◌⊎◌, true, false, List, [], ◌∷◌, All, None, Some, sym, subst, ap, ◌∙◌, inl, inr}
use Rattle.std.proofs.lemmas.List.Elements.{All-nil, All-cons, All-head, All-tail}
use Rattle.theory_listing.specs.Protocol.{Protocol, Lists}
use Rattle.theory_listing.specs.World.{Saying, Message, World, IsCurrent}
use Rattle.theory_listing.specs.World.Saying.{Told, TellOk, LeaveOk, Other}
use Rattle.theory_listing.specs.Promises.{Somewhere, IsKnown, StillKnown, Promise, IsPromised, Kept}
use Rattle.theory_listing.specs.Rule.{IsSupersededAt, IsKnownAt, IsToldAt, IsSettled}
use Rattle.theory_listing.specs.Runs.{admitted, IsNew}
use Rattle.theory_listing.proofs.Somewhere.{here, at_other}

module _ {N F P S : Type 0} (p : Protocol N F P S) (w : World N F P S) (s : ℕ) (b : N) (new : IsNew p w s b) (kept : Kept p w) where
  abbrev next : World N F P S
  next = admitted p w s b

  -- who was live is another server
  other : (j : ℕ) → w.live j ≡ true → j ≢ s
  other j live = λ e. let x : false ≡ true = sym new.absent ∙ sym (ap w.live e) ∙ live in cc

  stays : (A : N → Type 0) → Somewhere p w A → Somewhere p next A
  stays A h =
      let j = h.server in
      let e = at_other w.nodes s b j (other j h.current.live) in
      record {
        server = j;
        current = record {
          live = at_other w.live s true j (other j h.current.live) ∙ h.current.live;
          view = (let Q : N → Type 0 = (λ z. w.least ≤ p.view z) in subst Q (sym e) h.current.view);
        };
        has = subst A (sym e) h.has;
      }

  leave_stays : (n : N) (f : F) (birth : ℕ) (q : P) (d : F) → StillKnown p w n f birth q d → StillKnown p next n f birth q d
  leave_stays n f birth q d (inl past) = inl past
  leave_stays n f birth q d (inr (inl h)) = inr (inl h)
  leave_stays n f birth q d (inr (inr h)) = inr (inr (stays (λ z. IsSupersededAt p z d f q) h))

  promise_stays : (j : ℕ) → j ≢ s → (x : Saying F P S) → Promise p w j x → Promise p next j x
  promise_stays j not (Told way d c q) h = λ in_. stays (λ z. IsKnownAt p z d c q) (h in_)
  promise_stays j not (TellOk d c t) h = stays (λ z. IsToldAt p z d c t) h
  promise_stays j not (LeaveOk f n q) h = λ d in_. let Q : N → Type 0 = (λ z. StillKnown p next z f n q d) in subst Q (sym (at_other w.nodes s b j not)) (leave_stays (w.nodes j) f n q d (h d in_))
  promise_stays j not Other h = tt

  message_stays : (m : Message F P S) → m.sender ≢ s → IsPromised p w m → IsPromised p next m
  message_stays m not h =
      let Q : N → Type 0 = (λ z. m.view ≤ p.view z) in
      record { view = subst Q (sym (at_other w.nodes s b m.sender not)) h.view; says = λ up. promise_stays m.sender not m.says (h.says up) }

  messages_stay : (ms : List (Message F P S)) → All (λ m. m.sender ≢ s) ms → All (IsPromised p w) ms → All (IsPromised p next) ms
  messages_stay [] nots h = All-nil (IsPromised p next)
  messages_stay (m ∷ ms) nots h =
      let Q : Message F P S → Type 0 = (λ x. x.sender ≢ s) in
      All-cons (IsPromised p next) m ms (message_stays m (All-head Q m ms nots) (All-head (IsPromised p w) m ms h)) (messages_stay ms (All-tail Q m ms nots) (All-tail (IsPromised p w) m ms h))

  listed : (j : ℕ) (d c : F) (q : P) → IsCurrent p next j → Lists p (next.nodes j) d c q → p.own (next.nodes j) c ≡ None → p.Confirms (next.nodes j) d c ⊎ IsKnown p next d c q
  listed j d c q current l = elim (here w.nodes s b j) [
    | inl e ↦ absurd (let x : None ≡ Some q = sym (new.empty d c) ∙ sym (ap (λ n. p.cell n d c) e.1) ∙ l.cell in cc)
    | inr e ↦ let Q : N → Type 0 = (λ n. w.least ≤ p.view n → Lists p n d c q → p.own n c ≡ None → p.Confirms n d c ⊎ IsKnown p next d c q) in
        subst Q (sym e.1)
        (λ up m gone. elim (kept.listed j d c q (record { live = sym (at_other w.live s true j e.0) ∙ current.live; view = up }) m gone) [ inl asks ↦ inl asks | inr h ↦ inr (stays (λ z. IsKnownAt p z d c q) h) ])
        current.view l
  ]

  -- A NEW SERVER KEEPS ALL
  pub admit_keeps : Kept p next
  admit_keeps = record {
    settled = λ j. elim (here w.nodes s b j) [
      | inl e ↦ let Q : N → Type 0 = IsSettled p in subst Q (sym e.1) new.settled
      | inr e ↦ let Q : N → Type 0 = IsSettled p in subst Q (sym e.1) (kept.settled j)
    ];
    listed = listed;
    promises = messages_stay w.messages new.unheard kept.promises;
  }
