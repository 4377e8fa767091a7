-- What is kept, from the start on and by each event.
use Rattle.std.proofs.Common.{ℕ, ◌≡◌, ◌<◌, List, [], Some, sym, subst, inl, inr, ◌⊎◌, arith}
use Rattle.std.specs.Prelude.{Contains}
use Rattle.pg_register.specs.declared.flag.Flag.{Flag}
use Rattle.theory_flood.specs.Server.{Replica}
use Rattle.theory_leaving.specs.Protocol.{Protocol, Word, HasLater, Holds}
use Rattle.theory_leaving.specs.Moment.{IsHeard, IsKept, IsKnown, IsPast, IsSaid}
use Rattle.theory_leaving.specs.Laws.{ActsKeep, Idles, IdlesKeep, IsStart, StartsHold}
use Rattle.theory_leaving.proofs.Hearing.{heard_has, owes_after, heard_after, bye_after, bye_ok_after}
use Rattle.theory_leaving.proofs.Golds.{last_after, lowered_after}

module _ {W N M C : Type 0} (p : Protocol W N M C) where
  none_sent : (w : W) → IsStart p w → (word : Word) → IsSaid p (p.mail w) word → ⊥
  none_sent w start word m =
      let P : List M → Type 0 = (λ ms. Contains ms m.0) in
      let h : Contains [] m.0 = subst P start.silent m.1 in
      let lt : h.0 < 0 = h.1 in
      omega arith

  pub start_law : StartsHold p
  start_law w start = record {
    owes = λ t n s own h. absurd (start.owes t n s own h);
    heard = λ s own t n real h.
        (let x = heard_has p (p.mail w) s (p.nodes w s) own t n h in
        inr (inl (start.back s own t n x.0 real x.1 x.2)));
    bye = λ t n m. absurd (none_sent w start (Word.Bye t n) m);
    bye_ok = λ s t n m. absurd (none_sent w start (Word.ByeOk s t n) m);
    last = λ s own t n x y f real held h went. absurd (start.none t n y went);
    lowered = λ t n y f went. absurd (start.none t n y went);
  }

  pub keep_law : ActsKeep p
  keep_law sound w v turn before after act k = record {
    owes = owes_after p act before after k;
    heard = heard_after p act before after k;
    bye = bye_after p act before after k;
    bye_ok = bye_ok_after p act before after k;
    last = last_after p sound act before after k;
    lowered = lowered_after p sound act before after k;
  }

  module _ (w v : W) (same : Idles p w v) (k : IsKept p w) where
    -- what was sent then was sent before
    sent_back : (word : Word) → IsSaid p (p.mail v) word → IsSaid p (p.mail w) word
    sent_back word m = let P : List M → Type 0 = (λ ms. Contains ms m.0) in (m.0, subst P same.mail m.1, m.2)

    heard_back : (s own t n : ℕ) → IsHeard p (p.mail v) s (p.nodes v s) own t n → IsHeard p (p.mail w) s (p.nodes w s) own t n
    heard_back s own t n h =
        let P : List M → Type 0 = (λ ms. IsHeard p ms s (p.nodes w s) own t n) in
        let Q : N → Type 0 = (λ z. IsHeard p (p.mail v) s z own t n) in
        subst P same.mail (subst Q (same.nodes s) h)

    past_on : (t n : ℕ) → IsPast p w t n → IsPast p v t n
    past_on t n h = (h.0, same.stays t n h.0 h.1)

    known_on : (t : ℕ) (a : N) (n s own : ℕ) → IsKnown p w t a n s own → IsKnown p v t a n s own
    known_on t a n s own (inl removed) = inl removed
    known_on t a n s own (inr (inl back)) = inr (inl (record { replica = back.replica; held = back.held; listed = back.listed }))
    known_on t a n s own (inr (inr told)) = inr (inr (record {
      replica = told.replica;
      went = same.stays t n told.replica told.went;
      owed = told.owed;
    }))

    idle_owes : (t n s own : ℕ) → p.Owes (p.nodes v t) n s own → IsPast p v t n
    idle_owes t n s own h = let P : N → Type 0 = (λ z. p.Owes z n s own) in past_on t n (k.owes t n s own (subst P (same.nodes t) h))

    idle_heard : (s own t n : ℕ) → p.IsServer s → IsHeard p (p.mail v) s (p.nodes v s) own t n → IsKnown p v t (p.nodes v t) n s own
    idle_heard s own t n real h =
        let P : N → Type 0 = (λ z. IsKnown p v t z n s own) in
        subst P (sym (same.nodes t)) (known_on t (p.nodes w t) n s own (k.heard s own t n real (heard_back s own t n h)))

    idle_last : (s own t n : ℕ) (x y : Replica C) (g : Flag) → p.IsServer s → Holds p (p.nodes v s) own x → IsHeard p (p.mail v) s (p.nodes v s) own t n → p.Went v t n y
        → p.flag y.cells t ≡ Some g → g.birth ≡ n → p.Removed (p.nodes v t) s ⊎ HasLater p x.cells t g
    idle_last s own t n x y g real held h went is born =
        let P : N → Type 0 = (λ z. Holds p z own x) in
        let Q : N → Type 0 = (λ z. p.Removed z s ⊎ HasLater p x.cells t g) in
        subst Q (sym (same.nodes t)) (k.last s own t n x y g real (subst P (same.nodes s) held) (heard_back s own t n h) (same.from t n y went) is born)

  pub idle_law : IdlesKeep p
  idle_law w v same k = record {
    owes = idle_owes w v same k;
    heard = idle_heard w v same k;
    bye = λ t n m. past_on w v same k t n (k.bye t n (sent_back w v same k (Word.Bye t n) m));
    bye_ok = λ s t n m.
        (let was = k.bye_ok s t n (sent_back w v same k (Word.ByeOk s t n) m) in
        (past_on w v same k t n was.0, λ own h. was.1 own (heard_back w v same k s own t n h)));
    last = idle_last w v same k;
    lowered = λ t n y g went is born. k.lowered t n y g (same.from t n y went) is born;
  }
