-- Edges that are heard of, and what a Bye and its answer promise.
use Rattle.std.proofs.Common.{ℕ, ◌≡◌, ◌≢◌, ◌<◌, ◌≤◌, true, false, List, Option, None, Some, refl, sym, subst, ◌∙◌, inl, inr, ◌⊎◌, arith}
use Rattle.std.proofs.lemmas.List.Elements.{All-contains}
use Rattle.pg_edges.specs.Edges.{is_listed}
use Rattle.theory_flood.specs.Promises.{Saying}
use Rattle.theory_flood.specs.Promises.Saying.{AckTo, Other}
use Rattle.theory_flood.specs.Server.{Replica, Slot}
use Rattle.theory_flood.specs.Protocol as flooding
use Rattle.theory_leaving.specs.Protocol.{Protocol, Word, Has, Holds}
use Rattle.theory_leaving.specs.Moment.{IsSaid, IsAnswered, at, IsHeard, IsPast, IsKnown, IsKept, IsInOrder}
use Rattle.theory_leaving.specs.Rule.{Turn, Hears, heard_as, Follows, Rule, Acts}
use Rattle.theory_leaving.proofs.Moments.{at_each, sent_or, past_on}

module _ {W N M C : Type 0} (p : Protocol W N M C) where
  -- an edge that is heard of stands in the replica of its birth
  pub heard_has : (mail : List M) (s : ℕ) (a : N) (own t n : ℕ) → IsHeard p mail s a own t n
      → (x : Replica C) × Holds p a own x × (is_listed x.edges t n ≡ true)
  heard_has mail s a own t n h = (h.has.replica, (h.has.is, h.has.own), h.has.listed)

  -- an answer that was ever sent has a tag that was given out
  answer_below : (w : W) → IsInOrder p w → (s : ℕ) (q : Slot) (g : ℕ) → IsAnswered p (p.mail w) s q g
      → g < flooding.tags_of p.edges (p.nodes w s)
  answer_below w o s q g h =
      let P : Saying Slot C → Type 0 = flooding.Promised p.edges (p.nodes w) in
      (subst P h.2 (All-contains (λ m. P (p.edges.says m)) (p.mail w) h.0 o.promises.promises h.1)).0

  hears_answer : (heard : Option M) (s : ℕ) (q : Slot) (g : ℕ) → heard_as p heard ≡ AckTo s q g
      → (m : M) × (heard ≡ Some m) × (p.edges.says m ≡ AckTo s q g)
  hears_answer None s q g e = absurd (let z : ◌≡◌ {A = Saying Slot C} Other (AckTo s q g) = e in cc)
  hears_answer (Some m) s q g e = (m, refl, e)

  module _ {w v : W} {turn : Turn N M} (act : Acts p w v turn) (before : IsInOrder p w) (after : IsInOrder p v) where
    abbrev s : ℕ
    s = turn.server

    abbrev a : N
    a = p.nodes w turn.server

    abbrev b : N
    b = turn.next

    abbrev f : Follows p w v turn
    f = act.follows

    abbrev r : Rule p w v turn
    r = act.rule

    -- what came was sent
    said : (word : Word) → Hears p turn.heard word → IsSaid p (p.mail w) word
    said word h = (h.0, f.came h.0 h.1, h.2)

    -- no server has an edge to itself
    pub apart_own : (own t n : ℕ) → IsHeard p (p.mail v) s b own t n → t ≢ s
    apart_own own t n h e =
        let x = heard_has (p.mail v) s b own t n h in
        let P : ℕ → Type 0 = (λ k. is_listed x.0.edges k n ≡ true) in
        let Q : N → Type 0 = (λ z. Has p z x.0) in
        after.apart s n x.0 (subst Q (sym f.own) x.1.0) (subst P e x.2)

    -- AN EDGE DOES NOT BECOME HEARD OF BY WHAT ITS OWNER DOES: new tags match no old answer, and an
    -- answer takes its key off
    pub owner_back : (own t n : ℕ) → IsHeard p (p.mail v) s b own t n → IsHeard p (p.mail w) s a own t n
    owner_back own t n h = elim h.free [
      | inl none ↦
          let was = r.edges.free (at p own t n h.key) h.cell h.has none in
          elim was.1 [
            | inl free ↦ record { key = h.key; cell = h.cell; has = was.0; free = inl free }
            | inr came ↦
                let m = hears_answer turn.heard s (at p own t n h.key) came.0 came.2 in
                record { key = h.key; cell = h.cell; has = was.0; free = inr (came.0, came.1, (m.0, f.came m.0 m.1, m.2)) }
          ]
      | inr tagged ↦
          let m = tagged.2 in
          elim (sent_or p f m.0 m.1) [
            | inl sent ↦ absurd (apart_own own t n h (r.acks m.0 s own t n h.key tagged.0 sent m.2).0)
            | inr old ↦
                let lt = answer_below w before s (at p own t n h.key) tagged.0 (m.0, old, m.2) in
                elim (r.edges.onward.owed (at p own t n h.key) h.cell tagged.0 h.has tagged.1) [
                  | inl was ↦ record { key = h.key; cell = h.cell; has = was.0; free = inr (tagged.0, was.1, (m.0, old, m.2)) }
                  | inr new ↦ absurd (omega arith)
                ]
          ]
    ]

    -- the peer holds the birth that its answer named, and lists the one that it is for
    abbrev pub Answers : ℕ → ℕ → ℕ → ℕ → Type 0
    Answers j own t n = (t ≡ s) × (y : Replica C) × Holds p b n y × (is_listed y.edges j own ≡ true)

    -- where another server acts, the edge was heard of before, or that server now sends its answer
    pub other_back : (j own t n : ℕ) → IsHeard p (p.mail v) j (p.nodes w j) own t n
        → IsHeard p (p.mail w) j (p.nodes w j) own t n ⊎ Answers j own t n
    other_back j own t n h = elim h.free [
      | inl none ↦ inl (record { key = h.key; cell = h.cell; has = h.has; free = inl none })
      | inr tagged ↦
          let m = tagged.2 in
          elim (sent_or p f m.0 m.1) [
            | inl sent ↦ inr (r.acks m.0 j own t n h.key tagged.0 sent m.2)
            | inr old ↦ inl (record { key = h.key; cell = h.cell; has = h.has; free = inr (tagged.0, tagged.1, (m.0, old, m.2)) })
          ]
    ]

    -- of a replica that is held and of its birth, nothing went
    held_not_past : (n : ℕ) (x : Replica C) → Holds p b n x → IsPast p v s n → ⊥
    held_not_past n x h past =
        let P : N → Type 0 = (λ z. Holds p z n x) in
        after.past s n x past.0 past.1 (subst P (sym f.own) h)

    module _ (k : IsKept p w) where
      owes_own : (n t m : ℕ) → p.Owes b n t m → IsPast p v s n
      owes_own n t m h = elim (r.owes n t m h) [ inl old ↦ past_on p f s n (k.owes s n t m old) | inr is ↦ is ]

      pub owes_after : (j n t m : ℕ) → p.Owes (p.nodes v j) n t m → IsPast p v j n
      owes_after j n t m =
          at_each p f (λ i z. p.Owes z n t m → IsPast p v i n) (owes_own n t m)
          (λ i other h. past_on p f i n (k.owes i n t m h)) j

      -- a birth that the server that acts names now is no later than the one that is held
      not_later : (j n m : ℕ) (x z : Replica C) → p.IsServer j → j ≢ s → Holds p (p.nodes w j) n x → Has p b z
          → is_listed z.edges j m ≡ true → m ≤ n
      not_later j n m x z real other held is listed =
          let P : N → Type 0 = (λ i. Has p i z) in
          let Q : N → Type 0 = (λ i. Holds p i n x) in
          after.births s j n m z x f.server real (subst P (sym f.own) is) listed (subst Q (sym (f.others j other)) held)

      -- THE OTHER END OF AN EDGE THAT IS HEARD OF acts
      goes_on : (j own n : ℕ) (x y z : Replica C) → p.IsServer j → j ≢ s → Holds p (p.nodes w j) own x → Holds p a n y → Holds p b n z
          → is_listed y.edges j own ≡ true → IsKnown p v s b n j own
      goes_on j own n x y z real other held was is listed = elim (r.goes n y z j own was is listed) [
        | inl on ↦ inr (inl (record { replica = z; held = is; listed = on }))
        | inr (inl later) ↦ absurd (let le = not_later j own later.0 x z real other held is.0 later.2 in let lt = later.1 in omega arith)
        | inr (inr (inl gone)) ↦ absurd (before.gone j own x (said (Word.Gone j own) gone) held)
        | inr (inr (inr (inl bye))) ↦ absurd (let past = k.bye j own (said (Word.Bye j own) bye) in before.past j own x past.0 past.1 held)
        | inr (inr (inr (inr removed))) ↦ inl removed
      ]

      known_on : (j own n : ℕ) → p.IsServer j → j ≢ s → IsHeard p (p.mail w) j (p.nodes w j) own s n → IsKnown p w s a n j own → IsKnown p v s b n j own
      known_on j own n real other h (inl removed) = inl (r.removed j removed)
      known_on j own n real other h (inr (inl back)) =
          let x = heard_has (p.mail w) j (p.nodes w j) own s n h in
          elim (f.holds n back.replica back.held) [
            | inl on ↦ goes_on j own n x.0 back.replica on.0 real other x.1 back.held on.1 back.listed
            | inr went ↦ inr (inr (record {
              replica = back.replica;
              went = went;
              owed = (r.drops n back.replica back.held went).byes j own back.listed;
            }))
          ]
      known_on j own n real other h (inr (inr told)) =
          let went = f.stays s n told.replica told.went in
          elim (r.ends n j own told.owed) [
            | inl on ↦ inr (inr (record { replica = told.replica; went = went; owed = on }))
            | inr (inl heard) ↦ absurd ((k.bye_ok j s n (said (Word.ByeOk j s n) heard)).1 own h)
            | inr (inr removed) ↦ inl removed
          ]

      -- what is known at a server that does not act stays so
      known_stays : (i : ℕ) (z : N) (n j own : ℕ) → IsKnown p w i z n j own → IsKnown p v i z n j own
      known_stays i z n j own (inl removed) = inl removed
      known_stays i z n j own (inr (inl back)) = inr (inl (record { replica = back.replica; held = back.held; listed = back.listed }))
      known_stays i z n j own (inr (inr told)) = inr (inr (record {
        replica = told.replica;
        went = f.stays i n told.replica told.went;
        owed = told.owed;
      }))

      own_heard : (own t n : ℕ) → IsHeard p (p.mail v) s b own t n → IsKnown p v t (p.nodes v t) n s own
      own_heard own t n h =
          let P : N → Type 0 = (λ z. IsKnown p v t z n s own) in
          subst P (sym (f.others t (apart_own own t n h)))
          (known_stays t (p.nodes w t) n s own (k.heard s own t n f.server (owner_back own t n h)))

      other_heard : (j : ℕ) → p.IsServer j → j ≢ s → (own t n : ℕ) → IsHeard p (p.mail v) j (p.nodes w j) own t n → IsKnown p v t (p.nodes v t) n j own
      other_heard j real other own t n h = elim (other_back j own t n h) [
        | inl was ↦
            at_each p f (λ i z. IsHeard p (p.mail w) j (p.nodes w j) own i n → IsKnown p v i z n j own)
            (λ x. known_on j own n real other x (k.heard j own s n real x))
            (λ i apart x. known_stays i (p.nodes w i) n j own (k.heard j own i n real x)) t was
        | inr new ↦
            let P : ℕ → Type 0 = (λ i. IsKnown p v i (p.nodes v i) n j own) in
            let Q : N → Type 0 = (λ z. IsKnown p v s z n j own) in
            subst P (sym new.0) (subst Q (sym f.own) (inr (inl (record { replica = new.1; held = new.2; listed = new.3 }))))
      ]

      pub heard_after : (j own t n : ℕ) → p.IsServer j → IsHeard p (p.mail v) j (p.nodes v j) own t n → IsKnown p v t (p.nodes v t) n j own
      heard_after j own t n =
          at_each p f (λ i z. p.IsServer i → IsHeard p (p.mail v) i z own t n → IsKnown p v t (p.nodes v t) n i own)
          (λ real. own_heard own t n) (λ i other real. other_heard i real other own t n) j

      pub bye_after : (t n : ℕ) → IsSaid p (p.mail v) (Word.Bye t n) → IsPast p v t n
      bye_after t n m = elim (sent_or p f m.0 m.1) [
        | inl sent ↦
            let w = r.byes m.0 t n sent m.2 in
            let P : ℕ → Type 0 = (λ i. IsPast p v i n) in
            subst P (sym w.0) (owes_own n w.1 w.2 w.3)
        | inr old ↦ past_on p f t n (k.bye t n (m.0, old, m.2))
      ]

      -- an edge that is not listed is not heard of
      unlisted : (t n : ℕ) → ((y : Replica C) → Has p b y → is_listed y.edges t n ≡ false) → (own : ℕ) → IsHeard p (p.mail v) s b own t n → ⊥
      unlisted t n none own h =
          let x = heard_has (p.mail v) s b own t n h in
          let z : true ≡ false = sym x.2 ∙ none x.0 x.1.0 in
          cc

      still_unheard : (j t n : ℕ) → IsSaid p (p.mail w) (Word.ByeOk j t n) → (own : ℕ) → IsHeard p (p.mail v) j (p.nodes v j) own t n → ⊥
      still_unheard j t n m own =
          at_each p f (λ i z. IsSaid p (p.mail w) (Word.ByeOk i t n) → IsHeard p (p.mail v) i z own t n → ⊥)
          (λ x h. (k.bye_ok s t n x).1 own (owner_back own t n h))
          (λ i apart x h. elim (other_back i own t n h) [
            | inl was ↦ (k.bye_ok i t n x).1 own was
            | inr new ↦
                let P : ℕ → Type 0 = (λ z. IsPast p v z n) in
                held_not_past n new.1 new.2 (subst P new.0 (past_on p f t n (k.bye_ok i t n x).0))
          ])
          j m

      pub bye_ok_after : (j t n : ℕ) → IsSaid p (p.mail v) (Word.ByeOk j t n)
          → IsPast p v t n × ((own : ℕ) → IsHeard p (p.mail v) j (p.nodes v j) own t n → ⊥)
      bye_ok_after j t n m = elim (sent_or p f m.0 m.1) [
        | inl sent ↦
            let x = r.bye_oks m.0 j t n sent m.2 in (
              past_on p f t n (k.bye t n (said (Word.Bye t n) x.1)),
              λ own.
                  let Q : ℕ → Type 0 = (λ i. IsHeard p (p.mail v) i (p.nodes v i) own t n → ⊥) in
                  let R : N → Type 0 = (λ z. IsHeard p (p.mail v) s z own t n → ⊥) in
                  subst Q (sym x.0) (subst R (sym f.own) (unlisted t n x.2 own)),
            )
        | inr old ↦ (past_on p f t n (k.bye_ok j t n (m.0, old, m.2)).0, still_unheard j t n (m.0, old, m.2))
      ]
