-- The last own flag of a replica that went, at edges to it that are heard of; and who may be relied
-- on.
use Rattle.std.proofs.Common.{ℕ, ◌≡◌, ◌≢◌, true, false, Option, None, Some, sym, ap, subst, ◌∙◌, inl, inr, ◌⊎◌, arith}
use Rattle.pg_edges.specs.declared.key.Key.{Key}
use Rattle.pg_edges.specs.Edges.{is_listed, tag_at}
use Rattle.pg_register.specs.declared.flag.Flag.{Flag}
use Rattle.theory_flood.specs.Server.{Replica, HoldsAll, tag_on}
use Rattle.theory_flood.proofs.Servers.{some_same}
use Rattle.theory_flood.proofs.Worlds.{across, across_took}
use Rattle.theory_leaving.specs.Protocol.{Protocol, Word, IsFlagUpTo, HasLater, IsSound, Has, Holds}
use Rattle.theory_leaving.specs.Moment.{at, IsHeard, IsKept, IsInOrder}
use Rattle.theory_leaving.specs.Rule.{Turn, Hears, Follows, Rule, Acts}
use Rattle.theory_leaving.specs.Laws.{HasAll, DropsLeaveAll, GoldsAreReliable}
use Rattle.theory_leaving.proofs.Moments.{same_replica, at_each, past_other}
use Rattle.theory_leaving.proofs.Hearing.{apart_own, owner_back, other_back}

pub upto_further : (f g h : Flag) → IsFlagUpTo f g → IsFlagUpTo g h → IsFlagUpTo f h
upto_further f g h (inl m) (inl n) = inl (omega arith)
upto_further f g h (inl m) (inr n) = inl (let e = n.0 in omega arith)
upto_further f g h (inr m) (inl n) = inl (let e = m.0 in omega arith)
upto_further f g h (inr m) (inr n) = inr (m.0 ∙ n.0, let x = m.1 in let y = n.1 in omega arith)

module _ {W N M C : Type 0} (p : Protocol W N M C) (sound : IsSound p) where
  -- a later flag is as late among cells that hold all
  later_held : (a b : N) (x y : Replica C) (t : ℕ) (f : Flag) → Has p a x → Has p b y → HoldsAll p.edges.IsUpTo x.cells y.cells → HasLater p x.cells t f → HasLater p y.cells t f
  later_held a b x y t f one two all later =
      let on = sound.flags a b x y t later.0 one two all later.1 in
      (on.0, on.1, upto_further f later.0 on.0 later.2 on.2)

  module _ {w v : W} {turn : Turn N M} (act : Acts p w v turn) (before : IsInOrder p w) (after : IsInOrder p v) (k : IsKept p w) where
    abbrev s : ℕ
    s = turn.server

    abbrev a : N
    a = p.nodes w turn.server

    abbrev b : N
    b = turn.next

    abbrev f : Follows p w v turn
    f = act.follows

    abbrev r : Rule p w v turn
    r = act.rule

    lowered_if : (t n : ℕ) (y : Replica C) (g : Flag) → p.Went w t n y ⊎ ((t ≡ s) × Holds p a n y) → p.Went v t n y → p.flag y.cells t ≡ Some g → g.birth ≡ n → g.raised ≡ false
    lowered_if t n y g (inl was) went is born = k.lowered t n y g was is born
    lowered_if t n y g (inr held) went is born =
        let P : ℕ → Type 0 = (λ i. p.Went v i n y) in
        (r.drops n y held.1 (subst P held.0 went)).lowered g (ap (p.flag y.cells) (sym held.0) ∙ is) born

    pub lowered_after : (t n : ℕ) (y : Replica C) (g : Flag) → p.Went v t n y → p.flag y.cells t ≡ Some g → g.birth ≡ n → g.raised ≡ false
    lowered_after t n y g went is born = lowered_if t n y g (f.from t n y went) went is born

    -- the owner of the edge acts: its flags grow
    own_last : (own t n : ℕ) (x y : Replica C) (g : Flag) → Holds p b own x → IsHeard p (p.mail v) s b own t n → p.Went v t n y → p.flag y.cells t ≡ Some g → g.birth ≡ n
        → p.Removed (p.nodes v t) s ⊎ HasLater p x.cells t g
    own_last own t n x y g held h went is born =
        let other = apart_own p act before after own t n h in
        let earlier = owner_back p act before after own t n h in
        let z = earlier.has.replica in
        let was : Holds p a own z = (earlier.has.is, earlier.has.own) in
        let P : N → Type 0 = (λ i. p.Removed i s ⊎ HasLater p x.cells t g) in
        subst P (sym (f.others t other)) (elim (k.last s own t n z y g f.server was earlier (past_other p f t n y other went) is born) [
          | inl removed ↦ inl removed
          | inr later ↦ elim (f.holds own z was) [
            | inl on ↦
                let Q : Replica C → Type 0 = (λ i. HasLater p i.cells t g) in
                inr (subst Q (same_replica p b on.0 x on.1.0 held.0) (later_held a b z on.0 t g was.0 on.1.0 on.2 later))
            | inr gone ↦
                let R : N → Type 0 = (λ i. Holds p i own x) in
                absurd (after.past s own x z gone (subst R (sym f.own) held))
          ]
        ])

    -- the replica goes: its edges are clean, so the owner of an edge to it has all that it has
    dropped_last : (j own n : ℕ) (x y : Replica C) (g : Flag) → p.IsServer j → Holds p (p.nodes w j) own x → IsHeard p (p.mail w) j (p.nodes w j) own s n → Holds p a n y → p.Went v s n y → p.flag y.cells s ≡ Some g
        → p.Removed b j ⊎ HasLater p x.cells s g
    dropped_last j own n x y g real held h was went is = elim (k.heard j own s n real h) [
      | inl removed ↦ inl (r.removed j removed)
      | inr (inl back) ↦
          let same = same_replica p a back.replica y back.held.0 was.0 in
          let listed : is_listed y.edges j own ≡ true = sym (ap (λ (z : Replica C). is_listed z.edges j own) same) ∙ back.listed in
          let there : is_listed y.edges j x.birth ≡ true = ap (is_listed y.edges j) held.1 ∙ listed in
          let clean : (key : Key) → tag_at y.edges j x.birth key ≡ None = (λ key. ap (λ i. tag_at y.edges j i key) held.1 ∙ (r.drops n y was went).clean j own key listed) in
          let all = across p.edges sound.edges (p.nodes w) (p.mail w) before.promises p.file s j y x was.0 held.0 there clean in
          inr (sound.flags a (p.nodes w j) y x s g was.0 held.0 all is)
      | inr (inr told) ↦ absurd (before.past s n y told.replica told.went was)
    ]

    -- the server at the other end acts
    peer_last : (j own n : ℕ) (x y : Replica C) (g : Flag) → p.IsServer j → Holds p (p.nodes w j) own x → IsHeard p (p.mail w) j (p.nodes w j) own s n → p.Went v s n y → p.flag y.cells s ≡ Some g → g.birth ≡ n
        → p.Removed b j ⊎ HasLater p x.cells s g
    peer_last j own n x y g real held h went is born = elim (f.from s n y went) [
      | inl was ↦ elim (k.last j own s n x y g real held h was is born) [ inl removed ↦ inl (r.removed j removed) | inr later ↦ inr later ]
      | inr was ↦ dropped_last j own n x y g real held h was.1 went is
    ]

    other_last : (j : ℕ) → p.IsServer j → j ≢ s → (own t n : ℕ) (x y : Replica C) (g : Flag) → Holds p (p.nodes w j) own x → IsHeard p (p.mail v) j (p.nodes w j) own t n → p.Went v t n y → p.flag y.cells t ≡ Some g → g.birth ≡ n
        → p.Removed (p.nodes v t) j ⊎ HasLater p x.cells t g
    other_last j real other own t n x y g held =
        at_each p f (λ i z. IsHeard p (p.mail v) j (p.nodes w j) own i n → p.Went v i n y → p.flag y.cells i ≡ Some g → g.birth ≡ n → p.Removed z j ⊎ HasLater p x.cells i g)
        (λ h went is born. elim (other_back p act before after j own s n h) [
          | inl was ↦ peer_last j own n x y g real held was went is born
          | inr new ↦
              let P : N → Type 0 = (λ i. Holds p i n new.1) in
              absurd (after.past s n new.1 y went (subst P (sym f.own) new.2))
        ])
        (λ i apart h went is born. elim (other_back p act before after j own i n h) [
          | inl was ↦ k.last j own i n x y g real held was (past_other p f i n y apart went) is born
          | inr new ↦ absurd (apart new.0)
        ])
        t

    pub last_after : (j own t n : ℕ) (x y : Replica C) (g : Flag) → p.IsServer j → Holds p (p.nodes v j) own x → IsHeard p (p.mail v) j (p.nodes v j) own t n → p.Went v t n y → p.flag y.cells t ≡ Some g → g.birth ≡ n
        → p.Removed (p.nodes v t) j ⊎ HasLater p x.cells t g
    last_after j own t n x y g =
        at_each p f (λ i z. p.IsServer i → Holds p z own x → IsHeard p (p.mail v) i z own t n → p.Went v t n y → p.flag y.cells t ≡ Some g → g.birth ≡ n → p.Removed (p.nodes v t) i ⊎ HasLater p x.cells t g)
        (λ real. own_last own t n x y g) (λ i other real. other_last i real other own t n x y g) j

  module _ (w : W) (o : IsInOrder p w) (k : IsKept p w) where
    -- NO FLAG OF A REPLICA THAT WENT IS RAISED, at an edge to it that is heard of: it is not later
    -- than the last one, which was not raised, and not earlier
    past_gold : (s own t n : ℕ) (x y : Replica C) (g : Flag) → p.IsServer s → Holds p (p.nodes w s) own x → IsHeard p (p.mail w) s (p.nodes w s) own t n → p.Went w t n y → p.flag x.cells t ≡ Some g → g.birth ≡ n
        → p.Removed (p.nodes w t) s ⊎ (g.raised ≡ false)
    past_gold s own t n x y g real held h went is born =
        let e = o.flags s t n x y g real held.0 went is born in
        elim (k.last s own t n x y e.last real held h went e.is (e.born ∙ born)) [
          | inl removed ↦ inl removed
          | inr later ↦
              let same = some_same later.0 g (sym later.1 ∙ is) in
              let P : Flag → Type 0 = IsFlagUpTo e.last in
              let upto = subst P same later.2 in
              let of = e.born in
              inr (elim e.older [
                | inl one ↦ ap (λ (z : Flag). z.raised) one ∙ k.lowered t n y e.last went e.is (e.born ∙ born)
                | inr earlier ↦ absurd (elim upto [ inl lt ↦ omega arith | inr le ↦ let number = le.1 in omega arith ])
              ])
        ]

    -- WHO MAY BE RELIED ON
    pub relied : (s own t n : ℕ) (x : Replica C) (g : Flag) → p.IsServer s → ((j : ℕ) → p.Removed (p.nodes w j) s → ⊥) → Holds p (p.nodes w s) own x → is_listed x.edges t n ≡ true
        → ((key : Key) → tag_at x.edges t n key ≡ None) → p.flag x.cells t ≡ Some g → g.birth ≡ n → g.raised ≡ true → HasAll p (p.nodes w t) n x
    relied s own t n x g real live held listed clean is born raised =
        let c = o.filled s x held.0 in
        let h : IsHeard p (p.mail w) s (p.nodes w s) own t n = record {
          key = c.0;
          cell = c.1;
          has = record { replica = x; is = held.0; own = held.1; listed = listed; cell = c.2 };
          free = inl (ap (λ z. tag_on z (at p own t n c.0)) held.0 ∙ clean c.0);
        } in
        elim (k.heard s own t n real h) [
          | inl removed ↦ absurd (live t removed)
          | inr (inl back) ↦
              let y = back.replica in
              let there : is_listed x.edges t y.birth ≡ true = ap (is_listed x.edges t) back.held.1 ∙ listed in
              let none : (key : Key) → tag_at x.edges t y.birth key ≡ None = (λ key. ap (λ i. tag_at x.edges t i key) back.held.1 ∙ clean key) in
              let P : ℕ → Type 0 = (λ i. (key : Key) (d : C) → x.cells key ≡ Some d → p.edges.Took (p.nodes w t) p.file i d) in
              record {
                replica = y;
                held = back.held;
                all = across p.edges sound.edges (p.nodes w) (p.mail w) o.promises p.file s t x y held.0 back.held.0 there none;
                took = subst P back.held.1 (across_took p.edges sound.edges (p.nodes w) (p.mail w) o.promises p.file s t x y held.0 back.held.0 there none);
              }
          | inr (inr told) ↦ absurd (elim (past_gold s own t n x told.replica g real held h told.went is born) [
            | inl removed ↦ live t removed
            | inr lowered ↦ let z : true ≡ false = sym raised ∙ lowered in cc
          ])
        ]

    pub dropped : (v : W) (turn : Turn N M) → Acts p w v turn → ((j : ℕ) → p.Removed (p.nodes w j) turn.server → ⊥)
        → (own : ℕ) (x : Replica C) → Holds p (p.nodes w turn.server) own x → p.Went v turn.server own x
        → (peer : ℕ) × (birth : ℕ) × Hears p turn.heard (Word.LeaveOk peer birth turn.server own) × (p.Removed (p.nodes w turn.server) peer → ⊥) × HasAll p (p.nodes w peer) birth x
    dropped v turn act live own x held went =
        let d = act.rule.drops own x held went in
        let e = o.wants turn.server own d.peer d.birth act.follows.server d.wanted in
        let same = same_replica p (p.nodes w turn.server) e.replica x e.held.0 held.0 in
        let listed : is_listed x.edges d.peer d.birth ≡ true = sym (ap (λ (z : Replica C). is_listed z.edges d.peer d.birth) same) ∙ e.listed in
        let is : p.flag x.cells d.peer ≡ Some e.flag = sym (ap (λ (z : Replica C). p.flag z.cells d.peer) same) ∙ e.is in
        (d.peer, d.birth, d.leave, d.there, relied turn.server own d.peer d.birth x e.flag act.follows.server live held listed (λ key. d.clean d.peer d.birth key listed) is e.born e.raised)

module _ {W N M C : Type 0} (p : Protocol W N M C) where
  pub reliable_law : GoldsAreReliable p
  reliable_law sound w o k s own t n x g real live held listed clean is born raised = relied p sound w o k s own t n x g real live held listed clean is born raised

  pub drop_law : DropsLeaveAll p
  drop_law sound w v turn o k act live own x held went = dropped p sound w o k v turn act live own x held went
