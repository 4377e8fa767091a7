-- What is kept, and what follows of replicas that go.
use Rattle.std.specs.Prelude.{ℕ, ◌≡◌, true, [], None, Some}
use Rattle.pg_edges.specs.declared.key.Key.{Key}
use Rattle.pg_edges.specs.Edges.{is_listed, tag_at}
use Rattle.pg_register.specs.declared.flag.Flag.{Flag}
use Rattle.theory_flood.specs.Server.{Replica, HoldsAll}
use Rattle.theory_leaving.specs.Protocol.{Protocol, Word, IsSound, Holds}
use Rattle.theory_leaving.specs.Moment.{IsKept, IsInOrder, IsNamedBack}
use Rattle.theory_leaving.specs.Rule.{Turn, Acts, Hears}

module _ {W N M C : Type 0} (p : Protocol W N M C) where
  -- servers to begin with: nothing was sent, no replica went, no Bye is owed, and each edge is
  -- named back
  pub record IsStart (w : W) : Type 0 where
    pub silent : p.mail w ≡ []
    pub none : (t birth : ℕ) (y : Replica C) → p.Went w t birth y → ⊥
    pub owes : (t birth s own : ℕ) → p.Owes (p.nodes w t) birth s own → ⊥
    pub back :
        (s own t birth : ℕ) (x : Replica C) → p.IsServer s → Holds p (p.nodes w s) own x
        → is_listed x.edges t birth ≡ true → IsNamedBack p w (p.nodes w t) birth s own

  abbrev pub StartsHold : Type 0
  StartsHold = (w : W) → IsStart w → IsKept p w

  -- WHAT ONE SERVER DOES BY THE RULE KEEPS ALL
  abbrev pub ActsKeep : Type 0
  ActsKeep =
      IsSound p → (w v : W) (turn : Turn N M) → IsInOrder p w → IsInOrder p v
      → Acts p w v turn → IsKept p w → IsKept p v

  -- an event in which no server does anything
  pub record Idles (w v : W) : Type 0 where
    pub nodes : (k : ℕ) → p.nodes v k ≡ p.nodes w k
    pub mail : p.mail v ≡ p.mail w
    pub stays : (k birth : ℕ) (y : Replica C) → p.Went w k birth y → p.Went v k birth y
    pub from : (k birth : ℕ) (y : Replica C) → p.Went v k birth y → p.Went w k birth y

  abbrev pub IdlesKeep : Type 0
  IdlesKeep = (w v : W) → Idles w v → IsKept p w → IsKept p v

  -- a server holds the thing with this birth, and has and took every cell of a replica
  pub record HasAll (a : N) (birth : ℕ) (x : Replica C) : Type 0 where
    pub replica : Replica C
    pub held : Holds p a birth replica
    pub all : HoldsAll p.edges.IsUpTo x.cells replica.cells
    pub took : (key : Key) (c : C) → x.cells key ≡ Some c → p.edges.Took a p.file birth c

  -- WHO MAY BE RELIED ON: a server that nobody knows to be removed has a clean edge to a birth
  -- whose flag it sees raised. Then that birth is held, with every cell. This holds at any time,
  -- with or without a leave
  abbrev pub GoldsAreReliable : Type 0
  GoldsAreReliable =
      IsSound p → (w : W) → IsInOrder p w → IsKept p w
      → (s own t birth : ℕ) (x : Replica C) (f : Flag) → p.IsServer s
      → ((k : ℕ) → p.Removed (p.nodes w k) s → ⊥) → Holds p (p.nodes w s) own x
      → is_listed x.edges t birth ≡ true
      → ((key : Key) → tag_at x.edges t birth key ≡ None)
      → p.flag x.cells t ≡ Some f → f.birth ≡ birth → f.raised ≡ true
      → HasAll (p.nodes w t) birth x

  -- SAFE DROP: a replica that goes, at a server that nobody knows to be removed, goes by leave of
  -- another that is not removed there, and that has and took all that it had
  abbrev pub DropsLeaveAll : Type 0
  DropsLeaveAll =
      IsSound p → (w v : W) (turn : Turn N M) → IsInOrder p w → IsKept p w
      → Acts p w v turn → ((k : ℕ) → p.Removed (p.nodes w k) turn.server → ⊥)
      → (own : ℕ) (x : Replica C) → Holds p (p.nodes w turn.server) own x
      → p.Went v turn.server own x
      → (peer : ℕ) × (birth : ℕ) × Hears p turn.heard (Word.LeaveOk peer birth turn.server own)
      × (p.Removed (p.nodes w turn.server) peer → ⊥) × HasAll (p.nodes w peer) birth x
