-- What is kept of edges and replicas that went, and what other laws give, whenever an event is
-- over.
use Rattle.std.specs.Prelude.{ℕ, ◌≡◌, ◌⊎◌, ◌<◌, ◌≤◌, true, false, Contains, List, Option, None, Some}
use Rattle.pg_edges.specs.declared.key.Key.{Key}
use Rattle.pg_edges.specs.Edges.{is_listed}
use Rattle.pg_register.specs.declared.flag.Flag.{Flag}
use Rattle.theory_flood.specs.Promises.Saying.{AckTo}
use Rattle.theory_flood.specs.Server.{Replica, Slot, slot}
use Rattle.theory_flood.specs.Protocol as flooding
use Rattle.theory_leaving.specs.Protocol.{Protocol, Word, HasLater, Has, Holds}

module _ {W N M C : Type 0} (p : Protocol W N M C) where
  -- such a message was ever sent
  abbrev pub IsSaid : List M → Word → Type 0
  IsSaid mail word = (m : M) × Contains mail m × (p.says m ≡ word)

  -- and so was this answer
  abbrev pub IsAnswered : List M → ℕ → Slot → ℕ → Type 0
  IsAnswered mail owner q tag = (m : M) × Contains mail m × (p.edges.says m ≡ AckTo owner q tag)

  -- a key on the edge from the replica of the birth `own` to the peer's of this birth
  abbrev pub at : ℕ → ℕ → ℕ → Key → Slot
  at own peer birth key = slot p.file own peer birth key

  -- AN EDGE IS HEARD OF, by its peer, where some key is not on it any more, or an answer was ever
  -- sent under the tag that its key has now
  pub record IsHeard (mail : List M) (s : ℕ) (a : N) (own peer birth : ℕ) : Type 0 where
    pub key : Key
    pub cell : C
    pub has : flooding.Has p.edges a (at own peer birth key) cell
    pub free :
        (flooding.tag p.edges a (at own peer birth key) ≡ None)
        ⊎ ((g : ℕ) × (flooding.tag p.edges a (at own peer birth key) ≡ Some g)
        × IsAnswered mail s (at own peer birth key) g)

  module _ (w : W) where
    -- its replica of this birth went
    abbrev pub IsPast : ℕ → ℕ → Type 0
    IsPast server birth = (y : Replica C) × p.Went w server birth y

    -- ---- what is kept

    -- the peer holds that birth, and has an edge back
    pub record IsNamedBack (a : N) (birth s own : ℕ) : Type 0 where
      pub replica : Replica C
      pub held : Holds p a birth replica
      pub listed : is_listed replica.edges s own ≡ true

    -- the replica of that birth went, and a Bye is owed
    pub record IsToBeTold (t : ℕ) (a : N) (birth s own : ℕ) : Type 0 where
      pub replica : Replica C
      pub went : p.Went w t birth replica
      pub owed : p.Owes a birth s own

    -- what is so of an edge from server s at its other end, server t, which holds this
    abbrev pub IsKnown : ℕ → N → ℕ → ℕ → ℕ → Type 0
    IsKnown t a birth s own =
        p.Removed a s ⊎ (IsNamedBack a birth s own ⊎ IsToBeTold t a birth s own)

    -- owes: who owes a Bye has no such replica any more heard: an edge that is heard of is known at
    -- its other end bye, bye_ok: what a Bye and its answer promise last: who has an edge that is
    -- heard of, to a replica that went, has the last own flag that this
    --   had, or a later one
    -- lowered: and that flag was not raised
    pub record IsKept : Type 0 where
      pub owes : (t birth s own : ℕ) → p.Owes (p.nodes w t) birth s own → IsPast t birth
      pub heard :
          (s own t birth : ℕ) → p.IsServer s → IsHeard (p.mail w) s (p.nodes w s) own t birth
          → IsKnown t (p.nodes w t) birth s own
      pub bye : (t birth : ℕ) → IsSaid (p.mail w) (Word.Bye t birth) → IsPast t birth
      pub bye_ok :
          (s t birth : ℕ) → IsSaid (p.mail w) (Word.ByeOk s t birth)
          → IsPast t birth × ((own : ℕ) → IsHeard (p.mail w) s (p.nodes w s) own t birth → ⊥)
      pub last :
          (s own t birth : ℕ) (x y : Replica C) (f : Flag) → p.IsServer s
          → Holds p (p.nodes w s) own x
          → IsHeard (p.mail w) s (p.nodes w s) own t birth → p.Went w t birth y
          → p.flag y.cells t ≡ Some f → f.birth ≡ birth
          → p.Removed (p.nodes w t) s ⊎ HasLater p x.cells t f
      pub lowered :
          (t birth : ℕ) (y : Replica C) (f : Flag) → p.Went w t birth y
          → p.flag y.cells t ≡ Some f → f.birth ≡ birth → f.raised ≡ false

    -- ---- what other laws give

    -- the last own flag that these cells have of a birth is this one, or has a greater number
    pub record IsUpToLast (cells : Key → Option C) (server : ℕ) (f : Flag) : Type 0 where
      pub last : Flag
      pub is : p.flag cells server ≡ Some last
      pub born : last.birth ≡ f.birth
      pub older : (f ≡ last) ⊎ (f.number < last.number)

    -- who wants a replica to go has an edge to the one that it relies on, and sees its flag raised
    pub record IsWanted (a : N) (own peer birth : ℕ) : Type 0 where
      pub replica : Replica C
      pub held : Holds p a own replica
      pub listed : is_listed replica.edges peer birth ≡ true
      pub flag : Flag
      pub is : p.flag replica.cells peer ≡ Some flag
      pub born : flag.birth ≡ birth
      pub raised : flag.raised ≡ true

    -- promises: edges and messages keep what they promise
    -- births: an edge names no later birth than the one that its peer holds
    -- gone: what is said to be gone is not held, and what went is not either
    -- flags: of a birth that went nobody has a later flag than the last own one
    -- apart: no edge is to the server itself
    -- filled: each replica has some cell
    pub record IsInOrder : Type 0 where
      pub promises : flooding.KeepsEdges p.edges (p.nodes w) (p.mail w)
      pub births :
          (s t birth later : ℕ) (x y : Replica C) → p.IsServer s → p.IsServer t
          → Has p (p.nodes w s) x → is_listed x.edges t later ≡ true
          → Holds p (p.nodes w t) birth y → later ≤ birth
      pub gone :
          (t birth : ℕ) (x : Replica C) → IsSaid (p.mail w) (Word.Gone t birth)
          → Holds p (p.nodes w t) birth x → ⊥
      pub past :
          (t birth : ℕ) (x y : Replica C) → p.Went w t birth y → Holds p (p.nodes w t) birth x → ⊥
      pub flags :
          (s t birth : ℕ) (x y : Replica C) (f : Flag) → p.IsServer s → Has p (p.nodes w s) x
          → p.Went w t birth y → p.flag x.cells t ≡ Some f → f.birth ≡ birth
          → IsUpToLast y.cells t f
      pub apart :
          (s birth : ℕ) (x : Replica C) → Has p (p.nodes w s) x → is_listed x.edges s birth ≡ true
          → ⊥
      pub filled :
          (s : ℕ) (x : Replica C) → Has p (p.nodes w s) x
          → (key : Key) × (c : C) × (x.cells key ≡ Some c)
      pub wants :
          (s own peer birth : ℕ) → p.IsServer s → p.Leaves (p.nodes w s) own peer birth
          → IsWanted (p.nodes w s) own peer birth
