-- What one server may do in one event.
use Rattle.std.specs.Prelude.{ℕ, ◌≡◌, ◌≢◌, ◌<◌, ◌⊎◌, ◌++◌, true, false, Contains, List, Option, None, Some}
use Rattle.pg_edges.specs.declared.key.Key.{Key}
use Rattle.pg_edges.specs.Edges.{is_listed, tag_at}
use Rattle.pg_register.specs.declared.flag.Flag.{Flag}
use Rattle.theory_flood.specs.Promises.{Saying}
use Rattle.theory_flood.specs.Promises.Saying.{AckTo, Other}
use Rattle.theory_flood.specs.Noting.{SaidIn, noting}
use Rattle.theory_flood.specs.Rule as flooding
use Rattle.theory_flood.specs.Server.{Replica, Slot, HoldsAll}
use Rattle.theory_leaving.specs.Protocol.{Protocol, Word, Has, Holds}
use Rattle.theory_leaving.specs.Moment.{at, IsPast}

-- an event of one server: what it holds afterwards, what came, and what it sends
pub record Turn (N M : Type 0) : Type 0 where
  pub server : ℕ
  pub next : N
  pub heard : Option M
  pub sent : List M

module _ {W N M C : Type 0} (p : Protocol W N M C) where
  -- what came says this
  abbrev pub Hears : Option M → Word → Type 0
  Hears heard word = (m : M) × (heard ≡ Some m) × (p.says m ≡ word)

  -- what came, as the edges read it
  abbrev pub heard_as : Option M → Saying Slot C
  heard_as None = Other
  heard_as (Some m) = p.edges.says m

  -- ---- from one moment to the next

  module _ (w v : W) (turn : Turn N M) where
    -- own, others: one server of the run changes
    -- came: what came was sent before
    -- stays, from: what went stays so; what goes was held, just so
    -- holds: what is held stays held and holds no less, or goes
    pub record Follows : Type 0 where
      pub server : p.IsServer turn.server
      pub own : p.nodes v turn.server ≡ turn.next
      pub others : (k : ℕ) → k ≢ turn.server → p.nodes v k ≡ p.nodes w k
      pub mail : p.mail v ≡ turn.sent ++ p.mail w
      pub came : (m : M) → turn.heard ≡ Some m → Contains (p.mail w) m
      pub stays : (k birth : ℕ) (y : Replica C) → p.Went w k birth y → p.Went v k birth y
      pub from :
          (k birth : ℕ) (y : Replica C) → p.Went v k birth y
          → p.Went w k birth y ⊎ ((k ≡ turn.server) × Holds p (p.nodes w turn.server) birth y)
      pub holds :
          (birth : ℕ) (x : Replica C) → Holds p (p.nodes w turn.server) birth x
          → ((y : Replica C) × Holds p turn.next birth y × HoldsAll p.edges.IsUpTo x.cells y.cells)
          ⊎ p.Went v turn.server birth x

    -- why an edge that was there is there no longer: it gave way to a greater birth, the peer said
    -- that its replica is not there or went, or the peer was removed
    abbrev pub MayGo : Replica C → ℕ → ℕ → Type 0
    MayGo y peer birth =
        ((later : ℕ) × (birth < later) × (is_listed y.edges peer later ≡ true))
        ⊎ (Hears turn.heard (Word.Gone peer birth) ⊎ (Hears turn.heard (Word.Bye peer birth)
        ⊎ p.Removed turn.next peer))

    -- a replica goes by leave of a peer that is not removed, with all edges clean and its own flag
    -- not raised, and a Bye is owed for each edge
    pub record MayDrop (own : ℕ) (x : Replica C) : Type 0 where
      pub peer : ℕ
      pub birth : ℕ
      pub leave : Hears turn.heard (Word.LeaveOk peer birth turn.server own)
      pub wanted : p.Leaves (p.nodes w turn.server) own peer birth
      pub there : p.Removed (p.nodes w turn.server) peer → ⊥
      pub clean :
          (t n : ℕ) (key : Key) → is_listed x.edges t n ≡ true → tag_at x.edges t n key ≡ None
      pub lowered :
          (f : Flag) → p.flag x.cells turn.server ≡ Some f → f.birth ≡ own → f.raised ≡ false
      pub byes : (t n : ℕ) → is_listed x.edges t n ≡ true → p.Owes turn.next own t n

    -- THE RULE FOR ONE SERVER
    -- edges: it keeps that of the edges, and may answer what any message said
    -- goes, drops: why edges and replicas go
    -- owes, ends: a Bye is owed of what went, until it is answered, or its peer is removed
    -- acks: who answers a cell lists its sender
    -- byes: a Bye is sent where it is owed
    -- bye_oks: and answered where the edge is not there any more
    pub record Rule : Type 0 where
      pub edges :
          flooding.Rule (noting p.edges (SaidIn p.edges (p.mail w))) turn.server
          (p.nodes w turn.server) turn.next (heard_as turn.heard) turn.sent
      pub goes :
          (own : ℕ) (x y : Replica C) (t n : ℕ) → Holds p (p.nodes w turn.server) own x
          → Holds p turn.next own y → is_listed x.edges t n ≡ true
          → (is_listed y.edges t n ≡ true) ⊎ MayGo y t n
      pub drops :
          (own : ℕ) (x : Replica C) → Holds p (p.nodes w turn.server) own x
          → p.Went v turn.server own x → MayDrop own x
      pub owes :
          (own t n : ℕ) → p.Owes turn.next own t n
          → p.Owes (p.nodes w turn.server) own t n ⊎ IsPast p v turn.server own
      pub ends :
          (own t n : ℕ) → p.Owes (p.nodes w turn.server) own t n
          → p.Owes turn.next own t n
          ⊎ (Hears turn.heard (Word.ByeOk t turn.server own) ⊎ p.Removed turn.next t)
      pub removed : (t : ℕ) → p.Removed (p.nodes w turn.server) t → p.Removed turn.next t
      pub acks :
          (m : M) (s own u n : ℕ) (key : Key) (g : ℕ) → Contains turn.sent m
          → p.edges.says m ≡ AckTo s (at p own u n key) g
          → (u ≡ turn.server) × (y : Replica C) × Holds p turn.next n y
          × (is_listed y.edges s own ≡ true)
      pub byes :
          (m : M) (u n : ℕ) → Contains turn.sent m → p.says m ≡ Word.Bye u n
          → (u ≡ turn.server) × (t : ℕ) × (k : ℕ) × p.Owes turn.next n t k
      pub bye_oks :
          (m : M) (u t n : ℕ) → Contains turn.sent m → p.says m ≡ Word.ByeOk u t n
          → (u ≡ turn.server) × Hears turn.heard (Word.Bye t n)
          × ((y : Replica C) → Has p turn.next y → is_listed y.edges t n ≡ false)

    -- a server acts by the rule
    pub record Acts : Type 0 where
      pub follows : Follows
      pub rule : Rule
