-- What a protocol says of its servers and messages, so that the edges can be read in them.
use Rattle.std.specs.Prelude.{ℕ, ◌≡◌, ◌≢◌, ◌⊎◌, List, Option, Some}
use Rattle.pg_base.specs.declared.id.FileId.{FileId}
use Rattle.theory_flood.specs.Promises.{Saying, Promise, Kept}
use Rattle.theory_flood.specs.Server.{Replica, Server, Slot, peer_of, tag_on, HasCell, HoldsThere}

-- N: what a server holds. M: messages. C: cells
-- see: what the edges see of a server
-- IsUpTo: whoever holds the second cell covers the first
-- IsOver: the server drew this birth for its replica of the file, and holds it no longer; what more
--   is known of a cell that the replica had is the protocol's to say
-- Took: the replica of this birth at a server took what this cell tells, and not only something
--   later; a protocol that promises no more than covering makes it always true
-- says: what a message says to the edges
-- Noted: what a server heard, and may answer in a later event
pub record Protocol (N M C : Type 0) : Type 1 where
  pub see : N → Server C
  pub IsUpTo : C → C → Type 0
  pub IsOver : N → FileId → ℕ → C → Type 0
  pub Took : N → FileId → ℕ → C → Type 0
  pub says : M → Saying Slot C
  pub Noted : N → Saying Slot C → Type 0

module _ {N M C : Type 0} (p : Protocol N M C) where
  -- cells are up to themselves, and on through others
  pub record IsOrdered : Type 0 where
    pub same : (c : C) → p.IsUpTo c c
    pub further : (a b c : C) → p.IsUpTo a b → p.IsUpTo b c → p.IsUpTo a c

  -- what has to be true of it: its cells are in order, and a birth that is over is not held
  pub record IsSound : Type 0 where
    pub order : IsOrdered
    pub ends :
        (a : N) (file : FileId) (birth : ℕ) (c : C) (x : Replica C)
        → p.IsOver a file birth c → (p.see a).replicas file ≡ Some x → x.birth ≢ birth

  abbrev pub tags_of : N → ℕ
  tags_of a = (p.see a).tags

  abbrev pub tag : N → Slot → Option ℕ
  tag a q = tag_on ((p.see a).replicas q.file) q

  abbrev pub Has : N → Slot → C → Type 0
  Has a q c = HasCell (p.see a) q c

  -- the replica at the other end of the slot's edge holds this cell or more and took what it tells,
  -- or is over
  abbrev pub Covers : N → Slot → C → Type 0
  Covers a q c =
      (HoldsThere p.IsUpTo (p.see a) q c × p.Took a q.file q.birth c) ⊎ p.IsOver a q.file q.birth c

  -- what a message under way promises
  abbrev pub Promised : (ℕ → N) → Saying Slot C → Type 0
  Promised nodes x = Promise p.says tags_of tag Has Covers peer_of p.Noted nodes x

  -- where a key is acknowledged, the peer covers the cell, and messages keep their promises
  abbrev pub KeepsEdges : (ℕ → N) → List M → Type 0
  KeepsEdges nodes bag = Kept p.says tags_of tag Has Covers peer_of p.Noted nodes bag
