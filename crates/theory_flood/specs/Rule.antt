-- What one server may do in one event, and send.
use Rattle.std.specs.Prelude.{ℕ, ◌≡◌, ◌<◌, ◌≤◌, ◌⊎◌, All, List, Option, None, Some}
use Rattle.theory_flood.specs.Promises.{Saying}
use Rattle.theory_flood.specs.Promises.Saying.{CellFor, AckTo, Other}
use Rattle.theory_flood.specs.Protocol.{Protocol, tags_of, tag, Has, Covers}
use Rattle.theory_flood.specs.Server.{Slot, peer_of}

-- the parameters are those of the promises
module _ {N S C M : Type 0} (says : M → Saying S C) (tags : N → ℕ) (tag : N → S → Option ℕ)
    (Has Covers : N → S → C → Type 0) (peer : S → ℕ) (Noted : N → Saying S C → Type 0) where
  -- What an event may do to a server, so that promises outlive it: tags rise, what it covers it
  -- goes on to cover, and where a tag stands afterwards it stood there before, at the same cell, or
  -- was given out in this event
  pub record Onward (a b : N) : Type 0 where
    pub tags_up : tags a ≤ tags b
    pub covers : (q : S) (c : C) → Covers a q c → Covers b q c
    pub owed :
        (q : S) (c : C) (g : ℕ) → Has b q c → tag b q ≡ Some g
        → (Has a q c × (tag a q ≡ Some g)) ⊎ (tags a ≤ g)

  -- the key was acknowledged before, or is by the answer that was heard
  abbrev pub Settled : ℕ → N → Saying S C → S → Type 0
  Settled s a heard q = (tag a q ≡ None) ⊎ ((g : ℕ) × (tag a q ≡ Some g) × (heard ≡ AckTo s q g))

  -- What a server may send: the cell of a slot of its own, under a tag that stands there, if at
  -- all, and nowhere else; and the answer to a cell that it heard, in this event or earlier, once
  -- it covers it. The answer has the cell's tag. It may name another slot: there the tag does not
  -- stand
  abbrev pub MaySend : ℕ → N → N → Saying S C → Saying S C → Type 0
  MaySend s a b heard (CellFor o q g c) =
      (o ≡ s) × (g < tags b)
      × ((r : S) (d : C) → Has b r d → tag b r ≡ Some g → (r ≡ q) × (d ≡ c))
  MaySend s a b heard (AckTo o r g) =
      (q : S) × (c : C) × (peer q ≡ s)
      × ((heard ≡ CellFor o q g c) ⊎ Noted a (CellFor o q g c)) × Covers b q c
  MaySend s a b heard Other = Unit {0}

  -- THE RULE FOR ONE SERVER that held a, heard this, and then holds b and sends these. A key is
  -- acknowledged afterwards only where it was before, or its answer was heard, and in both cases
  -- the cell stayed
  pub record Local (s : ℕ) (a b : N) (heard : Saying S C) (sent : List M) : Type 0 where
    pub onward : Onward a b
    pub free : (q : S) (c : C) → Has b q c → tag b q ≡ None → Has a q c × Settled s a heard q
    pub notes : (x : Saying S C) → Noted b x → Noted a x ⊎ (heard ≡ x)
    pub sends : All (λ m. MaySend s a b heard (says m)) sent

module _ {N M C : Type 0} (p : Protocol N M C) where
  abbrev pub Rule : ℕ → N → N → Saying Slot C → List M → Type 0
  Rule s a b heard sent =
      Local p.says (tags_of p) (tag p) (Has p) (Covers p) peer_of p.Noted s a b heard sent
