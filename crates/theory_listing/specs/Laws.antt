-- What holds in every world of a run, and what follows where nothing is owed.
use Rattle.std.specs.Prelude.{zero, suc, ◌⊎◌, Option, ℕ, ◌≡◌, ◌≢◌, true, List, None, Some}
use Rattle.theory_listing.specs.Protocol.{Protocol, IsOrdered, Lists}
use Rattle.theory_listing.specs.World.{World, IsCurrent}
use Rattle.theory_listing.specs.Promises.{Kept}
use Rattle.theory_listing.specs.Rule.{Holds}
use Rattle.theory_listing.specs.Runs.{Event, run, IsRun, IsStart}

module _ {N F P S : Type 0} (p : Protocol N F P S) where
  abbrev pub RunsKeep : Type 0
  RunsKeep =
      IsOrdered p → (w : World N F P S) (events : List (Event N F P S))
      → IsStart p w → IsRun p w events → Kept p (run p w events)

  abbrev pub Live : World N F P S → ℕ → Type 0
  Live w s = w.live s ≡ true

  -- a live server holds the thing, with this live place
  pub record Survives (w : World N F P S) (f : F) (q : P) : Type 0 where
    pub server : ℕ
    pub live : Live w server
    pub own : p.own (w.nodes server) f ≡ Some q
    pub live_place : p.IsLive q
    pub inner : f ≢ p.root

  -- Nothing is owed, and two replicas of a directory agree, as the edges give it
  -- views: each live server has entered the last removal
  -- filled: the parent in a held live place is held
  -- passed: no cell is later than the own place beside it
  -- agree, same_cells: held places, and cells of held directories, are the same at all live servers
  pub record IsQuiet (w : World N F P S) : Type 0 where
    pub views : (s : ℕ) → Live w s → IsCurrent p w s
    pub confirms : (s : ℕ) (d c : F) → Live w s → p.Confirms (w.nodes s) d c → ⊥
    pub patches : (s : ℕ) (d c : F) → Live w s → p.patch (w.nodes s) d c ≡ None
    pub filled :
        (s : ℕ) (f : F) (q : P)
        → Live w s → p.own (w.nodes s) f ≡ Some q → p.IsLive q → f ≢ p.root
        → Holds p (w.nodes s) (p.parent q)
    pub passed :
        (s : ℕ) (d f : F) (q r : P)
        → Live w s → p.own (w.nodes s) f ≡ Some q → p.cell (w.nodes s) d f ≡ Some r
        → p.IsBelow (p.stamp q) (p.stamp r) → ⊥
    pub agree :
        (s t : ℕ) (f : F) (q r : P)
        → Live w s → Live w t
        → p.own (w.nodes s) f ≡ Some q → p.own (w.nodes t) f ≡ Some r → q ≡ r
    pub same_cells :
        (s t : ℕ) (d c : F)
        → Live w s → Live w t → Holds p (w.nodes s) d → Holds p (w.nodes t) d
        → p.cell (w.nodes s) d c ≡ p.cell (w.nodes t) d c

  -- there, only: every survivor is listed by each live replica of its parent, with its place, and
  --   by no live replica of another directory or with another place
  -- survives: what is listed survives
  pub record IsListedOnly (w : World N F P S) : Type 0 where
    pub there :
        (f : F) (q : P) (t : ℕ)
        → Survives w f q → Live w t → Holds p (w.nodes t) (p.parent q)
        → Lists p (w.nodes t) (p.parent q) f q
    pub only :
        (f d : F) (q r : P) (t : ℕ)
        → Survives w f q → Live w t → Lists p (w.nodes t) d f r → (r ≡ q) × (d ≡ p.parent q)
    pub survives :
        (f d : F) (q : P) (t : ℕ) → Live w t → Lists p (w.nodes t) d f q → Survives w f q

  abbrev pub QuietLists : Type 0
  QuietLists = IsOrdered p → (w : World N F P S) → Kept p w → IsQuiet w → IsListedOnly w

  -- both, of every run
  abbrev pub RunsList : Type 0
  RunsList =
      IsOrdered p → (w : World N F P S) (events : List (Event N F P S))
      → IsStart p w → IsRun p w events → IsQuiet (run p w events) → IsListedOnly (run p w events)

  -- where one step up leads, and several
  abbrev pub above : Option P → F
  above None = p.root
  above (Some q) = p.parent q

  abbrev pub climb : N → F → ℕ → F
  climb a f zero = f
  climb a f (suc n) = above (p.own a (climb a f n))

  -- What the house rules leave behind
  -- alive: a directory that lists a child is live
  -- out: from each thing a climb comes to the root, or to what is not held live: there is no cycle
  pub record IsHoused (w : World N F P S) : Type 0 where
    pub alive :
        (s : ℕ) (d c : F) (q r : P)
        → Live w s → Lists p (w.nodes s) d c q → p.own (w.nodes s) d ≡ Some r → p.IsLive r
    pub out :
        (s : ℕ) (f : F)
        → Live w s
        → (n : ℕ) × ((climb (w.nodes s) f n ≡ p.root)
        ⊎ ((q : P) → p.own (w.nodes s) (climb (w.nodes s) f n) ≡ Some q → p.IsLive q → ⊥))

  -- rooted: from whatever is held live at a live server a climb leads to the root
  -- brought_back: the parent of a survivor is live wherever it is held
  pub record IsTree (w : World N F P S) : Type 0 where
    pub rooted :
        (s : ℕ) (f : F) (q : P)
        → Live w s → p.own (w.nodes s) f ≡ Some q → p.IsLive q
        → (n : ℕ) × (climb (w.nodes s) f n ≡ p.root)
    pub brought_back :
        (f : F) (q r : P) (t : ℕ)
        → Survives w f q → Live w t → p.own (w.nodes t) (p.parent q) ≡ Some r → p.IsLive r

  -- where it can be told whether a thing is the root
  abbrev pub QuietTree : Type 0
  QuietTree =
      IsOrdered p → ((f : F) → (f ≡ p.root) ⊎ (f ≢ p.root))
      → (w : World N F P S) → Kept p w → IsQuiet w → IsHoused w → IsTree w
