-- Runs: servers step, are removed, and are admitted.
use Rattle.std.specs.Prelude.{ℕ, ◌≡◌, ◌≢◌, ◌<◌, ◌≤◌, ◌⊎◌, true, false, All, List, [], ◌∷◌, None, Some}
use Rattle.theory_listing.specs.Protocol.{Protocol}
use Rattle.theory_listing.specs.World.{Saying, Message, World, Among, after, stepped}
use Rattle.theory_listing.specs.World.Saying.{Other}
use Rattle.theory_listing.specs.Rule.{IsSettled, MayStep, IsSafeDrop}

-- Step: a server hears this, then holds that and sends these
-- Remove: a server is removed, and whoever has this view has entered the removal
-- Admit: a new server begins with this
pub data Event (N F P S : Type 0) : Type 0 where
  Step : (server : ℕ) (node : N) (heard : Message F P S) (sent : List (Saying F P S))
      → Event N F P S
  Remove : (server least : ℕ) → Event N F P S
  Admit : (server : ℕ) (node : N) → Event N F P S

module _ {N F P S : Type 0} (p : Protocol N F P S) where
  abbrev pub removed : World N F P S → ℕ → ℕ → World N F P S
  removed w s least = record {
    nodes = w.nodes;
    live = after w.live s false;
    least = least;
    messages = w.messages;
  }

  abbrev pub admitted : World N F P S → ℕ → N → World N F P S
  admitted w s b = record {
    nodes = after w.nodes s b;
    live = after w.live s true;
    least = w.least;
    messages = w.messages;
  }

  abbrev pub entered : World N F P S → Event N F P S → World N F P S
  entered w (Step s b heard sent) = stepped p w s b sent
  entered w (Remove s least) = removed w s least
  entered w (Admit s b) = admitted w s b

  abbrev pub run : World N F P S → List (Event N F P S) → World N F P S
  run w [] = w
  run w (e ∷ es) = run (entered w e) es

  -- a step of a live server by the rule, upon a message that was sent or upon none
  pub record IsStep
      (w : World N F P S) (s : ℕ) (b : N) (heard : Message F P S) (sent : List (Saying F P S))
      : Type 0 where
    pub live : w.live s ≡ true
    pub said : (heard.says ≡ Other) ⊎ Among heard w.messages
    pub rule : MayStep p w.least (w.nodes s) b heard sent
    pub safe :
        w.least ≤ p.view (w.nodes s) → (f : F) (q : P)
        → p.own (w.nodes s) f ≡ Some q → p.own b f ≡ None
        → IsSafeDrop p w s (w.nodes s) heard f

  -- nobody was this server before, and it begins with directories that have no child
  pub record IsNew (w : World N F P S) (s : ℕ) (b : N) : Type 0 where
    pub absent : w.live s ≡ false
    pub unheard : All (λ m. m.sender ≢ s) w.messages
    pub settled : IsSettled p b
    pub empty : (d c : F) → p.cell b d c ≡ None

  -- a removal is one that nobody has entered
  abbrev pub May : World N F P S → Event N F P S → Type 0
  May w (Step s b heard sent) = IsStep w s b heard sent
  May w (Remove s least) = (k : ℕ) → p.view (w.nodes k) < least
  May w (Admit s b) = IsNew w s b

  abbrev pub IsRun : World N F P S → List (Event N F P S) → Type 0
  IsRun w [] = Unit {0}
  IsRun w (e ∷ es) = May w e × IsRun (entered w e) es

  -- nothing was sent, and no directory has a child
  pub record IsStart (w : World N F P S) : Type 0 where
    pub silent : w.messages ≡ []
    pub settled : (s : ℕ) → IsSettled p (w.nodes s)
    pub empty : (s : ℕ) (d c : F) → p.cell (w.nodes s) d c ≡ None
