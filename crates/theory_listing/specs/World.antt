-- All servers, and all messages that were ever sent.
use Rattle.std.specs.Prelude.{ℕ, ◌≡◌, ◌==◌, ◌≤◌, ◌⊎◌, if◌then◌else◌, Bool, true, List, [], ◌∷◌, ◌++◌, map}
use Rattle.theory_listing.specs.Protocol.{Protocol}

-- the three messages that tell where a thing stands
pub data Way : Type 0 where
  SureCell : Way
  PlaceIs : Way
  Tell : Way

-- Told: the child has this place, which is live in the directory or says nothing
-- TellOk: the directory has a cell of this stamp or a later one for the child
-- LeaveOk: the sender holds the thing with this birth and this place
-- Other: nothing that counts here
pub data Saying (F P S : Type 0) : Type 0 where
  Told : (way : Way) (dir child : F) (place : P) → Saying F P S
  TellOk : (dir child : F) (stamp : S) → Saying F P S
  LeaveOk : (thing : F) (birth : ℕ) (place : P) → Saying F P S
  Other : Saying F P S

-- view: that of the sender, as it sent this
pub record Message (F P S : Type 0) : Type 0 where
  pub sender : ℕ
  pub view : ℕ
  pub says : Saying F P S

-- least: the least view of a server that has entered the last removal
-- messages: all that were ever sent, whatever was lost, repeated or late
pub record World (N F P S : Type 0) : Type 0 where
  pub nodes : ℕ → N
  pub live : ℕ → Bool
  pub least : ℕ
  pub messages : List (Message F P S)

-- what all servers hold, once one of them holds this
abbrev pub after : {N : Type 0} → (ℕ → N) → ℕ → N → ℕ → N
after nodes server a k = if k == server then a else nodes k

abbrev pub Among : {A : Type 0} → A → List A → Type 0
Among x [] = ⊥
Among x (y ∷ ys) = (x ≡ y) ⊎ Among x ys

module _ {N F P S : Type 0} (p : Protocol N F P S) where
  -- the server is live and has entered the last removal
  pub record IsCurrent (w : World N F P S) (s : ℕ) : Type 0 where
    pub live : w.live s ≡ true
    pub view : w.least ≤ p.view (w.nodes s)

  -- what a server sends carries its name and its view behind the step
  abbrev pub signed : ℕ → ℕ → List (Saying F P S) → List (Message F P S)
  signed s view sent = map (λ x. record { sender = s; view = view; says = x }) sent

  -- one server has stepped
  abbrev pub stepped : World N F P S → ℕ → N → List (Saying F P S) → World N F P S
  stepped w s b sent = record {
    nodes = after w.nodes s b;
    live = w.live;
    least = w.least;
    messages = signed s (p.view b) sent ++ w.messages;
  }
