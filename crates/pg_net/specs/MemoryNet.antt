-- A net in memory.
use Rattle.std.specs.Prelude.{ℕ, ◌≡◌, Some, None, List, [], ◌∷◌, ◌++◌, map, take, drop, replicate}
use Rattle.std.specs.declared.option.Option.{Option}
use Rattle.pg_net.specs.declared.net.Taken.{Taken}
use Rattle.pg_net.specs.Net.{Datagram, Told, cut, next, given_by}
use Rattle.pg_net.specs.Counts.{Counts, none_made}

-- the packets that are left, and what each take gave
pub record Queue : Type 0 where
  pub left : List Datagram
  pub given : List (Option Datagram)

-- what the takes gave: the first packets, and then Idle
abbrev pub given_first : ℕ → List Datagram → ℕ → ℕ → List (Option Datagram)
given_first most packets at idles =
    map (λ (p : Datagram). Some (cut most p)) (take at packets) ++ replicate idles None

-- a take gave the next packet, or Idle where none was left
pub record IsNext (most : ℕ) (answer : Taken) (buf : List ℕ) (old new : Queue) : Type 0 where
  pub next : given_by answer buf ≡ next most old.left
  pub left : new.left ≡ drop 1 old.left
  pub given : new.given ≡ old.given ++ given_by answer buf ∷ []

-- what it tells, the number of takes that answered Ok, and its calls
pub record Remembered : Type 0 where
  pub told : Told
  pub takes : ℕ
  pub counts : Counts

-- a net with these packets to take, and these calls that fail
abbrev pub fresh : List Datagram → List ℕ → Remembered
fresh packets fails = record {
  told = record { bound = None; left = packets; given = []; sent = [] };
  takes = 0;
  counts = none_made fails;
}
