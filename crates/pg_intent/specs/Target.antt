-- Which server is asked next.
use Rattle.std.specs.Prelude.{ℕ, zero, suc, Bool, ◌≡◌, ◌≢◌, ◌+◌, ◌-◌, ◌≤◌, ◌<◌, ◌==◌, ◌&&◌, not, false, if◌then◌else◌, List, Option, None, Some}
use Rattle.std.specs.Option.{unwrap_or, option_or}
use Rattle.pg_register.specs.Flag.{is_removed}

-- another server, and not one of the removed ones
abbrev pub is_live_other : ℕ → List ℕ → ℕ → Bool
is_live_other server removed other = not (other == server) && not (is_removed removed other)

-- the first of so many numbers above this one that passes the test
abbrev pub first_above : (ℕ → Bool) → ℕ → ℕ → Option ℕ
first_above test n zero = None
first_above test n (suc k) = if test (n + 1) then Some (n + 1) else first_above test (n + 1) k

-- the least live other server above the target, else the least live other server, else 0; servers
-- are numbered from 1
abbrev pub next_target : ℕ → ℕ → List ℕ → ℕ → ℕ
next_target servers server removed target =
    unwrap_or (option_or (first_above (is_live_other server removed) target (servers - target))
    (first_above (is_live_other server removed) 0 servers)) 0

-- ---- what that is

pub record IsLiveOther (servers server : ℕ) (removed : List ℕ) (other : ℕ) : Type 0 where
  pub from : 1 ≤ other
  pub upto : other ≤ servers
  pub differs : other ≢ server
  pub stays : is_removed removed other ≡ false

-- above: where a live other server is above the target, the next is the least of these
-- around: where there are some and none is above, the next is the least of all
-- none: where there is none, the next is 0
pub record IsNextTarget (servers server : ℕ) (removed : List ℕ) (target next : ℕ) : Type 0 where
  pub above : (other : ℕ) → IsLiveOther servers server removed other → target < other
      → IsLiveOther servers server removed next × (target < next) × (next ≤ other)
  pub around : ((other : ℕ) → IsLiveOther servers server removed other → other ≤ target)
      → (other : ℕ) → IsLiveOther servers server removed other
      → IsLiveOther servers server removed next × (next ≤ other)
  pub none : ((other : ℕ) → IsLiveOther servers server removed other → ⊥) → next ≡ 0
