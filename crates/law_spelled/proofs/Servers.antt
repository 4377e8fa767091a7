-- Who is asked is a server, or none is.
use Rattle.std.proofs.Common.{ℕ, zero, suc, ◌≡◌, ◌≢◌, ◌==◌, List, All, Option, None, Some, arith}
use Rattle.std.specs.Prelude.{unwrap_or}
use Rattle.std.specs.List.{find}
use Rattle.std.specs.Option.{option_map}
use Rattle.pg_register.specs.declared.flag.Flag.{Flag}
use Rattle.pg_register.specs.Flag.{first_other_gold, is_live_other}
use Rattle.pg_entries.specs.declared.entry.Entry.{Entry}
use Rattle.pg_server.proofs.pg_pieces.pg_intent.Above.{next_lives}
use Rattle.pg_server.specs.pg_pieces.pg_store.declared.store.Store.{Store}
use Rattle.pg_server.specs.pg_pieces.pg_store.Seen.{removed_of, server_of}
use Rattle.pg_server.specs.pg_pieces.pg_store.Servers.{first_target, next_target}
use Rattle.pg_server.proofs.pg_pieces.pg_house.Truths.{chosen}
use Rattle.law_spelled.specs.Stores.{FitsStore, MayBeServer}
use Rattle.law_spelled.proofs.Flags.{IsOfServer, MayBeFlag, first_flag}

some_or_none : (n : ℕ) → (n ≢ 0 → MayBeServer n) → MayBeServer n
some_or_none zero k = omega arith
some_or_none (suc n) k = k (λ e. let bad : suc n ≡ 0 = e in omega (arith, bad))

module _ (s : Store) (h : FitsStore s) where
  pub next_may : (target : ℕ) → MayBeServer (next_target s target)
  next_may target =
      some_or_none (next_target s target)
      (λ some.
      let upto = (next_lives s.servers (server_of s) (removed_of s) target some).upto in
      let most = h.servers in
      omega (arith, upto, most))

  -- the sender of what came, else the next
  pub first_may : (from : ℕ) → MayBeServer from → MayBeServer (first_target s from)
  first_may from k = chosen MayBeServer (from == 0) (next_target s (server_of s)) from (next_may (server_of s)) k

-- the server of a flag, else another
server_or : (o : Option Flag) (next : ℕ) → MayBeFlag o → MayBeServer next → MayBeServer (unwrap_or (option_map (λ (flag : Flag). flag.server) o) next)
server_or None next k h = h
server_or (Some flag) next k h = k.most

-- the least other gold of an entry, else another server
pub gold_or : (server : ℕ) (removed : List ℕ) (e : Entry) (next : ℕ) → All IsOfServer e.flags → MayBeServer next
    → MayBeServer (unwrap_or (first_other_gold server removed e.flags) next)
gold_or server removed e next all h =
    server_or (find (is_live_other server removed) e.flags) next (first_flag (is_live_other server removed) e.flags all) h
