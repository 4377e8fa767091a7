-- Who is asked next is another server of the run that is not removed, or nobody.
use Rattle.std.proofs.Common.{ℕ, ◌≡◌, ◌≤◌, ◌==◌, true, false, not, nat_le, List, sym, subst, ◌∙◌}
use Rattle.std.proofs.lemmas.Bool.{and_parts, leb-true, not-true}
use Rattle.law_frame.specs.pg_run.pg_intent.Target.{IsLiveOther}
use Rattle.law_frame.specs.pg_run.pg_intent.Target.{next_target as next_of}
use Rattle.law_frame.proofs.pg_run.pg_intent.Above.{next_lives, not_equal}
use Rattle.law_frame.specs.pg_run.pg_register.Flag.{is_removed}
use Rattle.law_frame.specs.pg_run.pg_store.declared.store.Store.{Store}
use Rattle.law_frame.specs.pg_run.pg_store.Seen.{removed_of, server_of}
use Rattle.law_frame.specs.pg_run.pg_store.Servers.{first_target, next_target}
use Rattle.law_frame.specs.pg_run.pg_store.Servers.{is_live_other as is_live_other_at}
use Rattle.law_frame.proofs.pg_run.theory_flood_pieces.Choices.{chosen}
use Rattle.law_intents.proofs.Far.{Aims, IsLive}

module _ (n s : ℕ) (removed : List ℕ) where
  live_of : (x : ℕ) → IsLiveOther n s removed x → IsLive n s removed x
  live_of x h = record { other = record { least = h.from; most = h.upto; apart = h.differs }; stays = h.stays }

  pub next_of_aims : (t : ℕ) → Aims n s removed (next_of n s removed t)
  next_of_aims t some = live_of (next_of n s removed t) (next_lives n s removed t some)

-- of a server s of n, in whose view these are removed
module _ (n s : ℕ) (r : List ℕ) (a : Store) (servers : a.servers ≡ n) (server : server_of a ≡ s) (removed : removed_of a ≡ r) where
  pub next_aims : (t : ℕ) → Aims n s r (next_target a t)
  next_aims t =
      subst (λ (j : ℕ). Aims n s r (next_of a.servers j (removed_of a) t)) (sym server)
      (subst (λ (m : ℕ). Aims n s r (next_of m s (removed_of a) t)) (sym servers)
      (subst (λ (l : List ℕ). Aims n s r (next_of n s l t)) (sym removed) (next_of_aims n s r t)))

  pub first_aims : (from : ℕ) → Aims n s r from → Aims n s r (first_target a from)
  first_aims from here = chosen (Aims n s r) (from == 0) (next_target a (server_of a)) from (next_aims (server_of a)) here

  -- who is heard is such a server
  pub heard_live : (t : ℕ) → is_live_other_at a t ≡ true → IsLive n s r t
  heard_live t h =
      let one = and_parts (nat_le 1 t) _ h in
      let two = and_parts (nat_le t a.servers) _ one.1 in
      let three = and_parts (not (t == server_of a)) (not (is_removed (removed_of a) t)) two.1 in
      record {
        other = record {
          least = leb-true 1 t one.0;
          most = subst (λ (m : ℕ). t ≤ m) servers (leb-true t a.servers two.0);
          apart = λ same. not_equal t (server_of a) three.0 (same ∙ sym server);
        };
        stays = subst (λ (l : List ℕ). is_removed l t ≡ false) removed (not-true (is_removed (removed_of a) t) three.1);
      }
