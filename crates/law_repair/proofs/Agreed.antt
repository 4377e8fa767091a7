-- What is known of a gold replica of server k.
use Rattle.std.proofs.Common.{ℕ, ◌≡◌, true, Some, sym, subst}
use Rattle.std.specs.Prelude.{Contains}
use Rattle.pg_run.specs.pg_base.declared.id.FileId.{FileId}
use Rattle.pg_run.specs.pg_msg.declared.message.Ends.{Ends}
use Rattle.pg_run.specs.pg_msg.declared.message.Message.TheVariants as message
use Rattle.pg_run.specs.pg_msg.declared.message.Sent.{Sent}
use Rattle.pg_run.specs.pg_store.declared.store.Store.{Store}
use Rattle.pg_run.specs.pg_store.Store.{is_full}
use Rattle.pg_run.specs.pg_store.Together.{birth_at}
use Rattle.pg_run.specs.Journal.{mail}
use Rattle.pg_run.specs.Run.{World, is_live}
use Rattle.law_repair.proofs.GoldsThere.{flag_at}

-- its replica is full, and this store knows its present flag
abbrev pub Agrees : FileId → ℕ → Store → Store → Type 0
Agrees file k a c = (is_full c file ≡ true) × (flag_at a file k ≡ flag_at c file k)

-- known: each live full replica does
-- told: and each that is said to be full
pub record AreAgreed (n : ℕ) (w : World) (file : FileId) (k : ℕ) : Type 0 where
  pub known : (t : ℕ) → is_live n w t ≡ true → is_full (w.stores t) file ≡ true → Agrees file k (w.stores t) (w.stores k)
  pub told : (m : Sent) (ends : Ends) → Contains (mail w.journal) m → m.packet.message ≡ message.Full ends → ends.file ≡ file
      → is_live n w m.to ≡ true → birth_at (w.stores m.to) file ≡ Some ends.receiver → Agrees file k (w.stores m.to) (w.stores k)

pub agrees_by : (file : FileId) (k : ℕ) (a b c d : Store) → b ≡ a → d ≡ c → Agrees file k a c → Agrees file k b d
agrees_by file k a b c d e f h =
    subst (λ (x : Store). Agrees file k x d) (sym e) (subst (λ (y : Store). Agrees file k a y) (sym f) h)
