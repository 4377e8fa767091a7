-- A server's own flags are of births that it gave out: it flags what it holds alone.
use Rattle.std.proofs.Common.{ℕ, ◌≡◌, Bool, true, false, cond, Option, None, Some, is_some, refl, sym, ap, subst}
use Rattle.std.proofs.lemmas.Bool.{false≢true}
use Rattle.pg_run.specs.pg_base.declared.id.FileId.{FileId}
use Rattle.pg_run.specs.pg_msg.declared.update.Update.TheVariants as update
use Rattle.pg_run.specs.pg_msg.declared.work.Work.{Work}
use Rattle.pg_run.specs.pg_msg.Work.{with_made}
use Rattle.pg_run.specs.pg_names.Names.{InodeValue, is_flag_new, known, own_of}
use Rattle.pg_run.specs.pg_register.declared.flag.Flag.{Flag}
use Rattle.pg_run.specs.pg_store.declared.store.Store.{Store}
use Rattle.pg_run.specs.pg_store.Births.{birth_of}
use Rattle.pg_run.specs.pg_store.Seen.{server_of}
use Rattle.pg_run.specs.pg_store.Store.{is_held, is_newer_flag, put_flag, take_flag}
use Rattle.pg_run.specs.pg_pieces.Done.{Done, idle}
use Rattle.pg_run.specs.pg_pieces.Making.{make_flag, own_next}
use Rattle.pg_run.specs.pg_pieces.Taking.{take_flag_noted}
use Rattle.pg_run.proofs.Still.{flag_still}
use Rattle.law_births.specs.Flags.{SaysStore}
use Rattle.law_births.proofs.EndsSay.{ends_stay}
use Rattle.law_births.proofs.Mails.{OfBirths, Owed}
use Rattle.law_births.proofs.Pieces.{flag_stays}
use Rattle.law_births.proofs.Saying.{IsSaid, said_on}
use Rattle.law_births.proofs.StoreSays.{say_flag}

module _ (P : FileId → ℕ → ℕ → Type 0) (G : FileId → ℕ → Type 0) (s from : ℕ) where
  -- flags are of births that were given out
  abbrev Q : FileId → Flag → Type 0
  Q f flag = OfBirths P f flag

  abbrev pub Fine : Done → Type 0
  Fine d = IsSaid P (OfBirths P) G s from d

  -- a server's own flag is one, where its birth was given out
  own_fine : (b : Store) (f : FileId) (raised : Bool) → server_of b ≡ s → P f s (birth_of b f) → Q f (own_next b f raised)
  own_fine b f raised server one = let R : ℕ → Type 0 = λ z. P f z (birth_of b f) in subst R (sym server) one

  -- what is not held takes none
  none_new : (b : Store) (f : FileId) (flag : Flag) (o : Option InodeValue) → known b.names f ≡ o → is_some o ≡ false → is_newer_flag b f flag ≡ false
  none_new b f flag None at away = ap (λ (o : Option InodeValue). is_flag_new (own_of o) flag) at
  none_new b f flag (Some x) at away = absurd (false≢true (sym away))

  flag_says : (b : Store) (f : FileId) (raised : Bool) → SaysStore Q (Owed P G s) s b → (is_held b f ≡ true → P f s (birth_of b f)) → (t : Bool)
      → is_held b f ≡ t → SaysStore Q (Owed P G s) s (take_flag b f (own_next b f raised))
  flag_says b f raised k one true held = say_flag Q (Owed P G s) s b f (own_next b f raised) (own_fine b f raised k.names.server (one held)) k
  flag_says b f raised k one false away =
      let flag = own_next b f raised in
      subst (λ (t : Bool). SaysStore Q (Owed P G s) s (cond t (put_flag b f flag) b)) (sym (none_new b f flag (known b.names f) refl away)) k

  pub fine_flag : (b : Store) (f : FileId) (raised : Bool) (w : Work) → Fine (idle b w) → (is_held b f ≡ true → P f s (birth_of b f))
      → Fine (make_flag b f (own_next b f raised) w)
  fine_flag b f raised w k one =
      let flag = own_next b f raised in
      let v = with_made w (update.Flag f flag) in
      let noted = said_on P Q G s from (idle b w) (idle b v) k k.store k.edges (record { sent = refl; tail = refl; from = refl }) in
      said_on P Q G s from (idle b v) (take_flag_noted b f flag v) noted (flag_says b f raised k.store one (is_held b f) refl)
      (ends_stay P (flag_stays b f flag) k.edges) (flag_still b f flag v).mail
