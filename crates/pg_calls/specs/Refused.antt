-- What a refused call leaves, and a call at the end of the clock.
use Rattle.std.specs.Prelude.{ℕ, ◌≡◌, ◌⊎◌, true, false, None}
use Rattle.pg_base.specs.declared.id.FileId.{FileId}
use Rattle.pg_cells.specs.pg_intent.declared.key.IntentKey.TheVariants as key
use Rattle.pg_cells.specs.pg_intent.Intents.{stands}
use Rattle.pg_cells.specs.pg_msg.declared.message.Message.TheVariants.{Fetch}
use Rattle.pg_cells.specs.pg_msg.declared.work.Work.{Work}
use Rattle.pg_cells.specs.pg_call.declared.call.Call.{Call}
use Rattle.pg_cells.specs.pg_call.declared.refusal.Refusal.{Refusal}
use Rattle.pg_cells.specs.pg_call.declared.refusal.Refusal.TheVariants.{NotYet}
use Rattle.pg_cells.specs.pg_call.declared.reply.Reply.TheVariants.{Refused}
use Rattle.pg_cells.specs.pg_store.declared.store.Store.{Store}
use Rattle.pg_cells.specs.pg_store.Births.{with_birth, with_wish}
use Rattle.pg_cells.specs.pg_store.Store.{is_full, is_before_clock_end}
use Rattle.pg_cells.specs.pg_pieces.Posting.{post}
use Rattle.pg_checks.specs.Answer.{Answer}
use Rattle.pg_checks.specs.Asking.{fresh_wish, standing}
use Rattle.pg_calls.specs.Calls.{do_call}

-- a wish with a fresh birth was kept for what is not here yet, of which none stood, nor a Fill
abbrev pub KeepsWish : Store → Refusal → Store → Type 0
KeepsWish store why left = (file : FileId) × (target : ℕ) × (why ≡ NotYet file)
    × (standing store file ≡ None)
    × (left ≡ with_wish (with_birth store) file (fresh_wish store target))

-- one fetch of what is not here yet was sent
abbrev pub SendsFetch : Store → Work → Refusal → Work → Type 0
SendsFetch store work why left = (file : FileId) × (birth to : ℕ) × (why ≡ NotYet file)
    × (left ≡ post store to (Fetch file birth) work)

-- for any reason but that a thing is not here yet nothing has changed. For that one a wish may have
-- been kept and a fetch sent, and the thing is not held and full
pub record OnlyAsks (store : Store) (work : Work) (why : Refusal) (left : Answer) : Type 0 where
  pub kept : (left.store ≡ store) ⊎ KeepsWish store why left.store
  pub sent : (left.work ≡ work) ⊎ SendsFetch store work why left.work
  pub missing : (file : FileId) → why ≡ NotYet file → is_full store file ≡ false

-- so of each call that is refused
abbrev pub RefusedOnlyAsks : Store → Call → Work → Refusal → Type 0
RefusedOnlyAsks store call work why = (do_call store call work).reply ≡ Refused why
    → OnlyAsks store work why (do_call store call work)

-- at the end of the clock a call changes nothing
abbrev pub LateDoesNothing : Store → Call → Work → Type 0
LateDoesNothing store call work = is_before_clock_end store ≡ false
    → ((do_call store call work).store ≡ store) × ((do_call store call work).work ≡ work)

-- what a call came to and is filling is asked for as its Fill asks: where that stands no wish is
-- kept, and no birth is given out
abbrev pub FilledKeepsNoWish : Store → Call → Work → FileId → Type 0
FilledKeepsNoWish store call work file = stands store.intents (key.Fill file) ≡ true
    → (do_call store call work).reply ≡ Refused (NotYet file)
    → (do_call store call work).store ≡ store
