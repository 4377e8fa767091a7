-- Calls whose check does not go on: what is left of them.
use Rattle.std.proofs.Common.{◌≡◌, ◌∙◌, Result, Err, sym, ap}
use Rattle.pg_cells.specs.pg_msg.declared.work.Work.{Work}
use Rattle.pg_cells.specs.pg_call.declared.reply.Reply.{Reply}
use Rattle.pg_checks.specs.pg_lookup.declared.paths.LookupError.{LookupError}
use Rattle.pg_cells.specs.pg_store.declared.store.Store.{Store}
use Rattle.pg_checks.specs.declared.call_error.CallError.{CallError}
use Rattle.pg_checks.specs.declared.call_error.CallError.TheVariants as denied
use Rattle.pg_checks.specs.Answer.{Answer, Leaves, Tells, answered}

module _ {A : Type 0} (store : Store) (work : Work) (check : Result A LookupError) (next : A → Answer) where
  -- what is left of a call whose check does not go on
  pub denied_left : (why : CallError) (left : Answer) → Tells {A = A} (Err why) check → Leaves why store work left
      → left ≡ answered store work check next
  denied_left (denied.Stopped why) left told is = is ∙ ap (λ x. answered store work x next) (sym told)
  denied_left denied.OutOfMemory left told none = absurd none

  module _ (why : CallError) (s : Store) (w : Work) (r : Reply) (told : Tells {A = A} (Err why) check)
      (is : Leaves why store work (record { store = s; work = w; reply = r })) where
    pub store_is : s ≡ (answered store work check next).store
    store_is = ap (λ (a : Answer). a.store) (denied_left why _ told is)

    pub work_is : w ≡ (answered store work check next).work
    work_is = ap (λ (a : Answer). a.work) (denied_left why _ told is)

    pub reply_is : r ≡ (answered store work check next).reply
    reply_is = ap (λ (a : Answer). a.reply) (denied_left why _ told is)
