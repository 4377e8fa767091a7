-- An answer by its parts.
use Rattle.std.proofs.Common.{◌≡◌, ◌∙◌, ap}
use Rattle.pg_pieces.specs.pg_msg.declared.work.Work.{Work}
use Rattle.pg_pieces.specs.pg_call.declared.reply.Reply.{Reply}
use Rattle.pg_pieces.specs.pg_store.declared.store.Store.{Store}
use Rattle.pg_checks.specs.Answer.{Answer}

abbrev answer_of : Store → Work → Reply → Answer
answer_of s w r = record { store = s; work = w; reply = r }

pub whole : (a : Answer) (s : Store) (w : Work) (r : Reply) → s ≡ a.store → w ≡ a.work → r ≡ a.reply
    → ◌≡◌ {A = Answer} (record { store = s; work = w; reply = r }) a
whole a s w r p q t =
    ap (λ (x : Store). answer_of x w r) p ∙ ap (λ (y : Work). answer_of a.store y r) q
    ∙ ap (λ (z : Reply). answer_of a.store a.work z) t
