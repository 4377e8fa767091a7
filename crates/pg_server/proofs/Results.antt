-- What comes of an input is what comes of its kind; and of a call what its end makes of its answer.
use Rattle.std.proofs.Common.{ℕ, ◌≡◌, ◌∙◌, [], Bool, true, if◌then◌else◌, None, Some, refl, sym, ap}
use Rattle.pg_calls.specs.pg_call.declared.call.Call.{Call}
use Rattle.pg_calls.specs.pg_call.declared.refusal.Refusal.TheVariants.{ClockEnd}
use Rattle.pg_calls.specs.pg_call.declared.reply.Reply.{Reply}
use Rattle.pg_calls.specs.pg_call.declared.reply.Reply.TheVariants as reply
use Rattle.pg_calls.specs.pg_msg.declared.message.Packet.{Packet}
use Rattle.pg_calls.specs.pg_msg.declared.work.Work.{Work}
use Rattle.pg_calls.specs.pg_msg.Work.{new_work}
use Rattle.pg_calls.specs.pg_store.declared.store.Store.{Store}
use Rattle.pg_calls.specs.pg_store.Store.{is_before_clock_end}
use Rattle.pg_calls.specs.pg_pieces.Done.{idle}
use Rattle.pg_calls.specs.pg_cells.Ticks.{tick}
use Rattle.pg_calls.specs.pg_graph.Walks.{walk_of_tick}
use Rattle.pg_calls.specs.pg_intentions.Requests.{ask_all}
use Rattle.pg_calls.specs.Calls.{do_call}
use Rattle.pg_server.specs.declared.input.Input.{Input}
use Rattle.pg_server.specs.declared.input.Input.TheVariants as input
use Rattle.pg_server.specs.Local.{Effect, closed, done_of, effect, effect_of, finished, is_heard, receive, sent_again, without_sources, without_volatile}

pub of_kind : (s : Store) (i k : Input) → i ≡ k → effect s k ≡ effect_of s i
unfolding effect_of
of_kind s i k is = sym (ap (effect s) is)

pub effect_is : (s : Store) (i : Input) → effect_of s i ≡ effect s i
unfolding effect_of
effect_is s i = refl

same_end : (r q : Reply) (b d : Store) (v w : Work) → r ≡ q → b ≡ d → v ≡ w → closed (Some r) (idle b v) ≡ closed (Some q) (idle d w)
same_end r q b d v w rs bs vs =
    ap (λ (x : Reply). closed (Some x) (idle b v)) rs ∙ ap (λ (x : Store). closed (Some q) (idle x v)) bs ∙ ap (λ (x : Work). closed (Some q) (idle d x)) vs

-- where the clock is not at its end the house rules run behind a call
pub called : (a : Store) (m : ℕ) (call : Call) (v : Work) (goes : Bool) (r : Reply) (b : Store) (w : Work)
    → v ≡ new_work m 0 → goes ≡ is_before_clock_end a → goes ≡ true
    → r ≡ (do_call a call v).reply → b ≡ (do_call a call v).store → w ≡ (do_call a call v).work
    → closed (Some r) (idle b w) ≡ effect a (input.Call m call)
called a m call v goes r b w new is true_is rs bs ws =
    let d = do_call a call (new_work m 0) in
    same_end r d.reply b d.store w d.work
    (rs ∙ ap (λ (x : Work). (do_call a call x).reply) new)
    (bs ∙ ap (λ (x : Work). (do_call a call x).store) new)
    (ws ∙ ap (λ (x : Work). (do_call a call x).work) new)
    ∙ sym (ap (λ (t : Bool). if t then closed (Some d.reply) (done_of d) else finished (Some d.reply) (done_of d)) (sym is ∙ true_is))

-- and behind a message that is heard
pub heard : (a : Store) (p : Packet) (v : Work) (goes : Bool) (b : Store) (w : Work)
    → v ≡ new_work 0 p.from → goes ≡ is_heard a p → goes ≡ true
    → b ≡ (receive a p.message v).store → w ≡ (receive a p.message v).work
    → closed None (idle b w) ≡ effect a (input.Arrival p)
heard a p v goes b w new is true_is bs ws =
    let d = receive a p.message (new_work 0 p.from) in
    let rest = idle a (new_work 0 p.from) in
    ap (λ (x : Store). closed None (idle x w)) (bs ∙ ap (λ (x : Work). (receive a p.message x).store) new)
    ∙ ap (λ (x : Work). closed None (idle d.store x)) (ws ∙ ap (λ (x : Work). (receive a p.message x).work) new)
    ∙ sym (ap (λ (t : Bool). if t then closed None (if t then d else rest) else finished None (if t then d else rest)) (sym is ∙ true_is))

-- behind a tick
pub ticked : (a lost : Store) (m word : ℕ) (v u x w : Work) (goes : Bool)
    → v ≡ new_work m 0 → goes ≡ is_before_clock_end a → goes ≡ true → lost ≡ without_sources a
    → u ≡ tick lost v → x ≡ ask_all lost u → w ≡ walk_of_tick lost word x
    → closed (Some reply.Done) (idle lost w) ≡ effect a (input.Tick m word)
ticked a lost m word v u x w goes new is true_is gone us xs ws =
    let none = new_work m 0 in
    let late : Reply = reply.Refused ClockEnd in
    let again = idle (without_sources a) (sent_again (without_sources a) word none) in
    ap (λ (y : Work). closed (Some reply.Done) (idle lost y))
    (ws ∙ ap (walk_of_tick lost word) (xs ∙ ap (ask_all lost) (us ∙ ap (tick lost) new)))
    ∙ ap (λ (s : Store). closed (Some reply.Done) (idle s (sent_again s word none))) gone
    ∙ sym (ap (λ (t : Bool). if t
    then closed (Some (if t then reply.Done else late)) (if t then again else idle a none)
    else finished (Some (if t then reply.Done else late)) (if t then again else idle a none))
    (sym is ∙ true_is))

-- and behind a restart
pub restarted : (a lost : Store) (v : Work) (goes : Bool)
    → v ≡ new_work 0 0 → goes ≡ is_before_clock_end a → goes ≡ true → lost ≡ without_volatile a
    → closed None (idle lost v) ≡ effect a input.Restart
restarted a lost v goes new is true_is gone =
    ap (λ (x : Store). closed None (idle x v)) gone
    ∙ ap (λ (x : Work). closed None (idle (without_volatile a) x)) new
    ∙ sym (ap (λ (t : Bool). if t then closed None (idle (without_volatile a) (new_work 0 0))
    else finished None (idle (without_volatile a) (new_work 0 0))) (sym is ∙ true_is))
