-- What a server sends and answers at one input, and behind any inputs.
use Rattle.std.proofs.Common.{◌≡◌, Bool, true, false, cond, List, [], ◌∷◌, Some, refl, sym, subst, ◌∙◌}
use Rattle.std.specs.List.{AllByRecursion}
use Rattle.std.proofs.lemmas.Option.{none-some, same_Some}
use Rattle.pg_call.specs.declared.refusal.Refusal.TheVariants.{ClockEnd}
use Rattle.pg_call.specs.declared.reply.Reply.{Reply}
use Rattle.pg_call.specs.declared.reply.Reply.TheVariants as reply
use Rattle.pg_server.specs.pg_pieces.pg_msg.Work.{new_work}
use Rattle.pg_server.specs.declared.input.Input.{Input}
use Rattle.pg_server.specs.declared.input.Input.TheVariants as input
use Rattle.pg_server.specs.Local.{closed, effect_of, finished, first_effect, reply_to, takes_effect}
use Rattle.pg_server.specs.pg_pieces.pg_store.declared.store.Store.{Store}
use Rattle.pg_server.specs.pg_pieces.pg_store.Store.{is_before_clock_end, new_store}
use Rattle.law_spelled.specs.Laws.{NewFits, StepFits}
use Rattle.law_spelled.specs.Messages.{FitsInput}
use Rattle.law_spelled.specs.Stores.{FitsStore}
use Rattle.law_lengths.specs.Laws.{RunSendsPackets, StepSendsPackets, store_behind}
use Rattle.law_lengths.specs.Packets.{IsAskedFew}
use Rattle.law_lengths.proofs.Calls.{call_told}
use Rattle.law_lengths.proofs.Messages.{short_message}
use Rattle.law_lengths.proofs.Replies.{IsTold, reply_packet}

-- ---- replies

clock_told : (t : Bool) → IsTold (cond t reply.Done (reply.Refused ClockEnd))
clock_told true w = record { spelled = tt; names = tt }
clock_told false w = record { spelled = tt; names = tt }

-- what is told, if anything is
replied_well : (s : Store) (i : Input) (r : Reply) → FitsStore s → IsAskedFew i → reply_to s i ≡ Some r → IsTold r
replied_well s (input.Call moment called) r h few is =
    subst IsTold (same_Some _ r is) (call_told s called (new_work moment 0) h.names few)
replied_well s (input.Tick moment word) r h few is = subst IsTold (same_Some _ r is) (clock_told (is_before_clock_end s))
replied_well s (input.Arrival packet) r h few is = absurd (none-some r is)
replied_well s input.Restart r h few is = absurd (none-some r is)

-- an effect answers what the input is answered
told_by : (s : Store) (i : Input) (t : Bool)
    → (cond t (closed (reply_to s i) (first_effect s i)) (finished (reply_to s i) (first_effect s i))).out.reply ≡ reply_to s i
told_by s i true = refl
told_by s i false = refl

effect_told : (s : Store) (i : Input) → (effect_of s i).out.reply ≡ reply_to s i
unfolding effect_of
effect_told s i = told_by s i (takes_effect s i)

-- ---- one input

module _ (steps : StepFits) where
  pub step_by : StepSendsPackets
  step_by s i h fits few =
      let e = steps s i h fits in
      record {
        store = e.store;
        out = record {
          to = λ m is. (e.sent m is).to;
          sent = λ m is w.
              let spelled = (e.sent m is).message w in
              record { spelled = spelled; short = short_message m.packet.message spelled };
          told = λ r is w number.
              reply_packet number r (replied_well s i r h few (sym (effect_told s i) ∙ is) w);
        };
      }

  -- behind any inputs what is held fits
  behind_fits : (s : Store) (inputs : List Input) → FitsStore s → AllByRecursion FitsInput inputs → FitsStore (store_behind s inputs)
  behind_fits s [] h all = h
  behind_fits s (i ∷ inputs) h all = behind_fits (effect_of s i).store inputs (steps s i h all.0).store all.1

  pub run_by : NewFits → RunSendsPackets
  run_by new servers server least most few inputs next all fits asked =
      (step_by (store_behind (new_store servers server) inputs) next
      (behind_fits (new_store servers server) inputs (new servers server least most few) all) fits asked).out
