use Rattle.std.proofs.Common.{◌≡◌, ◌∙◌, ◌++◌, ◌∷◌, [], List, map, Contains, refl, ap, sym, subst, append_assoc, arith}
use Rattle.std.proofs.lemmas.List.{map-append}
use Rattle.std.specs.Vec.Iter.{into_iter_items}
use Rattle.pg_msg.specs.declared.message.Sent.{Sent}
use Rattle.pg_net.specs.Net.{Datagram}
use Rattle.pg_host.specs.Sends.{SentFirst, message_packet, with_all}
use Rattle.pg_host.proofs.Lists.{all_behind, contains_seam, first_some, with_all-none}
use Rattle.pg_host.proofs.sending.send_messages.Goals as goal

pub send_message-requires-clause-to : goal.send_message-requires-clause-to
send_message-requires-clause-to g c =
    let at = c.loop-message in
    let split : c.args.messages ≡ at.yielded ++ c.in-Some.message ∷ into_iter_items c.next.new.self =
    at.invariant.whole ∙ ap (λ (rest : List Sent). at.yielded ++ rest) c.in-Some.ensures.steps.0 in
    c.requires.to c.in-Some.message (subst (λ (all : List Sent). Contains all c.in-Some.message) (sym split) (contains_seam at.yielded (into_iter_items c.next.new.self) c.in-Some.message))

pub send_message-requires-clause-well : goal.send_message-requires-clause-well
send_message-requires-clause-well g c =
    let at = c.loop-message in
    let split : c.args.messages ≡ at.yielded ++ c.in-Some.message ∷ into_iter_items c.next.new.self =
    at.invariant.whole ∙ ap (λ (rest : List Sent). at.yielded ++ rest) c.in-Some.ensures.steps.0 in
    c.requires.well c.in-Some.message (subst (λ (all : List Sent). Contains all c.in-Some.message) (sym split) (contains_seam at.yielded (into_iter_items c.next.new.self) c.in-Some.message))

pub returns-in_err-send_message-clause-first : goal.returns-in_err-send_message-clause-first
returns-in_err-send_message-clause-first g c = λ tells.
    let at = c.loop-message in
    let rest : List Sent = into_iter_items at.message-iterator in
    subst (λ (ps : List Datagram). SentFirst (g.N.Net.told c.args.net.now) (g.N.Net.told c.send_message.new.net) ps)
    (sym (ap (map (message_packet c.args.port)) at.invariant.whole ∙ map-append (message_packet c.args.port) at.yielded rest))
    (first_some (g.N.Net.told c.args.net.now) (g.N.Net.told at.net) (g.N.Net.told c.send_message.new.net) (map (message_packet c.args.port) at.yielded) (map (message_packet c.args.port) rest)
    (at.invariant.sent tells) (c.in_err-send_message.ensures.same tells))

pub loop-message-init : goal.loop-message-init
loop-message-init g c = record {
  sent = λ tells. with_all-none (g.N.Net.told c.args.net.now);
  whole = sym (c.into_iter-message-iterator.ensures.into_iter_gives.0 ∙ c.into_vec-message-items.ensures);
  takes = refl;
  later = omega arith;
}

pub loop-message-preserved : goal.loop-message-preserved
loop-message-preserved g c =
    let at = c.loop-message in
    let m : Sent = c.in-Some.message in
    let split : c.args.messages ≡ at.yielded ++ m ∷ into_iter_items c.next.new.self =
    at.invariant.whole ∙ ap (λ (rest : List Sent). at.yielded ++ rest) c.in-Some.ensures.steps.0 in
    record {
      sent = λ tells.
          all_behind (g.N.Net.told c.args.net.now) (g.N.Net.told at.net) (g.N.Net.told c.send_message.new.net) (map (message_packet c.args.port) at.yielded) (message_packet c.args.port m ∷ [])
          (at.invariant.sent tells) (c.in_ok-send_message.ensures.sent tells)
          ∙ ap (with_all (g.N.Net.told c.args.net.now)) (sym (map-append (message_packet c.args.port) at.yielded (m ∷ [])));
      whole = split ∙ sym (append_assoc at.yielded (m ∷ []) (into_iter_items c.next.new.self));
      takes = c.send_message.ensures.takes ∙ at.invariant.takes;
      later = omega (arith, at.invariant.later, c.send_message.ensures.later);
    }
