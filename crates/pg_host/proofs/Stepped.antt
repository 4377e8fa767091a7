-- What a server holds behind an input fits, and what comes of it can be sent.
use Rattle.std.proofs.Common.{◌≡◌, ◌≤◌, ◌∙◌, ◌++◌, ℕ, map, Option, Some, None, Result, Ok, Err, IfOk, IfSome, Contains, refl, sym, ap, subst}
use Rattle.pg_call.specs.declared.reply.Reply.{Reply}
use Rattle.pg_msg.specs.declared.message.Sent.{Sent}
use Rattle.pg_server.specs.declared.input.Input.{Input}
use Rattle.pg_server.specs.declared.input.Out.{Out}
use Rattle.pg_server.specs.Local.{Effect, effect, effect_of}
use Rattle.pg_store.specs.declared.store.Store.{Store}
use Rattle.pg_node_input.specs.law_lengths.law_spelled.Stores.{FitsStore}
use Rattle.pg_node_input.specs.law_lengths.Laws.{FitsOn}
use Rattle.pg_node_input.specs.law_lengths.Packets.{HasReplyWidths, IsSentWell, IsToldWell}
use Rattle.pg_packet_write.specs.Calls.{FitsReply}
use Rattle.pg_host.specs.declared.asking.Back.{Back}
use Rattle.pg_host.specs.Sends.{message_packet, packets, reply_packets}

-- what the server promises, in the word that opens only here
pub effect_is : (s : Store) (i : Input) → effect_of s i ≡ effect s i
unfolding effect_of
effect_is s i = refl

-- a server that begins
pub begins_fit : {S E : Type 0} (store : S → Store) (x : Store) (r : Result S E) → FitsStore x → IfOk r (λ s. store s ≡ x) → IfOk r (λ s. FitsStore (store s))
begins_fit store x (Ok s) fits is = subst (λ (y : Store). FitsStore y) (sym is) fits
begins_fit store x (Err e) fits is = tt

some_told : (o : Option Reply) → ((r : Reply) → o ≡ Some r → IsToldWell r) → IfSome o (λ r. IsToldWell r)
some_told None each = tt
some_told (Some r) each = each r refl

module _ (s : Store) (i : Input) (fits : FitsOn (effect_of s i)) where
  pub store_fits : (new : Store) → new ≡ (effect_of s i).store → FitsStore new
  store_fits new is = subst (λ (x : Store). FitsStore x) (sym is) fits.store

  module _ (out : Out) (is : out ≡ (effect_of s i).out) where
    pub told_well : IfSome out.reply (λ r. IsToldWell r)
    told_well = subst (λ (x : Out). IfSome x.reply (λ r. IsToldWell r)) (sym is) (some_told (effect_of s i).out.reply fits.out.told)

    pub sent_to : (m : Sent) → Contains out.sent m → m.to ≤ 64
    sent_to = subst (λ (x : Out). (m : Sent) → Contains x.sent m → m.to ≤ 64) (sym is) fits.out.to

    pub sent_well : (m : Sent) → Contains out.sent m → IsSentWell m
    sent_well = subst (λ (x : Out). (m : Sent) → Contains x.sent m → IsSentWell m) (sym is) fits.out.sent

-- what goes out, by what the server holds then and what came of the input
pub packets_are : (port : ℕ) (back : Back) (e : Effect) (store : Store) (out : Out) → store ≡ e.store → out ≡ e.out
    → reply_packets store back out.reply ++ map (message_packet port) out.sent ≡ packets port back e
packets_are port back e store out store_is out_is =
    ap (λ (x : Store). reply_packets x back out.reply ++ map (message_packet port) out.sent) store_is
    ∙ ap (λ (x : Out). reply_packets e.store back x.reply ++ map (message_packet port) x.sent) out_is

-- a reply that may be told has a spelling
pub reply_spelled : (number : ℕ) (r : Reply) → IsToldWell r → HasReplyWidths r → FitsReply r
reply_spelled number r well widths = (well widths number).spelled
