-- The first effect of an event begins nothing but Byes and a Leave.
use Rattle.std.proofs.Common.{ℕ, ◌≡◌, Bool, true, false, cond, List, [], ◌∷◌, Option, None, Some, is_some, Result, inl, inr, refl, sym, ap, subst, ◌∙◌}
use Rattle.std.specs.List.{AllByRecursion}
use Rattle.std.specs.Map.{keys_of}
use Rattle.std.specs.Option.{option_map}
use Rattle.std.proofs.lemmas.Bool.{false≢true, or_left, or_right}
use Rattle.pg_run.specs.pg_base.declared.id.FileId.{FileId}
use Rattle.pg_run.specs.pg_call.declared.call.Call.{Call}
use Rattle.pg_run.specs.pg_call.declared.call.Call.TheVariants as call
use Rattle.pg_run.specs.pg_call.declared.reply.Reply.TheVariants as reply
use Rattle.pg_run.specs.pg_calls.GivingUp.{enter_view}
use Rattle.pg_run.specs.pg_checks.Answer.{answer, answered}
use Rattle.pg_run.specs.pg_entries.declared.cell.Cell.TheVariants as cells
use Rattle.pg_run.specs.pg_house.House.{house}
use Rattle.pg_run.specs.pg_house.Work.{state_of}
use Rattle.pg_run.specs.pg_intent.declared.intent.Intent.{Intent}
use Rattle.pg_run.specs.pg_intent.declared.key.IntentKey.{IntentKey}
use Rattle.pg_run.specs.pg_intent.declared.key.IntentKey.TheVariants as key
use Rattle.pg_run.specs.pg_intent.Intent.{aimed_at, key_of}
use Rattle.pg_run.specs.pg_intent.Intents.{has_key, intent_at, keys_to, stands}
use Rattle.pg_run.specs.pg_intent.Key.{is_for_peer}
use Rattle.pg_run.specs.pg_lookup.declared.paths.LookupError.{LookupError}
use Rattle.pg_run.specs.pg_msg.declared.message.Message.{Message}
use Rattle.pg_run.specs.pg_msg.declared.message.Message.TheVariants as message
use Rattle.pg_run.specs.pg_msg.declared.work.Work.{Work}
use Rattle.pg_run.specs.pg_msg.Work.{new_work}
use Rattle.pg_run.specs.pg_cells.Settling.{settle}
use Rattle.pg_run.specs.pg_cells.Ticks.{tick}
use Rattle.pg_run.specs.pg_intentions.Requests.{ask_all}
use Rattle.pg_run.specs.pg_pieces.Done.{Done, idle}
use Rattle.pg_run.specs.pg_pieces.Making.{own_next}
use Rattle.pg_run.specs.pg_server.declared.input.Input.{Input}
use Rattle.pg_run.specs.pg_server.declared.input.Input.TheVariants as input
use Rattle.pg_run.specs.pg_server.Local.{first_effect, is_heard, receive, ticked, without_sources}
use Rattle.pg_run.specs.pg_store.declared.store.Store.{Store}
use Rattle.pg_run.specs.pg_store.Servers.{next_target}
use Rattle.pg_run.specs.pg_store.Store.{is_before_clock_end, is_newer_flag, put_flag}
use Rattle.pg_run.specs.pg_store.Views.{cut, cut_born, cut_each, enter, listed_birth, with_removed}
use Rattle.pg_run.proofs.pg_cells.Settled.{settle_keeps}
use Rattle.pg_run.proofs.pg_intent.Found.{stands_is}
use Rattle.pg_run.proofs.pg_intent.SameKey.{is_same_key-refl}
use Rattle.pg_run.proofs.pg_intent.Turned.{each_found, is_one_of, turned_as}
use Rattle.law_order.proofs.Sounding.{rules_intents}
use Rattle.pg_run.proofs.theory_flood_pieces.Choices.{chosen}
use Rattle.theory_listing_house.proofs.Works.{house_see}
use Rattle.law_full.proofs.Called.{call_sends}
use Rattle.law_full.proofs.Replies.{receive_sends, tick_sends}
use Rattle.law_full.proofs.Works.{IsClosed, made_sends}
use Rattle.law_begins.specs.Confirms.{EntersView}
use Rattle.law_begins.proofs.Calls.{called}
use Rattle.law_begins.proofs.Doubted.{doubted}
use Rattle.law_begins.proofs.Messages.{is_doubted, received}
use Rattle.law_begins.proofs.Pieces.{IsPlain, unlink_none}
use Rattle.law_turns.specs.Turns.{IsOlder, sender_in}

-- ---- who sent the message

module _ (sender : ℕ) where
  abbrev IsFrom : Work → Type 0
  IsFrom w = w.from ≡ sender

  from_closed : IsClosed IsFrom
  from_closed = record {
    touched = λ w f q h. h;
    left = λ w d f h. h;
    unsure = λ w d f h. h;
    linked = λ w f peer h. h;
    begun = λ w i h. h;
    flagged = λ w f g h. h;
    sent = λ w x is h. h;
    last = λ w x is h. h;
  }

  settled_from : (a : Store) (w : Work) → IsFrom w → IsFrom (settle a w).work
  settled_from a w h =
      settle_keeps (λ (b : Store) (v : Work). IsFrom v)
      (λ b v k. house_see (λ (x : Work). x.from) (λ x f q. refl) (λ x u. refl) (λ x d c. refl) v.now (state_of b.names v) ∙ k)
      (λ b f v less k. made_sends IsFrom from_closed b f (own_next b f true) v k) a w h

pub first_from : (a : Store) (asked : Input) → (first_effect a asked).work.from ≡ sender_in asked
first_from a (input.Call moment c) =
    call_sends (IsFrom 0) (from_closed 0) a (new_work moment 0) (record { place = λ v f p so h. h; version = λ v u h. h }) refl c
first_from a (input.Tick moment word) =
    let w = new_work moment 0 in
    let b = without_sources a in
    chosen (λ (d : Done). IsFrom 0 d.work) (is_before_clock_end a) (ticked a word w) (idle a w)
    (tick_sends (IsFrom 0) (from_closed 0) b word (ask_all b (tick b w)) refl) refl
first_from a (input.Arrival packet) =
    let w = new_work 0 packet.from in
    chosen (λ (d : Done). IsFrom packet.from d.work) (is_heard a packet) (receive a packet.message w) (idle a w)
    (receive_sends (IsFrom packet.from) (from_closed packet.from) a w refl packet.message
    (record { granted = λ v b to ends own x h. h; full = λ file birth is holds clean h. h })) refl
first_from a input.Restart = refl

pub from_then : (a : Store) (asked : Input) → let d = first_effect a asked in (settle d.store d.work).work.from ≡ sender_in asked
from_then a asked =
    let d = first_effect a asked in settled_from (sender_in asked) d.store d.work (first_from a asked)

-- ---- keys that are no Bye's and no Leave's

plain_key : (k : IntentKey) → is_for_peer k ≡ false → IsPlain k
plain_key (key.Bye file birth peer) h = absurd (false≢true (sym h))
plain_key (key.Seek file) h = record { no_bye = λ f b p. refl; no_leave = λ f. refl }
plain_key (key.Fill file) h = record { no_bye = λ f b p. refl; no_leave = λ f. refl }
plain_key (key.Patch dir child) h = record { no_bye = λ f b p. refl; no_leave = λ f. refl }
plain_key (key.Confirm dir child) h = record { no_bye = λ f b p. refl; no_leave = λ f. refl }
plain_key (key.Leave file) h = absurd (false≢true (sym h))

module _ (k : IntentKey) (plain : IsPlain k) where
  abbrev NoneAt : Store → Type 0
  NoneAt a = intent_at a.intents k ≡ None

  -- ---- a view is entered

  born_none : (server : ℕ) (a : Store) (f : FileId) (o : Option ℕ) → NoneAt a → NoneAt (cut_born server a f o)
  born_none server a f None h = h
  born_none server a f (Some n) h = unlink_none k plain a f server n h

  cuts_none : (server : ℕ) (files : List FileId) (a : Store) → NoneAt a → NoneAt (cut_each server a files)
  cuts_none server [] a h = h
  cuts_none server (f ∷ files) a h =
      cuts_none server files (cut server a f) (born_none server a f (listed_birth a f server) h)

  turned_none : (to : ℕ) → turned_as k to None ≡ None
  turned_none to = by (is_for_peer k)
    where
      by : (t : Bool) → ◌≡◌ {A = Option Intent} (cond t None (option_map (aimed_at to) None)) None
      by true = refl
      by false = refl

  one_none : (t : Bool) (o : Option Intent) → o ≡ None → ◌≡◌ {A = Option Intent} (cond t o None) None
  one_none true o h = h
  one_none false o h = refl

  enter_none : (a : Store) (server : ℕ) → NoneAt a → NoneAt (enter a server)
  enter_none a server h =
      let b = cut_each server (with_removed a server) (keys_of a.names.held) in
      let to = next_target b server in
      let was = cuts_none server (keys_of a.names.held) (with_removed a server) h in
      let ks = keys_to server b.intents in
      each_found ks b.intents to k
      ∙ ap (λ (o : Option Intent). cond (is_one_of k ks) (turned_as k to o) o) was
      ∙ one_none (is_one_of k ks) (turned_as k to None) (turned_none to)

  -- ---- any first effect

  module _ (a : Store) (none : NoneAt a) where
    entered : (moment : ℕ) (c : Call) → EntersView a (input.Call moment c) → NoneAt (first_effect a (input.Call moment c)).store
    entered moment (call.Giveup view server) enters =
        let w = new_work moment 0 in
        let P : Result (Unit {0}) LookupError → Type 0 =
        λ o. NoneAt (answered a w o (λ found. answer (enter_view a server w) reply.Done)).store in
        subst P (sym enters.1) (enter_none a server none)
    entered moment (call.Mkdir path) enters = absurd enters
    entered moment (call.Create path policy) enters = absurd enters
    entered moment (call.Write path offset bytes) enters = absurd enters
    entered moment (call.Cut path length) enters = absurd enters
    entered moment (call.Read path offset count) enters = absurd enters
    entered moment (call.Fresh path) enters = absurd enters
    entered moment (call.Ls path from) enters = absurd enters
    entered moment (call.Stat target) enters = absurd enters
    entered moment (call.Rename from to) enters = absurd enters
    entered moment (call.Unlink path) enters = absurd enters
    entered moment (call.Rmdir path) enters = absurd enters
    entered moment (call.Forget id) enters = absurd enters
    entered moment (call.Demote target) enters = absurd enters
    entered moment (call.Drop target) enters = absurd enters
    entered moment call.Status enters = absurd enters
    entered moment call.Stop enters = absurd enters

    heard_by : (m : Message) (from : ℕ) (t : Bool) → is_doubted m ≡ t → NoneAt (receive a m (new_work 0 from)).store
    heard_by m from false sure = (received k plain a m (new_work 0 from) sure (none, refl)).0
    heard_by (message.Cell x tag (cells.Entry e false)) from true sure =
        (doubted k plain a x tag e (new_work 0 from) (none, refl)).none
    heard_by m from true sure = absurd (false≢true sure)

    first_none : (asked : Input) → NoneAt (first_effect a asked).store
    first_none (input.Call moment c) = elim (called k plain a moment none c) [
      | inl quiet ↦ quiet.0
      | inr enters ↦ entered moment c enters
    ]
    first_none (input.Tick moment word) =
        let w = new_work moment 0 in
        chosen (λ (d : Done). NoneAt d.store) (is_before_clock_end a) (ticked a word w) (idle a w) none none
    first_none (input.Arrival packet) =
        let w = new_work 0 packet.from in
        chosen (λ (d : Done). NoneAt d.store) (is_heard a packet) (receive a packet.message w) (idle a w)
        (heard_by packet.message packet.from (is_doubted packet.message) refl) none
    first_none input.Restart = none

-- ---- so what stands then is older

none_of : (o : Option Intent) → is_some o ≡ false → o ≡ None
none_of None h = refl
none_of (Some i) h = absurd (false≢true (sym h))

module _ (a b : Store) (none : (k : IntentKey) → IsPlain k → intent_at a.intents k ≡ None → intent_at b.intents k ≡ None) where
  key_older : (k : IntentKey) → stands b.intents k ≡ true → IsOlder a k
  key_older k there = by (stands a.intents k) refl (is_for_peer k) refl
    where
      by : (t : Bool) → stands a.intents k ≡ t → (u : Bool) → is_for_peer k ≡ u → IsOlder a k
      by true stood u peer = inl stood
      by false stood true peer = inr peer
      by false stood false peer =
          let gone = none k (plain_key k peer) (none_of (intent_at a.intents k) (sym (stands_is a.intents k) ∙ stood)) in
          absurd (false≢true (sym (ap is_some gone) ∙ sym (stands_is b.intents k) ∙ there))

  each_older : (is : List Intent) → ((k : IntentKey) → stands is k ≡ true → stands b.intents k ≡ true) → AllByRecursion (λ i. IsOlder a (key_of i)) is
  each_older [] all = tt
  each_older (i ∷ is) all = (
    key_older (key_of i) (all (key_of i) (or_left (has_key (key_of i) i) (stands is (key_of i)) (is_same_key-refl (key_of i)))),
    each_older is (λ k h. all k (or_right (has_key k i) (stands is k) h)),
  )

  pub all_older : AllByRecursion (λ i. IsOlder a (key_of i)) b.intents
  all_older = each_older b.intents (λ k h. h)

-- ---- behind the house rules

settled_intents : (a : Store) (w : Work) → (settle a w).store.intents ≡ a.intents
settled_intents a w =
    settle_keeps (λ (b : Store) (v : Work). b.intents ≡ a.intents) (λ b v k. rules_intents b v ∙ k)
    (λ b f v less k.
    chosen (λ (x : Store). x.intents ≡ a.intents) (is_newer_flag b f (own_next b f true)) (put_flag b f (own_next b f true)) b k k)
    a w refl

pub older_then : (a : Store) (asked : Input) → let d = first_effect a asked in
    AllByRecursion (λ i. IsOlder a (key_of i)) (settle d.store d.work).store.intents
older_then a asked =
    let d = first_effect a asked in
    subst (λ (is : List Intent). AllByRecursion (λ i. IsOlder a (key_of i)) is) (sym (settled_intents d.store d.work))
    (all_older a d.store (λ k plain h. first_none k plain a h asked))
