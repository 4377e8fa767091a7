-- What is told of the children of directories is kept fit, and answered by what has a spelling.
use Rattle.std.proofs.Common.{refl}
use Rattle.pg_base.specs.declared.id.FileId.{FileId}
use Rattle.pg_base.specs.declared.stamp.Stamp.{Stamp}
use Rattle.pg_entries.specs.declared.entry.Entry.{Entry}
use Rattle.pg_server.specs.pg_pieces.pg_intent.declared.key.IntentKey.TheVariants as intent_key
use Rattle.pg_server.specs.pg_pieces.pg_intent.Intents.{aimed, ended, intent_at}
use Rattle.pg_msg.specs.declared.message.Ask.{Ask}
use Rattle.pg_msg.specs.declared.message.Ask.TheVariants as ask
use Rattle.pg_msg.specs.declared.message.Message.TheVariants as message
use Rattle.pg_msg.specs.declared.work.Work.{Work}
use Rattle.pg_server.specs.pg_pieces.pg_store.declared.store.Store.{Store}
use Rattle.pg_server.specs.pg_pieces.pg_store.Beginning.{with_intents}
use Rattle.pg_server.specs.pg_pieces.pg_store.Servers.{next_target}
use Rattle.pg_server.specs.pg_pieces.pg_store.Store.{is_held}
use Rattle.pg_server.specs.pg_pieces.pg_house.Work.{is_root}
use Rattle.pg_server.proofs.pg_pieces.pg_house.Truths.{chosen}
use Rattle.pg_server.specs.pg_pieces.Done.{idle}
use Rattle.pg_server.specs.pg_pieces.Posting.{reply}
use Rattle.pg_server.specs.pg_pieces.Taking.{take_entry_noted, take_flags_noted, take_place_noted}
use Rattle.pg_server.specs.pg_repair.Confirming.{confirm, end_confirmed, is_confirmed, own_entry, place_is, place_told, take_told_place}
use Rattle.pg_server.specs.pg_repair.NoneHere.{asking_key, does_ask, none_here}
use Rattle.pg_server.specs.pg_repair.Telling.{is_told, tell, tell_ok}
use Rattle.law_spelled.specs.Stores.{FitsListed, FitsStore}
use Rattle.law_spelled.proofs.Handlers.{Fit, replied}
use Rattle.law_spelled.proofs.Intents.{aimed_fit, ended_fit}
use Rattle.law_spelled.proofs.Messages.{FitsChild, child_told}
use Rattle.law_spelled.proofs.Places.{blank_fits}
use Rattle.law_spelled.proofs.Servers.{next_may}
use Rattle.law_spelled.proofs.Stores.{FitsDone, entry_noted, flags_noted, intended, place_noted}

-- what is known of a thing is an entry for it
pub own_entry_fits : (s : Store) (f : FileId) → FitsStore s → FitsListed f (own_entry s f)
own_entry_fits s f h =
    let own = blank_fits s.names h.names f in
    record { child = refl; place = own.place; flags = own.flags }

told_place : (s : Store) (e : Entry) (work : Work) → FitsListed e.child e → Fit s work → FitsDone (take_told_place s e work)
told_place s e work k h =
    chosen FitsDone (is_root e.child) (idle s work) (take_place_noted s e.child e.place work) h (place_noted s work h e.child e.place k.place)

pub confirm_fits : (s : Store) (dir : FileId) (e : Entry) (work : Work) → FitsChild dir e → Fit s work → FitsDone (confirm s dir e work)
confirm_fits s dir e work k h =
    let one = take_told_place s e work in
    let a = told_place s e work k.1 h in
    let two = take_flags_noted one.store e.child e.flags one.work in
    let b = flags_noted one.store e.child e.flags one.work k.1.flags.each (record { store = a.store; work = a.work }) in
    let own = own_entry two.store e.child in
    chosen FitsDone (is_held s e.child) (place_told dir e.child two) (idle s (reply s (message.NoneHere ask.Confirm dir e.child) work))
    (replied two.store (message.PlaceIs dir own) two.work (λ w. child_told dir own (k.0, own_entry_fits two.store e.child b.store) w)
    (record { store = b.store; work = b.work }))
    (replied s (message.NoneHere ask.Confirm dir e.child) work (λ w. tt) h)

confirmed_fits : (s : Store) (dir : FileId) (e : Entry) → FitsStore s → FitsStore (end_confirmed s dir e)
confirmed_fits s dir e h =
    let key = intent_key.Confirm dir e.child in
    chosen FitsStore (is_confirmed s dir e.child e.place.stamp) (with_intents s (ended s.intents key)) s
    (intended s h (ended s.intents key) (ended_fit s.intents key h.intents)) h

pub place_is_fits : (s : Store) (dir : FileId) (e : Entry) (work : Work) → FitsChild dir e → Fit s work → FitsDone (place_is s dir e work)
place_is_fits s dir e work k h =
    let next = take_entry_noted s dir e work in
    let a = entry_noted s work h dir e k.1 in
    chosen FitsDone (is_held s dir) (idle (end_confirmed next.store dir e) next.work) (idle s work)
    (record { store = confirmed_fits next.store dir e a.store; work = a.work }) h

pub tell_fits : (s : Store) (dir : FileId) (e : Entry) (work : Work) → FitsChild dir e → Fit s work → FitsDone (tell s dir e work)
tell_fits s dir e work k h =
    let next = take_entry_noted s dir e work in
    let a = entry_noted s work h dir e k.1 in
    let answer = message.TellOk dir e.child e.place.stamp in
    chosen FitsDone (is_held s dir) (idle next.store (reply next.store answer next.work)) (idle s (reply s (message.NoneHere ask.Patch dir e.child) work))
    (replied next.store answer next.work (λ w. record { kind = k.0; fits = w }) (record { store = a.store; work = a.work }))
    (replied s (message.NoneHere ask.Patch dir e.child) work (λ w. tt) h)

pub tell_ok_fits : (s : Store) (dir child : FileId) (stamp : Stamp) (work : Work) → Fit s work → FitsDone (tell_ok s dir child stamp work)
tell_ok_fits s dir child stamp work h =
    let key = intent_key.Patch dir child in
    record {
      store = chosen FitsStore (is_told (intent_at s.intents key) stamp work.from) (with_intents s (ended s.intents key)) s
          (intended s h.store (ended s.intents key) (ended_fit s.intents key h.store.intents)) h.store;
      work = h.work;
    }

pub none_here_fits : (s : Store) (what : Ask) (f child : FileId) (work : Work) → Fit s work → FitsDone (none_here s what f child work)
none_here_fits s what f child work h =
    let key = asking_key what f child in
    let next = next_target s work.from in
    record {
      store = chosen FitsStore (does_ask (intent_at s.intents key) work.from) (with_intents s (aimed s.intents key next)) s
          (intended s h.store (aimed s.intents key next) (aimed_fit s.intents key next (next_may s h.store work.from) h.store.intents)) h.store;
      work = h.work;
    }
