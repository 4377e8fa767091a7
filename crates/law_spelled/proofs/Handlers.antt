-- Each message keeps what is held fit, and is answered by what has a spelling.
use Rattle.std.proofs.Common.{ℕ, ◌≡◌, ◌&&◌, ◌||◌, not, nat_lt, Bool, true, false, cond, Option, None, Some, refl}
use Rattle.std.proofs.lemmas.Bool.{false≢true}
use Rattle.pg_base.specs.declared.id.FileId.{FileId}
use Rattle.pg_base.specs.declared.id.Kind.{Kind}
use Rattle.pg_base.specs.declared.id.Kind.TheVariants.{Dir, File}
use Rattle.pg_entries.specs.declared.cell.Cell.{Cell}
use Rattle.pg_entries.specs.declared.cell.Cell.TheVariants as cells
use Rattle.pg_server.specs.pg_pieces.pg_intent.declared.key.IntentKey.{IntentKey}
use Rattle.pg_server.specs.pg_pieces.pg_intent.declared.key.IntentKey.TheVariants as intent_key
use Rattle.pg_server.specs.pg_pieces.pg_intent.Intents.{aimed}
use Rattle.pg_msg.specs.declared.message.Ends.{Ends}
use Rattle.pg_msg.specs.declared.message.Granted.{Granted}
use Rattle.pg_msg.specs.declared.message.Message.{Message}
use Rattle.pg_msg.specs.declared.message.Message.TheVariants as message
use Rattle.pg_msg.specs.declared.update.Update.TheVariants as update
use Rattle.pg_msg.specs.declared.work.Work.{Work}
use Rattle.pg_msg.specs.Ends.{back}
use Rattle.pg_msg.specs.Sent.{cell_key}
use Rattle.pg_msg.specs.Work.{with_made}
use Rattle.pg_server.specs.pg_pieces.pg_names.Names as names
use Rattle.pg_server.specs.pg_pieces.pg_names.Names.{is_dir, is_dir_kind, own_or_blank}
use Rattle.pg_register.specs.declared.place.Place.{Place}
use Rattle.pg_register.specs.Place.{blank_place}
use Rattle.pg_server.specs.pg_pieces.pg_replica.declared.replica.Replica.{Replica}
use Rattle.pg_server.specs.pg_pieces.pg_store.declared.store.Store.{Store}
use Rattle.pg_server.specs.pg_pieces.pg_store.Beginning.{with_intents}
use Rattle.pg_server.specs.pg_pieces.pg_store.Births.{fill_at, has_birth, is_pending, wish_at, with_wishes}
use Rattle.pg_server.specs.pg_pieces.pg_store.Links.{is_clean, knows_later}
use Rattle.pg_server.specs.pg_pieces.pg_store.Servers.{next_target}
use Rattle.pg_server.specs.pg_pieces.pg_store.Store.{is_full, replica_at, with_names}
use Rattle.pg_server.specs.pg_pieces.pg_store.Wishes.{aim_wish}
use Rattle.pg_server.proofs.pg_pieces.pg_house.Truths.{chosen}
use Rattle.theory_flood_pieces.proofs.Choices.{decided}
use Rattle.pg_server.specs.pg_pieces.declared.accepting.EdgeUse.{EdgeUse}
use Rattle.pg_server.specs.pg_pieces.declared.accepting.EdgeUse.TheVariants as manner
use Rattle.pg_server.specs.pg_pieces.Accepting.{accept, is_accepted, is_answer, link_peer, met, with_gone}
use Rattle.pg_server.specs.pg_cells.Cells.{cell, fits, taken, taken_along}
use Rattle.pg_server.specs.pg_pieces.Done.{Done, idle}
use Rattle.pg_server.specs.pg_pieces.Making.{lower_flag, make_flag, own_next, raise_flag}
use Rattle.pg_server.specs.pg_pieces.Posting.{reply}
use Rattle.pg_server.specs.pg_repair.Fetching.{answer_fetch, ends_to, fetch, give, given, place_to_grant}
use Rattle.pg_server.specs.pg_repair.Filling.{few_golds, fill, full, invite, invited, is_bronze, live_golds, raise_if_few}
use Rattle.pg_server.specs.pg_repair.Granting.{aim_fill, begin_granted, begun_by, fill_asks, grant, granted_own, no_grant, turn_fill, turn_wish, wish_asks}
use Rattle.pg_packet_write.specs.Fits.{FitsKey}
use Rattle.law_spelled.specs.Stores.{FitsOwn, FitsPlace, FitsStore, MayBeServer}
use Rattle.law_spelled.proofs.Flags.{golds}
use Rattle.law_spelled.proofs.Intents.{aimed_fit}
use Rattle.law_spelled.proofs.Messages.{FitsCellOf, FitsPost, place_told as place_spelled}
use Rattle.law_spelled.proofs.Notes.{wish_aimed}
use Rattle.law_spelled.proofs.Places.{blank_fits, blank_place_fits, fill_fits}
use Rattle.law_spelled.proofs.Servers.{next_may}
use Rattle.law_spelled.proofs.Stores.{FitsDone, begun_fits, entry_taken, flag_noted, intended, named, peer_linked, place_noted, posted, version_noted, wished}

dir_by : (k : Kind) → is_dir_kind k ≡ true → k ≡ Dir
dir_by Dir h = refl
dir_by File h = absurd (false≢true h)

abbrev pub Fit : Store → Work → Type 0
Fit s work = FitsDone (idle s work)

pub replied : (s : Store) (m : Message) (work : Work) → FitsPost m → Fit s work → Fit s (reply s m work)
replied s m work k h = record { store = h.store; work = posted s work.from m work h.work.from k h.work }

-- ---- along edges

met_fits : (s : Store) (ends : Ends) (m : EdgeUse) (work : Work) → Fit s work → FitsDone (met s ends m work)
met_fits s ends manner.Makes work h = peer_linked s work h ends.file work.from ends.sender h.work.from
met_fits s ends manner.Needs work h = h
met_fits s ends manner.Answers work h = h

pub accept_fits : (s : Store) (ends : Ends) (m : EdgeUse) (work : Work) → Fit s work → FitsDone (accept s ends m work)
accept_fits s ends m work h =
    chosen FitsDone (has_birth s ends.file ends.receiver) (cond (knows_later s ends.file work.from ends.sender) (idle s work) (met s ends m work))
    (idle s (with_gone s ends m work))
    (chosen FitsDone (knows_later s ends.file work.from ends.sender) (idle s work) (met s ends m work) h (met_fits s ends m work h))
    (chosen (Fit s) (is_answer m || is_pending s ends.file ends.receiver) work (reply s (message.Gone ends.file ends.receiver) work) h
    (replied s (message.Gone ends.file ends.receiver) work (λ w. tt) h))

-- ---- cells

taken_fits : (s : Store) (f : FileId) (c : Cell) (work : Work) → fits f c ≡ true → FitsCellOf f c → Fit s work → FitsDone (taken s f c work)
taken_fits s f (cells.Place p) work fit k h = place_noted s work h f p k
taken_fits s f (cells.Flag g) work fit k h = flag_noted s work h f g k
taken_fits s f (cells.Entry e sure) work fit k h = entry_taken s work h f e sure (dir_by f.kind fit) k
taken_fits s f (cells.Version v) work fit k h = version_noted s work h f v k

key_fits : (f : FileId) (c : Cell) → FitsCellOf f c → FitsKey (cell_key c)
key_fits f (cells.Place p) k = tt
key_fits f (cells.Flag g) k = k
key_fits f (cells.Entry e sure) k = tt
key_fits f (cells.Version v) k = tt

along_fits : (ends : Ends) (tag : ℕ) (c : Cell) (done : Done) → fits ends.file c ≡ true → FitsCellOf ends.file c → FitsDone done
    → FitsDone (taken_along ends tag c done)
along_fits ends tag c done fit k h =
    let next = taken done.store ends.file c done.work in
    let t = taken_fits done.store ends.file c done.work fit k (record { store = h.store; work = h.work }) in
    record {
      store = t.store;
      work = posted next.store next.work.from (message.Ack (back ends) (cell_key c) tag) next.work t.work.from
          (λ w. key_fits ends.file c k) t.work;
    }

pub cell_fits : (s : Store) (ends : Ends) (tag : ℕ) (c : Cell) (work : Work) → FitsCellOf ends.file c → Fit s work → FitsDone (cell s ends tag c work)
cell_fits s ends tag c work k h =
    let met = accept s ends manner.Makes work in
    let a : FitsDone met = accept_fits s ends manner.Makes work h in
    decided FitsDone (fits ends.file c) (cond (is_accepted s work.from manner.Makes ends) (taken_along ends tag c met) met) (idle s work)
    (λ fit. chosen FitsDone (is_accepted s work.from manner.Makes ends) (taken_along ends tag c met) met (along_fits ends tag c met fit k a) a)
    (λ no. h)

-- ---- replicas are asked for and granted

granted_place : (f : FileId) (p : Place) → FitsPlace f p → FitsPlace f (place_to_grant f p)
granted_place f p k = chosen (FitsPlace f) (is_dir f && not p.live) (blank_place f) p (blank_place_fits f) k

given_fits : (s : Store) (ends : Ends) (o : Option Replica) (work : Work) → Fit s work → Fit s (given s ends o work)
given_fits s ends None work h = h
given_fits s ends (Some x) work h =
    let own = own_or_blank s.names ends.file in
    let k : FitsOwn ends.file own = blank_fits s.names h.store.names ends.file in
    replied s _ work
    (λ w. record {
      place = place_spelled ends.file (place_to_grant ends.file own.place) (granted_place ends.file own.place k.place) w;
      flags = golds own.flags k.flags;
    }) h

answer_fits : (s : Store) (f : FileId) (birth : ℕ) (work : Work) → Fit s work → Fit s (answer_fetch s f birth work)
answer_fits s f birth work h =
    let ends = ends_to s f birth in
    chosen (Fit s) (is_clean s f work.from birth) (reply s (message.Full ends) work) (give s ends work)
    (replied s (message.Full ends) work (λ w. tt) h) (given_fits s ends (replica_at s f) work h)

pub fetch_fits : (s : Store) (f : FileId) (birth : ℕ) (work : Work) → Fit s work → FitsDone (fetch s f birth work)
fetch_fits s f birth work h =
    let met = link_peer s f work.from birth work in
    let linked = peer_linked s work h f work.from birth h.work.from in
    let again : Fit met.store met.work = record { store = linked.store; work = linked.work } in
    chosen FitsDone (is_full s f) (cond (knows_later s f work.from birth) (idle s work) (idle met.store (answer_fetch met.store f birth met.work)))
    (idle s (reply s (message.NoGrant f birth) work))
    (chosen FitsDone (knows_later s f work.from birth) (idle s work) (idle met.store (answer_fetch met.store f birth met.work)) h
    (answer_fits met.store f birth met.work again))
    (replied s (message.NoGrant f birth) work (λ w. tt) h)

-- an intention asks another server
aimed_store : (s : Store) (k : IntentKey) (to : ℕ) → MayBeServer to → FitsStore s → FitsStore (with_intents s (aimed s.intents k to))
aimed_store s k to may h = intended s h (aimed s.intents k to) (aimed_fit s.intents k to may h.intents)

granted_fits : (s : Store) (ends : Ends) (g : Granted) (work : Work) → FitsOwn ends.file (granted_own g) → Fit s work
    → FitsDone (begin_granted s ends g work)
granted_fits s ends g work k h =
    let one = begun_by s ends g in
    let begun : Fit one work = record {
      store = begun_fits s ends.file ends.receiver g.policy (granted_own g) false k h.store;
      work = h.work;
    } in
    let met = link_peer one ends.file work.from ends.sender work in
    let linked = peer_linked one work begun ends.file work.from ends.sender h.work.from in
    record {
      store = aimed_store met.store (intent_key.Fill ends.file) met.work.from linked.work.from linked.store;
      work = linked.work;
    }

pub grant_fits : (s : Store) (ends : Ends) (g : Granted) (work : Work) → FitsOwn ends.file (granted_own g) → Fit s work
    → FitsDone (grant s ends g work)
grant_fits s ends g work k h =
    chosen FitsDone (is_pending s ends.file ends.receiver) (begin_granted s ends g work) (accept s ends manner.Makes work)
    (granted_fits s ends g work k h) (accept_fits s ends manner.Makes work h)

turned_wish : (s : Store) (f : FileId) (birth from next : ℕ) → MayBeServer next → FitsStore s → FitsStore (turn_wish s f birth from next)
turned_wish s f birth from next may h =
    chosen FitsStore (wish_asks (wish_at s f) birth from) (with_wishes s (aim_wish s.wishes f next)) s
    (wished s h (aim_wish s.wishes f next) (wish_aimed s.wishes f next may h.wishes)) h

turned_fill : (s : Store) (f : FileId) (birth from next : ℕ) → MayBeServer next → FitsStore s → FitsStore (turn_fill s f birth from next)
turned_fill s f birth from next may h =
    chosen FitsStore (fill_asks (fill_at s f) birth from) (aim_fill s f next) s (aimed_store s (intent_key.Fill f) next may h) h

pub no_grant_fits : (s : Store) (f : FileId) (birth : ℕ) (work : Work) → Fit s work → FitsDone (no_grant s f birth work)
no_grant_fits s f birth work h =
    let next = next_target s work.from in
    let may = next_may s h.store work.from in
    record {
      store = turned_fill (turn_wish s f birth work.from next) f birth work.from next may (turned_wish s f birth work.from next may h.store);
      work = h.work;
    }

-- ---- a filling replica is full

raised_fits : (s : Store) (f : FileId) (raised : Bool) (work : Work) → Fit s work → FitsDone (make_flag s f (own_next s f raised) work)
raised_fits s f raised work h =
    let g = own_next s f raised in
    let made = with_made work (update.Flag f g) in
    flag_noted s made
    (record {
      store = h.store;
      work = record { sent = h.work.sent; tail = h.work.tail; left = h.work.left; unsure = h.work.unsure; from = h.work.from };
    }) f g h.store.names.server

pub flag_lowered : (s : Store) (f : FileId) (work : Work) → Fit s work → FitsDone (lower_flag s f work)
flag_lowered s f work h = raised_fits s f false work h

pub flag_raised : (s : Store) (f : FileId) (work : Work) → Fit s work → FitsDone (raise_flag s f work)
flag_raised s f work h = raised_fits s f true work h

few_fits : (s : Store) (f : FileId) (work : Work) → Fit s work → FitsDone (raise_if_few s f work)
few_fits s f work h =
    chosen FitsDone (nat_lt (live_golds s f) few_golds) (raise_flag s f work) (idle s work) (flag_raised s f work h) h

pub filled_fits : (s : Store) (f : FileId) (work : Work) → Fit s work → FitsDone (fill s f work)
filled_fits s f work h =
    let next = with_names s (names.fill s.names f) in
    let k : Fit next work = record { store = named s h.store (names.fill s.names f) (fill_fits s.names f h.store.names); work = h.work } in
    few_fits next f work k

pub full_fits : (s : Store) (ends : Ends) (work : Work) → Fit s work → FitsDone (full s ends work)
full_fits s ends work h =
    chosen FitsDone (is_accepted s work.from manner.Answers ends && not (is_full s ends.file)) (fill s ends.file work) (idle s work)
    (filled_fits s ends.file work h) h

-- one gold more is asked for
pub invite_fits : (s : Store) (ends : Ends) (work : Work) → Fit s work → FitsDone (invite s ends work)
invite_fits s ends work h =
    let d = accept s ends manner.Needs work in
    let a : FitsDone d = accept_fits s ends manner.Needs work h in
    chosen FitsDone (is_accepted s work.from manner.Needs ends) (invited ends d) d
    (chosen FitsDone (is_bronze d.store ends.file) (raise_if_few d.store ends.file d.work) d
    (few_fits d.store ends.file d.work (record { store = a.store; work = a.work })) a) a
