-- What stands behind the first effect of an event: what the house rules leave, and which intentions begin.
use Rattle.std.proofs.Common.{ℕ, ◌≡◌, Bool, not, List, [], ◌∷◌, drop, filter, length, find, is_some, Option, None, Some, All, refl, subst}
use Rattle.std.specs.BTreeMap.{insert_entry}
use Rattle.std.specs.Map.{keys_of}
use Rattle.std.proofs.lemmas.List.Elements.{All-append, All-cons, All-head, All-nil, All-tail}
use Rattle.pg_base.specs.declared.id.FileId.{FileId}
use Rattle.pg_base.proofs.Entries.{All-insert_entry}
use Rattle.pg_entries.specs.declared.entry.Entry.{Entry}
use Rattle.pg_server.specs.pg_pieces.pg_intent.declared.intent.Intent.{Intent}
use Rattle.pg_server.specs.pg_pieces.pg_intent.declared.intent.Intent.TheVariants as intent
use Rattle.pg_server.specs.pg_pieces.pg_intent.declared.key.IntentKey.{IntentKey}
use Rattle.pg_server.specs.pg_pieces.pg_intent.declared.key.IntentKey.TheVariants as intent_key
use Rattle.pg_server.specs.pg_pieces.pg_intent.Intent.{key_of}
use Rattle.pg_server.specs.pg_pieces.pg_intent.Intents.{aimed, begun, stands}
use Rattle.pg_msg.specs.declared.work.Slot.{Slot}
use Rattle.pg_msg.specs.declared.work.Touched.{Touched}
use Rattle.pg_msg.specs.declared.work.Work.{Work}
use Rattle.pg_msg.specs.Work.{slot_cmp, with_begun}
use Rattle.pg_msg.proofs.Slots.{slot_exact}
use Rattle.pg_server.specs.pg_pieces.pg_names.Names.{cell_at}
use Rattle.pg_register.specs.declared.flag.Flag.{Flag}
use Rattle.pg_server.specs.pg_pieces.pg_store.declared.store.Store.{Store}
use Rattle.pg_server.specs.pg_pieces.pg_store.declared.wishes.Wish.{Wish}
use Rattle.pg_server.specs.pg_pieces.pg_store.Births.{fill_at, wish_at}
use Rattle.pg_server.specs.pg_pieces.pg_store.Seen.{removed_of, server_of}
use Rattle.pg_server.specs.pg_pieces.pg_store.Servers.{next_target}
use Rattle.pg_server.specs.pg_pieces.pg_store.Store.{is_held, touch, with_names}
use Rattle.pg_server.specs.pg_pieces.pg_store.Wishes.{without_wish}
use Rattle.pg_server.specs.pg_pieces.pg_house.House.{house}
use Rattle.pg_server.specs.pg_pieces.pg_house.Work.{state_of}
use Rattle.pg_server.proofs.pg_pieces.pg_house.Truths.{chosen}
use Rattle.pg_server.specs.pg_cells.Finish.{finish}
use Rattle.pg_server.specs.pg_cells.Sending.{cells_where, is_chosen}
use Rattle.pg_server.specs.pg_cells.Settling.{rules, settle, touch_all}
use Rattle.pg_server.proofs.pg_cells.Settled.{settle_keeps}
use Rattle.pg_server.specs.pg_graph.Walks.{edges_of}
use Rattle.pg_server.specs.pg_intentions.Beginning.{begin_end, end_others, still_stands}
use Rattle.pg_server.specs.pg_intentions.Confirms.{begin_confirm, confirm_of, holder_by, is_doubtful}
use Rattle.pg_server.specs.pg_intentions.Fills.{begin_fill, fill_of, files_to_fill, to_fill, with_fill_birth, without_wished}
use Rattle.pg_server.specs.pg_intentions.Intending.{Slots, add_slots, begin_intent, each, in_order, with_begun_if}
use Rattle.pg_server.specs.pg_intentions.Patches.{begin_patch, begin_patches, patch_of}
use Rattle.pg_server.specs.pg_intentions.Seeks.{aim_seek, begin_seek, has_seek, is_apart, seek_again, seek_target, target_or_next, to_seek, was_linked}
use Rattle.pg_server.specs.pg_pieces.Done.{Done, idle}
use Rattle.pg_server.specs.pg_pieces.Golds.{flags_of}
use Rattle.pg_server.specs.Local.{sent_at_end}
use Rattle.law_spelled.specs.Messages.{FitsSent}
use Rattle.law_spelled.specs.Stores.{FitsIntent, FitsStore, MayBeServer}
use Rattle.law_spelled.proofs.Children.{own_entry_fits}
use Rattle.law_spelled.proofs.Flags.{MayBeFlag, first_flag}
use Rattle.law_spelled.proofs.Handlers.{flag_raised}
use Rattle.law_spelled.proofs.House.{FitsState, IsOfDir, house_fits}
use Rattle.law_spelled.proofs.Intents.{aimed_fit, begun_fit, kept_fit}
use Rattle.law_spelled.proofs.Messages.{AllSent}
use Rattle.law_spelled.proofs.Notes.{wish_ended}
use Rattle.law_spelled.proofs.Places.{blank_fits, cell_fits}
use Rattle.law_spelled.proofs.Sending.{begun_asked, cells_fit}
use Rattle.law_spelled.proofs.Servers.{first_may, gold_or, next_may}
use Rattle.law_spelled.proofs.Stores.{FitsDone, Fine, born, intended as intended_store, named, touch_fits, wished as wished_store}

-- ---- the house rules

all_touched : (s : Store) (ts : List Touched) → FitsStore s → FitsStore (touch_all s ts)
all_touched s [] h = h
all_touched s (t ∷ ts) h = all_touched (touch s t.file t.key) ts (touch_fits s h t.file t.key)

rules_fit : (s : Store) (work : Work) → FitsDone (idle s work) → FitsDone (rules s work)
rules_fit s work h =
    let begun = state_of s.names work in
    let end = house work.now begun in
    let k : FitsState FitsSent end = house_fits FitsSent work.now begun (record { names = h.store.names; work = h.work }) in
    record {
      store = all_touched (with_names s end.names) (drop (length work.touched) end.work.touched) (named s h.store end.names k.names);
      work = k.work;
    }

pub settled_fits : (s : Store) (work : Work) → FitsDone (idle s work) → FitsDone (settle s work)
settled_fits s work h =
    settle_keeps (λ t w. FitsDone (idle t w)) rules_fit (λ t file w less k. flag_raised t file w k) s work h

-- ---- slots in order

abbrev First : Slot × Unit {0} → Type 0
First e = IsOfDir e.0

added_fit : (ss : List Slot) (slots : Slots) → All IsOfDir ss → All First slots → All First (add_slots slots ss)
added_fit [] slots h k = k
added_fit (s ∷ ss) slots h k =
    added_fit ss (insert_entry slot_cmp slots s tt) (All-tail IsOfDir s ss h)
    (All-insert_entry slot_cmp First s tt slots k (All-head IsOfDir s ss h)
    (λ e same. subst IsOfDir (slot_exact s e.0 same) (All-head IsOfDir s ss h)))

keys_fit : (slots : Slots) → All First slots → All IsOfDir (keys_of slots)
keys_fit [] k = All-nil IsOfDir
keys_fit (e ∷ es) k = All-cons IsOfDir e.0 (keys_of es) (All-head First e es k) (keys_fit es (All-tail First e es k))

in_order_fit : (ss : List Slot) → All IsOfDir ss → All IsOfDir (in_order ss)
in_order_fit ss h = keys_fit (add_slots [] ss) (added_fit ss [] h (All-nil First))

-- ---- intentions begin

begun_if : (t : Bool) (work : Work) (k : IntentKey) → Fine work → Fine (with_begun_if t work k)
begun_if t work k h =
    chosen Fine t (with_begun work k) work
    (record { sent = h.sent; tail = h.tail; left = h.left; unsure = h.unsure; from = h.from }) h

pub intent_fits : (s : Store) (i : Intent) (work : Work) → FitsIntent i → FitsDone (idle s work) → FitsDone (begin_intent s i work)
intent_fits s i work k h = record {
  store = intended_store s h.store (begun s.intents i) (begun_fit s.intents i h.store.intents k);
  work = begun_if (not (stands s.intents (key_of i))) work (key_of i) h.work;
}

patch_fits : (s : Store) (x : Slot) (work : Work) → IsOfDir x → FitsDone (idle s work) → FitsDone (begin_patch s x work)
patch_fits s x work k h =
    chosen FitsDone (is_held s x.dir) (idle s work) (begin_intent s (patch_of s x work) work) h
    (intent_fits s (patch_of s x work) work
    (record { about = (k, own_entry_fits s x.child h.store); target = first_may s h.store work.from h.work.from }) h)

holder_may : (s : Store) (dir child : FileId) (o : Option Entry) (next : ℕ) → FitsStore s → MayBeServer next → cell_at s.names dir child ≡ o
    → MayBeServer (holder_by s next o)
holder_may s dir child None next h may e = may
holder_may s dir child (Some c) next h may e =
    gold_or (server_of s) (removed_of s) c next (cell_fits s.names h.names dir child c e).flags.each may

confirm_fits : (s : Store) (x : Slot) (work : Work) → IsOfDir x → FitsDone (idle s work) → FitsDone (begin_confirm s x work)
confirm_fits s x work k h =
    let next = next_target s (server_of s) in
    let may = holder_may s x.dir x.child (cell_at s.names x.dir x.child) next h.store (next_may s h.store (server_of s)) refl in
    chosen FitsDone (is_doubtful s x.dir x.child) (begin_intent s (confirm_of s x) work) (idle s work)
    (intent_fits s (confirm_of s x) work (record { about = k; target = may }) h) h

wished_fits : (s : Store) (f : FileId) (o : Option Wish) → FitsStore s → FitsStore (without_wished s f o)
wished_fits s f None h = born s h
wished_fits s f (Some wish) h = wished_store s h (without_wish s.wishes f) (wish_ended s.wishes f h.wishes)

fill_fits : (s : Store) (f : FileId) (work : Work) → Unit {0} → FitsDone (idle s work) → FitsDone (begin_fill s f work)
fill_fits s f work k h =
    let next = with_fill_birth s f in
    let birth : FitsStore next = chosen FitsStore (is_held s f) s (without_wished s f (wish_at s f)) h.store (wished_fits s f (wish_at s f) h.store) in
    chosen FitsDone (is_some (fill_at s f)) (idle s work) (begin_intent next (fill_of s f work) work) h
    (intent_fits next (fill_of s f work) work (record { about = tt; target = first_may next birth work.from h.work.from })
    (record { store = birth; work = h.work }))

target_may : (s : Store) (o : Option Flag) → FitsStore s → MayBeFlag o → MayBeServer (target_or_next s o)
target_may s None h k = next_may s h (server_of s)
target_may s (Some flag) h k = k.most

seek_may : (s : Store) (f : FileId) → FitsStore s → MayBeServer (seek_target s f)
seek_may s f h =
    let apart = is_apart (server_of s) (removed_of s) (edges_of s f) in
    target_may s (find apart (flags_of s f)) h (first_flag apart (flags_of s f) (blank_fits s.names h.names f).flags.each)

again_fits : (s : Store) (f : FileId) (work : Work) → FitsStore s → FitsStore (seek_again s f work)
again_fits s f work h =
    let next = aimed s.intents (intent_key.Seek f) (seek_target s f) in
    chosen FitsStore (was_linked work.linked f) (aim_seek s f) s
    (intended_store s h next (aimed_fit s.intents (intent_key.Seek f) (seek_target s f) (seek_may s f h) h.intents)) h

seek_fits : (s : Store) (f : FileId) (work : Work) → Unit {0} → FitsDone (idle s work) → FitsDone (begin_seek s f work)
seek_fits s f work k h =
    let i = intent.Seek f (seek_target s f) in
    chosen FitsDone (has_seek s f) (idle (seek_again s f work) work) (begin_intent s i work)
    (record { store = again_fits s f work h.store; work = h.work })
    (intent_fits s i work (record { about = tt; target = seek_may s f h.store }) h)

each_fits : {A : Type 0} (P : A → Type 0) (step : Store → A → Work → Done)
    → ((s : Store) (x : A) (work : Work) → P x → FitsDone (idle s work) → FitsDone (step s x work))
    → (s : Store) (xs : List A) (work : Work) → All P xs → FitsDone (idle s work) → FitsDone (each step s xs work)
each_fits P step one s [] work all h = h
each_fits P step one s (x ∷ xs) work all h =
    let next = one s x work (All-head P x xs all) h in
    each_fits P step one (step s x work).store xs (step s x work).work (All-tail P x xs all) (record { store = next.store; work = next.work })

every : (fs : List FileId) → All (λ (f : FileId). Unit {0}) fs
every fs = λ i d lt. tt

pub intended_fits : (s : Store) (work : Work) → FitsDone (idle s work) → FitsDone (begin_end s work)
intended_fits s work h =
    let files = files_to_fill s.names in
    let rest = end_others s files in
    let one = begin_patches rest work in
    let a : FitsDone one = each_fits IsOfDir begin_patch patch_fits rest (in_order work.left) work (in_order_fit work.left h.work.left)
    (record {
      store = intended_store s h.store (filter (still_stands s files) s.intents) (kept_fit (still_stands s files) s.intents h.store.intents);
      work = h.work;
    }) in
    let two = each begin_fill one.store (to_fill s.names) one.work in
    let b : FitsDone two = each_fits (λ (f : FileId). Unit {0}) begin_fill fill_fits one.store (to_fill s.names) one.work (every (to_fill s.names))
    (record { store = a.store; work = a.work }) in
    let three = each begin_seek two.store (to_seek s) two.work in
    let c : FitsDone three = each_fits (λ (f : FileId). Unit {0}) begin_seek seek_fits two.store (to_seek s) two.work (every (to_seek s))
    (record { store = b.store; work = b.work }) in
    each_fits IsOfDir begin_confirm confirm_fits three.store (in_order three.work.unsure) three.work (in_order_fit three.work.unsure c.work.unsure)
    (record { store = c.store; work = c.work })

-- ---- what is sent at the end

pub ended_fits : (done : Done) → FitsDone done → AllSent (sent_at_end done).sent
ended_fits done h =
    let cells = cells_where done.store (is_chosen done.work.touched done.work.linked) in
    All-append FitsSent (finish done.store done.work).sent _
    (All-append FitsSent done.work.sent cells h.work.sent (cells_fit done.store h.store (is_chosen done.work.touched done.work.linked)))
    (begun_asked done.store h.store done.work.begun)
