-- What the pieces of handlers make, and what names they leave: most make nothing, and leave names
-- as they were.
use Rattle.std.proofs.Common.{ℕ, ◌≡◌, ◌==◌, ◌-◌, ◌/◌, ◌%◌, ◌||◌, Bool, true, false, cond, not, List, [], ◌∷◌, length, Option, None, Some, refl, ◌∙◌}
use Rattle.std.specs.List.{slice_get}
use Rattle.pg_run.specs.pg_base.declared.id.FileId.{FileId}
use Rattle.pg_run.specs.pg_base.declared.stamp.Stamp.{Stamp}
use Rattle.pg_run.specs.pg_edges.declared.edge.Edge.{Edge}
use Rattle.pg_run.specs.pg_edges.declared.key.Key.TheVariants as key
use Rattle.pg_run.specs.pg_register.declared.flag.Flag.{Flag}
use Rattle.pg_run.specs.pg_register.declared.place.Place.{Place}
use Rattle.pg_run.specs.pg_entries.declared.cell.Cell.{Cell}
use Rattle.pg_run.specs.pg_entries.declared.cell.Cell.TheVariants as cell
use Rattle.pg_run.specs.pg_entries.declared.entry.Entry.{Entry}
use Rattle.pg_run.specs.pg_intent.declared.intent.Intent.{Intent}
use Rattle.pg_run.specs.pg_intent.declared.key.IntentKey.{IntentKey}
use Rattle.pg_run.specs.pg_intent.declared.key.IntentKey.TheVariants as intent_key
use Rattle.pg_run.specs.pg_intent.Intent.{key_of}
use Rattle.pg_run.specs.pg_intent.Intents.{aimed, ended, intent_at, stands}
use Rattle.pg_run.specs.pg_pieces.declared.accepting.EdgeUse.{EdgeUse}
use Rattle.pg_run.specs.pg_pieces.declared.accepting.EdgeUse.TheVariants as manner
use Rattle.pg_run.specs.pg_msg.declared.message.Ask.TheVariants as ask
use Rattle.pg_run.specs.pg_msg.declared.message.Ends.{Ends}
use Rattle.pg_run.specs.pg_msg.declared.message.Message.TheVariants as message
use Rattle.pg_run.specs.pg_msg.declared.work.Work.{Work}
use Rattle.pg_run.specs.pg_msg.Work.{with_begun}
use Rattle.pg_run.specs.pg_names.Names.{own_or_blank}
use Rattle.pg_run.specs.pg_house.Work.{note_left}
use Rattle.pg_run.proofs.pg_house.Made.{left_made}
use Rattle.pg_run.proofs.theory_flood_pieces.Choices.{chosen}
use Rattle.pg_run.specs.pg_replica.declared.replica.Replica.{Replica}
use Rattle.pg_run.specs.pg_store.declared.store.Store.{Store}
use Rattle.pg_run.specs.pg_store.Beginning.{with_intents}
use Rattle.pg_run.specs.pg_store.Births.{birth_of, fill_at, has_birth, is_pending, wish_at, with_wishes}
use Rattle.pg_run.specs.pg_store.Links.{is_clean, is_linked, is_new_link, knows_later, link, put_link, unlink}
use Rattle.pg_run.specs.pg_store.Seen.{server_of}
use Rattle.pg_run.specs.pg_store.Servers.{next_target}
use Rattle.pg_run.specs.pg_store.Store.{entry_news, is_full, is_held, is_new_version, is_newer_flag, is_newer_place, replica_at}
use Rattle.pg_run.specs.pg_store.Wishes.{aim_wish}
use Rattle.pg_run.specs.pg_pieces.Accepting.{accept, is_accepted, is_answer, link_peer, met, with_gone, with_link}
use Rattle.pg_run.specs.pg_cells.Cells.{taken}
use Rattle.pg_run.specs.pg_pieces.Done.{Done, idle}
use Rattle.pg_run.specs.pg_pieces.Intending.{begin_intent, with_begun_if}
use Rattle.pg_run.specs.pg_pieces.Posting.{reply}
use Rattle.pg_run.specs.pg_pieces.Taking.{is_any_news, take_entry_noted, take_flag_noted, take_flags_noted, take_place_noted, with_doubt, with_left_if}
use Rattle.pg_run.proofs.pg_pieces.News.{news_made}
use Rattle.pg_run.specs.pg_repair.Confirming.{end_confirmed, is_confirmed}
use Rattle.pg_run.specs.pg_repair.Fetching.{answered_fetch, ends_to, fetch, give, given}
use Rattle.pg_run.specs.pg_repair.Granting.{aim_fill, fill_asks, turn_fill, turn_wish, wish_asks}
use Rattle.pg_run.specs.pg_repair.NoneHere.{does_ask, turn}
use Rattle.pg_run.specs.pg_graph.Leaving.{begin_byes, bye_to, gives_leave, leave, leave_given}
use Rattle.pg_run.specs.pg_graph.Seeking.{answered_seek, seek}
use Rattle.pg_run.proofs.pg_graph.LeaveOk.{byes_by}
use Rattle.pg_run.specs.pg_graph.Walks.{edges_of, goes_on, meet_origin, most_hops, onward, walk, walk_along, walk_from, walk_of, walk_of_tick, walk_on, walked, with_few_edges}
use Rattle.pg_run.specs.pg_repair.Telling.{end_told, is_told}

-- ---- names that stay

abbrev KeepsNames : Store → Store → Type 0
KeepsNames a b = b.names ≡ a.names

pub link_names : (a : Store) (file : FileId) (peer birth : ℕ) → (link a file peer birth).names ≡ a.names
link_names a file peer birth =
    chosen (KeepsNames a) (is_new_link a file peer birth) (put_link a file peer birth) a refl refl

pub unlink_names : (a : Store) (file : FileId) (peer birth : ℕ) → (unlink a file peer birth).names ≡ a.names
unlink_names a file peer birth = chosen (KeepsNames a) (is_linked a file peer birth) _ a refl refl

pub turned_names : (a : Store) (file : FileId) (birth from next : ℕ) → (turn_fill (turn_wish a file birth from next) file birth from next).names ≡ a.names
turned_names a file birth from next =
    let b = turn_wish a file birth from next in
    chosen (λ (c : Store). c.names ≡ b.names) (fill_asks (fill_at b file) birth from) (aim_fill b file next) b refl refl
    ∙ chosen (KeepsNames a) (wish_asks (wish_at a file) birth from) (with_wishes a (aim_wish a.wishes file next)) a refl refl

pub none_here_names : (a : Store) (k : IntentKey) (from : ℕ) → (turn a k from).names ≡ a.names
none_here_names a k from =
    chosen (KeepsNames a) (does_ask (intent_at a.intents k) from) (with_intents a (aimed a.intents k (next_target a from))) a refl refl

pub told_names : (a : Store) (dir child : FileId) (stamp : Stamp) (from : ℕ) → (end_told a dir child stamp from).names ≡ a.names
told_names a dir child stamp from =
    let k = intent_key.Patch dir child in
    chosen (KeepsNames a) (is_told (intent_at a.intents k) stamp from) (with_intents a (ended a.intents k)) a refl refl

pub confirmed_names : (a : Store) (dir : FileId) (e : Entry) → (end_confirmed a dir e).names ≡ a.names
confirmed_names a dir e =
    chosen (KeepsNames a) (is_confirmed a dir e.child e.place.stamp) (with_intents a (ended a.intents (intent_key.Confirm dir e.child))) a refl refl

-- ---- what is made

abbrev MakesNo : Work → Work → Type 0
MakesNo v w = w.made ≡ v.made

left_if_made : (t : Bool) (w : Work) (file : FileId) (old : Place) → (with_left_if t w file old).made ≡ w.made
left_if_made t w file old = chosen (MakesNo w) t (note_left w file old) w (left_made w file old) refl

pub place_noted_made : (a : Store) (file : FileId) (p : Place) (w : Work) → (take_place_noted a file p w).work.made ≡ w.made
place_noted_made a file p w =
    let news = is_newer_place a file p in
    let old = (own_or_blank a.names file).place in
    news_made news (with_left_if news w file old) file key.Place ∙ left_if_made news w file old

pub flag_noted_made : (a : Store) (file : FileId) (g : Flag) (w : Work) → (take_flag_noted a file g w).work.made ≡ w.made
flag_noted_made a file g w = news_made (is_newer_flag a file g) w file (key.Flag g.server)

pub flags_noted_made : (gs : List Flag) (a : Store) (file : FileId) (w : Work) → (take_flags_noted a file gs w).work.made ≡ w.made
flags_noted_made [] a file w = refl
flags_noted_made (g ∷ gs) a file w =
    let d = take_flag_noted a file g w in
    flags_noted_made gs d.store file d.work ∙ flag_noted_made a file g w

pub entry_noted_made : (a : Store) (dir : FileId) (e : Entry) (w : Work) → (take_entry_noted a dir e w).work.made ≡ w.made
entry_noted_made a dir e w = news_made (is_any_news (entry_news a dir e)) w dir (key.Entry e.child)

doubt_made : (t : Bool) (w : Work) (dir child : FileId) → (with_doubt t w dir child).made ≡ w.made
doubt_made true w dir child = refl
doubt_made false w dir child = refl

pub taken_made : (a : Store) (file : FileId) (c : Cell) (w : Work) → (taken a file c w).work.made ≡ w.made
taken_made a file (cell.Place p) w = place_noted_made a file p w
taken_made a file (cell.Flag g) w = flag_noted_made a file g w
taken_made a file (cell.Entry e sure) w =
    doubt_made _ (take_entry_noted a file e w).work file e.child ∙ entry_noted_made a file e w
taken_made a file (cell.Version v) w = news_made (is_new_version a file v) w file (key.Version v.head.stamp)

-- ---- messages along edges

link_made : (t : Bool) (w : Work) (file : FileId) (peer : ℕ) → (with_link t w file peer).made ≡ w.made
link_made true w file peer = refl
link_made false w file peer = refl

abbrev pub IsStill : Store → Work → Done → Type 0
IsStill a w d = (d.store.names ≡ a.names) × (d.work.made ≡ w.made)

pub linked_still : (a : Store) (file : FileId) (peer birth : ℕ) (w : Work) → IsStill a w (link_peer a file peer birth w)
linked_still a file peer birth w = (link_names a file peer birth, link_made (is_new_link a file peer birth) w file peer)

gone_made : (a : Store) (ends : Ends) (how : EdgeUse) (w : Work) → (with_gone a ends how w).made ≡ w.made
gone_made a ends how w =
    chosen (MakesNo w) (is_answer how || is_pending a ends.file ends.receiver) w (reply a (message.Gone ends.file ends.receiver) w) refl refl

met_still : (a : Store) (ends : Ends) (how : EdgeUse) (w : Work) → IsStill a w (met a ends how w)
met_still a ends manner.Makes w = linked_still a ends.file w.from ends.sender w
met_still a ends manner.Needs w = (refl, refl)
met_still a ends manner.Answers w = (refl, refl)

pub accepted_still : (a : Store) (ends : Ends) (how : EdgeUse) (w : Work) → IsStill a w (accept a ends how w)
accepted_still a ends how w =
    chosen (IsStill a w) (has_birth a ends.file ends.receiver) _ (idle a (with_gone a ends how w))
    (chosen (IsStill a w) (knows_later a ends.file w.from ends.sender) (idle a w) (met a ends how w) (refl, refl) (met_still a ends how w))
    (refl, gone_made a ends how w)

-- ---- replicas that leave

pub leave_still : (a : Store) (ends : Ends) (stamp : Stamp) (w : Work) → IsStill a w (leave a ends stamp w)
leave_still a ends stamp w =
    let e = accept a ends manner.Makes w in
    let s = accepted_still a ends manner.Makes w in
    chosen (IsStill a w) (is_accepted a w.from manner.Makes ends) (leave_given ends stamp e) e
    (s.0, chosen (λ (v : Work). v.made ≡ w.made) (gives_leave e.store ends.file stamp) _ e.work s.1 s.1) s

begun_made : (t : Bool) (w : Work) (q : IntentKey) → (with_begun_if t w q).made ≡ w.made
begun_made t w q = chosen (λ (v : Work). v.made ≡ w.made) t (with_begun w q) w refl refl

-- an intention begins
pub intent_still : (a : Store) (i : Intent) (w : Work) → IsStill a w (begin_intent a i w)
intent_still a i w = (refl, begun_made (not (stands a.intents (key_of i))) w (key_of i))

pub byes_still : (b : Store) (file : FileId) (birth : ℕ) (es : List Edge) (w : Work) → IsStill b w (begin_byes file birth es (idle b w))
byes_still b file birth es w =
    byes_by (IsStill b w) (λ (e : Edge). Unit {0}) file birth
    (λ d e any k. (let one = intent_still d.store (bye_to file birth e) d.work in (one.0 ∙ k.0, one.1 ∙ k.1)))
    es (λ i e lt. tt) (idle b w) (refl, refl)

-- ---- golds and walks

pub seek_still : (a : Store) (file : FileId) (birth : ℕ) (w : Work) → IsStill a w (seek a file birth w)
seek_still a file birth w =
    let l = link_peer a file w.from birth w in
    let s = linked_still a file w.from birth w in
    chosen (IsStill a w) (is_held a file) _ (idle a (reply a (message.NoneHere ask.Seek file file) w))
    (chosen (IsStill a w) (knows_later a file w.from birth) (idle a w) (answered_seek file birth l) (refl, refl) (s.0, s.1)) (refl, refl)

along_made : (a : Store) (file : FileId) (origin birth hops word : ℕ) (w : Work) (o : Option Edge) → (walk_along a file origin birth hops word w o).made ≡ w.made
along_made a file origin birth hops word w None = refl
along_made a file origin birth hops word w (Some e) = refl

pub walk_still : (a : Store) (ends : Ends) (origin birth hops word : ℕ) (w : Work) → IsStill a w (walk a ends origin birth hops word w)
walk_still a ends origin birth hops word w =
    let edges = onward a ends.file w.from origin in
    let gone = walked a ends origin birth hops word edges w in
    let s = linked_still a ends.file origin birth w in
    chosen (IsStill a w) (is_accepted a w.from manner.Needs ends) (cond (origin == server_of a) (idle a w) gone) (accept a ends manner.Needs w)
    (chosen (IsStill a w) (origin == server_of a) (idle a w) gone (refl, refl)
    (chosen (IsStill a w) (goes_on hops edges) (idle a (walk_on a ends.file origin birth hops word edges w)) (meet_origin a ends.file origin birth w)
    (refl, along_made a ends.file origin birth (hops - 1) (word / length edges) w (slice_get edges (word % length edges))) (s.0, s.1)))
    (accepted_still a ends manner.Needs w)

from_made : (a : Store) (word : ℕ) (w : Work) (o : Option FileId) → (walk_from a word w o).made ≡ w.made
from_made a word w None = refl
from_made a word w (Some f) =
    along_made a f (server_of a) (birth_of a f) most_hops (word / length (edges_of a f)) w (slice_get (edges_of a f) (word % length (edges_of a f)))

pub tick_walk_made : (a : Store) (word : ℕ) (w : Work) → (walk_of_tick a word w).made ≡ w.made
tick_walk_made a word w =
    let files = with_few_edges a in
    chosen (MakesNo w) (word == 0) w (walk_of a word files w) refl (from_made a (word / length files) w (slice_get files (word % length files)))

given_made : (a : Store) (ends : Ends) (w : Work) (o : Option Replica) → (given a ends o w).made ≡ w.made
given_made a ends w None = refl
given_made a ends w (Some x) = refl

answered_still : (a b : Store) (file : FileId) (birth : ℕ) (w v : Work) → IsStill a w (idle b v) → IsStill a w (answered_fetch file birth (idle b v))
answered_still a b file birth w v h = (
  h.0,
  chosen (MakesNo v) (is_clean b file v.from birth) (reply b (message.Full (ends_to b file birth)) v) (give b (ends_to b file birth) v) refl
      (given_made b (ends_to b file birth) v (replica_at b file)) ∙ h.1,
)

pub fetched_still : (a : Store) (file : FileId) (birth : ℕ) (w : Work) → IsStill a w (fetch a file birth w)
fetched_still a file birth w =
    let l = link_peer a file w.from birth w in
    chosen (IsStill a w) (is_full a file) _ (idle a (reply a (message.NoGrant file birth) w))
    (chosen (IsStill a w) (knows_later a file w.from birth) (idle a w) (answered_fetch file birth l) (refl, refl)
    (answered_still a l.store file birth w l.work (linked_still a file w.from birth w)))
    (refl, refl)
