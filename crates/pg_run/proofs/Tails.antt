-- What messages leave of what goes last in an event: all of it, but for walks.
use Rattle.std.proofs.Common.{[], ℕ, ◌≡◌, ◌||◌, ◌&&◌, Bool, true, false, cond, not, nat_lt, List, ◌∷◌, Option, Some, None, refl, ◌∙◌}
use Rattle.std.specs.Prelude.{is_some}
use Rattle.pg_base.specs.declared.id.FileId.{FileId}
use Rattle.pg_base.specs.declared.stamp.Stamp.{Stamp}
use Rattle.pg_edges.specs.declared.edge.Edge.{Edge}
use Rattle.pg_register.specs.declared.flag.Flag.{Flag}
use Rattle.pg_register.specs.declared.place.Place.{Place}
use Rattle.pg_edges.specs.declared.key.Key.{Key}
use Rattle.pg_edges.specs.declared.key.Key.TheVariants as key
use Rattle.pg_entries.specs.declared.cell.Cell.{Cell}
use Rattle.pg_entries.specs.declared.cell.Cell.TheVariants as cells
use Rattle.pg_entries.specs.declared.entry.Entry.{Entry}
use Rattle.pg_base.specs.declared.head.Head.{Head}
use Rattle.pg_server.specs.pg_pieces.pg_msg.declared.message.Delta.{Delta}
use Rattle.pg_server.specs.pg_pieces.pg_msg.declared.message.Ends.{Ends}
use Rattle.pg_server.specs.pg_pieces.pg_msg.declared.message.Granted.{Granted}
use Rattle.pg_server.specs.pg_pieces.pg_msg.declared.message.Piece.{Piece}
use Rattle.pg_server.specs.pg_pieces.pg_msg.declared.message.Wanted.{Wanted}
use Rattle.pg_server.specs.pg_pieces.pg_msg.declared.message.Message.TheVariants as message
use Rattle.pg_server.specs.pg_pieces.pg_msg.declared.update.Update.TheVariants as update
use Rattle.pg_server.specs.pg_pieces.pg_msg.declared.work.Work.{Work}
use Rattle.pg_server.specs.pg_pieces.pg_msg.Work.{with_begun, with_left, with_made}
use Rattle.pg_server.specs.pg_pieces.pg_intent.declared.intent.Intent.{Intent}
use Rattle.pg_server.specs.pg_pieces.pg_intent.Intent.{key_of}
use Rattle.pg_server.specs.pg_pieces.pg_intent.Intents.{stands}
use Rattle.pg_server.specs.pg_pieces.pg_names.Names.{own_or_blank}
use Rattle.pg_server.specs.pg_pieces.pg_house.Work.{is_root, note_left}
use Rattle.pg_server.specs.pg_pieces.pg_replica.declared.replica.Replica.{Replica}
use Rattle.pg_server.specs.pg_pieces.pg_store.declared.store.Store.{Store}
use Rattle.pg_server.specs.pg_pieces.pg_store.Beginning.{let_go}
use Rattle.pg_server.specs.pg_pieces.pg_store.Births.{birth_of, has_birth, is_pending}
use Rattle.pg_server.specs.pg_pieces.pg_store.Links.{is_clean, is_new_link, knows_later}
use Rattle.pg_server.specs.pg_pieces.pg_store.Store.{entry_news, is_full, is_held, is_new_version, is_newer_flag, is_newer_place, replica_at, replica_of, with_names}
use Rattle.pg_server.specs.pg_pieces.declared.accepting.EdgeUse.{EdgeUse}
use Rattle.pg_server.specs.pg_pieces.declared.accepting.EdgeUse.TheVariants as manner
use Rattle.pg_server.specs.pg_pieces.Accepting.{accept, is_accepted, is_answer, link_peer, met, with_gone, with_link}
use Rattle.pg_server.specs.pg_cells.Cells.{cell, fits, taken, taken_along}
use Rattle.pg_server.specs.pg_pieces.Golds.{is_gold}
use Rattle.pg_server.specs.pg_pieces.Done.{Done, idle}
use Rattle.pg_server.specs.pg_pieces.Making.{make_flag, own_next, raise_flag}
use Rattle.pg_server.specs.pg_pieces.Posting.{reply}
use Rattle.pg_server.specs.pg_pieces.Taking.{is_any_news, is_place_news, take_entry_cell, take_entry_noted, take_flag_noted, take_flags_noted, take_place_noted, with_doubt, with_left_if, with_news}
use Rattle.pg_server.specs.pg_repair.Confirming.{confirm, place_is, place_told, take_told_flags, take_told_place}
use Rattle.pg_server.specs.pg_repair.Fetching.{answer_fetch, answered_fetch, ends_to, fetch, give, given}
use Rattle.pg_server.specs.pg_repair.Filling.{few_golds, fill, full, invite, invited, live_golds, raise_if_few}
use Rattle.pg_server.specs.pg_repair.Granting.{begin_granted, begun_by, grant}
use Rattle.pg_server.specs.pg_graph.Seeking.{answered_seek, seek}
use Rattle.pg_server.specs.pg_repair.Telling.{tell}
use Rattle.pg_server.specs.pg_graph.Leaving.{begin_byes, bye_to, gives_leave, goes, goes_or_stays, leave, leave_given, leave_ok, may_leave, without_leave}
use Rattle.pg_server.specs.pg_pieces.Intending.{begin_intent}
use Rattle.pg_server.specs.pg_pieces.Parting.{stays_for}
use Rattle.pg_server.specs.pg_calls.Making.{make_place}
use Rattle.pg_server.specs.pg_transfer.Delta.{delta}
use Rattle.pg_server.specs.pg_transfer.Harbinger.{harbinger}
use Rattle.pg_server.specs.pg_transfer.Later.{later}
use Rattle.pg_server.specs.pg_transfer.Piece.{piece}
use Rattle.pg_server.specs.pg_transfer.Want.{want}
use Rattle.theory_flood_pieces.proofs.Choices.{chosen}
use Rattle.pg_run.proofs.Transferring.{OutlivesSteps, delta_has, harbinger_has, later_has, piece_has, want_has}
use Rattle.pg_server.specs.pg_pieces.pg_names.Names as names

-- ---- what is put last stays so

abbrev pub Same : Work → Work → Type 0
Same v w = w.tail ≡ v.tail

-- a choice of two works, and of two that are left
pub either : (v : Work) (t : Bool) (x y : Work) → Same v x → Same v y → Same v (cond t x y)
either v t x y h k = chosen (Same v) t x y h k

pub done_either : (v : Work) (t : Bool) (x y : Done) → Same v x.work → Same v y.work → Same v (cond t x y).work
done_either v t x y h k = chosen (λ (d : Done). Same v d.work) t x y h k

-- ---- what is taken

news_same : (t : Bool) (w : Work) (file : FileId) (k : Key) → Same w (with_news t w file k)
news_same true w file k = refl
news_same false w file k = refl

noted_same : (w : Work) (file : FileId) (old : Place) → Same w (note_left w file old)
noted_same w file old = either w (old.live && not (is_root file)) (with_left w old.parent file) w refl refl

left_same : (t : Bool) (w : Work) (file : FileId) (old : Place) → Same w (with_left_if t w file old)
left_same t w file old = either w t (note_left w file old) w (noted_same w file old) refl

pub place_same : (a : Store) (file : FileId) (place : Place) (w : Work) → Same w (take_place_noted a file place w).work
place_same a file place w =
    let news = is_newer_place a file place in
    let old = (own_or_blank a.names file).place in
    news_same news (with_left_if news w file old) file key.Place ∙ left_same news w file old

pub flag_same : (a : Store) (file : FileId) (flag : Flag) (w : Work) → Same w (take_flag_noted a file flag w).work
flag_same a file flag w = news_same (is_newer_flag a file flag) w file (key.Flag flag.server)

flags_same : (flags : List Flag) (a : Store) (file : FileId) (w : Work) → Same w (take_flags_noted a file flags w).work
flags_same [] a file w = refl
flags_same (flag ∷ flags) a file w =
    let one = take_flag_noted a file flag w in
    flags_same flags one.store file one.work ∙ flag_same a file flag w

pub entry_same : (a : Store) (dir : FileId) (e : Entry) (w : Work) → Same w (take_entry_noted a dir e w).work
entry_same a dir e w = news_same (is_any_news (entry_news a dir e)) w dir (key.Entry e.child)

doubt_same : (t : Bool) (w : Work) (dir child : FileId) → Same w (with_doubt t w dir child)
doubt_same true w dir child = refl
doubt_same false w dir child = refl

told_same : (a : Store) (dir : FileId) (e : Entry) (sure : Bool) (w : Work) → Same w (take_entry_cell a dir e sure w).work
told_same a dir e sure w =
    doubt_same (is_place_news (entry_news a dir e) && not sure) (take_entry_noted a dir e w).work dir e.child
    ∙ entry_same a dir e w

taken_same : (a : Store) (file : FileId) (c : Cell) (w : Work) → Same w (taken a file c w).work
taken_same a file (cells.Place place) w = place_same a file place w
taken_same a file (cells.Flag flag) w = flag_same a file flag w
taken_same a file (cells.Entry e sure) w = told_same a file e sure w
taken_same a file (cells.Version v) w = news_same (is_new_version a file v) w file (key.Version v.head.stamp)

pub flag_made_same : (a : Store) (file : FileId) (flag : Flag) (w : Work) → Same w (make_flag a file flag w).work
flag_made_same a file flag w = flag_same a file flag (with_made w (update.Flag file flag))

pub place_made_same : (file : FileId) (place : Place) (d : Done) → Same d.work (make_place file place d).work
place_made_same file place d = place_same d.store file place (with_made d.work (update.Place file place))

-- ---- links

pub link_same : (a : Store) (file : FileId) (peer birth : ℕ) (w : Work) → Same w (link_peer a file peer birth w).work
link_same a file peer birth w = by (is_new_link a file peer birth)
  where
    by : (t : Bool) → Same w (with_link t w file peer)
    by true = refl
    by false = refl

met_same : (a : Store) (ends : Ends) (m : EdgeUse) (w : Work) → Same w (met a ends m w).work
met_same a ends manner.Makes w = link_same a ends.file w.from ends.sender w
met_same a ends manner.Needs w = refl
met_same a ends manner.Answers w = refl

pub accept_same : (a : Store) (ends : Ends) (m : EdgeUse) (w : Work) → Same w (accept a ends m w).work
accept_same a ends m w =
    let later = knows_later a ends.file w.from ends.sender in
    done_either w (has_birth a ends.file ends.receiver) (cond later (idle a w) (met a ends m w)) (idle a (with_gone a ends m w))
    (done_either w later (idle a w) (met a ends m w) refl (met_same a ends m w))
    (either w (is_answer m || is_pending a ends.file ends.receiver) w (reply a (message.Gone ends.file ends.receiver) w) refl refl)

-- ---- messages

pub cell_same : (a : Store) (ends : Ends) (tag : ℕ) (c : Cell) (w : Work) → Same w (cell a ends tag c w).work
cell_same a ends tag c w =
    let accepted = is_accepted a w.from manner.Makes ends in
    let d = accept a ends manner.Makes w in
    done_either w (fits ends.file c) (cond accepted (taken_along ends tag c d) d) (idle a w)
    (done_either w accepted (taken_along ends tag c d) d
    (taken_same d.store ends.file c d.work ∙ accept_same a ends manner.Makes w) (accept_same a ends manner.Makes w)) refl

given_same : (a : Store) (ends : Ends) (o : Option Replica) (w : Work) → Same w (given a ends o w)
given_same a ends None w = refl
given_same a ends (Some x) w = refl

answer_same : (a : Store) (file : FileId) (birth : ℕ) (w : Work) → Same w (answer_fetch a file birth w)
answer_same a file birth w =
    let ends = ends_to a file birth in
    either w (is_clean a file w.from birth) (reply a (message.Full ends) w) (give a ends w) refl (given_same a ends (replica_at a file) w)

pub fetch_same : (a : Store) (file : FileId) (birth : ℕ) (w : Work) → Same w (fetch a file birth w).work
fetch_same a file birth w =
    let later = knows_later a file w.from birth in
    let d = link_peer a file w.from birth w in
    done_either w (is_full a file) (cond later (idle a w) (answered_fetch file birth d)) (idle a (reply a (message.NoGrant file birth) w))
    (done_either w later (idle a w) (answered_fetch file birth d) refl
    (answer_same d.store file birth d.work ∙ link_same a file w.from birth w)) refl

pub grant_same : (a : Store) (ends : Ends) (g : Granted) (w : Work) → Same w (grant a ends g w).work
grant_same a ends g w =
    done_either w (is_pending a ends.file ends.receiver) (begin_granted a ends g w) (accept a ends manner.Makes w)
    (link_same (begun_by a ends g) ends.file w.from ends.sender w) (accept_same a ends manner.Makes w)

pub fill_same : (a : Store) (file : FileId) (w : Work) → Same w (raise_if_few a file w).work
fill_same a file w =
    done_either w (nat_lt (live_golds a file) few_golds) (raise_flag a file w) (idle a w) (flag_made_same a file (own_next a file true) w) refl

pub full_same : (a : Store) (ends : Ends) (w : Work) → Same w (full a ends w).work
full_same a ends w =
    done_either w (is_accepted a w.from manner.Answers ends && not (is_full a ends.file)) (fill a ends.file w) (idle a w) (fill_same (with_names a (names.fill a.names ends.file)) ends.file w) refl

pub invite_same : (a : Store) (ends : Ends) (w : Work) → Same w (invite a ends w).work
invite_same a ends w =
    let d = accept a ends manner.Needs w in
    let one = accept_same a ends manner.Needs w in
    done_either w (is_accepted a w.from manner.Needs ends) (invited ends d) d
    (done_either w (is_full d.store ends.file && not (is_gold d.store ends.file)) (raise_if_few d.store ends.file d.work) d
    (fill_same d.store ends.file d.work ∙ one) one) one

pub seek_same : (a : Store) (file : FileId) (birth : ℕ) (w : Work) → Same w (seek a file birth w).work
seek_same a file birth w =
    let later = knows_later a file w.from birth in
    let d = link_peer a file w.from birth w in
    done_either w (is_held a file) (cond later (idle a w) (answered_seek file birth d)) _
    (done_either w later (idle a w) (answered_seek file birth d) refl (link_same a file w.from birth w)) refl

pub confirm_same : (a : Store) (dir : FileId) (e : Entry) (w : Work) → Same w (confirm a dir e w).work
confirm_same a dir e w =
    let one = take_told_place a e w in
    let two = take_told_flags e one in
    done_either w (is_held a e.child) (place_told dir e.child two) _
    (flags_same e.flags one.store e.child one.work
    ∙ done_either w (is_root e.child) (idle a w) (take_place_noted a e.child e.place w) refl (place_same a e.child e.place w)) refl

pub place_is_same : (a : Store) (dir : FileId) (e : Entry) (w : Work) → Same w (place_is a dir e w).work
place_is_same a dir e w = done_either w (is_held a dir) _ (idle a w) (entry_same a dir e w) refl

pub tell_same : (a : Store) (dir : FileId) (e : Entry) (w : Work) → Same w (tell a dir e w).work
tell_same a dir e w = done_either w (is_held a dir) _ _ (entry_same a dir e w) refl

-- an intention begins
pub begin_same : (a : Store) (i : Intent) (w : Work) → Same w (begin_intent a i w).work
begin_same a i w = either w (not (stands a.intents (key_of i))) (with_begun w (key_of i)) w refl refl

byes_same : (file : FileId) (birth : ℕ) (es : List Edge) (d : Done) → Same d.work (begin_byes file birth es d).work
byes_same file birth [] d = refl
byes_same file birth (e ∷ es) d =
    byes_same file birth es (begin_intent d.store (bye_to file birth e) d.work) ∙ begin_same d.store (bye_to file birth e) d.work

leave_given_same : (ends : Ends) (stamp : Stamp) (d : Done) → Same d.work (leave_given ends stamp d).work
leave_given_same ends stamp d = either d.work (gives_leave d.store ends.file stamp) _ d.work refl refl

pub leave_same : (a : Store) (ends : Ends) (stamp : Stamp) (w : Work) → Same w (leave a ends stamp w).work
leave_same a ends stamp w =
    let d = accept a ends manner.Makes w in
    done_either w (is_accepted a w.from manner.Makes ends) (leave_given ends stamp d) d
    (leave_given_same ends stamp d ∙ accept_same a ends manner.Makes w) (accept_same a ends manner.Makes w)

pub leave_ok_same : (a : Store) (ends : Ends) (stamp : Stamp) (w : Work) → Same w (leave_ok a ends stamp w).work
leave_ok_same a ends stamp w =
    let b = without_leave a ends.file in
    done_either w (may_leave a ends stamp w) (goes_or_stays b ends.file w) (idle a w)
    (done_either w (is_some (stays_for b ends.file)) (idle b w) (goes b ends.file w) refl
    (byes_same ends.file (birth_of b ends.file) (replica_of b ends.file).edges (idle (let_go b ends.file) w))) refl

-- ---- bodies on demand

module _ (ends : Ends) (w : Work) where
  abbrev Keeps : Done → Type 0
  Keeps d = Same w d.work

  steps_same : OutlivesSteps Keeps ends
  steps_same = record {
    asks = λ d stamp offset heads h. h;
    acknowledges = λ d stamp tag h. h;
    puts_off = λ d stamp h. h;
    gives = λ d v offset h. h;
    changes = λ d ranges v heads h. h;
    tells = λ d head h. h;
    notes = λ d ns h. h;
    keeps = λ d delta h. h;
    takes = λ d v h. news_same (is_new_version d.store ends.file v) d.work ends.file (key.Version v.head.stamp) ∙ h;
  }

  pub harbinger_same : (a : Store) (tag : ℕ) (head : Head) → Same w (harbinger a ends tag head w).work
  harbinger_same a tag head = harbinger_has Keeps ends steps_same a w refl tag head (accept_same a ends manner.Makes w)

  pub want_same : (a : Store) (wanted : Wanted) → Same w (want a ends wanted w).work
  want_same a wanted = want_has Keeps ends steps_same a w refl wanted (accept_same a ends manner.Needs w)

  pub delta_same : (a : Store) (d : Delta) → Same w (delta a ends d w).work
  delta_same a d = delta_has Keeps ends steps_same a w refl d (accept_same a ends manner.Answers w)

  pub piece_same : (a : Store) (p : Piece) → Same w (piece a ends p w).work
  piece_same a p = piece_has Keeps ends steps_same a w refl p (accept_same a ends manner.Answers w)

  pub later_same : (a : Store) (stamp : Stamp) → Same w (later a ends stamp w).work
  later_same a stamp = later_has Keeps ends steps_same a w refl stamp (accept_same a ends manner.Answers w)
