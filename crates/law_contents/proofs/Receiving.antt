-- A message comes: the server makes no version, and stands for what it carried.
use Rattle.std.proofs.Common.{ℕ, ◌≡◌, ◌≢◌, ◌&&◌, Bool, true, false, cond, not, List, [], ◌∷◌, ◌++◌, map, Option, None, Some, refl, sym, ap, subst, ◌∙◌, inl, is_some, arith}
use Rattle.std.proofs.lemmas.Bool.{and_parts}
use Rattle.std.proofs.lemmas.List.{append-nil}
use Rattle.pg_run.specs.pg_base.declared.id.FileId.{FileId}
use Rattle.pg_run.specs.pg_base.declared.policy.Policy.{Policy}
use Rattle.pg_run.specs.pg_base.declared.stamp.Stamp.{Stamp}
use Rattle.pg_run.specs.pg_base.Id.{is_same_file}
use Rattle.pg_run.specs.pg_base.Version.{VersionValue}
use Rattle.pg_run.specs.pg_edges.declared.key.Key.TheVariants as key
use Rattle.pg_run.specs.pg_entries.declared.cell.Cell.{Cell}
use Rattle.pg_run.specs.pg_entries.declared.cell.Cell.TheVariants as cell
use Rattle.pg_run.specs.pg_intent.declared.key.IntentKey.TheVariants as intent_key
use Rattle.pg_run.specs.pg_intent.Intents.{aimed, ended}
use Rattle.pg_run.specs.pg_msg.declared.message.Ends.{Ends}
use Rattle.pg_run.specs.pg_msg.declared.message.Granted.{Granted}
use Rattle.pg_run.specs.pg_msg.declared.message.Message.{Message}
use Rattle.pg_run.specs.pg_msg.declared.message.Message.TheVariants as message
use Rattle.pg_run.specs.pg_msg.declared.update.Update.{Update}
use Rattle.pg_run.specs.pg_msg.declared.work.Work.{Work}
use Rattle.pg_run.specs.pg_msg.Ends.{back}
use Rattle.pg_run.specs.pg_msg.Sent.{cell_key}
use Rattle.pg_run.specs.pg_msg.Work.{new_work}
use Rattle.pg_run.specs.Asking.{Asked}
use Rattle.pg_run.specs.Carried.{carried, gone_by, granted_takes}
use Rattle.pg_run.specs.Journal.{Born, versions_in}
use Rattle.pg_run.specs.Took.{Take, stamps_taken, take_of, takes_in}
use Rattle.pg_run.specs.pg_store.declared.store.Store.{Store}
use Rattle.pg_run.specs.pg_store.Beginning.{let_go, with_intents}
use Rattle.pg_run.specs.pg_store.Births.{birth_of, has_birth, is_pending}
use Rattle.pg_run.specs.pg_store.Links.{knows_later}
use Rattle.pg_run.specs.pg_store.Store.{is_new_version, replica_at, replica_of, take_version}
use Rattle.pg_run.specs.pg_pieces.declared.accepting.EdgeUse.TheVariants as manner
use Rattle.pg_run.specs.pg_pieces.Accepting.{accept, is_current, link_peer}
use Rattle.pg_run.specs.pg_cells.Cells.{fits, taken, taken_along}
use Rattle.pg_run.specs.pg_pieces.Done.{Done, idle}
use Rattle.pg_run.specs.pg_pieces.Parting.{stays_for}
use Rattle.pg_run.specs.pg_pieces.Taking.{with_news}
use Rattle.pg_run.proofs.pg_pieces.News.{news_made, news_sent}
use Rattle.pg_run.specs.pg_graph.Leaving.{goes, leave_ok, may_leave, without_leave}
use Rattle.pg_run.specs.pg_repair.Granting.{begin_granted, begun_by, fill_from, granted_own}
use Rattle.pg_run.specs.pg_server.Local.{receive}
use Rattle.law_contents.proofs.Agreed.{Agrees}
use Rattle.law_contents.proofs.Arrivals.{Arrives, confirmed_none, entry_none, granted_none, more_came, quiet_arrives, told_none, version_named, version_stands}
use Rattle.law_contents.proofs.Asking.{post_carry}
use Rattle.law_contents.proofs.Carrying.{Carries, CarriesCell}
use Rattle.law_contents.proofs.Changes.{Core, Keeps, alters_keeps, by_altered, new_core}
use Rattle.law_contents.proofs.Going.{byes_quiet, came_without, held_before, order_stays, stands_gone}
use Rattle.law_contents.proofs.Handlers.{IsKnown, accept_quiet, ack_quiet, bye_ok_quiet, bye_quiet, confirm_quiet, fetch_quiet, full_quiet, gone_quiet, invite_quiet, leave_quiet, no_grant_quiet, none_here_quiet, place_is_quiet, seek_quiet, tell_ok_quiet, tell_quiet, walk_quiet}
use Rattle.law_contents.proofs.Patched.{delta_arrives}
use Rattle.law_contents.proofs.Pieced.{piece_arrives}
use Rattle.law_contents.proofs.Pieces.{begin_alters, intents_keep}
use Rattle.law_contents.proofs.Quiet.{Quiet, entry_cell_quiet, flag_quiet, link_quiet, news_tail, place_quiet, quiet_idle, quiet_post, quiet_store, quiet_then}
use Rattle.law_contents.proofs.Sending.{AllCarry, none_carry}
use Rattle.law_contents.proofs.Servers.{Came, IsServer, none_full, stands_begun, stands_kept, stands_same}
use Rattle.law_contents.proofs.Taken.{born_there, some_behind}
use Rattle.law_contents.proofs.Transfer.{harbinger_arrives, later_arrives}
use Rattle.law_contents.proofs.Unmade.{pending_unmade}
use Rattle.law_contents.proofs.Takes.{HasNone, both_none, none_joined}
use Rattle.law_contents.proofs.Versions.{version_alters}
use Rattle.law_contents.proofs.Wants.{want_quiet}

module _ {s : ℕ} {a : Store} {us : List Born} {p : FileId → Policy} {N : FileId → Type 0}
    {came : Came} (k : IsServer s a us p N came) (from : ℕ) where
  abbrev work : Work
  work = new_work 0 from

  abbrev Comes : Done → List Take → Type 0
  Comes d more = Arrives s a us p N came d more

  -- what a handler brings: what it made, and what the message carried
  abbrev Brings : Done → List Take → Type 0
  Brings d more = Comes d (map take_of d.work.made ++ more)

  quiet : (d : Done) → Quiet us p N a work d → (more : List Take)
      → ((q : FileId) → HasNone q more) → Brings d more
  quiet d h more none = quiet_arrives k 0 from d h more none

  -- ---- cells

  module _ (ends : Ends) (tag : ℕ) where
    abbrev linked : Done
    linked = accept a ends manner.Makes work

    linked_quiet : Quiet us p N a work linked
    linked_quiet = accept_quiet us p N a work ends manner.Makes

    -- a cell of names is taken and answered
    named : (c : Cell)
        → Quiet us p N linked.store linked.work (taken linked.store ends.file c linked.work)
        → Quiet us p N a work (taken_along ends tag c linked)
    named c h =
        let d = taken linked.store ends.file c linked.work in
        quiet_then us p N linked_quiet (quiet_then us p N h
        (quiet_post us p N d.store d.work.from (message.Ack (back ends) (cell_key c) tag) d.work tt))

    -- a version
    version_comes : (v : VersionValue) → CarriesCell us p ends.file (cell.Version v)
        → has_birth a ends.file ends.receiver ≡ true
        → Brings (taken_along ends tag (cell.Version v) linked)
        (takes_in ends.file (cell.Version v))
    version_comes v h there =
        let file = ends.file in
        let q = linked_quiet.keeps in
        let b = linked.store in
        let was = born_there (replica_at a file) ends.receiver there in
        let x = some_behind (replica_at b file) (replica_at a file) was.0 was.1 (q.each file) in
        let news = is_new_version b file v in
        let w = with_news news linked.work file (key.Version v.head.stamp) in
        let none = news_made news linked.work file (key.Version v.head.stamp) in
        let alters = version_alters b file x.0 x.1 v in
        let low = q.last in
        let high = alters.last in
        let few = q.files in
        let many = alters.files in
        let takes = takes_in file (cell.Version v) in
        record {
          server = alters.server ∙ q.server;
          last = omega arith;
          files = omega arith;
          order = λ z. alters.order (q.order z);
          held = λ f c e. inl (version_named k file v h b q x.0 x.1 f c e);
          stands = stands_same (version_stands k file v h b q x.0 x.1)
              (more_came (map take_of w.made ++ takes) came)
              (λ f. ap (λ (ts : List Stamp). ts ++ came f)
              (none_joined f (map take_of w.made) takes
              (ap (λ (made : List Update). stamps_taken f (map take_of made)) none
              ∙ linked_quiet.takes f)
              ∙ append-nil (cond (is_same_file file f) (v.head.stamp ∷ []) [])));
          none = ap versions_in none ∙ linked_quiet.none;
          sent = post_carry us p N (take_version b file v) w.from
              (message.Ack (back ends) (cell_key (cell.Version v)) tag) w tt
              (subst (AllCarry us p N)
              (sym (news_sent news linked.work file (key.Version v.head.stamp)))
              (linked_quiet.sent (none_carry us p N)));
          tail = subst (AllCarry us p N)
              (sym (news_tail news linked.work file (key.Version v.head.stamp)))
              (linked_quiet.tail (none_carry us p N));
        }

    comes : (c : Cell) → CarriesCell us p ends.file c → has_birth a ends.file ends.receiver ≡ true
        → Brings (taken_along ends tag c linked) (takes_in ends.file c)
    comes (cell.Place place) h there =
        quiet (taken_along ends tag (cell.Place place) linked)
        (named (cell.Place place) (place_quiet us p N linked.store ends.file place linked.work))
        (takes_in ends.file (cell.Place place)) (λ q. refl)
    comes (cell.Flag flag) h there =
        quiet (taken_along ends tag (cell.Flag flag) linked)
        (named (cell.Flag flag) (flag_quiet us p N linked.store ends.file flag linked.work))
        (takes_in ends.file (cell.Flag flag)) (λ q. refl)
    comes (cell.Entry entry sure) h there =
        quiet (taken_along ends tag (cell.Entry entry sure) linked)
        (named (cell.Entry entry sure)
        (entry_cell_quiet us p N linked.store ends.file entry sure linked.work))
        (takes_in ends.file (cell.Entry entry sure)) (λ q. entry_none q ends.file entry)
    comes (cell.Version v) h there = version_comes v h there

    cell_by : (c : Cell) (f t : Bool) → is_current a from ends ≡ t → CarriesCell us p ends.file c
        → Brings
        (cond f (cond (t && true) (taken_along ends tag c linked) linked) (idle a work))
        (cond (t && f) (takes_in ends.file c) [])
    cell_by c true true current h =
        comes c h (and_parts (has_birth a ends.file ends.receiver)
        (not (knows_later a ends.file from ends.sender)) current).0
    cell_by c true false current h = quiet linked linked_quiet [] (λ q. refl)
    cell_by c false true current h =
        quiet (idle a work) (quiet_idle us p N a work) [] (λ q. refl)
    cell_by c false false current h =
        quiet (idle a work) (quiet_idle us p N a work) [] (λ q. refl)

  -- ---- grants

  module _ (ends : Ends) (g : Granted) (h : (g.policy ≡ p ends.file) × N ends.file) where
    -- a replica begins
    begun_comes : is_pending a ends.file ends.receiver ≡ true
        → Brings (begin_granted a ends g work) (granted_takes a ends.file g)
    begun_comes pending =
        let file = ends.file in
        let none = k.paired.pending file ends.receiver pending in
        let b = begun_by a ends g in
        let linked = link_peer b file from ends.sender work in
        let is = aimed linked.store.intents (intent_key.Fill file) linked.work.from in
        let d = fill_from file linked in
        let rest : Quiet us p N b work d = quiet_then us p N
        (link_quiet us p N b file from ends.sender work)
        (quiet_store us p N linked.store (with_intents linked.store is) linked.work
        (intents_keep linked.store is)) in
        let all = alters_keeps (begin_alters a file ends.receiver g.policy (granted_own g) false
        (none_full k.paired file none))
        rest.keeps in
        let fresh : Core = new_core ends.receiver g.policy in
        let takes = granted_takes a file g in
        record {
          server = all.server;
          last = all.last;
          files = all.files;
          order = all.order;
          held = λ f c e. inl (by_altered (λ q o. (y : Core) → o ≡ Some y → N q) a d.store file
              (Some fresh) all (λ y same. h.1) (λ q apart y same. k.held q y same) f c e);
          stands = stands_same
              (stands_begun k.stands d.store file ends.receiver g.policy all none
              (pending_unmade k file ends.receiver pending) h.0)
              (more_came (map take_of d.work.made ++ takes) came)
              (λ q. ap (λ (ts : List Stamp). ts ++ came q)
              (both_none q (map take_of d.work.made) takes (rest.takes q)
              (granted_none q a file g)));
          none = rest.none;
          sent = rest.sent (none_carry us p N);
          tail = rest.tail (none_carry us p N);
        }

    grant_by : (t : Bool) → is_pending a ends.file ends.receiver ≡ t
        → Brings (cond t (begin_granted a ends g work) (accept a ends manner.Makes work))
        (cond t (granted_takes a ends.file g) [])
    grant_by true pending = begun_comes pending
    grant_by false pending =
        quiet (accept a ends manner.Makes work) (accept_quiet us p N a work ends manner.Makes) []
        (λ q. refl)

  -- ---- any message

  known : IsKnown us p N a
  known file c e = (k.stands.policies file c e, k.held file c e)

  nothing : Brings (idle a work) []
  nothing = quiet (idle a work) (quiet_idle us p N a work) [] (λ q. refl)

  -- ---- a replica goes, or stays

  -- what comes, where this replica goes
  abbrev BringsLess : Option FileId → Done → Type 0
  BringsLess o d =
      Arrives s a us p N (came_without o came) d (map take_of d.work.made ++ [])

  module _ (ends : Ends) (stamp : Stamp) where
    abbrev Unasking : Store
    Unasking = without_leave a ends.file

    asked_keeps : Keeps a Unasking
    asked_keeps = intents_keep a (ended a.intents (intent_key.Leave ends.file))

    gone_comes : BringsLess (Some ends.file) (goes Unasking ends.file work)
    gone_comes =
        let b = let_go Unasking ends.file in
        let d = goes Unasking ends.file work in
        let rest : Quiet us p N b work d =
        byes_quiet us p N ends.file (birth_of Unasking ends.file) (replica_of Unasking ends.file).edges (idle b work) in
        let stands = stands_gone Unasking ends.file (stands_kept k.stands Unasking asked_keeps) in
        record {
          server = rest.keeps.server;
          last = rest.keeps.last;
          files = rest.keeps.files;
          order = λ z. rest.keeps.order (order_stays Unasking ends.file z);
          held = λ f c e. inl (k.held f c
              (held_before Unasking ends.file f c (sym (rest.keeps.each f) ∙ e)));
          stands = stands_same (stands_kept stands d.store rest.keeps)
              (more_came (map take_of d.work.made ++ []) (came_without (Some ends.file) came))
              (λ q. ap (λ (ts : List Stamp). ts ++ came_without (Some ends.file) came q)
              (both_none q (map take_of d.work.made) [] (rest.takes q) refl));
          none = rest.none;
          sent = rest.sent (none_carry us p N);
          tail = rest.tail (none_carry us p N);
        }

    left_by : (t u : Bool) → BringsLess (cond (t && not u) (Some ends.file) None)
        (cond t (cond u (idle Unasking work) (goes Unasking ends.file work)) (idle a work))
    left_by true true =
        quiet (idle Unasking work) (quiet_store us p N a Unasking work asked_keeps) [] (λ q. refl)
    left_by true false = gone_comes
    left_by false u = nothing

    leave_ok_comes : BringsLess (gone_by a from (message.LeaveOk ends stamp))
        (leave_ok a ends stamp work)
    leave_ok_comes = left_by (may_leave a ends stamp work) (is_some (stays_for Unasking ends.file))

  -- A MESSAGE COMES
  pub receive_arrives : from ≢ 0 → (wants : Asked) → Agrees a us came wants → (m : Message) → Carries us p N m
      → Arrives s a us p N (came_without (gone_by a from m) came) (receive a m work)
      (map take_of (receive a m work).work.made ++ carried a wants from m)
  receive_arrives some wants agrees (message.Cell ends tag c) h =
      cell_by ends tag c (fits ends.file c) (is_current a from ends) refl h
  receive_arrives some wants agrees (message.Ack ends q tag) h =
      quiet _ (ack_quiet us p N a work ends q tag) [] (λ f. refl)
  receive_arrives some wants agrees (message.Fetch file birth) h =
      quiet _ (fetch_quiet us p N a known work file birth) [] (λ f. refl)
  receive_arrives some wants agrees (message.Grant ends granted) h =
      grant_by ends granted h (is_pending a ends.file ends.receiver) refl
  receive_arrives some wants agrees (message.NoGrant file birth) h =
      quiet _ (no_grant_quiet us p N a work file birth) [] (λ f. refl)
  receive_arrives some wants agrees (message.Full ends) h =
      quiet _ (full_quiet us p N a work ends) [] (λ f. refl)
  receive_arrives some wants agrees (message.Seek file birth) h =
      quiet _ (seek_quiet us p N a work file birth) [] (λ f. refl)
  receive_arrives some wants agrees (message.Greet ends why) h =
      quiet _ (accept_quiet us p N a work ends manner.Makes) [] (λ f. refl)
  receive_arrives some wants agrees (message.Walk ends origin birth hops word) h =
      quiet _ (walk_quiet us p N a work ends origin birth hops word) [] (λ f. refl)
  receive_arrives some wants agrees (message.NoneHere ask file child) h =
      quiet _ (none_here_quiet us p N a work ask file child) [] (λ f. refl)
  receive_arrives some wants agrees (message.Gone file birth) h =
      quiet _ (gone_quiet us p N a work file birth) [] (λ f. refl)
  receive_arrives some wants agrees (message.Bye ends) h =
      quiet _ (bye_quiet us p N a work ends) [] (λ f. refl)
  receive_arrives some wants agrees (message.ByeOk file birth) h =
      quiet _ (bye_ok_quiet us p N a work file birth) [] (λ f. refl)
  receive_arrives some wants agrees (message.Leave ends stamp) h =
      quiet _ (leave_quiet us p N a work ends stamp) [] (λ f. refl)
  receive_arrives some wants agrees (message.LeaveOk ends stamp) h = leave_ok_comes ends stamp
  receive_arrives some wants agrees (message.Confirm dir entry) h =
      quiet _ (confirm_quiet us p N a work dir entry) _ (λ f. confirmed_none f a entry)
  receive_arrives some wants agrees (message.PlaceIs dir entry) h =
      quiet _ (place_is_quiet us p N a work dir entry) _ (λ f. told_none f a dir entry)
  receive_arrives some wants agrees (message.Tell dir entry) h =
      quiet _ (tell_quiet us p N a work dir entry) _ (λ f. told_none f a dir entry)
  receive_arrives some wants agrees (message.TellOk dir child stamp) h =
      quiet _ (tell_ok_quiet us p N a work dir child stamp) [] (λ f. refl)
  receive_arrives some wants agrees (message.Invite ends) h =
      quiet _ (invite_quiet us p N a work ends) [] (λ f. refl)
  receive_arrives some wants agrees (message.Harbinger ends tag head) h =
      harbinger_arrives k 0 from ends tag head h
  receive_arrives some wants agrees (message.Want ends wanted) h =
      quiet _ (want_quiet k from ends wanted) [] (λ f. refl)
  receive_arrives some wants agrees (message.Delta ends d) h =
      delta_arrives k from some wants agrees ends d h
  receive_arrives some wants agrees (message.Piece ends q) h =
      piece_arrives k from some wants agrees ends q h
  receive_arrives some wants agrees (message.Later ends stamp) h =
      later_arrives k 0 from ends stamp
