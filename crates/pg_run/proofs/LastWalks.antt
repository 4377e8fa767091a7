-- What an input puts last: nothing but walks, and invites. A tick begins a walk, and one that comes
-- may be passed on; and a server that gives another one up invites.
use Rattle.std.proofs.Common.{[], ℕ, ◌≡◌, ◌==◌, ◌/◌, ◌-◌, ◌%◌, Bool, true, false, cond, List, ◌∷◌, ◌++◌, length, slice_get, Option, Some, None, ◌⊎◌, inl, inr, refl, sym, subst, All}
use Rattle.std.specs.Prelude.{Contains, Err, Ok, Result, not}
use Rattle.std.specs.List.{filter, find}
use Rattle.std.specs.Map.{keys_of}
use Rattle.std.proofs.lemmas.List.Elements.{All-cons, All-contains_itself, All-filter, All-nil, All-push, All-weaker}
use Rattle.std.proofs.lemmas.Option.{get_or_from_slice_get, none-some, same_Some, slice_get_within}
use Rattle.pg_base.specs.declared.id.FileId.{FileId}
use Rattle.pg_content.specs.Content.{Among}
use Rattle.pg_edges.specs.declared.edge.Edge.{Edge}
use Rattle.pg_server.specs.pg_pieces.pg_msg.declared.message.Ends.{Ends}
use Rattle.pg_server.specs.pg_pieces.pg_msg.declared.message.Message.{Message}
use Rattle.pg_server.specs.pg_pieces.pg_msg.declared.message.Message.TheVariants as message
use Rattle.pg_server.specs.pg_pieces.pg_msg.declared.message.Sent.{Sent}
use Rattle.pg_server.specs.pg_pieces.pg_msg.declared.work.Work.{Work}
use Rattle.pg_server.specs.pg_pieces.pg_msg.Work.{new_work}
use Rattle.pg_server.specs.pg_pieces.pg_store.declared.store.Store.{Store}
use Rattle.pg_server.specs.pg_pieces.pg_store.Births.{birth_of}
use Rattle.pg_server.specs.pg_pieces.pg_store.Seen.{removed_of, server_of}
use Rattle.pg_server.specs.pg_pieces.pg_store.Store.{is_before_clock_end}
use Rattle.pg_server.specs.pg_pieces.declared.accepting.EdgeUse.TheVariants as manner
use Rattle.pg_server.specs.pg_pieces.Accepting.{accept, is_accepted}
use Rattle.pg_server.specs.pg_pieces.Done.{Done, idle}
use Rattle.pg_server.specs.pg_pieces.Posting.{sent_to}
use Rattle.pg_server.specs.pg_repair.Fetching.{ends_to, fetch}
use Rattle.pg_server.specs.pg_cells.Cells.{cell}
use Rattle.pg_server.specs.pg_repair.Confirming.{confirm, place_is}
use Rattle.pg_server.specs.pg_repair.Filling.{full, invite}
use Rattle.pg_server.specs.pg_intentions.Inviting.{first_loose, invite_along, invite_each, invite_of, invites, loose_edge}
use Rattle.pg_server.specs.pg_repair.Granting.{grant}
use Rattle.pg_server.specs.pg_graph.Seeking.{seek}
use Rattle.pg_server.specs.pg_repair.Telling.{tell}
use Rattle.pg_server.specs.pg_pieces.pg_call.declared.call.Call.{Call}
use Rattle.pg_server.specs.pg_pieces.pg_call.declared.call.Call.TheVariants as call
use Rattle.pg_server.specs.pg_pieces.pg_call.declared.reply.Reply.TheVariants as reply
use Rattle.pg_server.specs.pg_checks.pg_lookup.declared.paths.LookupError.{LookupError}
use Rattle.pg_server.specs.pg_pieces.pg_store.Views.{enter}
use Rattle.pg_server.specs.pg_pieces.pg_names.declared.attributes.Attributes.{Attributes}
use Rattle.pg_server.specs.pg_pieces.pg_names.Names.{own_at}
use Rattle.pg_server.specs.pg_checks.Answer.{Answer, answer, answered, told}
use Rattle.pg_server.specs.pg_calls.Calls.{do_call}
use Rattle.pg_server.specs.pg_calls.GivingUp.{doubt_all, enter_view, removal_at}
use Rattle.pg_server.specs.pg_graph.Walks.{edges_of, goes_on, is_onward, meet_origin, onward, walk, walk_along, walk_from, walk_of, walk_on, walked, with_few_edges}
use Rattle.pg_server.specs.pg_intentions.Seeks.{matches}
use Rattle.pg_server.specs.pg_graph.Leaving.{leave, leave_ok}
use Rattle.pg_server.specs.pg_transfer.Delta.{delta}
use Rattle.pg_server.specs.pg_transfer.Harbinger.{harbinger}
use Rattle.pg_server.specs.pg_transfer.Later.{later}
use Rattle.pg_server.specs.pg_transfer.Piece.{piece}
use Rattle.pg_server.specs.pg_transfer.Want.{want}
use Rattle.pg_server.specs.declared.input.Input.{Input}
use Rattle.pg_server.specs.declared.input.Input.TheVariants as input
use Rattle.pg_server.specs.Local.{first_effect, is_heard, receive, ticked, without_sources}
use Rattle.theory_flood_pieces.proofs.Choices.{chosen, decided}
use Rattle.pg_run.specs.Ticks.{HasFewEdges}
use Rattle.pg_run.proofs.Walks.{again_is, at_among, few_there, tick_walks}
use Rattle.pg_run.proofs.Lists.{among_contained}
use Rattle.pg_run.proofs.Tails.{accept_same, cell_same, confirm_same, delta_same, fetch_same, full_same, grant_same, harbinger_same, invite_same, later_same, leave_ok_same, leave_same, link_same, piece_same, place_is_same, seek_same, tell_same, want_same}
use Rattle.pg_run.proofs.TailsOfCalls.{answered_same, call_same}

-- ---- walks

-- a walk of the replica of a thing here, that names this origin: it goes along one of the edges
pub record IsWalkOf (a : Store) (file : FileId) (origin birth : ℕ) (m : Sent) : Type 0 where
  pub edge : Edge
  pub among : Contains (edges_of a file) edge
  pub hops : ℕ
  pub word : ℕ
  pub whole : m ≡ sent_to a edge.peer (message.Walk (ends_to a file edge.birth) origin birth hops word)

-- what came is a walk that is passed on: it was accepted, and this server is not its origin
abbrev pub IsPassedOn : Store → ℕ → Message → Sent → Type 0
IsPassedOn a from (message.Walk ends origin birth hops word) m =
    (is_accepted a from manner.Needs ends ≡ true) × ((origin == server_of a) ≡ false)
    × IsWalkOf a ends.file origin birth m
IsPassedOn a from _ m = ⊥

-- an invite to the peer of an edge of a thing here
pub record IsInvite (a : Store) (m : Sent) : Type 0 where
  pub file : FileId
  pub edge : Edge
  pub among : Contains (edges_of a file) edge
  pub whole : m ≡ sent_to a edge.peer (message.Invite (ends_to a file edge.birth))

-- a call that gives a server up, where it is not refused, invites in the view that it enters
abbrev pub IsInvited : Store → Call → Sent → Type 0
IsInvited a (call.Giveup view server) m =
    (removal_at a view server ≡ Ok (tt {0})) × IsInvite (enter a server) m
IsInvited a _ m = ⊥

-- what goes last is an invite, or a walk: a tick begins one of a replica with few edges, which
-- names that as its origin, and one that comes is passed on
abbrev pub GoesLast : Store → Input → Sent → Type 0
GoesLast a (input.Call moment call) m = IsInvited a call m
GoesLast a (input.Tick moment word) m =
    (file : FileId) × HasFewEdges a file × IsWalkOf a file (server_of a) (birth_of a file) m
GoesLast a (input.Arrival packet) m =
    (is_heard a packet ≡ true) × IsPassedOn a packet.from packet.message m
GoesLast a input.Restart m = ⊥

nothing : (Q : Sent → Type 0) (ms : List Sent) → ms ≡ [] → All Q ms
nothing Q ms none = subst (All Q) (sym none) (All-nil Q)

edge_at : (p : Edge → Bool) (es : List Edge) (i : ℕ) (e : Edge) → slice_get (filter p es) i ≡ Some e → Contains es e
edge_at p es i e h =
    let kept = filter p es in
    subst (Contains es) (get_or_from_slice_get kept i e e h)
    (All-filter p (Contains es) es (All-contains_itself es) i e (slice_get_within kept i e h))

edge_in : (es : List Edge) (i : ℕ) (e : Edge) → slice_get es i ≡ Some e → Contains es e
edge_in es i e h =
    subst (Contains es) (get_or_from_slice_get es i e e h) (All-contains_itself es i e (slice_get_within es i e h))

module _ (Q : Sent → Type 0) (a : Store) (file : FileId) (origin birth hops word : ℕ)
    (walks : (m : Sent) → IsWalkOf a file origin birth m → Q m) where
  along_has : (w : Work) → w.tail ≡ [] → (o : Option Edge) → ((e : Edge) → o ≡ Some e → Contains (edges_of a file) e)
      → All Q (walk_along a file origin birth hops word w o).tail
  along_has w none None among = nothing Q w.tail none
  along_has w none (Some e) among =
      let m = sent_to a e.peer (message.Walk (ends_to a file e.birth) origin birth hops word) in
      let is : IsWalkOf a file origin birth m = record { edge = e; among = among e refl; hops = hops; word = word; whole = refl } in
      subst (λ (ms : List Sent). All Q (ms ++ m ∷ [])) (sym none) (All-cons Q m [] (walks m is) (All-nil Q))

-- ---- a walk that comes

module _ (a : Store) (from : ℕ) (ends : Ends) (origin birth hops word : ℕ) where
  abbrev Comes : Message
  Comes = message.Walk ends origin birth hops word

  abbrev W : Work
  W = new_work 0 from

  abbrev Ons : List Edge
  Ons = onward a ends.file from origin

  abbrev Passes : Sent → Type 0
  Passes = IsPassedOn a from Comes

  walked_has : is_accepted a from manner.Needs ends ≡ true → (origin == server_of a) ≡ false
      → All Passes (walked a ends origin birth hops word Ons W).work.tail
  walked_has accepted other =
      chosen (λ (d : Done). All Passes d.work.tail) (goes_on hops Ons) (idle a (walk_on a ends.file origin birth hops word Ons W))
      (meet_origin a ends.file origin birth W)
      (along_has Passes a ends.file origin birth (hops - 1) (word / length Ons) (λ m is. (accepted, other, is)) W refl
      (slice_get Ons (word % length Ons)) (λ e h. edge_at (is_onward from origin) (edges_of a ends.file) (word % length Ons) e h))
      (nothing Passes (meet_origin a ends.file origin birth W).work.tail (link_same a ends.file origin birth W))

  walk_has : All Passes (walk a ends origin birth hops word W).work.tail
  walk_has =
      let P : Done → Type 0 = λ d. All Passes d.work.tail in
      let mine = origin == server_of a in
      let on = walked a ends origin birth hops word Ons W in
      decided P (is_accepted a from manner.Needs ends) (cond mine (idle a W) on) (accept a ends manner.Needs W)
      (λ accepted. decided P mine (idle a W) on (λ own. All-nil Passes) (λ other. walked_has accepted other))
      (λ no. nothing Passes (accept a ends manner.Needs W).work.tail (accept_same a ends manner.Needs W))

module _ (a : Store) (from : ℕ) where
  -- other messages put nothing last
  none_last : (m : Message) (w : Work) → w.tail ≡ [] → All (IsPassedOn a from m) w.tail
  none_last m w none = nothing (IsPassedOn a from m) w.tail none

  abbrev Fresh : Work
  Fresh = new_work 0 from

  receive_has : (m : Message) → All (IsPassedOn a from m) (receive a m (new_work 0 from)).work.tail
  receive_has (message.Cell ends tag c) = none_last (message.Cell ends tag c) (cell a ends tag c Fresh).work (cell_same a ends tag c Fresh)
  receive_has (message.Fetch file birth) = none_last (message.Fetch file birth) (fetch a file birth Fresh).work (fetch_same a file birth Fresh)
  receive_has (message.Grant ends granted) = none_last (message.Grant ends granted) (grant a ends granted Fresh).work (grant_same a ends granted Fresh)
  receive_has (message.Full ends) = none_last (message.Full ends) (full a ends Fresh).work (full_same a ends Fresh)
  receive_has (message.Seek file birth) = none_last (message.Seek file birth) (seek a file birth Fresh).work (seek_same a file birth Fresh)
  receive_has (message.Greet ends why) = none_last (message.Greet ends why) (accept a ends manner.Makes Fresh).work (accept_same a ends manner.Makes Fresh)
  receive_has (message.Confirm dir e) = none_last (message.Confirm dir e) (confirm a dir e Fresh).work (confirm_same a dir e Fresh)
  receive_has (message.PlaceIs dir e) = none_last (message.PlaceIs dir e) (place_is a dir e Fresh).work (place_is_same a dir e Fresh)
  receive_has (message.Tell dir e) = none_last (message.Tell dir e) (tell a dir e Fresh).work (tell_same a dir e Fresh)
  receive_has (message.Leave ends stamp) = none_last (message.Leave ends stamp) (leave a ends stamp Fresh).work (leave_same a ends stamp Fresh)
  receive_has (message.LeaveOk ends stamp) = none_last (message.LeaveOk ends stamp) (leave_ok a ends stamp Fresh).work (leave_ok_same a ends stamp Fresh)
  receive_has (message.Invite ends) = none_last (message.Invite ends) (invite a ends Fresh).work (invite_same a ends Fresh)
  receive_has (message.Walk ends origin birth hops word) = walk_has a from ends origin birth hops word
  receive_has (message.Harbinger ends tag head) =
      none_last (message.Harbinger ends tag head) (harbinger a ends tag head Fresh).work (harbinger_same ends Fresh a tag head)
  receive_has (message.Want ends wanted) = none_last (message.Want ends wanted) (want a ends wanted Fresh).work (want_same ends Fresh a wanted)
  receive_has (message.Delta ends d) = none_last (message.Delta ends d) (delta a ends d Fresh).work (delta_same ends Fresh a d)
  receive_has (message.Piece ends p) = none_last (message.Piece ends p) (piece a ends p Fresh).work (piece_same ends Fresh a p)
  receive_has (message.Later ends stamp) = none_last (message.Later ends stamp) (later a ends stamp Fresh).work (later_same ends Fresh a stamp)
  receive_has m = All-nil (IsPassedOn a from m)

-- ---- a server is given up

find_in : (p : Edge → Bool) (es : List Edge) (e : Edge) → find p es ≡ Some e → Among e es
find_in p [] e h = absurd (none-some e h)
find_in p (x ∷ es) e h = by (p x) (find_in p es e) h
  where
    by : (t : Bool) → (find p es ≡ Some e → Among e es) → cond t (Some x) (find p es) ≡ Some e → Among e (x ∷ es)
    by true more k = inl (sym (same_Some x e k))
    by false more k = inr (more k)

loose_in : (removed : List ℕ) (o : Option Attributes) (es : List Edge) (e : Edge) → first_loose removed o es ≡ Some e → Among e es
loose_in removed None es e h = absurd (none-some e h)
loose_in removed (Some own) es e h = find_in (λ d. not (matches removed own.flags d)) es e h

module _ (Q : Sent → Type 0) (b : Store) (invited : (m : Sent) → IsInvite b m → Q m) where
  along_invites : (file : FileId) (w : Work) → All Q w.tail → (o : Option Edge)
      → ((e : Edge) → o ≡ Some e → Contains (edges_of b file) e) → All Q (invite_along b file o w).tail
  along_invites file w old None among = old
  along_invites file w old (Some e) among =
      let m = sent_to b e.peer (message.Invite (ends_to b file e.birth)) in
      All-push Q w.tail m old (invited m (record { file = file; edge = e; among = among e refl; whole = refl }))

  pub each_invites : (files : List FileId) (w : Work) → All Q w.tail → All Q (invite_each b files w).tail
  each_invites [] w old = old
  each_invites (file ∷ files) w old =
      each_invites files (invite_of b file w)
      (chosen (λ (v : Work). All Q v.tail) (invites b file) (invite_along b file (loose_edge b file) w) w
      (along_invites file w old (loose_edge b file)
      (λ e h. among_contained (edges_of b file) e (loose_in (removed_of b) (own_at b.names file) (edges_of b file) e h))) old)

module _ (a : Store) (moment view server : ℕ) where
  abbrev Up : Work
  Up = new_work moment 0

  abbrev Invited : Sent → Type 0
  Invited = IsInvited a (call.Giveup view server)

  by_removal : (o : Result (Unit {0}) LookupError) → removal_at a view server ≡ o
      → All Invited (answered a Up o (λ found. answer (enter_view a server Up) reply.Done)).work.tail
  by_removal (Err why) is =
      let next : Unit {0} → Answer = λ found. told a Up reply.Done in
      nothing Invited (answered a Up (Err why) next).work.tail (answered_same a Up (Err why) next (λ found. refl))
  by_removal (Ok found) is =
      let b = enter a server in
      each_invites Invited b (λ m invite. (is, invite)) (keys_of b.names.held) (doubt_all b Up) (All-nil Invited)

call_last : (a : Store) (moment : ℕ) (c : Call)
    → All (GoesLast a (input.Call moment c)) (do_call a c (new_work moment 0)).work.tail
call_last a moment (call.Giveup view server) = by_removal a moment view server (removal_at a view server) refl
call_last a moment c =
    nothing (GoesLast a (input.Call moment c)) (do_call a c (new_work moment 0)).work.tail (call_same a c (new_work moment 0) refl)

-- ---- a tick

module _ (a : Store) (moment word : ℕ) where
  abbrev Begins : Sent → Type 0
  Begins = GoesLast a (input.Tick moment word)

  abbrev Few : List FileId
  Few = with_few_edges a

  from_has : (v : ℕ) (o : Option FileId) → ((file : FileId) → o ≡ Some file → HasFewEdges a file)
      → All Begins (walk_from a v (new_work 0 0) o).tail
  from_has v None few = All-nil Begins
  from_has v (Some file) few =
      let edges = edges_of a file in
      along_has Begins a file (server_of a) (birth_of a file) 3 (v / length edges) (λ m is. (file, few file refl, is)) (new_work 0 0) refl
      (slice_get edges (v % length edges)) (λ e h. edge_in edges (v % length edges) e h)

  begun_has : All Begins (tick_walks a word)
  begun_has =
      chosen (λ (w : Work). All Begins w.tail) (word == 0) (new_work 0 0) (walk_of a word Few (new_work 0 0)) (All-nil Begins)
      (from_has (word / length Few) (slice_get Few (word % length Few))
      (λ file h. few_there a file (at_among file Few (word % length Few) h)))

  tick_has : All Begins (first_effect a (input.Tick moment word)).work.tail
  tick_has =
      let w = new_work moment 0 in
      chosen (λ (d : Done). All Begins d.work.tail) (is_before_clock_end a) (ticked a word w) (idle a w)
      (subst (λ (v : Work). All Begins v.tail) (sym (again_is (without_sources a) word w)) begun_has) (All-nil Begins)

-- ALL THAT GOES LAST are walks and invites
pub first_tail : (a : Store) (asked : Input) → All (GoesLast a asked) (first_effect a asked).work.tail
first_tail a (input.Call moment c) = call_last a moment c
first_tail a (input.Tick moment word) = tick_has a moment word
first_tail a (input.Arrival packet) =
    let w = new_work 0 packet.from in
    let Q = IsPassedOn a packet.from packet.message in
    let R = GoesLast a (input.Arrival packet) in
    let d = receive a packet.message w in
    decided (λ (e : Done). All R e.work.tail) (is_heard a packet) d (idle a w)
    (λ heard. All-weaker Q R (λ m is. (heard, is)) d.work.tail (receive_has a packet.from packet.message)) (λ no. All-nil R)
first_tail a input.Restart = All-nil (GoesLast a input.Restart)

-- so what holds of these holds of all that goes last
pub tail_has : (Q : Sent → Type 0) (a : Store) (asked : Input) → ((m : Sent) → GoesLast a asked m → Q m)
    → All Q (first_effect a asked).work.tail
tail_has Q a asked h = All-weaker (GoesLast a asked) Q h (first_effect a asked).work.tail (first_tail a asked)

-- ---- whatever it names

-- a walk of some replica, with some origin; or an invite, in some view
pub record IsAnyWalk (a : Store) (m : Sent) : Type 0 where
  pub file : FileId
  pub origin : ℕ
  pub birth : ℕ
  pub walk : IsWalkOf a file origin birth m

passed_any : (a : Store) (from : ℕ) (c : Message) (m : Sent) → IsPassedOn a from c m → IsAnyWalk a m
passed_any a from (message.Walk ends origin birth hops word) m h =
    record { file = ends.file; origin = origin; birth = birth; walk = h.2 }
passed_any a from c m h = absurd h

invited_any : (a : Store) (c : Call) (m : Sent) → IsInvited a c m → (b : Store) × IsInvite b m
invited_any a (call.Giveup view server) m h = (enter a server, h.1)
invited_any a c m h = absurd h

pub any_last : (a : Store) (asked : Input) (m : Sent) → GoesLast a asked m
    → IsAnyWalk a m ⊎ ((b : Store) × IsInvite b m)
any_last a (input.Call moment c) m h = inr (invited_any a c m h)
any_last a (input.Tick moment word) m h =
    inl (record { file = h.0; origin = server_of a; birth = birth_of a h.0; walk = h.2 })
any_last a (input.Arrival packet) m h = inl (passed_any a packet.from packet.message m h.1)
any_last a input.Restart m h = absurd h

-- so what holds of all walks and all invites holds of all that goes last
pub lasts_have : (Q : Sent → Type 0) (a : Store) (asked : Input)
    → ((file : FileId) (e : Edge) (origin birth hops word : ℕ)
    → Q (sent_to a e.peer (message.Walk (ends_to a file e.birth) origin birth hops word)))
    → ((b : Store) (file : FileId) (e : Edge) → Q (sent_to b e.peer (message.Invite (ends_to b file e.birth))))
    → All Q (first_effect a asked).work.tail
lasts_have Q a asked walks invites =
    tail_has Q a asked (λ m sent. elim (any_last a asked m sent) [
      | inl any ↦ (
          let walk = any.walk in
          subst Q (sym walk.whole) (walks any.file walk.edge any.origin any.birth walk.hops walk.word))
      | inr any ↦ (
          let one = any.1 in
          subst Q (sym one.whole) (invites any.0 one.file one.edge))
    ])
