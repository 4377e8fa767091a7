-- What each event does to the births and edges of the server that takes an input.
use Rattle.std.proofs.Common.{ℕ, ◌≡◌, Bool, true, false, cond, List, Option, None, Some, is_some, refl, sym, ap, subst, ◌∙◌}
use Rattle.std.specs.Option.{option_map}
use Rattle.std.proofs.lemmas.Bool.{and_parts, false≢true, not-true}
use Rattle.pg_run.specs.pg_base.declared.head.Head.{Head}
use Rattle.pg_run.specs.pg_base.declared.id.FileId.{FileId}
use Rattle.pg_run.specs.pg_base.declared.id.Kind.{Kind}
use Rattle.pg_run.specs.pg_base.declared.stamp.Stamp.{Stamp}
use Rattle.pg_run.specs.pg_call.declared.call.Call.{Call}
use Rattle.pg_run.specs.pg_call.declared.reply.Reply.{Reply}
use Rattle.pg_run.specs.pg_entries.declared.cell.Cell.{Cell}
use Rattle.pg_run.specs.pg_msg.declared.message.Ends.{Ends}
use Rattle.pg_run.specs.pg_msg.declared.message.Granted.{Granted}
use Rattle.pg_run.specs.pg_msg.declared.message.Message.{Message}
use Rattle.pg_run.specs.pg_msg.declared.message.Message.TheVariants as message
use Rattle.pg_run.specs.pg_msg.declared.message.Packet.{Packet}
use Rattle.pg_run.specs.pg_msg.declared.work.Work.{Work}
use Rattle.pg_run.specs.pg_msg.Work.{new_work}
use Rattle.pg_run.specs.pg_names.Names.{is_dir}
use Rattle.pg_run.specs.pg_replica.declared.replica.Replica.{Replica}
use Rattle.pg_run.specs.pg_replica.Replicas.{ByFile, is_of_birth, replica_in}
use Rattle.pg_run.specs.pg_store.declared.store.Store.{Store}
use Rattle.pg_run.specs.pg_store.Births.{has_birth, is_pending}
use Rattle.pg_run.specs.pg_store.Links.{knows_later, link}
use Rattle.pg_run.specs.pg_store.Store.{is_before_clock_end, is_held, replica_at}
use Rattle.pg_run.proofs.pg_store.Aiming.{unwished_as_before}
use Rattle.pg_run.proofs.pg_store.Given.{pending_may}
use Rattle.pg_run.specs.pg_pieces.declared.accepting.EdgeUse.TheVariants as manner
use Rattle.pg_run.specs.pg_pieces.Accepting.{accept, is_accepted, is_current, link_peer, with_gone}
use Rattle.pg_run.specs.pg_cells.Cells.{cell, fits, taken_along}
use Rattle.pg_run.specs.pg_pieces.Done.{Done, idle}
use Rattle.pg_run.specs.pg_graph.Leaving.{leave, leave_given}
use Rattle.pg_run.specs.pg_repair.Granting.{begin_granted, grant}
use Rattle.pg_run.proofs.pg_intentions.Steady.{begin_end_stays}
use Rattle.pg_run.specs.pg_server.declared.input.Input.{Input}
use Rattle.pg_run.specs.pg_server.declared.input.Input.TheVariants as input
use Rattle.pg_run.specs.pg_server.Local.{Effect, closed, effect, finished, first_effect, intended, is_heard, receive, reply_to, settled, takes_effect, ticked, without_volatile}
use Rattle.pg_run.specs.pg_announced.Announced.{released}
use Rattle.pg_run.specs.pg_server.pg_transfer.Asking.{noted}
use Rattle.pg_run.specs.pg_server.pg_transfer.Harbinger.{harbinger, heard}
use Rattle.pg_run.proofs.theory_flood_pieces.Choices.{chosen, decided}
use Rattle.pg_run.specs.Births.{linking}
use Rattle.pg_run.proofs.TransferWays.{beside_goes, heard_goes}
use Rattle.pg_run.specs.Intending.{FillsStand}
use Rattle.pg_run.specs.pg_calls.Naming.{next_id}
use Rattle.law_births.specs.Premises.{IsFree}
use Rattle.law_births.proofs.Calls.{MayEnter, call_moves}
use Rattle.law_births.proofs.Ends.{born_to}
use Rattle.law_births.proofs.Handlers.{received_moves, taken_stays}
use Rattle.law_births.proofs.Has.{IsAlone, before_goes}
use Rattle.law_births.proofs.Intends.{begin_end_goes}
use Rattle.law_births.proofs.Leaves.{Lets, lets_any}
use Rattle.law_births.proofs.Moving.{AnyWhy, Moves, Why, goes_moves, linked_there, moves_goes, moves_itself, moves_stay, stays_moves}
use Rattle.law_births.proofs.Pieces.{notes_stay, settle_stays, shape, shape_at}

-- ---- the end of an event

pub intended_shapes : (d : Done) (q : FileId) → shape_at (intended d).store q ≡ shape_at d.store q
intended_shapes d q =
    ap (λ (rs : ByFile). option_map shape (replica_in rs q)) (begin_end_stays d.store d.work).replicas

pub closed_moves : (V : Why) (a : Store) (r : Option Reply) (d : Done) → Moves V a d.store → Moves V a (closed r d).store
closed_moves V a r d m =
    let s = settled d in
    moves_goes (moves_stay m (settle_stays d.store d.work)) (begin_end_goes s.store s.work) (intended_shapes s)

-- what an input says that went
pub record LetsIn (V : Why) (a : Store) (asked : Input) : Type 0 where
  pub says : (packet : Packet) → asked ≡ input.Arrival packet → takes_effect a asked ≡ true
      → Lets V a packet.message (new_work 0 packet.from)
  pub enters : (moment : ℕ) (c : Call) → asked ≡ input.Call moment c → MayEnter V a c

pub lets_in_any : (a : Store) (asked : Input) → LetsIn AnyWhy a asked
lets_in_any a asked = record {
  says = λ packet is heard. lets_any a packet.message (new_work 0 packet.from);
  enters = λ moment c is view server u same at file birth. tt;
}

module _ (V : Why) (a : Store) (fills : FillsStand a) (free : (kind : Kind) → IsFree a (next_id a kind)) where
  pub first_moves : (asked : Input) → LetsIn V a asked → Moves V a (first_effect a asked).store
  first_moves (input.Call moment c) lets = call_moves V a fills free (new_work moment 0) c (lets.enters moment c refl)
  first_moves (input.Tick moment word) lets =
      let w = new_work moment 0 in
      chosen (λ (d : Done). Moves V a d.store) (is_before_clock_end a) (ticked a word w) (idle a w)
      (stays_moves (notes_stay a (released a.announced))) (moves_itself a)
  first_moves (input.Arrival packet) lets =
      let w = new_work 0 packet.from in
      decided (λ (d : Done). Moves V a d.store) (is_heard a packet) (receive a packet.message w) (idle a w)
      (λ heard. received_moves V a packet.message w (lets.says packet refl heard)) (λ no. moves_itself a)
  first_moves input.Restart lets = goes_moves (before_goes a (without_volatile a) (unwished_as_before a)) (λ q. refl)

  -- ANY INPUT
  pub effect_moves : (asked : Input) → LetsIn V a asked → Moves V a (effect a asked).store
  effect_moves asked lets =
      let d = first_effect a asked in
      chosen (λ (e : Effect). Moves V a e.store) (takes_effect a asked) (closed (reply_to a asked) d) (finished (reply_to a asked) d)
      (closed_moves V a (reply_to a asked) d (first_moves asked lets)) (first_moves asked lets)

-- behind its first effect
pub end_moves : (V : Why) (a : Store) (asked : Input) → Moves V (first_effect a asked).store (effect a asked).store
end_moves V a asked =
    let d = first_effect a asked in
    chosen (λ (e : Effect). Moves V d.store e.store) (takes_effect a asked) (closed (reply_to a asked) d) (finished (reply_to a asked) d)
    (closed_moves V d.store (reply_to a asked) d (moves_itself d.store)) (moves_itself d.store)

-- ---- who accepts a message that links its sender lists it

-- the thing is held, and lists this birth of the peer
abbrev pub Lists : Store → FileId → ℕ → ℕ → Type 0
Lists a file peer birth = (n : ℕ) × (fs : List (ℕ × ℕ)) × (shape_at a file ≡ Some (n, fs)) × (born_to fs peer ≡ Some birth)

pub lists_on : (a b : Store) (file : FileId) (peer birth : ℕ) → shape_at b file ≡ shape_at a file → Lists a file peer birth → Lists b file peer birth
lists_on a b file peer birth same l = (l.0, l.1, same ∙ l.2, l.3)

of_birth : (o : Option Replica) (n : ℕ) → is_of_birth o n ≡ true → (x : Replica) × (o ≡ Some x)
of_birth None n e = cc
of_birth (Some x) n e = (x, refl)

module _ (a : Store) (ends : Ends) (work : Work) (current : is_current a work.from ends ≡ true) where
  abbrev Named : Store → Type 0
  Named b = Lists b ends.file work.from ends.sender

  born_here : has_birth a ends.file ends.receiver ≡ true
  born_here = (and_parts (has_birth a ends.file ends.receiver) _ current).0

  not_later : knows_later a ends.file work.from ends.sender ≡ false
  not_later = not-true (knows_later a ends.file work.from ends.sender) (and_parts (has_birth a ends.file ends.receiver) _ current).1

  link_listed : Named (link a ends.file work.from ends.sender)
  link_listed =
      let x = of_birth (replica_at a ends.file) ends.receiver born_here in
      let l = linked_there a ends.file work.from ends.sender x.0 x.1 not_later in
      (x.0.birth, l.0, l.1, l.2)

  met_by : (born later : Bool) (d old gone : Done) → born ≡ true → later ≡ false → Named d.store
      → Named (cond born (cond later old d) gone).store
  met_by true false d old gone b l k = k
  met_by true true d old gone b l k = absurd (false≢true (sym l))
  met_by false later d old gone b l k = absurd (false≢true b)

  accept_listed : Named (accept a ends manner.Makes work).store
  accept_listed =
      met_by (has_birth a ends.file ends.receiver) (knows_later a ends.file work.from ends.sender)
      (link_peer a ends.file work.from ends.sender work) (idle a work) (idle a (with_gone a ends manner.Makes work))
      born_here not_later link_listed

  pub leave_listed : (stamp : Stamp) → Named (leave a ends stamp work).store
  leave_listed stamp =
      let met = accept a ends manner.Makes work in
      chosen (λ (d : Done). Named d.store) (is_accepted a work.from manner.Makes ends) (leave_given ends stamp met) met accept_listed accept_listed

  fitting : (t : Bool) (d e : Done) → t ≡ true → Named d.store → Named (cond t d e).store
  fitting true d e is k = k
  fitting false d e is k = absurd (false≢true is)

  pub cell_listed : (tag : ℕ) (c : Cell) → fits ends.file c ≡ true → Named (cell a ends tag c work).store
  cell_listed tag c fit =
      let met = accept a ends manner.Makes work in
      fitting (fits ends.file c) (cond (is_accepted a work.from manner.Makes ends) (taken_along ends tag c met) met) (idle a work) fit
      (chosen (λ (d : Done). Named d.store) (is_accepted a work.from manner.Makes ends) (taken_along ends tag c met) met
      (lists_on met.store (taken_along ends tag c met).store ends.file work.from ends.sender
      ((taken_stays met.store ends.file c met.work).shapes ends.file) accept_listed)
      accept_listed)

  granting : (t : Bool) (d e : Done) → t ≡ false → Named e.store → Named (cond t d e).store
  granting true d e is k = absurd (false≢true (sym is))
  granting false d e is k = k

  -- a harbinger of a file
  pub harbinger_listed : (tag : ℕ) (head : Head) → is_dir ends.file ≡ false → Named (harbinger a ends tag head work).store
  harbinger_listed tag head file =
      let met = accept a ends manner.Makes work in
      let t = is_accepted a work.from manner.Makes ends in
      let done = heard met.store ends tag head met.work in
      let P : Done → Type 0 = λ d. Named d.store in
      granting (is_dir ends.file) (idle a work) (cond t done met) file
      (chosen P t done met
      (heard_goes P met.store ends met.work tag head (λ is. accept_listed) (λ no is. accept_listed)
      (λ no free. beside_goes P met.store ends met.work tag head (noted met.store ends.file head.stamp) (λ none. accept_listed)
      (λ n is. accept_listed))) accept_listed)

  held_here : IsAlone a → is_held a ends.file ≡ true
  held_here k =
      let x = of_birth (replica_at a ends.file) ends.receiver born_here in
      sym (k.together ends.file) ∙ ap (λ (o : Option Replica). is_some o) x.1

  unpending : IsAlone a → (t : Bool) → is_pending a ends.file ends.receiver ≡ t → t ≡ false
  unpending k true is = absurd (false≢true (sym (pending_may a ends.file ends.receiver k.births is).away ∙ held_here k))
  unpending k false is = refl

  pub grant_listed : IsAlone a → (g : Granted) → Named (grant a ends g work).store
  grant_listed k g =
      granting (is_pending a ends.file ends.receiver) (begin_granted a ends g work) (accept a ends manner.Makes work)
      (unpending k (is_pending a ends.file ends.receiver) refl) accept_listed

module _ (a : Store) (k : IsAlone a) (work : Work) (ends : Ends) (current : is_current a work.from ends ≡ true) where
  same_ends : (x y : Ends) → ◌≡◌ {A = Option Ends} (Some x) (Some y) → x ≡ y
  same_ends x y e = cc

  abbrev After : Store → Ends → Type 0
  After b z = Lists b z.file work.from z.sender

  no_ends : ◌≡◌ {A = Option Ends} None (Some ends) → (b : Store) → After b ends
  no_ends e b = cc

  cell_by : (x : Ends) (tag : ℕ) (c : Cell) (t : Bool) → fits x.file c ≡ t → cond t (Some x) None ≡ Some ends
      → After (cell a x tag c work).store ends
  cell_by x tag c true fit e =
      let P : Ends → Type 0 = λ z. is_current a work.from z ≡ true → After (cell a x tag c work).store z in
      subst P (same_ends x ends e) (λ cur. cell_listed a x work cur tag c fit) current
  cell_by x tag c false fit e = no_ends e (cell a x tag c work).store

  grant_by : (x : Ends) (g : Granted) → ◌≡◌ {A = Option Ends} (Some x) (Some ends) → After (grant a x g work).store ends
  grant_by x g e =
      let P : Ends → Type 0 = λ z. is_current a work.from z ≡ true → After (grant a x g work).store z in
      subst P (same_ends x ends e) (λ cur. grant_listed a x work cur k g) current

  here_by : (x : Ends) → ◌≡◌ {A = Option Ends} (Some x) (Some ends) → After (accept a x manner.Makes work).store ends
  here_by x e =
      let P : Ends → Type 0 = λ z. is_current a work.from z ≡ true → After (accept a x manner.Makes work).store z in
      subst P (same_ends x ends e) (λ cur. accept_listed a x work cur) current

  leave_by : (x : Ends) (stamp : Stamp) → ◌≡◌ {A = Option Ends} (Some x) (Some ends) → After (leave a x stamp work).store ends
  leave_by x stamp e =
      let P : Ends → Type 0 = λ z. is_current a work.from z ≡ true → After (leave a x stamp work).store z in
      subst P (same_ends x ends e) (λ cur. leave_listed a x work cur stamp) current

  harbinger_by : (x : Ends) (tag : ℕ) (head : Head) (t : Bool) → is_dir x.file ≡ t → cond t None (Some x) ≡ Some ends
      → After (harbinger a x tag head work).store ends
  harbinger_by x tag head true dir e = no_ends e (harbinger a x tag head work).store
  harbinger_by x tag head false dir e =
      let P : Ends → Type 0 = λ z. is_current a work.from z ≡ true → After (harbinger a x tag head work).store z in
      subst P (same_ends x ends e) (λ cur. harbinger_listed a x work cur tag head dir) current

  pub received_lists : (m : Message) → linking m ≡ Some ends → After (receive a m work).store ends
  received_lists (message.Cell x tag c) e = cell_by x tag c (fits x.file c) refl e
  received_lists (message.Harbinger x tag head) e = harbinger_by x tag head (is_dir x.file) refl e
  received_lists (message.Grant x g) e = grant_by x g e
  received_lists (message.Greet x why) e = here_by x e
  received_lists (message.Leave x stamp) e = leave_by x stamp e
  received_lists m e = no_ends e (receive a m work).store

-- behind the whole event
module _ (a : Store) (k : IsAlone a) (packet : Packet) (ends : Ends) (heard : is_heard a packet ≡ true)
    (links : linking packet.message ≡ Some ends) (current : is_current a packet.from ends ≡ true) where
  abbrev Work0 : Work
  Work0 = new_work 0 packet.from

  abbrev Here : Store → Type 0
  Here b = Lists b ends.file packet.from ends.sender

  choose : {A : Type 0} (P : A → Type 0) (t : Bool) (x y : A) → t ≡ true → P x → P (cond t x y)
  choose P true x y is here = here
  choose P false x y is here = absurd (false≢true is)

  first_lists : Here (first_effect a (input.Arrival packet)).store
  first_lists =
      choose (λ (d : Done). Here d.store) (is_heard a packet) (receive a packet.message Work0) (idle a Work0) heard
      (received_lists a k Work0 ends current packet.message links)

  pub arrival_lists : Here (effect a (input.Arrival packet)).store
  arrival_lists =
      let d = first_effect a (input.Arrival packet) in
      let s = settled d in
      choose (λ (e : Effect). Here e.store) (is_heard a packet) (closed None d) (finished None d) heard
      (lists_on s.store (intended s).store ends.file packet.from ends.sender (intended_shapes s ends.file)
      (lists_on d.store s.store ends.file packet.from ends.sender ((settle_stays d.store d.work).shapes ends.file) first_lists))
