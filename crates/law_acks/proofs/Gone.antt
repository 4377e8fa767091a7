-- A replica that goes leaves its birth over, so that it may count as over all along the event.
use Rattle.std.proofs.Common.{ℕ, ◌≡◌, ◌≤◌, ◌&&◌, ◌||◌, Bool, true, false, cond, not, List, [], ◌∷◌, Option, None, Some, is_some, option_map, refl, sym, ap, subst, ◌∙◌}
use Rattle.std.specs.List.{find}
use Rattle.std.specs.Option.{option_or}
use Rattle.std.proofs.lemmas.Bool.{and_parts, false≢true}
use Rattle.std.proofs.lemmas.Option.{none-some}
use Rattle.pg_run.specs.pg_base.declared.id.FileId.{FileId}
use Rattle.pg_run.specs.pg_base.declared.stamp.Stamp.{Stamp}
use Rattle.pg_run.proofs.pg_base.Orders.{is_same_file-refl}
use Rattle.pg_run.specs.pg_edges.declared.edge.Edge.{Edge}
use Rattle.pg_run.specs.pg_intent.declared.key.IntentKey.TheVariants as intent_key
use Rattle.pg_run.specs.pg_intent.Intent.{is_about}
use Rattle.pg_run.specs.pg_intent.Intents.{begun}
use Rattle.pg_run.proofs.pg_intent.Found.{begun_found}
use Rattle.pg_run.specs.pg_msg.declared.message.Ends.{Ends}
use Rattle.pg_run.specs.pg_msg.declared.message.Message.{Message}
use Rattle.pg_run.specs.pg_msg.declared.message.Message.TheVariants as message
use Rattle.pg_run.specs.pg_msg.declared.work.Work.{Work}
use Rattle.pg_run.specs.pg_msg.Work.{new_work}
use Rattle.pg_run.specs.pg_replica.declared.replica.Replica.{Replica}
use Rattle.pg_run.specs.pg_replica.Replicas.{is_of_birth}
use Rattle.pg_run.proofs.pg_replica.Going.{replica_behind}
use Rattle.pg_run.specs.pg_store.declared.store.Store.{Store}
use Rattle.pg_run.specs.pg_store.Beginning.{let_go, with_intents}
use Rattle.pg_run.specs.pg_store.Births.{birth_of, fill_at, is_fill_at, wish_at}
use Rattle.pg_run.specs.pg_store.Store.{is_held, replica_at, replica_of}
use Rattle.pg_run.specs.pg_store.Together.{IsOver}
use Rattle.pg_run.specs.pg_store.Wishes.{is_with_birth}
use Rattle.pg_run.proofs.pg_store.Over.{none_fills}
use Rattle.pg_run.specs.pg_pieces.Done.{Done, idle}
use Rattle.pg_run.specs.pg_pieces.Golds.{is_gold}
use Rattle.pg_run.specs.pg_pieces.Intending.{begin_intent}
use Rattle.pg_run.specs.pg_pieces.Parting.{by_edge, by_intent, has_child, if_gold, is_unclean, stays_for, unsettled_by}
use Rattle.pg_run.specs.pg_graph.Leaving.{begin_byes, bye_to, goes, goes_now, goes_or_stays, leave_ok, may_leave, without_leave}
use Rattle.pg_run.specs.pg_server.declared.input.Input.{Input}
use Rattle.pg_run.specs.pg_server.declared.input.Input.TheVariants as input
use Rattle.pg_run.specs.pg_server.Local.{first_effect, is_heard, receive}
use Rattle.pg_run.specs.theory_flood_pieces.Seen.{Overs}
use Rattle.law_acks.proofs.Cells.{replica_with}
use Rattle.law_acks.proofs.Leaving.{answered_birth}

-- where a replica goes its birth counts as over
abbrev pub CountsIn : Overs → Store → Message → Work → Type 0
CountsIn over a (message.LeaveOk ends stamp) work =
    goes_now a ends stamp work ≡ true → over ends.file ends.receiver ≡ true
CountsIn over a _ work = Unit {0}

abbrev pub Counts : Overs → Store → Input → Type 0
Counts over a (input.Call moment call) = Unit {0}
Counts over a (input.Tick moment word) = Unit {0}
Counts over a (input.Arrival packet) =
    is_heard a packet ≡ true → CountsIn over a packet.message (new_work 0 packet.from)
Counts over a input.Restart = Unit {0}

-- ---- nothing is intended about a replica that nothing keeps

or_none : {A : Type 0} (o p : Option A) → option_or o p ≡ None → (o ≡ None) × (p ≡ None)
or_none None p h = (refl, h)
or_none (Some x) p h = absurd (none-some x (sym h))

map_none : {A B : Type 0} (f : A → B) (o : Option A) → option_map f o ≡ None → o ≡ None
map_none f None h = refl
map_none f (Some x) h = absurd (none-some (f x) (sym h))

none_of : {A : Type 0} (o : Option A) → not (is_some o) ≡ true → o ≡ None
none_of None h = refl
none_of (Some x) h = absurd (false≢true h)

unintended : (b : Store) (file : FileId) → stays_for b file ≡ None → find (is_about file) b.intents ≡ None
unintended b file h =
    let one = or_none (if_gold (is_gold b file)) (option_or (has_child b file) (unsettled_by b file)) h in
    let two = or_none (has_child b file) (unsettled_by b file) one.1 in
    let three = or_none (option_map (by_intent file) (find (is_about file) b.intents))
    (option_map (by_edge file) (find is_unclean (replica_of b file).edges)) two.1 in
    map_none (by_intent file) (find (is_about file) b.intents) three.0

-- ---- its birth is over then

-- each replica has a birth that was given out, and no wish
abbrev pub HaveBirths : Store → Type 0
HaveBirths a = (file : FileId) (x : Replica) → replica_at a file ≡ Some x
    → (x.birth ≤ a.births) × (wish_at a file ≡ None)

never : (t : Bool) → (t && false) ≡ false
never true = refl
never false = refl

left_over : (b : Store) (file : FileId) (n : ℕ) → n ≤ b.births → wish_at b file ≡ None → fill_at b file ≡ None
    → IsOver (let_go b file) file n
left_over b file n given unwished unfilled =
    let held = is_held (let_go b file) file in
    record {
      given = given;
      away = ap (λ (o : Option Replica). is_of_birth o n) (replica_behind b.replicas file file
          ∙ ap (λ t. cond (not t) (replica_at b file) None) (is_same_file-refl file));
      unasked =
          ap (λ o. is_with_birth o n || (not held && is_fill_at (fill_at b file) n)) unwished
          ∙ ap (λ o. not held && is_fill_at o n) unfilled ∙ never (not held);
    }

-- where a Bye begins
bye_over : (b : Store) (file : FileId) (n : ℕ) (e : Edge) (g : FileId) (m : ℕ) → IsOver b g m
    → IsOver (with_intents b (begun b.intents (bye_to file n e))) g m
bye_over b file n e g m o = record {
  given = o.given;
  away = o.away;
  unasked =
      ap (λ p. is_with_birth (wish_at b g) m || (not (is_held b g) && is_fill_at p m))
      (begun_found b.intents (bye_to file n e) (intent_key.Fill g)) ∙ o.unasked;
}

byes_over : (file : FileId) (n : ℕ) (es : List Edge) (d : Done) (g : FileId) (m : ℕ) → IsOver d.store g m
    → IsOver (begin_byes file n es d).store g m
byes_over file n [] d g m o = o
byes_over file n (e ∷ es) d g m o =
    byes_over file n es (begin_intent d.store (bye_to file n e) d.work) g m (bye_over d.store file n e g m o)

-- WHAT GOES IS OVER
pub gone_over : (a : Store) (ends : Ends) (stamp : Stamp) (work : Work) → HaveBirths a
    → goes_now a ends stamp work ≡ true → IsOver (leave_ok a ends stamp work).store ends.file ends.receiver
gone_over a ends stamp work births now =
    let file = ends.file in
    let free = without_leave a file in
    let stays = is_some (stays_for free file) in
    let parts = and_parts (may_leave a ends stamp work) (not stays) now in
    let none : stays_for free file ≡ None = none_of (stays_for free file) parts.1 in
    let x = replica_with a file ends.receiver (answered_birth a ends stamp work parts.0) in
    let own = births file x.0 x.1 in
    let is : leave_ok a ends stamp work ≡ goes free file work =
    ap (λ t. cond t (goes_or_stays free file work) (idle a work)) parts.0
    ∙ ap (λ o. cond (is_some o) (idle free work) (goes free file work)) none in
    subst (λ (d : Done). IsOver d.store file ends.receiver) (sym is)
    (byes_over file (birth_of free file) (replica_of free file).edges (idle (let_go free file) work) file ends.receiver
    (left_over free file ends.receiver (subst (λ m. m ≤ a.births) x.2 own.0) own.1
    (none_fills file free.intents (unintended free file none))))

-- ---- of any input

module _ (over : Overs) (a : Store) (births : HaveBirths a) where
  -- all that is over in this store counts
  abbrev CountsAt : Done → Type 0
  CountsAt d = (file : FileId) (n : ℕ) → IsOver d.store file n → over file n ≡ true

  counts_of : (m : Message) (work : Work) → CountsAt (receive a m work) → CountsIn over a m work
  counts_of (message.LeaveOk ends stamp) work h =
      λ now. h ends.file ends.receiver (gone_over a ends stamp work births now)
  counts_of m work h = tt

  -- WHAT IS OVER BEHIND THE FIRST EFFECT, counts where a replica goes
  pub counts_in : (asked : Input) → CountsAt (first_effect a asked) → Counts over a asked
  counts_in (input.Call moment c) h = tt
  counts_in (input.Tick moment word) h = tt
  counts_in (input.Arrival packet) h =
      λ heard.
      let w = new_work 0 packet.from in
      let met : first_effect a (input.Arrival packet) ≡ receive a packet.message w =
      ap (λ t. cond t (receive a packet.message w) (idle a w)) heard in
      counts_of packet.message w (subst CountsAt met h)
  counts_in input.Restart h = tt
