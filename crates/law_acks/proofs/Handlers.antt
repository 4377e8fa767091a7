-- What comes to a server keeps the rule of the edges: every message but a cell and an answer.
use Rattle.std.proofs.Common.{ℕ, ◌≡◌, ◌&&◌, ◌||◌, Bool, true, false, cond, not, [], ◌⊎◌, inl, inr, Option, None, Some, refl}
use Rattle.std.specs.Prelude.{nat_lt}
use Rattle.std.specs.List.Sorted.{IsStrictlySortedBy}
use Rattle.std.proofs.lemmas.Bool.{and_parts, not-true}
use Rattle.pg_run.specs.pg_base.declared.id.FileId.{FileId}
use Rattle.pg_run.specs.pg_base.declared.stamp.Stamp.{Stamp}
use Rattle.pg_run.specs.pg_entries.declared.entry.Entry.{Entry}
use Rattle.pg_run.specs.pg_intent.declared.key.IntentKey.{IntentKey}
use Rattle.pg_run.specs.pg_intent.declared.key.IntentKey.TheVariants as intent_key
use Rattle.pg_run.specs.pg_intent.Intents.{aimed, ended, intent_at}
use Rattle.pg_run.specs.pg_msg.declared.message.Ask.{Ask}
use Rattle.pg_run.specs.pg_msg.declared.message.Ask.TheVariants as ask
use Rattle.pg_run.specs.pg_msg.declared.message.Ends.{Ends}
use Rattle.pg_run.specs.pg_msg.declared.message.Granted.{Granted}
use Rattle.pg_run.specs.pg_msg.declared.message.Message.TheVariants as message
use Rattle.pg_run.specs.pg_msg.declared.work.Work.{Work}
use Rattle.pg_run.specs.pg_names.declared.attributes.Attributes.{Attributes}
use Rattle.pg_run.specs.pg_names.Names.{NamesValue, fill as fill_names, is_dir, or_blank, own_at}
use Rattle.pg_run.specs.pg_names.Names as names
use Rattle.pg_run.specs.pg_register.Flag.{IsByServer}
use Rattle.pg_run.specs.pg_house.Facts.{AreByServer}
use Rattle.pg_run.specs.pg_house.Work.{is_root}
use Rattle.pg_run.specs.pg_replica.declared.replica.Replica.{Replica}
use Rattle.pg_run.specs.pg_store.declared.store.Store.{Store}
use Rattle.pg_run.specs.pg_store.declared.wishes.Wish.{Wish}
use Rattle.pg_run.specs.pg_store.Beginning.{with_intents}
use Rattle.pg_run.specs.pg_store.Births.{fill_at, has_birth, is_fill_at, is_pending, wish_at, with_wishes}
use Rattle.pg_run.specs.pg_store.Links.{is_clean, knows_later, unlink}
use Rattle.pg_run.specs.pg_store.Servers.{next_target}
use Rattle.pg_run.specs.pg_store.Store.{is_full, is_held, replica_at, with_names}
use Rattle.pg_run.specs.pg_store.Wishes.{aim_wish, is_with_birth}
use Rattle.pg_run.specs.pg_pieces.declared.accepting.EdgeUse.{EdgeUse}
use Rattle.pg_run.specs.pg_pieces.declared.accepting.EdgeUse.TheVariants as manner
use Rattle.pg_run.specs.pg_pieces.Accepting.{accept, is_accepted, is_answer, link_peer, met, with_gone}
use Rattle.pg_run.specs.pg_pieces.Done.{Done, idle}
use Rattle.pg_run.specs.pg_pieces.Making.{raise_flag}
use Rattle.pg_run.specs.pg_pieces.Posting.{reply}
use Rattle.pg_run.specs.pg_pieces.Taking.{take_entry_noted, take_place_noted}
use Rattle.pg_run.specs.pg_repair.Confirming.{confirm, confirmed, is_confirmed, own_entry, place_is, place_told, take_told_flags, take_told_place}
use Rattle.pg_run.specs.pg_repair.Fetching.{answered_fetch, ends_to, fetch, give, given, granted_from}
use Rattle.pg_run.specs.pg_repair.Filling.{few_golds, fill, full, live_golds}
use Rattle.pg_run.specs.pg_repair.Granting.{aim_fill, begin_granted, begun_by, fill_asks, gone, grant, granted_own, no_grant, turn_fill, turn_wish, wish_asks}
use Rattle.pg_run.specs.pg_repair.NoneHere.{asking_key, does_ask, none_here}
use Rattle.pg_run.specs.pg_repair.Telling.{is_told, tell, tell_ok, told}
use Rattle.pg_run.specs.theory_flood_pieces.Seen.{Hearing}
use Rattle.pg_run.specs.theory_flood_pieces.Whole.{IsOther}
use Rattle.pg_run.proofs.theory_flood_pieces.Choices.{chosen, decided}
use Rattle.pg_run.proofs.theory_flood_pieces.Linking.{unlink_steps}
use Rattle.pg_run.proofs.theory_flood_pieces.Whole.{whole_unlink}
use Rattle.pg_run.proofs.theory_flood_pieces.Intents.{aimed_patches, ended_patches, intents_alike}
use Rattle.law_acks.proofs.Pieces.{IsDone, Stands, begun_done, beside_done, entry_done, filled_done, flags_done, link_done, on_done, place_done, posted, raised_done}

-- ---- what is pending is not held

or_cases : (s t : Bool) → s || t ≡ true → (s ≡ true) ⊎ (t ≡ true)
or_cases true t h = inl refl
or_cases false t h = inr h

wish_with : (o : Option Wish) (birth : ℕ) → is_with_birth o birth ≡ true → (wish : Wish) × (o ≡ Some wish)
wish_with None birth h = absurd (let z : false ≡ true = h in cc)
wish_with (Some wish) birth h = (wish, refl)

pub pending_away : (a : Store) (file : FileId) (birth : ℕ)
    → ((wish : Wish) → wish_at a file ≡ Some wish → is_held a file ≡ false)
    → is_pending a file birth ≡ true → is_held a file ≡ false
pending_away a file birth wished h =
    elim (or_cases (is_with_birth (wish_at a file) birth) (not (is_held a file) && is_fill_at (fill_at a file) birth) h) [
      | inl wish ↦ (let w = wish_with (wish_at a file) birth wish in wished w.0 w.1)
      | inr fill ↦ not-true (is_held a file) (and_parts (not (is_held a file)) (is_fill_at (fill_at a file) birth) fill).0
    ]

-- ---- flags stand by server

pub none_sorted : IsByServer []
unfolding IsStrictlySortedBy
none_sorted = tt

sorted_by : (names : NamesValue) → AreByServer names → (file : FileId) (o : Option Attributes) → own_at names file ≡ o
    → IsByServer (or_blank file o).flags
sorted_by names sorted file None is = none_sorted
sorted_by names sorted file (Some own) is = sorted file own is

own_sorted : (b : Store) → AreByServer b.names → (file : FileId)
    → IsByServer (names.own_or_blank b.names file).flags
own_sorted b sorted file = sorted_by b.names sorted file (own_at b.names file) refl

-- ---- Server s of n came from a, having heard this, and the message came from another server

module _ (n s : ℕ) (a : Store) (heard : Hearing) where
  abbrev Is : Done → Type 0
  Is d = IsDone n s a heard d

  abbrev At : Store → Work → Type 0
  At b work = Stands n s a heard b work

  -- an intention asks another server, or ends
  aimed_done : (b : Store) (work : Work) → At b work → (k : IntentKey) (target : ℕ)
      → At (with_intents b (aimed b.intents k target)) work
  aimed_done b work u k target =
      beside_done n s a heard b work u (with_intents b (aimed b.intents k target))
      (intents_alike b (aimed b.intents k target)) (aimed_patches b k target u.way.whole.patches)

  pub ended_done : (b : Store) (work : Work) → At b work → (k : IntentKey)
      → At (with_intents b (ended b.intents k)) work
  ended_done b work u k =
      beside_done n s a heard b work u (with_intents b (ended b.intents k))
      (intents_alike b (ended b.intents k)) (ended_patches b k u.way.whole.patches)

  -- ---- before the message itself is looked at

  gone_sent : (b : Store) (work : Work) → At b work → (ends : Ends) (m : EdgeUse)
      → At b (with_gone b ends m work)
  gone_sent b work u ends m =
      let gone = message.Gone ends.file ends.receiver in
      chosen (At b) (is_answer m || is_pending b ends.file ends.receiver) work (reply b gone work) u
      (posted n s a heard b work u work.from gone (λ from. refl) tt)

  met_done : (b : Store) (work : Work) → At b work → (ends : Ends) (m : EdgeUse)
      → IsOther n s work.from → Is (met b ends m work)
  met_done b work u ends manner.Makes other =
      link_done n s a heard b work u ends.file work.from ends.sender other
  met_done b work u ends manner.Needs other = u
  met_done b work u ends manner.Answers other = u

  pub accept_done : (b : Store) (work : Work) → At b work → (ends : Ends) (m : EdgeUse)
      → IsOther n s work.from → Is (accept b ends m work)
  accept_done b work u ends m other =
      let later = knows_later b ends.file work.from ends.sender in
      chosen Is (has_birth b ends.file ends.receiver) (cond later (idle b work) (met b ends m work))
      (idle b (with_gone b ends m work))
      (chosen Is later (idle b work) (met b ends m work) u (met_done b work u ends m other))
      (gone_sent b work u ends m)

  -- ---- who asks for a replica

  given_done : (b : Store) (work : Work) → At b work → (ends : Ends) (o : Option Replica)
      → At b (given b ends o work)
  given_done b work u ends None = u
  given_done b work u ends (Some x) =
      posted n s a heard b work u work.from
      (message.Grant ends (granted_from ends.file (names.own_or_blank b.names ends.file) x))
      (λ from. refl) (own_sorted b u.way.whole.names.sorted ends.file)

  answer_done : (d : Done) → Is d → (file : FileId) (birth : ℕ) → Is (answered_fetch file birth d)
  answer_done d u file birth =
      let ends = ends_to d.store file birth in
      chosen (At d.store) (is_clean d.store file d.work.from birth)
      (reply d.store (message.Full ends) d.work) (give d.store ends d.work)
      (posted n s a heard d.store d.work u d.work.from (message.Full ends) (λ from. refl) tt)
      (given_done d.store d.work u ends (replica_at d.store ends.file))

  pub fetch_done : (b : Store) (work : Work) → At b work → (file : FileId) (birth : ℕ)
      → IsOther n s work.from → Is (fetch b file birth work)
  fetch_done b work u file birth other =
      let later = knows_later b file work.from birth in
      let linked = answered_fetch file birth (link_peer b file work.from birth work) in
      let none = message.NoGrant file birth in
      chosen Is (is_full b file) (cond later (idle b work) linked) (idle b (reply b none work))
      (chosen Is later (idle b work) linked u
      (answer_done (link_peer b file work.from birth work)
      (link_done n s a heard b work u file work.from birth other) file birth))
      (posted n s a heard b work u work.from none (λ from. refl) tt)

  -- ---- what it is answered

  begin_granted_done : (b : Store) (work : Work) → At b work → (ends : Ends) (g : Granted)
      → IsOther n s work.from → is_held b ends.file ≡ false → IsByServer g.flags
      → Is (begin_granted b ends g work)
  begin_granted_done b work u ends g other away sorted =
      let begun = begun_by b ends g in
      let linked = link_peer begun ends.file work.from ends.sender work in
      aimed_done linked.store linked.work
      (link_done n s a heard begun work
      (begun_done n s a heard b work u ends.file ends.receiver g.policy (granted_own g) false away sorted)
      ends.file work.from ends.sender other)
      (intent_key.Fill ends.file) linked.work.from

  pub grant_done : (b : Store) (work : Work) → At b work → (ends : Ends) (g : Granted)
      → IsOther n s work.from → ((wish : Wish) → wish_at b ends.file ≡ Some wish → is_held b ends.file ≡ false)
      → IsByServer g.flags → Is (grant b ends g work)
  grant_done b work u ends g other wished sorted =
      decided Is (is_pending b ends.file ends.receiver) (begin_granted b ends g work)
      (accept b ends manner.Makes work)
      (λ pending. begin_granted_done b work u ends g other
      (pending_away b ends.file ends.receiver wished pending) sorted)
      (λ none. accept_done b work u ends manner.Makes other)

  wish_done : (b : Store) (work : Work) → At b work → (file : FileId) (birth from next : ℕ)
      → At (turn_wish b file birth from next) work
  wish_done b work u file birth from next =
      let turned = with_wishes b (aim_wish b.wishes file next) in
      chosen (λ (c : Store). At c work) (wish_asks (wish_at b file) birth from) turned b
      (beside_done n s a heard b work u turned (record { servers = refl; tags = refl; names = refl; replicas = refl }) u.way.whole.patches)
      u

  fill_turned : (b : Store) (work : Work) → At b work → (file : FileId) (birth from next : ℕ)
      → At (turn_fill b file birth from next) work
  fill_turned b work u file birth from next =
      chosen (λ (c : Store). At c work) (fill_asks (fill_at b file) birth from) (aim_fill b file next) b
      (aimed_done b work u (intent_key.Fill file) next) u

  pub no_grant_done : (b : Store) (work : Work) → At b work → (file : FileId) (birth : ℕ)
      → Is (no_grant b file birth work)
  no_grant_done b work u file birth =
      let next = next_target b work.from in
      let turned = turn_wish b file birth work.from next in
      fill_turned turned work (wish_done b work u file birth work.from next) file birth work.from
      (next_target b work.from)

  pub fill_done : (b : Store) (work : Work) → At b work → (file : FileId) → Is (fill b file work)
  fill_done b work u file =
      let whole = with_names b (fill_names b.names file) in
      let v = filled_done n s a heard b work u file in
      chosen Is (nat_lt (live_golds whole file) few_golds) (raise_flag whole file work) (idle whole work)
      (raised_done n s a heard whole work file v) v

  pub full_done : (b : Store) (work : Work) → At b work → (ends : Ends) → Is (full b ends work)
  full_done b work u ends =
      chosen Is (is_accepted b work.from manner.Answers ends && not (is_full b ends.file))
      (fill b ends.file work) (idle b work) (fill_done b work u ends.file) u

  pub gone_done : (b : Store) (work : Work) → At b work → (file : FileId) (birth : ℕ)
      → Is (gone b file birth work)
  gone_done b work u file birth =
      on_done n s a heard b work u (unlink b file work.from birth)
      (unlink_steps b file work.from birth) (whole_unlink n s b u.way.whole file work.from birth)

  -- ---- places of children

  told_place_done : (b : Store) (work : Work) → At b work → (e : Entry)
      → Is (take_told_place b e work)
  told_place_done b work u e =
      chosen Is (is_root e.child) (idle b work) (take_place_noted b e.child e.place work) u
      (place_done n s a heard b work u e.child e.place)

  place_told_done : (d : Done) → Is d → (dir child : FileId) → Is (place_told dir child d)
  place_told_done d u dir child =
      posted n s a heard d.store d.work u d.work.from (message.PlaceIs dir (own_entry d.store child))
      (λ from. refl) tt

  pub confirm_done : (b : Store) (work : Work) → At b work → (dir : FileId) (e : Entry)
      → Is (confirm b dir e work)
  confirm_done b work u dir e =
      let placed = take_told_place b e work in
      let none = message.NoneHere ask.Confirm dir e.child in
      chosen Is (is_held b e.child) (place_told dir e.child (take_told_flags e placed))
      (idle b (reply b none work))
      (place_told_done (take_told_flags e placed)
      (flags_done n s a heard e.flags placed.store placed.work e.child (told_place_done b work u e)) dir
      e.child)
      (posted n s a heard b work u work.from none (λ from. refl) tt)

  confirmed_done : (d : Done) → Is d → (dir : FileId) (e : Entry) → Is (confirmed dir e d)
  confirmed_done d u dir e =
      let k = intent_key.Confirm dir e.child in
      chosen (λ (c : Store). At c d.work) (is_confirmed d.store dir e.child e.place.stamp)
      (with_intents d.store (ended d.store.intents k)) d.store (ended_done d.store d.work u k) u

  pub place_is_done : (b : Store) (work : Work) → At b work → (dir : FileId) (e : Entry)
      → is_dir dir ≡ true → Is (place_is b dir e work)
  place_is_done b work u dir e of =
      let taken = take_entry_noted b dir e work in
      chosen Is (is_held b dir) (confirmed dir e taken) (idle b work)
      (confirmed_done taken (entry_done n s a heard b work u dir e of) dir e) u

  told_done : (d : Done) → Is d → (dir : FileId) (e : Entry) → Is (told dir e d)
  told_done d u dir e =
      posted n s a heard d.store d.work u d.work.from (message.TellOk dir e.child e.place.stamp)
      (λ from. refl) tt

  pub tell_done : (b : Store) (work : Work) → At b work → (dir : FileId) (e : Entry)
      → is_dir dir ≡ true → Is (tell b dir e work)
  tell_done b work u dir e of =
      let taken = take_entry_noted b dir e work in
      let none = message.NoneHere ask.Patch dir e.child in
      chosen Is (is_held b dir) (told dir e taken) (idle b (reply b none work))
      (told_done taken (entry_done n s a heard b work u dir e of) dir e)
      (posted n s a heard b work u work.from none (λ from. refl) tt)

  pub tell_ok_done : (b : Store) (work : Work) → At b work → (dir child : FileId) (stamp : Stamp)
      → Is (tell_ok b dir child stamp work)
  tell_ok_done b work u dir child stamp =
      let k = intent_key.Patch dir child in
      chosen (λ (c : Store). At c work) (is_told (intent_at b.intents k) stamp work.from)
      (with_intents b (ended b.intents k)) b (ended_done b work u k) u

  pub none_here_done : (b : Store) (work : Work) → At b work → (what : Ask) (file child : FileId)
      → Is (none_here b what file child work)
  none_here_done b work u what file child =
      let k = asking_key what file child in
      chosen (λ (c : Store). At c work) (does_ask (intent_at b.intents k) work.from)
      (with_intents b (aimed b.intents k (next_target b work.from))) b
      (aimed_done b work u k (next_target b work.from)) u
