-- Replicas that are asked for, granted, full and gold; and replicas that go.
use Rattle.std.proofs.Common.{ℕ, ◌≡◌, ◌&&◌, not, Bool, true, cond, Option, None, Some, refl, ◌∙◌}
use Rattle.std.specs.Prelude.{Contains, nat_lt}
use Rattle.std.proofs.lemmas.Bool.{and_parts, not-true}
use Rattle.std.proofs.lemmas.List.Elements.{All-contains_itself}
use Rattle.pg_run.specs.pg_base.declared.id.FileId.{FileId}
use Rattle.pg_run.specs.pg_base.declared.stamp.Stamp.{Stamp}
use Rattle.pg_run.specs.pg_intent.declared.key.IntentKey.TheVariants as intent_key
use Rattle.pg_run.specs.pg_intent.Intent.{key_of}
use Rattle.pg_run.specs.pg_intent.Intents.{stands}
use Rattle.pg_run.specs.pg_msg.declared.message.Ends.{Ends}
use Rattle.pg_run.specs.pg_msg.declared.message.Granted.{Granted}
use Rattle.pg_run.specs.pg_msg.declared.message.Message.{Message}
use Rattle.pg_run.specs.pg_msg.declared.message.Message.TheVariants as message
use Rattle.pg_run.specs.pg_msg.declared.update.Update.TheVariants as update
use Rattle.pg_run.specs.pg_msg.declared.work.Work.{Work}
use Rattle.pg_run.specs.pg_msg.Work.{with_made}
use Rattle.pg_run.specs.pg_names.Names.{own_or_blank}
use Rattle.pg_run.specs.pg_names.Names.{fill as fill_names}
use Rattle.pg_run.specs.pg_replica.declared.replica.Replica.{Replica}
use Rattle.pg_run.specs.pg_store.declared.store.Store.{Store}
use Rattle.pg_run.specs.pg_store.Beginning.{let_go}
use Rattle.pg_run.specs.pg_store.Births.{birth_of, fill_at, has_birth, is_pending, wish_at, with_wishes}
use Rattle.pg_run.specs.pg_store.Links.{is_clean, knows_later}
use Rattle.pg_run.specs.pg_store.Servers.{next_target}
use Rattle.pg_run.specs.pg_store.Store.{is_full, replica_at, replica_of, with_names}
use Rattle.pg_run.specs.pg_store.Wishes.{aim_wish}
use Rattle.pg_run.specs.pg_pieces.declared.accepting.EdgeUse.TheVariants as manner
use Rattle.pg_run.specs.pg_pieces.Accepting.{accept, ends_to, is_accepted, is_current, link_peer}
use Rattle.pg_run.specs.pg_pieces.Done.{Done, idle}
use Rattle.pg_run.specs.pg_pieces.Making.{own_next, raise_flag}
use Rattle.pg_run.specs.pg_pieces.Posting.{reply}
use Rattle.pg_run.specs.pg_graph.Leaving.{bye, bye_ok, bye_to, gives_leave, leave, leave_given, leave_ok, without_leave}
use Rattle.pg_run.specs.pg_repair.Fetching.{answered_fetch, fetch, give, given, granted_from}
use Rattle.pg_run.specs.pg_repair.Filling.{few_golds, fill, full, invite, invited, is_bronze, live_golds, raise_if_few}
use Rattle.pg_run.specs.pg_repair.Granting.{aim_fill, begin_granted, begun_by, fill_asks, gone, grant, no_grant, turn_wish, wish_asks}
use Rattle.pg_run.proofs.pg_graph.LeaveOk.{byes_by, leave_ok_by}
use Rattle.pg_run.proofs.theory_flood_pieces.Choices.{chosen, decided}
use Rattle.pg_run.proofs.Still.{begun_still, flag_still}
use Rattle.law_frame.proofs.Along.{accept_keeps, answered, linked}
use Rattle.law_frame.proofs.Keeps.{Keeps, Kept, raising}

module _ (a : Store) (w : Work) (I : Done → Type 0) where
  abbrev J : Done → Type 0
  J d = Kept w I d

  -- what was accepted is of a replica that is here
  accepted_here : (ends : Ends) (t : Bool) → (is_current a w.from ends && t) ≡ true
      → has_birth a ends.file ends.receiver ≡ true
  accepted_here ends t h =
      (and_parts (has_birth a ends.file ends.receiver) (not (knows_later a ends.file w.from ends.sender))
      (and_parts (is_current a w.from ends) t h).0).0

  -- ---- asked for

  given_keeps : (m : Message) (k : Keeps a w m I) (d : Done) (file : FileId) (birth : ℕ)
      → m ≡ message.Fetch file birth → is_full a file ≡ true
      → (o : Option Replica) → replica_at d.store file ≡ o → J d
      → J (idle d.store (given d.store (ends_to d.store file birth) o d.work))
  given_keeps m k d file birth is full None at h = h
  given_keeps m k d file birth is full (Some x) at h =
      let ends = ends_to d.store file birth in
      answered a w I m k d
      (message.Grant ends (granted_from file (own_or_blank d.store.names file) x))
      (record { asked = is; is = refl; full = full; here = x; at = at; what = refl }) h

  pub fetch_keeps : (file : FileId) (birth : ℕ) → Keeps a w (message.Fetch file birth) I
      → J (idle a w) → J (fetch a file birth w)
  fetch_keeps file birth k h =
      let m = message.Fetch file birth in
      let to = link_peer a file w.from birth w in
      let late = knows_later a file w.from birth in
      let none = idle a (reply a (message.NoGrant file birth) w) in
      let met = linked a w I m k (idle a w) file birth refl h in
      let ends = ends_to to.store file birth in
      decided J (is_full a file) (cond late (idle a w) (answered_fetch file birth to)) none
      (λ full. chosen J late (idle a w) (answered_fetch file birth to) h
      (chosen (λ (v : Work). J (idle to.store v)) (is_clean to.store file to.work.from birth)
      (reply to.store (message.Full ends) to.work) (give to.store ends to.work)
      (answered a w I m k to (message.Full ends) (refl, refl, full) met)
      (given_keeps m k to file birth refl full (replica_at to.store file) refl met)))
      (λ less. answered a w I m k (idle a w) (message.NoGrant file birth) refl h)

  -- ---- granted, and not

  pub grant_keeps : (ends : Ends) (granted : Granted) → Keeps a w (message.Grant ends granted) I
      → J (idle a w) → J (grant a ends granted w)
  grant_keeps ends granted k h =
      let m = message.Grant ends granted in
      let b = begun_by a ends granted in
      let to = link_peer b ends.file w.from ends.sender w in
      decided J (is_pending a ends.file ends.receiver) (begin_granted a ends granted w)
      (accept a ends manner.Makes w)
      (λ pending.
      let begun = k.begins ends granted refl pending h.0 in
      let met = linked a w I m k (idle b w) ends.file ends.sender refl (begun, refl) in
      (k.asks_granter to ends granted refl met.1 met.0, met.1))
      (λ here. accept_keeps a w I m k manner.Makes ends refl refl h)

  pub no_grant_keeps : (file : FileId) (birth : ℕ) → Keeps a w (message.NoGrant file birth) I
      → J (idle a w) → J (no_grant a file birth w)
  no_grant_keeps file birth k h =
      let next = next_target a w.from in
      let b = turn_wish a file birth w.from next in
      let turned = with_wishes a (aim_wish a.wishes file next) in
      let first : I (idle b w) =
      chosen (λ (c : Store). I (idle c w)) (wish_asks (wish_at a file) birth w.from) turned a
      (k.turns_wish (idle a w) file next refl h.0) h.0 in (
        chosen (λ (c : Store). I (idle c w)) (fill_asks (fill_at b file) birth w.from)
            (aim_fill b file next) b
            (k.turns_intent (idle b w) (intent_key.Fill file) next refl first) first,
        refl,
      )

  -- ---- full and gold

  few_keeps : (m : Message) (k : Keeps a w m I) (d : Done) (ends : Ends) → raising m ≡ Some ends
      → has_birth a ends.file ends.receiver ≡ true → J d → J (raise_if_few d.store ends.file d.work)
  few_keeps m k d ends of here h =
      let flag = own_next d.store ends.file true in
      let made = with_made d.work (update.Flag ends.file flag) in
      decided J (nat_lt (live_golds d.store ends.file) few_golds) (raise_flag d.store ends.file d.work)
      (idle d.store d.work)
      (λ few. (
        k.raises d ends of here few h.0,
        (flag_still d.store ends.file flag made).mail.from ∙ h.1,
      )) (λ enough. h)

  pub full_keeps : (ends : Ends) → Keeps a w (message.Full ends) I → J (idle a w)
      → J (full a ends w)
  full_keeps ends k h =
      let accepted = is_accepted a w.from manner.Answers ends in
      let filling = not (is_full a ends.file) in
      decided J (accepted && filling) (fill a ends.file w) (idle a w)
      (λ is.
      let both = and_parts accepted filling is in
      let b = with_names a (fill_names a.names ends.file) in
      few_keeps (message.Full ends) k (idle b w) ends refl (accepted_here ends _ both.0)
      (k.fills ends refl both.0 (not-true (is_full a ends.file) both.1) h.0, refl))
      (λ no. h)

  pub invite_keeps : (ends : Ends) → Keeps a w (message.Invite ends) I → J (idle a w)
      → J (invite a ends w)
  invite_keeps ends k h =
      let m = message.Invite ends in
      let to = accept a ends manner.Needs w in
      let met = accept_keeps a w I m k manner.Needs ends refl tt h in
      decided J (is_accepted a w.from manner.Needs ends) (invited ends to) to
      (λ is. chosen J (is_bronze to.store ends.file)
      (raise_if_few to.store ends.file to.work) to
      (few_keeps m k to ends refl (accepted_here ends _ is) met) met)
      (λ no. met)

  -- ---- replicas go

  pub gone_keeps : (file : FileId) (birth : ℕ) → Keeps a w (message.Gone file birth) I
      → J (idle a w) → J (gone a file birth w)
  gone_keeps file birth k h = (k.unlinks (idle a w) file birth refl h.1 h.0, h.1)

  pub bye_keeps : (ends : Ends) → Keeps a w (message.Bye ends) I → J (idle a w)
      → J (bye a ends w)
  bye_keeps ends k h =
      let m = message.Bye ends in
      let r = message.ByeOk ends.file ends.sender in
      let told = answered a w I m k (idle a w) r (ends, refl, refl, refl) h in
      (k.unlinks (idle a (reply a r w)) ends.file ends.sender refl told.1 told.0, told.1)

  pub bye_ok_keeps : (file : FileId) (birth : ℕ) → Keeps a w (message.ByeOk file birth) I
      → J (idle a w) → J (bye_ok a file birth w)
  bye_ok_keeps file birth k h =
      (k.ends_intent (idle a w) (intent_key.Bye file birth w.from) refl h.0, h.1)

  pub leave_keeps : (ends : Ends) (stamp : Stamp) → Keeps a w (message.Leave ends stamp) I
      → J (idle a w) → J (leave a ends stamp w)
  leave_keeps ends stamp k h =
      let m = message.Leave ends stamp in
      let to = accept a ends manner.Makes w in
      let met = accept_keeps a w I m k manner.Makes ends refl refl h in
      let r = message.LeaveOk (ends_to to.store ends.file ends.sender) stamp in
      chosen J (is_accepted a w.from manner.Makes ends) (leave_given ends stamp to) to
      (decided (λ (v : Work). J (idle to.store v)) (gives_leave to.store ends.file stamp)
      (reply to.store r to.work) to.work
      (λ gives. answered a w I m k to r (ends, refl, refl, gives) met) (λ no. met)) met

  pub leave_ok_keeps : (ends : Ends) (stamp : Stamp) → Keeps a w (message.LeaveOk ends stamp) I
      → J (idle a w) → J (leave_ok a ends stamp w)
  leave_ok_keeps ends stamp k h =
      let file = ends.file in
      let b = without_leave a file in
      let over = k.ends_intent (idle a w) (intent_key.Leave file) refl h.0 in
      leave_ok_by J a ends stamp w h (λ answered. (over, refl))
      (λ may. byes_by J (Contains (replica_of a file).edges) file (birth_of a file)
      (λ d e among so. (
        k.says_bye d ends stamp e refl may among so.0,
        (begun_still (not (stands d.store.intents (key_of (bye_to file (birth_of a file) e)))) d.work
            (key_of (bye_to file (birth_of a file) e))).mail.from ∙ so.1,
      ))
      (replica_of a file).edges (All-contains_itself (replica_of a file).edges)
      (idle (let_go b file) w) (k.goes ends stamp refl may over, refl))
