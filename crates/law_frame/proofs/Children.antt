-- Children that are confirmed and told, golds that are sought, and walks.
use Rattle.std.proofs.Common.{ℕ, ◌≡◌, ◌==◌, ◌-◌, ◌/◌, ◌%◌, true, cond, Option, None, Some, List, [], ◌∷◌, All, length, slice_get, refl, ◌∙◌}
use Rattle.std.specs.Prelude.{Contains}
use Rattle.std.proofs.lemmas.List.Elements.{All-contains_itself, All-head, All-tail}
use Rattle.pg_run.specs.pg_base.declared.id.FileId.{FileId}
use Rattle.pg_run.specs.pg_base.declared.stamp.Stamp.{Stamp}
use Rattle.pg_run.specs.pg_edges.declared.edge.Edge.{Edge}
use Rattle.pg_run.specs.pg_entries.declared.entry.Entry.{Entry}
use Rattle.pg_run.specs.pg_house.Work.{is_root}
use Rattle.pg_run.specs.pg_intent.declared.key.IntentKey.TheVariants as intent_key
use Rattle.pg_run.specs.pg_intent.Intents.{aimed, ended, intent_at}
use Rattle.pg_run.specs.pg_msg.declared.message.Ask.{Ask}
use Rattle.pg_run.specs.pg_msg.declared.message.Ask.TheVariants as ask
use Rattle.pg_run.specs.pg_msg.declared.message.Ends.{Ends}
use Rattle.pg_run.specs.pg_msg.declared.message.Message.TheVariants as message
use Rattle.pg_run.specs.pg_msg.declared.summary.Greeting.{Greeting}
use Rattle.pg_run.specs.pg_msg.declared.summary.Greeting.TheVariants as greeting
use Rattle.pg_run.specs.pg_msg.declared.work.Work.{Work}
use Rattle.pg_run.specs.pg_register.declared.flag.Flag.{Flag}
use Rattle.pg_run.specs.pg_store.declared.store.Store.{Store}
use Rattle.pg_run.specs.pg_store.Beginning.{with_intents}
use Rattle.pg_run.specs.pg_store.Links.{knows_later}
use Rattle.pg_run.specs.pg_store.Seen.{server_of}
use Rattle.pg_run.specs.pg_store.Servers.{next_target}
use Rattle.pg_run.specs.pg_store.Store.{is_held}
use Rattle.pg_run.specs.pg_pieces.declared.accepting.EdgeUse.TheVariants as manner
use Rattle.pg_run.specs.pg_pieces.Accepting.{accept, ends_to, is_accepted, link_peer}
use Rattle.pg_run.specs.pg_pieces.Done.{Done, idle}
use Rattle.pg_run.specs.pg_pieces.Posting.{reply}
use Rattle.pg_run.specs.pg_pieces.Taking.{take_entry_noted, take_flag_noted, take_flags_noted, take_place_noted}
use Rattle.pg_run.specs.pg_graph.Seeking.{answered_seek, here, seek}
use Rattle.pg_run.specs.pg_graph.Walks.{goes_on, meet_origin, onward, walk, walk_along, walk_on, walked}
use Rattle.pg_run.specs.pg_repair.Confirming.{confirm, confirmed, is_confirmed, own_entry, place_is, place_told, take_told_flags, take_told_place}
use Rattle.pg_run.specs.pg_repair.NoneHere.{asking_key, does_ask, none_here}
use Rattle.pg_run.specs.pg_repair.Telling.{is_told, tell, tell_ok, told}
use Rattle.pg_run.proofs.theory_flood_pieces.Choices.{chosen, decided}
use Rattle.pg_run.proofs.Still.{entry_still, flag_still, linked_still, place_still}
use Rattle.law_frame.proofs.Along.{accept_keeps, answered, linked}
use Rattle.law_frame.proofs.Keeps.{Keeps, Kept}

module _ (a : Store) (w : Work) (I : Done → Type 0) where
  abbrev J : Done → Type 0
  J d = Kept w I d

  -- ---- confirms

  flags_keep : (dir : FileId) (e : Entry) → Keeps a w (message.Confirm dir e) I
      → is_held a e.child ≡ true → (flags : List Flag) → All (Contains e.flags) flags → (d : Done)
      → J d → J (take_flags_noted d.store e.child flags d.work)
  flags_keep dir e k held [] all d h = h
  flags_keep dir e k held (g ∷ gs) all d h =
      let Of = Contains e.flags in
      flags_keep dir e k held gs (All-tail Of g gs all) (take_flag_noted d.store e.child g d.work) (
        k.told_flag d dir e g refl held (All-head Of g gs all) h.0,
        (flag_still d.store e.child g d.work).mail.from ∙ h.1,
      )

  pub confirm_keeps : (dir : FileId) (e : Entry) → Keeps a w (message.Confirm dir e) I
      → J (idle a w) → J (confirm a dir e w)
  confirm_keeps dir e k h =
      let m = message.Confirm dir e in
      let placed = take_told_place a e w in
      let flagged = take_told_flags e placed in
      let none = message.NoneHere ask.Confirm dir e.child in
      decided J (is_held a e.child) (place_told dir e.child flagged) (idle a (reply a none w))
      (λ held.
      let to = decided J (is_root e.child) (idle a w) (take_place_noted a e.child e.place w) (λ root. h)
      (λ other. (
        k.told_place (idle a w) dir e refl held other h.0,
        (place_still a e.child e.place w).mail.from,
      )) in
      answered a w I m k flagged (message.PlaceIs dir (own_entry flagged.store e.child))
      (e, refl, refl)
      (flags_keep dir e k held e.flags (All-contains_itself e.flags) placed to))
      (λ no. answered a w I m k (idle a w) none tt h)

  pub place_is_keeps : (dir : FileId) (e : Entry) → Keeps a w (message.PlaceIs dir e) I
      → J (idle a w) → J (place_is a dir e w)
  place_is_keeps dir e k h =
      let q = intent_key.Confirm dir e.child in
      let d = take_entry_noted a dir e w in
      decided J (is_held a dir) (confirmed dir e d) (idle a w)
      (λ held.
      let to = k.place_is (idle a w) dir e refl held h.0 in (
        chosen (λ (b : Store). I (idle b d.work)) (is_confirmed d.store dir e.child e.place.stamp)
            (with_intents d.store (ended d.store.intents q)) d.store (k.ends_intent d q refl to) to,
        (entry_still a dir e w).mail.from,
      )) (λ no. h)

  -- ---- what directories are told

  pub tell_keeps : (dir : FileId) (e : Entry) → Keeps a w (message.Tell dir e) I
      → J (idle a w) → J (tell a dir e w)
  tell_keeps dir e k h =
      let m = message.Tell dir e in
      let d = take_entry_noted a dir e w in
      let none = message.NoneHere ask.Patch dir e.child in
      decided J (is_held a dir) (told dir e d) (idle a (reply a none w))
      (λ held. answered a w I m k d (message.TellOk dir e.child e.place.stamp)
      (e, refl, refl, refl)
      (k.tell (idle a w) dir e refl held h.0, (entry_still a dir e w).mail.from))
      (λ no. answered a w I m k (idle a w) none tt h)

  pub tell_ok_keeps : (dir child : FileId) (stamp : Stamp)
      → Keeps a w (message.TellOk dir child stamp) I
      → J (idle a w) → J (tell_ok a dir child stamp w)
  tell_ok_keeps dir child stamp k h =
      let q = intent_key.Patch dir child in (
        chosen (λ (b : Store). I (idle b w)) (is_told (intent_at a.intents q) stamp w.from)
            (with_intents a (ended a.intents q)) a (k.ends_intent (idle a w) q refl h.0) h.0,
        refl,
      )

  pub none_here_keeps : (what : Ask) (file child : FileId)
      → Keeps a w (message.NoneHere what file child) I
      → J (idle a w) → J (none_here a what file child w)
  none_here_keeps what file child k h =
      let q = asking_key what file child in
      let next = next_target a w.from in (
        chosen (λ (b : Store). I (idle b w)) (does_ask (intent_at a.intents q) w.from)
            (with_intents a (aimed a.intents q next)) a
            (k.turns_intent (idle a w) q next refl h.0) h.0,
        refl,
      )

  -- ---- who seeks a gold replica

  pub seek_keeps : (file : FileId) (birth : ℕ) → Keeps a w (message.Seek file birth) I
      → J (idle a w) → J (seek a file birth w)
  seek_keeps file birth k h =
      let m = message.Seek file birth in
      let to = link_peer a file w.from birth w in
      let late = knows_later a file w.from birth in
      let none = message.NoneHere ask.Seek file file in
      decided J (is_held a file) (cond late (idle a w) (answered_seek file birth to))
      (idle a (reply a none w))
      (λ here. chosen J late (idle a w) (answered_seek file birth to) h
      (answered a w I m k to (message.Greet (ends_to to.store file birth) greeting.Here) (refl, refl, here)
      (linked a w I m k (idle a w) file birth refl h)))
      (λ away. answered a w I m k (idle a w) none tt h)

  pub here_keeps : (ends : Ends) (why : Greeting) → Keeps a w (message.Greet ends why) I
      → J (idle a w) → J (here a ends w)
  here_keeps ends why k h =
      accept_keeps a w I (message.Greet ends why) k manner.Makes ends refl refl h

  -- ---- walks

  module _ (ends : Ends) (origin birth hops word : ℕ)
      (k : Keeps a w (message.Walk ends origin birth hops word) I) (h : J (idle a w)) where
    abbrev On : List Edge
    On = onward a ends.file w.from origin

    along_keeps : is_accepted a w.from manner.Needs ends ≡ true → (left rest i : ℕ)
        → (o : Option Edge) → slice_get On i ≡ o
        → J (idle a (walk_along a ends.file origin birth left rest w o))
    along_keeps accepted left rest i None at = h
    along_keeps accepted left rest i (Some e) at =
        (k.passes_on ends origin birth hops word left rest i e refl accepted at h.0, refl)

    pub walk_keeps : J (walk a ends origin birth hops word w)
    walk_keeps =
        let m = message.Walk ends origin birth hops word in
        let mine = origin == server_of a in
        let on = walked a ends origin birth hops word On w in
        let next = word % length On in
        let to = link_peer a ends.file origin birth w in
        decided J (is_accepted a w.from manner.Needs ends) (cond mine (idle a w) on)
        (accept a ends manner.Needs w)
        (λ accepted. decided J mine (idle a w) on (λ own. h)
        (λ other. chosen J (goes_on hops On)
        (idle a (walk_on a ends.file origin birth hops word On w))
        (meet_origin a ends.file origin birth w)
        (along_keeps accepted (hops - 1) (word / length On) next (slice_get On next) refl) (
          k.tells_origin to ends origin birth hops word refl accepted
              (k.meets (idle a w) ends origin birth hops word refl (accepted, other) h.0),
          (linked_still a ends.file origin birth w).mail.from,
        )))
        (λ no. accept_keeps a w I m k manner.Needs ends refl tt h)
