-- What each handler says, it may say: the place that a child has, and that a directory was told.
use Rattle.std.proofs.Common.{ℕ, ◌≡◌, ◌&&◌, true, [], ◌∷◌, Some, refl, sym, ap, subst, ◌∙◌, inl, inr}
use Rattle.std.proofs.lemmas.Bool.{and_parts}
use Rattle.std.proofs.lemmas.List.Elements.{All-append, All-cons, All-nil}
use Rattle.pg_run.specs.pg_base.declared.id.FileId.{FileId}
use Rattle.pg_run.specs.pg_base.declared.stamp.Stamp.{Stamp}
use Rattle.pg_run.proofs.pg_calls.Walked.{full_held}
use Rattle.pg_run.proofs.pg_content.Stamps.{same_stamp}
use Rattle.pg_run.specs.pg_entries.declared.entry.Entry.{Entry}
use Rattle.pg_run.specs.pg_house.Work.{is_root}
use Rattle.theory_listing.specs.Protocol.{IsUpTo}
use Rattle.theory_listing.specs.World.Saying.{Told}
use Rattle.theory_listing.specs.World.Way.{PlaceIs}
use Rattle.pg_run.specs.pg_msg.declared.message.Ends.{Ends}
use Rattle.pg_run.specs.pg_msg.declared.message.Message.{Message}
use Rattle.pg_run.specs.pg_msg.declared.message.Message.TheVariants as message
use Rattle.pg_run.specs.pg_msg.declared.work.Work.{Work}
use Rattle.pg_run.specs.pg_msg.Work.{new_work}
use Rattle.pg_run.specs.pg_names.declared.attributes.Attributes.{Attributes}
use Rattle.pg_run.specs.pg_names.Same.{is_same_stamp}
use Rattle.pg_run.specs.pg_names.Names.{or_blank, own_at, own_or_blank}
use Rattle.pg_run.proofs.theory_flood_pieces.Choices.{chosen, decided}
use Rattle.pg_run.specs.pg_register.declared.place.Place.{Place}
use Rattle.pg_run.specs.pg_server.Local.{receive}
use Rattle.theory_listing_house.specs.Listing.{cell_place}
use Rattle.theory_listing_house.proofs.Seen.{own_is}
use Rattle.pg_run.specs.pg_store.declared.store.Store.{Store}
use Rattle.pg_run.specs.pg_store.Seen.{removed_of, server_of, view_of}
use Rattle.pg_run.specs.pg_store.Store.{is_full, is_held}
use Rattle.pg_run.specs.pg_pieces.Done.{Done, idle}
use Rattle.pg_run.specs.pg_pieces.declared.accepting.EdgeUse.TheVariants as manner
use Rattle.pg_run.specs.pg_pieces.Accepting.{accept, ends_to, is_accepted}
use Rattle.pg_run.specs.pg_pieces.Golds.{is_gold}
use Rattle.pg_run.specs.pg_pieces.Posting.{post, reply, sent_to}
use Rattle.pg_run.specs.pg_graph.Leaving.{gives_leave, leave, leave_given, place_stamp}
use Rattle.pg_run.specs.pg_pieces.Taking.{take_entry_noted, take_place_noted}
use Rattle.pg_run.specs.pg_repair.Confirming.{confirm, own_entry, place_told, take_told_flags, take_told_place}
use Rattle.pg_run.specs.pg_repair.Telling.{tell, told}
use Rattle.law_listings.specs.Letters.{Letter, of_stores, place_of, says}
use Rattle.law_listings.proofs.Heard.{IsBehind, none_later}
use Rattle.law_listings.proofs.Joined.{told_then}
use Rattle.law_listings.proofs.Alike.{Alike}
use Rattle.pg_run.proofs.Sends.{AnswersHave, Fine, accept_fine, entry_fine, received_fine, told_fine}
use Rattle.pg_run.proofs.SendsBodies.{AnswersBody}
use Rattle.law_listings.proofs.Placed.{cell_then, grows_then, removed_then}
use Rattle.law_listings.proofs.Plain.{IsOther, IsStamped, SendsOthers, other}
use Rattle.law_listings.proofs.Steps.{IsToldWell, MaySay, Says, WorkSays, others_say}
use Rattle.law_listings.proofs.Unseen.{accept_alike, accept_server, flags_alike}
use Rattle.law_listings.proofs.Views.{held_holds}

-- one message behind others
one_more : (z a m : Store) (work : Work) (to : ℕ) (x : Message) → SendsOthers work → MaySay m (says z x) × IsStamped z (server_of a) x → WorkSays z m (post a to x work)
one_more z a m work to x others h =
    let rest = others_say z m work others in
    (All-append (Says z m) work.sent (sent_to a to x ∷ []) rest.0 (All-cons (Says z m) (sent_to a to x) [] h (All-nil (Says z m))), rest.1)

module _ (a : Store) (behind : IsBehind a) (heard : Letter) (view : heard.view ≡ view_of a) (from : ℕ) where
  abbrev W : Work
  W = new_work 0 from

  abbrev IsFine : Work → Type 0
  IsFine work = Fine IsOther other from work

  start : IsFine W
  start = (All-nil IsOther, All-nil IsOther, refl)

  others : (work : Work) → IsFine work → SendsOthers work
  others work k = (k.0, k.1)

  -- ---- what a child has

  -- cells, removed: as before
  -- grows: own places are no earlier
  record IsToldFrom (d : Done) : Type 0 where
    cells : (e c : FileId) → of_stores.cell d.store e c ≡ of_stores.cell a e c
    removed : removed_of d.store ≡ removed_of a
    grows : (c : FileId) (q : Place) → of_stores.own a c ≡ Some q → (r : Place) × (of_stores.own d.store c ≡ Some r) × IsUpTo of_stores q r

  placed_from : (e : Entry) → IsToldFrom (take_told_place a e W)
  placed_from e =
      chosen IsToldFrom (is_root e.child) (idle a W) (take_place_noted a e.child e.place W)
      (record { cells = λ x c. refl; removed = refl; grows = λ c q h. (q, h, inl refl) })
      (record { cells = λ x c. ap cell_place (cell_then a e.child e.place x c); removed = removed_then a e.child e.place; grows = grows_then a e.child e.place })

  flagged_from : (e : Entry) (d : Done) → IsToldFrom d → IsToldFrom (take_told_flags e d)
  flagged_from e d k =
      let more = flags_alike e.flags d.store e.child d.work in
      record {
        cells = λ x c. more.cells x c ∙ k.cells x c;
        removed = more.removed ∙ k.removed;
        grows = λ c q h. (let r = k.grows c q h in (r.0, more.own c ∙ r.1, r.2));
      }

  module _ (dir : FileId) (e : Entry) (held : is_held a e.child ≡ true) where
    abbrev End : Done
    End = take_told_flags e (take_told_place a e W)

    told_from : IsToldFrom End
    told_from = flagged_from e (take_told_place a e W) (placed_from e)

    -- its place, and that none is known of it that is later and that it takes
    child_says : MaySay End.store (Told PlaceIs dir e.child (own_entry End.store e.child).place)
    child_says = λ in_.
        let q = held_holds a e.child held in
        let r = told_from.grows e.child q.0 q.1 in
        let o = own_is (own_at End.store.names e.child) r.0 r.1 in
        let is : (own_or_blank End.store.names e.child).place ≡ r.0 = ap (λ x. (or_blank e.child x).place) o.1 ∙ o.2 in
        let now = r.1 ∙ ap (λ (p : Place). Some p) (sym is) in (
          now,
          inr (none_later a behind heard view End.store e.child q.0 (own_or_blank End.store.names e.child).place told_from.removed
              (λ x p cell. sym (told_from.cells x e.child) ∙ cell) q.1 (subst (IsUpTo of_stores q.0) (sym is) r.2) now),
        )

    confirm_held : WorkSays a (place_told dir e.child End).store (place_told dir e.child End).work
    confirm_held =
        one_more a End.store End.store End.work End.work.from (message.PlaceIs dir (own_entry End.store e.child)) (others End.work (told_fine IsOther other from a e W start)) (child_says, tt)

  confirm_says : (dir : FileId) (e : Entry) → WorkSays a (confirm a dir e W).store (confirm a dir e W).work
  confirm_says dir e =
      decided (λ (d : Done). WorkSays a d.store d.work) (is_held a e.child) (place_told dir e.child (take_told_flags e (take_told_place a e W))) _
      (confirm_held dir e) (λ away. one_more a a a W from _ (others W start) (tt, tt))

  tell_says : (dir : FileId) (e : Entry) → WorkSays a (tell a dir e W).store (tell a dir e W).work
  tell_says dir e =
      let took = take_entry_noted a dir e W in
      decided (λ (d : Done). WorkSays a d.store d.work) (is_held a dir) (told dir e took) _
      (λ held. one_more a took.store took.store took.work took.work.from (message.TellOk dir e.child e.place.stamp) (others took.work (entry_fine IsOther other from a dir e W start)) (told_then a dir e held, tt))
      (λ away. one_more a a a W from _ (others W start) (tt, tt))

  -- ---- leave is given

  module _ (ends : Ends) (stamp : Stamp) (given : gives_leave (accept a ends manner.Makes W).store ends.file stamp ≡ true) where
    abbrev Met : Done
    Met = accept a ends manner.Makes W

    abbrev F : FileId
    F = ends.file

    met : Alike a Met.store
    met = accept_alike a ends manner.Makes W

    parts : (is_full Met.store F ≡ true) × ((is_gold Met.store F && is_same_stamp (place_stamp Met.store F) stamp) ≡ true)
    parts = and_parts (is_full Met.store F) (is_gold Met.store F && is_same_stamp (place_stamp Met.store F) stamp) given

    -- the thing is held with the place that it had, which has the stamp
    own : (o : Attributes) × (own_at a.names F ≡ Some o) × ((of_stores.own Met.store F ≡ Some o.place) × (o.place.stamp ≡ stamp))
    own =
        let now = held_holds Met.store F (full_held Met.store.names F parts.0) in
        let was = own_is (own_at a.names F) now.0 (sym (met.own F) ∙ now.1) in
        let o = own_is (own_at Met.store.names F) now.0 now.1 in
        let is : (own_or_blank Met.store.names F).place ≡ now.0 = ap (λ x. (or_blank F x).place) o.1 ∙ o.2 in
        let same = same_stamp (place_stamp Met.store F) stamp (and_parts (is_gold Met.store F) (is_same_stamp (place_stamp Met.store F) stamp) parts.1).1 in (
          was.0,
          was.1,
          (now.1 ∙ ap (λ (p : Place). Some p) (sym was.2), ap (λ (p : Place). p.stamp) (was.2 ∙ sym is) ∙ same),
        )

    told_is : place_of a F ≡ own.0.place
    told_is = ap (λ x. (or_blank F x).place) own.1

    told_well : (d : FileId) → IsToldWell Met.store d F (place_of a F)
    told_well d = λ in_.
        let now : of_stores.own Met.store F ≡ Some (place_of a F) = own.2.0 ∙ ap (λ (p : Place). Some p) (sym told_is) in
        let was : of_stores.own a F ≡ Some (place_of a F) = sym (met.own F) ∙ now in
        (now, inr (none_later a behind heard view Met.store F (place_of a F) (place_of a F) met.removed (λ x p cell. sym (met.cells x F) ∙ cell) was (inl refl) now))

    given_says : WorkSays a Met.store (reply Met.store (message.LeaveOk (ends_to Met.store F ends.sender) stamp) Met.work)
    given_says =
        one_more a Met.store Met.store Met.work Met.work.from (message.LeaveOk (ends_to Met.store F ends.sender) stamp)
        (others Met.work (accept_fine IsOther other from a ends manner.Makes W start)) ((refl, told_well), (accept_server a ends manner.Makes W, (own.0, own.1, own.2.1)))

  leave_says : (ends : Ends) (stamp : Stamp) → WorkSays a (leave a ends stamp W).store (leave a ends stamp W).work
  leave_says ends stamp =
      let m = accept a ends manner.Makes W in
      let plain = others_say a m.store m.work (others m.work (accept_fine IsOther other from a ends manner.Makes W start)) in
      let given = reply m.store (message.LeaveOk (ends_to m.store ends.file ends.sender) stamp) m.work in
      chosen (λ (d : Done). WorkSays a d.store d.work) (is_accepted a from manner.Makes ends) (leave_given ends stamp m) m
      (decided (λ (w : Work). WorkSays a m.store w) (gives_leave m.store ends.file stamp) given m.work (given_says ends stamp) (λ no. plain)) plain

  -- of other messages no answer tells of a place
  plainly : (m : Message) → AnswersHave IsOther other from a from m → WorkSays a (receive a m W).store (receive a m W).work
  plainly m has =
      let d = receive a m W in others_say a d.store d.work (others d.work (received_fine IsOther other from a m W has start))

  -- nor does an answer to a part of a body
  body_says : (ends : Ends) (stamp : Stamp) → AnswersBody IsOther from from a ends stamp
  body_says ends stamp = record {
    asks = λ b offset heads by z sender. (refl, tt);
    acks = λ b s tag file met by z sender. (refl, tt);
  }

  -- A MESSAGE
  pub receive_says : (m : Message) → WorkSays a (receive a m W).store (receive a m W).work
  receive_says (message.Confirm dir e) = confirm_says dir e
  receive_says (message.Tell dir e) = tell_says dir e
  receive_says (message.Leave ends stamp) = leave_says ends stamp
  receive_says (message.Cell ends tag c) = plainly (message.Cell ends tag c) (λ fit met b same z sender. (refl, tt))
  receive_says (message.Bye ends) = plainly (message.Bye ends) (λ z sender. (refl, tt))
  receive_says (message.Harbinger ends tag head) = plainly (message.Harbinger ends tag head) (record {
    asks = λ b offset heads by z sender. (refl, tt);
    acks = λ b tag file met by z sender. (refl, tt);
    tells = λ b e by z sender. (refl, tt);
  })
  receive_says (message.Want ends wanted) = plainly (message.Want ends wanted) (record {
    gives = λ b v offset by is z sender. (refl, tt);
    changes = λ b v ranges by is z sender. (refl, tt);
  })
  receive_says (message.Delta ends delta) = plainly (message.Delta ends delta) (body_says ends delta.head.stamp)
  receive_says (message.Piece ends piece) = plainly (message.Piece ends piece) (body_says ends piece.head.stamp)
  receive_says m = plainly m tt
