-- What is sent where what was lost is given up, and where a server is removed in a view: no
-- answers.
use Rattle.std.proofs.Common.{ℕ, ◌≡◌, true, cond, List, [], ◌∷◌, Option, None, Some, refl}
use Rattle.std.specs.Map.{keys_of}
use Rattle.std.proofs.lemmas.List.Elements.{All-push}
use Rattle.pg_base.specs.declared.id.FileId.{FileId}
use Rattle.pg_edges.specs.declared.edge.Edge.{Edge}
use Rattle.pg_server.specs.pg_pieces.pg_msg.declared.message.Message.TheVariants as message
use Rattle.pg_server.specs.pg_pieces.pg_msg.declared.message.Sent.{Sent}
use Rattle.pg_server.specs.pg_pieces.pg_msg.declared.update.Update.TheVariants as update
use Rattle.pg_server.specs.pg_pieces.pg_msg.declared.work.Work.{Work}
use Rattle.pg_server.specs.pg_pieces.pg_msg.Work.{with_made}
use Rattle.pg_server.specs.pg_pieces.pg_names.Names.{blank_own, is_dir}
use Rattle.theory_flood_pieces.proofs.Choices.{chosen}
use Rattle.pg_register.specs.declared.place.Place.{Place}
use Rattle.pg_server.specs.pg_pieces.pg_store.declared.store.Store.{Store}
use Rattle.pg_server.specs.pg_pieces.pg_store.Store.{is_held}
use Rattle.pg_server.specs.pg_pieces.pg_store.Views.{enter}
use Rattle.pg_server.specs.pg_pieces.Accepting.{ends_to}
use Rattle.pg_server.specs.pg_pieces.Done.{Done, idle}
use Rattle.pg_server.specs.pg_pieces.Posting.{sent_to}
use Rattle.pg_server.specs.pg_intentions.Inviting.{invite_along, invite_each, invite_of, invites, loose_edge}
use Rattle.pg_server.specs.pg_calls.Forgetting.{bare_entry, begin_lost, begun_at, begun_with, dead_at, dirs_of, fill_lost, forget_lost, has_blank_place, is_wanted, last_listing, last_place, mark, marked_each, placed_in_root, placed_lost, root_place, strike_out, struck_out, unwished}
use Rattle.pg_server.specs.pg_calls.GivingUp.{doubt_all, enter_view}
use Rattle.pg_server.specs.pg_calls.Naming.{raised}
use Rattle.pg_run.proofs.Sends.{Fine, entry_fine, fill_fine, is_plain, place_fine, raised_fine}

module _ (Q : Sent → Type 0) (plain : (m : Sent) → is_plain m.packet.message ≡ true → Q m) (from : ℕ) where
  abbrev Fits : Work → Type 0
  Fits work = Fine Q plain from work

  abbrev Ends : Done → Type 0
  Ends d = Fits d.work

  -- ---- what was lost

  module _ (id : FileId) where
    root_fits : (b : Store) (w : Work) → Fits w → Ends (placed_in_root id b w)
    root_fits b w k =
        let place = root_place b w.now id in
        place_fine Q plain from b id place (with_made w (update.Place id place)) k

    -- a filling replica
    fill_fits : (a : Store) (w : Work) → Fits w → Ends (fill_lost a id w)
    fill_fits a w k =
        let d = placed_lost a id w in
        fill_fine Q plain from d.store id d.work
        (chosen Ends (has_blank_place a id) (placed_in_root id a w) (idle a w) (root_fits a w k) k)

    -- a file that is not held
    marks_fit : (dirs : List FileId) (b : Store) (place : Place) (w : Work) → Fits w
        → Ends (marked_each b id place dirs w)
    marks_fit [] b place w k = k
    marks_fit (dir ∷ dirs) b place w k =
        let one = mark id place b dir w in
        marks_fit dirs one.store place one.work (entry_fine Q plain from b dir (bare_entry id place) w k)

    struck_fits : (a : Store) (w : Work) (o : Option FileId) → Fits w → Ends (struck_out a id w o)
    struck_fits a w None k = k
    struck_fits a w (Some dir) k =
        let dead = dead_at a w.now id dir in
        marks_fit (dirs_of a.names id) (unwished a id) dead (with_made w (update.Place id dead)) k

    -- a directory that is not held
    begun_fits : (a : Store) (w : Work) (o : Option Place) → Fits w → Ends (begun_at a id w o)
    begun_fits a w (Some place) k = k
    begun_fits a w None k = root_fits (begun_with a id (blank_own id)) w k

    begin_fits : (a : Store) (w : Work) → Fits w → Ends (begin_lost a id w)
    begin_fits a w k =
        let d = begun_at a id w (last_place a.names id) in
        chosen Ends (is_wanted a id) (raised id d) (idle a w)
        (raised_fine Q plain from d.store id d.work (begun_fits a w (last_place a.names id) k)) k

    pub lost_fine : (a : Store) (w : Work) → Fits w → Ends (forget_lost a id w)
    lost_fine a w k =
        chosen Ends (is_held a id) (fill_lost a id w) (cond (is_dir id) (begin_lost a id w) (strike_out a id w))
        (fill_fits a w k)
        (chosen Ends (is_dir id) (begin_lost a id w) (strike_out a id w) (begin_fits a w k)
        (struck_fits a w (last_listing a.names id (dirs_of a.names id)) k))

  -- ---- a server is removed

  along_fits : (b : Store) (f : FileId) (o : Option Edge) (w : Work) → Fits w → Fits (invite_along b f o w)
  along_fits b f None w k = k
  along_fits b f (Some e) w k =
      let m = sent_to b e.peer (message.Invite (ends_to b f e.birth)) in
      (k.0, All-push Q w.tail m k.1 (plain m refl), k.2)

  invites_fit : (files : List FileId) (b : Store) (w : Work) → Fits w → Fits (invite_each b files w)
  invites_fit [] b w k = k
  invites_fit (f ∷ files) b w k =
      invites_fit files b (invite_of b f w)
      (chosen Fits (invites b f) (invite_along b f (loose_edge b f) w) w (along_fits b f (loose_edge b f) w k) k)

  pub enter_fine : (a : Store) (server : ℕ) (w : Work) → Fits w → Ends (enter_view a server w)
  enter_fine a server w k = let b = enter a server in invites_fit (keys_of b.names.held) b (doubt_all b w) k
