-- The house rules remove no server, and leave who sent the message of the event, and what is sent
-- in it.
use Rattle.std.proofs.Common.{ℕ, ◌≡◌, ◌&&◌, Bool, cond, not, List, [], ◌∷◌, length, Option, None, Some, refl, ◌∙◌}
use Rattle.law_frame.specs.pg_run.pg_base.declared.id.FileId.{FileId}
use Rattle.law_frame.specs.pg_run.pg_edges.declared.key.Key.TheVariants as key
use Rattle.law_frame.specs.pg_run.pg_register.declared.flag.Flag.{Flag}
use Rattle.law_frame.specs.pg_run.pg_register.declared.place.Place.{Place}
use Rattle.law_frame.specs.pg_run.pg_register.Flag.{flag_of}
use Rattle.law_frame.specs.pg_run.pg_register.Place.{root, tilde_name}
use Rattle.law_frame.specs.pg_run.pg_msg.declared.update.Update.TheVariants as update
use Rattle.law_frame.specs.pg_run.pg_msg.declared.work.Work.{Work}
use Rattle.law_frame.specs.pg_run.pg_msg.Work.{with_left, with_made, with_touched}
use Rattle.law_frame.specs.pg_run.pg_names.declared.attributes.Attributes.{Attributes}
use Rattle.law_frame.specs.pg_run.pg_names.Names.{directories, own_at, with_entry, with_last, with_own}
use Rattle.law_frame.specs.pg_run.pg_names.Same.{is_same_own, is_same_place}
use Rattle.law_frame.proofs.pg_run.pg_names.Lookups.{update_frame}
use Rattle.law_frame.specs.pg_run.pg_house.Cycles.{break_first, first_moving, moved}
use Rattle.law_frame.specs.pg_run.pg_house.House.{house, movable}
use Rattle.law_frame.specs.pg_run.pg_house.Passing.{cell_for, flags_touched, gets, given, greatest, is_held_back, is_other_flag, offered, own_taken, pass, pass_all, pass_own, spread, taking, took}
use Rattle.law_frame.specs.pg_run.pg_house.Placing.{drawn, live_place, made_at, own_with, place_at, placed}
use Rattle.law_frame.specs.pg_run.pg_house.Returning.{first_returning, is_root, return_first, returned}
use Rattle.law_frame.specs.pg_run.pg_house.Work.{State, note_left, place_touched, touched}
use Rattle.law_frame.proofs.pg_run.pg_house.Repeating.{repeated_keeps}
use Rattle.law_frame.proofs.pg_run.theory_flood_pieces.Choices.{chosen}

-- ---- works

-- from the same server, and the same is sent
pub record SendsSame (w v : Work) : Type 0 where
  pub from : v.from ≡ w.from
  pub sent : v.sent ≡ w.sent
  pub tail : v.tail ≡ w.tail

pub sends_same : (w : Work) → SendsSame w w
sends_same w = record { from = refl; sent = refl; tail = refl }

sends_then : (w u v : Work) → SendsSame w u → SendsSame u v → SendsSame w v
sends_then w u v one two = record { from = two.from ∙ one.from; sent = two.sent ∙ one.sent; tail = two.tail ∙ one.tail }

pub sends_either : (w : Work) (t : Bool) (u v : Work) → SendsSame w u → SendsSame w v → SendsSame w (cond t u v)
sends_either w t u v one other = chosen (λ (x : Work). SendsSame w x) t u v one other

pub left_sends : (w : Work) (f : FileId) (old : Place) → SendsSame w (note_left w f old)
left_sends w f old =
    sends_either w (old.live && not (is_root f)) (with_left w old.parent f) w (record { from = refl; sent = refl; tail = refl }) (sends_same w)

place_sends : (w : Work) (f : FileId) (old : Place) (t : Bool) → SendsSame w (place_touched w f old t)
place_sends w f old t =
    let u = with_touched w f key.Place in
    sends_either w t (note_left u f old) w
    (sends_then w u (note_left u f old) (record { from = refl; sent = refl; tail = refl }) (left_sends u f old)) (sends_same w)

flags_sends : (w : Work) (f : FileId) (held gs : List Flag) → SendsSame w (flags_touched w f held gs)
flags_sends w f held [] = sends_same w
flags_sends w f held (g ∷ gs) =
    let t = is_other_flag (flag_of held g.server) g in
    let u = touched w f (key.Flag g.server) t in
    sends_then w u (flags_touched u f held gs)
    (sends_either w t (with_touched w f (key.Flag g.server)) w (record { from = refl; sent = refl; tail = refl }) (sends_same w))
    (flags_sends u f held gs)

-- ---- states

module _ (gone : List ℕ) (first : Work) where
  pub record IsFramed (st : State) : Type 0 where
    pub removed : st.names.removed ≡ gone
    pub work : SendsSame first st.work

  onward : (w v : Work) → SendsSame first w → SendsSame w v → SendsSame first v
  onward w v one two = sends_then first w v one two

  offered_frame : (st : State) (f : FileId) (own top : Attributes) (back : Bool) (d : FileId) → IsFramed st → IsFramed (offered st f own top back d)
  offered_frame st f own top back d k =
      chosen IsFramed (gets st.names f own top back d) (given st f top d) st
      (record { removed = (update_frame st.names d (with_entry (cell_for f top))).removed ∙ k.removed; work = onward st.work (with_touched st.work d (key.Entry f)) k.work (record { from = refl; sent = refl; tail = refl }) }) k

  spread_frame : (st : State) (f : FileId) (own top : Attributes) (back : Bool) (es : List FileId) → IsFramed st → IsFramed (spread st f own top back es)
  spread_frame st f own top back [] k = k
  spread_frame st f own top back (d ∷ es) k =
      spread_frame (offered st f own top back d) f own top back es (offered_frame st f own top back d k)

  taking_frame : (st : State) (f : FileId) (own taken : Attributes) → IsFramed st → IsFramed (taking st f own taken)
  taking_frame st f own taken k =
      let moves = not (is_same_place own.place taken.place) in
      let w = place_touched st.work f own.place moves in
      let behind = sends_then st.work w (flags_touched w f own.flags taken.flags) (place_sends st.work f own.place moves) (flags_sends w f own.flags taken.flags) in
      chosen IsFramed (is_same_own own taken) st (took st f own taken) k (record {
        removed = (update_frame st.names f (with_own taken)).removed ∙ k.removed;
        work = onward st.work (flags_touched w f own.flags taken.flags) k.work behind;
      })

  module _ (ds : List FileId) where
    pass_by : (st : State) (f : FileId) (o : Option Attributes) → IsFramed st → IsFramed (pass_own st ds f o)
    pass_by st f None k = k
    pass_by st f (Some own) k =
        let top = greatest st.names f own ds in
        let back = is_held_back st.names.removed f own top in
        taking_frame (spread st f own top back ds) f own (own_taken own top back) (spread_frame st f own top back ds k)

    pass_frame : (st : State) (f : FileId) → IsFramed st → IsFramed (pass st ds f)
    pass_frame st f k = pass_by st f (own_at st.names f) k

    all_frame : (st : State) (fs : List FileId) → IsFramed st → IsFramed (pass_all st ds fs)
    all_frame st [] k = k
    all_frame st (f ∷ fs) k = all_frame (pass st ds f) fs (pass_frame st f k)

    placed_frame : (moment : ℕ) (st : State) (f q : FileId) (name : List ℕ) → IsFramed st → IsFramed (placed moment ds st f q name)
    placed_frame moment st f q name k =
        let new = live_place (drawn moment st.names) q name in
        let w = with_touched (with_made st.work (update.Place f new)) f key.Place in
        pass_frame (made_at st f new) f (record {
          removed = (update_frame (with_last st.names new.stamp.time) f (with_own (own_with st.names f new))).removed ∙ k.removed;
          work = onward st.work (note_left w f (place_at st.names f)) k.work
              (sends_then st.work w (note_left w f (place_at st.names f)) (record { from = refl; sent = refl; tail = refl }) (left_sends w f (place_at st.names f)));
        })

    return_frame : (moment : ℕ) (st : State) (o : Option FileId) → IsFramed st → IsFramed (returned moment ds st o)
    return_frame moment st None k = k
    return_frame moment st (Some d) k = placed_frame moment st d (place_at st.names d).parent (place_at st.names d).name k

    move_frame : (moment : ℕ) (st : State) (o : Option FileId) → IsFramed st → IsFramed (moved moment ds st o)
    move_frame moment st None k = k
    move_frame moment st (Some d) k = placed_frame moment st d root (tilde_name d) k

  -- THE HOUSE RULES
  pub house_frame : (moment : ℕ) (st : State) → IsFramed st → IsFramed (house moment st)
  house_frame moment st k =
      let ds = directories st.names in
      repeated_keeps IsFramed (break_first moment ds) (λ t q. move_frame ds moment t (first_moving t.names (length ds) None ds) q) (length ds) _
      (repeated_keeps IsFramed (return_first moment ds) (λ t q. return_frame ds moment t (first_returning t.names ds) q) (length ds) _ (all_frame ds st (movable st.names) k))
