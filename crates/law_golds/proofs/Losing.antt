-- What is left of flags where what was lost is given up, and where a server is removed in a view.
use Rattle.std.proofs.Common.{ℕ, ◌≡◌, ◌≤◌, ◌<◌, ◌+◌, arith, true, false, cond, List, [], ◌∷◌, ◌++◌, Option, None, Some, All, refl, sym, ap, subst, ◌∙◌, inl, inr}
use Rattle.std.specs.Map.{keys_of}
use Rattle.std.proofs.lemmas.List.Elements.{All-nil}
use Rattle.law_frame.specs.pg_run.pg_base.declared.id.FileId.{FileId}
use Rattle.law_frame.specs.pg_run.pg_base.declared.policy.Policy.TheVariants.{Last}
use Rattle.law_frame.specs.pg_run.pg_edges.declared.edge.Edge.{Edge}
use Rattle.law_frame.specs.pg_run.pg_intent.declared.key.IntentKey.TheVariants as intent_key
use Rattle.law_frame.specs.pg_run.pg_msg.declared.message.Message.TheVariants as message
use Rattle.law_frame.specs.pg_run.pg_msg.declared.update.Update.{Update}
use Rattle.law_frame.specs.pg_run.pg_msg.declared.update.Update.TheVariants as update
use Rattle.law_frame.specs.pg_run.pg_msg.declared.work.Work.{Work}
use Rattle.law_frame.specs.pg_run.pg_msg.Work.{with_made}
use Rattle.law_frame.specs.pg_run.pg_names.declared.attributes.Attributes.{Attributes}
use Rattle.law_frame.specs.pg_run.pg_names.Names.{blank_own, is_dir, is_full_of}
use Rattle.law_frame.proofs.pg_run.pg_names.Holding.{begun_same}
use Rattle.law_frame.specs.pg_run.pg_register.declared.flag.Flag.{Flag}
use Rattle.law_frame.specs.pg_run.pg_register.declared.place.Place.{Place}
use Rattle.law_frame.specs.pg_run.pg_store.declared.store.Store.{Store}
use Rattle.law_frame.specs.pg_run.pg_store.Beginning.{patches_of, put_new}
use Rattle.law_frame.specs.pg_run.pg_store.Births.{draw_birth, with_birth}
use Rattle.law_frame.specs.pg_run.pg_store.Store.{is_full, is_held}
use Rattle.law_frame.specs.pg_run.pg_store.Together.{AreTogether, HoldsAsBefore, birth_at}
use Rattle.law_frame.specs.pg_run.pg_store.Views.{enter}
use Rattle.law_frame.proofs.pg_run.pg_store.Pairs.{birth_as_before, ended_as_before, patches_as_before, then_as_before, together_as_before}
use Rattle.law_frame.specs.pg_run.pg_pieces.Accepting.{ends_to}
use Rattle.law_frame.specs.pg_run.pg_pieces.Done.{Done, idle}
use Rattle.law_frame.specs.pg_run.pg_intentions.Inviting.{invite_along, invite_each, invite_of, invites, loose_edge}
use Rattle.law_frame.specs.pg_run.pg_calls.Forgetting.{bare_entry, begin_lost, begun_at, begun_with, dead_at, dirs_of, fill_lost, filled, forget_lost, has_blank_place, is_wanted, last_listing, last_place, mark, marked_each, placed_in_root, root_place, strike_out, struck_out, unfilled, unwished}
use Rattle.law_frame.specs.pg_run.pg_calls.GivingUp.{doubt_all, enter_view}
use Rattle.law_frame.specs.pg_run.pg_calls.Making.{make_place}
use Rattle.law_frame.specs.pg_run.pg_calls.Naming.{raised}
use Rattle.law_frame.proofs.pg_run.theory_flood_pieces.Choices.{chosen, decided}
use Rattle.law_births.specs.Flags.{AnyBye}
use Rattle.law_births.proofs.Begins.{begin_back}
use Rattle.law_births.proofs.EnterSays.{say_enter}
use Rattle.law_births.proofs.Has.{Has, from_has, has_back, to_has}
use Rattle.law_births.proofs.Here.{birth_of_held, born_here}
use Rattle.law_births.proofs.Pieces.{place_stays}
use Rattle.law_births.proofs.StoreSays.{say_begin, say_ended}
use Rattle.law_contents.proofs.Pieces.{patches_keep, place_keeps}
use Rattle.law_golds.proofs.Filling.{MayGo, fill_fine, own_of_full, still}
use Rattle.law_golds.proofs.Fine.{IsFine, NoFlags, fine_flag, no_flags}
use Rattle.law_golds.proofs.Kept.{GoesOn, begin_flags, begun_births, flags_on, goes_further, place_flags, same_goes_on}
use Rattle.law_golds.proofs.Says.{Says, said_entry, said_last, said_on, said_place}
use Rattle.law_frame.proofs.pg_run.Still.{still as nothing_more}

-- a place is no flag
pub place_no_flag : (file : FileId) (place : Place) → NoFlags (update.Place file place ∷ [])
place_no_flag file place f g (inl same) = absurd (let z : update.Flag f g ≡ update.Place file place = same in cc)
place_no_flag file place f g (inr rest) = absurd rest

pub more_given : (m n : ℕ) → m + 1 ≤ n → m ≤ n
more_given m n h = omega arith

pub one_above : (m n : ℕ) → n ≡ m + 1 → m < n
one_above m n e = omega (arith, e)

module _ (Q : FileId → Flag → Type 0) (s : ℕ) (a : Store) where
  -- ---- a place is made

  root_says : (b : Store) (f : FileId) (place : Place) (w : Work) → Says Q s [] (idle b w)
      → Says Q s (update.Place f place ∷ []) (make_place f place (idle b w))
  root_says b f place w h =
      said_place Q s (update.Place f place ∷ []) b f place (with_made w (update.Place f place))
      (record {
        store = h.store;
        sent = h.sent;
        tail = h.tail;
        made = ap (λ (us : List Update). us ++ update.Place f place ∷ []) h.made;
      })

  -- ---- a server is removed

  module _ (w : Work) (says : Says Q s [] (idle a w)) where
    along_says : (b : Store) (file : FileId) (o : Option Edge) (v : Work) → Says Q s [] (idle b v) → Says Q s [] (idle b (invite_along b file o v))
    along_says b file None v h = h
    along_says b file (Some e) v h = said_last Q s [] b e.peer (message.Invite (ends_to b file e.birth)) v tt h

    invites_say : (files : List FileId) (b : Store) (v : Work) → Says Q s [] (idle b v) → Says Q s [] (idle b (invite_each b files v))
    invites_say [] b v h = h
    invites_say (file ∷ files) b v h =
        invites_say files b (invite_of b file v)
        (chosen (λ (x : Work). Says Q s [] (idle b x)) (invites b file) (invite_along b file (loose_edge b file) v) v
        (along_says b file (loose_edge b file) v h) h)

    pub entered_says : (server : ℕ) → Says Q s [] (enter_view a server w)
    entered_says server =
        let b = enter a server in
        invites_say (keys_of b.names.held) b (doubt_all b w) (record {
          store = say_enter Q AnyBye s server a says.store;
          sent = says.sent;
          tail = says.tail;
          made = says.made;
        })

-- what was lost is given up at server s, where Q was known before
module _ (Q : FileId → Flag → Type 0) (s : ℕ) (a : Store) (together : AreTogether a) (w : Work)
    (k : IsFine Q s (idle a w)) (none : NoFlags w.made) (says : Says Q s [] (idle a w)) (id : FileId) where
  abbrev May : Done → Type 0
  May d = MayGo Q s a together d

  abbrev Root : Store → Place
  Root b = root_place b w.now id

  -- ---- a filling replica

  module _ (held : is_held a id ≡ true) where
    placed_fine : IsFine Q s (placed_in_root id a w)
    placed_fine =
        still Q s a together w k none (update.Place id (Root a) ∷ []) (place_no_flag id (Root a)) (placed_in_root id a w)
        (root_says Q s a a id (Root a) w says)
        (same_goes_on a (placed_in_root id a w).store (place_stays a id (Root a)).before (place_flags a id (Root a)))

    full_by : (d : Done) → IsFine Q s d → AreTogether d.store → (n : ℕ) → birth_at d.store id ≡ Some n → IsFine Q s (filled id d)
    full_by d fine both n birth = fill_fine Q s d.store both d.work fine id n birth

    fill_lost_fine : IsFine Q s (fill_lost a id w)
    fill_lost_fine =
        let here = birth_of_held a together id held in
        let stays = place_stays a id (Root a) in
        chosen (λ (d : Done). IsFine Q s (filled id d)) (has_blank_place a id) (placed_in_root id a w) (idle a w)
        (full_by (placed_in_root id a w) placed_fine (together_as_before a (placed_in_root id a w).store stays.before together) here.0
        (stays.before.births id ∙ here.1))
        (full_by (idle a w) k together here.0 here.1)

  -- ---- a file

  marks_say : (us : List Update) (dirs : List FileId) (b : Store) (place : Place) (v : Work) → Says Q s us (idle b v)
      → Says Q s us (marked_each b id place dirs v)
  marks_say us [] b place v h = h
  marks_say us (dir ∷ dirs) b place v h =
      let one = mark id place b dir v in
      marks_say us dirs one.store place one.work (said_entry Q s us b dir (bare_entry id place) v (All-nil (Q id)) h)

  struck_may : (o : Option FileId) → May (struck_out a id w o)
  struck_may None = still Q s a together w k none [] no_flags (idle a w) says
  struck_may (Some dir) =
      let dead = dead_at a w.now id dir in
      let us = update.Place id dead ∷ [] in
      let v = with_made w (update.Place id dead) in
      let start : Says Q s us (idle (unwished a id) v) = record {
        store = record { names = says.store.names; intents = says.store.intents };
        sent = says.sent;
        tail = says.tail;
        made = ap (λ (xs : List Update). xs ++ us) says.made;
      } in
      still Q s a together w k none us (place_no_flag id dead) (struck_out a id w (Some dir))
      (marks_say us (dirs_of a.names id) (unwished a id) dead v start)

  -- ---- a directory begins anew

  module _ (away : is_held a id ≡ false) where
    abbrev Free : Store
    Free = unfilled (with_birth a) id

    free_before : HoldsAsBefore a Free
    free_before = then_as_before a (with_birth a) Free (birth_as_before a) (ended_as_before (with_birth a) (intent_key.Fill id))

    free_has : (f : FileId) (n : ℕ) → Has Free f n → Has a f n
    free_has f n has = has_back a Free free_before f n has

    bare_all : (gs : List Flag) → gs ≡ [] → All (Q id) gs
    bare_all gs none_is = subst (All (Q id)) (sym none_is) (All-nil (Q id))

    module _ (own : Attributes) (bare : own.flags ≡ []) where
      abbrev Begun : Store
      Begun = begun_with a id own

      begun_says : Says Q s [] (idle Begun w)
      begun_says =
          said_on Q s [] (idle a w) (idle Begun w) says
          (say_begin Q AnyBye s Free id (draw_birth a) Last own true (bare_all own.flags bare)
          (say_ended Q AnyBye s (with_birth a) (intent_key.Fill id) (record { names = says.store.names; intents = says.store.intents })))
          (nothing_more w)

      begun_goes : GoesOn a Begun
      begun_goes = record {
        goes = λ f n there. inl (
          begun_births Free id (draw_birth a) Last own true away together f n there,
          flags_on a.names Begun.names (begin_flags Free id (draw_birth a) Last own bare true away) f,
        );
        count = more_given a.births Begun.births
            (patches_as_before (put_new Free id (draw_birth a) Last own true) id (patches_of id Free.intents)).given;
        newly = λ f n h. elim (begin_back Free id (draw_birth a) Last own true f n (to_has Begun f n h)) [
          | inl was ↦ inl (from_has a f n (free_has f n was))
          | inr new ↦ inr (one_above a.births n new.1)
        ];
      }

      begun_birth : birth_at Begun id ≡ Some (draw_birth a)
      begun_birth = born_here Free id (draw_birth a) Last own true

      begun_full : is_full Begun id ≡ true
      begun_full =
          (patches_keep id (put_new Free id (draw_birth a) Last own true) (patches_of id Free.intents)).full id
          (ap is_full_of (begun_same a.names id own true))

      -- its flag is raised
      known_fine : IsFine Q s (raised id (idle Begun w))
      known_fine =
          let held = own_of_full Begun.names id begun_full in
          fine_flag Q s Begun w (still Q s a together w k none [] no_flags (idle Begun w) begun_says begun_goes) id true (draw_birth a)
          begun_birth held.0 held.1

      anew_fine : IsFine Q s (raised id (placed_in_root id Begun w))
      anew_fine =
          let d = placed_in_root id Begun w in
          let stays = place_stays Begun id (Root Begun) in
          let fine : IsFine Q s d =
          still Q s a together w k none (update.Place id (Root Begun) ∷ []) (place_no_flag id (Root Begun)) d
          (root_says Q s a Begun id (Root Begun) w begun_says)
          (goes_further {b = Begun} begun_goes (same_goes_on Begun d.store stays.before (place_flags Begun id (Root Begun)))) in
          let held = own_of_full d.store.names id ((place_keeps Begun id (Root Begun)).full id begun_full) in
          fine_flag Q s d.store d.work fine id true (draw_birth a) (stays.before.births id ∙ begun_birth) held.0 held.1

    at_fine : (o : Option Place) → IsFine Q s (raised id (begun_at a id w o))
    at_fine (Some p) = known_fine (record { place = p; flags = [] }) refl
    at_fine None = anew_fine (blank_own id) refl

    begin_lost_fine : IsFine Q s (begin_lost a id w)
    begin_lost_fine =
        chosen (IsFine Q s) (is_wanted a id) (raised id (begun_at a id w (last_place a.names id))) (idle a w) (at_fine (last_place a.names id)) k

  -- A FORGET
  pub lost_fine : May (forget_lost a id w)
  lost_fine =
      decided May (is_held a id) (fill_lost a id w) (cond (is_dir id) (begin_lost a id w) (strike_out a id w))
      (λ held on. fill_lost_fine held)
      (λ away. chosen May (is_dir id) (begin_lost a id w) (strike_out a id w) (λ on. begin_lost_fine away)
      (struck_may (last_listing a.names id (dirs_of a.names id))))
