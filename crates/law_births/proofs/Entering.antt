-- Births and edges where a server is removed in a view: its edges go, and who asked it asks another
-- one.
use Rattle.std.proofs.Common.{ℕ, ◌≡◌, ◌==◌, ◌||◌, ◌++◌, Bool, true, false, cond, List, [], ◌∷◌, Option, None, Some, Result, Ok, Err, eq-eqb, ◌⊎◌, inl, refl, ap, subst, ◌∙◌}
use Rattle.std.specs.Option.{option_map}
use Rattle.pg_run.specs.pg_base.declared.id.FileId.{FileId}
use Rattle.pg_run.specs.pg_call.declared.call.Call.TheVariants as call
use Rattle.pg_run.specs.pg_call.declared.reply.Reply.{Reply}
use Rattle.pg_run.specs.pg_call.declared.reply.Reply.TheVariants as reply
use Rattle.pg_run.specs.pg_checks.Answer.{answer, answered}
use Rattle.pg_run.specs.pg_calls.GivingUp.{enter_view, removal_at}
use Rattle.pg_run.proofs.pg_calls.Checked.{no_ok}
use Rattle.pg_run.specs.pg_msg.Work.{new_work}
use Rattle.pg_run.specs.pg_lookup.declared.paths.LookupError.{LookupError}
use Rattle.pg_run.specs.Going.{IsRemovedBehind}
use Rattle.pg_run.specs.pg_server.declared.input.Input.TheVariants as input
use Rattle.pg_run.specs.pg_edges.Edges.{without_edge}
use Rattle.pg_run.specs.pg_intent.declared.key.IntentKey.{IntentKey}
use Rattle.pg_run.specs.pg_intent.Intents.{aimed, ended, keys_to, turned, turned_each}
use Rattle.pg_run.specs.pg_intent.Key.{is_for_peer}
use Rattle.pg_run.specs.pg_house.House.{house}
use Rattle.pg_run.specs.pg_house.Work.{state_of}
use Rattle.pg_run.proofs.pg_house.Keys.{rules_by}
use Rattle.pg_run.specs.pg_msg.declared.work.Work.{Work}
use Rattle.pg_run.specs.pg_names.Names.{NamesValue, with_flag}
use Rattle.pg_run.proofs.pg_names.Lookups.{update_frame}
use Rattle.pg_run.specs.pg_register.Flag.{is_removed}
use Rattle.pg_run.specs.pg_replica.declared.replica.Replica.{Replica}
use Rattle.pg_run.specs.pg_store.declared.store.Store.{Store}
use Rattle.pg_run.specs.pg_store.Beginning.{with_intents}
use Rattle.pg_run.specs.pg_store.Births.{with_wishes}
use Rattle.pg_run.specs.pg_store.Seen.{removed_of}
use Rattle.pg_run.specs.pg_store.Servers.{next_target}
use Rattle.pg_run.specs.pg_store.Store.{is_newer_flag, put_flag, replica_at, take_flag, with_names}
use Rattle.pg_run.specs.pg_store.Views.{enter, turn, without_peer}
use Rattle.pg_run.specs.pg_store.Wishes.{aim_each, aim_wish, wished_of}
use Rattle.pg_run.proofs.pg_store.Entered.{enter_found, enter_names}
use Rattle.pg_run.proofs.pg_store.Entering.{Cut, entered_as_before}
use Rattle.pg_run.proofs.pg_store.Pairs.{ended_as_before}
use Rattle.pg_run.specs.pg_pieces.Done.{Done}
use Rattle.pg_run.specs.pg_pieces.Making.{own_next}
use Rattle.pg_run.specs.pg_cells.Settling.{rules, settle}
use Rattle.pg_run.proofs.pg_cells.Settled.{settle_keeps}
use Rattle.pg_run.proofs.pg_intentions.Steady.{begin_end_stays}
use Rattle.pg_run.proofs.theory_flood_pieces.Choices.{chosen}
use Rattle.pg_run.proofs.theory_flood_pieces.Touching.{same_names}
use Rattle.pg_run.specs.pg_server.declared.input.Input.{Input}
use Rattle.pg_run.specs.pg_server.Local.{Effect, closed, effect, finished, first_effect, reply_to, settled, takes_effect}
use Rattle.std.specs.Prelude.{drop, length}
use Rattle.law_births.proofs.Begins.{aim_goes, turn_goes}
use Rattle.law_births.proofs.Ends.{NoneFalls, UpBut, cut_falls_not, cut_up, ends}
use Rattle.law_births.proofs.Has.{Goes, IsAlone, before_goes, goes_itself, goes_then}
use Rattle.law_births.proofs.Moving.{EdgesMove, Keeps, Moves, WentOff, Why, some_shape}
use Rattle.law_births.proofs.Pieces.{Shape, shape}

-- ---- who asked it asks another one

module _ (to : ℕ) where
  one_goes : (a : Store) (k : IntentKey) → Goes a (with_intents a (turned a.intents k to))
  one_goes a k = by (is_for_peer k)
    where
      by : (t : Bool) → Goes a (with_intents a (cond t (ended a.intents k) (aimed a.intents k to)))
      by true = before_goes a (with_intents a (ended a.intents k)) (ended_as_before a k)
      by false = aim_goes a k to

  each_goes : (ks : List IntentKey) (a : Store) → Goes a (with_intents a (turned_each a.intents ks to))
  each_goes [] a = goes_itself a
  each_goes (k ∷ ks) a = goes_then (one_goes a k) (each_goes ks (with_intents a (turned a.intents k to)))

  wishes_go : (files : List FileId) (a : Store) → Goes a (with_wishes a (aim_each a.wishes files to))
  wishes_go [] a = goes_itself a
  wishes_go (file ∷ files) a =
      goes_then (turn_goes a file to) (wishes_go files (with_wishes a (aim_wish a.wishes file to)))

  all_goes : (server : ℕ) (a : Store) → Goes a (turn server to a)
  all_goes server a =
      goes_then (each_goes (keys_to server a.intents) a)
      (wishes_go (wished_of server a.wishes) (with_intents a (turned_each a.intents (keys_to server a.intents) to)))

-- ---- the view

module _ (a : Store) (server : ℕ) where
  abbrev Before : Store
  Before = Cut server a

  pub enter_goes : Goes a (enter a server)
  enter_goes = goes_then (before_goes a Before (entered_as_before server a)) (all_goes (next_target Before server) server Before)

  module _ (V : Why) (may : (file : FileId) (birth : ℕ) → V.edge file server birth) where
    abbrev Either : FileId → ℕ → List (ℕ × ℕ) → Type 0
    Either q n es = Keeps V (enter a server) q n es ⊎ WentOff V (enter a server) q n

    edge_by : (k : IsAlone a) (q : FileId) (n : ℕ) (es : List (ℕ × ℕ)) (o : Option Replica) → replica_at a q ≡ o → option_map shape o ≡ Some (n, es)
        → Either q n es
    edge_by k q n es None is there = absurd (let z : ◌≡◌ {A = Option Shape} None (Some (n, es)) = there in cc)
    edge_by k q n es (Some x) is there =
        let old = some_shape x.birth n (ends x.edges) es there in
        let fs = ends (without_edge x.edges server) in
        let found : replica_at (enter a server) q ≡ Some (without_peer server x) =
        enter_found a server q k.together ∙ ap (option_map (without_peer server)) is in
        let R : List (ℕ × ℕ) → Type 0 = λ l. NoneFalls l fs × UpBut (V.edge q) l fs in
        let both : R es = subst R old.1 (cut_falls_not x.edges server, cut_up (V.edge q) x.edges server (may q)) in
        inl (fs, ap (option_map shape) found ∙ ap (λ (m : ℕ). Some (m, fs)) old.0, both.0, both.1)

    enter_edges : IsAlone a → EdgesMove V a (enter a server)
    enter_edges k q n es there = edge_by k q n es (replica_at a q) refl there

    -- A SERVER IS REMOVED
    pub enter_moves : Moves V a (enter a server)
    enter_moves = record { goes = enter_goes; edges = enter_edges }

-- ---- who is removed at the end of an event

one_removed : (rs : List ℕ) (server : ℕ) → is_removed (rs ++ server ∷ []) server ≡ true
one_removed [] server = ap (λ (t : Bool). t || false) (eq-eqb server server refl)
one_removed (r ∷ rs) server = by (r == server) (one_removed rs server)
  where
    by : (t : Bool) → is_removed (rs ++ server ∷ []) server ≡ true
        → (t || is_removed (rs ++ server ∷ []) server) ≡ true
    by true rest = refl
    by false rest = rest

-- in the view that is entered the server is removed
pub enter_removed : (a : Store) (server : ℕ) → is_removed (removed_of (enter a server)) server ≡ true
enter_removed a server =
    ap (λ (s : NamesValue). is_removed s.removed server) (enter_names a server) ∙ one_removed (removed_of a) server

module _ (a : Store) (asked : Input) where
  abbrev Same : List ℕ → Store → Type 0
  Same rs b = removed_of b ≡ rs

  flag_same : (b : Store) (f : FileId) → Same (removed_of b) (take_flag b f (own_next b f true))
  flag_same b f =
      let g = own_next b f true in
      chosen (Same (removed_of b)) (is_newer_flag b f g) (put_flag b f g) b (update_frame b.names f (with_flag g)).removed refl

  rules_same : (b : Store) (w : Work) → Same (removed_of b) (rules b w).store
  rules_same b w =
      let st = house w.now (state_of b.names w) in
      ap (λ (s : NamesValue). s.removed) (same_names (with_names b st.names) (drop (length w.touched) st.work.touched))
      ∙ (rules_by w.now (state_of b.names w)).1

  settle_same : (b : Store) (w : Work) → Same (removed_of b) (settle b w).store
  settle_same b w =
      settle_keeps (λ (c : Store) (v : Work). Same (removed_of b) c) (λ c v k. rules_same c v ∙ k) (λ c f v less k. flag_same c f ∙ k) b w refl

  closed_same : (r : Option Reply) (d : Done) → Same (removed_of d.store) (closed r d).store
  closed_same r d =
      ap (λ (s : NamesValue). s.removed) (begin_end_stays (settled d).store (settled d).work).names ∙ settle_same d.store d.work

  -- who was removed in it
  pub end_removed : removed_of (effect a asked).store ≡ removed_of (first_effect a asked).store
  end_removed =
      let d = first_effect a asked in
      let r = reply_to a asked in
      chosen (λ (e : Effect). removed_of e.store ≡ removed_of d.store) (takes_effect a asked) (closed r d) (finished r d) (closed_same r d) refl

-- a server that is given up is removed in the view behind the event
removed_by : (a : Store) (moment view server : ℕ) (u : Unit {0}) (o : Result (Unit {0}) LookupError) → o ≡ Ok u
    → is_removed (removed_of (answered a (new_work moment 0) o (λ found. answer (enter_view a server (new_work moment 0)) reply.Done)).store) server ≡ true
removed_by a moment view server u (Ok v) at = enter_removed a server
removed_by a moment view server u (Err why) at = absurd (no_ok why u at)

pub removed_behind : (a : Store) (asked : Input) (moment view server : ℕ) (u : Unit {0}) → asked ≡ input.Call moment (call.Giveup view server)
    → removal_at a view server ≡ Ok u → IsRemovedBehind a asked server
removed_behind a asked moment view server u is at =
    ap (λ (rs : List ℕ). is_removed rs server) (end_removed a asked)
    ∙ ap (λ (x : Input). is_removed (removed_of (first_effect a x).store) server) is
    ∙ removed_by a moment view server u (removal_at a view server) at
