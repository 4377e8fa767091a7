-- From one moment of a run to the next.
use Rattle.std.proofs.Common.{ℕ, ◌≡◌, List, [], ◌∷◌, ◌++◌, Option, None, Some, option_map, refl, sym, ap, subst, ◌∙◌, inl, inr, ◌⊎◌}
use Rattle.std.specs.Prelude.{Contains}
use Rattle.pg_run.specs.pg_base.declared.id.FileId.{FileId}
use Rattle.pg_run.specs.pg_edges.declared.key.Key.{Key}
use Rattle.pg_run.specs.pg_entries.declared.cell.Cell.{Cell}
use Rattle.pg_run.specs.pg_event.declared.entry.VoidCause.{VoidCause}
use Rattle.pg_run.specs.pg_event.declared.event.Event.{Event}
use Rattle.pg_run.specs.theory_flood.World.{after}
use Rattle.pg_run.specs.theory_flood.Server.{Holds, HoldsAll, Replica as Seen}
use Rattle.pg_run.proofs.theory_flood.Servers.{some_same}
use Rattle.theory_leaving.specs.Laws.{Idles}
use Rattle.theory_leaving.specs.Rule.{Follows}
use Rattle.pg_run.specs.pg_msg.declared.message.Sent.{Sent}
use Rattle.pg_run.specs.theory_flood_pieces.Seen.{plain, seen}
use Rattle.pg_run.specs.theory_flood_pieces.UpTo.{IsUpTo}
use Rattle.pg_run.proofs.theory_flood_pieces.Events.{holds_plain}
use Rattle.pg_run.proofs.theory_flood_pieces.Stores.{plain_at}
use Rattle.pg_run.specs.pg_replica.declared.replica.Replica.{Replica}
use Rattle.pg_run.specs.pg_server.declared.input.Input.{Input}
use Rattle.pg_run.specs.pg_server.declared.input.Input.TheVariants as input
use Rattle.pg_run.specs.pg_server.Local.{effect}
use Rattle.pg_run.specs.pg_store.declared.store.Store.{Store}
use Rattle.pg_run.specs.pg_store.Cells.{cell_at}
use Rattle.pg_run.specs.pg_store.Store.{replica_at}
use Rattle.pg_run.specs.Journal.{mail}
use Rattle.pg_run.specs.Laws.{store_after}
use Rattle.pg_run.specs.Leaving.{Goes}
use Rattle.pg_run.specs.Run.{Taking, World, effect_step, idle_step, next, run, start, taking_in, took_after, world_after}
use Rattle.pg_run.specs.Took.{Take}
use Rattle.pg_run.proofs.Frame.{Acts, HasCome, IsFramed, acts_is, framed, next_is, other_after, run_more}
use Rattle.law_leaving.specs.Gone.{WentAs}
use Rattle.law_leaving.specs.Seen.{leaving, message_in, turn}
use Rattle.law_leaving.specs.Taken.{Site, site}
use Rattle.law_leaving.proofs.Behind.{EachStaysOrGoes, went_more}
use Rattle.law_leaving.proofs.Flags.{seen_of}
use Rattle.law_leaving.proofs.Lists.{split_last}

not_none : (o : Option Taking) (t : Taking) → o ≡ None → o ≡ Some t → ⊥
not_none o t e f = let z : None ≡ Some t = sym e ∙ f in cc

pub site_of_parts : (a b : Store) (t u : List Take) → a ≡ b → t ≡ u
    → ◌≡◌ {A = Site} (record { store = a; took = t }) (record { store = b; took = u })
site_of_parts a b t u d e = cc

module _ (n : ℕ) (events : List Event) (event : Event) where
  abbrev W : World
  W = run n events

  abbrev More : List Event
  More = events ++ event ∷ []

  abbrev V : World
  V = run n More

  more_is : V ≡ world_after W (next n W event)
  more_is = run_more n (start n) events event

  -- where no server takes an input
  idle_is : taking_in n W event ≡ None → (cause : Option VoidCause) × (V ≡ world_after W (idle_step W event cause))
  idle_is none =
      let f = subst (λ (o : Option Taking). IsFramed n W event o (next n W event)) none (framed n W event) in
      (f.0, more_is ∙ ap (world_after W) f.1)

  -- where one does
  pub acts_so : (t : Taking) → taking_in n W event ≡ Some t → V ≡ world_after W (effect_step W event t.server t.asked)
  acts_so t is = more_is ∙ ap (world_after W) (next_is n W event t is)

  -- ---- what went

  module _ (file : FileId) where
    pub went_on : (k birth : ℕ) (y : Seen Cell) → WentAs n file events k birth y → WentAs n file More k birth y
    went_on k birth y h =
        record { replica = h.replica; went = went_more n events event k file h.replica h.went; born = h.born; view = h.view }

    -- it went before, or in this event
    pub record GoesNow (k birth : ℕ) (y : Seen Cell) : Type 0 where
      pub replica : Replica
      pub from : ℕ
      pub goes : Goes n events event k file from
      pub stood : replica_at (store_after n events k) file ≡ Some replica
      pub born : replica.birth ≡ birth
      pub view : y ≡ seen (store_after n events k) file replica

    pub went_or : (k birth : ℕ) (y : Seen Cell) → WentAs n file More k birth y → WentAs n file events k birth y ⊎ GoesNow k birth y
    went_or k birth y h =
        let w = h.went in
        elim (split_last events event w.before w.event w.behind w.split) [
          | inl l ↦
              let P : List Event → Event → Type 0 = (λ es e. Goes n es e k file w.from) in
              let Q : List Event → Type 0 = (λ es. P es w.event) in
              let R : Event → Type 0 = P events in
              inr (record {
                replica = h.replica;
                from = w.from;
                goes = subst R l.entry (subst Q l.before w.goes);
                stood = ap (λ es. replica_at (store_after n es k) file) (sym l.before) ∙ w.stood;
                born = h.born;
                view = h.view ∙ ap (λ es. seen (store_after n es k) file h.replica) l.before;
              })
          | inr r ↦ inl (record {
            replica = h.replica;
            went = record { before = w.before; event = w.event; behind = r.0; split = r.1; from = w.from; goes = w.goes; stood = w.stood };
            born = h.born;
            view = h.view;
          })
        ]

    pub went_now : (k : ℕ) (x : Replica) (from : ℕ) → Goes n events event k file from → replica_at (store_after n events k) file ≡ Some x
        → WentAs n file More k x.birth (seen (store_after n events k) file x)
    went_now k x from goes stood = record {
      replica = x;
      went = record { before = events; event = event; behind = []; split = refl; from = from; goes = goes; stood = stood };
      born = refl;
      view = refl;
    }

    -- ---- nothing happens

    pub idles : taking_in n W event ≡ None → Idles (leaving n file) events More
    idles none =
        let same = (idle_is none).1 in
        record {
          nodes = λ k. ap (λ (v : World). site v k) same;
          mail = ap (λ (v : World). mail v.journal) same;
          stays = went_on;
          from = λ k birth y h. elim (went_or k birth y h) [
            | inl was ↦ was
            | inr now ↦ absurd (not_none (taking_in n W event) (record { server = k; asked = input.Arrival now.goes.packet }) none now.goes.takes)
          ];
        }

    -- ---- a server acts

    came_by : (s : ℕ) (asked : Input) → HasCome W s asked → (m : Sent) → message_in s asked ≡ Some m → Contains (mail W.journal) m
    came_by s (input.Call moment call) came m e = absurd (let z : None ≡ Some m = e in cc)
    came_by s (input.Tick moment word) came m e = absurd (let z : None ≡ Some m = e in cc)
    came_by s (input.Arrival packet) came m e =
        let it : Sent = record { to = s; packet = packet } in
        subst (Contains (mail W.journal)) (some_same it m e) came
    came_by s input.Restart came m e = absurd (let z : None ≡ Some m = e in cc)

    plain_back : (a b : Store) (k : Key) (c : Cell) (o : Option Cell) → cell_at a file k ≡ o → option_map plain o ≡ Some c
        → ((d : Cell) → cell_at a file k ≡ Some d → Holds IsUpTo (cell_at b file) d) → Holds IsUpTo (plain_at b file) c
    plain_back a b k c None is e grows = absurd (let z : None ≡ Some c = e in cc)
    plain_back a b k c (Some d) is e grows =
        subst (λ z. Holds IsUpTo (plain_at b file) z) (some_same (plain d) c e) (holds_plain b file d (grows d is))

    module _ (t : Taking) (is : taking_in n W event ≡ Some t) (stay : EachStaysOrGoes n) where
      acts : Acts n W t
      acts = acts_is n W event t is

      abbrev A : Store
      A = W.stores t.server

      -- what is held stays, or goes
      held_or : (birth : ℕ) (x : Seen Cell) → option_map (seen (store_after n events t.server) file) (replica_at (store_after n events t.server) file) ≡ Some x → x.birth ≡ birth
          → ((y : Seen Cell) × ((option_map (seen (store_after n More t.server) file) (replica_at (store_after n More t.server) file) ≡ Some y) × (y.birth ≡ birth)) × HoldsAll IsUpTo x.cells y.cells)
          ⊎ WentAs n file More t.server birth x
      held_or birth x e born =
          let a = store_after n events t.server in
          let b = store_after n More t.server in
          let r = seen_of a file x (replica_at a file) refl e in
          elim (stay events event t.server t.asked is file r.0 r.1) [
            | inl on ↦
                let cells : HoldsAll IsUpTo (plain_at a file) (plain_at b file) = (λ k c at. plain_back a b k c (cell_at a file k) refl at (λ d. on.cells k d)) in
                let P : Seen Cell → Type 0 = (λ z. HoldsAll IsUpTo z.cells (plain_at b file)) in
                inl (
                  seen b file on.replica,
                  (ap (option_map (seen b file)) on.held, on.born ∙ ap (λ (z : Seen Cell). z.birth) r.2 ∙ born),
                  subst P r.2 cells,
                )
            | inr goes ↦
                let P : Seen Cell → Type 0 = (λ z. WentAs n file More t.server z.birth z) in
                let Q : ℕ → Type 0 = (λ b'. WentAs n file More t.server b' x) in
                inr (subst Q born (subst P r.2 (went_now t.server r.0 goes.0 goes.1 r.1)))
          ]

      goes_here : (k birth : ℕ) (y : Seen Cell) → GoesNow k birth y
          → (k ≡ t.server) × ((option_map (seen (store_after n events t.server) file) (replica_at (store_after n events t.server) file) ≡ Some y) × (y.birth ≡ birth))
      goes_here k birth y now =
          let it : Taking = record { server = k; asked = input.Arrival now.goes.packet } in
          let same : k ≡ t.server = ap (λ (z : Taking). z.server) (some_same it t (sym now.goes.takes ∙ is)) in
          let P : ℕ → Type 0 = (λ i. option_map (seen (store_after n events i) file) (replica_at (store_after n events i) file) ≡ Some y) in (
            same,
            (
              subst P same (ap (option_map (seen (store_after n events k) file)) now.stood ∙ ap (λ z. Some z) (sym now.view)),
              ap (λ (z : Seen Cell). z.birth) now.view ∙ now.born,
            ),
          )

      pub follows : Follows (leaving n file) events More (turn n events event t)
      follows = record {
        server = (acts.least, acts.most);
        own = refl;
        others = λ k apart.
            (let whole = acts_so t is in
            ap (λ (v : World). site v k) whole
            ∙ site_of_parts (after W.stores t.server (effect A t.asked).store k) (W.stores k)
            (after W.took t.server (took_after A (W.asked t.server) (W.took t.server) t.asked) k) (W.took k)
            (other_after W.stores t.server (effect A t.asked).store k apart)
            (other_after W.took t.server (took_after A (W.asked t.server) (W.took t.server) t.asked) k apart));
        mail = ap (λ (v : World). mail v.journal) (acts_so t is);
        came = came_by t.server t.asked acts.came;
        stays = went_on;
        from = λ k birth y h. elim (went_or k birth y h) [
          | inl was ↦ inl was
          | inr now ↦ inr (goes_here k birth y now)
        ];
        holds = λ birth x h. held_or birth x h.0 h.1;
      }
