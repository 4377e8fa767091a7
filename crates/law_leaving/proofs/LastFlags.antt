-- Of a birth that went nobody has a later flag than the last own one: no flag of it was made since.
use Rattle.std.proofs.Common.{ℕ, ◌≡◌, ◌≤◌, List, [], ◌∷◌, ◌++◌, append_assoc, Option, None, Some, option_map, refl, sym, ap, subst, ◌∙◌, inl, inr, ◌⊎◌}
use Rattle.std.proofs.lemmas.List.{append-nil}
use Rattle.pg_run.specs.pg_base.declared.id.FileId.{FileId}
use Rattle.pg_run.specs.pg_content.Content.{Among}
use Rattle.pg_run.specs.pg_edges.declared.key.Key.TheVariants as key
use Rattle.pg_run.specs.pg_entries.declared.cell.Cell.{Cell}
use Rattle.pg_run.specs.pg_event.declared.event.Event.{Event}
use Rattle.pg_run.specs.theory_flood.Server.{Replica as Seen}
use Rattle.theory_leaving.specs.Moment.{IsUpToLast}
use Rattle.pg_run.specs.pg_msg.declared.update.Update.TheVariants as update
use Rattle.pg_run.specs.pg_names.declared.attributes.Attributes.{Attributes}
use Rattle.pg_run.specs.pg_names.Names.{blank_own, or_blank, own_at, own_or_blank}
use Rattle.pg_run.proofs.theory_flood_pieces.Stores.{plain_at}
use Rattle.pg_run.specs.pg_register.declared.flag.Flag.{Flag}
use Rattle.pg_run.specs.pg_register.Flag.{flag_of}
use Rattle.pg_run.specs.pg_replica.declared.replica.Replica.{Replica}
use Rattle.pg_run.specs.pg_server.Local.{effect}
use Rattle.pg_run.specs.pg_store.declared.store.Store.{Store}
use Rattle.pg_run.specs.pg_store.Store.{replica_at}
use Rattle.pg_run.specs.pg_store.Together.{IsOver, birth_at}
use Rattle.pg_run.specs.Known.{IsFlagOf, IsOwnFlag, WasRaised}
use Rattle.pg_run.specs.Laws.{store_after}
use Rattle.pg_run.specs.Leaving.{Went}
use Rattle.pg_run.specs.Run.{Step, Taking, World, next, run, start, taking_in}
use Rattle.pg_run.proofs.Found.{flag_found}
use Rattle.pg_run.proofs.Frame.{IsFramed, framed, run_more}
use Rattle.pg_run.proofs.Lists.{among_contained}
use Rattle.law_leaving.specs.Gone.{WentAs}
use Rattle.law_leaving.specs.Premises.{StandOn}
use Rattle.law_leaving.specs.Seen.{flag_in, leaving}
use Rattle.law_leaving.proofs.Behind.{behind_is, over_not, went_more, what_went_is_over}
use Rattle.law_leaving.proofs.Flags.{flag_at, flag_back, seen_of}
use Rattle.law_leaving.proofs.Ordered.{IsSeen}

-- a flag that is known of a thing is known with its own place and flags
own_known : (o : Option Attributes) (file : FileId) (u : ℕ) (f : Flag) → flag_of (or_blank file o).flags u ≡ Some f
    → (own : Attributes) × (o ≡ Some own) × Among f own.flags × (f.server ≡ u)
own_known None file u f is = absurd (let x = flag_found (blank_own file).flags u f is in x.0)
own_known (Some own) file u f is = let x = flag_found own.flags u f is in (own, refl, x.0, x.1)

module _ (n : ℕ) (on : StandOn n) (file : FileId) (f : Flag) (u : ℕ) (server : f.server ≡ u) where
  -- where a flag is known behind an event, it was known before, or it was made
  module _ (before : List Event) (event : Event) where
    abbrev W : World
    W = run n before

    made_by : (o : Option Taking) (step : Step) → taking_in n W event ≡ o → IsFramed n W event o step
        → Among (update.Flag file f) step.entry.made
        → birth_at (store_after n (before ++ event ∷ []) u) file ≡ Some f.birth
    made_by None step is frame made =
        let P : Step → Type 0 = (λ z. Among (update.Flag file f) z.entry.made) in
        absurd (subst P frame.1 made)
    made_by (Some t) step is frame made =
        let P : Step → Type 0 = (λ z. Among (update.Flag file f) z.entry.made) in
        let out = (effect (W.stores t.server) t.asked).out in
        let m = on.events.made before event t.server t.asked is file f (among_contained out.made (update.Flag file f) (subst P frame.1 made)) in
        let Q : ℕ → Type 0 = (λ s. birth_at (store_after n (before ++ event ∷ []) s) file ≡ Some f.birth) in
        subst Q (sym m.0 ∙ server) (ap (λ (z : Store). birth_at z file) (behind_is n before event t.server t.asked is) ∙ m.1)

    known_before : (birth_at (store_after n (before ++ event ∷ []) u) file ≡ Some f.birth → ⊥)
        → IsFlagOf n (run n (before ++ event ∷ [])) file f → IsFlagOf n W file f
    known_before not_there (inl first) = inl first
    known_before not_there (inr raised) =
        let P : World → Type 0 = (λ v. WasRaised v.journal file f) in
        elim (subst P (run_more n (start n) before event) raised) [
          | inl made ↦ absurd (not_there (made_by (taking_in n W event) (next n W event) refl (framed n W event) made))
          | inr was ↦ inr was
        ]

  gone_not : (events : List Event) (x : Replica) → Went n events u file x → x.birth ≡ f.birth
      → birth_at (store_after n events u) file ≡ Some f.birth → ⊥
  gone_not events x w born there =
      over_not (store_after n events u) file x.birth (what_went_is_over n on events u file x w)
      (there ∙ ap (λ b. Some b) (sym born))

  -- behind more events too
  known_then : (before rest : List Event) (x : Replica) → Went n before u file x → x.birth ≡ f.birth
      → IsFlagOf n (run n (before ++ rest)) file f → IsFlagOf n (run n before) file f
  known_then before [] x w born h = subst (λ es. IsFlagOf n (run n es) file f) (append-nil before) h
  known_then before (e ∷ es) x w born h =
      let more = went_more n before e u file x w in
      known_before before e (gone_not (before ++ e ∷ []) x more born)
      (known_then (before ++ e ∷ []) es x more born
      (subst (λ l. IsFlagOf n (run n l) file f) (sym (append_assoc before (e ∷ []) es)) h))

  -- so when the replica went it was known
  pub known_when : (events : List Event) (x : Replica) (w : Went n events u file x) → x.birth ≡ f.birth
      → IsFlagOf n (run n events) file f → IsFlagOf n (run n w.before) file f
  known_when events x w born h =
      let now : Went n (w.before ++ w.event ∷ []) u file x =
      record { before = w.before; event = w.event; behind = []; split = refl; from = w.from; goes = w.goes; stood = w.stood } in
      let whole : events ≡ (w.before ++ w.event ∷ []) ++ w.behind = w.split ∙ sym (append_assoc w.before (w.event ∷ []) w.behind) in
      known_before w.before w.event (gone_not (w.before ++ w.event ∷ []) x now born)
      (known_then (w.before ++ w.event ∷ []) w.behind x now born (subst (λ l. IsFlagOf n (run n l) file f) whole h))

module _ (n : ℕ) (on : StandOn n) (file : FileId) (events : List Event) where
  -- the last own one, where the replica stood
  last_of : (a : Store) (t : ℕ) (f : Flag) → f.server ≡ t → IsOwnFlag a file f → IsUpToLast (leaving n file) events (plain_at a file) t f
  last_of a t f server h =
      let is : flag_of (own_or_blank a.names file).flags t ≡ Some h.last =
      ap (λ o. flag_of (or_blank file o).flags t) h.held ∙ ap (flag_of h.own.flags) (sym server) ∙ h.is in
      record {
        last = h.last;
        is = flag_back (flag_of (own_or_blank a.names file).flags t) ∙ is;
        born = elim h.upto [ inl same ↦ ap (λ (g : Flag). g.birth) (sym same) | inr older ↦ sym older.0 ];
        older = elim h.upto [ inl same ↦ inl same | inr older ↦ inr older.1 ];
      }

  -- as it was seen then
  seen_then : (t birth : ℕ) (y : Seen Cell) (f : Flag) (went : WentAs n file events t birth y) → f.birth ≡ birth → f.server ≡ t
      → IsFlagOf n (run n went.went.before) file f → IsUpToLast (leaving n file) events y.cells t f
  seen_then t birth y f went born server known =
      let w = went.went in
      let a = store_after n w.before t in
      let P : ℕ → Type 0 = (λ u. IsOwnFlag (store_after n w.before u) file f ⊎ IsOver (store_after n w.before u) file f.birth) in
      let stood : birth_at a file ≡ Some f.birth =
      ap (option_map (λ (r : Replica). r.birth)) w.stood ∙ ap (λ b. Some b) (went.born ∙ sym born) in
      elim (subst P server (on.own w.before file f known)) [
        | inl own ↦
            let R : Seen Cell → Type 0 = (λ z. IsUpToLast (leaving n file) events z.cells t f) in
            subst R (sym went.view) (last_of a t f server own)
        | inr over ↦ absurd (over_not a file f.birth over stood)
      ]

  pub flags : (s t birth : ℕ) (x y : Seen Cell) (f : Flag) → (1 ≤ s) × (s ≤ n) → IsSeen (store_after n events s) file x
      → WentAs n file events t birth y → flag_in (x.cells (key.Flag t)) ≡ Some f → f.birth ≡ birth
      → IsUpToLast (leaving n file) events y.cells t f
  flags s t birth x y f real has went is born =
      let a = store_after n events s in
      let q = seen_of a file x (replica_at a file) refl has in
      let at : flag_of (own_or_blank a.names file).flags t ≡ Some f =
      flag_at a file t f (ap (λ (z : Seen Cell). flag_in (z.cells (key.Flag t))) q.2 ∙ is) in
      let o = own_known (own_at a.names file) file t f at in
      let known = (((on.carried events).stores s real.0 real.1).own file o.0 o.1).flags_are f o.2 in
      seen_then t birth y f went born o.3
      (known_when n on file f t o.3 events went.replica went.went (went.born ∙ sym born) known)
