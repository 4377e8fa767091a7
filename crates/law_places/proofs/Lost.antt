-- What was lost is given up: each place that is known then may stand, where the one that is made
-- may. It makes at most one, with the stamp that the server draws.
use Rattle.std.proofs.Common.{ℕ, ◌≡◌, ◌≤◌, ◌<◌, ◌||◌, max, Bool, true, false, cond, List, [], ◌∷◌, Option, None, Some, is_some, refl, sym, ap, subst, ◌∙◌, inl, inr, All, arith}
use Rattle.std.specs.Prelude.{nat_lt}
use Rattle.std.proofs.lemmas.Bool.{false≢true}
use Rattle.std.proofs.lemmas.Option.{none-some}
use Rattle.std.specs.List.{filter}
use Rattle.std.specs.Map.{keys_of}
use Rattle.law_frame.specs.pg_run.pg_base.declared.id.FileId.{FileId}
use Rattle.law_frame.specs.pg_run.pg_base.declared.policy.Policy.TheVariants.{Last}
use Rattle.law_frame.specs.pg_run.pg_base.declared.stamp.Stamp.{Stamp}
use Rattle.law_frame.specs.pg_run.pg_base.Id.{is_same_file}
use Rattle.law_frame.specs.pg_run.pg_content.Content.{Among}
use Rattle.law_frame.proofs.pg_run.pg_content.Members.{among_filter}
use Rattle.law_frame.specs.pg_run.pg_entries.declared.entry.Entry.{Entry}
use Rattle.law_frame.specs.pg_run.pg_entries.Entry.{brings, entry_of}
use Rattle.law_frame.proofs.pg_run.pg_house.Drawn.{drawn_place}
use Rattle.law_frame.proofs.pg_run.pg_house.Lasting.{drawn_late}
use Rattle.law_frame.proofs.pg_run.pg_house.Noting.{one_front}
use Rattle.law_frame.specs.pg_run.pg_intent.declared.key.IntentKey.TheVariants as intent_key
use Rattle.law_frame.specs.pg_run.pg_intent.Intents.{ended}
use Rattle.law_frame.specs.pg_run.pg_msg.declared.update.Update.TheVariants as update
use Rattle.law_frame.specs.pg_run.pg_msg.declared.work.Work.{Work}
use Rattle.law_frame.specs.pg_run.pg_msg.Work.{new_work, with_made}
use Rattle.law_frame.specs.pg_run.pg_names.declared.attributes.Attributes.{Attributes}
use Rattle.law_frame.specs.pg_run.pg_names.Names.{InodeValue, blank_own, cell_at, is_dir, is_entry_new, join_entry, known, or_blank, own_at, own_of, with_joined}
use Rattle.law_frame.proofs.pg_run.pg_names.Lookups.{update_frame}
use Rattle.law_frame.proofs.pg_run.theory_flood_pieces.Choices.{chosen}
use Rattle.law_frame.proofs.pg_run.theory_flood_pieces.Together.{own_of_held}
use Rattle.law_frame.specs.pg_run.pg_register.declared.place.Place.{Place}
use Rattle.law_frame.specs.pg_run.pg_register.Flag.{brings_news}
use Rattle.law_frame.specs.pg_run.pg_register.Place.{blank_place, root}
use Rattle.law_frame.specs.pg_run.pg_store.declared.store.Store.{Store}
use Rattle.law_frame.specs.pg_run.pg_store.Births.{draw_birth, with_birth}
use Rattle.law_frame.specs.pg_run.pg_store.Store.{is_held, is_newer_entry, put_entry, take_entry, with_names}
use Rattle.law_frame.specs.pg_run.pg_pieces.Done.{Done, idle}
use Rattle.law_frame.specs.pg_run.pg_pieces.Making.{own_next, raise_flag}
use Rattle.law_frame.specs.pg_run.pg_repair.Filling.{few_golds, fill, live_golds}
use Rattle.law_frame.specs.pg_run.pg_names.Names as names
use Rattle.law_frame.specs.pg_run.pg_calls.Forgetting.{bare_entry, begin_lost, begun_at, begun_with, dead_at, dead_by, dirs_of, fill_lost, forget_lost, has_blank_place, has_cell_for, is_wanted, last_listing, last_place, lists_in, mark, marked_each, placed_in_root, placed_lost, root_place, strike_out, struck_out, unfilled, unwished}
use Rattle.law_frame.specs.pg_run.pg_calls.Making.{drawn}
use Rattle.law_frame.specs.pg_run.pg_calls.Naming.{raised}
use Rattle.law_frame.proofs.pg_run.pg_calls.LastPlace.{cell_there, last_is, listed_there}
use Rattle.law_frame.proofs.pg_run.Still.{entry_still}
use Rattle.law_frame.proofs.pg_run.Striking.{latest_in, marked_made}
use Rattle.law_places.proofs.Begun.{begin_fine}
use Rattle.law_places.proofs.Fine.{At, IsFine, as_before, before_later, intending, made_place, raised_flag, took_entry}
use Rattle.law_places.proofs.Handled.{fill_fine}
use Rattle.law_places.proofs.Known.{filter_is, or_is}
use Rattle.law_places.proofs.Messages.{OfSent}
use Rattle.law_places.proofs.Origins.{IsMade}
use Rattle.law_places.proofs.Placing.{begun_own, flag_made, place_made}
use Rattle.law_places.proofs.Timed.{at_least, at_most}

-- ---- a later place comes to a directory

brings_by : (o : Option InodeValue) (id : FileId) (c e : Entry) → names.entry_in id o ≡ Some c → e.child ≡ id
    → c.place.stamp.time < e.place.stamp.time → is_entry_new o e ≡ true
brings_by None id c e there same late = absurd (none-some c there)
brings_by (Some x) id c e there same late =
    let here : entry_of x.entries e.child ≡ Some c = ap (entry_of x.entries) same ∙ there in
    ap (λ o. brings o e) here
    ∙ ap (λ t. t || brings_news c.flags e.flags) (before_later c.place.stamp e.place.stamp late)

module _ (b : Store) (d : FileId) (e : Entry) where
  pub entry_later : b.names.last ≤ (take_entry b d e).names.last
  entry_later =
      let frame = (update_frame b.names d (with_joined e)).last in
      let m = at_least (join_entry b.names d e).last e.place.stamp.time in
      chosen (λ (x : Store). b.names.last ≤ x.names.last) (is_newer_entry b d e) (put_entry b d e) b (omega (arith, frame, m)) (omega arith)

  pub entry_late : (id : FileId) (c : Entry) → cell_at b.names d id ≡ Some c → e.child ≡ id → c.place.stamp.time < e.place.stamp.time
      → e.place.stamp.time ≤ (take_entry b d e).names.last
  entry_late id c there same late =
      let new : is_newer_entry b d e ≡ true = brings_by (known b.names d) id c e there same late in
      let is : (take_entry b d e).names.last ≡ max (join_entry b.names d e).last e.place.stamp.time =
      ap (λ (t : Bool). (cond t (put_entry b d e) b).names.last) new in
      let m = at_most (join_entry b.names d e).last e.place.stamp.time in
      omega (arith, is, m)

-- of some directories, one of which has a cell with an earlier place
module _ (id : FileId) (q : Place) where
  marks_later : (dirs : List FileId) (b : Store) (w : Work) → b.names.last ≤ (marked_each b id q dirs w).store.names.last
  marks_later [] b w = omega arith
  marks_later (d ∷ dirs) b w =
      let one = mark id q b d w in
      let first = entry_later b d (bare_entry id q) in
      let rest = marks_later dirs one.store one.work in
      omega (arith, first, rest)

  marks_late : (dirs : List FileId) (b : Store) (w : Work) (d : FileId) → Among d dirs
      → ((x : FileId) → Among x dirs → (c : Entry) × (cell_at b.names x id ≡ Some c) × (c.place.stamp.time < q.stamp.time))
      → q.stamp.time ≤ (marked_each b id q dirs w).store.names.last
  marks_late [] b w d none each = absurd none
  marks_late (x ∷ dirs) b w d some each =
      let c = each x (inl refl) in
      let one = mark id q b x w in
      let first = entry_late b x (bare_entry id q) id c.0 c.1 refl c.2 in
      let rest = marks_later dirs one.store one.work in
      omega (arith, first, rest)

-- ---- what was made stays made

filled_made : (f : FileId) (d : Done) (g : FileId) (p : Place) → IsMade d.work.made g p → IsMade (fill d.store f d.work).work.made g p
filled_made f d g p h =
    let b = with_names d.store (names.fill d.store.names f) in
    let u = update.Flag f (own_next b f true) in
    chosen (λ (e : Done). IsMade e.work.made g p) (nat_lt (live_golds b f) few_golds) (raise_flag b f d.work) (idle b d.work)
    (subst (λ us. IsMade us g p) (sym (flag_made f (idle b d.work))) (one_front (update.Place g p) d.work.made (u ∷ []) h)) h

raised_made : (f : FileId) (d : Done) (g : FileId) (p : Place) → IsMade d.work.made g p → IsMade (raised f d).work.made g p
raised_made f d g p h =
    subst (λ us. IsMade us g p) (sym (flag_made f d)) (one_front (update.Place g p) d.work.made (update.Flag f (own_next d.store f true) ∷ []) h)

module _ (P : FileId → Place → Type 0) (blanks : (f : FileId) → is_same_file f root ≡ false → P f (blank_place f)) (s least : ℕ) (a : Store) (moment : ℕ)
    (k : IsFine P s least (idle a (new_work moment 0))) (id : FileId) where
  abbrev W : Work
  W = new_work moment 0

  abbrev Fine : Done → Type 0
  Fine d = IsFine P s least d

  abbrev MayMake : Done → Type 0
  MayMake d = (f : FileId) (p : Place) → IsMade d.work.made f p → P f p

  -- ---- a place in the root is made

  -- of a thing that is held with an earlier one, behind what made no place
  rooted : (b : Store) (own : Attributes) → Fine (idle b W) → own_at b.names id ≡ Some own → own.place.stamp.time ≤ b.names.last
      → P id (root_place b moment id) → Fine (placed_in_root id b W)
  rooted b own h held before stands =
      let q = root_place b moment id in
      let late : b.names.last < q.stamp.time = drawn_late moment b.names.last q.stamp.time refl in
      made_place P s least (idle b W) (idle b W) id q own held (omega (arith, before, late)) h.drawn refl h.drawn.server late stands h

  rooted_made : (b : Store) → IsMade (placed_in_root id b W).work.made id (root_place b moment id)
  rooted_made b =
      let q = root_place b moment id in
      subst (λ us. IsMade us id q) (sym (place_made (idle b W) id q)) (inl refl)

  -- ---- a filling replica is full as it is

  placed_fine : is_held a id ≡ true → MayMake (placed_lost a id W) → Fine (placed_lost a id W)
  placed_fine held = by (has_blank_place a id)
    where
      by : (t : Bool) → MayMake (cond t (placed_in_root id a W) (idle a W)) → Fine (cond t (placed_in_root id a W) (idle a W))
      by true may =
          let own = own_of_held a.names id held in
          rooted a own.0 k own.1 (k.timed.own id own.0 own.1) (may id (root_place a moment id) (rooted_made a))
      by false may = k

  filled_fine : is_held a id ≡ true → MayMake (fill_lost a id W) → Fine (fill_lost a id W)
  filled_fine held may =
      let d = placed_lost a id W in
      fill_fine P blanks s least id d (placed_fine held (λ f p h. may f p (filled_made id d f p h)))

  -- ---- a file is struck out

  module _ (q : Place) (stands : P id q) where
    marks_fine : (dirs : List FileId) (b : Store) (w : Work) → Fine (idle b W) → Fine (idle (marked_each b id q dirs w).store W)
    marks_fine [] b w h = h
    marks_fine (d ∷ dirs) b w h =
        marks_fine dirs (take_entry b d (bare_entry id q)) (mark id q b d w).work (took_entry P s least (idle b W) h d (bare_entry id q) stands)

  -- what the work sends does not change
  marks_sent : (dirs : List FileId) (b : Store) (q : Place) (w : Work) → (marked_each b id q dirs w).work.sent ≡ w.sent
  marks_sent [] b q w = refl
  marks_sent (d ∷ dirs) b q w =
      let one = mark id q b d w in
      marks_sent dirs one.store q one.work ∙ (entry_still b d (bare_entry id q) w).mail.sent

  module _ (dir : FileId) (listed : lists_in a.names id dir ≡ true) where
    abbrev Dead : Place
    Dead = dead_at a moment id dir

    stamp_is : Dead.stamp ≡ drawn a moment
    stamp_is =
        let c = listed_there a.names id dir listed in
        ap (λ o. (dead_by a moment o id).stamp) c.1

    time_is : a.names.last < Dead.stamp.time
    time_is = drawn_late moment a.names.last Dead.stamp.time (ap (λ (t : Stamp). t.time) stamp_is)

    older : (x : FileId) → Among x (dirs_of a.names id) → (c : Entry) × (cell_at a.names x id ≡ Some c) × (c.place.stamp.time < Dead.stamp.time)
    older x among =
        let c = cell_there a.names id x (cell_at a.names x id) refl (among_filter (has_cell_for a.names id) x (keys_of a.names.held) among).1 in
        let old = k.timed.cells x id c.0 c.1 in
        let late = time_is in
        (c.0, c.1, omega (arith, old, late))

    abbrev Struck : Done
    Struck = struck_out a id W (Some dir)

    struck_made : Struck.work.made ≡ update.Place id Dead ∷ []
    struck_made = marked_made (dirs_of a.names id) (unwished a id) id Dead (with_made W (update.Place id Dead))

    struck_fine : Among dir (dirs_of a.names id) → MayMake Struck → Fine Struck
    struck_fine some may =
        let w = with_made W (update.Place id Dead) in
        let b = unwished a id in
        let dirs = dirs_of a.names id in
        let stands = may id Dead (subst (λ us. IsMade us id Dead) (sym struck_made) (inl refl)) in
        let first : Fine (idle b W) = as_before P s least (idle a W) (idle b W) refl refl refl refl k in
        let left = marks_fine Dead stands dirs b w first in
        record {
          known = left.known;
          timed = left.timed;
          sent = subst (All (OfSent P)) (sym (marks_sent dirs b Dead w)) k.sent;
          drawn =
              drawn_place s least (At P s least (idle a W)) (At P s least Struck) k.drawn (left.drawn.server ∙ sym k.drawn.server) id Dead
              (ap (λ (t : Stamp). t.server) stamp_is ∙ k.drawn.server) time_is (marks_late id Dead dirs b w dir some older) struck_made;
        }

  abbrev Lists : List FileId
  Lists = filter (lists_in a.names id) (dirs_of a.names id)

  struck_by : (o : Option FileId) → last_listing a.names id (dirs_of a.names id) ≡ o → MayMake (struck_out a id W o) → Fine (struck_out a id W o)
  struck_by None e may = k
  struck_by (Some dir) e may =
      let there : Among dir (dirs_of a.names id) × (lists_in a.names id dir ≡ true) = elim (latest_in a.names id Lists None dir e) [
        | inl none ↦ absurd (none-some dir none)
        | inr some ↦ among_filter (lists_in a.names id) dir (dirs_of a.names id) some
      ] in
      struck_fine dir there.1 there.0 may

  -- ---- a directory begins anew

  module _ (away : is_held a id ≡ false) where
    begun_fine : (own : Attributes) → P id own.place → Fine (idle (begun_with a id own) W)
    begun_fine own stands =
        let b = with_birth a in
        let born : Fine (idle b W) = as_before P s least (idle a W) (idle b W) refl refl refl refl k in
        let rest = intending P s least (idle b W) (ended a.intents (intent_key.Fill id)) (filter_is P _ a.intents k.known.intents) born in
        begin_fine P s least id (idle (unfilled b id) W) (draw_birth a) Last own true stands rest

    own_none : (o : Option InodeValue) → is_some o ≡ false → or_blank id (own_of o) ≡ blank_own id
    own_none None h = refl
    own_none (Some x) h = absurd (false≢true (sym h))

    blank_stands : P id (blank_own id).place
    blank_stands =
        subst (λ (o : Attributes). P id o.place) (own_none (known a.names id) away) (or_is P a.names k.known.names blanks id)

    at_fine : (o : Option Place) → last_place a.names id ≡ o → MayMake (begun_at a id W o) → Fine (begun_at a id W o)
    at_fine None e may =
        let own = blank_own id in
        let b = begun_with a id own in
        let held = begun_own (unfilled (with_birth a) id) id (draw_birth a) Last own true in
        rooted b own (begun_fine own blank_stands) held (omega arith) (may id (root_place b moment id) (rooted_made b))
    at_fine (Some q) e may =
        let l = last_is a.names id q e in
        begun_fine (record { place = q; flags = [] }) (subst (P id) l.is (k.known.names.cells l.dir id l.cell l.there))

    wanted_fine : MayMake (begin_lost a id W) → Fine (begin_lost a id W)
    wanted_fine = by (is_wanted a id)
      where
        by : (t : Bool) → MayMake (cond t (raised id (begun_at a id W (last_place a.names id))) (idle a W))
            → Fine (cond t (raised id (begun_at a id W (last_place a.names id))) (idle a W))
        by true may =
            let d = begun_at a id W (last_place a.names id) in
            raised_flag P s least id d (at_fine (last_place a.names id) refl (λ f p h. may f p (raised_made id d f p h)))
        by false may = k

  -- A FORGET
  pub forgotten : MayMake (forget_lost a id W) → Fine (forget_lost a id W)
  forgotten = by (is_held a id) refl (is_dir id)
    where
      by : (t : Bool) → is_held a id ≡ t → (u : Bool) → MayMake (cond t (fill_lost a id W) (cond u (begin_lost a id W) (strike_out a id W)))
          → Fine (cond t (fill_lost a id W) (cond u (begin_lost a id W) (strike_out a id W)))
      by true e u may = filled_fine e may
      by false e true may = wanted_fine e may
      by false e false may = struck_by (last_listing a.names id (dirs_of a.names id)) refl may
