-- What was lost is given up: no version is made; and where a directory begins anew, none was made
-- of its birth.
use Rattle.std.proofs.Common.{ℕ, ◌≡◌, ◌+◌, ◌&&◌, Bool, true, false, cond, not, List, [], ◌∷◌, ◌++◌, map, Option, None, Some, refl, sym, ap, ◌∙◌, inl}
use Rattle.pg_run.specs.pg_base.declared.id.FileId.{FileId}
use Rattle.pg_run.specs.pg_base.declared.policy.Policy.{Policy}
use Rattle.pg_run.specs.pg_base.declared.policy.Policy.TheVariants.{Last}
use Rattle.pg_run.specs.pg_base.declared.stamp.Stamp.{Stamp}
use Rattle.pg_run.specs.pg_intent.declared.key.IntentKey.TheVariants as intent_key
use Rattle.pg_run.specs.pg_intent.Intents.{ended}
use Rattle.pg_run.specs.pg_msg.declared.update.Update.TheVariants as update
use Rattle.pg_run.specs.pg_msg.declared.work.Work.{Work}
use Rattle.pg_run.specs.pg_msg.Work.{new_work, with_made}
use Rattle.pg_run.specs.pg_names.declared.attributes.Attributes.{Attributes}
use Rattle.pg_run.specs.pg_names.Names.{blank_own, is_dir}
use Rattle.pg_run.specs.pg_register.declared.place.Place.{Place}
use Rattle.pg_run.specs.Carried.{anew_takes, known_takes, patch_taken, patches_taken, struck_by, struck_takes}
use Rattle.pg_run.specs.Journal.{Born}
use Rattle.pg_run.specs.Took.{Take, take_of}
use Rattle.pg_run.specs.Took.Take.{Began, TookPlace}
use Rattle.pg_run.specs.Took.Taker.{InDir}
use Rattle.pg_run.specs.pg_store.declared.store.Store.{Store}
use Rattle.pg_run.specs.pg_store.Births.{draw_birth, with_birth}
use Rattle.pg_run.specs.pg_store.Store.{is_held}
use Rattle.pg_run.specs.pg_store.Wishes.{without_wish}
use Rattle.pg_run.specs.pg_pieces.Done.{Done, idle}
use Rattle.pg_run.specs.pg_calls.Forgetting.{bare_entry, begin_lost, begun_at, begun_with, dead_at, dirs_of, fill_lost, has_blank_place, is_wanted, last_listing, last_place, mark, marked_each, placed_in_root, placed_lost, root_place, strike_out, struck_out, unfilled, unwished}
use Rattle.pg_run.specs.pg_calls.Naming.{raised}
use Rattle.pg_run.proofs.theory_flood_pieces.Choices.{chosen}
use Rattle.law_contents.proofs.Arrivals.{Arrives, more_came, patch_none, quiet_arrives}
use Rattle.law_contents.proofs.Changes.{Alters, Core, Keeps-trans, alters_keeps, by_altered, core_at, keeps_alters, new_core}
use Rattle.law_contents.proofs.Handlers.{fill_quiet}
use Rattle.law_contents.proofs.Pieces.{begin_alters, birth_keeps, intents_keep, wishes_keep}
use Rattle.law_contents.proofs.Quiet.{Quiet, entry_quiet, make_place_quiet, quiet_idle, quiet_made, quiet_store, quiet_then, raise_quiet}
use Rattle.law_contents.proofs.Sending.{none_carry}
use Rattle.law_contents.proofs.Servers.{Came, IsServer, none_full, stands_begun, stands_same}
use Rattle.law_contents.proofs.Unmade.{fresh_unmade}
use Rattle.law_contents.proofs.Takes.{HasNone, both_none, each_none}

-- a directory that knew of a file takes a place
struck_none : (q id : FileId) (place : Place) (dirs : List FileId)
    → HasNone q (map (λ d. TookPlace (InDir d) id place) dirs)
struck_none q id place [] = refl
struck_none q id place (d ∷ dirs) = struck_none q id place dirs

known_none : (q id : FileId) (o : Option Place) → HasNone q (known_takes id o)
known_none q id None = refl
known_none q id (Some place) = refl

module _ {s : ℕ} {a : Store} {us : List Born} {p : FileId → Policy} {N : FileId → Type 0}
    {came : Came} (k : IsServer s a us p N came) (moment : ℕ) (id : FileId) where
  abbrev work : Work
  work = new_work moment 0

  abbrev Q : Done → Type 0
  Q d = Quiet us p N a work d

  -- it stands for what this brings, and that is no version
  abbrev Comes : Done → List Take → Type 0
  Comes d more = Arrives s a us p N came d more × ((q : FileId) → HasNone q more)

  -- ---- a filling replica

  placed_quiet : Q (placed_lost a id work)
  placed_quiet =
      chosen Q (has_blank_place a id) (placed_in_root id a work) (idle a work)
      (make_place_quiet us p N a id (root_place a moment id) work) (quiet_idle us p N a work)

  pub filled_quiet : Q (fill_lost a id work)
  filled_quiet =
      let d = placed_lost a id work in
      quiet_then us p N placed_quiet (fill_quiet us p N d.store d.work id)

  filled_comes : Comes (fill_lost a id work) (map take_of (fill_lost a id work).work.made ++ [])
  filled_comes =
      let d = fill_lost a id work in (
        quiet_arrives k moment 0 d filled_quiet [] (λ q. refl),
        λ q. both_none q (map take_of d.work.made) [] (filled_quiet.takes q) refl,
      )

  -- ---- a file is struck out

  marks_quiet : (place : Place) (dirs : List FileId) (b : Store) (w : Work)
      → Quiet us p N b w (marked_each b id place dirs w)
  marks_quiet place [] b w = quiet_idle us p N b w
  marks_quiet place (d ∷ dirs) b w =
      let one = mark id place b d w in
      quiet_then us p N (entry_quiet us p N b d (bare_entry id place) w)
      (marks_quiet place dirs one.store one.work)

  pub struck_quiet : (o : Option FileId) → Q (struck_out a id work o)
  struck_quiet None = quiet_idle us p N a work
  struck_quiet (Some dir) =
      let b = unwished a id in
      let dead = dead_at a moment id dir in
      let u = update.Place id dead in
      quiet_then us p N (quiet_store us p N a b work (wishes_keep a (without_wish a.wishes id)))
      (quiet_then us p N (quiet_made us p N b work u tt)
      (marks_quiet dead (dirs_of a.names id) b (with_made work u)))

  taken_none : (q : FileId) (o : Option FileId) → HasNone q (struck_by a moment id o)
  taken_none q None = refl
  taken_none q (Some dir) = struck_none q id (dead_at a moment id dir) (dirs_of a.names id)

  -- what was made is taken in the directories alone
  struck_comes : (o : Option FileId) → Comes (struck_out a id work o) (struck_by a moment id o)
  struck_comes o =
      let d = struck_out a id work o in
      let h = struck_quiet o in
      let made = map take_of d.work.made ++ [] in
      let more = struck_by a moment id o in
      let first = quiet_arrives k moment 0 d h [] (λ q. refl) in (
        record {
          server = first.server;
          last = first.last;
          files = first.files;
          order = first.order;
          held = first.held;
          stands = stands_same first.stands (more_came more came)
              (λ q. ap (λ (ts : List Stamp). ts ++ came q)
              (taken_none q o ∙ sym (both_none q (map take_of d.work.made) [] (h.takes q) refl)));
          none = first.none;
          sent = first.sent;
          tail = first.tail;
        },
        λ q. taken_none q o,
      )

  -- ---- a directory begins anew

  module _ (away : is_held a id ≡ false) (dir : is_dir id ≡ true) where
    abbrev FreshCore : Core
    FreshCore = new_core (a.births + 1) Last

    pub none : core_at a id ≡ None
    none = k.paired.away id away

    pub begins : (own : Attributes) → Alters a (begun_with a id own) id (Some FreshCore)
    begins own =
        keeps_alters
        (Keeps-trans (birth_keeps a) (intents_keep (with_birth a) (ended a.intents (intent_key.Fill id))))
        (begin_alters (unfilled (with_birth a) id) id (draw_birth a) Last own true
        (none_full k.paired id none))

    module _ (named : N id) (own : Attributes) (d : Done) (rest : Quiet us p N (begun_with a id own) work d) where
      abbrev More : Option Place → List Take
      More o = Began id ∷ known_takes id o ++ patches_taken a id

      begun_none : (q : FileId) (o : Option Place) → HasNone q (More o)
      begun_none q o =
          both_none q (known_takes id o) (patches_taken a id) (known_none q id o)
          (each_none q (patch_taken id) (patch_none q id) a.intents)

      begun_comes : (o : Option Place) → Comes d (map take_of d.work.made ++ More o)
      begun_comes o =
          let all = alters_keeps (begins own) rest.keeps in
          let takes = map take_of d.work.made ++ More o in
          let nothing = λ (q : FileId). both_none q (map take_of d.work.made) (More o) (rest.takes q) (begun_none q o) in (
            record {
              server = all.server;
              last = all.last;
              files = all.files;
              order = all.order;
              held = λ f c e. inl (by_altered (λ q x. (y : Core) → x ≡ Some y → N q) a d.store id
                  (Some FreshCore) all (λ y same. named) (λ q apart y same. k.held q y same) f c e);
              stands = stands_same
                  (stands_begun k.stands d.store id (a.births + 1) Last all none (fresh_unmade k id)
                  (sym (k.dirs id dir)))
                  (more_came takes came) (λ q. ap (λ (ts : List Stamp). ts ++ came q) (nothing q));
              none = rest.none;
              sent = rest.sent (none_carry us p N);
              tail = rest.tail (none_carry us p N);
            },
            nothing,
          )

    abbrev pub Own_of : Option Place → Attributes
    Own_of None = blank_own id
    Own_of (Some place) = record { place = place; flags = [] }

    pub at_quiet : (o : Option Place) → Quiet us p N (begun_with a id (Own_of o)) work (begun_at a id work o)
    at_quiet None =
        let b = begun_with a id (blank_own id) in
        make_place_quiet us p N b id (root_place b moment id) work
    at_quiet (Some place) = quiet_idle us p N (begun_with a id (record { place = place; flags = [] })) work

    anew_comes : (o : Option Place) → N id → Comes (raised id (begun_at a id work o))
        (map take_of (raised id (begun_at a id work o)).work.made ++ (Began id ∷ known_takes id o ++ patches_taken a id))
    anew_comes o named =
        let d = begun_at a id work o in
        begun_comes named (Own_of o) (raised id d)
        (quiet_then us p N (at_quiet o) (raise_quiet us p N d.store id d.work)) o

    wanted_by : (t : Bool) → is_wanted a id ≡ t
        → Comes (cond t (raised id (begun_at a id work (last_place a.names id))) (idle a work))
        (map take_of (cond t (raised id (begun_at a id work (last_place a.names id))) (idle a work)).work.made
        ++ cond t (Began id ∷ known_takes id (last_place a.names id) ++ patches_taken a id) [])
    wanted_by true e = anew_comes (last_place a.names id) (k.wanted id e away)
    wanted_by false e = (
      quiet_arrives k moment 0 (idle a work) (quiet_idle us p N a work) [] (λ q. refl),
      λ q. refl,
    )

  -- ---- what was lost

  abbrev pub Lost : Bool → Bool → Done
  Lost held dir = cond held (fill_lost a id work) (cond dir (begin_lost a id work) (strike_out a id work))

  abbrev pub Brought : Bool → Bool → List Take
  Brought held dir =
      cond (not held && not dir) [] (map take_of (Lost held dir).work.made)
      ++ cond held [] (cond dir (anew_takes a id) (struck_takes a moment id))

  -- A FORGET
  pub lost_comes : (held dir : Bool) → is_held a id ≡ held → is_dir id ≡ dir → Comes (Lost held dir) (Brought held dir)
  lost_comes true dir h e = filled_comes
  lost_comes false true h e = wanted_by h e (is_wanted a id) refl
  lost_comes false false h e = struck_comes (last_listing a.names id (dirs_of a.names id))
