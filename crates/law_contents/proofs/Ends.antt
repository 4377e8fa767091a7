-- How an event ends: the house rules run, intentions end and begin, and what was touched or linked
-- is sent. No content changes then.
use Rattle.std.proofs.Common.{ℕ, ◌≡◌, true, List, [], ◌∷◌, ◌++◌, drop, length, option_map, Option, refl, sym, ap, subst, ◌∙◌, arith}
use Rattle.std.proofs.lemmas.List.{append-nil, append_assoc}
use Rattle.std.proofs.lemmas.List.Elements.{All-append}
use Rattle.std.proofs.Math.Seq.{drop-append_seam}
use Rattle.pg_run.specs.pg_base.declared.id.FileId.{FileId}
use Rattle.pg_run.specs.pg_base.declared.policy.Policy.{Policy}
use Rattle.pg_run.specs.pg_call.declared.reply.Reply.{Reply}
use Rattle.pg_run.specs.pg_edges.declared.key.Key.TheVariants as key
use Rattle.pg_run.specs.pg_msg.declared.update.Update.{Update}
use Rattle.pg_run.specs.pg_msg.declared.update.Update.TheVariants as update
use Rattle.pg_run.specs.pg_msg.declared.work.Work.{Work}
use Rattle.pg_run.specs.pg_msg.Work.{with_made}
use Rattle.pg_run.specs.pg_names.Names.{NamesValue, is_full}
use Rattle.pg_run.specs.pg_house.House.{house}
use Rattle.pg_run.proofs.pg_house.Fullness.{rules_full}
use Rattle.pg_run.specs.pg_house.Work.{state_of}
use Rattle.pg_run.specs.pg_replica.Replicas.{ByFile, replica_in}
use Rattle.pg_run.specs.Journal.{Born, versions_in}
use Rattle.pg_run.specs.pg_store.declared.store.Store.{Store}
use Rattle.pg_run.specs.pg_store.Store.{is_newer_flag, with_names}
use Rattle.pg_run.specs.pg_pieces.Done.{Done, idle}
use Rattle.pg_run.specs.pg_cells.Finish.{finish}
use Rattle.pg_run.specs.pg_pieces.Golds.{is_goldless}
use Rattle.pg_run.specs.pg_pieces.Making.{own_next, raise_flag}
use Rattle.pg_run.specs.pg_cells.Sending.{is_chosen}
use Rattle.pg_run.specs.pg_cells.Settling.{rules, settle}
use Rattle.pg_run.proofs.pg_pieces.News.{news_made}
use Rattle.pg_run.proofs.pg_cells.Settled.{settle_keeps}
use Rattle.pg_run.specs.pg_intentions.Beginning.{begin_end}
use Rattle.pg_run.specs.pg_intentions.Requests.{ask_begun}
use Rattle.pg_run.proofs.pg_intentions.Steady.{IsSteady, begin_end_stays}
use Rattle.pg_run.specs.pg_server.Local.{Effect, closed, finished}
use Rattle.pg_run.proofs.theory_flood_pieces.Front.{house_sent, house_tail}
use Rattle.pg_run.proofs.theory_flood_pieces.Settling.{raised_work}
use Rattle.law_contents.proofs.Asking.{begun_carry}
use Rattle.law_contents.proofs.Changes.{IsOrdered, Keeps, Keeps-refl, Keeps-trans, core_of}
use Rattle.law_contents.proofs.Pieces.{flag_keeps, names_keep, touches_keep}
use Rattle.law_contents.proofs.Rules.{AreNames, both_names, house_makes, places_names}
use Rattle.law_contents.proofs.Sending.{AllCarry, CarriesSent, more_carry}
use Rattle.law_contents.proofs.Servers.{Came, Stands}
use Rattle.law_contents.proofs.Takes.{same_versions}

-- after this was done the event ended so
pub record Ends (b : Store) (work : Work) (done : Effect) : Type 1 where
  pub keeps : Keeps b done.store
  pub made : versions_in done.out.made ≡ versions_in work.made
  pub behind : AreNames (drop (length work.made) done.out.made)
  pub sends : (s : ℕ) (us : List Born) (p : FileId → Policy) (N : FileId → Type 0) (came : Came)
      → Stands s done.store us p came → AllCarry us p N work.sent → AllCarry us p N work.tail
      → AllCarry us p N done.out.sent

none_behind : (us : List Update) → AreNames (drop (length us) us)
none_behind [] = tt
none_behind (u ∷ us) = none_behind us

-- what is steady is kept
pub steady_keeps : (a : Store) (v : Work) (d : Done) → IsSteady a v d → Keeps a d.store
steady_keeps a v d k =
    let same = ap (λ (names : NamesValue). names.last) k.names in
    let files = k.files in
    record {
      server = ap (λ (names : NamesValue). names.server) k.names;
      last = omega arith;
      files = omega arith;
      order = subst IsOrdered (sym k.replicas);
      full = λ f h. ap (λ (names : NamesValue). is_full names f) k.names ∙ h;
      each = λ f. ap (λ (rs : ByFile). option_map core_of (replica_in rs f)) k.replicas;
      view = ap (λ (names : NamesValue). names.removed) k.names;
      notes = k.announced;
    }

-- ---- the rules run, and golds are raised

-- from this store and this work it came to that: names were made, and nothing was sent
pub record Settles (b : Store) (work : Work) (d : Done) : Type 0 where
  pub keeps : Keeps b d.store
  pub names : List Update
  pub are : AreNames names
  pub made : d.work.made ≡ work.made ++ names
  pub sent : d.work.sent ≡ work.sent
  pub tail : d.work.tail ≡ work.tail

module _ (b : Store) (work : Work) where
  abbrev SoFar : Store → Work → Type 0
  SoFar c w = Settles b work (idle c w)

  rules_settle : (c : Store) (w : Work) → SoFar c w → SoFar (rules c w).store (rules c w).work
  rules_settle c w h =
      let st = state_of c.names w in
      let behind_names = (house w.now st).names in
      let behind_keys = drop (length w.touched) (house w.now st).work.touched in
      let k = house_makes w.now st in
      record {
        keeps = Keeps-trans h.keeps
            (Keeps-trans (names_keep c behind_names k.server_is k.removed_is k.up (λ f g. rules_full w.now st f ∙ g))
            (touches_keep (with_names c behind_names) behind_keys));
        names = h.names ++ k.places;
        are = both_names h.names k.places h.are (places_names k.places k.are);
        made = k.made ∙ ap (λ us. us ++ k.places) h.made ∙ append_assoc work.made h.names k.places;
        sent = house_sent w.now c.names w ∙ h.sent;
        tail = house_tail w.now c.names w ∙ h.tail;
      }

  raise_settles : (c : Store) (file : FileId) (w : Work) → is_goldless c file ≡ true → SoFar c w
      → SoFar (raise_flag c file w).store (raise_flag c file w).work
  raise_settles c file w is h =
      let flag = own_next c file true in
      let u = update.Flag file flag in
      let v = with_made w u in
      let news = is_newer_flag c file flag in
      record {
        keeps = Keeps-trans h.keeps (flag_keeps c file flag);
        names = h.names ++ u ∷ [];
        are = both_names h.names (u ∷ []) h.are tt;
        made = news_made news v file (key.Flag flag.server) ∙ ap (λ us. us ++ u ∷ []) h.made
            ∙ append_assoc work.made h.names (u ∷ []);
        sent = (raised_work c file w).sent ∙ h.sent;
        tail = (raised_work c file w).tail ∙ h.tail;
      }

  pub settled_is : Settles b work (settle b work)
  settled_is = settle_keeps SoFar rules_settle raise_settles b work (record {
    keeps = Keeps-refl b;
    names = [];
    are = tt;
    made = sym (append-nil work.made);
    sent = refl;
    tail = refl;
  })

-- ---- what was done, and then what is sent at the end

module _ (b : Store) (work : Work) (reply : Option Reply) where
  -- no house rule runs, and no intention begins
  pub finished_ends : Ends b work (finished reply (idle b work))
  finished_ends = record {
    keeps = Keeps-refl b;
    made = refl;
    behind = none_behind work.made;
    sends = λ s us p N came k h t.
        let end = ask_begun b (finish b work) in
        All-append (CarriesSent us p N) end.sent end.tail
        (begun_carry us p N b (finish b work)
        (more_carry k N (is_chosen work.touched work.linked) work.sent h)) t;
  }

  abbrev left : Done
  left = settle b work

  abbrev ended : Done
  ended = begin_end left.store left.work

  steady : IsSteady left.store left.work ended
  steady = begin_end_stays left.store left.work

  -- the house rules run, and intentions end and begin
  pub closed_ends : Ends b work (closed reply (idle b work))
  closed_ends =
      let k = settled_is b work in
      let made : ended.work.made ≡ work.made ++ k.names = steady.made ∙ k.made in
      record {
        keeps = Keeps-trans k.keeps (steady_keeps left.store left.work ended steady);
        made = ap versions_in made ∙ same_versions work.made k.names k.are;
        behind = subst AreNames
            (sym (ap (drop (length work.made)) made ∙ drop-append_seam work.made k.names)) k.are;
        sends = λ s us p N came l h t.
            let end = ask_begun ended.store (finish ended.store ended.work) in
            All-append (CarriesSent us p N) end.sent end.tail
            (begun_carry us p N ended.store (finish ended.store ended.work)
            (more_carry l N (is_chosen ended.work.touched ended.work.linked) ended.work.sent
            (subst (AllCarry us p N) (sym (steady.sent ∙ k.sent)) h)))
            (subst (AllCarry us p N) (sym (steady.tail ∙ k.tail)) t);
      }
