-- What a server's input comes to, to the end of the event.
use Rattle.std.proofs.Common.{ℕ, ◌≡◌, ◌≤◌, Bool, true, false, cond, List, [], ◌∷◌, ◌++◌, drop, length, map, Option, Some, refl, sym, ap, subst, ◌∙◌, inl, inr, ◌⊎◌, arith}
use Rattle.pg_run.specs.pg_base.declared.id.FileId.{FileId}
use Rattle.pg_run.specs.pg_base.declared.policy.Policy.{Policy}
use Rattle.pg_run.specs.pg_base.declared.stamp.Stamp.{Stamp}
use Rattle.pg_run.specs.pg_call.declared.call.Call.{Call}
use Rattle.pg_run.specs.pg_call.declared.reply.Reply.{Reply}
use Rattle.pg_run.specs.pg_msg.declared.update.MadeVersion.{MadeVersion}
use Rattle.pg_run.specs.pg_msg.Work.{new_work}
use Rattle.pg_run.specs.Asking.{Asked}
use Rattle.pg_run.specs.Journal.{Born, born_at, born_in, versions_in}
use Rattle.pg_run.specs.Passed.{passed, passed_with}
use Rattle.pg_run.specs.Run.{brought, removed_then, took_after}
use Rattle.pg_run.specs.Took.{Take, stamps_taken, take_of}
use Rattle.pg_run.specs.pg_names.Names.{is_dir}
use Rattle.pg_run.specs.pg_store.declared.store.Store.{Store}
use Rattle.pg_run.specs.pg_store.Births.{birth_of}
use Rattle.pg_run.specs.pg_store.Seen.{server_of}
use Rattle.pg_run.specs.pg_store.Store.{is_before_clock_end}
use Rattle.pg_run.specs.pg_pieces.Done.{Done}
use Rattle.pg_run.specs.pg_checks.Answer.{Answer}
use Rattle.pg_run.specs.pg_calls.Calls.{do_call}
use Rattle.pg_run.specs.pg_server.declared.input.Input.TheVariants as input
use Rattle.pg_run.specs.pg_server.Local.{Effect, closed, done_of, effect, finished}
use Rattle.law_contents.proofs.Arrivals.{Arrives, more_came, quiet_arrives}
use Rattle.law_contents.proofs.Changes.{Core, IsOrdered, birth_in, birth_is, core_at}
use Rattle.law_contents.proofs.Ends.{Ends, closed_ends, finished_ends}
use Rattle.law_contents.proofs.Histories.{IsNextUpdate}
use Rattle.law_contents.proofs.Making.{Makes}
use Rattle.law_contents.proofs.Outcomes.{call_comes, policies_then}
use Rattle.law_contents.proofs.Quiet.{Quiet}
use Rattle.law_contents.proofs.Rules.{AreNames}
use Rattle.law_contents.proofs.Sending.{AllCarry}
use Rattle.law_contents.proofs.Servers.{AreShort, IsNamedBy, IsServer, Stands, came_of, stands_kept, stands_same}
use Rattle.law_contents.proofs.Takes.{HasNone, both_none, stamps_after}

-- ---- an event at which a server makes no version, or one

pub record IsPassive (s : ℕ) (a : Store) (us : List Born) (p : FileId → Policy)
    (N : FileId → Type 0) (done : Effect) (takes : List Take) : Type 0 where
  pub none : versions_in done.out.made ≡ []
  pub server : server_of done.store ≡ server_of a
  pub last : a.names.last ≤ done.store.names.last
  pub files : a.files ≤ done.store.files
  pub order : IsOrdered a.replicas → IsOrdered done.store.replicas
  pub held : (f : FileId) (k : Core) → core_at done.store f ≡ Some k → IsNamedBy s done.store N f
  pub stands : Stands s done.store us p (came_of takes)
  pub sent : AllCarry us p N done.out.sent

pub record IsMaking (s : ℕ) (a : Store) (us : List Born) (p q : FileId → Policy)
    (N : FileId → Type 0) (done : Effect) (takes : List Take) : Type 0 where
  pub version : Born
  pub core : Core
  pub here : core_at done.store version.made.file ≡ Some core
  pub born : core.birth ≡ version.birth
  pub made : born_in done.store done.out.made ≡ version ∷ []
  pub next : IsNextUpdate us version
  pub maker : version.made.stamp.server ≡ s
  pub server : server_of done.store ≡ server_of a
  pub last : a.names.last ≤ done.store.names.last
  pub files : a.files ≤ done.store.files
  pub order : IsOrdered a.replicas → IsOrdered done.store.replicas
  pub dated : version.made.stamp.time ≤ done.store.names.last
  pub short : AreShort (version ∷ us) q
  pub named : IsNamedBy s done.store N version.made.file
  pub held : (f : FileId) (k : Core) → core_at done.store f ≡ Some k → IsNamedBy s done.store N f
  pub stands : Stands s done.store (version ∷ us) q (came_of takes)
  pub sent : AllCarry (version ∷ us) q N done.out.sent
  pub same : (f : FileId) → N f → q f ≡ p f
  pub rest : (f : FileId) → IsNamedBy s done.store N f ⊎ (q f ≡ p f)
  pub dirs : (f : FileId) → is_dir f ≡ true → q f ≡ p f

-- more ids are given out since
named_later : (s : ℕ) (b c : Store) (N : FileId → Type 0) (f : FileId) → b.files ≤ c.files
    → IsNamedBy s b N f → IsNamedBy s c N f
named_later s b c N f up (inl named) = inl named
named_later s b c N f up (inr own) = let low = own.1 in inr (own.0, omega arith)

-- and other policies stay or are of what is named
rest_later : (s : ℕ) (b c : Store) (N : FileId → Type 0) (f : FileId) (P : Type 0)
    → b.files ≤ c.files → IsNamedBy s b N f ⊎ P → IsNamedBy s c N f ⊎ P
rest_later s b c N f P up (inl named) = inl (named_later s b c N f up named)
rest_later s b c N f P up (inr same) = inr same

module _ {s : ℕ} {a : Store} {us : List Born} {p : FileId → Policy} {N : FileId → Type 0}
    (before : List Take) (k : IsServer s a us p N (came_of before)) where
  -- where this is left of what came before
  abbrev ComesBehind : List Take → Done → List Take → Type 0
  ComesBehind left d more = Arrives s a us p N (came_of left) d more

  abbrev Comes : Done → List Take → Type 0
  Comes d more = ComesBehind before d more

  -- ---- the end of an event at which none is made

  ends_passive : (left : List Take) (d : Done) (more : List Take) → ComesBehind left d more
      → (done : Effect) → Ends d.store d.work done → (takes : List Take)
      → ((q : FileId) → stamps_taken q takes ≡ stamps_taken q more ++ stamps_taken q left)
      → IsPassive s a us p N done takes
  ends_passive left d more h done e takes same =
      let low = h.last in
      let high = e.keeps.last in
      let few = h.files in
      let many = e.keeps.files in
      let stands = stands_same (stands_kept h.stands done.store e.keeps) (came_of takes) same in
      record {
        none = e.made ∙ h.none;
        server = e.keeps.server ∙ h.server;
        last = omega arith;
        files = omega arith;
        order = λ z. e.keeps.order (h.order z);
        held = λ f c is. named_later s d.store done.store N f many
            (h.held f c (sym (e.keeps.each f) ∙ is));
        stands = stands;
        sent = e.sends s us p N (came_of takes) stands h.sent h.tail;
      }

  came_then : (gone : List ℕ) (left : List Take) (reply : Option Reply) (d : Done) (more : List Take)
      → AreNames (drop (length d.work.made) (closed reply d).out.made) → (q : FileId)
      → stamps_taken q (passed_with gone (passed gone (more ++ left))
      (drop (length d.work.made) (closed reply d).out.made))
      ≡ stamps_taken q more ++ stamps_taken q left
  came_then gone left reply d more are q =
      stamps_after q gone more left
      (drop (length d.work.made) (closed reply d).out.made) are

  -- where the first effect and what it brings go by whether the input takes effect, and these are
  -- removed then
  module _ (gone : List ℕ) (left : List Take) (reply : Option Reply) (first : Bool → Done)
      (more : Bool → List Take) where
    abbrev pub done_by : Bool → Effect
    done_by t = cond t (closed reply (first t)) (finished reply (first t))

    abbrev pub takes_by : Bool → List Take
    takes_by t =
        cond t (passed_with gone (passed gone (more t ++ left))
        (drop (length (first t).work.made) (done_by t).out.made)) before

    pub passive_by : (t : Bool) → (t ≡ true → ComesBehind left (first true) (more true))
        → Comes (first false) []
        → IsPassive s a us p N (done_by t) (takes_by t)
    passive_by true comes none =
        let d = first true in
        let e = closed_ends d.store d.work reply in
        ends_passive left d (more true) (comes refl) (closed reply d) e (takes_by true)
        (came_then gone left reply d (more true) e.behind)
    passive_by false comes none =
        let d = first false in
        ends_passive before d [] none (finished reply d) (finished_ends d.store d.work reply) before
        (λ q. refl)

  -- nothing came
  pub comes_none : (d : Done) (more : List Take) → Comes d more → ((q : FileId) → HasNone q more)
      → Comes d []
  comes_none d more h none = record {
    server = h.server;
    last = h.last;
    files = h.files;
    order = h.order;
    held = h.held;
    stands = stands_same h.stands (more_came [] (came_of before))
        (λ q. sym (ap (λ (ts : List Stamp). ts ++ stamps_taken q before) (none q)));
    none = h.none;
    sent = h.sent;
    tail = h.tail;
  }

  pub quiet_both : (now from : ℕ) (d : Done) → Quiet us p N a (new_work now from) d
      → Comes d (map take_of d.work.made ++ []) × Comes d []
  quiet_both now from d h =
      let comes = quiet_arrives k now from d h [] (λ q. refl) in (
        comes,
        comes_none d (map take_of d.work.made ++ []) comes
            (λ q. both_none q (map take_of d.work.made) [] (h.takes q) refl),
      )

  -- ---- a call

  module _ (wants : Asked) (moment : ℕ) (asked : Call) where
    abbrev r : Answer
    r = do_call a asked (new_work moment 0)

    -- who is removed then, and what the call brings
    abbrev Gone : List ℕ
    Gone = removed_then a (input.Call moment asked)

    abbrev Brought : List Take
    Brought = brought a wants (input.Call moment asked)

    abbrev CallDone : Bool → Effect
    CallDone t = done_by Gone before (Some r.reply) (λ b. done_of r) (λ b. Brought) t

    abbrev CallTakes : Bool → List Take
    CallTakes t = takes_by Gone before (Some r.reply) (λ b. done_of r) (λ b. Brought) t

    born_same : (done : Store) (u : Born) (us_made : List MadeVersion) → us_made ≡ u.made ∷ []
        → birth_of done u.made.file ≡ u.birth → map (born_at done) us_made ≡ u ∷ []
    born_same done u made is birth =
        ap (map (born_at done)) is
        ∙ ap (λ n. record { birth = n; made = u.made } ∷ []) birth

    makes_making : (q : FileId → Policy) → Makes s a us p q N (came_of before) r
        → ((f : FileId) → stamps_taken f Brought ≡ stamps_taken f (map take_of r.work.made))
        → IsMaking s a us p q N (CallDone true) (CallTakes true)
    makes_making q m same =
        let d = done_of r in
        let done = closed (Some r.reply) d in
        let e = closed_ends d.store d.work (Some r.reply) in
        let low = m.last in
        let high = e.keeps.last in
        let few = m.files in
        let many = e.keeps.files in
        let early = m.dated in
        let u = m.version in
        let here = e.keeps.each u.made.file ∙ m.here in
        let stands = stands_same (stands_kept m.stands done.store e.keeps)
        (came_of (CallTakes true))
        (λ f. came_then Gone before (Some r.reply) d Brought e.behind f
        ∙ ap (λ (ts : List Stamp). ts ++ stamps_taken f before)
        (same f ∙ m.takes f)) in
        record {
          version = u;
          core = m.core;
          here = here;
          born = m.born;
          made = born_same done.store u (versions_in done.out.made) (e.made ∙ m.made)
              (birth_is done.store u.made.file ∙ ap birth_in here ∙ m.born);
          next = m.next;
          maker = m.maker;
          server = e.keeps.server ∙ m.server;
          last = omega arith;
          files = omega arith;
          order = λ z. e.keeps.order (m.order z);
          dated = omega arith;
          short = m.short;
          named = named_later s d.store done.store N u.made.file many
              (m.held u.made.file m.core m.here);
          held = λ f c is. named_later s d.store done.store N f many
              (m.held f c (sym (e.keeps.each f) ∙ is));
          stands = stands;
          sent = e.sends s (u ∷ us) q N (came_of (CallTakes true)) stands m.sent m.tail;
          same = m.same;
          rest = λ f. rest_later s d.store done.store N f (q f ≡ p f) many (m.rest f);
          dirs = m.dirs;
        }

    abbrev MakesBy : (FileId → Policy) → Bool → Type 0
    MakesBy q t = IsMaking s a us p q N (CallDone t) (CallTakes t)

    -- A CALL COMES, and the event ends
    abbrev pub CallOutcome : Type 0
    CallOutcome =
        (IsPassive s a us p N (effect a (input.Call moment asked))
        (took_after a wants before (input.Call moment asked))
        × ((f : FileId) → policies_then p asked r.reply f ≡ p f))
        ⊎ IsMaking s a us p (policies_then p asked r.reply) N
        (effect a (input.Call moment asked)) (took_after a wants before (input.Call moment asked))

    pub call_ended : CallOutcome
    call_ended = elim (call_comes k moment wants asked) [
      | inl still ↦ inl (
        passive_by Gone before (Some r.reply) (λ b. done_of r) (λ b. Brought) (is_before_clock_end a)
            (λ e. still.0.0) (comes_none (done_of r) Brought still.0.0 still.0.1),
        still.1,
      )
      | inr makes ↦ inr (subst (MakesBy (policies_then p asked r.reply)) (sym makes.0.time)
          (makes_making (policies_then p asked r.reply) makes.0 makes.1))
    ]
