-- A client makes a thing: its id was not given out before, a replica begins, and a file begins with
-- a version.
use Rattle.std.proofs.Common.{ℕ, ◌≡◌, ◌<◌, ◌≤◌, ◌+◌, ◌^◌, Bool, true, false, cond, length, List, [], ◌∷◌, ◌++◌, map, Option, None, Some, refl, sym, ap, subst, ◌∙◌, inl, inr, ◌⊎◌, arith}
use Rattle.std.proofs.lemmas.List.{map-append}
use Rattle.pg_run.specs.pg_base.declared.id.FileId.{FileId}
use Rattle.pg_run.specs.pg_base.declared.id.Kind.{Kind}
use Rattle.pg_run.specs.pg_base.declared.policy.Policy.{Policy}
use Rattle.pg_run.specs.pg_base.declared.stamp.Stamp.{Stamp}
use Rattle.pg_run.specs.pg_base.Id.{is_same_file}
use Rattle.pg_run.specs.pg_base.Version.{VersionValue}
use Rattle.pg_run.proofs.pg_base.Orders.{is_same_file-refl, is_same_file-true}
use Rattle.pg_run.specs.pg_content.Content.{Among, body_limit}
use Rattle.pg_run.specs.pg_content.History.{body_of}
use Rattle.pg_run.specs.pg_call.declared.reply.Reply.TheVariants as reply
use Rattle.pg_run.specs.pg_msg.declared.update.MadeVersion.{MadeVersion}
use Rattle.pg_run.specs.pg_msg.declared.update.Update.{Update}
use Rattle.pg_run.specs.pg_msg.declared.update.Update.TheVariants as update
use Rattle.pg_run.specs.pg_msg.declared.work.Work.{Work}
use Rattle.pg_run.specs.pg_msg.Work.{new_work}
use Rattle.pg_run.specs.pg_names.Names.{blank_own, is_dir, is_dir_kind}
use Rattle.pg_run.specs.pg_replica.declared.replica.Replica.{Replica}
use Rattle.pg_run.specs.Journal.{Born, made_for, versions_in}
use Rattle.pg_run.specs.Took.{stamps_taken, take_of}
use Rattle.pg_run.specs.Took.Take.{Began}
use Rattle.pg_run.specs.pg_store.declared.store.Store.{Store}
use Rattle.pg_run.specs.pg_store.Births.{draw_birth, with_birth}
use Rattle.pg_run.specs.pg_store.Store.{is_before_clock_end, replica_at, write}
use Rattle.pg_run.proofs.pg_store.InTime.{births_in_time}
use Rattle.pg_run.specs.pg_pieces.Done.{Done, idle}
use Rattle.pg_run.specs.pg_checks.declared.checks.NewName.{NewName}
use Rattle.pg_run.specs.pg_checks.Answer.{Answer, answer}
use Rattle.pg_run.specs.pg_calls.Making.{drawn, first_ranges, make_place, version_of}
use Rattle.pg_run.specs.pg_calls.Naming.{begun, next_id, place_in, with_first_version, with_id, with_thing}
use Rattle.law_contents.proofs.Arrivals.{Arrives, more_came}
use Rattle.law_contents.proofs.Changes.{Alters, Core, alters_keeps, by_altered, core_at, core_of, keeps_alters, new_core, replica_of_core}
use Rattle.law_contents.proofs.Histories.{update_of}
use Rattle.law_contents.proofs.Making.{Makes, New, drawn_later, made_next, made_short, made_stands, one_take, stamp_fresh}
use Rattle.law_contents.proofs.Pieces.{begin_alters, birth_keeps, id_keeps}
use Rattle.law_contents.proofs.Quiet.{Quiet, make_place_quiet, quiet_then, raise_quiet}
use Rattle.law_contents.proofs.Ranges.{first_are, first_short}
use Rattle.law_contents.proofs.Sending.{none_carry}
use Rattle.law_contents.proofs.Servers.{AreShort, Came, IsNamedBy, IsServer, Stands, none_full, stands_begun, stands_policy, stands_same}
use Rattle.law_contents.proofs.Unmade.{unnamed_unmade}
use Rattle.law_contents.proofs.Takes.{HasNone, both_none, stamps_joined}
use Rattle.law_contents.proofs.Versions.{WrittenCore, write_alters, write_last}

one_more : (n f g : ℕ) → f ≤ n → f ≡ g → g ≡ n + 1 → ⊥
one_more n f g low same e = absurd (omega arith)

-- a version behind what was made
pub versions_more : (us : List Update) (u : MadeVersion)
    → versions_in (us ++ update.Version u ∷ []) ≡ versions_in us ++ u ∷ []
versions_more [] u = refl
versions_more (update.Version v ∷ us) u =
    ap (λ (vs : List MadeVersion). v ∷ vs) (versions_more us u)
versions_more (update.Place file place ∷ us) u = versions_more us u
versions_more (update.Flag file flag ∷ us) u = versions_more us u

stamps_more : (f : FileId) (us : List Update) (u : MadeVersion)
    → stamps_taken f (map take_of (us ++ update.Version u ∷ []))
    ≡ stamps_taken f (map take_of us) ++ stamps_taken f (map take_of (update.Version u ∷ []))
stamps_more f us u =
    ap (stamps_taken f) (map-append take_of us (update.Version u ∷ []))
    ∙ stamps_joined f (map take_of us) (map take_of (update.Version u ∷ []))

module _ {s : ℕ} {a : Store} {us : List Born} {p : FileId → Policy} {N : FileId → Type 0}
    {came : Came} (k : IsServer s a us p N came) (moment : ℕ) (kind : Kind) (policy : Policy)
    (new : NewName) where
  abbrev id : FileId
  id = next_id a kind

  abbrev work : Work
  work = new_work moment 0

  abbrev Thing : Done
  Thing = with_thing (with_id a) work id policy new

  abbrev FreshCore : Core
  FreshCore = new_core (a.births + 1) policy

  -- it was not given out before
  pub unnamed : N id → ⊥
  unnamed named = one_more a.files id.number id.number (k.own id named k.server) refl refl

  none_by : (o : Option Core) → core_at a id ≡ o → o ≡ None
  none_by None e = refl
  none_by (Some c) e = absurd (unnamed (k.held id c e))

  pub not_held : core_at a id ≡ None
  not_held = none_by (core_at a id) refl

  abbrev begun_store : Store
  begun_store = begun (with_id a) id policy

  -- the replica begins
  begins : Alters (with_id a) begun_store id (Some FreshCore)
  begins =
      keeps_alters (birth_keeps (with_id a))
      (begin_alters (with_birth (with_id a)) id (draw_birth (with_id a)) policy (blank_own id) true
      (none_full k.paired id not_held))

  -- and has a place and a flag
  pub thing_quiet : (vs : List Born) (q : FileId → Policy) (M : FileId → Type 0)
      → Quiet vs q M begun_store work Thing
  thing_quiet vs q M =
      let place = place_in (with_id a) moment new in
      let d = make_place id place (idle begun_store work) in
      quiet_then vs q M (make_place_quiet vs q M begun_store id place work)
      (raise_quiet vs q M d.store id d.work)

  pub thing_alters : Alters (with_id a) Thing.store id (Some FreshCore)
  thing_alters = alters_keeps begins (thing_quiet us p N).keeps

  pub all_alters : Alters a Thing.store id (Some FreshCore)
  all_alters = keeps_alters (id_keeps a) thing_alters

  given : id.number ≤ Thing.store.files
  given = thing_alters.files

  -- it is given out now
  pub thing_held : (b : Store) → Thing.store.files ≤ b.files → (f : FileId) (c : Core)
      → core_at Thing.store f ≡ Some c → IsNamedBy s b N f
  thing_held b up =
      let few = given in
      by_altered (λ f o. (c : Core) → o ≡ Some c → IsNamedBy s b N f) a Thing.store id
      (Some FreshCore) all_alters (λ c e. inr (k.server, omega arith))
      (λ f apart c e. inl (k.held f c e))

  -- ---- a directory

  pub dir_none : (f : FileId) → HasNone f (map take_of Thing.work.made ++ Began id ∷ [])
  dir_none f =
      both_none f (map take_of Thing.work.made) (Began id ∷ []) ((thing_quiet us p N).takes f) refl

  pub dir_arrives : policy ≡ p id
      → Arrives s a us p N came Thing (map take_of Thing.work.made ++ Began id ∷ [])
  dir_arrives same =
      let q = thing_quiet us p N in
      record {
        server = all_alters.server;
        last = all_alters.last;
        files = all_alters.files;
        order = all_alters.order;
        held = thing_held Thing.store (omega arith);
        stands = stands_same
            (stands_begun k.stands Thing.store id (a.births + 1) policy all_alters not_held
            (λ m l by. unnamed_unmade k id unnamed m l) same)
            (more_came (map take_of Thing.work.made ++ Began id ∷ []) came)
            (λ f. ap (λ (ts : List Stamp). ts ++ came f)
            (dir_none f));
        none = q.none;
        sent = q.sent (none_carry us p N);
        tail = q.tail (none_carry us p N);
      }

  -- ---- a file

  -- its policy is that of the call
  abbrev pub policies_with : FileId → Policy
  policies_with f = cond (is_same_file id f) policy (p f)

  same_by : (f : FileId) (t : Bool) → is_same_file id f ≡ t → N f → cond t policy (p f) ≡ p f
  same_by f true e named = absurd (unnamed (subst N (sym (is_same_file-true id f e)) named))
  same_by f false e named = refl

  same_named : (f : FileId) → N f → policies_with f ≡ p f
  same_named f named = same_by f (is_same_file id f) refl named

  module _ (in_time : is_before_clock_end a ≡ true) (is_file : is_dir_kind kind ≡ false) where
    -- it is no directory
    dir_by : (f : FileId) (t : Bool) → is_same_file id f ≡ t → is_dir f ≡ true → cond t policy (p f) ≡ p f
    dir_by f true e h =
        let dir : is_dir id ≡ true = ap is_dir (is_same_file-true id f e) ∙ h in
        absurd (let z : false ≡ true = sym is_file ∙ dir in cc)
    dir_by f false e h = refl

    abbrev First : Answer
    First = answer (with_first_version id Thing) (reply.Made id)

    thing_stands : Stands s Thing.store us policies_with came
    thing_stands =
        stands_begun
        (stands_policy k.stands policies_with (λ f c e. same_named f (k.held f c e))
        (λ f m l. let r = update_of f m us l in
        same_named f (subst N (sym r.2) (k.named r.0 r.1))))
        Thing.store id (a.births + 1) policy all_alters not_held
        (λ m l by. unnamed_unmade k id unnamed m l)
        (sym (ap (λ t. cond t policy (p id)) (is_same_file-refl id)))

    short_with : AreShort us policies_with
    short_with f m l =
        let r = update_of f m us l in
        let same = same_named f (subst N (sym r.2) (k.named r.0 r.1)) in
        let P : Policy → Type 0 = (λ x. length (body_of x (made_for f us) m.stamp) ≤ body_limit) in
        subst P (sym same) (k.short f m l)

    there : (x : Replica) × (replica_at Thing.store id ≡ Some x) × (core_of x ≡ FreshCore)
    there = replica_of_core Thing.store id FreshCore all_alters.here

    abbrev stamp : Stamp
    stamp = drawn Thing.store Thing.work.now

    later : Thing.store.names.last < stamp.time
    later = drawn_later Thing.work.now Thing.store.names.last

    own : stamp.server ≡ s
    own = all_alters.server ∙ k.server

    fresh : (v : Born) → Among v us → v.made.stamp ≡ stamp → ⊥
    fresh = stamp_fresh k stamp own (let up = all_alters.last in let up_to = later in omega arith)

    few_births : there.0.birth < 2 ^ 64
    few_births =
        let most = births_in_time a in_time in
        let same = ap (λ (c : Core). c.birth) there.2 in
        omega arith

    -- it has no version yet
    no_head : (v : VersionValue) → Among v there.0.content.heads → Thing.store.names.last < 2 ^ 63
    no_head v l =
        absurd (subst (λ (c : Core). Among v c.content.heads) there.2 l)

    abbrev Wrote : Store
    Wrote = write Thing.store id stamp first_ranges

    wrote_held : (f : FileId) (c : Core) → core_at Wrote f ≡ Some c → IsNamedBy s Wrote N f
    wrote_held =
        let alters = write_alters Thing.store id there.0 there.1 stamp first_ranges in
        let up = alters.files in
        let low = given in
        by_altered (λ f o. (c : Core) → o ≡ Some c → IsNamedBy s Wrote N f) Thing.store Wrote id
        (Some (WrittenCore Thing.store id there.0 there.1 stamp first_ranges)) alters
        (λ c e. inr (k.server, omega arith))
        (λ f apart c e. thing_held Wrote up f c e)

    rest_by : (f : FileId) (t : Bool) → is_same_file id f ≡ t
        → IsNamedBy s Wrote N f ⊎ (cond t policy (p f) ≡ p f)
    rest_by f true e =
        let P : FileId → Type 0 = (λ g. IsNamedBy s Wrote N g) in
        let up = (write_alters Thing.store id there.0 there.1 stamp first_ranges).files in
        let low = given in
        inl (subst P (is_same_file-true id f e) (inr (k.server, omega arith)))
    rest_by f false e = inr refl

    -- A CLIENT MAKES A FILE
    pub first_makes : Makes s a us p policies_with N came First
    first_makes =
        let x = there.0 in
        let is = there.1 in
        let u = version_of Thing.store id stamp first_ranges in
        let q = thing_quiet us p N in
        let alters = write_alters Thing.store id x is stamp first_ranges in
        let low = all_alters.last in
        let high = alters.last in
        let few = all_alters.files in
        let many = alters.files in
        let version =
        New thing_stands k.made k.few id x is few_births no_head stamp own later fresh first_ranges
        first_are in
        let made : versions_in (Thing.work.made ++ update.Version u ∷ []) ≡ u ∷ [] =
        versions_more Thing.work.made u ∙ ap (λ (vs : List MadeVersion). vs ++ u ∷ []) q.none in
        record {
          version = version;
          core = WrittenCore Thing.store id x is stamp first_ranges;
          time = in_time;
          here = alters.here;
          born = refl;
          made = made;
          takes = λ f. stamps_more f Thing.work.made u
              ∙ ap (λ (ts : List Stamp). ts ++ stamps_taken f (map take_of (update.Version u ∷ [])))
              (q.takes f) ∙ one_take f u;
          next = made_next thing_stands k.made k.few id x is few_births no_head stamp own later
              fresh first_ranges first_are;
          maker = own;
          server = all_alters.server;
          last = omega arith;
          files = omega arith;
          order = λ z. alters.order (all_alters.order z);
          dated = write_last Thing.store id x is stamp first_ranges;
          short = made_short thing_stands k.made k.few id x is few_births no_head stamp own later
              fresh first_ranges first_are short_with (first_short x.content
              (ap (λ (c : Core). c.content.heads) there.2));
          held = wrote_held;
          stands = made_stands thing_stands k.made k.few id x is few_births no_head stamp own later
              fresh first_ranges first_are;
          sent = (thing_quiet (version ∷ us) policies_with N).sent
              (none_carry (version ∷ us) policies_with N);
          tail = (thing_quiet (version ∷ us) policies_with N).tail
              (none_carry (version ∷ us) policies_with N);
          same = same_named;
          rest = λ f. rest_by f (is_same_file id f) refl;
          dirs = λ f h. dir_by f (is_same_file id f) refl h;
        }
