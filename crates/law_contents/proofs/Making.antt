-- A version is made of what is held of a file, as a client writes it.
use Rattle.std.proofs.Common.{ℕ, ◌≡◌, ◌<◌, ◌≤◌, ◌+◌, ◌^◌, true, cond, length, max, min, List, [], ◌∷◌, ◌++◌, map, Option, Some, Ok, option_map, refl, sym, ap, subst, ◌∙◌, inl, inr, ◌⊎◌, arith}
use Rattle.std.proofs.lemmas.List.{append-nil}
use Rattle.pg_run.specs.pg_base.declared.id.FileId.{FileId}
use Rattle.pg_run.specs.pg_base.declared.policy.Policy.{Policy}
use Rattle.pg_run.specs.pg_base.declared.stamp.Stamp.{Stamp}
use Rattle.pg_run.specs.pg_base.Id.{is_same_file}
use Rattle.pg_run.specs.pg_base.Version.{VersionValue, stamp_of}
use Rattle.pg_run.specs.pg_patch.Ranges.{IsRanges, RangesValue}
use Rattle.pg_run.specs.pg_content.Content.{Among, ContentValue, body_limit, next_length, next_version}
use Rattle.pg_run.specs.pg_content.History.{Made, body_of, maker}
use Rattle.pg_run.proofs.pg_content.StandsWritten.{earlier_version}
use Rattle.pg_run.specs.pg_delta.Kept.{with_delta}
use Rattle.pg_run.specs.pg_delta.Leading.{AreTrueDeltas, IsTrueDelta}
use Rattle.pg_run.specs.pg_delta.Taking.{delta_to, stamps_of}
use Rattle.pg_run.proofs.pg_delta.Leads.{true_made}
use Rattle.pg_run.proofs.theory_bodies.Computing.{HaveRanges}
use Rattle.pg_run.proofs.theory_bodies.Holdings.{deltas_with}
use Rattle.pg_run.specs.pg_call.declared.reply.Reply.TheVariants as reply
use Rattle.pg_run.specs.pg_msg.declared.update.MadeVersion.{MadeVersion}
use Rattle.pg_run.specs.pg_msg.Work.{new_work}
use Rattle.pg_run.specs.pg_replica.declared.replica.Replica.{Replica}
use Rattle.pg_run.specs.pg_replica.Replicas.{or_nothing}
use Rattle.pg_run.specs.Journal.{Born, made_for, made_of, versions_in}
use Rattle.pg_run.specs.Took.{stamps_taken, take_of}
use Rattle.pg_run.specs.pg_names.Names.{is_dir}
use Rattle.pg_run.specs.pg_store.declared.store.Store.{Store}
use Rattle.pg_run.specs.pg_store.Seen.{server_of}
use Rattle.pg_run.specs.pg_store.Store.{content_of, is_before_clock_end, replica_at, write}
use Rattle.pg_run.proofs.pg_store.InTime.{births_in_time, last_in_time}
use Rattle.pg_run.specs.pg_pieces.Done.{idle}
use Rattle.pg_run.specs.pg_checks.Answer.{Answer, answer}
use Rattle.pg_run.specs.pg_checks.Checks.{file_at}
use Rattle.pg_run.specs.pg_calls.Making.{drawn, make_version, version_of}
use Rattle.pg_run.proofs.pg_calls.InTime.{file_in_time}
use Rattle.pg_run.proofs.pg_calls.Walked.{file_found, full_held}
use Rattle.law_contents.proofs.Changes.{Core, IsOrdered, by_altered, core_at, core_of, replica_of_core}
use Rattle.law_contents.proofs.Files.{HoldsFile, held_version}
use Rattle.law_contents.proofs.Histories.{AreMade, IsNextUpdate, by_file}
use Rattle.law_contents.proofs.Joining.{stands_wrote}
use Rattle.law_contents.proofs.Ranges.{ranges_with}
use Rattle.law_contents.proofs.Sending.{AllCarry, none_carry}
use Rattle.law_contents.proofs.Servers.{AreShort, Came, IsNamedBy, IsServer, Stands, deltas_later, file_held, with_came}
use Rattle.law_contents.proofs.Versions.{WrittenCore, write_alters, write_last}
use Rattle.law_contents.proofs.Writing.{IsWrite, next_file, next_history, next_update}

-- an answer in which one version was made: with these policies then
pub record Makes (s : ℕ) (a : Store) (us : List Born) (p q : FileId → Policy)
    (N : FileId → Type 0) (came : Came) (r : Answer) : Type 0 where
  pub version : Born
  pub core : Core
  pub time : is_before_clock_end a ≡ true
  pub here : core_at r.store version.made.file ≡ Some core
  pub born : core.birth ≡ version.birth
  pub made : versions_in r.work.made ≡ version.made ∷ []
  pub takes : (f : FileId) → stamps_taken f (map take_of r.work.made)
      ≡ cond (is_same_file version.made.file f) (version.made.stamp ∷ []) []
  pub next : IsNextUpdate us version
  pub maker : version.made.stamp.server ≡ s
  pub server : server_of r.store ≡ server_of a
  pub last : a.names.last ≤ r.store.names.last
  pub files : a.files ≤ r.store.files
  pub order : IsOrdered a.replicas → IsOrdered r.store.replicas
  pub dated : version.made.stamp.time ≤ r.store.names.last
  pub short : AreShort (version ∷ us) q
  pub held : (f : FileId) (k : Core) → core_at r.store f ≡ Some k → IsNamedBy s r.store N f
  pub stands : Stands s r.store (version ∷ us) q
      (with_came version.made.file version.made.stamp came)
  pub sent : AllCarry (version ∷ us) q N r.work.sent
  pub tail : AllCarry (version ∷ us) q N r.work.tail
  pub same : (f : FileId) → N f → q f ≡ p f
  pub rest : (f : FileId) → IsNamedBy s r.store N f ⊎ (q f ≡ p f)
  pub dirs : (f : FileId) → is_dir f ≡ true → q f ≡ p f

-- ---- a version is made of what is held of a file

module _ {s : ℕ} {b : Store} {us : List Born} {q : FileId → Policy} {came : Came}
    (k : Stands s b us q came) (made : AreMade us) (few : s < 2 ^ 32) (file : FileId)
    (x : Replica) (is : replica_at b file ≡ Some x) (birth : x.birth < 2 ^ 64)
    (room : (v : VersionValue) → Among v x.content.heads → b.names.last < 2 ^ 63)
    (stamp : Stamp) (own : stamp.server ≡ s) (later : b.names.last < stamp.time)
    (fresh : (v : Born) → Among v us → v.made.stamp ≡ stamp → ⊥) (ranges : RangesValue)
    (are : IsRanges ranges) where
  abbrev pub New : Born
  New = record { birth = x.birth; made = version_of b file stamp ranges }

  -- the replica of this birth at a server has this of the file
  abbrev HeldBy : ℕ → Policy → ContentValue → List Made → List Stamp → Type 0
  HeldBy j policy c h set =
      HoldsFile (λ m. maker m ≡ record { server = j; birth = x.birth }) policy c h set

  held_there : HeldBy stamp.server (q file) x.content (made_for file us) (came file)
  held_there =
      subst (λ (j : ℕ). HeldBy j (q file) x.content (made_for file us) (came file)) (sym own)
      (file_held k file (core_of x) (ap (option_map core_of) is))

  is_write : IsWrite s b.names.last (q file) x.content us (came file) New
  is_write = record {
    made = made;
    ready = held_there;
    known = k.known file;
    upto = k.upto file;
    based = ap (λ (o : Option Replica). map stamp_of (or_nothing o).content.heads) is;
    server = own;
    later = later;
    few = few;
    birth = birth;
    room = room;
    fresh = fresh;
  }

  pub made_next : IsNextUpdate us New
  made_next = next_update is_write

  abbrev pub WroteStore : Store
  WroteStore = write b file stamp ranges

  -- the deltas that are kept are true, the one of this version among them
  kept_true : AreTrueDeltas (q file) (made_of New ∷ made_for file us)
      (with_delta x.kept (delta_to (stamps_of x.content) stamp ranges))
  kept_true =
      let h = made_for file us in
      let m = made_of New in
      let history = next_history is_write in
      let based = ap (λ (o : Option Replica). map stamp_of (or_nothing o).content.heads) is in
      let P : List Stamp → Type 0 =
      (λ bs. IsTrueDelta (q file) (m ∷ h) (delta_to bs stamp ranges)) in
      deltas_with (q file) (m ∷ h) x.kept (delta_to (stamps_of x.content) stamp ranges)
      (deltas_later k New history x.kept (k.kept file (core_of x) (ap (option_map core_of) is)))
      (subst P based (true_made (q file) m h history))

  -- its body is what it makes of what is shown
  here_short : next_length x.content ranges ≤ body_limit
      → length (body_of (q file) (made_of New ∷ made_for file us) stamp) ≤ body_limit
  here_short fits =
      let h = made_of New ∷ made_for file us in
      let v = next_version x.content (maker (made_of New)) stamp ranges in
      let r = held_version (next_file is_write) v (inl refl) in
      let P : List ℕ → Type 0 = (λ ys. length ys ≤ body_limit) in
      let Q : Stamp → Type 0 = (λ t. length (body_of (q file) h t) ≤ body_limit) in
      subst Q (sym (ap (λ (y : VersionValue). y.head.stamp) r.2))
      (subst P (ap (λ (y : VersionValue). y.body) r.2) fits)

  -- where it is not too long, no version is
  pub made_short : AreShort us q → next_length x.content ranges ≤ body_limit
      → AreShort (New ∷ us) q
  made_short old fits =
      let m = made_of New in
      let h = made_for file us in
      let history = next_history is_write in
      by_file (λ f g. (e : Made) → Among e g → length (body_of (q f) g e.stamp) ≤ body_limit) New us
      (λ e l. elim l [
        | inl last ↦
            let P : Made → Type 0 = (λ y. length (body_of (q file) (m ∷ h) y.stamp) ≤ body_limit) in
            subst P (sym last) (here_short fits)
        | inr earlier ↦
            let P : List ℕ → Type 0 = (λ ys. length ys ≤ body_limit) in
            subst P (ap (λ (y : VersionValue). y.body)
            (earlier_version m h history (q file) e earlier)) (old file e earlier)
      ])
      old

  -- all of them have ranges
  kept_ranges : HaveRanges (with_delta x.kept (delta_to (stamps_of x.content) stamp ranges))
  kept_ranges =
      ranges_with x.kept (delta_to (stamps_of x.content) stamp ranges)
      (k.ranges file (core_of x) (ap (option_map core_of) is)) are

  pub made_stands : Stands s WroteStore (New ∷ us) q (with_came file stamp came)
  made_stands =
      stands_wrote New k WroteStore (WrittenCore b file x is stamp ranges)
      (write_alters b file x is stamp ranges) (write_last b file x is stamp ranges)
      (subst (λ (j : ℕ). HeldBy j (q file) (WrittenCore b file x is stamp ranges).content
      (made_of New ∷ made_for file us) (stamp ∷ came file)) own (next_file is_write))
      (next_history is_write) kept_true kept_ranges

-- the next stamp is later than the clock
pub drawn_later : (now last : ℕ) → last < max (min now (2 ^ 62)) (last + 1)
drawn_later now last = grind arith

-- ---- a file is written

-- one stamp more, where nothing was taken of others
pub one_take : (f : FileId) (u : MadeVersion)
    → cond (is_same_file u.file f) (u.stamp ∷ []) [] ++ []
    ≡ cond (is_same_file u.file f) (u.stamp ∷ []) []
one_take f u = append-nil (cond (is_same_file u.file f) (u.stamp ∷ []) [])

module _ {s : ℕ} {a : Store} {us : List Born} {p : FileId → Policy} {N : FileId → Type 0}
    {came : Came} (k : IsServer s a us p N came) where
  -- a stamp that is later than the clock
  pub stamp_fresh : (stamp : Stamp) → stamp.server ≡ s → a.names.last < stamp.time → (v : Born)
      → Among v us → v.made.stamp ≡ stamp → ⊥
  stamp_fresh stamp own later v l same =
      let old = k.dated v l (ap (λ (t : Stamp). t.server) same ∙ own) in
      let at = ap (λ (t : Stamp). t.time) same in
      omega arith

  module _ (moment : ℕ) (ranges : RangesValue) (are : IsRanges ranges) (text : List ℕ)
      (file : FileId) (found : file_at a text ≡ Ok file)
      (fits : next_length (content_of a file) ranges ≤ body_limit) where
    abbrev stamp : Stamp
    stamp = drawn a moment

    abbrev Wrote : Answer
    Wrote = answer (make_version file stamp ranges (idle a (new_work moment 0)))
        (reply.Wrote stamp)

    core : (c : Core) × (core_at a file ≡ Some c)
    core = k.paired.both file (full_held a.names file (file_found a text file found).0)

    there : (x : Replica) × (replica_at a file ≡ Some x) × (core_of x ≡ core.0)
    there = replica_of_core a file core.0 core.1

    in_time : is_before_clock_end a ≡ true
    in_time = file_in_time a text file found

    given : there.0.birth < 2 ^ 64
    given =
        let most = births_in_time a in_time in
        let at = k.paired.births file (core_of there.0) (ap (option_map core_of) there.1) in
        omega arith

    early : a.names.last < 2 ^ 63
    early = let low = last_in_time a in_time in omega arith

    later : a.names.last < stamp.time
    later = drawn_later moment a.names.last

    -- A CLIENT WRITES A FILE
    pub written_makes : Makes s a us p p N came Wrote
    written_makes =
        let x = there.0 in
        let is = there.1 in
        let own = k.server in
        let fresh = stamp_fresh stamp own later in
        let room = λ (v : VersionValue) (l : Among v x.content.heads). early in
        let alters = write_alters a file x is stamp ranges in
        let u = version_of a file stamp ranges in
        let version =
        New k.stands k.made k.few file x is given room stamp own later fresh ranges are in
        record {
          version = version;
          core = WrittenCore a file x is stamp ranges;
          time = in_time;
          here = alters.here;
          born = refl;
          made = refl;
          takes = λ f. one_take f u;
          next =
              made_next k.stands k.made k.few file x is given room stamp own later fresh ranges
              are;
          maker = own;
          server = refl;
          last = alters.last;
          files = omega arith;
          order = alters.order;
          dated = write_last a file x is stamp ranges;
          short = made_short k.stands k.made k.few file x is given room stamp own later fresh ranges
              are k.short (subst (λ (c : ContentValue). next_length c ranges ≤ body_limit)
              (ap (λ (o : Option Replica). (or_nothing o).content) is) fits);
          held = λ f c e. inl (by_altered (λ g o. (y : Core) → o ≡ Some y → N g) a
              (write a file stamp ranges) file (Some (WrittenCore a file x is stamp ranges)) alters
              (λ y same. k.held file (core_of x) (ap (option_map core_of) is))
              (λ g apart y same. k.held g y same) f c e);
          stands =
              made_stands k.stands k.made k.few file x is given room stamp own later fresh ranges
              are;
          sent = none_carry (version ∷ us) p N;
          tail = none_carry (version ∷ us) p N;
          same = λ f h. refl;
          rest = λ f. inr refl;
          dirs = λ f h. refl;
        }
