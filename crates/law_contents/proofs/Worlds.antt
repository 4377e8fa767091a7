-- What every event keeps: each server stands for what came to it, and all messages ever sent are of
-- the histories of the files.
use Rattle.std.proofs.Common.{ℕ, ◌≡◌, ◌≢◌, ◌<◌, ◌≤◌, ◌^◌, Bool, true, false, cond, List, ◌∷◌, ◌++◌, Some, refl, sym, subst, ◌∙◌, inl, inr, arith}
use Rattle.std.proofs.lemmas.Bool.Decides.{eqb_tells}
use Rattle.std.proofs.lemmas.List.Elements.{All-append}
use Rattle.pg_run.specs.pg_base.declared.id.FileId.{FileId}
use Rattle.pg_run.specs.pg_base.declared.policy.Policy.{Policy}
use Rattle.pg_run.specs.pg_base.declared.policy.Policy.TheVariants.{Last}
use Rattle.pg_run.specs.pg_content.Content.{Among}
use Rattle.pg_run.specs.pg_content.History.{IsHistory, Made}
use Rattle.pg_run.specs.theory_flood.World.{after}
use Rattle.pg_run.specs.pg_msg.declared.message.Sent.{Sent}
use Rattle.pg_run.specs.Asking.{Asked}
use Rattle.pg_run.specs.Journal.{Born, made_for, made_of}
use Rattle.pg_run.specs.Took.{Take}
use Rattle.pg_run.specs.pg_server.Local.{Effect}
use Rattle.pg_run.specs.pg_names.Names.{is_dir}
use Rattle.pg_run.specs.pg_store.declared.store.Store.{Store}
use Rattle.pg_run.specs.pg_store.Seen.{server_of}
use Rattle.pg_run.specs.pg_store.Store.{is_held}
use Rattle.pg_run.specs.pg_store.Together.{BirthsMove}
use Rattle.pg_run.proofs.pg_store.Over.{moves_itself}
use Rattle.pg_run.specs.pg_calls.Forgetting.{is_wanted}
use Rattle.law_contents.proofs.Agreed.{Agrees, agrees_later}
use Rattle.law_contents.proofs.Changes.{Core, IsOrdered, core_at}
use Rattle.law_contents.proofs.Effects.{IsMaking, IsPassive}
use Rattle.law_contents.proofs.Histories.{AreMade, last_history, one_more_made, update_of}
use Rattle.law_contents.proofs.Sending.{AllCarry, CarriesSent, all_carry_more, all_carry_names, all_carry_other}
use Rattle.law_contents.proofs.Servers.{AreShort, IsNamedBy, IsPaired, IsPast, IsServer, Stands, came_of, past_later, stands_later, stands_policy}

-- each version has a time that its server's clock has come to
abbrev pub AreDated : (ℕ → Store) → List Born → Type 0
AreDated stores us = (u : Born) → Among u us
    → u.made.stamp.time ≤ (stores u.made.stamp.server).names.last

-- and its maker's birth was given out there, and is not to come
abbrev pub AreBorn : (ℕ → Store) → List Born → Type 0
AreBorn stores us = (u : Born) → Among u us → IsPast (stores u.made.stamp.server) u

-- the id has a number that its server gave out
abbrev pub IsNamed : (ℕ → Store) → FileId → Type 0
IsNamed stores file = file.number ≤ (stores file.server).files

-- THE INVARIANT: the versions that were made are histories; each server stands for what came to it,
-- and what it notes of versions agrees with whom it asked for them; messages carry versions of the
-- histories, whole, and policies; and whatever has a version, is held or is granted has an id that
-- was given out. What has none has no policy yet
pub record Sound (stores : ℕ → Store) (us : List Born) (p : FileId → Policy)
    (took : ℕ → List Take) (wants : ℕ → Asked) (mail : List Sent) : Type 0 where
  pub server : (s : ℕ) → server_of (stores s) ≡ s
  pub order : (s : ℕ) → IsOrdered (stores s).replicas
  pub made : AreMade us
  pub stands : (s : ℕ) → Stands s (stores s) us p (came_of (took s))
  pub short : AreShort us p
  pub agreed : (s : ℕ) → Agrees (stores s) us (came_of (took s)) (wants s)
  pub dated : AreDated stores us
  pub born : AreBorn stores us
  pub named : (u : Born) → Among u us → IsNamed stores u.made.file
  pub held : (s : ℕ) (file : FileId) (k : Core) → core_at (stores s) file ≡ Some k
      → IsNamed stores file
  pub bare : (file : FileId) → (IsNamed stores file → ⊥) → p file ≡ Last
  pub dirs : (file : FileId) → is_dir file ≡ true → p file ≡ Last
  pub carried : AllCarry us p (IsNamed stores) mail

-- ---- servers

-- what holds of the server that acted, and of each other one as it was, holds of each one now
pub by_server : (P : ℕ → Store → List Take → Type 0) (stores : ℕ → Store) (took : ℕ → List Take)
    (s : ℕ) (b : Store) (takes : List Take) → P s b takes
    → ((t : ℕ) → t ≢ s → P t (stores t) (took t))
    → (t : ℕ) → P t (after stores s b t) (after took s takes t)
by_server P stores took s b takes own others t = elim (eqb_tells t s) [
  | inl at ↦
      let Q : Bool → Type 0 = (λ e. P t (cond e b (stores t)) (cond e takes (took t))) in
      let R : ℕ → Type 0 = (λ j. P j b takes) in
      subst Q (sym at.0) (subst R (sym at.1) own)
  | inr at ↦
      let Q : Bool → Type 0 = (λ e. P t (cond e b (stores t)) (cond e takes (took t))) in
      subst Q (sym at.0) (others t at.1)
]

-- the same, with whom it asked
by_asking : (P : ℕ → Store → List Take → Asked → Type 0) (stores : ℕ → Store)
    (took : ℕ → List Take) (wants : ℕ → Asked) (s : ℕ) (b : Store) (takes : List Take)
    (asks : Asked) → P s b takes asks
    → ((t : ℕ) → t ≢ s → P t (stores t) (took t) (wants t))
    → (t : ℕ) → P t (after stores s b t) (after took s takes t) (after wants s asks t)
by_asking P stores took wants s b takes asks own others t = elim (eqb_tells t s) [
  | inl at ↦
      let Q : Bool → Type 0 = (λ e. P t (cond e b (stores t)) (cond e takes (took t))
      (cond e asks (wants t))) in
      let R : ℕ → Type 0 = (λ j. P j b takes asks) in
      subst Q (sym at.0) (subst R (sym at.1) own)
  | inr at ↦
      let Q : Bool → Type 0 = (λ e. P t (cond e b (stores t)) (cond e takes (took t))
      (cond e asks (wants t))) in
      subst Q (sym at.0) (others t at.1)
]

module _ {stores : ℕ → Store} {us : List Born} {p : FileId → Policy} {took : ℕ → List Take}
    {wants : ℕ → Asked} {mail : List Sent} (k : Sound stores us p took wants mail) where
  abbrev N : FileId → Type 0
  N file = IsNamed stores file

  -- another list of the same messages
  pub still_sound : (rest : List Sent) → AllCarry us p N rest → Sound stores us p took wants rest
  still_sound rest carried = record {
    server = k.server;
    order = k.order;
    made = k.made;
    stands = k.stands;
    agreed = k.agreed;
    short = k.short;
    dated = k.dated;
    born = k.born;
    named = k.named;
    held = k.held;
    bare = k.bare;
    dirs = k.dirs;
    carried = carried;
  }

  module _ (s : ℕ) where
    pub server_stands : s < 2 ^ 32 → IsPaired (stores s)
        → ((file : FileId) → is_wanted (stores s) file ≡ true → is_held (stores s) file ≡ false → N file)
        → IsServer s (stores s) us p N (came_of (took s))
    server_stands few paired wanted = record {
      few = few;
      server = k.server s;
      paired = paired;
      stands = k.stands s;
      made = k.made;
      short = k.short;
      dated = λ v l own. let P : ℕ → Type 0 = (λ j. v.made.stamp.time ≤ (stores j).names.last) in
          subst P own (k.dated v l);
      born = λ v l own. let P : ℕ → Type 0 = (λ j. IsPast (stores j) v) in
          subst P own (k.born v l);
      own = λ file named own. let P : ℕ → Type 0 = (λ j. file.number ≤ (stores j).files) in
          subst P own named;
      held = k.held s;
      named = k.named;
      bare = k.bare;
      dirs = k.dirs;
      wanted = wanted;
    }

    -- ---- what the server that acted leaves

    module _ (b : Store) (takes : List Take) (server : server_of b ≡ server_of (stores s))
        (last : (stores s).names.last ≤ b.names.last) (files : (stores s).files ≤ b.files) where
      abbrev behind : ℕ → Store
      behind = after stores s b

      later_server : (t : ℕ) → server_of (behind t) ≡ t
      later_server =
          by_server (λ t c ts. server_of c ≡ t) stores took s b takes (server ∙ k.server s)
          (λ t other. k.server t)

      later_last : (t : ℕ) → (stores t).names.last ≤ (behind t).names.last
      later_last =
          by_server (λ t c ts. (stores t).names.last ≤ c.names.last) stores took s b takes last
          (λ t other. omega arith)

      later_files : (t : ℕ) → (stores t).files ≤ (behind t).files
      later_files =
          by_server (λ t c ts. (stores t).files ≤ c.files) stores took s b takes files
          (λ t other. omega arith)

      later_dated : AreDated behind us
      later_dated u l =
          let old = k.dated u l in let rise = later_last u.made.stamp.server in omega arith

      later_named : (file : FileId) → N file → IsNamed behind file
      later_named file old = let rise = later_files file.server in omega arith

      at_server : (P : Store → Type 0) (j : ℕ) → j ≡ s → P b → P (behind j)
      at_server P j own h =
          by_server (λ t c ts. t ≡ s → P c) stores took s b takes (λ e. h)
          (λ t other e. absurd (other e)) j own

      -- and what it gave out
      named_now : (file : FileId) → IsNamedBy s b N file → IsNamed behind file
      named_now file (inl old) = later_named file old
      named_now file (inr own) = at_server (λ c. file.number ≤ c.files) file.server own.0 own.1

      later_held : ((f : FileId) (c : Core) → core_at b f ≡ Some c → IsNamedBy s b N f)
          → (t : ℕ) (f : FileId) (c : Core) → core_at (behind t) f ≡ Some c → IsNamed behind f
      later_held held =
          by_server (λ t store ts. (f : FileId) (c : Core) → core_at store f ≡ Some c
          → IsNamed behind f) stores took s b takes
          (λ f c e. named_now f (held f c e))
          (λ t other f c e. later_named f (k.held t f c e))

    -- births move on at the server that acted
    later_born : (b : Store) (takes : List Take) → BirthsMove (stores s) b
        → AreBorn (after stores s b) us
    later_born b takes moves u l =
        past_later (stores u.made.stamp.server) (after stores s b u.made.stamp.server) u
        (by_server (λ t c ts. BirthsMove (stores t) c) stores took s b takes moves
        (λ t other. moves_itself (stores t)) u.made.stamp.server)
        (k.born u l)

    later_order : (b : Store) (takes : List Take) → IsOrdered b.replicas → (t : ℕ)
        → IsOrdered (after stores s b t).replicas
    later_order b takes order =
        by_server (λ t c ts. IsOrdered c.replicas) stores took s b takes order
        (λ t other. k.order t)

    module _ (done : Effect) (takes : List Take) (asks : Asked)
        (moves : BirthsMove (stores s) done.store) where
      -- AN EVENT AT WHICH NO VERSION IS MADE
      pub passive_sound : IsPassive s (stores s) us p N done takes
          → Agrees done.store us (came_of takes) asks
          → Sound (after stores s done.store) us p (after took s takes) (after wants s asks)
          (done.out.sent ++ mail)
      passive_sound act agrees =
          let b = done.store in
          let M = IsNamed (after stores s b) in
          let more = later_named b takes act.server act.last act.files in
          record {
            server = later_server b takes act.server act.last act.files;
            order = later_order b takes (act.order (k.order s));
            made = k.made;
            stands =
                by_server (λ t c ts. Stands t c us p (came_of ts)) stores took s b takes act.stands
                (λ t other. k.stands t);
            short = k.short;
            agreed =
                by_asking (λ t c ts ask. Agrees c us (came_of ts) ask) stores took wants s b takes
                asks agrees (λ t other. k.agreed t);
            dated = later_dated b takes act.server act.last act.files;
            born = later_born b takes moves;
            named = λ u l. more u.made.file (k.named u l);
            held = later_held b takes act.server act.last act.files act.held;
            bare = λ file none. k.bare file (λ old. none (more file old));
            dirs = k.dirs;
            carried = All-append (CarriesSent us p M) done.out.sent mail
                (all_carry_other us p p N M k.named (λ f h. refl) more done.out.sent act.sent)
                (all_carry_other us p p N M k.named (λ f h. refl) more mail k.carried);
          }

      module _ (q : FileId → Policy) (act : IsMaking s (stores s) us p q N done takes)
          (past : IsPast done.store act.version)
          (agrees : Agrees done.store (act.version ∷ us) (came_of takes) asks) where
        abbrev u : Born
        u = act.version

        abbrev pub more_made : List Born
        more_made = u ∷ us

        made_well : AreMade more_made
        made_well = one_more_made u us k.made act.next

        history : IsHistory (made_of u ∷ made_for u.made.file us)
        history = last_history u us k.made act.next

        -- of a file that has a version the policy is as it was
        made_same : (f : FileId) (m : Made) → Among m (made_for f us) → q f ≡ p f
        made_same f m l =
            let r = update_of f m us l in act.same f (subst N (sym r.2) (k.named r.0 r.1))

        other_stands : (t : ℕ) → t ≢ s → Stands t (stores t) more_made q (came_of (took t))
        other_stands t other =
            stands_later
            (stands_policy (k.stands t) q (λ f c e. act.same f (k.held t f c e)) made_same) u
            history (λ e. other (sym e ∙ act.maker))

        abbrev b : Store
        b = done.store

        abbrev M : FileId → Type 0
        M = IsNamed (after stores s b)

        dated_then : AreDated (after stores s b) more_made
        dated_then v l = elim l [
          | inl itself ↦
              let P : Born → Type 0 =
              (λ x. x.made.stamp.time ≤ (after stores s b x.made.stamp.server).names.last) in
              subst P (sym itself)
              (at_server b takes act.server act.last act.files
              (λ c. u.made.stamp.time ≤ c.names.last) u.made.stamp.server act.maker act.dated)
          | inr old ↦ later_dated b takes act.server act.last act.files v old
        ]

        born_then : AreBorn (after stores s b) more_made
        born_then v l = elim l [
          | inl itself ↦
              let P : Born → Type 0 = (λ x. IsPast (after stores s b x.made.stamp.server) x) in
              subst P (sym itself)
              (at_server b takes act.server act.last act.files (λ c. IsPast c u)
              u.made.stamp.server act.maker past)
          | inr old ↦ later_born b takes moves v old
        ]

        more_named : (file : FileId) → N file → M file
        more_named = later_named b takes act.server act.last act.files

        named_then : (v : Born) → Among v more_made → M v.made.file
        named_then v l = elim l [
          | inl itself ↦ subst (λ (x : Born). M x.made.file) (sym itself)
              (named_now b takes act.server act.last act.files u.made.file act.named)
          | inr old ↦ more_named v.made.file (k.named v old)
        ]

        bare_then : (file : FileId) → (M file → ⊥) → q file ≡ Last
        bare_then file none = elim (act.rest file) [
          | inl new ↦
              absurd (none (named_now b takes act.server act.last act.files file new))
          | inr same ↦ same ∙ k.bare file (λ old. none (more_named file old))
        ]

        sent_then : AllCarry more_made q M done.out.sent
        sent_then =
            all_carry_names more_made q N M more_named done.out.sent act.sent

        -- AN EVENT AT WHICH ONE IS MADE
        pub making_sound
            : Sound (after stores s b) more_made q (after took s takes) (after wants s asks)
            (done.out.sent ++ mail)
        making_sound = record {
          server = later_server b takes act.server act.last act.files;
          order = later_order b takes (act.order (k.order s));
          made = made_well;
          stands =
              by_server (λ t c ts. Stands t c more_made q (came_of ts)) stores took s b takes
              act.stands other_stands;
          short = act.short;
          agreed =
              by_asking (λ t c ts ask. Agrees c more_made (came_of ts) ask) stores took wants s b
              takes asks agrees (λ t other. agrees_later (stores t) us (came_of (took t)) (wants t)
              (k.agreed t) u);
          dated = dated_then;
          born = born_then;
          named = named_then;
          held = later_held b takes act.server act.last act.files act.held;
          bare = bare_then;
          dirs = λ file is. act.dirs file is ∙ k.dirs file is;
          carried = All-append (CarriesSent more_made q M) done.out.sent mail sent_then
              (all_carry_more u us q M made_well.histories mail
              (all_carry_other us p q N M k.named act.same more_named mail k.carried));
        }
