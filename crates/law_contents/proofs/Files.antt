-- What a server holds of one file's content: the state of the versions that it took. A write, a
-- version that comes, and another server's write keep it so.
use Rattle.std.proofs.Common.{[], ℕ, ◌≡◌, ◌≤◌, true, cond, List, ◌∷◌, map, refl, sym, ap, subst, ◌∙◌, inl, inr, ◌↔◌, arith}
use Rattle.pg_run.specs.pg_base.declared.policy.Policy.{Policy}
use Rattle.pg_run.specs.pg_base.declared.stamp.Stamp.{Stamp}
use Rattle.pg_run.specs.pg_base.Version.{VersionValue, actor_of, stamp_of}
use Rattle.pg_run.specs.pg_content.Content.{Among, ContentValue, is_covered, joined_content, put_version, written}
use Rattle.pg_run.specs.pg_content.History.{IsAncestor, IsHistory, Made, maker, version_of}
use Rattle.pg_run.specs.pg_content.StandsFor.{InStrictOrder, StandsFor}
use Rattle.pg_run.proofs.pg_content.Standing.{stands_same}
use Rattle.pg_run.proofs.pg_content.StandsJoined.{stands_joined}
use Rattle.pg_run.proofs.pg_content.StandsWritten.{stands_later, stands_written}
use Rattle.pg_run.specs.Journal.{with_ancestors}
use Rattle.law_contents.proofs.Sets.{AreMembers, itself_taken, taken_is, taken_with, taken_within, with_member, within_later}

-- ---- what stands for what was taken

-- the heads stand for these versions with their ancestors; those that the replica itself made are
-- among them
pub record Stood (Who : Made → Type 0) (c : ContentValue) (h : List Made) (set : List Stamp) : Type 0 where
  pub stands : StandsFor c h (with_ancestors h set)
  pub own : (m : Made) → Among m h → Who m → Among m.stamp (with_ancestors h set)

module _ {Who : Made → Type 0} {c : ContentValue} {h : List Made} {set : List Stamp} (f : Stood Who c h set)
    (are : AreMembers h set) where
  module _ (m : Made) (k : IsHistory (m ∷ h)) where
    abbrev before : List Stamp
    before = with_ancestors h set

    later_stands : StandsFor c (m ∷ h) before
    later_stands = stands_later m h k c before f.stands

    later_same : (t : Stamp) → Among t before ↔ Among t (with_ancestors (m ∷ h) set)
    later_same = taken_is (m ∷ h) k before set later_stands.closed (itself_taken h k.1 set are)
        (within_later m h set set (λ t l. l))

    -- another replica's write
    pub stood_later : ¬ (Who m) → Stood Who c (m ∷ h) set
    stood_later other = record {
      stands = stands_same c (m ∷ h) before (with_ancestors (m ∷ h) set) later_same later_stands;
      own = λ n l by. elim l [
        | inl last ↦ absurd (other (subst Who last by))
        | inr earlier ↦ (later_same n.stamp).0 (f.own n earlier by)
      ];
    }

    module _ (based : m.bases ≡ map stamp_of c.heads) where
      abbrev now : ContentValue
      now = written c (maker m) m.stamp m.ranges

      now_stands : StandsFor now (m ∷ h) (m.stamp ∷ before)
      now_stands = stands_written m h k c before f.stands based

      now_same : (t : Stamp) → Among t (m.stamp ∷ before)
          ↔ Among t (with_ancestors (m ∷ h) (m.stamp ∷ set))
      now_same =
          taken_is (m ∷ h) k (m.stamp ∷ before) (m.stamp ∷ set) now_stands.closed
          (λ t l. elim l [
            | inl last ↦ inl last
            | inr earlier ↦ inr
                (itself_taken h k.1 set are t earlier)
          ])
          (λ t l. elim l [
            | inl last ↦ (m.stamp, inl refl, inl last)
            | inr earlier ↦ within_later m h
                set (m.stamp ∷ set) (λ x n. inr n) t earlier
          ])

      -- its own write, on all heads
      pub stood_wrote : Stood Who now (m ∷ h) (m.stamp ∷ set)
      stood_wrote = record {
        stands = stands_same now (m ∷ h) (m.stamp ∷ before) (with_ancestors (m ∷ h) (m.stamp ∷ set))
            now_same now_stands;
        own = λ n l by. elim l [
          | inl last ↦ (now_same n.stamp).0 (inl (ap (λ (x : Made). x.stamp) last))
          | inr earlier ↦ (now_same n.stamp).0 (inr (f.own n earlier by))
        ];
      }

  module _ (k : IsHistory h) (m : Made) (is : Among m h) where
    -- a version that comes
    pub stood_came : Stood Who (joined_content c (version_of c.policy h m)) h (m.stamp ∷ set)
    stood_came = record {
      stands = stands_joined h k c (with_ancestors h set)
          (with_ancestors h (m.stamp ∷ set)) f.stands m is (taken_with h k set are m is);
      own = λ n l by. (taken_with h k set are m is n.stamp).1 (inl (f.own n l by));
    }

    -- one that was taken already comes again: all is as before
    module _ (taken : Among m.stamp (with_ancestors h set)) where
      again_same : (t : Stamp) → Among t (with_ancestors h set)
          ↔ Among t (with_ancestors h (m.stamp ∷ set))
      again_same t = (
        λ l. (taken_with h k set are m is t).1 (inl l),
        λ l. elim ((taken_with h k set are m is t).0 l) [
          | inl old ↦ old
          | inr new ↦ elim new [
            | inl itself ↦ subst (λ (x : Stamp). Among x (with_ancestors h set)) (sym itself) taken
            | inr further ↦ f.stands.closed.ancestors m.stamp t taken further
          ]
        ],
      )

      pub stood_again : Stood Who c h (m.stamp ∷ set)
      stood_again = record {
        stands = stands_same c h (with_ancestors h set) (with_ancestors h (m.stamp ∷ set))
            again_same f.stands;
        own = λ n l by. (again_same n.stamp).0 (f.own n l by);
      }

-- a version of a history, with the vector and the body that it has there under this policy
abbrev pub IsMadeOf : Policy → List Made → VersionValue → Type 0
IsMadeOf p h v = (m : Made) × Among m h × (v ≡ version_of p h m)

-- ---- the content of a replica

-- it has the policy of its file, and stands for what was taken
pub record HoldsFile (Who : Made → Type 0) (p : Policy) (c : ContentValue) (h : List Made) (set : List Stamp)
    : Type 0 where
  pub policy : c.policy ≡ p
  pub stood : Stood Who c h set

-- each head is a version of the history of the file, whole
pub held_version : {Who : Made → Type 0} {p : Policy} {c : ContentValue} {h : List Made} {set : List Stamp}
    → HoldsFile Who p c h set → (v : VersionValue) → Among v c.heads → IsMadeOf p h v
held_version {h = h} f v l =
    let r = f.stood.stands.heads v l in
    (r.made, r.member, r.version ∙ ap (λ q. version_of q h r.made) f.policy)

module _ {Who : Made → Type 0} {p : Policy} {c : ContentValue} {h : List Made} {set : List Stamp}
    (f : HoldsFile Who p c h set) (are : AreMembers h set) where
  pub file_wrote : (m : Made) → IsHistory (m ∷ h)
      → m.bases ≡ map stamp_of c.heads
      → HoldsFile Who p (written c (maker m) m.stamp m.ranges) (m ∷ h) (m.stamp ∷ set)
  file_wrote m k based = record { policy = f.policy; stood = stood_wrote f.stood are m k based }

  module _ (k : IsHistory h) (m : Made) (is : Among m h) where
    came_by : (v : VersionValue) → v ≡ version_of c.policy h m
        → Stood Who (joined_content c v) h (v.head.stamp ∷ set)
    came_by v e =
        let P : VersionValue → Type 0 =
        (λ x. Stood Who (joined_content c x) h (x.head.stamp ∷ set)) in
        subst P (sym e) (stood_came f.stood are k m is)

    same_version : (v : VersionValue) → v ≡ version_of p h m → v ≡ version_of c.policy h m
    same_version v e = e ∙ ap (λ q. version_of q h m) (sym f.policy)

    came_members : (v : VersionValue) → v ≡ version_of p h m
        → AreMembers h (v.head.stamp ∷ set)
    came_members v e =
        subst (λ t. AreMembers h (t ∷ set)) (sym (ap (λ (x : VersionValue). x.head.stamp) e))
        (with_member h k set are m is)

    -- the version is among what is taken then
    came_taken : (v : VersionValue) → v ≡ version_of p h m
        → Among v.head.stamp (with_ancestors h (v.head.stamp ∷ set))
    came_taken v e =
        itself_taken h k (v.head.stamp ∷ set) (came_members v e) v.head.stamp (inl refl)

    pub file_came : (v : VersionValue) → v ≡ version_of p h m
        → HoldsFile Who p (joined_content c v) h (v.head.stamp ∷ set)
    file_came v e =
        record { policy = f.policy; stood = came_by v (same_version v e) }

    -- a version that some head covers was taken before, so its time is no news
    pub covered_upto : (last : ℕ) → ((t u : Stamp) → IsAncestor h t u → t.time ≤ u.time)
        → ((w : VersionValue) → Among w c.heads → w.head.stamp.time ≤ last)
        → (v : VersionValue) → v ≡ version_of p h m
        → is_covered c.heads (actor_of v.head) v.head.number ≡ true → v.head.stamp.time ≤ last
    covered_upto last order upto v e covered =
        let same : joined_content c v ≡ c =
        ap (λ t. record { policy = c.policy; heads = cond t c.heads (put_version c.heads v) })
        covered in
        let P : ContentValue → Type 0 = (λ x. Stood Who x h (v.head.stamp ∷ set)) in
        let g = subst P same (came_by v (same_version v e)) in
        let x = g.stands.all v.head.stamp (came_taken v e) in
        let there = upto x.0 x.1 in
        elim x.2 [
          | inl itself ↦ (let Q : Stamp → Type 0 = (λ t. t.time ≤ last) in
              subst Q (sym itself) there)
          | inr further ↦ (let earlier = order v.head.stamp x.0.head.stamp further in
              omega arith)
        ]

-- ---- a file begins

-- a content without heads stands for nothing, whatever its policy, where the new replica made none
pub stood_begun : {Who : Made → Type 0} {c : ContentValue} {h : List Made} {set : List Stamp}
    → Stood Who c h set → c.heads ≡ [] → (policy : Policy) → (New : Made → Type 0)
    → ((m : Made) → Among m h → ¬ (New m))
    → Stood New (record { policy = policy; heads = [] }) h set
stood_begun {c = c} f none policy New unmade = record {
  stands = record {
    closed = f.stands.closed;
    order = tt;
    heads = λ v l. absurd l;
    all = λ t l. let a = f.stands.all t l in absurd (subst (Among a.0) none a.1);
  };
  own = λ m l by. absurd (unmade m l by);
}

-- ---- nothing is held

-- of what never came nothing is held, whatever others made
pub none_stood : (Who : Made → Type 0) (c : ContentValue) → c.heads ≡ [] → (h : List Made)
    → ((m : Made) → Among m h → ¬ (Who m)) → Stood Who c h []
none_stood Who c none h unmade = record {
  stands = record {
    closed = record {
      members = λ t l. absurd (none_taken t l);
      ancestors = λ t u l a. absurd (none_taken t l);
    };
    order = subst InStrictOrder (sym none) tt;
    heads = λ v l. absurd (subst (Among v) none l);
    all = λ t l. absurd (none_taken t l);
  };
  own = λ m l by. absurd (unmade m l by);
}
  where
    none_taken : (t : Stamp) → Among t (with_ancestors h []) → ⊥
    none_taken t l = let w = taken_within h [] t l in absurd w.1
