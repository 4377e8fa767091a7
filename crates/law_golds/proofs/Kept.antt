-- What pieces of an event leave of flags: those that a server knows of things themselves, where
-- nothing but a replica begins, and a place or entries are taken.
use Rattle.std.proofs.Common.{ℕ, ◌≡◌, ◌≤◌, ◌<◌, ◌⊎◌, arith, Bool, true, false, cond, List, [], ◌∷◌, Option, None, Some, is_some, inl, inr, refl, sym, ap, subst, ◌∙◌}
use Rattle.std.specs.Option.{option_map}
use Rattle.law_frame.specs.pg_run.pg_base.declared.id.FileId.{FileId}
use Rattle.law_frame.specs.pg_run.pg_base.declared.policy.Policy.{Policy}
use Rattle.law_frame.specs.pg_run.pg_base.Id.{file_cmp, is_same_file}
use Rattle.law_frame.proofs.pg_run.pg_base.Maps.{lookup-insert_entry}
use Rattle.law_frame.proofs.pg_run.pg_base.Orders.{file_total, is_same_file-true}
use Rattle.law_frame.specs.pg_run.pg_entries.declared.entry.Entry.{Entry}
use Rattle.law_frame.specs.pg_run.pg_intent.declared.intent.Intent.{Intent}
use Rattle.law_frame.specs.pg_run.pg_intent.declared.intent.Intent.TheVariants as intent
use Rattle.law_frame.specs.pg_run.pg_intent.declared.key.IntentKey.{IntentKey}
use Rattle.law_frame.specs.pg_run.pg_intent.Intents.{ended, intent_at}
use Rattle.law_frame.specs.pg_run.pg_names.declared.attributes.Attributes.{Attributes}
use Rattle.law_frame.specs.pg_run.pg_names.Names.{InodeValue, NamesValue, begin as begin_names, fill, filled, join_entry, join_place, known, or_blank, own_at, own_of, own_or_blank, with_joined, with_place}
use Rattle.law_frame.proofs.pg_run.pg_names.Holding.{begun_other, begun_same}
use Rattle.law_frame.proofs.pg_run.pg_names.Lookups.{known_absent, own_kept, place_other, place_same}
use Rattle.law_frame.specs.pg_run.pg_register.declared.flag.Flag.{Flag}
use Rattle.law_frame.specs.pg_run.pg_register.declared.place.Place.{Place}
use Rattle.law_frame.specs.pg_run.pg_replica.declared.replica.Replica.{Replica}
use Rattle.law_frame.specs.pg_run.pg_replica.Replica.{new_replica}
use Rattle.law_frame.specs.pg_run.pg_store.declared.store.Store.{Store}
use Rattle.law_frame.specs.pg_run.pg_store.Beginning.{begin, patches_of, put_new, take_patch, take_patches, take_told, take_told_in, with_intents}
use Rattle.law_frame.specs.pg_run.pg_store.Store.{is_held, is_newer_entry, is_newer_place, put_entry, put_place, replica_at, take_entry, take_place}
use Rattle.law_frame.specs.pg_run.pg_store.Together.{AreBirths, AreTogether, BirthsMove, HoldsAsBefore, IsOver, birth_at}
use Rattle.law_frame.proofs.pg_run.pg_store.Over.{moves_as_before}
use Rattle.law_frame.proofs.pg_run.pg_store.Pairs.{patches_as_before}
use Rattle.law_frame.specs.pg_run.theory_flood_pieces.Growing.{Grows}
use Rattle.law_frame.specs.pg_run.theory_flood_pieces.UpTo.{AreFlagsUpTo}
use Rattle.law_frame.proofs.pg_run.theory_flood_pieces.Choices.{chosen}
use Rattle.law_frame.proofs.pg_run.theory_flood_pieces.UpTo.{flags_further, flags_themselves}
use Rattle.law_frame.specs.pg_run.Births.{IsBirthAt}
use Rattle.law_births.proofs.Has.{Goes, from_has, has_one, over_has, over_of, tests_so, to_has}
use Rattle.law_births.proofs.Here.{of_birth}

-- the flags that are known of a thing itself
abbrev pub flags_at : NamesValue → FileId → List Flag
flags_at names f = (own_or_blank names f).flags

-- this birth was given out, and whichever the thing has, or is to have, is a later one
pub record IsPast (b : Store) (f : FileId) (m : ℕ) : Type 0 where
  pub given : m ≤ b.births
  pub less : (n : ℕ) → IsBirthAt b f n → m < n

never : (m : ℕ) → m < m → ⊥
never m h = omega arith

at_most : (m n k : ℕ) → m ≤ n → n ≤ k → m ≤ k
at_most m n k h l = omega arith

below : (m n k : ℕ) → m ≤ n → n < k → m < k
below m n k h l = omega arith

-- so it is over
pub past_over : (b : Store) (f : FileId) (m : ℕ) → IsPast b f m → IsOver b f m
past_over b f m p = over_of b f m p.given (λ h. never m (p.less m (from_has b f m h)))

-- the births that a server has it had, or gave out since
abbrev pub IsNewly : Store → Store → Type 0
IsNewly a b = (f : FileId) (n : ℕ) → IsBirthAt b f n → IsBirthAt a f n ⊎ (a.births < n)

pub past_by : (a b : Store) (f : FileId) (m : ℕ) → a.births ≤ b.births → IsNewly a b → IsPast a f m → IsPast b f m
past_by a b f m count newly p = record {
  given = at_most m a.births b.births p.given count;
  less = λ n h. elim (newly f n h) [ inl was ↦ p.less n was | inr new ↦ below m a.births n p.given new ];
}

-- what is held is held on, with its birth, and of its flags as much is known, or more; or it goes,
-- and its birth is past
pub record GoesOn (a b : Store) : Type 0 where
  pub goes : (f : FileId) (n : ℕ) → birth_at a f ≡ Some n
      → ((birth_at b f ≡ Some n) × AreFlagsUpTo (flags_at a.names f) (flags_at b.names f)) ⊎ IsPast b f n
  pub count : a.births ≤ b.births
  pub newly : IsNewly a b

pub past_goes : {a b : Store} → GoesOn a b → (f : FileId) (m : ℕ) → IsPast a f m → IsPast b f m
past_goes {a} {b} on f m p = past_by a b f m on.count on.newly p

pub newly_of : (a b : Store) → BirthsMove a b → IsNewly a b
newly_of a b move f n h = elim h [
  | inl x ↦ elim (move.held f n (tests_so (replica_at b f) x.0 n x.1 x.2)) [
    | inl here ↦ inl (from_has a f n (inl (of_birth (replica_at a f) n here)))
    | inr r ↦ elim r [ inl p ↦ inl (inr p) | inr new ↦ inr new ]
  ]
  | inr p ↦ elim (move.asked f n p) [ inl q ↦ inl (inr q) | inr new ↦ inr new ]
]

-- where replicas may go
module _ (a b : Store) (move : BirthsMove a b) (together : AreTogether a) (births : AreBirths a) where
  -- a birth that the replica had, and that is over, is past
  over_past : (f : FileId) (n : ℕ) → birth_at a f ≡ Some n → IsOver b f n → IsPast b f n
  over_past f n there over = record {
    given = over.given;
    less = λ m h. elim (newly_of a b move f m h) [
      | inl was ↦ (
          let same : m ≡ n = has_one a births f m n together (to_has a f m was) (inl there) in
          absurd (over_has b f n over (to_has b f n (subst (IsBirthAt b f) same h))))
      | inr new ↦ below n a.births m (births.replicas f n there).1 new
    ];
  }

  pub grows_on : Grows a b → GoesOn a b
  grows_on k = record {
    goes = λ f n there. elim (k f n there) [
      | inl g ↦ inl (g.0, g.1.flags)
      | inr over ↦ inr (over_past f n there over)
    ];
    count = move.given;
    newly = newly_of a b move;
  }

pub goes_further : {a b c : Store} → GoesOn a b → GoesOn b c → GoesOn a c
goes_further {a} {b} {c} k l = record {
  goes = λ f n there. elim (k.goes f n there) [
    | inl x ↦ elim (l.goes f n x.0) [
      | inl y ↦ inl (y.0, flags_further (flags_at a.names f) (flags_at b.names f) (flags_at c.names f) x.1 y.1)
      | inr p ↦ inr p
    ]
    | inr p ↦ inr (past_goes l f n p)
  ];
  count = at_most a.births b.births c.births k.count l.count;
  newly = λ f n h. elim (l.newly f n h) [
    | inl was ↦ k.newly f n was
    | inr new ↦ inr (below a.births b.births n k.count new)
  ];
}

-- the same flags are known
abbrev pub SameFlags : NamesValue → NamesValue → Type 0
SameFlags s t = (f : FileId) → flags_at t f ≡ flags_at s f

pub flags_on : (s t : NamesValue) → SameFlags s t → (f : FileId) → AreFlagsUpTo (flags_at s f) (flags_at t f)
flags_on s t same f = subst (AreFlagsUpTo (flags_at s f)) (sym (same f)) (flags_themselves (flags_at s f))

-- where nothing begins
pub before_on : (a b : Store) → HoldsAsBefore a b
    → ((f : FileId) (n : ℕ) → birth_at a f ≡ Some n → AreFlagsUpTo (flags_at a.names f) (flags_at b.names f)) → GoesOn a b
before_on a b before flags = record {
  goes = λ f n there. inl (before.births f ∙ there, flags f n there);
  count = before.given;
  newly = newly_of a b (moves_as_before a b before);
}

pub same_goes_on : (a b : Store) → HoldsAsBefore a b → SameFlags a.names b.names → GoesOn a b
same_goes_on a b before flags = before_on a b before (λ f n there. flags_on a.names b.names flags f)

-- and where births are given out
pub births_on : (a b : Store) → Goes a b → ((f : FileId) → birth_at b f ≡ birth_at a f) → SameFlags a.names b.names → GoesOn a b
births_on a b g births flags = record {
  goes = λ f n there. inl (births f ∙ there, flags_on a.names b.names flags f);
  count = g.count;
  newly = λ f n h. elim (g.newly f n (to_has b f n h)) [ inl was ↦ inl (from_has a f n was) | inr new ↦ inr new ];
}

-- ---- pieces

same_own : (s t : NamesValue) → ((f : FileId) → own_at t f ≡ own_at s f) → SameFlags s t
same_own s t same f = ap (λ (o : Option Attributes). (or_blank f o).flags) (same f)

pub fill_flags : (s : NamesValue) (f : FileId) → SameFlags s (fill s f)
fill_flags s f = same_own s (fill s f) (own_kept s f filled (λ x. refl))

pub entry_flags : (a : Store) (d : FileId) (e : Entry) → SameFlags a.names (take_entry a d e).names
entry_flags a d e =
    chosen (λ (b : Store). SameFlags a.names b.names) (is_newer_entry a d e) (put_entry a d e) a
    (same_own a.names (join_entry a.names d e) (own_kept a.names d (with_joined e) (λ x. refl))) (λ f. refl)

-- the place of a thing changes, and its flags stay
module _ (s : NamesValue) (f : FileId) (place : Place) where
  place_here : (o : Option Attributes) → own_at s f ≡ o → flags_at (join_place s f place) f ≡ (or_blank f o).flags
  place_here None there =
      ap (λ (t : NamesValue). flags_at t f) (known_absent s f (with_place place) there)
      ∙ ap (λ (o : Option Attributes). (or_blank f o).flags) there
  place_here (Some own) there = ap (λ (o : Option Attributes). (or_blank f o).flags) (place_same s f place own there)

  place_by : (q : FileId) (t : Bool) → is_same_file f q ≡ t → flags_at (join_place s f place) q ≡ flags_at s q
  place_by q true e =
      let P : FileId → Type 0 = (λ x. flags_at (join_place s f place) x ≡ flags_at s x) in
      subst P (is_same_file-true f q e) (place_here (own_at s f) refl)
  place_by q false apart = ap (λ (o : Option Attributes). (or_blank q o).flags) (place_other s f place q apart)

  joined_flags : SameFlags s (join_place s f place)
  joined_flags q = place_by q (is_same_file f q) refl

pub place_flags : (a : Store) (f : FileId) (place : Place) → SameFlags a.names (take_place a f place).names
place_flags a f place =
    chosen (λ (b : Store). SameFlags a.names b.names) (is_newer_place a f place) (put_place a f place) a
    (joined_flags a.names f place) (λ q. refl)

-- ---- a replica begins, of what was not held

none_at : (o : Option InodeValue) (f : FileId) → is_some o ≡ false → (or_blank f (own_of o)).flags ≡ []
none_at None f away = refl
none_at (Some x) f away = absurd (let z : true ≡ false = away in cc)

-- a replica begins that has no flag
module _ (s : NamesValue) (f : FileId) (own : Attributes) (bare : own.flags ≡ []) (full : Bool) (away : is_some (known s f) ≡ false) where
  begun_by : (q : FileId) (t : Bool) → is_same_file q f ≡ t
      → flags_at (begin_names s f own full) q ≡ flags_at s q
  begun_by q true e =
      let P : FileId → Type 0 = (λ x. flags_at (begin_names s f own full) x ≡ flags_at s x) in
      subst P (sym (is_same_file-true q f e))
      (ap (λ (o : Option InodeValue). (or_blank f (own_of o)).flags) (begun_same s f own full)
      ∙ bare ∙ sym (none_at (known s f) f away))
  begun_by q false apart =
      ap (λ (o : Option InodeValue). (or_blank q (own_of o)).flags) (begun_other s f own full q apart)

  begun_flags : SameFlags s (begin_names s f own full)
  begun_flags q = begun_by q (is_same_file q f) refl

told_flags : (a : Store) (d : FileId) (i : Intent) → SameFlags a.names (take_told a d i).names
told_flags a d (intent.Patch to e target) = entry_flags a d e
told_flags a d (intent.Bye file birth peer peer_birth) = λ f. refl
told_flags a d (intent.Seek file target) = λ f. refl
told_flags a d (intent.Fill file birth target) = λ f. refl
told_flags a d (intent.Confirm dir child target) = λ f. refl
told_flags a d (intent.Leave file peer peer_birth) = λ f. refl

told_in_flags : (a : Store) (d : FileId) (o : Option Intent) → SameFlags a.names (take_told_in a d o).names
told_in_flags a d None = λ f. refl
told_in_flags a d (Some i) = told_flags a d i

patches_flags : (ks : List IntentKey) (a : Store) (d : FileId) → SameFlags a.names (take_patches a d ks).names
patches_flags [] a d f = refl
patches_flags (k ∷ ks) a d f =
    patches_flags ks (take_patch a d k) d f
    ∙ told_in_flags (with_intents a (ended a.intents k)) d (intent_at a.intents k) f

pub begin_flags : (a : Store) (f : FileId) (birth : ℕ) (policy : Policy) (own : Attributes) → own.flags ≡ [] → (full : Bool) → is_held a f ≡ false
    → SameFlags a.names (begin a f birth policy own full).names
begin_flags a f birth policy own bare full away q =
    patches_flags (patches_of f a.intents) (put_new a f birth policy own full) f q
    ∙ begun_flags a.names f own bare full away q

-- and births

born_by : (o : Option Replica) (n : ℕ) → option_map (λ (x : Replica). x.birth) o ≡ Some n → is_some o ≡ true
born_by None n e = absurd (let z : ◌≡◌ {A = Option ℕ} None (Some n) = e in cc)
born_by (Some x) n e = refl

-- of what has a birth something is held
pub held_born : (a : Store) → AreTogether a → (f : FileId) (n : ℕ) → birth_at a f ≡ Some n → is_held a f ≡ true
held_born a together f n there = sym (together f) ∙ born_by (replica_at a f) n there

module _ (a : Store) (f : FileId) (birth : ℕ) (policy : Policy) (own : Attributes) (full : Bool) (away : is_held a f ≡ false)
    (together : AreTogether a) where
  unborn : (q : FileId) (n : ℕ) → is_same_file q f ≡ true → birth_at a q ≡ Some n → ⊥
  unborn q n same there =
      let held = held_born a together q n there in
      let z : true ≡ false = sym held ∙ ap (is_held a) (is_same_file-true q f same) ∙ away in cc

  stays_born : (q : FileId) (n : ℕ) (t : Bool) → is_same_file q f ≡ t → birth_at a q ≡ Some n
      → option_map (λ (x : Replica). x.birth) (cond t (Some (new_replica birth policy)) (replica_at a q)) ≡ Some n
  stays_born q n true same there = absurd (unborn q n same there)
  stays_born q n false apart there = there

  pub begun_births : (q : FileId) (n : ℕ) → birth_at a q ≡ Some n
      → birth_at (begin a f birth policy own full) q ≡ Some n
  begun_births q n there =
      (patches_as_before (put_new a f birth policy own full) f (patches_of f a.intents)).births q
      ∙ ap (option_map (λ (x : Replica). x.birth))
      (lookup-insert_entry file_cmp file_total q f (new_replica birth policy) a.replicas)
      ∙ stays_born q n (is_same_file q f) refl there

-- what has an own state is held
holds_by : (o : Option InodeValue) (own : Attributes) → own_of o ≡ Some own → is_some o ≡ true
holds_by None own e = absurd (let z : ◌≡◌ {A = Option Attributes} None (Some own) = e in cc)
holds_by (Some x) own e = refl

pub held_of : (b : Store) (f : FileId) (own : Attributes) → own_at b.names f ≡ Some own → is_held b f ≡ true
held_of b f own e = holds_by (known b.names f) own e
