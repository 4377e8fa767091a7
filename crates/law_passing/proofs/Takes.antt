-- What is found in a list of takes: the places and flags of a thing, by one replica and by any, and
-- all that is held.
use Rattle.std.proofs.Common.{◌≡◌, ◌&&◌, Bool, true, false, cond, List, [], ◌∷◌, flat_map, refl, sym, ap, subst, inl, inr, ◌⊎◌}
use Rattle.std.proofs.lemmas.Bool.{false≢true, and_parts, and_from}
use Rattle.pg_run.specs.pg_base.declared.id.FileId.{FileId}
use Rattle.pg_run.specs.pg_base.Id.{is_same_file}
use Rattle.pg_run.proofs.pg_base.Orders.{is_same_file-refl, is_same_file-true}
use Rattle.pg_run.specs.pg_content.Content.{Among}
use Rattle.pg_run.proofs.pg_content.Members.{any_by, any_found}
use Rattle.pg_run.specs.pg_register.declared.flag.Flag.{Flag}
use Rattle.pg_run.specs.pg_register.declared.place.Place.{Place}
use Rattle.pg_run.specs.Took.{Take, Taker, begun_by, flag_taken_by, flags_taken, held, is_held, is_same_taker, place_taken_by, places_taken}
use Rattle.pg_run.specs.Took.Take.{Began, TookFlag, TookPlace, TookVersion}
use Rattle.pg_run.specs.Took.Taker.{InDir, Itself}
use Rattle.pg_run.specs.Passed.{flag_known_by, flags_known, has_cell, has_taken, place_known_by, places_known}
use Rattle.law_passing.specs.Tells.{HasFlag, HasPlace, KnowsFlag, KnowsPlace}
use Rattle.pg_run.proofs.Lists.{among_pieces, pieces_among}
use Rattle.law_passing.proofs.Lists.{among_file, file_among}

-- ---- replicas

pub taker_true : (a b : Taker) → is_same_taker a b ≡ true → a ≡ b
taker_true Itself Itself h = refl
taker_true Itself (InDir e) h = absurd (false≢true h)
taker_true (InDir d) Itself h = absurd (false≢true h)
taker_true (InDir d) (InDir e) h = ap InDir (is_same_file-true d e h)

pub taker_refl : (a : Taker) → is_same_taker a a ≡ true
taker_refl Itself = refl
taker_refl (InDir d) = is_same_file-refl d

same_two : (a b : Taker) (f g : FileId) → (is_same_taker a b && is_same_file f g) ≡ true → (a ≡ b) × (f ≡ g)
same_two a b f g h =
    let two = and_parts (is_same_taker a b) (is_same_file f g) h in
    (taker_true a b two.0, is_same_file-true f g two.1)

same_itself : (a : Taker) (f : FileId) → (is_same_taker a a && is_same_file f f) ≡ true
same_itself a f = and_from (is_same_taker a a) (is_same_file f f) (taker_refl a) (is_same_file-refl f)

pub same_dir : (d e : FileId) → ◌≡◌ {A = Taker} (InDir d) (InDir e) → d ≡ e
same_dir d e h = cc

-- ---- what a take brings

place_of_parts : (a b : Taker) (f g : FileId) (p q : Place) → a ≡ b → f ≡ g → p ≡ q → TookPlace a f p ≡ TookPlace b g q
place_of_parts a b f g p q h i j = cc

flag_of_parts : (a b : Taker) (f g : FileId) (p q : Flag) → a ≡ b → f ≡ g → p ≡ q → TookFlag a f p ≡ TookFlag b g q
flag_of_parts a b f g p q h i j = cc

-- a list of one, where a test holds
here : {A : Type 0} (t : Bool) (x y : A) → Among y (cond t (x ∷ []) []) → (t ≡ true) × (y ≡ x)
here true x y h = elim h [ inl e ↦ (refl, e) | inr none ↦ absurd none ]
here false x y h = absurd h

there : {A : Type 0} (t : Bool) (x : A) → t ≡ true → Among x (cond t (x ∷ []) [])
there true x h = inl refl
there false x h = absurd (false≢true h)

-- what is found piece by piece was taken, where each piece tells the take that it is of
found_in : {A : Type 0} (piece : Take → List A) (took : A → Take) → ((a : A) (x : Take) → Among a (piece x) → x ≡ took a)
    → (takes : List Take) (a : A) → Among a (flat_map piece takes) → Among (took a) takes
found_in piece took is takes a h =
    let r = among_pieces piece a takes h in
    subst (λ x. Among x takes) (is a r.0 r.2) r.1

-- by whichever replica
known_in : {A : Type 0} (piece : Take → List A) (took : Taker → A → Take)
    → ((a : A) (x : Take) → Among a (piece x) → (by : Taker) × (x ≡ took by a))
    → (takes : List Take) (a : A) → Among a (flat_map piece takes) → (by : Taker) × Among (took by a) takes
known_in piece took is takes a h =
    let r = among_pieces piece a takes h in
    let k = is a r.0 r.2 in
    (k.0, subst (λ x. Among x takes) k.1 r.1)

-- ---- by one replica

module _ (by : Taker) (f : FileId) where
  place_is : (p : Place) (x : Take) → Among p (place_taken_by by f x) → x ≡ TookPlace by f p
  place_is p (TookVersion g s) h = absurd h
  place_is p (TookFlag b g q) h = absurd h
  place_is p (Began g) h = absurd h
  place_is p (TookPlace b g q) h =
      let one = here (is_same_taker b by && is_same_file g f) q p h in
      let two = same_two b by g f one.0 in
      place_of_parts b by g f q p two.0 two.1 (sym one.1)

  pub place_there : (takes : List Take) (p : Place) → Among p (places_taken by f takes) → HasPlace takes by f p
  place_there = found_in (place_taken_by by f) (TookPlace by f) place_is

  pub there_place : (takes : List Take) (p : Place) → HasPlace takes by f p → Among p (places_taken by f takes)
  there_place takes p h = pieces_among (place_taken_by by f) p (TookPlace by f p) takes h (there (is_same_taker by by && is_same_file f f) p (same_itself by f))

  flag_is : (g : Flag) (x : Take) → Among g (flag_taken_by by f x) → x ≡ TookFlag by f g
  flag_is g (TookVersion e s) h = absurd h
  flag_is g (TookPlace b e q) h = absurd h
  flag_is g (Began e) h = absurd h
  flag_is g (TookFlag b e q) h =
      let one = here (is_same_taker b by && is_same_file e f) q g h in
      let two = same_two b by e f one.0 in
      flag_of_parts b by e f q g two.0 two.1 (sym one.1)

  pub flag_there : (takes : List Take) (g : Flag) → Among g (flags_taken by f takes) → HasFlag takes by f g
  flag_there = found_in (flag_taken_by by f) (TookFlag by f) flag_is

  pub there_flag : (takes : List Take) (g : Flag) → HasFlag takes by f g → Among g (flags_taken by f takes)
  there_flag takes g h = pieces_among (flag_taken_by by f) g (TookFlag by f g) takes h (there (is_same_taker by by && is_same_file f f) g (same_itself by f))

-- ---- by any

module _ (f : FileId) where
  known_is : (p : Place) (x : Take) → Among p (place_known_by f x) → (by : Taker) × (x ≡ TookPlace by f p)
  known_is p (TookVersion g s) h = absurd h
  known_is p (TookFlag b g q) h = absurd h
  known_is p (Began g) h = absurd h
  known_is p (TookPlace b g q) h =
      let one = here (is_same_file g f) q p h in
      (b, place_of_parts b b g f q p refl (is_same_file-true g f one.0) (sym one.1))

  pub place_known : (takes : List Take) (p : Place) → Among p (places_known f takes) → KnowsPlace takes f p
  place_known = known_in (place_known_by f) (λ by. TookPlace by f) known_is

  pub known_place : (takes : List Take) (p : Place) → KnowsPlace takes f p → Among p (places_known f takes)
  known_place takes p h = pieces_among (place_known_by f) p (TookPlace h.0 f p) takes h.1 (there (is_same_file f f) p (is_same_file-refl f))

  flag_known_is : (g : Flag) (x : Take) → Among g (flag_known_by f x) → (by : Taker) × (x ≡ TookFlag by f g)
  flag_known_is g (TookVersion e s) h = absurd h
  flag_known_is g (TookPlace b e q) h = absurd h
  flag_known_is g (Began e) h = absurd h
  flag_known_is g (TookFlag b e q) h =
      let one = here (is_same_file e f) q g h in
      (b, flag_of_parts b b e f q g refl (is_same_file-true e f one.0) (sym one.1))

  pub flag_known : (takes : List Take) (g : Flag) → Among g (flags_known f takes) → KnowsFlag takes f g
  flag_known = known_in (flag_known_by f) (λ by. TookFlag by f) flag_known_is

  pub known_flag : (takes : List Take) (g : Flag) → KnowsFlag takes f g → Among g (flags_known f takes)
  known_flag takes g h = pieces_among (flag_known_by f) g (TookFlag h.0 f g) takes h.1 (there (is_same_file f f) g (is_same_file-refl f))

-- ---- cells

-- a directory has a cell where its replica took a place or a flag of the child
abbrev pub HasEntry : List Take → FileId → FileId → Type 0
HasEntry takes d c = ((p : Place) × HasPlace takes (InDir d) c p) ⊎ ((g : Flag) × HasFlag takes (InDir d) c g)

module _ (d c : FileId) where
  entry_take : (takes : List Take) (x : Take) → Among x takes → has_taken d c x ≡ true → HasEntry takes d c
  entry_take takes (TookVersion g s) h t = absurd (false≢true t)
  entry_take takes (Began g) h t = absurd (false≢true t)
  entry_take takes (TookPlace b g p) h t =
      let two = same_two b (InDir d) g c t in
      inl (p, subst (λ x. Among x takes) (place_of_parts b (InDir d) g c p p two.0 two.1 refl) h)
  entry_take takes (TookFlag b g p) h t =
      let two = same_two b (InDir d) g c t in
      inr (p, subst (λ x. Among x takes) (flag_of_parts b (InDir d) g c p p two.0 two.1 refl) h)

  pub entry_there : (takes : List Take) → has_cell d c takes ≡ true → HasEntry takes d c
  entry_there takes h = let r = any_found (has_taken d c) takes h in entry_take takes r.0 r.1 r.2

  pub there_entry : (takes : List Take) → HasEntry takes d c → has_cell d c takes ≡ true
  there_entry takes (inl h) = any_by (has_taken d c) takes (TookPlace (InDir d) c h.0) h.1 (same_itself (InDir d) c)
  there_entry takes (inr h) = any_by (has_taken d c) takes (TookFlag (InDir d) c h.0) h.1 (same_itself (InDir d) c)

-- ---- what is held

began_is : (f : FileId) (x : Take) → Among f (begun_by x) → x ≡ Began f
began_is f (TookVersion g s) h = absurd h
began_is f (TookPlace b g p) h = absurd h
began_is f (TookFlag b g p) h = absurd h
began_is f (Began g) (inl e) = ap Began (sym e)
began_is f (Began g) (inr none) = absurd none

-- it is what began
pub held_began : (takes : List Take) (f : FileId) → is_held f takes ≡ true → Among (Began f) takes
held_began takes f h = found_in begun_by Began began_is takes f (file_among f (held takes) h)

pub began_held : (takes : List Take) (f : FileId) → Among (Began f) takes → is_held f takes ≡ true
began_held takes f h = among_file f (held takes) (pieces_among begun_by f (Began f) takes h (inl refl))
