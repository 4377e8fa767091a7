-- What comes to a server and is not newer than what it has, and what a test leaves or takes.
use Rattle.std.proofs.Common.{ℕ, ◌≡◌, ◌+◌, ◌&&◌, Bool, true, false, cond, refl, sym, ap, ◌∙◌}
use Rattle.pg_base.specs.declared.id.FileId.{FileId}
use Rattle.pg_register.specs.declared.flag.Flag.{Flag}
use Rattle.pg_register.specs.declared.place.Place.{Place}
use Rattle.pg_names.specs.Names.{NamesValue, is_flag_new, is_place_new, join_flag, join_place, own_at}
use Rattle.pg_replica.specs.Replicas.{ByFile}
use Rattle.pg_store.specs.declared.store.Store.{Store}
use Rattle.pg_store.specs.declared.store.Store.TheInside.{Inside}
use Rattle.pg_store.specs.Store.{take_flag, take_place, with_drawn, with_names}
use Rattle.pg_store.proofs.Stays.{old_flag, old_place}

-- what clauses see of the fields of a store
abbrev pub seen : Inside → Store
seen s = record {
  servers = s.servers;
  tags = s.tags;
  files = s.files;
  births = s.births;
  names = s.names;
  replicas = s.replicas;
  announced = s.announced;
  intents = s.intents;
  wishes = s.wishes;
}

kept_by : (a b c : Store) (t : Bool) → t ≡ false → a ≡ c → a ≡ cond t b c
kept_by a b c true h same = absurd (let k : true ≡ false = h in cc)
kept_by a b c false h same = same

module _ (a : Store) (file : FileId) (names : NamesValue) (news : Bool) where
  pub old_place_taken : (place : Place) → names ≡ join_place a.names file place
      → news ≡ is_place_new (own_at a.names file) place → news ≡ false → with_names a names ≡ take_place a file place
  old_place_taken place joined told none =
      let old : is_place_new (own_at a.names file) place ≡ false = sym told ∙ none in
      kept_by (with_names a names) _ a _ old (ap (with_names a) (joined ∙ old_place a.names file place old))

  pub old_flag_taken : (flag : Flag) → names ≡ join_flag a.names file flag
      → news ≡ is_flag_new (own_at a.names file) flag → news ≡ false → with_names a names ≡ take_flag a file flag
  old_flag_taken flag joined told none =
      let old : is_flag_new (own_at a.names file) flag ≡ false = sym told ∙ none in
      kept_by (with_names a names) _ a _ old (ap (with_names a) (joined ∙ old_flag a.names file flag old))

-- ---- tags and replicas that a test decides

abbrev drawn_to : Store → ℕ → ByFile → Store
drawn_to a tags replicas = record a { tags = tags; replicas = replicas }

pub drawn_if : (a : Store) (n tags : ℕ) (rs new : ByFile) (t : Bool) → tags ≡ cond t (a.tags + n) a.tags → new ≡ cond t rs a.replicas
    → drawn_to a tags new ≡ cond t (with_drawn a n rs) a
drawn_if a n tags rs new true drew changed = ap (λ z. drawn_to a z new) drew ∙ ap (drawn_to a (a.tags + n)) changed
drawn_if a n tags rs new false drew changed = ap (λ z. drawn_to a z new) drew ∙ ap (drawn_to a a.tags) changed

pub changed_if : (a : Store) (rs new : ByFile) (t : Bool) → new ≡ cond t rs a.replicas
    → drawn_to a a.tags new ≡ cond t (drawn_to a a.tags rs) a
changed_if a rs new true changed = ap (drawn_to a a.tags) changed
changed_if a rs new false changed = ap (drawn_to a a.tags) changed

abbrev pub raised_to : Store → ℕ → ByFile → NamesValue → Store
raised_to a tags replicas names = record a { tags = tags; replicas = replicas; names = names }

-- the test held, and the greatest time rose; or it did not
pub raised_if : (a : Store) (n tags : ℕ) (rs new : ByFile) (names : NamesValue) (t : Bool) → t ≡ true
    → tags ≡ cond t (a.tags + n) a.tags → new ≡ cond t rs a.replicas
    → raised_to a tags new names ≡ cond t (with_names (with_drawn a n rs) names) a
raised_if a n tags rs new names true h drew changed =
    ap (λ z. raised_to a z new names) drew ∙ ap (λ zs. raised_to a (a.tags + n) zs names) changed
raised_if a n tags rs new names false h drew changed = cc

-- what is done behind a test that held
pub chosen_then : (f : Store → Store) (b a : Store) (t : Bool) → t ≡ true → f (cond t b a) ≡ cond t (f b) a
chosen_then f b a true h = refl
chosen_then f b a false h = cc

pub left_if : (a : Store) (n tags : ℕ) (rs new : ByFile) (b : Store) (t : Bool) → t ≡ false
    → tags ≡ cond t (a.tags + n) a.tags → new ≡ cond t rs a.replicas → drawn_to a tags new ≡ cond t b a
left_if a n tags rs new b true h drew changed = cc
left_if a n tags rs new b false h drew changed = ap (λ z. drawn_to a z new) drew ∙ ap (drawn_to a a.tags) changed

pub and_none : (b c : Bool) → c ≡ false → false ≡ (b && c)
and_none true c h = sym h
and_none false c h = refl
