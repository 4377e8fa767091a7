-- What a server holds behind a replica that goes.
use Rattle.std.proofs.Common.{ℕ, ◌≡◌, Bool, true, false, cond, not, Option, None, Some, is_some, refl, sym, ap, ◌∙◌}
use Rattle.std.specs.Option.{option_map}
use Rattle.std.specs.BTreeMap.{is_at}
use Rattle.std.proofs.lemmas.Bool.{false≢true}
use Rattle.pg_base.specs.declared.id.FileId.{FileId}
use Rattle.pg_base.specs.Id.{file_cmp}
use Rattle.pg_entries.specs.declared.entry.Entry.{Entry}
use Rattle.pg_names.specs.declared.attributes.Attributes.{Attributes}
use Rattle.pg_names.specs.Names.{InodeValue, cell_at, entry_in, known, own_at, own_of}
use Rattle.pg_replica.specs.declared.replica.Replica.{Replica}
use Rattle.pg_replica.proofs.Going.{replica_behind}
use Rattle.pg_store.specs.declared.store.Store.{Store}
use Rattle.pg_store.specs.Beginning.{let_go}
use Rattle.pg_store.specs.Store.{is_held, replica_at}
use Rattle.pg_store.specs.Together.{AreBirths, AreTogether, birth_at}
use Rattle.pg_store.proofs.Over.{known_behind}

-- what is left of something was there
pub left_some : {A B : Type 0} (f : A → B) (t : Bool) (o : Option A) (b : B) → option_map f (cond t o None) ≡ Some b → option_map f o ≡ Some b
left_some {A} {B} f true o b e = e
left_some {A} {B} f false o b e = absurd (let z : ◌≡◌ {A = Option B} None (Some b) = e in cc)

pub left_none : {A : Type 0} (t : Bool) (o : Option A) → is_some o ≡ false → is_some (cond t o None) ≡ false
left_none true o e = e
left_none false o e = refl

pub left_there : {A : Type 0} (t : Bool) (o : Option A) → is_some (cond t o None) ≡ true → t ≡ true
left_there true o e = refl
left_there false o e = absurd (false≢true e)

module _ (a : Store) (file : FileId) where
  abbrev Left : Store
  Left = let_go a file

  -- whether a thing is another one
  abbrev other : FileId → Bool
  other q = not (is_at (file_cmp file) q)

  -- ---- names

  own_by : (t : Bool) (o : Option InodeValue) (own : Attributes) → own_of (cond t o None) ≡ Some own → own_of o ≡ Some own
  own_by true o own e = e
  own_by false o own e = absurd (let z : ◌≡◌ {A = Option Attributes} None (Some own) = e in cc)

  pub own_left : (q : FileId) (own : Attributes) → own_at Left.names q ≡ Some own → own_at a.names q ≡ Some own
  own_left q own e = own_by (other q) (known a.names q) own (sym (ap own_of (known_behind a file q)) ∙ e)

  cell_by : (child : FileId) (t : Bool) (o : Option InodeValue) (entry : Entry) → entry_in child (cond t o None) ≡ Some entry
      → entry_in child o ≡ Some entry
  cell_by child true o entry e = e
  cell_by child false o entry e = absurd (let z : ◌≡◌ {A = Option Entry} None (Some entry) = e in cc)

  pub cell_left : (dir child : FileId) (entry : Entry) → cell_at Left.names dir child ≡ Some entry → cell_at a.names dir child ≡ Some entry
  cell_left dir child entry e =
      cell_by child (other dir) (known a.names dir) entry (sym (ap (entry_in child) (known_behind a file dir)) ∙ e)

  -- ---- names and replicas

  together_by : (t : Bool) (o : Option Replica) (p : Option InodeValue) → is_some o ≡ is_some p → is_some (cond t o None) ≡ is_some (cond t p None)
  together_by true o p e = e
  together_by false o p e = refl

  pub go_together : AreTogether a → AreTogether Left
  go_together both q =
      ap (λ (o : Option Replica). is_some o) (replica_behind a.replicas file q)
      ∙ together_by (other q) (replica_at a q) (known a.names q) (both q)
      ∙ sym (ap (λ (o : Option InodeValue). is_some o) (known_behind a file q))

  -- ---- births

  pub born_left : (q : FileId) (n : ℕ) → birth_at Left q ≡ Some n → birth_at a q ≡ Some n
  born_left q n e =
      left_some (λ (x : Replica). x.birth) (other q) (replica_at a q) n
      (sym (ap (option_map (λ (x : Replica). x.birth)) (replica_behind a.replicas file q)) ∙ e)

  held_left : (q : FileId) → is_held Left q ≡ true → other q ≡ true
  held_left q e =
      left_there (other q) (known a.names q) (sym (ap (λ (o : Option InodeValue). is_some o) (known_behind a file q)) ∙ e)

  here_by : (q : FileId) (t : Bool) → other q ≡ t → t ≡ true → birth_at Left q ≡ birth_at a q
  here_by q true e here =
      ap (option_map (λ (x : Replica). x.birth)) (replica_behind a.replicas file q ∙ ap (λ (t : Bool). cond t (replica_at a q) None) e)
  here_by q false e here = absurd (false≢true here)

  was_held : (q : FileId) (t : Bool) → other q ≡ t → t ≡ true → is_held Left q ≡ is_held a q
  was_held q true e here =
      ap (λ (o : Option InodeValue). is_some o) (known_behind a file q ∙ ap (λ (t : Bool). cond t (known a.names q) None) e)
  was_held q false e here = absurd (false≢true here)

  pub go_births : AreBirths a → AreBirths Left
  go_births h = record {
    replicas = λ q n e. h.replicas q n (born_left q n e);
    wishes = h.wishes;
    fills = h.fills;
    wished = λ q w e. (
        let k = h.wished q w e in
        (ap (λ (o : Option InodeValue). is_some o) (known_behind a file q) ∙ left_none (other q) (known a.names q) k.0, k.1));
    own = λ q f n t e held. (
        let here = held_left q held in
        here_by q (other q) refl here ∙ h.own q f n t e (sym (was_held q (other q) refl here) ∙ held));
  }
