-- Just what is held has a replica: what changes of this.
use Rattle.std.proofs.Common.{◌≡◌, Bool, true, false, Option, None, Some, is_some, refl, sym, ap, subst, ◌∙◌}
use Rattle.std.specs.Map.{keys_of}
use Rattle.pg_base.specs.declared.id.FileId.{FileId}
use Rattle.pg_cells.specs.pg_names.declared.attributes.Attributes.{Attributes}
use Rattle.pg_cells.specs.pg_names.Names.{InodeValue, NamesValue, is_held, known, own_at, own_of}
use Rattle.pg_cells.specs.pg_house.Facts.{is_among}
use Rattle.pg_cells.proofs.pg_house.Ends.{key_of_held}
use Rattle.pg_cells.proofs.pg_house.Settling.{key_found}
use Rattle.pg_cells.specs.pg_replica.declared.replica.Replica.{Replica}
use Rattle.pg_cells.specs.pg_store.declared.store.Store.{Store}
use Rattle.pg_cells.specs.pg_store.Store.{replica_at}
use Rattle.pg_cells.specs.pg_store.Together.{AreTogether}

-- ---- what is held has an own place and flags

own_by : (o : Option InodeValue) → is_some o ≡ true → (own : Attributes) × (own_of o ≡ Some own)
own_by None h = absurd (let z : false ≡ true = h in cc)
own_by (Some x) h = (x.own, refl)

pub own_of_held : (names : NamesValue) (file : FileId) → is_held names file ≡ true → (own : Attributes) × (own_at names file ≡ Some own)
own_of_held names file h = own_by (known names file) h

held_by : (o : Option InodeValue) (own : Attributes) → own_of o ≡ Some own → is_some o ≡ true
held_by None own h = absurd (let z : None ≡ Some own = h in cc)
held_by (Some x) own h = refl

pub held_of_own : (names : NamesValue) (file : FileId) (own : Attributes) → own_at names file ≡ Some own → is_held names file ≡ true
held_of_own names file own h = held_by (known names file) own h

-- ---- and a replica

found_by : (o : Option Replica) → is_some o ≡ true → (x : Replica) × (o ≡ Some x)
found_by None h = absurd (let z : false ≡ true = h in cc)
found_by (Some x) h = (x, refl)

pub replica_of_held : (a : Store) → AreTogether a → (file : FileId) → is_held a.names file ≡ true → (x : Replica) × (replica_at a file ≡ Some x)
replica_of_held a both file h = found_by (replica_at a file) (both file ∙ h)

none_by : (o : Option Replica) → is_some o ≡ false → o ≡ None
none_by None h = refl
none_by (Some x) h = absurd (let z : true ≡ false = h in cc)

pub no_replica : (a : Store) → AreTogether a → (file : FileId) → is_held a.names file ≡ false → replica_at a file ≡ None
no_replica a both file h = none_by (replica_at a file) (both file ∙ h)

pub held_of_replica : (a : Store) → AreTogether a → (file : FileId) (x : Replica) → replica_at a file ≡ Some x → is_held a.names file ≡ true
held_of_replica a both file x h = sym (both file) ∙ ap (λ (o : Option Replica). is_some o) h

-- ---- where just the same is held

both_ways : (p q : Bool) → (p ≡ true → q ≡ true) → (q ≡ true → p ≡ true) → p ≡ q
both_ways true q f g = sym (f refl)
both_ways false true f g = g refl
both_ways false false f g = refl

held_key : (s : NamesValue) (f : FileId) → is_held s f ≡ true → is_among f (keys_of s.held) ≡ true
held_key s f h = let own = own_of_held s f h in key_of_held s f own.0 own.1

key_held : (s : NamesValue) (f : FileId) → is_among f (keys_of s.held) ≡ true → is_held s f ≡ true
key_held s f h = let found = key_found f s.held h in ap (λ (o : Option InodeValue). is_some o) found.1

pub held_by_keys : (s t : NamesValue) (f : FileId) → keys_of s.held ≡ keys_of t.held → is_held s f ≡ is_held t f
held_by_keys s t f same =
    both_ways (is_held s f) (is_held t f)
    (λ h. key_held t f (subst (λ ks. is_among f ks ≡ true) same (held_key s f h)))
    (λ h. key_held s f (subst (λ ks. is_among f ks ≡ true) (sym same) (held_key t f h)))
