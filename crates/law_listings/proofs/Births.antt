-- Births in an event: what is held has one birth as long as it is, and what is over stays over.
use Rattle.std.proofs.Common.{ℕ, ◌≡◌, ◌≤◌, true, false, Option, None, Some, is_some, refl, sym, ap, subst, ◌∙◌, inl, inr, eq-eqb}
use Rattle.std.specs.Option.{option_map}
use Rattle.std.proofs.lemmas.Bool.{false≢true}
use Rattle.std.proofs.lemmas.Option.{none-some, same_Some}
use Rattle.pg_run.specs.pg_base.declared.id.FileId.{FileId}
use Rattle.pg_run.specs.pg_replica.declared.replica.Replica.{Replica}
use Rattle.pg_run.specs.pg_replica.Replicas.{ByFile, is_of_birth, or_nothing, replica_in}
use Rattle.pg_run.specs.pg_store.declared.store.Store.{Store}
use Rattle.pg_run.specs.pg_store.Births.{birth_of, has_birth, is_pending}
use Rattle.pg_run.specs.pg_store.Store.{is_held, replica_at}
use Rattle.pg_run.specs.pg_store.Together.{AreTogether, BirthsMove, IsOver, birth_at}
use Rattle.pg_run.proofs.pg_store.Over.{moves_then, over_stays}
use Rattle.pg_run.specs.Births.{StaysOrGoes}
use Rattle.law_listings.proofs.PlacesAlone.{GoOn, of_places}
use Rattle.law_listings.proofs.Views.{holds_held, none_away}

-- ---- the birth of what is held

born_by : (o : Option Replica) → is_some o ≡ true → option_map (λ (x : Replica). x.birth) o ≡ Some (or_nothing o).birth
born_by None h = absurd (false≢true h)
born_by (Some x) h = refl

pub born : (a : Store) → AreTogether a → (f : FileId) → is_held a f ≡ true → birth_at a f ≡ Some (birth_of a f)
born a both f h = born_by (replica_at a f) (both f ∙ h)

there_by : (o : Option Replica) (n : ℕ) → option_map (λ (x : Replica). x.birth) o ≡ Some n → is_some o ≡ true
there_by None n h = absurd (none-some n h)
there_by (Some x) n h = refl

-- what has a birth is held
pub held_born : (a : Store) → AreTogether a → (f : FileId) (n : ℕ) → birth_at a f ≡ Some n → is_held a f ≡ true
held_born a both f n h = sym (both f) ∙ there_by (replica_at a f) n h

same_by : (o p : Option Replica) → option_map (λ (x : Replica). x.birth) o ≡ option_map (λ (x : Replica). x.birth) p → (or_nothing o).birth ≡ (or_nothing p).birth
same_by None None h = refl
same_by None (Some y) h = absurd (none-some y.birth h)
same_by (Some x) None h = absurd (none-some x.birth (sym h))
same_by (Some x) (Some y) h = same_Some x.birth y.birth h

pub same_birth : (a b : Store) (f : FileId) → birth_at b f ≡ birth_at a f → birth_of b f ≡ birth_of a f
same_birth a b f h = same_by (replica_at b f) (replica_at a f) h

of_birth : (o : Option Replica) → is_some o ≡ true → is_of_birth o (or_nothing o).birth ≡ true
of_birth None h = absurd (false≢true h)
of_birth (Some x) h = eq-eqb x.birth x.birth refl

-- its birth is not over
pub not_over : (a : Store) → AreTogether a → (f : FileId) (n : ℕ) → is_held a f ≡ true → birth_of a f ≡ n → IsOver a f n → ⊥
not_over a both f n h is over =
    let has : has_birth a f (birth_of a f) ≡ true = of_birth (replica_at a f) (both f ∙ h) in
    false≢true (sym over.away ∙ ap (has_birth a f) (sym is) ∙ has)

-- ---- births as they were

-- the same births are given out, held, and to come
pub record SameBirths (a b : Store) : Type 0 where
  pub given : b.births ≡ a.births
  pub replicas : b.replicas ≡ a.replicas
  pub pending : (f : FileId) (n : ℕ) → is_pending b f n ≡ is_pending a f n

pub births_itself : (a : Store) → SameBirths a a
births_itself a = record { given = refl; replicas = refl; pending = λ f n. refl }

module _ (a b : Store) (k : SameBirths a b) where
  pub birth_on : (f : FileId) → birth_of b f ≡ birth_of a f
  birth_on f = ap (λ (rs : ByFile). (or_nothing (replica_in rs f)).birth) k.replicas

  has_on : (f : FileId) (n : ℕ) → has_birth b f n ≡ has_birth a f n
  has_on f n = ap (λ (rs : ByFile). is_of_birth (replica_in rs f) n) k.replicas

  pub over_on : (f : FileId) (n : ℕ) → IsOver a f n → IsOver b f n
  over_on f n h = record {
    given = subst (λ (m : ℕ). n ≤ m) (sym k.given) h.given;
    away = has_on f n ∙ h.away;
    unasked = k.pending f n ∙ h.unasked;
  }

  pub over_back : (f : FileId) (n : ℕ) → IsOver b f n → IsOver a f n
  over_back f n h = record {
    given = subst (λ (m : ℕ). n ≤ m) k.given h.given;
    away = sym (has_on f n) ∙ h.away;
    unasked = sym (k.pending f n) ∙ h.unasked;
  }

-- ---- births go on

-- where what is held stays, or goes
module _ (a m : Store) (both : AreTogether a) (stays : StaysOrGoes a m) (moves : BirthsMove a m)
    (there : (f : FileId) (n : ℕ) → birth_at m f ≡ Some n → is_held m f ≡ true) where
  same_here : (f : FileId) → is_held a f ≡ true → is_held m f ≡ true → birth_of m f ≡ birth_of a f
  same_here f was now = elim (stays f (birth_of a f) (born a both f was)) [
    | inl h ↦ same_birth a m f (h ∙ sym (born a both f was))
    | inr gone ↦ absurd (false≢true (sym gone.0 ∙ now))
  ]

  gone_here : (f : FileId) → is_held a f ≡ true → is_held m f ≡ false → IsOver m f (birth_of a f)
  gone_here f was none = elim (stays f (birth_of a f) (born a both f was)) [
    | inl h ↦ absurd (false≢true (sym none ∙ there f (birth_of a f) h))
    | inr gone ↦ gone.1
  ]

  pub go_on : GoOn a m
  go_on = record {
    same = λ f was now. same_here f (holds_held a f was) (holds_held m f now);
    past = λ f n h. over_stays a m f n moves h;
    gone = λ f was none. gone_here f (holds_held a f was) (none_away m f none);
  }

-- a store in which places are the same, and births too
pub go_on_same : (a d m : Store) → SameBirths d m → ((f : FileId) → of_places.own m f ≡ of_places.own d f) → GoOn a d → GoOn a m
go_on_same a d m k own g = record {
  same = λ f was now. birth_on d m k f ∙ g.same f was (now.0, sym (own f) ∙ now.1);
  past = λ f n h. over_on d m k f n (g.past f n h);
  gone = λ f was none. over_on d m k f (birth_of a f) (g.gone f was (sym (own f) ∙ none));
}

-- ---- an event

-- a server held a, d behind the first effect, and b in the end
-- was, now: just what is held has a replica
-- first, whole: what was held stays, or goes
-- into, behind: births move one way
pub record AreBirthsOf (a d b : Store) : Type 0 where
  pub was : AreTogether a
  pub now : AreTogether b
  pub first : StaysOrGoes a d
  pub whole : StaysOrGoes a b
  pub into : BirthsMove a d
  pub behind : BirthsMove d b

pub event_goes_on : (a d b : Store) → AreBirthsOf a d b → GoOn a b
event_goes_on a d b k = go_on a b k.was k.whole (moves_then a d b k.into k.behind) (held_born b k.now)
