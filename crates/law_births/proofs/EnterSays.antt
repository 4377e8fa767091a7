-- What is said of flags, of what is intended, and of edges is said where a server is removed in a
-- view.
use Rattle.std.proofs.Common.{ℕ, ◌≡◌, Bool, true, false, cond, List, [], ◌∷◌, Option, None, Some, All, refl, sym, ap, subst, ◌∙◌}
use Rattle.std.specs.List.{find}
use Rattle.std.specs.Option.{option_map}
use Rattle.std.proofs.lemmas.List.Elements.{All-head, All-tail}
use Rattle.pg_run.specs.pg_base.declared.id.FileId.{FileId}
use Rattle.pg_run.specs.pg_edges.Edges.{without_edge}
use Rattle.pg_run.specs.pg_intent.declared.key.IntentKey.{IntentKey}
use Rattle.pg_run.specs.pg_intent.Intents.{aimed, ended, keys_to, turned, turned_each}
use Rattle.pg_run.specs.pg_intent.Key.{is_for_peer}
use Rattle.pg_run.specs.pg_register.declared.flag.Flag.{Flag}
use Rattle.std.specs.Map.{keys_of}
use Rattle.pg_run.specs.pg_replica.declared.replica.Replica.{Replica}
use Rattle.pg_run.specs.pg_store.declared.store.Store.{Store}
use Rattle.pg_run.specs.pg_store.Beginning.{with_intents}
use Rattle.pg_run.specs.pg_store.Servers.{next_target}
use Rattle.pg_run.specs.pg_store.Store.{replica_at}
use Rattle.pg_run.specs.pg_store.Together.{AreTogether}
use Rattle.pg_run.specs.pg_store.Views.{cut, cut_born, cut_each, enter, listed_birth, turn, with_removed, without_peer}
use Rattle.pg_run.proofs.pg_store.Entered.{enter_found}
use Rattle.law_births.specs.Flags.{SaysStore}
use Rattle.law_births.proofs.Ends.{ends}
use Rattle.law_births.proofs.EndsSay.{AllEnds, SaysEnds, cut_all}
use Rattle.law_births.proofs.Moving.{some_shape}
use Rattle.law_births.proofs.Pieces.{Shape, shape}
use Rattle.law_births.proofs.StoreSays.{say_aimed, say_ended, say_unlink}

-- ---- what it knows and intends

module _ (Q : FileId → Flag → Type 0) (B : FileId → ℕ → ℕ → ℕ → Type 0) (n : ℕ) (server : ℕ) where
  abbrev Says : Store → Type 0
  Says a = SaysStore Q B n a

  cut_says : (a : Store) (file : FileId) (o : Option ℕ) → Says a → Says (cut_born server a file o)
  cut_says a file None k = k
  cut_says a file (Some birth) k = say_unlink Q B n a file server birth k

  cuts_say : (files : List FileId) (a : Store) → Says a → Says (cut_each server a files)
  cuts_say [] a k = k
  cuts_say (file ∷ files) a k =
      cuts_say files (cut server a file) (cut_says a file (listed_birth a file server) k)

  removed_says : (a : Store) → Says a → Says (with_removed a server)
  removed_says a k = record {
    names = record { server = k.names.server; own = k.names.own; cells = k.names.cells };
    intents = k.intents;
  }

  turned_says : (to : ℕ) (a : Store) (q : IntentKey) → Says a → Says (with_intents a (turned a.intents q to))
  turned_says to a q k = by (is_for_peer q)
    where
      by : (t : Bool) → Says (with_intents a (cond t (ended a.intents q) (aimed a.intents q to)))
      by true = say_ended Q B n a q k
      by false = say_aimed Q B n a q to k

  turns_say : (to : ℕ) (qs : List IntentKey) (a : Store) → Says a → Says (with_intents a (turned_each a.intents qs to))
  turns_say to [] a k = k
  turns_say to (q ∷ qs) a k = turns_say to qs (with_intents a (turned a.intents q to)) (turned_says to a q k)

  turn_says : (to : ℕ) (a : Store) → Says a → Says (turn server to a)
  turn_says to a k =
      let m = turns_say to (keys_to server a.intents) a k in
      record { names = m.names; intents = m.intents }

  pub say_enter : (a : Store) → Says a → Says (enter a server)
  say_enter a k =
      let b = cut_each server (with_removed a server) (keys_of a.names.held) in
      turn_says (next_target b server) b (cuts_say (keys_of a.names.held) (with_removed a server) (removed_says a k))

-- ---- its edges

module _ (P : FileId → ℕ → ℕ → Type 0) (a : Store) (server : ℕ) (both : AreTogether a) (k : SaysEnds P a) where
  ends_by : (file : FileId) (n : ℕ) (es : List (ℕ × ℕ)) (o : Option Replica) → replica_at a file ≡ o
      → option_map shape (option_map (without_peer server) o) ≡ Some (n, es) → AllEnds P file es
  ends_by file n es None is there = absurd (let z : ◌≡◌ {A = Option Shape} None (Some (n, es)) = there in cc)
  ends_by file n es (Some x) is there =
      let all : AllEnds P file (ends x.edges) = k file x.birth (ends x.edges) (ap (option_map shape) is) in
      subst (AllEnds P file) (some_shape x.birth n (ends (without_edge x.edges server)) es there).1 (cut_all P file x.edges server all)

  pub ends_enter : SaysEnds P (enter a server)
  ends_enter file n es there =
      ends_by file n es (replica_at a file) refl (sym (ap (option_map shape) (enter_found a server file both)) ∙ there)

-- ---- what is found

found_by : {A : Type 0} (R : A → Type 0) (x y : A) (o : Option A) (t : Bool) → R x → (o ≡ Some y → R y) → cond t (Some x) o ≡ Some y → R y
found_by R x y o true one rest is = subst R (let same : x ≡ y = cc in same) one
found_by R x y o false one rest is = rest is

pub find_has : {A : Type 0} (R : A → Type 0) (test : A → Bool) (xs : List A) (x : A) → All R xs → find test xs ≡ Some x → R x
find_has R test [] x all is = absurd (let z : None ≡ Some x = is in cc)
find_has R test (y ∷ ys) x all is =
    found_by R y x (find test ys) (test y) (All-head R y ys all) (find_has R test ys x (All-tail R y ys all)) is
