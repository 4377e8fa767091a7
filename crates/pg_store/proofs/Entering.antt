-- A server enters a view: what is held, and the births, stay as they were.
use Rattle.std.proofs.Common.{ℕ, ◌≡◌, ◌==◌, arith, Bool, true, false, cond, Option, None, Some, inl, List, [], ◌∷◌, refl, sym, ap, ◌∙◌}
use Rattle.std.specs.Map.{keys_of}
use Rattle.std.proofs.lemmas.Bool.{false≢true}
use Rattle.pg_base.specs.declared.id.FileId.{FileId}
use Rattle.pg_intent.specs.declared.intent.Intent.{Intent}
use Rattle.pg_intent.specs.declared.intent.Intent.TheVariants as intent
use Rattle.pg_intent.specs.declared.key.IntentKey.{IntentKey}
use Rattle.pg_intent.specs.Key.{is_for_peer}
use Rattle.pg_intent.specs.Intents.{aimed, ended, keys_to, turned, turned_each}
use Rattle.pg_names.specs.Names.{remove_server}
use Rattle.pg_replica.specs.Replicas.{is_of_birth, replica_in}
use Rattle.pg_store.specs.declared.store.Store.{Store}
use Rattle.pg_store.specs.declared.wishes.Wish.{Wish}
use Rattle.pg_store.specs.Store.{is_held, with_names}
use Rattle.pg_store.specs.Beginning.{with_intents}
use Rattle.pg_store.specs.Births.{fill_at, is_fill_at, wish_at, with_wishes}
use Rattle.pg_store.specs.Servers.{next_target}
use Rattle.pg_store.specs.Together.{AreBirths, AreTogether, BirthsMove, HoldsAsBefore}
use Rattle.pg_store.specs.Views.{cut, cut_born, cut_each, enter, listed_birth, turn, with_removed}
use Rattle.pg_store.specs.Wishes.{aim_each, aim_wish, is_with_birth, wished_of}
use Rattle.pg_store.proofs.Aiming.{aim_births, aim_was, aimed_births, aimed_there}
use Rattle.pg_store.proofs.Given.{births_as_before}
use Rattle.pg_store.proofs.Over.{asked_by, moves_as_before, moves_itself, moves_then, open_by}
use Rattle.pg_store.proofs.Pairs.{as_before, ended_as_before, names_as_before, then_as_before, together_as_before, unlink_as_before}

-- ---- edges that go

module _ (server : ℕ) where
  cut_by : (a : Store) (file : FileId) (o : Option ℕ) → HoldsAsBefore a (cut_born server a file o)
  cut_by a file None = as_before a
  cut_by a file (Some birth) = unlink_as_before a file server birth

  pub cut_as_before : (a : Store) (file : FileId) → HoldsAsBefore a (cut server a file)
  cut_as_before a file = cut_by a file (listed_birth a file server)

  pub cuts_as_before : (files : List FileId) (a : Store) → HoldsAsBefore a (cut_each server a files)
  cuts_as_before [] a = as_before a
  cuts_as_before (file ∷ files) a =
      then_as_before a (cut server a file) (cut_each server (cut server a file) files) (cut_as_before a file)
      (cuts_as_before files (cut server a file))

  pub removed_as_before : (a : Store) → HoldsAsBefore a (with_removed a server)
  removed_as_before a =
      let was = names_as_before a (remove_server a.names server) (λ q. refl) in
      record { held = was.held; births = was.births; given = was.given; wishes = was.wishes; fills = was.fills }

  -- what a server holds before others are asked
  abbrev pub Cut : Store → Store
  Cut a = cut_each server (with_removed a server) (keys_of a.names.held)

  pub entered_as_before : (a : Store) → HoldsAsBefore a (Cut a)
  entered_as_before a =
      then_as_before a (with_removed a server) (Cut a) (removed_as_before a)
      (cuts_as_before (keys_of a.names.held) (with_removed a server))

-- ---- intentions that ask another server

with_birth_is : (w v : Wish) (n : ℕ) → v.birth ≡ w.birth → is_with_birth (Some w) n ≡ true → is_with_birth (Some v) n ≡ true
with_birth_is w v n same e = ap (λ m. m == n) same ∙ e

-- a wish and a Fill that have the births that they had
module _ (a b : Store) (births : b.births ≡ a.births) (names : b.names ≡ a.names) (replicas : b.replicas ≡ a.replicas)
    (wishes : (q : FileId) (w : Wish) → wish_at b q ≡ Some w → (v : Wish) × (wish_at a q ≡ Some v) × (v.birth ≡ w.birth))
    (fills : (q f : FileId) (n u : ℕ) → fill_at b q ≡ Some (intent.Fill f n u) → (v : ℕ) × (fill_at a q ≡ Some (intent.Fill f n v))) where
  wish_was : (q : FileId) (n : ℕ) (o : Option Wish) → wish_at b q ≡ o → is_with_birth o n ≡ true → is_with_birth (wish_at a q) n ≡ true
  wish_was q n None there e = absurd (false≢true e)
  wish_was q n (Some w) there e =
      let was = wishes q w there in
      ap (λ o. is_with_birth o n) was.1 ∙ with_birth_is w was.0 n was.2 e

  fill_was : (q : FileId) (n : ℕ) (o : Option Intent) → fill_at b q ≡ o → is_fill_at o n ≡ true → is_fill_at (fill_at a q) n ≡ true
  fill_was q n None there e = absurd (false≢true e)
  fill_was q n (Some (intent.Fill f m u)) there e =
      let was = fills q f m u there in
      ap (λ o. is_fill_at o n) was.1 ∙ e
  fill_was q n (Some (intent.Bye f m peer c)) there e = absurd (false≢true e)
  fill_was q n (Some (intent.Seek f t)) there e = absurd (false≢true e)
  fill_was q n (Some (intent.Patch dir entry t)) there e = absurd (false≢true e)
  fill_was q n (Some (intent.Confirm dir child t)) there e = absurd (false≢true e)
  fill_was q n (Some (intent.Leave f peer c)) there e = absurd (false≢true e)

  pub asking_moves : BirthsMove a b
  asking_moves = record {
    given = omega (arith, births);
    held = λ q n h. inl (ap (λ rs. is_of_birth (replica_in rs q) n) (sym replicas) ∙ h);
    asked = λ q n h. inl (asked_by (is_with_birth (wish_at b q) n) (is_held b q) (is_fill_at (fill_at b q) n)
        (is_with_birth (wish_at a q) n) (is_held a q) (is_fill_at (fill_at a q) n)
        (wish_was q n (wish_at b q) refl)
        (λ away filled. open_by (is_held a q) (is_fill_at (fill_at a q) n)
        (ap (λ ns. is_held (with_names a ns) q) (sym names) ∙ away) (fill_was q n (fill_at b q) refl filled))
        h);
  }

-- one intention
module _ (to : ℕ) where
  turned_births : (a : Store) (k : IntentKey) → AreBirths a → AreBirths (with_intents a (turned a.intents k to))
  turned_births a k h = by (is_for_peer k)
    where
      by : (t : Bool) → AreBirths (with_intents a (cond t (ended a.intents k) (aimed a.intents k to)))
      by true = births_as_before a (with_intents a (ended a.intents k)) (ended_as_before a k) h
      by false = aimed_births a k to h

  turned_moves : (a : Store) (k : IntentKey) → BirthsMove a (with_intents a (turned a.intents k to))
  turned_moves a k = by (is_for_peer k)
    where
      by : (t : Bool) → BirthsMove a (with_intents a (cond t (ended a.intents k) (aimed a.intents k to)))
      by true = moves_as_before a (with_intents a (ended a.intents k)) (ended_as_before a k)
      by false =
          asking_moves a (with_intents a (aimed a.intents k to)) refl refl refl (λ q w there. (w, there, refl))
          (λ q f n u there. aimed_there a k to q f n u there)

  -- some, one behind another
  pub turns_births : (ks : List IntentKey) (a : Store) → AreBirths a → AreBirths (with_intents a (turned_each a.intents ks to))
  turns_births [] a h = h
  turns_births (k ∷ ks) a h = turns_births ks (with_intents a (turned a.intents k to)) (turned_births a k h)

  pub turns_moves : (ks : List IntentKey) (a : Store) → BirthsMove a (with_intents a (turned_each a.intents ks to))
  turns_moves [] a = moves_itself a
  turns_moves (k ∷ ks) a =
      let b = with_intents a (turned a.intents k to) in
      moves_then a b (with_intents a (turned_each b.intents ks to)) (turned_moves a k) (turns_moves ks b)

  -- wishes
  pub aims_births : (files : List FileId) (a : Store) → AreBirths a → AreBirths (with_wishes a (aim_each a.wishes files to))
  aims_births [] a h = h
  aims_births (file ∷ files) a h =
      aims_births files (with_wishes a (aim_wish a.wishes file to)) (aim_births a file to h)

  pub aims_moves : (files : List FileId) (a : Store) → BirthsMove a (with_wishes a (aim_each a.wishes files to))
  aims_moves [] a = moves_itself a
  aims_moves (file ∷ files) a =
      let b = with_wishes a (aim_wish a.wishes file to) in
      moves_then a b (with_wishes a (aim_each b.wishes files to))
      (asking_moves a b refl refl refl (λ q w there. aim_was a file to q w there) (λ q f n u there. (u, there)))
      (aims_moves files b)

  -- all that asked a server
  module _ (server : ℕ) (a : Store) where
    abbrev Intended : Store
    Intended = with_intents a (turned_each a.intents (keys_to server a.intents) to)

    pub turn_births : AreBirths a → AreBirths (turn server to a)
    turn_births h = aims_births (wished_of server a.wishes) Intended (turns_births (keys_to server a.intents) a h)

    pub turn_moves : BirthsMove a (turn server to a)
    turn_moves =
        moves_then a Intended (turn server to a) (turns_moves (keys_to server a.intents) a)
        (aims_moves (wished_of server a.wishes) Intended)

-- ---- the view

module _ (a : Store) (server : ℕ) where
  abbrev Before : Store
  Before = Cut server a

  abbrev aim : ℕ
  aim = next_target Before server

  pub enter_together : AreTogether a → AreTogether (enter a server)
  enter_together h =
      together_as_before a Before (entered_as_before server a) h

  pub enter_births : AreBirths a → AreBirths (enter a server)
  enter_births h = turn_births aim server Before (births_as_before a Before (entered_as_before server a) h)

  pub enter_moves : BirthsMove a (enter a server)
  enter_moves =
      moves_then a Before (enter a server) (moves_as_before a Before (entered_as_before server a))
      (turn_moves aim server Before)
