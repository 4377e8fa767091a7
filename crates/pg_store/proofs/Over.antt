-- Births that are over stay over, and a replica that goes leaves its birth over.
use Rattle.std.proofs.Common.{ℕ, ◌≡◌, ◌&&◌, ◌||◌, arith, Bool, true, false, cond, not, Option, None, Some, is_some, List, [], ◌∷◌, inl, inr, refl, sym, ap, subst, ◌∙◌}
use Rattle.std.specs.List.{find}
use Rattle.std.specs.Option.{option_map}
use Rattle.std.specs.BTreeMap.{is_at}
use Rattle.std.proofs.lemmas.Bool.{and_parts, false≢true, le-leb, leb-true, not-true, or_right}
use Rattle.std.specs.Prelude.{◌↔◌, nat_le}
use Rattle.pg_base.specs.declared.id.FileId.{FileId}
use Rattle.pg_base.specs.Id.{file_cmp, is_same_file}
use Rattle.pg_base.proofs.Maps.{lookup-where_key}
use Rattle.pg_base.proofs.Orders.{file_exact, is_same_file-refl, is_same_file-true}
use Rattle.pg_intent.specs.declared.intent.Intent.{Intent}
use Rattle.pg_intent.specs.declared.intent.Intent.TheVariants as intent
use Rattle.pg_intent.specs.declared.key.IntentKey.TheVariants as key
use Rattle.pg_intent.specs.Intent.{is_about}
use Rattle.pg_intent.specs.Intents.{has_key, intent_at}
use Rattle.pg_names.specs.Names.{known}
use Rattle.pg_replica.specs.declared.replica.Replica.{Replica}
use Rattle.pg_replica.specs.Replicas.{is_of_birth}
use Rattle.pg_replica.proofs.Going.{replica_behind}
use Rattle.pg_store.specs.declared.store.Store.{Store}
use Rattle.pg_store.specs.declared.wishes.Wish.{Wish}
use Rattle.pg_store.specs.Beginning.{let_go}
use Rattle.pg_store.specs.Births.{fill_at, has_birth, is_fill_at, is_over, is_pending, wish_at}
use Rattle.pg_store.specs.Store.{is_held, replica_at}
use Rattle.pg_store.specs.Together.{AreBirths, AreTogether, BirthsMove, HoldsAsBefore, IsOver, birth_at}
use Rattle.pg_store.specs.Wishes.{is_with_birth}

-- ---- the test

both : (s t u : Bool) → s ≡ true → t ≡ false → u ≡ false → (s && (not t && not u)) ≡ true
both s t u a b c = ap (λ z. z && (not t && not u)) a ∙ ap (λ z. not z && not u) b ∙ ap not c

pub over_tested : (a : Store) (file : FileId) (n : ℕ) → is_over a file n ≡ true ↔ IsOver a file n
over_tested a file n = (
  λ e. (
      let one = and_parts (nat_le n a.births) (not (has_birth a file n) && not (is_pending a file n)) e in
      let two = and_parts (not (has_birth a file n)) (not (is_pending a file n)) one.1 in
      record { given = leb-true n a.births one.0; away = not-true (has_birth a file n) two.0; unasked = not-true (is_pending a file n) two.1 }),
  λ o. both (nat_le n a.births) (has_birth a file n) (is_pending a file n) (le-leb n a.births o.given) o.away o.unasked,
)

-- ---- births move one way

pub over_stays : (a b : Store) (file : FileId) (n : ℕ) → BirthsMove a b → IsOver a file n → IsOver b file n
over_stays a b file n m o = record {
  given = (let lt = o.given in let le = m.given in omega arith);
  away = by_held (has_birth b file n) refl;
  unasked = by_asked (is_pending b file n) refl;
}
  where
    by_held : (t : Bool) → has_birth b file n ≡ t → t ≡ false
    by_held false e = refl
    by_held true e = elim (m.held file n e) [
      | inl h ↦ absurd (false≢true (sym o.away ∙ h))
      | inr r ↦ elim r [
        | inl p ↦ absurd (false≢true (sym o.unasked ∙ p))
        | inr lt ↦ absurd (let le = o.given in omega arith)
      ]
    ]

    by_asked : (t : Bool) → is_pending b file n ≡ t → t ≡ false
    by_asked false e = refl
    by_asked true e = elim (m.asked file n e) [
      | inl p ↦ absurd (false≢true (sym o.unasked ∙ p))
      | inr lt ↦ absurd (let le = o.given in omega arith)
    ]

pub moves_itself : (a : Store) → BirthsMove a a
moves_itself a = record { given = omega arith; held = λ q n h. inl h; asked = λ q n h. inl h }

pub moves_then : (a b c : Store) → BirthsMove a b → BirthsMove b c → BirthsMove a c
moves_then a b c one two = record {
  given = (let f = one.given in let g = two.given in omega arith);
  held = λ q n h. elim (two.held q n h) [
    | inl k ↦ one.held q n k
    | inr r ↦ elim r [
      | inl p ↦ inr (one.asked q n p)
      | inr lt ↦ inr (inr (let f = one.given in omega arith))
    ]
  ];
  asked = λ q n h. elim (two.asked q n h) [
    | inl p ↦ one.asked q n p
    | inr lt ↦ inr (let f = one.given in omega arith)
  ];
}

-- ---- where nothing begins

same_some : (m n : ℕ) → ◌≡◌ {A = Option ℕ} (Some m) (Some n) → m ≡ n
same_some m n e = cc

same_birth : (o p : Option Replica) (n : ℕ) → option_map (λ x. x.birth) o ≡ option_map (λ x. x.birth) p → is_of_birth o n ≡ is_of_birth p n
same_birth None None n e = refl
same_birth None (Some y) n e = absurd (let z : ◌≡◌ {A = Option ℕ} None (Some y.birth) = e in cc)
same_birth (Some x) None n e = absurd (let z : ◌≡◌ {A = Option ℕ} (Some x.birth) None = e in cc)
same_birth (Some x) (Some y) n e = ap (λ m. is_of_birth (Some (record y { birth = m })) n) (same_some x.birth y.birth e)

wish_stays : (o p : Option Wish) (n : ℕ) → ((w : Wish) → o ≡ Some w → p ≡ Some w) → is_with_birth o n ≡ true → is_with_birth p n ≡ true
wish_stays None p n h e = absurd (false≢true e)
wish_stays (Some w) p n h e = ap (λ q. is_with_birth q n) (h w refl) ∙ e

fill_stays : (o p : Option Intent) (n : ℕ) → ((i : Intent) → o ≡ Some i → p ≡ Some i) → is_fill_at o n ≡ true → is_fill_at p n ≡ true
fill_stays None p n h e = absurd (false≢true e)
fill_stays (Some i) p n h e = ap (λ q. is_fill_at q n) (h i refl) ∙ e

-- what was to come is to come: with the wish, or with the Fill of what is not held
pub asked_by : (s h t u k v : Bool) → (s ≡ true → u ≡ true) → (h ≡ false → t ≡ true → (not k && v) ≡ true) → (s || (not h && t)) ≡ true → (u || (not k && v)) ≡ true
asked_by true h t u k v f g e = ap (λ b. b || (not k && v)) (f refl)
asked_by false true t u k v f g e = absurd (false≢true e)
asked_by false false t u k v f g e = or_right u (not k && v) (g refl e)

pub open_by : (k v : Bool) → k ≡ false → v ≡ true → (not k && v) ≡ true
open_by k v a b = ap (λ z. not z && v) a ∙ b

module _ (a b : Store) where
  pub moves_as_before : HoldsAsBefore a b → BirthsMove a b
  moves_as_before k = record {
    given = k.given;
    held = λ q n h. inl (sym (same_birth (replica_at b q) (replica_at a q) n (k.births q)) ∙ h);
    asked = λ q n h. inl (asked_by (is_with_birth (wish_at b q) n) (is_held b q) (is_fill_at (fill_at b q) n)
        (is_with_birth (wish_at a q) n) (is_held a q) (is_fill_at (fill_at a q) n)
        (wish_stays (wish_at b q) (wish_at a q) n (k.wishes q))
        (λ away filled. open_by (is_held a q) (is_fill_at (fill_at a q) n) (sym (k.held q) ∙ away) (fill_stays (fill_at b q) (fill_at a q) n (k.fills q) filled))
        h);
  }

-- ---- a replica goes

about_fill : (file : FileId) (i : Intent) → has_key (key.Fill file) i ≡ true → is_about file i ≡ true
about_fill file (intent.Fill f birth target) e =
    ap (λ b. b || false) (ap (λ g. is_same_file g file) (sym (is_same_file-true file f e)) ∙ is_same_file-refl file)
about_fill file (intent.Bye f birth peer peer_birth) e = absurd (false≢true e)
about_fill file (intent.Seek f target) e = absurd (false≢true e)
about_fill file (intent.Patch dir entry target) e = absurd (false≢true e)
about_fill file (intent.Confirm dir child target) e = absurd (false≢true e)
about_fill file (intent.Leave f peer peer_birth) e = absurd (false≢true e)

-- what is not about it is no Fill of it
pub none_fills : (file : FileId) (is : List Intent) → find (is_about file) is ≡ None → intent_at is (key.Fill file) ≡ None
none_fills file [] h = refl
none_fills file (i ∷ is) h = by (has_key (key.Fill file) i) (is_about file i) refl refl h (none_fills file is)
  where
    by : (t u : Bool) → has_key (key.Fill file) i ≡ t → is_about file i ≡ u → cond u (Some i) (find (is_about file) is) ≡ None
        → (find (is_about file) is ≡ None → intent_at is (key.Fill file) ≡ None)
        → cond t (Some i) (intent_at is (key.Fill file)) ≡ None
    by t true e about none rest = absurd (let z : ◌≡◌ {A = Option Intent} (Some i) None = none in cc)
    by true false e about none rest = absurd (false≢true (sym about ∙ about_fill file i e))
    by false false e about none rest = rest none

-- what is held behind it
pub known_behind : (a : Store) (file q : FileId) → known (let_go a file).names q ≡ cond (not (is_at (file_cmp file) q)) (known a.names q) None
known_behind a file q =
    lookup-where_key file_cmp (λ k. not (is_at (file_cmp file) k)) q
    (λ x e. ap (λ k. not (is_at (file_cmp file) k)) (sym (file_exact q x e))) a.names.held

left_birth : (t : Bool) (o : Option Replica) (n : ℕ) → is_of_birth (cond t o None) n ≡ true → is_of_birth o n ≡ true
left_birth true o n h = h
left_birth false o n h = absurd (false≢true h)

module _ (a : Store) (file : FileId) where
  pub goes_moves : fill_at a file ≡ None → BirthsMove a (let_go a file)
  goes_moves free = record {
    given = omega arith;
    held = λ q n h. inl (left_birth (not (is_at (file_cmp file) q)) (replica_at a q) n
        (ap (λ o. is_of_birth o n) (sym (replica_behind a.replicas file q)) ∙ h));
    asked = λ q n h. inl (asked_by (is_with_birth (wish_at a q) n) (is_held (let_go a file) q) (is_fill_at (fill_at a q) n)
        (is_with_birth (wish_at a q) n) (is_held a q) (is_fill_at (fill_at a q) n) (λ w. w)
        (λ away filled. open_by (is_held a q) (is_fill_at (fill_at a q) n) (still_away q n (is_at (file_cmp file) q) refl away filled) filled) h);
  }
    where
      still_away : (q : FileId) (n : ℕ) (t : Bool) → is_at (file_cmp file) q ≡ t → is_held (let_go a file) q ≡ false → is_fill_at (fill_at a q) n ≡ true → is_held a q ≡ false
      still_away q n false other away filled =
          ap (λ b. is_some (cond (not b) (known a.names q) None)) (sym other) ∙ ap (λ o. is_some o) (sym (known_behind a file q)) ∙ away
      still_away q n true same away filled =
          let P : FileId → Type 0 = λ f. fill_at a f ≡ None in
          absurd (false≢true (ap (λ o. is_fill_at o n) (sym (subst P (is_same_file-true file q same) free)) ∙ filled))

  pub goes_over : (n : ℕ) → AreTogether a → AreBirths a → birth_at a file ≡ Some n → fill_at a file ≡ None → IsOver (let_go a file) file n
  goes_over n together births has free = record {
    given = (births.replicas file n has).1;
    away = ap (λ o. is_of_birth o n) (replica_behind a.replicas file file
        ∙ ap (λ b. cond (not b) (replica_at a file) None) (is_same_file-refl file));
    unasked = unasked_by (wish_at a file) refl;
  }
    where
      held_so : (o : Option Replica) → option_map (λ x. x.birth) o ≡ Some n → is_some o ≡ true
      held_so None e = absurd (let z : ◌≡◌ {A = Option ℕ} None (Some n) = e in cc)
      held_so (Some x) e = refl

      unasked_by : (o : Option Wish) → wish_at a file ≡ o → is_pending (let_go a file) file n ≡ false
      unasked_by None none =
          ap (λ o. is_with_birth o n || (not (is_held (let_go a file) file) && is_fill_at (fill_at a file) n)) none
          ∙ ap (λ o. not (is_held (let_go a file) file) && is_fill_at o n) free ∙ last (not (is_held (let_go a file) file))
        where
          last : (t : Bool) → (t && false) ≡ false
          last true = refl
          last false = refl
      unasked_by (Some w) some =
          absurd (false≢true (sym (births.wished file w some).0 ∙ sym (together file) ∙ held_so (replica_at a file) has))
