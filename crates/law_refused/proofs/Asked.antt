-- What the definitions find to stand, and whom they ask first, are what the words of the law name.
use Rattle.std.proofs.Common.{ℕ, ◌≡◌, Bool, true, false, cond, List, [], ◌∷◌, find, Option, None, Some, inl, inr, refl, sym, ap, subst, ◌∙◌}
use Rattle.std.specs.BTreeMap.{is_at}
use Rattle.std.specs.List.Sorted.{IsStrictlySortedBy}
use Rattle.std.specs.Map.{keys_of, lookup}
use Rattle.std.specs.Option.{option_map, option_or, unwrap_or}
use Rattle.std.specs.Prelude.{Contains}
use Rattle.std.proofs.lemmas.Bool.{false≢true}
use Rattle.std.proofs.lemmas.Option.{none-some, same_Some}
use Rattle.pg_run.specs.pg_base.declared.id.FileId.{FileId}
use Rattle.pg_run.specs.pg_base.Id.{file_cmp}
use Rattle.pg_run.proofs.pg_base.Orders.{is_same_file-refl, is_same_file-true}
use Rattle.pg_run.specs.pg_entries.declared.entry.Entry.{Entry}
use Rattle.pg_run.specs.pg_intent.declared.intent.Intent.{Intent}
use Rattle.pg_run.specs.pg_intent.declared.intent.Intent.TheVariants as intent
use Rattle.pg_run.specs.pg_intent.declared.key.IntentKey.TheVariants as key
use Rattle.pg_run.specs.pg_intent.Intents.{has_key}
use Rattle.pg_run.specs.pg_lookup.declared.paths.Way.{Way}
use Rattle.pg_run.specs.pg_names.Names.{cell_at}
use Rattle.pg_run.specs.pg_register.declared.flag.Flag.{Flag}
use Rattle.pg_run.specs.pg_register.Flag.{IsByServer, is_live_other}
use Rattle.pg_run.specs.pg_store.declared.store.Store.{Store}
use Rattle.pg_run.specs.pg_store.declared.wishes.Wish.{Wish}
use Rattle.pg_run.specs.pg_store.Seen.{removed_of, server_of}
use Rattle.pg_run.specs.pg_store.Births.{fill_at, wish_at}
use Rattle.pg_run.specs.pg_store.Servers.{next_target}
use Rattle.pg_run.specs.pg_checks.Asking.{cell_in, dir_by, gold_of, holder, standing, wish_by}
use Rattle.pg_run.proofs.Lists.{among_contained, contained_among}
use Rattle.law_turns.specs.Targets.{IsLeastOrNext}
use Rattle.law_turns.proofs.Targets.{Passes, first_is, gold_passes, next_behind}
use Rattle.law_turns.proofs.Targets as targets
use Rattle.law_refused.specs.Asked.{HasNone, IsAskedFirst, IsFillOf, IsFirst, IsStanding, IsToldGold, IsWishFor, NothingStands}
use Rattle.law_refused.proofs.Latest.{came, came_only, came_sorted}

-- ---- what a search finds is the first that suits

module _ {A : Type 0} (test : A → Bool) (Suits : A → Type 0) (into : (x : A) → test x ≡ true → Suits x)
    (from : (x : A) → Suits x → test x ≡ true) where
  first_found : (xs : List A) (x : A) → find test xs ≡ Some x → IsFirst Suits xs x
  first_found [] x h = absurd (none-some x h)
  first_found (y ∷ ys) x h = by (test y) refl h (first_found ys x)
    where
      by : (t : Bool) → test y ≡ t → cond t (Some y) (find test ys) ≡ Some x
          → (find test ys ≡ Some x → IsFirst Suits ys x) → IsFirst Suits (y ∷ ys) x
      by true is e rest =
          let same = same_Some y x e in record {
            before = [];
            behind = ys;
            parts = ap (λ z. z ∷ ys) same;
            suits = into x (ap test (sym same) ∙ is);
            none = λ z there. absurd (contained_among [] z there);
          }
      by false is e rest =
          let r = rest e in record {
            before = y ∷ r.before;
            behind = r.behind;
            parts = ap (λ zs. y ∷ zs) r.parts;
            suits = r.suits;
            none = λ z there suits. elim (contained_among (y ∷ r.before) z there) [
              | inl same ↦ false≢true (sym is ∙ from y (subst Suits same suits))
              | inr later ↦ r.none z (among_contained r.before z later) suits
            ];
          }

  none_found : (xs : List A) → find test xs ≡ None → HasNone Suits xs
  none_found [] h z there suits = absurd (contained_among [] z there)
  none_found (y ∷ ys) h z there suits = by (test y) refl h (none_found ys)
    where
      by : (t : Bool) → test y ≡ t → cond t (Some y) (find test ys) ≡ None → (find test ys ≡ None → HasNone Suits ys) → ⊥
      by true is e rest = none-some y (sym e)
      by false is e rest = elim (contained_among (y ∷ ys) z there) [
        | inl same ↦ false≢true (sym is ∙ from y (subst Suits same suits))
        | inr later ↦ rest e z (among_contained ys z later) suits
      ]

-- ---- what stands

module _ (file : FileId) where
  is_fill : (i : Intent) → has_key (key.Fill file) i ≡ true → IsFillOf file i
  is_fill (intent.Fill f birth target) h =
      (birth, target, ap (λ (g : FileId). intent.Fill g birth target) (sym (is_same_file-true file f h)))
  is_fill i h = absurd (let e : false ≡ true = h in cc)

  fill_is : (i : Intent) → IsFillOf file i → has_key (key.Fill file) i ≡ true
  fill_is i (birth, target, is) =
      subst (λ (j : Intent). has_key (key.Fill file) j ≡ true) (sym is) (is_same_file-refl file)

  is_wish : (e : FileId × Wish) → is_at (file_cmp file) e.0 ≡ true → IsWishFor file e
  is_wish e h = sym (is_same_file-true file e.0 h)

  wish_is : (e : FileId × Wish) → IsWishFor file e → is_at (file_cmp file) e.0 ≡ true
  wish_is e is = ap (is_at (file_cmp file)) is ∙ is_same_file-refl file

  -- a look-up finds what stands at what a search finds
  looked : (es : List (FileId × Wish)) (wish : Wish) → lookup (is_at (file_cmp file)) es ≡ Some wish
      → find (λ (e : FileId × Wish). is_at (file_cmp file) e.0) es ≡ Some (file, wish)
  looked [] wish h = absurd (none-some wish h)
  looked ((f, x) ∷ es) wish h = by (is_at (file_cmp file) f) refl h (looked es wish)
    where
      by : (t : Bool) → is_at (file_cmp file) f ≡ t → cond t (Some x) (lookup (is_at (file_cmp file)) es) ≡ Some wish
          → (lookup (is_at (file_cmp file)) es ≡ Some wish → find (λ (e : FileId × Wish). is_at (file_cmp file) e.0) es ≡ Some (file, wish))
          → cond t (Some (f, x)) (find (λ (e : FileId × Wish). is_at (file_cmp file) e.0) es) ≡ Some (file, wish)
      by true is e rest =
          let there = same_Some x wish e in
          let same = is_same_file-true file f is in cc
      by false is e rest = rest e

  looked_none : (es : List (FileId × Wish)) → lookup (is_at (file_cmp file)) es ≡ None
      → find (λ (e : FileId × Wish). is_at (file_cmp file) e.0) es ≡ None
  looked_none [] h = refl
  looked_none (x ∷ es) h = by (is_at (file_cmp file) x.0) h (looked_none es)
    where
      by : (t : Bool) → cond t (Some x.1) (lookup (is_at (file_cmp file)) es) ≡ None
          → (lookup (is_at (file_cmp file)) es ≡ None → find (λ (e : FileId × Wish). is_at (file_cmp file) e.0) es ≡ None)
          → cond t (Some x) (find (λ (e : FileId × Wish). is_at (file_cmp file) e.0) es) ≡ None
      by true e rest = absurd (none-some x.1 (sym e))
      by false e rest = rest e

  module _ (a : Store) where
    no_fill : fill_at a file ≡ None → HasNone (IsFillOf file) a.intents
    no_fill none = none_found (has_key (key.Fill file)) (IsFillOf file) is_fill fill_is a.intents none

    no_wish : wish_at a file ≡ None → HasNone (IsWishFor file) a.wishes
    no_wish none =
        none_found (λ (e : FileId × Wish). is_at (file_cmp file) e.0) (IsWishFor file) is_wish wish_is a.wishes
        (looked_none a.wishes none)

    the_wish : (wish : Wish) → wish_at a file ≡ Some wish → IsFirst (IsWishFor file) a.wishes (file, wish)
    the_wish wish there =
        first_found (λ (e : FileId × Wish). is_at (file_cmp file) e.0) (IsWishFor file) is_wish wish_is a.wishes (file, wish)
        (looked a.wishes wish there)

    -- what a Fill that stands asks for
    module _ (i : Intent) (found : fill_at a file ≡ Some i) where
      the_fill : IsFirst (IsFillOf file) a.intents i
      the_fill = first_found (has_key (key.Fill file)) (IsFillOf file) is_fill fill_is a.intents i found

      abbrev Asks : Wish
      Asks = record { birth = the_fill.suits.0; target = the_fill.suits.1 }

      asks : wish_by (Some i) ≡ Some Asks
      asks = ap (λ (j : Intent). wish_by (Some j)) the_fill.suits.2

    stands_by : (wish : Wish) (o : Option Intent) → fill_at a file ≡ o → option_or (wish_by o) (wish_at a file) ≡ Some wish → IsStanding a file wish
    stands_by wish None none is = inr (no_fill none, the_wish wish is)
    stands_by wish (Some i) found is =
        let told : Asks i found ≡ wish =
        same_Some (Asks i found) wish
        (sym (ap (λ (o : Option Wish). option_or o (wish_at a file)) (asks i found)) ∙ is) in
        inl (subst (IsFirst (IsFillOf file) a.intents)
        ((the_fill i found).suits.2 ∙ ap (λ (v : Wish). intent.Fill file v.birth v.target) told) (the_fill i found))

    -- WHAT STANDS
    pub wish_stands : (wish : Wish) → standing a file ≡ Some wish → IsStanding a file wish
    wish_stands wish is = stands_by wish (fill_at a file) refl is

    new_by : (o : Option Intent) → fill_at a file ≡ o → option_or (wish_by o) (wish_at a file) ≡ None → NothingStands a file
    new_by None none is = record { unfilled = no_fill none; unwished = no_wish is }
    new_by (Some i) found is =
        absurd (none-some (Asks i found)
        (sym is ∙ ap (λ (o : Option Wish). option_or o (wish_at a file)) (asks i found)))

    -- NOTHING STANDS
    pub nothing_stands : standing a file ≡ None → NothingStands a file
    nothing_stands is = new_by (fill_at a file) refl is

-- ---- who is asked first

module _ (a : Store) (sorted : IsStrictlySortedBy file_cmp (keys_of a.names.held))
    (cells : (dir child : FileId) (e : Entry) → cell_at a.names dir child ≡ Some e → IsByServer e.flags)
    (file : FileId) (way : Way) where
  abbrev Suits : ℕ → Type 0
  Suits = IsToldGold a file way

  abbrev gold : Flag → Bool
  gold = is_live_other (server_of a) (removed_of a)

  abbrev Next : ℕ
  Next = next_target a (server_of a)

  abbrev Cell : Option Entry
  Cell = cell_in a.names file (dir_by a.names file way)

  module _ (e : Entry) (found : Cell ≡ Some e) where
    suits_is : (u : ℕ) → Passes a gold e.flags u → Suits u
    suits_is u k = record {
      cell = e;
      came = came a sorted file way e found;
      flag = k.0;
      there = among_contained e.flags k.0 k.1;
      its = k.3;
      gold = targets.gold_of a k.0 k.2;
    }

    is_suits : (u : ℕ) → Suits u → Passes a gold e.flags u
    is_suits u k =
        let same : k.cell ≡ e = same_Some k.cell e (sym (came_only a sorted file way k.cell k.came) ∙ found) in (
          k.flag,
          contained_among e.flags k.flag (subst (λ (x : Entry). Contains x.flags k.flag) same k.there),
          gold_passes a k.flag k.gold,
          k.its,
        )

    flags_sorted : IsByServer e.flags
    flags_sorted = came_sorted a file cells way e (came a sorted file way e found)

    told_by : (o : Option Flag) → find gold e.flags ≡ o → IsLeastOrNext a Suits (unwrap_or (option_map (λ (g : Flag). g.server) o) Next)
    told_by None is = first_is a gold e.flags flags_sorted Suits suits_is is_suits None is
    told_by (Some g) is = first_is a gold e.flags flags_sorted Suits suits_is is_suits (Some g) is

  asked_by : (o : Option Entry) → Cell ≡ o → IsLeastOrNext a Suits (unwrap_or (gold_of a.names o) Next)
  asked_by None none = record {
    least = λ u k. absurd (none-some k.cell (sym none ∙ came_only a sorted file way k.cell k.came));
    next = λ no. next_behind a;
  }
  asked_by (Some e) found = told_by e found (find gold e.flags) refl

  -- WHO IS ASKED FIRST
  pub first_asked : IsAskedFirst a file way (holder a (record { file = file; way = way }))
  first_asked = asked_by Cell refl
