-- The house rules run: who comes back lists a child by what was taken.
use Rattle.std.proofs.Common.{ℕ, ◌≡◌, ◌<◌, not, true, false, List, [], ◌∷◌, ◌++◌, length, get_or, Option, None, Some, refl, sym, ap, subst, ◌∙◌, inl, inr, arith}
use Rattle.std.specs.List.Sorted.{IsStrictlySortedBy}
use Rattle.std.specs.Map.{keys_of, values_of}
use Rattle.std.proofs.lemmas.Bool.{false≢true, and_parts, not-true}
use Rattle.std.proofs.lemmas.List.{append-nil, append_assoc, get_or-map}
use Rattle.std.proofs.lemmas.List.Folds.{Any-from_list_any}
use Rattle.std.proofs.lemmas.Map.Entries.{length-values_of}
use Rattle.std.proofs.lemmas.Option.{none-some}
use Rattle.pg_run.specs.pg_base.declared.id.FileId.{FileId}
use Rattle.pg_run.specs.pg_base.Id.{file_cmp}
use Rattle.pg_run.proofs.pg_base.Entries.{lookup-place}
use Rattle.pg_run.proofs.pg_base.Orders.{file_total, is_same_file-true}
use Rattle.pg_run.specs.pg_edges.declared.key.Key.TheVariants as key
use Rattle.pg_run.specs.pg_entries.declared.entry.Entry.{Entry}
use Rattle.pg_run.specs.pg_entries.Entry.{entry_of, is_listed, lists_any}
use Rattle.pg_run.specs.pg_register.declared.place.Place.{Place}
use Rattle.pg_run.specs.pg_register.Place.{root, tilde_name}
use Rattle.pg_run.specs.pg_msg.declared.update.Update.{Update}
use Rattle.pg_run.specs.pg_msg.declared.update.Update.TheVariants as update
use Rattle.pg_run.specs.pg_msg.Work.{with_made, with_touched}
use Rattle.pg_run.specs.pg_names.declared.attributes.Attributes.{Attributes}
use Rattle.pg_run.specs.pg_names.Names.{InodeValue, NamesValue, cell_at, directories, entry_in, is_dir, known, or_blank, own_at, own_or_blank, with_last, with_own}
use Rattle.pg_run.specs.pg_house.Work.{State}
use Rattle.pg_run.specs.pg_house.Passing.{greatest, pass, pass_all}
use Rattle.pg_run.specs.pg_house.Placing.{drawn, live_place, made_at, own_with, place_at, placed, repeated}
use Rattle.pg_run.specs.pg_house.Returning.{first_returning, is_dead, is_returning, is_returning_held, is_root, return_first, returned}
use Rattle.pg_run.specs.pg_house.Cycles.{break_first, first_moving, is_live_own, moved}
use Rattle.pg_run.specs.pg_house.House.{house, movable}
use Rattle.pg_run.specs.pg_house.Facts.{AreByServer, AreOrdered, IsHeld, IsLast, IsOfDirs}
use Rattle.pg_run.proofs.pg_house.AllClimb.{IsDeep, member_deep, moving_member}
use Rattle.pg_run.proofs.pg_house.AllReturned.{not_root, returning_by}
use Rattle.pg_run.proofs.pg_house.Counting.{find_found}
use Rattle.pg_run.proofs.pg_house.Ends.{first_dirs, one_last, one_settled}
use Rattle.pg_run.proofs.pg_house.AfterPassing.{AreDirs}
use Rattle.pg_run.proofs.pg_house.Made.{all_made, left_made, pass_made}
use Rattle.pg_run.proofs.pg_house.NoCycles.{inner_parts, some_dirs}
use Rattle.pg_run.proofs.pg_house.Ordered.{changed_ordered, pass_ordered}
use Rattle.pg_run.proofs.pg_house.Passes.{AllPass, all_pass}
use Rattle.pg_run.proofs.pg_house.Repeating.{repeated_keeps}
use Rattle.pg_run.proofs.pg_house.Settling.{dirs_held}
use Rattle.pg_run.specs.Took.{Take, is_held, own_place, place_in, take_of}
use Rattle.pg_run.specs.Took.Taker.{InDir, Itself}
use Rattle.pg_run.specs.Passed.{passed, passed_with}
use Rattle.law_names.specs.law_passing.Tells.{AreApart, Tells}
use Rattle.law_names.proofs.law_passing.Coming.{all_come, held_by_keys, others_still}
use Rattle.law_names.proofs.law_passing.Movable.{is_movable, not_movable}
use Rattle.law_names.proofs.law_passing.PassedAll.{AllPassed, passed_apart, passed_tells}
use Rattle.law_names.proofs.law_passing.Rules.{Stands, placed_stands}
use Rattle.law_names.proofs.law_passing.States.{place_is, tells_sorted}
use Rattle.law_lists.specs.Laws.{ListsChild}
use Rattle.law_lists.proofs.Reasons.{AreReasoned, IsReasoned, reasoned_then}

-- ---- where any child is listed, there is one

listed_child : (d : FileId) (es : List (FileId × Entry)) → IsStrictlySortedBy file_cmp (keys_of es)
    → lists_any es d ≡ true
    → (child : FileId) × (c : Entry) × (entry_of es child ≡ Some c) × (is_listed d c ≡ true)
listed_child d es sorted any =
    let a = Any-from_list_any (is_listed d) (values_of es) any in
    let lt = a.2 in
    let inside : a.0 < length es = let e = length-values_of es in omega (arith, lt) in
    let e = get_or es a.0 (root, a.1) in
    let same : e.1 ≡ a.1 =
    sym (get_or-map (λ (x : FileId × Entry). x.1) es a.0 (root, a.1) a.1 inside) ∙ a.3 in (
      e.0,
      e.1,
      lookup-place file_cmp file_total e.0 e.1 es a.0 (root, a.1) sorted inside refl,
      ap
          (is_listed d) same ∙ a.4,
    )

same_file_of : (f g : FileId) (p q : Place) → update.Place f p ≡ update.Place g q → f ≡ g
same_file_of f g p q h = cc

-- ---- between two rules

module _ (removed : List ℕ) (ds : List FileId) (st : State) (takes : List Take)
    (k : Stands removed ds st takes) where
  own_is : (f : FileId) (own : Attributes) → own_at st.names f ≡ Some own
      → own.place ≡ own_place f takes
  own_is f own h =
      ap (λ (o : Attributes). o.place) (sym (ap (or_blank f) h))
      ∙ place_is takes k.apart Itself f (own_or_blank st.names f).place (k.tells.place f)

  cell_is : (d child : FileId) (c : Entry) → cell_at st.names d child ≡ Some c
      → c.place ≡ place_in (InDir d) child takes
  cell_is d child c h = place_is takes k.apart (InDir d) child c.place
      (k.tells.some d child c h).place

  -- a child with a live cell, where it is held, stands there
  stands_there : (d child : FileId) (c : Entry) → cell_at st.names d child ≡ Some c
      → c.place.live ≡ true → is_root child ≡ false
      → is_held child takes ≡ true → own_place child takes ≡ place_in (InDir d) child takes
  stands_there d child c h live free held =
      let x = k.tells.held child held in
      let own = x.0 in
      let top = greatest st.names child own ds in
      let is = (k.settled.passed child free own x.1).0 in
      let same : c.place ≡ top.place = ap (λ (e : Entry). e.place) (is.cells d c h) in
      sym (own_is child own x.1)
      ∙ elim is.place [
        | inl all ↦ ap (λ (o : Attributes). o.place) all
        | inr back ↦ absurd (false≢true
            (sym (not-true top.place.live
            (and_parts (not top.place.live) _ (and_parts (is_dir child) _ back).1).0)
            ∙ ap (λ (p : Place). p.live) (sym same) ∙ live))
      ]
      ∙ sym same ∙ cell_is d child c h

  lists_by : AreOrdered st.names → (d : FileId) (o : Option InodeValue) → known st.names d ≡ o
      → is_returning_held d o ≡ true → ListsChild takes d
  lists_by ordered d None h r = absurd (false≢true r)
  lists_by ordered d (Some x) h r =
      let one = listed_child d x.entries (ordered d x h) (and_parts (is_dead d x.own.place) _ r).1
      in
      let child = one.0 in
      let c = one.1 in
      let cell : cell_at st.names d child ≡ Some c = ap (entry_in child) h ∙ one.2 in
      let both = and_parts c.place.live _ one.3 in
      let same = cell_is d child c cell in
      record {
        child = child;
        lists = record {
          live = ap (λ (p : Place). p.live) (sym same) ∙ both.0;
          here = ap (λ (p : Place). p.parent) (sym same)
              ∙ is_same_file-true c.place.parent d both.1;
        };
        own = λ free held. stands_there d child c cell both.0 free held;
      }

  -- who is to come back lists a child
  pub back_reasoned : AreOrdered st.names → (d : FileId) (p : Place)
      → is_returning st.names d ≡ true → IsReasoned takes (update.Place d p)
  back_reasoned ordered d p r g q same dead = subst (ListsChild takes) (same_file_of d g p q same)
      (lists_by ordered d (known st.names d) refl r)

  -- and who moves was not dead
  live_own : (d : FileId) (o : Option Attributes) → own_at st.names d ≡ o → is_live_own o ≡ true
      → (own_place d takes).live ≡ true
  live_own d None h live = absurd (false≢true live)
  live_own d (Some own) h live = ap (λ (p : Place). p.live) (sym (own_is d own h)) ∙ live

  pub live_reasoned : (d : FileId) (p : Place) → is_live_own (own_at st.names d) ≡ true
      → IsReasoned takes (update.Place d p)
  live_reasoned d p live g q same dead =
      let P : FileId → Type 0 = λ x. (own_place x takes).live ≡ true in
      absurd (false≢true (sym dead
      ∙ subst P (same_file_of d g p q same) (live_own d (own_at st.names d) refl live)))

-- ---- one place more was made

with_one_more : (removed : List ℕ) (takes : List Take) (us : List Update) (u : Update)
    → passed_with removed takes (us ++ u ∷ []) ≡ passed removed
    (take_of u ∷ passed_with removed takes us)
with_one_more removed takes [] u = refl
with_one_more removed takes (v ∷ us) u = with_one_more removed
    (passed removed (take_of v ∷ takes)) us u

-- the rules made these behind what was made before, each with its reason
pub record Follows (removed : List ℕ) (ds : List FileId) (made : List Update) (start : List Take)
    (st : State) : Type 0 where
  pub more : List Update
  pub is : st.work.made ≡ made ++ more
  pub stands : Stands removed ds st (passed_with removed start more)
  pub ordered : AreOrdered st.names
  pub reasoned : AreReasoned removed start more

module _ (moment : ℕ) (removed : List ℕ) (ds : List FileId) (made : List Update)
    (start : List Take) where
  abbrev Goes : State → Type 0
  Goes = Follows removed ds made start

  place_follows : (st : State) → (k : Goes st) → (f p : FileId) (name : List ℕ) → IsHeld st.names f
      → is_root f ≡ false
      → IsReasoned (passed_with removed start k.more)
      (update.Place f (live_place (drawn moment st.names) p name))
      → Goes (placed moment ds st f p name)
  place_follows st k f p name held moves why =
      let new = live_place (drawn moment st.names) p name in
      let u = update.Place f new in
      let made_now = made_at st f new in
      let so_far = passed_with removed start k.more in
      let late = with_last st.names new.stamp.time in
      let P : List Take → Type 0 = λ x. Stands removed ds (placed moment ds st f p name) x in
      record {
        more = k.more ++ u ∷ [];
        is = pass_made made_now ds f
            ∙ left_made (with_touched (with_made st.work u) f key.Place) f (place_at st.names f)
            ∙ ap (λ us. us ++ u ∷ []) k.is ∙ append_assoc made k.more (u ∷ []);
        stands = subst P (sym (with_one_more removed start k.more u))
            (placed_stands moment removed ds st so_far k.stands f p name held moves);
        ordered = pass_ordered made_now ds f
            (changed_ordered late f (with_own (own_with st.names f new)) (λ x h. h)
            (known late f) refl k.ordered);
        reasoned = reasoned_then removed start k.more (u ∷ []) k.reasoned (why, tt);
      }

  return_follows : (st : State) → Goes st → (o : Option FileId) → first_returning st.names ds ≡ o
      → Goes (returned moment ds st o)
  return_follows st k None h = k
  return_follows st k (Some d) h =
      let found = find_found (is_returning st.names) ds d h in
      let r = returning_by st.names d (known st.names d) refl found.0 in
      let moves = not_root d (own_at st.names d) r.dead_one in
      let p = (place_at st.names d).parent in
      let name = (place_at st.names d).name in
      place_follows st k d p name r.held moves
      (back_reasoned removed ds st (passed_with removed start k.more) k.stands k.ordered d
      (live_place (drawn moment st.names) p name) found.0)

  move_follows : (st : State) → Goes st → (o : Option FileId)
      → first_moving st.names (length ds) None ds ≡ o → Goes (moved moment ds st o)
  move_follows st k None h = k
  move_follows st k (Some d) h =
      elim (moving_member st.names (length ds) None ds d h) [
        | inl never ↦ absurd (none-some d never)
        | inr m ↦ (
            let deep : IsDeep st.names d = subst (IsDeep st.names) m.2
            (member_deep st.names (length ds) m.0
            (some_dirs moment ds st.names (length ds) ds d h) m.1) in
            let inner = inner_parts st.names d deep.0 in
            let live = (and_parts (not (is_root d)) _ (and_parts (is_dir d) _ deep.0).1).1 in
            place_follows st k d root (tilde_name d) inner.held inner.other
            (live_reasoned removed ds st (passed_with removed start k.more) k.stands d
            (live_place (drawn moment st.names) root (tilde_name d)) live))
      ]

  pub rules_follow : (st : State) → Goes st
      → Goes (repeated (length ds) (break_first moment ds)
      (repeated (length ds) (return_first moment ds) st))
  rules_follow st k =
      repeated_keeps Goes (break_first moment ds)
      (λ t q. move_follows t q (first_moving t.names (length ds) None ds) refl) (length ds) _
      (repeated_keeps Goes (return_first moment ds)
      (λ t q. return_follows t q (first_returning t.names ds) refl) (length ds) st k)

-- ---- all passes first

all_ordered : (st : State) (ds fs : List FileId) → AreOrdered st.names
    → AreOrdered (pass_all st ds fs).names
all_ordered st ds [] ordered = ordered
all_ordered st ds (f ∷ fs) ordered = all_ordered (pass st ds f) ds fs (pass_ordered st ds f ordered)

module _ (moment : ℕ) (st : State) (takes : List Take) (k : Tells st.names takes)
    (apart : AreApart takes) (of_dirs : IsOfDirs st.names) (last : IsLast st.names)
    (ordered : AreOrdered st.names) where
  abbrev Names : NamesValue
  Names = st.names

  abbrev Ds : List FileId
  Ds = directories Names

  abbrev One : State
  One = pass_all st Ds (movable Names)

  sorted : AreByServer Names
  sorted = tells_sorted Names takes k

  dirs : AreDirs Names Ds
  dirs = first_dirs moment st of_dirs sorted

  one_pass : AllPass Ds Names One.names
  one_pass = all_pass st Ds (movable Names) dirs

  one_stays : (q : FileId) → IsHeld Names q → IsHeld One.names q
  one_stays q h = held_by_keys Names One.names one_pass.keys q h

  one_passed : AllPassed Names One.names Ds
  one_passed = record {
    stays = one_stays;
    was = one_pass.was;
    come = λ f own h free. all_come Ds f st (movable Names) own dirs (dirs_held Names) h
        (is_movable Names f own h free);
    still = λ f away. others_still Ds f st (movable Names) dirs (not_movable Names f away);
  }

  one_stands : Stands Names.removed Ds One (passed Names.removed takes)
  one_stands = record {
    settled = one_settled moment st of_dirs sorted;
    last = one_last moment st of_dirs sorted last;
    tells = passed_tells Names One.names takes Ds k apart dirs (dirs_held Names) one_passed;
    apart = passed_apart Names One.names takes Ds k apart dirs (dirs_held Names) one_passed;
    same_removed = one_pass.removed;
    dirs_held = λ q among. (let d = dirs_held Names q among in (one_stays q d.0, d.1));
  }

  one_follows : Follows Names.removed Ds st.work.made (passed Names.removed takes) One
  one_follows = record {
    more = [];
    is = all_made st Ds (movable Names) ∙ sym (append-nil st.work.made);
    stands = one_stands;
    ordered = all_ordered st Ds (movable Names) ordered;
    reasoned = tt;
  }

  -- THE HOUSE RULES RUN
  pub house_follows : Follows Names.removed Ds st.work.made (passed Names.removed takes)
      (house moment st)
  house_follows = rules_follow moment Names.removed Ds st.work.made
      (passed Names.removed takes) One one_follows
