-- It is enough to look at the directories that have a cell for a thing, and at its parents.
use Rattle.std.proofs.Common.{◌≡◌, Bool, true, false, ◌&&◌, ◌||◌, List, Option, None, Some, refl, sym, ap, ◌∙◌, inl, inr}
use Rattle.std.specs.List.{filter}
use Rattle.std.specs.List.Sorted.{IsStrictlySortedBy}
use Rattle.std.specs.Map.{keys_of}
use Rattle.std.proofs.lemmas.Bool.{false≢true, and_from, and_parts, or_left, or_right}
use Rattle.std.proofs.lemmas.List.Kept.{IsStrictlySortedBy-filter}
use Rattle.pg_base.specs.declared.id.FileId.{FileId}
use Rattle.pg_base.specs.Id.{file_cmp, is_same_file}
use Rattle.pg_register.specs.declared.place.Place.{Place}
use Rattle.pg_entries.specs.declared.entry.Entry.{Entry}
use Rattle.pg_index.specs.Ids.{is_one_of}
use Rattle.pg_names.specs.declared.attributes.Attributes.{Attributes}
use Rattle.pg_names.specs.Names.{NamesValue, cell_at, directories, is_dir, is_held, own_at}
use Rattle.pg_names.specs.Calm.{holders, is_holder}
use Rattle.pg_names.specs.Calm as calm
use Rattle.pg_house.specs.Work.{State}
use Rattle.pg_house.specs.Passing.{greatest, is_cell, is_held_back, is_in, is_taker, is_update, own_taken, pass, pass_own, passed, passed_to, spread, taking, wants}
use Rattle.pg_house.specs.Holding.{latest}
use Rattle.pg_house.specs.Facts.{is_among}
use Rattle.pg_house.proofs.Truths.{or_cases}
use Rattle.pg_house.proofs.Greatest.{cell_held, cell_is}
use Rattle.pg_house.proofs.Ends.{key_of_held}
use Rattle.pg_house.proofs.Among.{among_keys, among_where, one_of_among, same_back, same_members, swap}
use Rattle.pg_house.proofs.Nearby.{greatest_where, latest_where, spread_where}

no_cell : (o : Option Entry) → calm.is_cell o ≡ false → o ≡ None
no_cell None h = refl
no_cell (Some c) h = absurd (false≢true (sym h))

-- ---- those that have a cell

module _ (s : NamesValue) (f : FileId) where
  pub near_greatest : (own : Attributes) → greatest s f own (filter is_dir (holders s f)) ≡ greatest s f own (directories s)
  near_greatest own =
      ap (greatest s f own) (swap is_dir (is_holder s f) (keys_of s.held))
      ∙ greatest_where (is_holder s f) s f (λ q h. no_cell (cell_at s q f) h) (directories s) own

  pub near_latest : (own : Place) → latest s f own (filter is_dir (holders s f)) ≡ latest s f own (directories s)
  near_latest own =
      ap (latest s f own) (swap is_dir (is_holder s f) (keys_of s.held))
      ∙ latest_where (is_holder s f) s f (λ q h. no_cell (cell_at s q f) h) (directories s) own

  -- what has a cell is among them
  holder_by : (q : FileId) (c : Entry) → cell_at s q f ≡ Some c → is_one_of q (holders s f) ≡ true
  holder_by q c h =
      let held = cell_held s q f c h in
      one_of_among q (holders s f) ∙ among_where (is_holder s f) q (keys_of s.held)
      ∙ and_from (is_holder s f q) (is_among q (keys_of s.held)) (ap calm.is_cell h) (key_of_held s q held.0 held.1)

pub alone : (a : Bool) → a ≡ (a || false)
alone true = refl
alone false = refl

-- one more goes from what is to come to what was put in
turned : (a b r n : Bool) → n ≡ (a || b) → (n || r) ≡ (b || (a || r))
turned true true r n h = ap (λ t. t || r) h
turned true false r n h = ap (λ t. t || r) h
turned false true r n h = ap (λ t. t || r) h
turned false false r n h = ap (λ t. t || r) h

pub one_more : (k q : FileId) (ids new : List FileId) (r : Bool) → is_one_of q new ≡ (is_same_file k q || is_one_of q ids) → (is_one_of q new || r) ≡ (is_one_of q ids || (is_same_file q k || r))
one_more k q ids new r put = turned (is_same_file q k) (is_one_of q ids) r (is_one_of q new) (put ∙ ap (λ t. t || is_one_of q ids) (same_back k q))

-- two more are put in
pub two_first : (a d b e n m i h : Bool) → n ≡ (a || m) → a ≡ d → m ≡ (b || i) → b ≡ e → i ≡ h → n ≡ (d || (e || h))
two_first a d b e n m i h first x second y rest = first ∙ ap (λ t. t || m) x ∙ ap (λ t. d || t) (second ∙ ap (λ t. t || i) y ∙ ap (λ t. e || t) rest)

-- ---- those that are to have one

module _ (s : NamesValue) (f : FileId) (own top : Attributes) (back : Bool) (ids : List FileId) where
  -- the holders, and the parents, are among these
  abbrev pub AreCandidates : Type 0
  AreCandidates = (q : FileId) → is_one_of q ids ≡ (is_same_file q own.place.parent || (is_same_file q top.place.parent || is_one_of q (holders s f)))

  module _ (has : AreCandidates) where
    abbrev Is : FileId → Bool
    Is q = is_same_file q own.place.parent || (is_same_file q top.place.parent || is_one_of q (holders s f))

    top_is : (q : FileId) → is_in q top.place ≡ true → Is q ≡ true
    top_is q h = or_right (is_same_file q own.place.parent) _ (or_left (is_same_file q top.place.parent) _ (same_back q top.place.parent ∙ h))

    own_is : (q : FileId) → is_in q own.place ≡ true → Is q ≡ true
    own_is q h = or_left (is_same_file q own.place.parent) _ (same_back q own.place.parent ∙ h)

    cell_there : (q : FileId) → is_cell (cell_at s q f) ≡ true → Is q ≡ true
    cell_there q h =
        let c = cell_is (cell_at s q f) h in
        or_right (is_same_file q own.place.parent) _ (or_right (is_same_file q top.place.parent) _ (holder_by s f q c.0 c.1))

    wanted : (q : FileId) → wants s f own top back q ≡ true → is_among q ids ≡ true
    wanted q w =
        sym (one_of_among q ids) ∙ has q ∙ elim (or_cases (is_cell (cell_at s q f)) _ w) [
          | inl is ↦ cell_there q is
          | inr other ↦ elim (or_cases (is_update top.place && is_in q top.place) _ other) [
            | inl up ↦ top_is q (and_parts (is_update top.place) _ up).1
            | inr mine ↦ own_is q (and_parts own.place.live _ (and_parts back _ mine).1).1
          ]
        ]

    members : (dir held w a : Bool) → ((w ≡ true) → a ≡ true) → ((dir && (held && w)) && a) ≡ (w && (dir && held))
    members true true true a h = h refl
    members true true false a h = refl
    members true false true a h = refl
    members true false false a h = refl
    members false held true a h = refl
    members false held false a h = refl

    pub takers_are : IsStrictlySortedBy file_cmp (keys_of s.held) → IsStrictlySortedBy file_cmp ids
        → (dirs : List FileId) → dirs ≡ filter (is_taker s f own top back) ids → dirs ≡ filter (wants s f own top back) (directories s)
    takers_are sorted ordered dirs are =
        let keys = keys_of s.held in
        let taker = is_taker s f own top back in
        let want = wants s f own top back in
        are
        ∙ same_members (filter taker ids) (filter want (directories s))
        (IsStrictlySortedBy-filter file_cmp taker ids ordered)
        (IsStrictlySortedBy-filter file_cmp want (directories s) (IsStrictlySortedBy-filter file_cmp is_dir keys sorted))
        (λ q.
        among_where taker q ids ∙ members (is_dir q) (is_held s q) (want q) (is_among q ids) (wanted q)
        ∙ ap (λ a. want q && (is_dir q && a)) (sym (among_keys q s.held))
        ∙ sym (ap (λ a. want q && a) (among_where is_dir q keys))
        ∙ sym (among_where want q (directories s)))

-- so a thing passes by these alone
pub passes_by : (st : State) (f : FileId) (own top : Attributes) (dirs : List FileId) (new : State) → new ≡ passed_to st (directories st.names) f own top → top ≡ greatest st.names f own dirs
    → dirs ≡ filter is_dir (holders st.names f) → own_at st.names f ≡ Some own → new ≡ pass st (directories st.names) f
passes_by st f own top dirs new are best near held =
    let ds = directories st.names in
    are
    ∙ ap (λ (t : Attributes). passed_to st ds f own t) (best ∙ ap (greatest st.names f own) near ∙ near_greatest st.names f own)
    ∙ sym (ap (pass_own st ds f) held)

-- and the cell is given to those alone
pub passes_to : (st : State) (f : FileId) (own top taken : Attributes) (t : Bool) (dirs : List FileId) (mid new : State) → mid ≡ spread st f own top t dirs → new ≡ taking mid f own taken
    → t ≡ is_held_back st.names.removed f own top → dirs ≡ filter (wants st.names f own top t) (directories st.names) → taken ≡ own_taken own top t → new ≡ passed_to st (directories st.names) f own top
passes_to st f own top taken t dirs mid new given are held near takes =
    let ds = directories st.names in
    let all = given ∙ ap (spread st f own top t) near ∙ spread_where (wants st.names f own top t) f own top t ds st (λ q h. h) in
    are ∙ ap (λ (u : State). taking u f own taken) all ∙ ap (λ (x : Attributes). taking (spread st f own top t ds) f own x) takes ∙ ap (passed st ds f own top) held
