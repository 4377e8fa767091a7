-- Keys of several files are touched, and names change that these keys tell of.
use Rattle.std.proofs.Common.{ℕ, ◌≡◌, ◌≤◌, ◌+◌, true, List, [], ◌∷◌, length, Option, None, Some, option_map, refl, sym, ap, subst, ◌∙◌, inl, inr, arith, ◌⊎◌}
use Rattle.std.proofs.lemmas.Option.{same_Some}
use Rattle.pg_base.specs.declared.id.FileId.{FileId}
use Rattle.pg_edges.specs.declared.key.Key.{Key}
use Rattle.pg_edges.specs.declared.key.Key.TheVariants as key
use Rattle.pg_edges.specs.Edges.{is_listed}
use Rattle.theory_flood.specs.Server.{Holds, HoldsAll}
use Rattle.theory_flood.proofs.Bulk.{Goes, GoesIf, bulk_steps}
use Rattle.theory_flood.proofs.Draws.{Draws, IsFreshAt, IsAsBefore}
use Rattle.theory_flood.proofs.Servers.{some_same}
use Rattle.theory_flood.proofs.Steps.{HasSoundTags, Steps}
use Rattle.theory_flood.proofs.Touch.{touch_draws}
use Rattle.pg_entries.specs.declared.cell.Cell.{Cell}
use Rattle.pg_entries.specs.declared.cell.Cell.TheVariants as cell
use Rattle.pg_entries.specs.declared.entry.Entry.{Entry}
use Rattle.pg_cells.specs.pg_house.Facts.{IsIn}
use Rattle.pg_cells.specs.pg_msg.declared.work.Touched.{Touched}
use Rattle.pg_cells.specs.pg_names.Names.{NamesValue, cell_at as entry_at, own_or_blank}
use Rattle.pg_register.specs.declared.flag.Flag.{Flag}
use Rattle.pg_register.specs.Flag.{flag_of}
use Rattle.pg_cells.specs.pg_replica.declared.replica.Replica.{Replica}
use Rattle.pg_cells.specs.pg_replica.Replica.{with_touch}
use Rattle.pg_cells.specs.pg_replica.Replicas.{edge_count, replicas_touched}
use Rattle.pg_cells.specs.pg_store.declared.store.Store.{Store}
use Rattle.pg_cells.specs.pg_store.Cells.{flag_cell}
use Rattle.pg_cells.specs.pg_store.Store.{content_of, replica_at, touch, with_drawn, with_names}
use Rattle.pg_cells.specs.Settling.{touch_all}
use Rattle.theory_flood_pieces.specs.Names.{AreNamesUpTo, IsEntryKnownBy, IsToldBy}
use Rattle.theory_flood_pieces.specs.Seen.{plain, seen, standing}
use Rattle.theory_flood_pieces.specs.UpTo.{IsFlagKnownBy, IsUpTo}
use Rattle.theory_flood_pieces.proofs.Moved.{Moved, Moved-refl, Moved-trans, fresh_on, touched_fresh, touched_moved}
use Rattle.theory_flood_pieces.proofs.Stores.{Changes, bare, bare_seen, by_file, content_by, entry_seen, from_bare, over_stays, plain_at, plain_entry, replica_here, tags_drawn, tags_stay, to_bare, version_same}
use Rattle.theory_flood_pieces.proofs.UpTo.{cell_itself, in_order}

-- ---- a replica stays, but for its tags

pub record IsStill (t u : ℕ) (x y : Replica) : Type 0 where
  pub birth : y.birth ≡ x.birth
  pub content : y.content ≡ x.content
  pub edges : Moved t u x.edges y.edges

-- none comes or goes
abbrev pub StaysIf : ℕ → ℕ → Option Replica → Option Replica → Type 0
StaysIf t u None None = Unit {0}
StaysIf t u None (Some y) = ⊥
StaysIf t u (Some x) None = ⊥
StaysIf t u (Some x) (Some y) = IsStill t u x y

pub stays_itself : (t u : ℕ) → t ≤ u → (o : Option Replica) → StaysIf t u o o
stays_itself t u up None = tt
stays_itself t u up (Some x) = record { birth = refl; content = refl; edges = Moved-refl t u x.edges up }

stays_further : (t u v : ℕ) (o p q : Option Replica) → StaysIf t u o p → StaysIf u v p q → StaysIf t v o q
stays_further t u v None None None one two = tt
stays_further t u v None None (Some z) one two = absurd two
stays_further t u v None (Some y) q one two = absurd one
stays_further t u v (Some x) None q one two = absurd one
stays_further t u v (Some x) (Some y) None one two = absurd two
stays_further t u v (Some x) (Some y) (Some z) one two = record {
  birth = two.birth ∙ one.birth;
  content = two.content ∙ one.content;
  edges = Moved-trans one.edges two.edges;
}

-- what there is afterwards was there
stood_before : (t u : ℕ) (o p : Option Replica) → StaysIf t u o p → (z : Replica) → p ≡ Some z → (y : Replica) × (o ≡ Some y) × IsStill t u y z
stood_before t u None None k z e = absurd (let n : None ≡ Some z = e in cc)
stood_before t u None (Some y) k z e = absurd k
stood_before t u (Some x) None k z e = absurd k
stood_before t u (Some x) (Some y) k z e = (x, refl, subst (IsStill t u x) (same_Some y z e) k)

-- ---- keys are touched

-- From one server to another these keys were touched: each replica stayed but for its tags, and a
-- touched key has a fresh one on each edge
pub record IsTouchedBy (ts : List Touched) (a b : Store) : Type 0 where
  pub up : a.tags ≤ b.tags
  pub stays : (f : FileId) → StaysIf a.tags b.tags (replica_at a f) (replica_at b f)
  pub fresh : (f : FileId) (k : Key) → IsIn (record { file = f; key = k }) ts → (y : Replica) → replica_at b f ≡ Some y → (peer birth : ℕ) → is_listed y.edges peer birth ≡ true
      → IsFreshAt a.tags y.edges peer birth k
  pub tags : HasSoundTags bare a → HasSoundTags bare b

-- none was
pub none_touched : (a b : Store) → b.tags ≡ a.tags → ((f : FileId) → replica_at b f ≡ replica_at a f) → IsTouchedBy [] a b
none_touched a b tags same =
    let up : a.tags ≤ b.tags = (let e = tags in omega arith) in
    record {
      up = up;
      stays = λ f. (let P : Option Replica → Type 0 = λ o. StaysIf a.tags b.tags (replica_at a f) o in subst P (sym (same f)) (stays_itself a.tags b.tags up (replica_at a f)));
      fresh = λ f k i. absurd i;
      tags = tags_stay a b tags same;
    }

-- ---- one is

module _ (a : Store) (file : FileId) (k : Key) where
  abbrev One : List Touched
  One = record { file = file; key = k } ∷ []

  abbrev After : Option Replica → Store
  After o = with_drawn a (edge_count o) (replicas_touched a.replicas file k a.tags o)

  low : (n : ℕ) → a.tags ≤ a.tags + n
  low n = omega arith

  no_more : a.tags + 0 ≡ a.tags
  no_more = omega arith

  the_file : (f : FileId) (q : Key) → IsIn (record { file = f; key = q }) One → (file ≡ f) × (k ≡ q)
  the_file f q (inl same) = (ap (λ (t : Touched). t.file) same, ap (λ (t : Touched). t.key) same)
  the_file f q (inr none) = absurd none

  -- of a thing that is not held nothing is
  none_here : replica_at a file ≡ None → IsTouchedBy One a (After None)
  none_here none = record {
    up = low 0;
    stays = λ f. stays_itself a.tags (a.tags + 0) (low 0) (replica_at a f);
    fresh = λ f q i y is p n listed. absurd
        (let z : None ≡ Some y = sym none ∙ ap (replica_at a) (the_file f q i).0 ∙ is in cc);
    tags = tags_stay a (After None) no_more (λ f. refl);
  }

  module _ (x : Replica) (held : replica_at a file ≡ Some x) where
    abbrev Y : Replica
    Y = with_touch x k a.tags

    abbrev Now : Store
    Now = After (Some x)

    changes : Changes a Now file x Y
    changes = record { old = held; replicas = refl }

    bare_draws : Draws a.tags (bare_seen x) Now.tags (bare_seen Y)
    bare_draws = touch_draws a.tags (bare_seen x) k (λ q. None) (λ q apart. refl)

    here_still : StaysIf a.tags Now.tags (replica_at a file) (Some Y)
    here_still =
        let P : Option Replica → Type 0 = λ o. StaysIf a.tags Now.tags o (Some Y) in
        subst P (sym held) (record { birth = refl; content = refl; edges = touched_moved x.edges k a.tags })

    fresh_there : (f : FileId) (q : Key) → IsIn (record { file = f; key = q }) One → (y : Replica) → replica_at Now f ≡ Some y → (p n : ℕ) → is_listed y.edges p n ≡ true → IsFreshAt a.tags y.edges p n q
    fresh_there f q i y is p n listed =
        let same = the_file f q i in
        let here : Y ≡ y = same_Some Y y (sym (replica_here a Now file x Y changes) ∙ ap (replica_at Now) same.0 ∙ is) in
        let P : Replica → Type 0 = λ z. is_listed z.edges p n ≡ true → IsFreshAt a.tags z.edges p n q in
        let Q : Key → Type 0 = λ z. is_listed Y.edges p n ≡ true → IsFreshAt a.tags Y.edges p n z in
        subst P here (subst Q same.1 (touched_fresh x.edges k a.tags p n)) listed

    some_here : IsTouchedBy One a Now
    some_here = record {
      up = low (length x.edges);
      stays = by_file (λ f o. StaysIf a.tags Now.tags (replica_at a f) o) a Now file x Y changes here_still
          (λ f apart. stays_itself a.tags Now.tags (low (length x.edges)) (replica_at a f));
      fresh = fresh_there;
      tags = tags_drawn a Now file x Y changes bare_draws;
    }

  touched_if : (o : Option Replica) → replica_at a file ≡ o → IsTouchedBy One a (After o)
  touched_if None e = none_here e
  touched_if (Some x) e = some_here x e

  pub one_touched : IsTouchedBy One a (touch a file k)
  one_touched = touched_if (replica_at a file) refl

-- ---- and then others

later_fresh : (t : Touched) (ts : List Touched) (a b c : Store) → IsTouchedBy (t ∷ []) a b → IsTouchedBy ts b c → (f : FileId) (k : Key) → IsIn (record { file = f; key = k }) (t ∷ ts)
    → (z : Replica) → replica_at c f ≡ Some z → (p n : ℕ) → is_listed z.edges p n ≡ true → IsFreshAt a.tags z.edges p n k
later_fresh t ts a b c one rest f k (inr later) z is p n h =
    let g = rest.fresh f k later z is p n h in
    let up = one.up in
    let le : b.tags ≤ g.0 = g.2 in
    (g.0, g.1, omega arith)
later_fresh t ts a b c one rest f k (inl here) z is p n h =
    let w = stood_before b.tags c.tags (replica_at b f) (replica_at c f) (rest.stays f) z is in
    fresh_on w.2.edges one.up p n k h (one.fresh f k (inl here) w.0 w.1 p n (sym (w.2.edges.listed p n) ∙ h))

pub touched_then : (t : Touched) (ts : List Touched) (a b c : Store) → IsTouchedBy (t ∷ []) a b → IsTouchedBy ts b c → IsTouchedBy (t ∷ ts) a c
touched_then t ts a b c one rest =
    let low = one.up in
    let high = rest.up in
    record {
      up = omega arith;
      stays = λ f. stays_further a.tags b.tags c.tags (replica_at a f) (replica_at b f) (replica_at c f) (one.stays f) (rest.stays f);
      fresh = later_fresh t ts a b c one rest;
      tags = λ s. rest.tags (one.tags s);
    }

pub all_touched : (a : Store) (ts : List Touched) → IsTouchedBy ts a (touch_all a ts)
all_touched a [] = none_touched a a refl (λ f. refl)
all_touched a (t ∷ ts) =
    touched_then t ts a (touch a t.file t.key) (touch_all (touch a t.file t.key) ts) (one_touched a t.file t.key) (all_touched (touch a t.file t.key) ts)

-- touching changes no names
pub same_names : (a : Store) (ts : List Touched) → (touch_all a ts).names ≡ a.names
same_names a [] = refl
same_names a (t ∷ ts) = same_names (touch a t.file t.key) ts

-- what was touched behind a change of names
pub touched_behind : (ts : List Touched) (a b : Store) (names : NamesValue) → IsTouchedBy ts (with_names a names) b → IsTouchedBy ts a b
touched_behind ts a b names k = record {
  up = k.up;
  stays = k.stays;
  fresh = k.fresh;
  tags = λ s. k.tags (tags_stay a (with_names a names) refl (λ f. refl) s);
}

-- what was touched before a change of names
pub touched_before : (ts : List Touched) (a b : Store) (names : NamesValue) → IsTouchedBy ts a b → IsTouchedBy ts a (with_names b names)
touched_before ts a b names k = record {
  up = k.up;
  stays = k.stays;
  fresh = k.fresh;
  tags = λ s. tags_stay b (with_names b names) refl (λ f. refl) (k.tags s);
}

-- ---- cells grow

flag_held : (o p : Option Flag) (c : Cell) → IsFlagKnownBy o p → option_map plain (flag_cell o) ≡ Some c → (d : Cell) × (option_map plain (flag_cell p) ≡ Some d) × IsUpTo c d
flag_held None p c h is = absurd (let z : None ≡ Some c = is in cc)
flag_held (Some f) None c h is = absurd h
flag_held (Some f) (Some g) c h is =
    let P : Cell → Type 0 = λ z. IsUpTo z (cell.Flag g) in
    (cell.Flag g, refl, subst P (some_same (cell.Flag f) c is) h)

entry_held : (o p : Option Entry) (c : Cell) → IsEntryKnownBy o p → plain_entry o ≡ Some c → (d : Cell) × (plain_entry p ≡ Some d) × IsUpTo c d
entry_held None p c h is = absurd (let z : None ≡ Some c = is in cc)
entry_held (Some e) None c h is = absurd h
entry_held (Some e) (Some g) c h is =
    let P : Cell → Type 0 = λ z. IsUpTo z (cell.Entry g true) in
    (cell.Entry g true, refl, subst P (some_same (cell.Entry e true) c is) h)

module _ (a b : Store) (f : FileId) (grow : AreNamesUpTo a.names b.names) where
  held_place : (c : Cell) → plain_at a f key.Place ≡ Some c → Holds IsUpTo (plain_at b f) c
  held_place c is =
      let now = (own_or_blank b.names f).place in
      let P : Cell → Type 0 = λ z. IsUpTo z (cell.Place now) in
      record { key = key.Place; cell = cell.Place now; is = refl; upto = subst P (some_same (cell.Place (own_or_blank a.names f).place) c is) (grow.places f) }

  pub held_cell : content_of b f ≡ content_of a f → HoldsAll IsUpTo (plain_at a f) (plain_at b f)
  held_cell same key.Place c is = held_place c is
  held_cell same (key.Flag n) c is =
      let h = flag_held (flag_of (own_or_blank a.names f).flags n) (flag_of (own_or_blank b.names f).flags n) c (grow.flags f n) is in
      record { key = key.Flag n; cell = h.0; is = h.1; upto = h.2 }
  held_cell same (key.Entry child) c is =
      let h = entry_held (entry_at a.names f child) (entry_at b.names f child) c (grow.entries f child) (sym (entry_seen a f child) ∙ is) in
      record { key = key.Entry child; cell = h.0; is = entry_seen b f child ∙ h.1; upto = h.2 }
  held_cell same (key.Version stamp) c is =
      record { key = key.Version stamp; cell = c; is = version_same a b f stamp same ∙ is; upto = cell_itself c }

-- ---- what changes meanwhile is told

module _ (ts : List Touched) (a b : Store) (k : IsTouchedBy ts a b) (told : IsToldBy ts a.names b.names) (grow : AreNamesUpTo a.names b.names) where
  told_cell : (f : FileId) (q : Key) → content_of b f ≡ content_of a f → (plain_at b f q ≡ plain_at a f q) ⊎ IsIn (record { file = f; key = q }) ts
  told_cell f key.Place same = elim (told.places f) [ inl e ↦ inl (ap (λ p. Some (cell.Place p)) e) | inr i ↦ inr i ]
  told_cell f (key.Flag n) same = elim (told.flags f n) [ inl e ↦ inl (ap (λ o. option_map plain (flag_cell o)) e) | inr i ↦ inr i ]
  told_cell f (key.Entry child) same = elim (told.entries f child) [
    | inl e ↦ inl (entry_seen b f child ∙ ap plain_entry e ∙ sym (entry_seen a f child))
    | inr i ↦ inr i
  ]
  told_cell f (key.Version stamp) same = inl (version_same a b f stamp same)

  module _ (f : FileId) (x y : Replica) (old : replica_at a f ≡ Some x) (new : replica_at b f ≡ Some y) (still : IsStill a.tags b.tags x y) where
    same_content : content_of b f ≡ content_of a f
    same_content = content_by a b f x y old new still.content

    -- a slot with a cell
    told_slot : (p n : ℕ) (q : Key) (c : Cell) → is_listed y.edges p n ≡ true → plain_at b f q ≡ Some c
        → (plain_at b f q ≡ plain_at a f q) ⊎ IsIn (record { file = f; key = q }) ts
        → IsFreshAt a.tags y.edges p n q ⊎ IsAsBefore (seen a f x) (seen b f y) p n q c
    told_slot p n q c listed cell (inr i) = inl (k.fresh f q i y new p n listed)
    told_slot p n q c listed cell (inl same) = elim (still.edges.stood p n q listed) [
      | inl fresh ↦ inl fresh
      | inr tag ↦ inr (sym (still.edges.listed p n) ∙ listed, sym same ∙ cell, tag)
    ]

    file_goes : Goes standing a.tags b.tags (seen a f x) (seen b f y)
    file_goes = record {
      birth = still.birth;
      brings = still.edges.brings;
      slots = λ p n q c listed cell. told_slot p n q c listed cell (told_cell f q same_content);
      holds = held_cell a b f grow same_content;
    }

  goes_if : (f : FileId) (o p : Option Replica) → replica_at a f ≡ o → replica_at b f ≡ p → StaysIf a.tags b.tags o p
      → GoesIf standing a.tags b.tags (option_map (seen a f) o) (option_map (seen b f) p)
  goes_if f None None old new still = tt
  goes_if f None (Some y) old new still = absurd still
  goes_if f (Some x) None old new still = absurd still
  goes_if f (Some x) (Some y) old new still = file_goes f x y old new still

  -- NAMES CHANGE, AND THE KEYS THAT TELL OF IT ARE TOUCHED
  pub touched_steps : Steps standing a b
  touched_steps = bulk_steps standing in_order a b (record {
    up = k.up;
    files = λ f. goes_if f (replica_at a f) (replica_at b f) refl refl (k.stays f);
    single = λ s. (from_bare b (k.tags (to_bare a s))).single;
    over = over_stays a b;
  })
