-- Where things stand after one came to a spot, left one, or went from one to another.
use Rattle.std.proofs.Common.{◌≡◌, Bool, true, false, ◌||◌, ◌&&◌, not, if◌then◌else◌, refl, sym, ap, ◌∙◌}
use Rattle.std.proofs.lemmas.Bool.{and_from, and_parts, false≢true}
use Rattle.pg_base.specs.declared.id.FileId.{FileId}
use Rattle.pg_base.specs.Id.{is_same_file}
use Rattle.pg_base.proofs.Orders.{is_same_file-refl, is_same_file-true}
use Rattle.pg_index.specs.Ids.{has}
use Rattle.pg_names.specs.declared.spots.Spot.{Spot}
use Rattle.pg_names.specs.declared.spots.Spots.{Spots}
use Rattle.pg_names.specs.Calm.{is_root, is_spot}
use Rattle.pg_names.specs.Same.{is_same_truth}
use Rattle.pg_names.specs.Indexed.{has_spot, is_same_spot}

-- ---- one comes

put_yes : (a b r w h : Bool) → r ≡ false → w ≡ true → ((a && b) || h) ≡ ((b && (not r && (w && a))) || h)
put_yes true true false true h e f = refl
put_yes true false false true h e f = refl
put_yes false true false true h e f = refl
put_yes false false false true h e f = refl
put_yes a b true w h e f = absurd (false≢true (sym e))
put_yes a b false false h e f = absurd (false≢true f)

put_no : (a b r w h : Bool) → w ≡ false → h ≡ ((b && (not r && (w && a))) || h)
put_no a true true false h f = refl
put_no a true false false h f = refl
put_no a false r false h f = refl
put_no a b r true h f = absurd (false≢true (sym f))

none : (b r w h : Bool) → r ≡ true → h ≡ ((b && (not r && w)) || h)
none true true w h e = refl
none false r w h e = refl
none true false w h e = absurd (false≢true e)

module _ (old new : Spots) (file : FileId) (spot : Spot) where
  abbrev Came : Type 0
  Came = (live : Bool) (dir q : FileId) → has_spot new live dir q ≡ ((is_same_file file q && is_spot live dir file spot) || has_spot old live dir q)

  pub put_root : is_root file ≡ true → new ≡ old → Came
  put_root root same live dir q =
      ap (λ s. has_spot s live dir q) same ∙ none (is_same_file file q) (is_root file) _ (has_spot old live dir q) root

  pub put_live : is_root file ≡ false → spot.live ≡ true → new.dead ≡ old.dead
      → ((k q : FileId) → has new.live k q ≡ ((is_same_file spot.dir k && is_same_file file q) || has old.live k q)) → Came
  put_live root at same more true dir q = more dir q ∙ put_yes (is_same_file spot.dir dir) (is_same_file file q) (is_root file) spot.live (has old.live dir q) root at
  put_live root at same more false dir q =
      ap (λ l. has l dir q) same ∙ put_no (is_same_file spot.dir dir) (is_same_file file q) (is_root file) (not spot.live) (has old.dead dir q) (ap not at)

  pub put_dead : is_root file ≡ false → spot.live ≡ false → new.live ≡ old.live
      → ((k q : FileId) → has new.dead k q ≡ ((is_same_file spot.dir k && is_same_file file q) || has old.dead k q)) → Came
  put_dead root at same more false dir q = more dir q ∙ put_yes (is_same_file spot.dir dir) (is_same_file file q) (is_root file) (not spot.live) (has old.dead dir q) root (ap not at)
  put_dead root at same more true dir q =
      ap (λ l. has l dir q) same ∙ put_no (is_same_file spot.dir dir) (is_same_file file q) (is_root file) spot.live (has old.live dir q) at

-- ---- one leaves

cut_yes : (a b r w h : Bool) → r ≡ false → w ≡ true → (not (a && b) && h) ≡ (not (b && (not r && (w && a))) && h)
cut_yes true true false true h e f = refl
cut_yes true false false true h e f = refl
cut_yes false true false true h e f = refl
cut_yes false false false true h e f = refl
cut_yes a b true w h e f = absurd (false≢true (sym e))
cut_yes a b false false h e f = absurd (false≢true f)

cut_no : (a b r w h : Bool) → w ≡ false → h ≡ (not (b && (not r && (w && a))) && h)
cut_no a true true false h f = refl
cut_no a true false false h f = refl
cut_no a false r false h f = refl
cut_no a b r true h f = absurd (false≢true (sym f))

cut_none : (b r w h : Bool) → r ≡ true → h ≡ (not (b && (not r && w)) && h)
cut_none true true w h e = refl
cut_none false r w h e = refl
cut_none true false w h e = absurd (false≢true e)

module _ (old new : Spots) (file : FileId) (spot : Spot) where
  abbrev Left : Type 0
  Left = (live : Bool) (dir q : FileId) → has_spot new live dir q ≡ (not (is_same_file file q && is_spot live dir file spot) && has_spot old live dir q)

  pub cut_root : is_root file ≡ true → new ≡ old → Left
  cut_root root same live dir q =
      ap (λ s. has_spot s live dir q) same ∙ cut_none (is_same_file file q) (is_root file) _ (has_spot old live dir q) root

  pub cut_live : is_root file ≡ false → spot.live ≡ true → new.dead ≡ old.dead
      → ((k q : FileId) → has new.live k q ≡ (not (is_same_file spot.dir k && is_same_file file q) && has old.live k q)) → Left
  cut_live root at same less true dir q = less dir q ∙ cut_yes (is_same_file spot.dir dir) (is_same_file file q) (is_root file) spot.live (has old.live dir q) root at
  cut_live root at same less false dir q =
      ap (λ l. has l dir q) same ∙ cut_no (is_same_file spot.dir dir) (is_same_file file q) (is_root file) (not spot.live) (has old.dead dir q) (ap not at)

  pub cut_dead : is_root file ≡ false → spot.live ≡ false → new.live ≡ old.live
      → ((k q : FileId) → has new.dead k q ≡ (not (is_same_file spot.dir k && is_same_file file q) && has old.dead k q)) → Left
  cut_dead root at same less false dir q = less dir q ∙ cut_yes (is_same_file spot.dir dir) (is_same_file file q) (is_root file) (not spot.live) (has old.dead dir q) root (ap not at)
  cut_dead root at same less true dir q =
      ap (λ l. has l dir q) same ∙ cut_no (is_same_file spot.dir dir) (is_same_file file q) (is_root file) spot.live (has old.live dir q) at

-- ---- one goes from one spot to another

truths : (a b : Bool) → is_same_truth a b ≡ true → a ≡ b
truths true b h = sym h
truths false false h = refl
truths false true h = absurd (false≢true h)

same_place : (live : Bool) (dir file : FileId) (a b : Spot) → a.live ≡ b.live → a.dir ≡ b.dir → is_spot live dir file a ≡ is_spot live dir file b
same_place live dir file a b e f =
    ap (λ l. not (is_root file) && ((if live then l else not l) && is_same_file a.dir dir)) e ∙ ap (λ d. not (is_root file) && ((if live then b.live else not b.live) && is_same_file d dir)) f

truth_both : (live a b : Bool) → (if live then a else not a) ≡ true → (if live then b else not b) ≡ true → is_same_truth a b ≡ true
truth_both true true true e f = refl
truth_both true false b e f = absurd (false≢true e)
truth_both true true false e f = absurd (false≢true f)
truth_both false false false e f = refl
truth_both false true b e f = absurd (false≢true e)
truth_both false false true e f = absurd (false≢true f)

-- spots at one place are the same
both : (live : Bool) (dir file : FileId) (a b : Spot) → is_spot live dir file a ≡ true → is_spot live dir file b ≡ true → is_same_spot a b ≡ true
both live dir file a b x y =
    let p = and_parts (if live then a.live else not a.live) _ (and_parts (not (is_root file)) _ x).1 in
    let r = and_parts (if live then b.live else not b.live) _ (and_parts (not (is_root file)) _ y).1 in
    and_from (is_same_truth a.live b.live) _ (truth_both live a.live b.live p.0 r.0)
    (ap (λ d. is_same_file a.dir d) (is_same_file-true b.dir dir r.1) ∙ ap (λ d. is_same_file d dir) (is_same_file-true a.dir dir p.1) ∙ is_same_file-refl dir)

stays : (x o : Bool) → (x || o) ≡ (x || (not x && o))
stays true o = refl
stays false o = refl

goes : (s t f o : Bool) → (t ≡ true → f ≡ true → ⊥) → (not (s && f) && ((s && t) || o)) ≡ ((s && t) || (not (s && f) && o))
goes true true true o h = absurd (h refl refl)
goes true true false o h = refl
goes true false f o h = refl
goes false t f o h = refl

module _ (old put new : Spots) (file : FileId) (from to : Spot) (came : (live : Bool) (dir q : FileId) → has_spot put live dir q ≡ ((is_same_file file q && is_spot live dir file to) || has_spot old live dir q)) where
  abbrev Went : Type 0
  Went = (live : Bool) (dir q : FileId) → has_spot new live dir q
      ≡ ((is_same_file file q && is_spot live dir file to) || (not (is_same_file file q && is_spot live dir file from) && has_spot old live dir q))

  pub shift_same : (b : Bool) → b ≡ is_same_spot from to → b ≡ true → new ≡ put → Went
  shift_same b tests holds same live dir q =
      let parts = and_parts (is_same_truth from.live to.live) _ (sym tests ∙ holds) in
      let one : is_spot live dir file from ≡ is_spot live dir file to = same_place live dir file from to (truths from.live to.live parts.0) (is_same_file-true from.dir to.dir parts.1) in
      ap (λ s. has_spot s live dir q) same ∙ came live dir q ∙ stays (is_same_file file q && is_spot live dir file to) (has_spot old live dir q)
      ∙ ap (λ x. (is_same_file file q && is_spot live dir file to) || (not (is_same_file file q && x) && has_spot old live dir q)) (sym one)

  pub shift_other : (b : Bool) → b ≡ is_same_spot from to → b ≡ false
      → ((live : Bool) (dir q : FileId) → has_spot new live dir q ≡ (not (is_same_file file q && is_spot live dir file from) && has_spot put live dir q)) → Went
  shift_other b tests fails left live dir q =
      left live dir q ∙ ap (λ x. not (is_same_file file q && is_spot live dir file from) && x) (came live dir q)
      ∙ goes (is_same_file file q) (is_spot live dir file to) (is_spot live dir file from) (has_spot old live dir q)
      (λ x y. false≢true (sym (sym tests ∙ fails) ∙ both live dir file from to y x))
