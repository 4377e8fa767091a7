-- The indexes after each method of names that changes what is held.
use Rattle.std.proofs.Common.{◌≡◌, Bool, true, false, ◌||◌, ◌&&◌, not, if◌then◌else◌, List, Option, None, Some, is_some, refl, sym, ap, subst, ◌∙◌}
use Rattle.std.proofs.lemmas.Bool.{false≢true}
use Rattle.std.specs.List.Sorted.{IsStrictlySortedBy}
use Rattle.std.specs.Map.{keys_of}
use Rattle.pg_base.specs.declared.id.FileId.{FileId}
use Rattle.pg_base.specs.Id.{file_cmp, is_same_file}
use Rattle.pg_base.proofs.Orders.{is_same_file-true}
use Rattle.pg_register.specs.declared.flag.Flag.{Flag}
use Rattle.pg_entries.specs.declared.entry.Entry.{Entry}
use Rattle.pg_index.specs.Ids.{ListsValue, has, ids_at, is_one_of}
use Rattle.pg_names.specs.declared.attributes.Attributes.{Attributes}
use Rattle.pg_names.specs.declared.spots.Spot.{Spot}
use Rattle.pg_names.specs.declared.spots.Spots.{Spots}
use Rattle.pg_names.specs.Names.{InodeValue, NamesValue, begin, is_dir, is_held, join_flag, known, let_go, own_at, own_of, set_entry, update, with_flag}
use Rattle.pg_names.specs.Calm.{is_holder, is_in, is_spot, spot_of}
use Rattle.pg_names.specs.Indexed.{IsIndexed, has_spot}
use Rattle.pg_names.proofs.Arriving.{begin_again, begun_indexed}
use Rattle.pg_names.proofs.Changing.{entry_indexed, grown_indexed, own_indexed}
use Rattle.pg_names.proofs.Departing.{AreMarked, and_no, gone_indexed}
use Rattle.pg_names.proofs.Frames.{IsGrown, framed_calm, framed_come, grown_insert, grown_more, marked_insert, same_frame}
use Rattle.pg_names.proofs.Gone.{gone_same}
use Rattle.pg_names.proofs.Lookups.{flag_same, known_absent, own_with_flag}
use Rattle.pg_names.proofs.Steps.{along, marks_more}

-- a mark that came
abbrev pub IsMore : FileId → List FileId → List FileId → Type 0
IsMore f d e = (q : FileId) → is_one_of q e ≡ (is_same_file f q || is_one_of q d)

-- a thing that stood at one spot stands at another
abbrev pub Went : FileId → Spot → Spot → Spots → Spots → Type 0
Went f from to old new = (live : Bool) (dir q : FileId) → has_spot new live dir q
    ≡ ((is_same_file f q && is_spot live dir f to) || (not (is_same_file f q && is_spot live dir f from) && has_spot old live dir q))

-- the own place and flags of a thing change
module _ (s t : NamesValue) (f : FileId) (change : InodeValue → InodeValue) (keeps : (x : InodeValue) → (change x).entries ≡ x.entries) (is : t ≡ update s f change)
    (d e dirs : List FileId) (spots spots' : Spots) (holders : ListsValue) (more : IsMore f d e) (ix : IsIndexed s d dirs spots holders) where
  pub own_step : (a b : Attributes) (from to : Spot) → Some a ≡ own_at s f → own_at (update s f change) f ≡ Some b → from ≡ spot_of a.place → to ≡ spot_of b.place
      → Went f from to spots spots' → IsIndexed t e dirs spots' holders
  own_step a b from to before after x y went =
      let w : Went f (spot_of a.place) (spot_of b.place) spots spots' =
      subst (λ (z : Spot). Went f (spot_of a.place) z spots spots') y (subst (λ (z : Spot). Went f z to spots spots') x went) in
      along (update s f change) t e dirs spots' holders is
      (own_indexed s f change keeps e (marked_insert d e f more) a b (sym before) after spots spots' ix.spots_are w d dirs holders (grown_insert d e f more) ix)

unmoved : (t x h : Bool) → (t ≡ true → h ≡ x) → h ≡ ((t && x) || (not (t && x) && h))
unmoved false x h e = refl
unmoved true true h e = e refl
unmoved true false h e = refl

-- a flag comes: all stands where it stood
module _ (s t : NamesValue) (f : FileId) (flag : Flag) (is : t ≡ join_flag s f flag) (d e dirs : List FileId) (spots : Spots) (holders : ListsValue) (more : IsMore f d e) (ix : IsIndexed s d dirs spots holders) where
  flag_by : (o : Option Attributes) → own_at s f ≡ o → IsIndexed t e dirs spots holders
  flag_by None absent = along s t e dirs spots holders (is ∙ known_absent s f (with_flag flag) absent) (marks_more s d e dirs spots holders (grown_insert d e f more) ix)
  flag_by (Some a) there =
      own_step s t f (with_flag flag) (λ x. refl) is d e dirs spots spots holders more ix a (own_with_flag flag a) (spot_of a.place) (spot_of a.place) (sym there) (flag_same s f flag a there) refl refl
      (λ live dir q. unmoved (is_same_file f q) (is_spot live dir f (spot_of a.place)) (has_spot spots live dir q)
      (λ same. ap (has_spot spots live dir) (sym (is_same_file-true f q same)) ∙ ix.spots_are live dir f ∙ ap (is_in live dir f) there))

  pub flag_step : IsIndexed t e dirs spots holders
  flag_step = flag_by (own_at s f) refl

-- a cell is written
module _ (s t : NamesValue) (f : FileId) (c : Entry) (is : t ≡ set_entry s f c) (d e g dirs : List FileId) (spots : Spots) (holders holders' : ListsValue) (first : IsMore f d e) (second : IsMore c.child e g)
    (ix : IsIndexed s d dirs spots holders) where
  entry_by : (x : Option InodeValue) → known s f ≡ x → is_some x ≡ true → ((k q : FileId) → has holders' k q ≡ ((is_same_file c.child k && is_same_file f q) || has holders k q))
      → IsIndexed t g dirs spots holders'
  entry_by None there held more = absurd (false≢true held)
  entry_by (Some x) there held more =
      let on = grown_insert e g c.child second in
      along (set_entry s f c) t g dirs spots holders' is
      (entry_indexed s f c x.own (ap own_of there) g (on f (marked_insert d e f first)) (marked_insert e g c.child second) d dirs spots holders holders' (grown_more d e g (grown_insert d e f first) on) ix more)

  pub entry_step : is_held s f ≡ true → ((k q : FileId) → has holders' k q ≡ ((is_same_file c.child k && is_same_file f q) || has holders k q)) → IsIndexed t g dirs spots holders'
  entry_step held more = entry_by (known s f) refl held more

-- these are what stands in a directory
marked_at : (s : NamesValue) (f : FileId) (d e dirs ids : List FileId) (spots : Spots) (holders : ListsValue) (live : Bool) → IsIndexed s d dirs spots holders
    → ids ≡ ids_at (if live then spots.live else spots.dead) f → ((q : FileId) → is_one_of q ids ≡ true → is_one_of q e ≡ true) → AreMarked s live f e
marked_at s f d e dirs ids spots holders live ix is all q placed = all q (ap (is_one_of q) is ∙ ix.spots_are live f q ∙ placed)

-- a thing goes
pub gone_step : (s t : NamesValue) (f : FileId) → t ≡ let_go s f → (d e dirs dirs' ids : List FileId) (spots spots' : Spots) (holders holders' : ListsValue) → IsIndexed s d dirs spots holders
    → ids ≡ ids_at spots.live f → IsGrown d e → ((q : FileId) → is_one_of q ids ≡ true → is_one_of q e ≡ true)
    → ((q : FileId) → is_one_of q dirs' ≡ (not (is_same_file f q) && is_one_of q dirs))
    → ((live : Bool) (dir q : FileId) → has_spot spots' live dir q ≡ (not (is_same_file f q && is_in live dir f (own_at s f)) && has_spot spots live dir q))
    → ((g q : FileId) → has holders' g q ≡ (not (is_same_file f q && is_holder s g f) && has holders g q))
    → IsIndexed t e dirs' spots' holders'
gone_step s t f is d e dirs dirs' ids spots spots' holders holders' ix at grown all fewer left less =
    along (let_go s f) t e dirs' spots' holders' is
    (gone_indexed s f e (marked_at s f d e dirs ids spots holders true ix at all) d dirs dirs' spots spots' holders holders' grown ix fewer left less)

-- what is marked before a thing comes: it, and what stands in it
-- stays: what was marked is
-- there: the thing
-- live, dead: what stands in it
pub record IsReady (s : NamesValue) (f : FileId) (d e : List FileId) : Type 0 where
  pub stays : IsGrown d e
  pub there : is_one_of f e ≡ true
  pub live : AreMarked s true f e
  pub dead : AreMarked s false f e

pub ready : (s : NamesValue) (f : FileId) (d e g h dirs ids others : List FileId) (spots : Spots) (holders : ListsValue) → IsIndexed s d dirs spots holders
    → IsMore f d e → ids ≡ ids_at spots.live f → IsGrown e g → ((q : FileId) → is_one_of q ids ≡ true → is_one_of q g ≡ true)
    → others ≡ ids_at spots.dead f → IsGrown g h → ((q : FileId) → is_one_of q others ≡ true → is_one_of q h ≡ true) → IsReady s f d h
ready s f d e g h dirs ids others spots holders ix more live second marked dead third also = record {
  stays = grown_more d e h (grown_insert d e f more) (grown_more e g h second third);
  there = third f (second f (marked_insert d e f more));
  live = λ q placed. third q (marked_at s f d g dirs ids spots holders true ix live marked q placed);
  dead = marked_at s f d h dirs others spots holders false ix dead also;
}

-- a thing comes
pub begun_step : (s t : NamesValue) (f : FileId) (own : Attributes) (full : Bool) → known s f ≡ None → t ≡ begin s f own full → (d e dirs dirs' : List FileId) (spots spots' : Spots) (holders : ListsValue)
    → IsIndexed s d dirs spots holders → IsReady s f d e
    → ((q : FileId) → is_one_of q dirs' ≡ ((is_dir f && is_same_file f q) || is_one_of q dirs))
    → ((live : Bool) (dir q : FileId) → has_spot spots' live dir q ≡ ((is_same_file f q && is_spot live dir f (spot_of own.place)) || has_spot spots live dir q))
    → IsIndexed t e dirs' spots' holders
begun_step s t f own full none is d e dirs dirs' spots spots' holders ix r more put =
    along (begin s f own full) t e dirs' spots' holders is
    (begun_indexed s f own full none e r.there r.live r.dead d dirs dirs' spots spots' holders r.stays ix more put)

-- where a thing went before it began: it was let go, and names are as if it had only begun
pub absent : (s t : NamesValue) (f : FileId) → t ≡ let_go s f → known t f ≡ None
absent s t f is = ap (λ (n : NamesValue). known n f) is ∙ gone_same s f

pub begun_value : (s t u : NamesValue) (f : FileId) (own : Attributes) (full : Bool) → IsStrictlySortedBy file_cmp (keys_of s.held) → t ≡ let_go s f → u ≡ begin t f own full → u ≡ begin s f own full
begun_value s t u f own full sorted gone is = is ∙ ap (λ (n : NamesValue). begin n f own full) gone ∙ begin_again s f own full sorted

-- it did not come: where it was not held, nothing of it stands anywhere
pub not_begun : (s t : NamesValue) (f : FileId) → known s f ≡ None → t ≡ s → (d e dirs dirs' : List FileId) (spots spots' : Spots) (holders : ListsValue) → IsIndexed s d dirs spots holders → IsGrown d e
    → ((q : FileId) → is_one_of f dirs ≡ false → is_one_of q dirs' ≡ is_one_of q dirs)
    → ((live : Bool) (dir q : FileId) → has_spot spots live dir f ≡ false → has_spot spots' live dir q ≡ has_spot spots live dir q)
    → IsIndexed t e dirs' spots' holders
not_begun s t f none is d e dirs dirs' spots spots' holders ix grown fewer left =
    along s t e dirs' spots' holders is (record {
      calm = framed_calm s s d e grown (same_frame s e) ix.calm;
      come = framed_come s s d e grown (same_frame s e) ix.come;
      dirs_are = λ q. fewer q (ix.dirs_are f ∙ ap (λ (o : Option InodeValue). is_dir f && is_some o) none ∙ and_no (is_dir f)) ∙ ix.dirs_are q;
      spots_are = λ live dir q. left live dir q (ix.spots_are live dir f ∙ ap (λ o. is_in live dir f (own_of o)) none) ∙ ix.spots_are live dir q;
      holders_are = ix.holders_are;
    })

-- a cell was not written
pub not_written : (s t : NamesValue) (f c : FileId) → t ≡ s → (d e dirs : List FileId) (spots : Spots) (holders holders' : ListsValue) → IsIndexed s d dirs spots holders → IsGrown d e
    → ((k q : FileId) → has holders c f ≡ is_holder s c f → has holders' k q ≡ has holders k q) → IsIndexed t e dirs spots holders'
not_written s t f c is d e dirs spots holders holders' ix grown kept =
    along s t e dirs spots holders' is (grown_indexed s d e dirs spots spots holders holders' ix grown (λ live dir q. refl) (λ k q. kept k q (ix.holders_are c f)))

-- marks that came alone
pub two_more : (d e g : List FileId) (f c : FileId) → IsMore f d e → IsMore c e g → IsGrown d g
two_more d e g f c first second = grown_more d e g (grown_insert d e f first) (grown_insert e g c second)
