-- And whatever versions, replicas that begin, and house rules do.
use Rattle.std.proofs.Common.{ℕ, ◌≡◌, Bool, true, false, cond, not, List, [], ◌∷◌, drop, length, Option, None, Some, refl, sym, ap, subst, ◌∙◌, inl, inr}
use Rattle.std.specs.List.{filter}
use Rattle.std.proofs.lemmas.Bool.{false≢true, not-true}
use Rattle.std.proofs.lemmas.Option.{none-some}
use Rattle.law_frame.specs.pg_run.pg_base.declared.id.FileId.{FileId}
use Rattle.law_frame.specs.pg_run.pg_base.declared.policy.Policy.{Policy}
use Rattle.law_frame.specs.pg_run.pg_base.declared.stamp.Stamp.{Stamp}
use Rattle.law_frame.specs.pg_run.pg_base.Id.{file_cmp, is_same_file}
use Rattle.law_frame.specs.pg_run.pg_base.Version.{VersionValue}
use Rattle.law_frame.proofs.pg_run.pg_base.Maps.{lookup-insert_entry}
use Rattle.law_frame.proofs.pg_run.pg_base.Orders.{file_total}
use Rattle.law_frame.specs.pg_run.pg_patch.Ranges.{RangesValue}
use Rattle.law_frame.specs.pg_run.pg_content.Content.{Among, ContentValue, covers_version, next_version, put_version as put_head}
use Rattle.law_frame.proofs.pg_run.pg_content.Inserting.{inserted_among}
use Rattle.law_frame.proofs.pg_run.pg_content.Members.{filter_among, map_among}
use Rattle.law_frame.specs.pg_run.pg_edges.declared.key.Key.{Key}
use Rattle.law_frame.specs.pg_run.pg_edges.declared.key.Key.TheVariants as key
use Rattle.law_frame.specs.pg_run.pg_edges.Edges.{tag_at, touched}
use Rattle.law_frame.specs.pg_run.pg_edges.Laws.Change.{Touch}
use Rattle.law_frame.proofs.pg_run.pg_edges.Tags.{keeps_or_brings}
use Rattle.law_frame.specs.pg_run.pg_entries.declared.cell.Cell.TheVariants as cell
use Rattle.law_frame.specs.pg_run.pg_house.House.{house}
use Rattle.law_frame.specs.pg_run.pg_house.Work.{state_of}
use Rattle.law_frame.specs.pg_run.pg_intent.declared.intent.Intent.{Intent}
use Rattle.law_frame.specs.pg_run.pg_intent.declared.intent.Intent.TheVariants as intent
use Rattle.law_frame.specs.pg_run.pg_intent.declared.key.IntentKey.{IntentKey}
use Rattle.law_frame.specs.pg_run.pg_intent.Intents.{ended, intent_at}
use Rattle.law_frame.specs.pg_run.pg_msg.declared.work.Work.{Work}
use Rattle.law_frame.specs.pg_run.pg_names.declared.attributes.Attributes.{Attributes}
use Rattle.law_frame.specs.pg_run.pg_names.Names.{InodeValue, NamesValue, begin as begin_names, cell_at as entry_at, entry_in, fill, filled, known, let_go as let_go_names, new_held, or_blank, own_of, own_or_blank, raise}
use Rattle.law_frame.proofs.pg_run.pg_names.Gone.{gone_other}
use Rattle.law_frame.proofs.pg_run.pg_names.Lookups.{cells_kept, own_kept}
use Rattle.law_frame.specs.pg_run.pg_register.Flag.{flag_of}
use Rattle.law_frame.specs.pg_run.pg_replica.declared.replica.Replica.{Replica}
use Rattle.law_frame.specs.pg_run.pg_replica.Laws.{IsKeyOf}
use Rattle.law_frame.specs.pg_run.pg_replica.Replica.{cell_at as head_at, covered_heads, covers, key_of, keys, new_replica, own_actor, with_head, with_write, without_keys}
use Rattle.law_frame.specs.pg_run.pg_replica.Replicas.{edge_count, or_nothing, replicas_taking, replicas_writing, takes_version}
use Rattle.law_frame.proofs.pg_run.pg_replica.Going.{replica_behind}
use Rattle.law_frame.proofs.pg_run.pg_replica.Growth.{cell_head}
use Rattle.law_frame.proofs.pg_run.pg_replica.Heads.{head_cell, left_tag}
use Rattle.law_frame.specs.pg_run.pg_store.declared.store.Store.{Store}
use Rattle.law_frame.specs.pg_run.pg_store.Beginning.{begin, let_go, patches_of, put_new, take_patch, take_patches, take_told, take_told_in, with_intents}
use Rattle.law_frame.specs.pg_run.pg_store.Cells.{version_cell}
use Rattle.law_frame.specs.pg_run.pg_store.Store.{content_of, end_covered, is_new_version, put_version, replica_at, take_version, with_drawn, with_names, write}
use Rattle.law_frame.specs.pg_run.pg_cells.Settling.{rules}
use Rattle.law_frame.proofs.pg_run.theory_flood_pieces.Choices.{decided}
use Rattle.law_frame.proofs.pg_run.theory_flood_pieces.Stores.{Changes, by_file, replica_elsewhere, replica_here}
use Rattle.law_ticks.proofs.HouseKeys.{new_has, old_has}
use Rattle.law_ticks.proofs.Keyed.{NameHas}
use Rattle.law_ticks.proofs.KeysCells.{AllHaveCells, HasCell, HaveCells, HaveIn, beside_have, cell_stays, entry_have, entry_named, flag_named, have_in, name_cell, named_have, raised_up, touches_have, version_named}

-- ---- versions

-- the key of a head that does not go is that of one that stays
stays_by : (test : VersionValue → Bool) (vs : List VersionValue) (w : VersionValue) (t : Bool) → test w ≡ t → (Among (key_of w) (keys (filter test vs)) → ⊥) → Among w vs → Among w (filter (λ h. not (test h)) vs)
stays_by test vs w true e none m = absurd (none (map_among key_of (filter test vs) w (filter_among test w vs m e)))
stays_by test vs w false e none m = filter_among (λ h. not (test h)) w vs m (ap not e)

module _ (a b : Store) (f : FileId) (up : (k : Key) → NameHas a.names f k → NameHas b.names f k) where
  -- a version's key is that of a head
  version_cell_of : (stamp : Stamp) → IsKeyOf (content_of b f).heads (key.Version stamp) → HasCell b f (key.Version stamp)
  version_cell_of stamp is =
      let h = head_cell (content_of b f).heads (key.Version stamp) is in
      (cell.Version h.0, ap version_cell h.1)

  head_of : (stamp : Stamp) → HasCell a f (key.Version stamp) → IsKeyOf (content_of a f).heads (key.Version stamp)
  head_of stamp h =
      let v = version_named (head_at (content_of a f).heads (key.Version stamp)) h.0 h.1 in
      let c = cell_head (content_of a f).heads (key.Version stamp) v.0 v.1 in
      (v.0, c.0, c.1)

  -- the heads that go take their keys with them
  left_cell : (gone : List VersionValue) → ((w : VersionValue) → Among w (content_of a f).heads → (Among (key_of w) (keys gone) → ⊥) → Among w (content_of b f).heads)
      → (q : Key) → (Among q (keys gone) → ⊥) → HasCell a f q → HasCell b f q
  left_cell gone left key.Place none h = (cell.Place (own_or_blank b.names f).place, refl)
  left_cell gone left (key.Flag m) none h = name_cell b f (key.Flag m) (up (key.Flag m) (flag_named (flag_of (own_or_blank a.names f).flags m) h.0 h.1))
  left_cell gone left (key.Entry g) none h = name_cell b f (key.Entry g) (up (key.Entry g) (entry_named (entry_at a.names f g) _ h.0 h.1))
  left_cell gone left (key.Version stamp) none h =
      let is = head_of stamp h in
      version_cell_of stamp (is.0, left is.0 is.1 (λ m. none (subst (λ z. Among z (keys gone)) (sym is.2) m)), is.2)

-- a replica in which some heads went and one came
module _ (a b : Store) (k : AllHaveCells a) (f : FileId) (x y : Replica) (ch : Changes a b f x y) (stamp : Stamp) (v : VersionValue) (gone : List VersionValue)
    (own : v.head.stamp ≡ stamp) (up : (g : FileId) (q : Key) → NameHas a.names g q → NameHas b.names g q)
    (edges : y.edges ≡ touched (without_keys x.edges (keys gone)) (key.Version stamp) a.tags)
    (left : (w : VersionValue) → Among w x.content.heads → (Among (key_of w) (keys gone) → ⊥) → Among w y.content.heads)
    (here : Among v y.content.heads) where
  new_content : content_of b f ≡ y.content
  new_content = ap (λ (o : Option Replica). (or_nothing o).content) (replica_here a b f x y ch)

  old_content : content_of a f ≡ x.content
  old_content = ap (λ (o : Option Replica). (or_nothing o).content) ch.old

  abbrev In : VersionValue → ContentValue → Type 0
  In w c = Among w c.heads

  came : HasCell b f (key.Version stamp)
  came =
      let Q : Stamp → Type 0 = λ z. HasCell b f (key.Version z) in
      subst Q own (version_cell_of a b f (up f) v.head.stamp (v, subst (In v) (sym new_content) here, refl))

  left_here : (w : VersionValue) → Among w (content_of a f).heads → (Among (key_of w) (keys gone) → ⊥) → Among w (content_of b f).heads
  left_here w m none = subst (In w) (sym new_content) (left w (subst (In w) old_content m) none)

  here_have : HaveCells b f y.edges
  here_have p i q g h =
      let es = without_keys x.edges (keys gone) in
      let old : HaveIn a f (Some x) = subst (HaveIn a f) ch.old (k.each f) in
      let there : tag_at (touched es (key.Version stamp) a.tags) p i q ≡ Some g = ap (λ zs. tag_at zs p i q) (sym edges) ∙ h in
      elim (keeps_or_brings (Touch (key.Version stamp) a.tags) es p i q g there) [
        | inl was ↦ (
            let r = left_tag (keys gone) x.edges q p i g was in
            left_cell a b f (up f) gone left_here q r.1 (old p i q g r.0))
        | inr new ↦ subst (HasCell b f) (sym new.0) came
      ]

  pub news_have : AllHaveCells b
  news_have = record {
    each = by_file (λ g o. HaveIn b g o) a b f x y ch here_have (λ g apart.
        have_in a b g (replica_at a g)
        (cell_stays a b g (up g) (ap (λ (o : Option Replica). (or_nothing o).content) (replica_elsewhere a b f x y g ch apart))) (k.each g));
  }

put_left : (x : Replica) (v : VersionValue) (t : ℕ) → covers x v ≡ false → (w : VersionValue) → Among w x.content.heads → (Among (key_of w) (keys (covered_heads x.content.heads v)) → ⊥) → Among w (with_head x v t).content.heads
put_left x v t new w m none =
    let P : Bool → Type 0 = λ c. Among w (cond c x.content.heads (put_head x.content.heads v)) in
    subst P (sym new)
    (inserted_among w v (filter (λ h. not (covers_version v.head.vector h)) x.content.heads) (inr (stays_by (covers_version v.head.vector) x.content.heads w (covers_version v.head.vector w) refl none m)))

put_here : (x : Replica) (v : VersionValue) (t : ℕ) → covers x v ≡ false → Among v (with_head x v t).content.heads
put_here x v t new =
    let P : Bool → Type 0 = λ c. Among v (cond c x.content.heads (put_head x.content.heads v)) in
    subst P (sym new) (inserted_among v v (filter (λ h. not (covers_version v.head.vector h)) x.content.heads) (inl refl))

-- as `with_news` of this replica, or of none
abbrev took : Store → FileId → VersionValue → Option Replica → Store
took a f v o = end_covered (with_names (with_drawn a (edge_count o) (replicas_taking a.replicas f v a.tags o)) (raise a.names v.head.stamp.time)) f

put_by : (a : Store) (f : FileId) (v : VersionValue) (o : Option Replica) → replica_at a f ≡ o → takes_version o v ≡ true → AllHaveCells a → AllHaveCells (took a f v o)
put_by a f v None e new k = absurd (false≢true new)
put_by a f v (Some x) e new k =
    let y = with_head x v a.tags in
    let b = took a f v (Some x) in
    let fresh : covers x v ≡ false = not-true (covers x v) new in
    let ch : Changes a b f x y = record { old = e; replicas = refl } in
    news_have a b k f x y ch v.head.stamp v (covered_heads x.content.heads v) refl (raised_up a.names v.head.stamp.time) refl (put_left x v a.tags fresh) (put_here x v a.tags fresh)

pub version_have : (a : Store) (f : FileId) (v : VersionValue) → AllHaveCells a → AllHaveCells (take_version a f v)
version_have a f v k =
    decided AllHaveCells (is_new_version a f v) (put_version a f v) a (λ new. put_by a f v (replica_at a f) refl new k) (λ old. k)

-- a version that is made
abbrev wrote : Store → FileId → Stamp → RangesValue → Option Replica → Store
wrote a f stamp ranges o = end_covered (with_names (with_drawn a (edge_count o) (replicas_writing a.replicas f stamp ranges a.tags o)) (raise a.names stamp.time)) f

write_by : (a : Store) (f : FileId) (stamp : Stamp) (ranges : RangesValue) (o : Option Replica) → replica_at a f ≡ o → AllHaveCells a → AllHaveCells (wrote a f stamp ranges o)
write_by a f stamp ranges None e k = beside_have a (wrote a f stamp ranges None) refl (raised_up a.names stamp.time) k
write_by a f stamp ranges (Some x) e k =
    let actor = own_actor x stamp.server in
    let y = with_write x actor stamp ranges a.tags in
    let b = wrote a f stamp ranges (Some x) in
    let ch : Changes a b f x y = record { old = e; replicas = refl } in
    news_have a b k f x y ch stamp (next_version x.content actor stamp ranges) x.content.heads refl (raised_up a.names stamp.time) refl
    (λ w m none. absurd (none (map_among key_of x.content.heads w m))) (inl refl)

pub write_have : (a : Store) (f : FileId) (stamp : Stamp) (ranges : RangesValue) → AllHaveCells a → AllHaveCells (write a f stamp ranges)
write_have a f stamp ranges k = write_by a f stamp ranges (replica_at a f) refl k

-- ---- a replica begins

-- of what was not held something is known then, and of all else what was
module _ (s : NamesValue) (f : FileId) (own : Attributes) (full : Bool) where
  abbrev Begun : NamesValue
  Begun = begin_names s f own full

  known_then : (g : FileId) → known Begun g ≡ cond (is_same_file g f) (Some (new_held own full)) (known s g)
  known_then g = lookup-insert_entry file_cmp file_total g f (new_held own full) s.held

  module _ (g : FileId) (apart : is_same_file g f ≡ false) where
    known_still : known Begun g ≡ known s g
    known_still = known_then g ∙ ap (λ t. cond t (Some (new_held own full)) (known s g)) apart

    pub begun_stays : (k : Key) → NameHas s g k → NameHas Begun g k
    begun_stays key.Place h = tt
    begun_stays (key.Flag m) h = (h.0, ap (λ (o : Option InodeValue). flag_of (or_blank g (own_of o)).flags m) known_still ∙ h.1)
    begun_stays (key.Entry c) h = (h.0, ap (entry_in c) known_still ∙ h.1)
    begun_stays (key.Version stamp) h = absurd h

new_have : (a : Store) (f : FileId) (birth : ℕ) (policy : Policy) (own : Attributes) (full : Bool) → AllHaveCells a → AllHaveCells (put_new a f birth policy own full)
new_have a f birth policy own full k = record { each = λ g. at g (is_same_file g f) refl }
  where
    b : Store
    b = put_new a f birth policy own full

    replica_then : (g : FileId) → replica_at (put_new a f birth policy own full) g ≡ cond (is_same_file g f) (Some (new_replica birth policy)) (replica_at a g)
    replica_then g = lookup-insert_entry file_cmp file_total g f (new_replica birth policy) a.replicas

    at : (g : FileId) (t : Bool) → is_same_file g f ≡ t → HaveIn (put_new a f birth policy own full) g (replica_at (put_new a f birth policy own full) g)
    at g true e =
        let b = put_new a f birth policy own full in
        subst (HaveIn b g) (sym (replica_then g ∙ ap (λ t. cond t (Some (new_replica birth policy)) (replica_at a g)) e))
        (λ p i q t h. absurd (none-some t h))
    at g false e =
        let b = put_new a f birth policy own full in
        let same : replica_at b g ≡ replica_at a g = replica_then g ∙ ap (λ t. cond t (Some (new_replica birth policy)) (replica_at a g)) e in
        let up : (q : Key) → NameHas a.names g q → NameHas b.names g q =
        λ q h. raised_up (begin_names a.names f own full) own.place.stamp.time g q (begun_stays a.names f own full g e q h) in
        subst (HaveIn b g) (sym same)
        (have_in a b g (replica_at a g) (cell_stays a b g up (ap (λ (o : Option Replica). (or_nothing o).content) same)) (k.each g))

intents_have : (a : Store) (is : List Intent) → AllHaveCells a → AllHaveCells (with_intents a is)
intents_have a is k = beside_have a (with_intents a is) refl (λ g q h. h) k

told_have : (a : Store) (d : FileId) (i : Intent) → AllHaveCells a → AllHaveCells (take_told a d i)
told_have a d (intent.Patch to entry target) k = entry_have a d entry k
told_have a d i k = k

told_in_have : (a : Store) (d : FileId) (o : Option Intent) → AllHaveCells a → AllHaveCells (take_told_in a d o)
told_in_have a d None k = k
told_in_have a d (Some i) k = told_have a d i k

patches_have : (a : Store) (d : FileId) (ks : List IntentKey) → AllHaveCells a → AllHaveCells (take_patches a d ks)
patches_have a d [] k = k
patches_have a d (q ∷ ks) k =
    patches_have (take_patch a d q) d ks (told_in_have (with_intents a (ended a.intents q)) d (intent_at a.intents q) (intents_have a (ended a.intents q) k))

pub begin_have : (a : Store) (f : FileId) (birth : ℕ) (policy : Policy) (own : Attributes) (full : Bool) → AllHaveCells a → AllHaveCells (begin a f birth policy own full)
begin_have a f birth policy own full k =
    patches_have (put_new a f birth policy own full) f (patches_of f a.intents) (new_have a f birth policy own full k)

-- ---- a filling replica is full

pub fill_have : (a : Store) (f : FileId) → AllHaveCells a → AllHaveCells (with_names a (fill a.names f))
fill_have a f k = named_have a (fill a.names f) stays k
  where
    stays : (g : FileId) (q : Key) → NameHas a.names g q → NameHas (fill a.names f) g q
    stays g key.Place h = tt
    stays g (key.Flag m) h = (h.0, ap (λ o. flag_of (or_blank g o).flags m) (own_kept a.names f filled (λ x. refl) g) ∙ h.1)
    stays g (key.Entry c) h = (h.0, cells_kept a.names f filled (λ x. refl) g c ∙ h.1)
    stays g (key.Version stamp) h = absurd h

-- ---- a replica goes

-- of others all stays
going_stays : (s : NamesValue) (f g : FileId) → is_same_file f g ≡ false → (k : Key) → NameHas s g k → NameHas (let_go_names s f) g k
going_stays s f g apart key.Place h = tt
going_stays s f g apart (key.Flag m) h = (h.0, ap (λ (o : Option InodeValue). flag_of (or_blank g (own_of o)).flags m) (gone_other s f g apart) ∙ h.1)
going_stays s f g apart (key.Entry c) h = (h.0, ap (entry_in c) (gone_other s f g apart) ∙ h.1)
going_stays s f g apart (key.Version stamp) h = absurd h

others_have : (a : Store) (f : FileId) → AllHaveCells a → (g : FileId) (t : Bool) → is_same_file f g ≡ t → HaveIn (let_go a f) g (cond (not t) (replica_at a g) None)
others_have a f k g true e = tt
others_have a f k g false e =
    let b = let_go a f in
    let same : replica_at b g ≡ replica_at a g = replica_behind a.replicas f g ∙ ap (λ (t : Bool). cond (not t) (replica_at a g) None) e in
    have_in a b g (replica_at a g) (cell_stays a b g (going_stays a.names f g e) (ap (λ (o : Option Replica). (or_nothing o).content) same)) (k.each g)

pub goes_have : (a : Store) (f : FileId) → AllHaveCells a → AllHaveCells (let_go a f)
goes_have a f k = record {
  each = λ g. subst (HaveIn (let_go a f) g) (sym (replica_behind a.replicas f g)) (others_have a f k g (is_same_file f g) refl);
}

-- ---- the house rules

pub ruled_have : (a : Store) (work : Work) → AllHaveCells a → AllHaveCells (rules a work).store
ruled_have a work k =
    let names = (house work.now (state_of a.names work)).names in
    let ts = drop (length work.touched) (house work.now (state_of a.names work)).work.touched in
    touches_have (with_names a names) ts (λ x h. new_has work.now a.names work x h) (named_have a names (old_has work.now a.names work) k)
