-- A version comes to a server, or is made there: what edges promise is kept, and the version is
-- held.
use Rattle.std.proofs.Common.{ℕ, ◌≡◌, ◌+◌, Bool, true, false, not, cond, List, [], ◌∷◌, length, Option, None, Some, option_map, refl, sym, ap, subst, ◌∙◌, arith, inl, inr, ◌⊎◌}
use Rattle.std.proofs.lemmas.Bool.Decides.{nat_tests}
use Rattle.std.proofs.lemmas.Bool.{not-true, not-false}
use Rattle.pg_base.specs.declared.id.FileId.{FileId}
use Rattle.pg_base.specs.declared.stamp.Stamp.{Stamp}
use Rattle.pg_base.specs.Version.{VersionValue}
use Rattle.pg_patch.specs.Ranges.{RangesValue}
use Rattle.pg_edges.specs.declared.key.Key.{Key}
use Rattle.pg_edges.specs.declared.key.Key.TheVariants as key
use Rattle.pg_edges.specs.declared.edge.Edge.{Edge}
use Rattle.pg_edges.specs.Key.{is_same_key}
use Rattle.pg_edges.specs.Edges.{is_listed, retired, slot_at, tag_at, tag_of, touched}
use Rattle.pg_edges.specs.Laws.{acknowledged}
use Rattle.pg_edges.proofs.Lookups.{retires, touch_listed, touch_others}
use Rattle.pg_content.specs.Content.{Among, ContentValue, covers_version, next_version, put_version}
use Rattle.pg_content.specs.Covering.{AreCoveredBy, IsUpToHead}
use Rattle.pg_content.specs.History.{Made, version_of}
use Rattle.pg_content.specs.StandsFor.{InStrictOrder}
use Rattle.pg_content.proofs.Ancestry.{one_made}
use Rattle.pg_content.proofs.Covering.{joined_covers, written_covers}
use Rattle.theory_flood.specs.Server.{Holds, HoldsAll}
use Rattle.theory_flood.proofs.Draws.{Draws, IsAsBefore, IsFreshAt}
use Rattle.theory_flood.proofs.Retire.{retired_listed}
use Rattle.theory_flood.proofs.Servers.{some_same}
use Rattle.theory_flood.proofs.Steps.{Steps, Steps-refl}
use Rattle.pg_entries.specs.declared.cell.Cell.{Cell}
use Rattle.pg_entries.specs.declared.cell.Cell.TheVariants as cell
use Rattle.pg_cells.specs.pg_names.declared.attributes.Attributes.{Attributes}
use Rattle.pg_register.specs.Flag.{flag_of}
use Rattle.pg_cells.specs.pg_replica.declared.replica.Replica.{Replica}
use Rattle.pg_cells.specs.pg_replica.Replica.{cell_at as head_at, covered_heads, covers, key_of, keys, own_actor, with_head, with_write, without_keys}
use Rattle.pg_cells.proofs.pg_replica.Drawn.{seen as heads_seen, version_draws, write_draws}
use Rattle.pg_cells.proofs.pg_replica.Growth.{CanTake, CoversItself, cell_head, head_at as head_found}
use Rattle.pg_cells.proofs.pg_replica.Order.{version_order, write_order}
use Rattle.pg_cells.specs.pg_store.declared.store.Store.{Store}
use Rattle.pg_cells.specs.pg_names.Names.{raise}
use Rattle.pg_cells.specs.pg_replica.Replicas.{ByFile, edge_count, or_nothing, put_replica, replicas_taking, replicas_writing, takes_version}
use Rattle.pg_cells.specs.pg_store.Cells.{cell_at, flag_cell, version_cell}
use Rattle.pg_cells.specs.pg_store.Store.{content_of, end_covered, replica_at, take_version, with_drawn, with_names, write}
use Rattle.theory_flood_pieces.specs.Histories.{IsOfHistory}
use Rattle.theory_flood_pieces.specs.Seen.{head_cell, plain, seen, standing}
use Rattle.theory_flood_pieces.specs.UpTo.{IsUpTo}
use Rattle.theory_flood_pieces.proofs.Growth.{SameNames}
use Rattle.theory_flood_pieces.proofs.Single.{one_steps}
use Rattle.theory_flood_pieces.proofs.Stores.{Changes, entry_seen, plain_at, plain_entry, replica_here}
use Rattle.theory_flood_pieces.proofs.Choices.{decided}
use Rattle.theory_flood_pieces.proofs.UpTo.{cell_itself}

-- ---- cells of versions

-- a key that is none of a version's
abbrev IsApart : Key → Type 0
IsApart q = (v : VersionValue) → is_same_key q (key_of v) ≡ false

-- on each edge such a key stands as it did
less_tag : (q : Key) → IsApart q → (es : List Edge) (gone : List VersionValue) (p b : ℕ) → slot_at (without_keys es (keys gone)) p b q ≡ slot_at es p b q
less_tag q apart es [] p b = refl
less_tag q apart es (v ∷ vs) p b =
    less_tag q apart (retired es (key_of v)) vs p b
    ∙ retires es (key_of v) p b q ∙ ap (λ t. cond t (acknowledged (slot_at es p b q)) (slot_at es p b q)) (apart v)

less_listed : (es : List Edge) (gone : List VersionValue) (p b : ℕ) → is_listed (without_keys es (keys gone)) p b ≡ is_listed es p b
less_listed es [] p b = refl
less_listed es (v ∷ vs) p b = less_listed (retired es (key_of v)) vs p b ∙ retired_listed es (key_of v) p b

-- the version that a head knows is held
module _ (b : Store) (file : FileId) (order : InStrictOrder (content_of b file).heads) where
  abbrev Heads : List VersionValue
  Heads = (content_of b file).heads

  pub version_held : (v : VersionValue) → IsUpToHead v.head.vector Heads → Holds IsUpTo (cell_at b file) (cell.Version v)
  version_held v up = record { key = key_of up.0; cell = cell.Version up.0; is = ap version_cell (head_found Heads up.0 order up.1); upto = up.2 }

  -- and seen by the edges
  version_seen : (v : VersionValue) → IsUpToHead v.head.vector Heads → Holds IsUpTo (plain_at b file) (head_cell v.head)
  version_seen v up = record {
    key = key_of up.0;
    cell = head_cell up.0.head;
    is = ap (λ (o : Option VersionValue). option_map plain (version_cell o)) (head_found Heads up.0 order up.1);
    upto = up.2;
  }

  module _ (a : Store) (same : SameNames a.names b.names) (covered : AreCoveredBy (content_of a file).heads Heads) where
    head_held : (stamp : Stamp) (c : Cell) (o : Option VersionValue) → head_at (content_of a file).heads (key.Version stamp) ≡ o → option_map plain (version_cell o) ≡ Some c → Holds IsUpTo (plain_at b file) c
    head_held stamp c None e is = absurd (let z : None ≡ Some c = is in cc)
    head_held stamp c (Some v) e is =
        let P : Cell → Type 0 = λ z. Holds IsUpTo (plain_at b file) z in
        subst P (some_same (head_cell v.head) c is) (version_seen v (covered v (cell_head (content_of a file).heads (key.Version stamp) v e).0))

    stays_held : (q : Key) (c : Cell) → plain_at b file q ≡ plain_at a file q → plain_at a file q ≡ Some c → Holds IsUpTo (plain_at b file) c
    stays_held q c e is = record { key = q; cell = c; is = e ∙ is; upto = cell_itself c }

    -- where the heads of before are covered, no cell is lost
    pub all_held : HoldsAll IsUpTo (plain_at a file) (plain_at b file)
    all_held key.Place c is = stays_held key.Place c (ap (λ (o : Attributes). Some (cell.Place o.place)) (same.own file)) is
    all_held (key.Flag n) c is = stays_held (key.Flag n) c (ap (λ (o : Attributes). option_map plain (flag_cell (flag_of o.flags n))) (same.own file)) is
    all_held (key.Entry g) c is =
        stays_held (key.Entry g) c (entry_seen b file g ∙ ap plain_entry (same.entries file g) ∙ sym (entry_seen a file g)) is
    all_held (key.Version stamp) c is = head_held stamp c (head_at (content_of a file).heads (key.Version stamp)) refl is

-- ---- a replica has news

-- The replica's edges have lost the keys of the heads that went, and the key of the version is
-- touched on each. Of its heads the edges tell
pub record IsNews (t : ℕ) (x y : Replica) (gone : List VersionValue) (v : VersionValue) : Type 0 where
  pub birth : y.birth ≡ x.birth
  pub edges : y.edges ≡ touched (without_keys x.edges (keys gone)) (key_of v) t
  pub draws : Draws t (heads_seen x) (t + length x.edges) (heads_seen y)
  pub order : InStrictOrder y.content.heads
  pub covered : AreCoveredBy x.content.heads y.content.heads

-- the server then
abbrev pub with_new : Store → FileId → Replica → Replica → Stamp → Store
with_new a file x y stamp = end_covered (with_names (with_drawn a (length x.edges) (put_replica a.replicas file y)) (raise a.names stamp.time)) file

module _ (a : Store) (file : FileId) (x y : Replica) (held : replica_at a file ≡ Some x) (gone : List VersionValue) (v : VersionValue) (k : IsNews a.tags x y gone v) where
  abbrev Now : Store
  Now = with_new a file x y v.head.stamp

  news_changes : Changes a Now file x y
  news_changes = record { old = held; replicas = refl }

  news_names : SameNames a.names Now.names
  news_names = record { own = λ f. refl; entries = λ d g. refl }

  before_is : content_of a file ≡ x.content
  before_is = ap (λ (o : Option Replica). (or_nothing o).content) held

  pub news_is : content_of Now file ≡ y.content
  news_is = ap (λ (o : Option Replica). (or_nothing o).content) (replica_here a Now file x y news_changes)

  abbrev IsSlot : ℕ → ℕ → Key → Cell → Type 0
  IsSlot p b q c = IsFreshAt a.tags y.edges p b q ⊎ IsAsBefore (seen a file x) (seen Now file y) p b q c

  other_slot : (q : Key) → IsApart q → plain_at Now file q ≡ plain_at a file q → (p b : ℕ) (c : Cell) → is_listed y.edges p b ≡ true → plain_at Now file q ≡ Some c → IsSlot p b q c
  other_slot q apart same p b c listed cell =
      let es = without_keys x.edges (keys gone) in
      let listed_before : is_listed y.edges p b ≡ is_listed x.edges p b =
      ap (λ fs. is_listed fs p b) k.edges ∙ touch_listed es (key_of v) a.tags p b ∙ less_listed x.edges gone p b in
      let tag_before : tag_at y.edges p b q ≡ tag_at x.edges p b q =
      ap (λ fs. tag_at fs p b q) k.edges ∙ ap tag_of (touch_others es (key_of v) a.tags p b q (apart v) ∙ less_tag q apart x.edges gone p b) in
      inr (sym listed_before ∙ listed, sym same ∙ cell, tag_before)

  abbrev version_in : ContentValue → Stamp → Option Cell
  version_in content s = option_map plain (version_cell (head_at content.heads (key.Version s)))

  version_slot : (s : Stamp) (p b : ℕ) (c : Cell) (o : Option VersionValue) → head_at y.content.heads (key.Version s) ≡ o → is_listed y.edges p b ≡ true → option_map plain (version_cell o) ≡ Some c
      → IsSlot p b (key.Version s) c
  version_slot s p b c None e listed cell = absurd (let z : None ≡ Some c = cell in cc)
  version_slot s p b c (Some w) e listed cell = elim (k.draws.slots p b (key.Version s) w listed e) [
    | inl fresh ↦ inl fresh
    | inr old ↦ inr (
      old.0,
      ap (λ (z : ContentValue). version_in z s) before_is ∙ ap (λ (z : Option VersionValue). option_map plain (version_cell z)) old.1 ∙ cell,
      old.2,
    )
  ]

  slot_by : (p b : ℕ) (q : Key) (c : Cell) → is_listed y.edges p b ≡ true → plain_at Now file q ≡ Some c → IsSlot p b q c
  slot_by p b key.Place c listed cell = other_slot key.Place (λ w. refl) refl p b c listed cell
  slot_by p b (key.Flag n) c listed cell = other_slot (key.Flag n) (λ w. refl) refl p b c listed cell
  slot_by p b (key.Entry g) c listed cell = other_slot (key.Entry g) (λ w. refl) refl p b c listed cell
  slot_by p b (key.Version s) c listed cell =
      version_slot s p b c (head_at y.content.heads (key.Version s)) refl listed (sym (ap (λ (z : ContentValue). version_in z s) news_is) ∙ cell)

  news_draws : Draws a.tags (seen a file x) Now.tags (seen Now file y)
  news_draws = record { birth = k.draws.birth; up = k.draws.up; brings = k.draws.brings; single = k.draws.single; slots = slot_by }

  pub news_order : InStrictOrder (content_of Now file).heads
  news_order = let P : ContentValue → Type 0 = λ z. InStrictOrder z.heads in subst P (sym news_is) k.order

  news_held : HoldsAll IsUpTo (plain_at a file) (plain_at Now file)
  news_held =
      let P : ContentValue → Type 0 = λ z. AreCoveredBy (content_of a file).heads z.heads in
      let Q : ContentValue → Type 0 = λ z. AreCoveredBy z.heads y.content.heads in
      all_held Now file news_order a news_names (subst P (sym news_is) (subst Q (sym before_is) k.covered))

  -- A REPLICA HAS NEWS
  pub news_steps : Steps standing a Now
  news_steps = one_steps a Now file x y news_changes news_names news_draws news_held

-- ---- a write, and a version that comes

-- the same, by what there is of the file
abbrev with_news_of : Store → FileId → Stamp → Option Replica → ByFile → Store
with_news_of a file stamp o rs = end_covered (with_names (with_drawn a (edge_count o) rs) (raise a.names stamp.time)) file

module _ (a : Store) (file : FileId) (w : Replica) (held : replica_at a file ≡ Some w) (h : List Made) (k : IsOfHistory h w.content) where
  abbrev Written : Stamp → RangesValue → VersionValue
  Written stamp ranges = next_version w.content (own_actor w stamp.server) stamp ranges

  write_news : (stamp : Stamp) (ranges : RangesValue) → IsNews a.tags w (with_write w (own_actor w stamp.server) stamp ranges a.tags) w.content.heads (Written stamp ranges)
  write_news stamp ranges = record {
    birth = refl;
    edges = refl;
    draws = write_draws a.tags w (own_actor w stamp.server) stamp ranges;
    order = write_order w (own_actor w stamp.server) stamp ranges a.tags;
    covered = written_covers h k.history w.content k.versions (own_actor w stamp.server) stamp ranges;
  }

  abbrev wrote : Stamp → RangesValue → Option Replica → Store
  wrote stamp ranges o = with_news_of a file stamp o (replicas_writing a.replicas file stamp ranges a.tags o)

  -- A WRITE
  pub write_steps : (stamp : Stamp) (ranges : RangesValue) → Steps standing a (write a file stamp ranges)
  write_steps stamp ranges =
      let P : Option Replica → Type 0 = λ o. Steps standing a (wrote stamp ranges o) in
      subst P (sym held) (news_steps a file w (with_write w (own_actor w stamp.server) stamp ranges a.tags) held w.content.heads (Written stamp ranges) (write_news stamp ranges))

  module _ (m : Made) (is : Among m h) where
    abbrev V : VersionValue
    V = version_of w.content.policy h m

    abbrev Next : Replica
    Next = with_head w V a.tags

    itself : (u : Made) → covers_version (version_of w.content.policy h u).head.vector (version_of w.content.policy h u) ≡ true
    itself u = grind (arith, nat_tests)

    can_take : CanTake w V
    can_take = record {
      own = λ c l. (let r = k.versions c l in subst CoversItself (sym r.2) (omega arith));
      one = λ c l e.
          let r = k.versions c l in
          let same : r.0 ≡ m = one_made h k.history r.0 m r.1 is (ap (λ (v : VersionValue). v.head.stamp) (sym r.2) ∙ e) in
          let P : VersionValue → Type 0 = λ v. covers_version V.head.vector v ≡ true in
          subst P (sym (r.2 ∙ ap (version_of w.content.policy h) same)) (itself m);
    }

    head_news : covers w V ≡ false → IsNews a.tags w Next (covered_heads w.content.heads V) V
    head_news new =
        let O : Bool → Type 0 = λ b. InStrictOrder (cond b w Next).content.heads in
        let D : Bool → Type 0 = λ b. Draws a.tags (heads_seen w) (cond b a.tags (a.tags + length w.edges)) (heads_seen (cond b w Next)) in
        record {
          birth = refl;
          edges = refl;
          draws = subst D new (version_draws a.tags w V k.order);
          order = subst O new (version_order w V a.tags k.order can_take);
          covered = (joined_covers h k.history w.content.policy w.content.heads k.versions m is).0;
        }

    upto_joined : IsUpToHead V.head.vector Next.content.heads
    upto_joined = (joined_covers h k.history w.content.policy w.content.heads k.versions m is).1

    -- what comes of it
    pub record Puts (b : Store) : Type 0 where
      pub steps : Steps standing a b
      pub holds : Holds IsUpTo (cell_at b file) (cell.Version V)

    puts_new : covers w V ≡ false → Puts (with_new a file w Next V.head.stamp)
    puts_new new =
        let n = head_news new in
        let gone = covered_heads w.content.heads V in
        let P : ContentValue → Type 0 = λ z. IsUpToHead V.head.vector z.heads in
        record {
          steps = news_steps a file w Next held gone V n;
          holds = version_held (with_new a file w Next V.head.stamp) file (news_order a file w Next held gone V n) V
              (subst P (sym (news_is a file w Next held gone V n)) upto_joined);
        }

    puts_old : covers w V ≡ true → Puts a
    puts_old old =
        let P : Bool → Type 0 = λ b. IsUpToHead V.head.vector (cond b w.content.heads (put_version w.content.heads V)) in
        let Q : ContentValue → Type 0 = λ z. InStrictOrder z.heads in
        let R : ContentValue → Type 0 = λ z. IsUpToHead V.head.vector z.heads in
        let is_it : content_of a file ≡ w.content = ap (λ (o : Option Replica). (or_nothing o).content) held in
        record {
          steps = Steps-refl standing a;
          holds = version_held a file (subst Q (sym is_it) k.order) V (subst R (sym is_it) (subst P old upto_joined));
        }

    abbrev took : Option Replica → Store
    took o = cond (takes_version o V) (with_news_of a file V.head.stamp o (replicas_taking a.replicas file V a.tags o)) a

    took_known : Puts (took (Some w))
    took_known = decided (λ b. Puts b) (not (covers w V)) (with_new a file w Next V.head.stamp) a
        (λ t. puts_new (not-true (covers w V) t)) (λ f. puts_old (not-false (covers w V) f))

    -- A VERSION OF THE HISTORY COMES
    pub version_put : Puts (take_version a file V)
    version_put = let P : Option Replica → Type 0 = λ o. Puts (took o) in subst P (sym held) took_known
