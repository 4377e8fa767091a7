-- Numbers at their end: which replicas know none, and what one of the server's own means.
use Rattle.std.proofs.Common.{ℕ, ◌≡◌, ◌==◌, ◌&&◌, ◌||◌, Bool, true, false, cond, not, nat_le, Option, None, Some, List, [], ◌∷◌, ◌++◌, All, refl, sym, ap, subst, ◌∙◌}
use Rattle.std.specs.Prelude.{unwrap_or}
use Rattle.std.specs.List.{filter, flat_map, list_any}
use Rattle.std.specs.List.Sorted.{IsStrictlySortedBy}
use Rattle.std.specs.Map.{keys_of, lookup}
use Rattle.std.specs.BTreeMap.{insert_entry, is_at}
use Rattle.std.proofs.lemmas.List.Elements.{All-nil, All-cons, All-head, All-tail, All-filter}
use Rattle.std.proofs.lemmas.List.Folds.{list_any_none}
use Rattle.std.proofs.lemmas.Bool.{eq-eqb, or_parts}
use Rattle.pg_base.specs.declared.id.FileId.{FileId}
use Rattle.pg_base.specs.declared.vector.Actor.{Actor}
use Rattle.pg_base.specs.Id.{file_cmp}
use Rattle.pg_base.specs.Stamp.{clock_end, is_before}
use Rattle.pg_base.specs.Vector.{actor_cmp, number_at}
use Rattle.pg_base.specs.Version.{VersionValue, actor_of, stamp_of}
use Rattle.pg_base.proofs.Orders.{file_exact, file_total, is_eq-true}
use Rattle.pg_base.proofs.Vectors.{actor_exact}
use Rattle.pg_content.specs.Shown.{inserted}
use Rattle.pg_content.specs.Content.{ContentValue, covers_version, is_covered, joined_version, put_version}
use Rattle.pg_replica.specs.declared.replica.Replica.{Replica}
use Rattle.pg_replica.specs.Replica.{has_end, has_own_end, has_room, knows_own_end, own_actor}
use Rattle.pg_replica.specs.Replicas.{ByFile, have_own_end, is_own_end_in, or_nothing, replica_in}
use Rattle.pg_replica.specs.Index.{Files, IsIndexBy, KnowsNoEnd, Relists, with_end}
use Rattle.pg_replica.proofs.Merging.{by_index}
use Rattle.pg_replica.proofs.Relisting.{relists_more, relists_same}

-- ---- replicas that know none

module _ (P : VersionValue → Type 0) where
  inserted_by : (v w : VersionValue) (ws : List VersionValue) (b : Bool) → P v → P w → All P ws
      → All P (inserted stamp_of v ws) → All P (cond b (w ∷ inserted stamp_of v ws) (v ∷ w ∷ ws))
  inserted_by v w ws true h k all more = All-cons P w (inserted stamp_of v ws) k more
  inserted_by v w ws false h k all more = All-cons P v (w ∷ ws) h (All-cons P w ws k all)

  all_inserted : (v : VersionValue) (ws : List VersionValue) → P v → All P ws → All P (inserted stamp_of v ws)
  all_inserted v [] h all = All-cons P v [] h (All-nil P)
  all_inserted v (w ∷ ws) h all =
      inserted_by v w ws (is_before w.head.stamp v.head.stamp) h (All-head P w ws all) (All-tail P w ws all)
      (all_inserted v ws h (All-tail P w ws all))

  joined_by : (heads : List VersionValue) (v : VersionValue) (b : Bool) → P v → All P heads → All P (cond b heads (put_version heads v))
  joined_by heads v true h all = all
  joined_by heads v false h all =
      all_inserted v (filter (λ w. not (covers_version v.head.vector w)) heads) h
      (All-filter (λ w. not (covers_version v.head.vector w)) P heads all)

  -- what holds of the heads and of a version holds of the heads then
  all_joined : (heads : List VersionValue) (v : VersionValue) → P v → All P heads → All P (joined_version heads v)
  all_joined heads v h all = joined_by heads v (is_covered heads (actor_of v.head) v.head.number) h all

abbrev HasNoEnd : VersionValue → Type 0
HasNoEnd v = has_end v.head.vector ≡ false

-- ---- which files are listed then

ends_by : (us : Files) (file : FileId) (x y : Replica) (v : VersionValue) (b : Bool) → has_end v.head.vector ≡ b
    → (HasNoEnd v → KnowsNoEnd x → KnowsNoEnd y) → Relists KnowsNoEnd us (with_end us file v) file x y
ends_by us file x y v true e still =
    relists_more us (with_end us file v) file x y file_cmp refl (ap (λ b. cond b (insert_entry file_cmp us file tt) us) e)
ends_by us file x y v false e still =
    relists_same us (with_end us file v) file x y (ap (λ b. cond b (insert_entry file_cmp us file tt) us) e) (still e)

ends_listed : (us vs : Files) (file : FileId) (x y : Replica) (v : VersionValue) → vs ≡ with_end us file v
    → (HasNoEnd v → KnowsNoEnd x → KnowsNoEnd y) → Relists KnowsNoEnd us vs file x y
ends_listed us vs file x y v is still =
    let P : Files → Type 0 = λ zs. Relists KnowsNoEnd us zs file x y in
    subst P (sym is) (ends_by us file x y v (has_end v.head.vector) refl still)

-- the content is as before
pub ends_kept : (us vs : Files) (file : FileId) (x y : Replica) (v : VersionValue) → vs ≡ with_end us file v
    → y.content ≡ x.content → Relists KnowsNoEnd us vs file x y
ends_kept us vs file x y v is same =
    let P : ContentValue → Type 0 = λ z. All HasNoEnd z.heads in
    ends_listed us vs file x y v is (λ h none. subst P (sym same) none)

-- the version is a head beside others, or the only one
pub ends_joined : (us vs : Files) (file : FileId) (x y : Replica) (v : VersionValue) → vs ≡ with_end us file v
    → y.content.heads ≡ joined_version x.content.heads v → Relists KnowsNoEnd us vs file x y
ends_joined us vs file x y v is joined =
    ends_listed us vs file x y v is (λ h none. subst (All HasNoEnd) (sym joined) (all_joined HasNoEnd x.content.heads v h none))

pub ends_alone : (us vs : Files) (file : FileId) (x y : Replica) (v : VersionValue) → vs ≡ with_end us file v
    → y.content.heads ≡ v ∷ [] → Relists KnowsNoEnd us vs file x y
ends_alone us vs file x y v is alone =
    ends_listed us vs file x y v is (λ h none. subst (All HasNoEnd) (sym alone) (All-cons HasNoEnd v [] h (All-nil HasNoEnd)))

-- no head knows none
pub no_heads : (x : Replica) → x.content.heads ≡ [] → KnowsNoEnd x
no_heads x none = subst (All HasNoEnd) (sym none) (All-nil HasNoEnd)

-- the files that are listed stay, and so does the content
pub ends_same : (us vs : Files) (file : FileId) (x y : Replica) → vs ≡ us
    → y.content ≡ x.content → Relists KnowsNoEnd us vs file x y
ends_same us vs file x y listed same =
    let P : ContentValue → Type 0 = λ z. All HasNoEnd z.heads in
    relists_same us vs file x y listed (λ none. subst P (sym same) none)

-- ---- the files that are listed are enough

either_none : (a b c : Bool) → b ≡ false → c ≡ false → ((a && b) || c) ≡ false
either_none true b c h k = cc
either_none false b c h k = k

none_own : (server : ℕ) (es : List (Actor × ℕ)) → has_end es ≡ false → has_own_end server es ≡ false
none_own server [] h = refl
none_own server (e ∷ es) h =
    let parts = or_parts (nat_le clock_end e.1) (has_end es) h in
    either_none (e.0.server == server) (nat_le clock_end e.1) (has_own_end server es) parts.0 (none_own server es parts.1)

none_known : (server : ℕ) (x : Replica) → KnowsNoEnd x → knows_own_end server x ≡ false
none_known server x none =
    list_any_none (λ (v : VersionValue). has_own_end server v.head.vector) x.content.heads
    (λ i d lt. none_own server _ (none i d lt))

-- a mark where the test holds
abbrev marked : Bool → List (Unit {0})
marked true = tt ∷ []
marked false = []

abbrev has_some : List (Unit {0}) → Bool
has_some [] = false
has_some (x ∷ xs) = true

some_marked : (b : Bool) (xs : List (Unit {0})) (r : Bool) → r ≡ has_some xs → (b || r) ≡ has_some (marked b ++ xs)
some_marked true xs r h = refl
some_marked false xs r h = h

any_marked : {X : Type 0} (p : X → Bool) (xs : List X) → list_any p xs ≡ has_some (flat_map (λ x. marked (p x)) xs)
any_marked p [] = refl
any_marked {X} p (x ∷ xs) =
    some_marked (p x) (flat_map (λ (z : X). marked (p z)) xs) (list_any p xs) (any_marked p xs)

pub any_listed : (server : ℕ) (us : Files) (es : ByFile) → IsStrictlySortedBy file_cmp (keys_of us) → IsIndexBy KnowsNoEnd us es
    → list_any (λ k. is_own_end_in server (replica_in es k)) (keys_of us) ≡ have_own_end es server
any_listed server us es sorted index =
    any_marked (λ (k : FileId). is_own_end_in server (replica_in es k)) (keys_of us)
    ∙ ap has_some (by_index file_cmp file_total file_exact (λ (r : FileId × Replica). marked (knows_own_end server r.1))
    (λ (k : FileId) (o : Option Replica). marked (is_own_end_in server o)) us es sorted index.by_file (λ r. refl) (λ k. refl)
    (λ k x there gap. ap marked (none_known server x (index.lists k x there gap))))
    ∙ sym (any_marked (λ (r : FileId × Replica). knows_own_end server r.1) es)

-- ---- there is room where none is known

same_server : (a b : Actor) → is_at (actor_cmp a) b ≡ true → (b.server == a.server) ≡ true
same_server a b here =
    eq-eqb b.server a.server (ap (λ (x : Actor). x.server) (sym (actor_exact a b (is_eq-true (actor_cmp a b) here))))

entry_by : (own same end : Bool) (n : ℕ) (o : Option ℕ) → (own ≡ true → same ≡ true) → nat_le clock_end n ≡ end
    → (same && end) ≡ false → nat_le clock_end (unwrap_or o 0) ≡ false
    → nat_le clock_end (unwrap_or (cond own (Some n) o) 0) ≡ false
entry_by true same end n o is h none rest = h ∙ ap (λ b. b && end) (sym (is refl)) ∙ none
entry_by false same end n o is h none rest = rest

found_own : (a : Actor) (es : List (Actor × ℕ)) → has_own_end a.server es ≡ false → nat_le clock_end (number_at es a) ≡ false
found_own a [] h = refl
found_own a (e ∷ es) h =
    let parts = or_parts (e.0.server == a.server && nat_le clock_end e.1) (has_own_end a.server es) h in
    entry_by (is_at (actor_cmp a) e.0) (e.0.server == a.server) (nat_le clock_end e.1) e.1 (lookup (is_at (actor_cmp a)) es)
    (same_server a e.0) refl parts.0 (found_own a es parts.1)

heads_room : (a : Actor) (vs : List VersionValue) → list_any (λ v. has_own_end a.server v.head.vector) vs ≡ false
    → list_any (λ v. nat_le clock_end (number_at v.head.vector a)) vs ≡ false
heads_room a [] h = refl
heads_room a (v ∷ vs) h =
    let parts = or_parts (has_own_end a.server v.head.vector) (list_any (λ (w : VersionValue). has_own_end a.server w.head.vector) vs) h in
    ap (λ b. b || list_any (λ (w : VersionValue). nat_le clock_end (number_at w.head.vector a)) vs)
    (found_own a v.head.vector parts.0)
    ∙ heads_room a vs parts.1

room_in : (server : ℕ) (o : Option Replica) → is_own_end_in server o ≡ false
    → has_room (or_nothing o) server ≡ true
room_in server None h = refl
room_in server (Some x) h = ap not (heads_room (own_actor x server) x.content.heads h)

found_by : (server : ℕ) (x : Replica) (t : Bool) (o : Option Replica) → knows_own_end server x ≡ false
    → is_own_end_in server o ≡ false → is_own_end_in server (cond t (Some x) o) ≡ false
found_by server x true o here rest = here
found_by server x false o here rest = rest

found_none : (server : ℕ) (file : FileId) (es : ByFile) → have_own_end es server ≡ false
    → is_own_end_in server (replica_in es file) ≡ false
found_none server file [] h = refl
found_none server file (r ∷ rs) h =
    let parts = or_parts (knows_own_end server r.1) (have_own_end rs server) h in
    found_by server r.1 (is_at (file_cmp file) r.0) (replica_in rs file) parts.0 (found_none server file rs parts.1)

-- where no number of the server's own is at its end, every replica has room for one more
pub room_without_end : (file : FileId) (server : ℕ) (es : ByFile) → have_own_end es server ≡ false
    → has_room (or_nothing (replica_in es file)) server ≡ true
room_without_end file server es h = room_in server (replica_in es file) (found_none server file es h)
