-- A thing that sees no live gold sees one once its flag was raised.
use Rattle.std.proofs.Common.{◌≡◌, ℕ, ◌+◌, Bool, true, false, ◌==◌, ◌&&◌, ◌||◌, not, nat_lt, cond, eqb, if◌then◌else◌, List, [], ◌∷◌, Option, None, Some, refl, sym, ap, ◌∙◌, arith}
use Rattle.std.specs.List.{list_any}
use Rattle.std.specs.Option.{option_map}
use Rattle.std.proofs.lemmas.Bool.{false≢true, and_right, and_parts, and_left, not-true, or_left, or_right}
use Rattle.std.proofs.lemmas.Bool.Decides.{nat_tests}
use Rattle.std.proofs.lemmas.Option.{none-some, same_Some}
use Rattle.pg_base.specs.declared.id.FileId.{FileId}
use Rattle.pg_base.specs.Id.{is_same_file}
use Rattle.pg_register.specs.declared.flag.Flag.{Flag}
use Rattle.pg_register.specs.Flag.{flag_of, is_live, is_new, is_older, is_removed, join_flag, newest, number_with}
use Rattle.pg_register.proofs.ByServer.{flag_of-join_flag, joined_new}
use Rattle.pg_pieces.specs.pg_names.declared.attributes.Attributes.{Attributes}
use Rattle.pg_pieces.specs.pg_names.Names.{InodeValue, NamesValue, is_flag_new, is_full_of, known, or_blank, own_at, own_of, own_or_blank}
use Rattle.pg_pieces.proofs.pg_names.Lookups.{flag_other, flag_same, own_with_flag}
use Rattle.pg_pieces.specs.pg_house.Calm.{IsCalm}
use Rattle.pg_pieces.specs.pg_replica.declared.replica.Replica.{Replica}
use Rattle.pg_pieces.specs.pg_replica.Replicas.{or_nothing}
use Rattle.pg_pieces.specs.pg_store.declared.store.Store.{Store}
use Rattle.pg_pieces.specs.pg_store.Births.{birth_of}
use Rattle.pg_pieces.specs.pg_store.Seen.{removed_of, server_of}
use Rattle.pg_pieces.specs.pg_store.Store.{is_newer_flag, replica_at}
use Rattle.pg_pieces.specs.pg_store.Together.{birth_at}
use Rattle.pg_pieces.specs.Done.{Done}
use Rattle.pg_pieces.specs.Golds.{is_goldless, is_goldless_held, is_of_later, sees_gold}
use Rattle.pg_cells.specs.Raised.{DiffersByGolds}
use Rattle.pg_cells.proofs.Ruled.{Made, Raised, Then, raised_golds, raised_own}

-- ---- the next flag is newer than the one that is held, where that is of no later birth

next_by : (held : Flag) (server birth : ℕ) (t : Bool) → (held.birth == birth) ≡ t → nat_lt birth held.birth ≡ false
    → is_older held (record { server = server; birth = birth; number = (if t then held.number else 0) + 1; raised = true }) ≡ true
next_by held server birth true e h = grind (arith, nat_tests)
next_by held server birth false e h = grind (arith, nat_tests)

next_new : (o : Option Flag) (server birth : ℕ) → is_of_later birth o ≡ false
    → is_new o (record { server = server; birth = birth; number = number_with o birth + 1; raised = true }) ≡ true
next_new None server birth h = refl
next_new (Some held) server birth h = next_by held server birth (held.birth == birth) refl h

-- ---- a live flag among these is seen

seen_by : (removed : List ℕ) (h g : Flag) (hs : List Flag) (s : ℕ) (t : Bool) → cond t (Some h) (flag_of hs s) ≡ Some g → is_live removed g ≡ true
    → ((flag_of hs s ≡ Some g) → list_any (is_live removed) hs ≡ true) → (is_live removed h || list_any (is_live removed) hs) ≡ true
seen_by removed h g hs s true e live rest = or_left (is_live removed h) _ (ap (is_live removed) (same_Some h g e) ∙ live)
seen_by removed h g hs s false e live rest = or_right (is_live removed h) _ (rest e)

flag_seen : (removed : List ℕ) (fs : List Flag) (s : ℕ) (g : Flag) → flag_of fs s ≡ Some g → is_live removed g ≡ true → sees_gold removed fs ≡ true
flag_seen removed [] s g e live = absurd (none-some g e)
flag_seen removed (h ∷ hs) s g e live = seen_by removed h g hs s (h.server == s) e live (λ more. flag_seen removed hs s g more live)

-- ---- what is held, by its own place and flags

module _ (removed : List ℕ) (server birth : ℕ) where
  abbrev pub goldless_held : Option InodeValue → Bool
  goldless_held = is_goldless_held removed server birth

  not_goldless : (o : Option InodeValue) (own : Attributes) → own_of o ≡ Some own → sees_gold removed own.flags ≡ true → goldless_held o ≡ false
  not_goldless None own h seen = refl
  not_goldless (Some x) own h seen =
      let there : sees_gold removed x.own.flags ≡ true = ap (λ (c : Attributes). sees_gold removed c.flags) (same_Some x.own own h) ∙ seen in
      and_right x.full _ (and_left (not (sees_gold removed x.own.flags)) _ (ap not there))

  goldless_same : (o p : Option InodeValue) → own_of p ≡ own_of o → is_full_of p ≡ is_full_of o → goldless_held p ≡ goldless_held o
  goldless_same None None e h = refl
  goldless_same None (Some y) e h = absurd (none-some y.own (sym e))
  goldless_same (Some x) None e h = absurd (none-some x.own e)
  goldless_same (Some x) (Some y) e h =
      let Rest : Attributes → Bool = λ c. not (sees_gold removed c.flags) && not (is_of_later birth (flag_of c.flags server)) in
      ap (λ t. t && Rest y.own) h ∙ ap (λ (c : Attributes). x.full && Rest c) (same_Some y.own x.own e)

  pub goldless_parts : (o : Option InodeValue) → goldless_held o ≡ true → (own : Attributes) × (own_of o ≡ Some own) × (is_of_later birth (flag_of own.flags server) ≡ false)
  goldless_parts None h = absurd (false≢true h)
  goldless_parts (Some x) h =
      let rest = and_parts (not (sees_gold removed x.own.flags)) _ (and_parts x.full _ h).1 in
      (x.own, refl, not-true (is_of_later birth (flag_of x.own.flags server)) rest.1)

-- ---- births

abbrev or_zero : Option ℕ → ℕ
or_zero None = 0
or_zero (Some birth) = birth

born : (o : Option Replica) → (or_nothing o).birth ≡ or_zero (option_map (λ (x : Replica). x.birth) o)
born None = refl
born (Some x) = refl

pub birth_same : (a b : Store) (q : FileId) → birth_at b q ≡ birth_at a q → birth_of b q ≡ birth_of a q
birth_same a b q e = born (replica_at b q) ∙ ap or_zero e ∙ sym (born (replica_at a q))

-- ---- the flag is raised

module _ (f : FileId) (d : Done) (calm : IsCalm d.store.names) where
  abbrev Flag_made : Flag
  Flag_made = Made f d calm

  abbrev E : Done
  E = Then f d calm

  k : DiffersByGolds d E
  k = raised_golds f d calm

  -- nothing changes of the others
  other_own : (news : Bool) (q : FileId) → is_same_file f q ≡ false → own_at (Raised f d calm news).store.names q ≡ own_at d.store.names q
  other_own true q apart = flag_other d.store.names f Flag_made q apart
  other_own false q apart = refl

  pub other_same : (q : FileId) → is_same_file f q ≡ false → is_goldless E.store q ≡ is_goldless d.store q
  other_same q apart =
      let o = known d.store.names q in
      let p = known E.store.names q in
      ap (λ r. is_goldless_held r (server_of E.store) (birth_of E.store q) p) k.removed
      ∙ ap (λ s. is_goldless_held (removed_of d.store) s (birth_of E.store q) p) k.server
      ∙ ap (λ n. is_goldless_held (removed_of d.store) (server_of d.store) n p) (birth_same d.store E.store q (k.births q))
      ∙ goldless_same (removed_of d.store) (server_of d.store) (birth_of d.store q) o p
      (raised_own f d calm q ∙ other_own (is_newer_flag d.store f Flag_made) q apart) (k.full q)

  module _ (is : is_goldless d.store f ≡ true) (live : is_removed (removed_of d.store) (server_of d.store) ≡ false) where
    abbrev S : NamesValue
    S = d.store.names

    parts : (own : Attributes) × (own_at S f ≡ Some own) × (is_of_later (birth_of d.store f) (flag_of own.flags S.server) ≡ false)
    parts = goldless_parts S.removed S.server (birth_of d.store f) (known S f) is

    known_own : own_or_blank S f ≡ parts.0
    known_own = ap (or_blank f) parts.1

    newer : is_newer_flag d.store f Flag_made ≡ true
    newer =
        let fs = (own_or_blank S f).flags in
        let later : is_of_later (birth_of d.store f) (flag_of fs S.server) ≡ false =
        ap (λ (c : Attributes). is_of_later (birth_of d.store f) (flag_of c.flags S.server)) known_own ∙ parts.2 in
        ap (λ o. is_flag_new o Flag_made) parts.1
        ∙ ap (λ (c : Attributes). is_new (flag_of c.flags S.server) Flag_made) (sym known_own)
        ∙ next_new (flag_of fs S.server) S.server (birth_of d.store f) later

    own_after : own_at E.store.names f ≡ Some (own_with_flag Flag_made parts.0)
    own_after =
        raised_own f d calm f ∙ ap (λ t. own_at (Raised f d calm t).store.names f) newer
        ∙ flag_same S f Flag_made parts.0 parts.1

    there : flag_of (join_flag parts.0.flags Flag_made) S.server ≡ Some Flag_made
    there =
        let old = flag_of parts.0.flags S.server in
        let itself : eqb S.server S.server ≡ true = grind (arith, nat_tests) in
        let new : is_new old Flag_made ≡ true = ap (λ o. is_flag_new o Flag_made) (sym parts.1) ∙ newer in
        flag_of-join_flag Flag_made parts.0.flags S.server
        ∙ ap (λ t. cond t (newest old (Some Flag_made)) old) itself ∙ joined_new old Flag_made new

    pub sees_itself : is_goldless E.store f ≡ false
    sees_itself =
        let gone : is_removed (removed_of E.store) S.server ≡ false = ap (λ r. is_removed r S.server) k.removed ∙ live in
        let seen : sees_gold (removed_of E.store) (join_flag parts.0.flags Flag_made) ≡ true =
        flag_seen (removed_of E.store) (join_flag parts.0.flags Flag_made) S.server Flag_made there (ap not gone) in
        not_goldless (removed_of E.store) (server_of E.store) (birth_of E.store f) (known E.store.names f) (own_with_flag Flag_made parts.0) own_after seen
