-- A list of all that sends walks, in order, is that of all.
use Rattle.std.proofs.Common.{◌≡◌, Bool, true, false, ◌&&◌, is_some, List, [], Option, None, Some, refl, sym, ap, ◌∙◌}
use Rattle.std.specs.List.Sorted.{IsStrictlySortedBy}
use Rattle.std.specs.Map.{keys_of}
use Rattle.std.proofs.lemmas.List.Kept.{IsStrictlySortedBy-filter}
use Rattle.pg_base.specs.declared.id.FileId.{FileId}
use Rattle.pg_base.specs.Id.{file_cmp}
use Rattle.pg_house.specs.Facts.{is_among}
use Rattle.pg_house.proofs.Among.{among_keys, among_where, one_of_among, same_members}
use Rattle.pg_names.specs.Names.{InodeValue, NamesValue, is_full_of, known}
use Rattle.pg_replica.specs.Replicas.{ByFile, or_nothing, replica_in}
use Rattle.pg_walkers.specs.Walkers.{AreListed, sends_as, sends_walks, walkers_of}
use Rattle.pg_walkers.proofs.Relisted.{not_full}

module _ (names : NamesValue) (rs : ByFile) where
  -- what sends walks is held
  held_by : (q : FileId) (o : Option InodeValue) (b : Bool) → b ≡ is_some o → sends_as q (is_full_of o) (or_nothing (replica_in rs q)) ≡ (sends_as q (is_full_of o) (or_nothing (replica_in rs q)) && b)
  held_by q None b h = let x = or_nothing (replica_in rs q) in not_full q x ∙ sym (ap (λ s. s && b) (not_full q x))
  held_by q (Some v) b h = yes (sends_as q v.full (or_nothing (replica_in rs q))) ∙ sym (ap (λ c. sends_as q v.full (or_nothing (replica_in rs q)) && c) h)
    where
      yes : (s : Bool) → s ≡ (s && true)
      yes true = refl
      yes false = refl

  -- a list of them, in order, is that of all
  pub listed_all : (ws : List FileId) → IsStrictlySortedBy file_cmp ws → IsStrictlySortedBy file_cmp (keys_of names.held) → AreListed names rs ws [] → ws ≡ walkers_of names rs
  listed_all ws a b h =
      same_members ws (walkers_of names rs) a (IsStrictlySortedBy-filter file_cmp (sends_walks names rs) (keys_of names.held) b)
      (λ q. sym (one_of_among q ws) ∙ h q refl ∙ held_by q (known names q) (is_among q (keys_of names.held)) (among_keys q names.held)
      ∙ sym (among_where (sends_walks names rs) q (keys_of names.held)))
