-- What sends walks is listed, thing by thing.
use Rattle.std.proofs.Common.{◌≡◌, Bool, true, false, ◌&&◌, ◌||◌, cond, not, is_some, List, [], ◌∷◌, Option, None, Some, refl, sym, ap, ◌∙◌}
use Rattle.std.specs.Map.{keys_of}
use Rattle.pg_base.specs.declared.id.FileId.{FileId}
use Rattle.pg_base.specs.Id.{is_same_file}
use Rattle.pg_base.proofs.Orders.{is_same_file-true}
use Rattle.pg_index.specs.Ids.{is_one_of}
use Rattle.pg_index.proofs.Members.{found}
use Rattle.pg_names.specs.Calm.{is_root}
use Rattle.pg_names.specs.Names.{InodeValue, NamesValue, is_full_of, known}
use Rattle.pg_names.proofs.Lookups.{apart_back}
use Rattle.pg_replica.specs.declared.replica.Replica.{Replica}
use Rattle.pg_replica.specs.Replicas.{ByFile, or_nothing, replica_in}
use Rattle.pg_walkers.specs.Walkers.{AreListed, sends_as, sends_walks}

-- what is not full sends none
pub not_full : (q : FileId) (x : Replica) → sends_as q false x ≡ false
not_full q x = never (is_root q)
  where
    never : (r : Bool) → (not r && false) ≡ false
    never true = refl
    never false = refl

module _ (names : NamesValue) (rs : ByFile) where
  -- what is not held sends none
  absent_by : (q : FileId) (o : Option InodeValue) → is_some o ≡ false → false ≡ sends_as q (is_full_of o) (or_nothing (replica_in rs q))
  absent_by q None h = sym (not_full q (or_nothing (replica_in rs q)))
  absent_by q (Some x) h = cc

  pub none_listed : AreListed names rs [] (keys_of names.held)
  none_listed q free = absent_by q (known names q) (sym (found q names.held) ∙ free)

  -- one thing is listed by what it is now
  step_by : (f q : FileId) (ws left : List FileId) (t : Bool) → is_same_file f q ≡ t → is_one_of q left ≡ false → AreListed names rs ws (f ∷ left)
      → cond t (sends_walks names rs f) (is_one_of q ws) ≡ sends_walks names rs q
  step_by f q ws left true same free h = ap (sends_walks names rs) (is_same_file-true f q same)
  step_by f q ws left false apart free h = h q (ap (λ b. b || is_one_of q left) (apart_back f q apart) ∙ free)

  pub one_listed : (f : FileId) (ws vs left : List FileId)
      → ((q : FileId) → is_one_of q vs ≡ cond (is_same_file f q) (sends_walks names rs f) (is_one_of q ws))
      → AreListed names rs ws (f ∷ left) → AreListed names rs vs left
  one_listed f ws vs left made h q free = made q ∙ step_by f q ws left (is_same_file f q) refl free h
