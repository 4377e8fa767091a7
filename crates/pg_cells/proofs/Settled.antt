-- What the house rules keep, and the raising of a flag: settling keeps it.
use Rattle.std.proofs.Common.{refl}
use Rattle.std.specs.Prelude.{Bool, true, false, ◌≡◌, if◌then◌else◌, List, [], ◌∷◌}
use Rattle.pg_base.specs.declared.id.FileId.{FileId}
use Rattle.pg_pieces.specs.pg_msg.declared.work.Work.{Work}
use Rattle.pg_pieces.specs.pg_store.declared.store.Store.{Store}
use Rattle.pg_pieces.specs.Done.{Done, idle}
use Rattle.pg_pieces.specs.Golds.{goldless, is_goldless}
use Rattle.pg_pieces.specs.Making.{raise_flag}
use Rattle.pg_cells.specs.Settling.{raise_gold, raise_golds, ruled, rules, settle}

chosen : (P : Done → Type 0) (b : Bool) (x y : Done) → (b ≡ true → P x) → P y → P (if b then x else y)
chosen P true x y t f = t refl
chosen P false x y t f = f

-- P holds behind each run of the rules, and Q in the midst of an event: before the first, and where
-- a flag was raised
module _ (Q P : Done → Type 0) (ruling : (d : Done) → Q d → P (ruled d))
    (raising : (d : Done) (file : FileId) → P d → is_goldless d.store file ≡ true → Q (raise_flag d.store file d.work)) where
  one_gives : (d : Done) (file : FileId) → P d → P (raise_gold d.store file d.work)
  one_gives d file p =
      chosen P (is_goldless d.store file) (ruled (raise_flag d.store file d.work)) d
      (λ e. ruling (raise_flag d.store file d.work) (raising d file p e)) p

  each_gives : (files : List FileId) (d : Done) → P d → P (raise_golds files d)
  each_gives [] d p = p
  each_gives (file ∷ files) d p = each_gives files (raise_gold d.store file d.work) (one_gives d file p)

  pub settle_gives : (d : Done) → Q d → P (settle d.store d.work)
  settle_gives d q = each_gives (goldless (ruled d).store) (ruled d) (ruling d q)

-- what both keep
module _ (P : Store → Work → Type 0) where
  abbrev Keeps : Done → Type 0
  Keeps done = P done.store done.work

  module _ (ruling : (store : Store) (work : Work) → P store work → Keeps (rules store work))
      (raising : (store : Store) (file : FileId) (work : Work) → is_goldless store file ≡ true
      → P store work → Keeps (raise_flag store file work)) where
    pub settle_keeps : (store : Store) (work : Work) → P store work → Keeps (settle store work)
    settle_keeps store work p =
        settle_gives Keeps Keeps (λ d q. ruling d.store d.work q) (λ d file q e. raising d.store file d.work e q)
        (idle store work) p
