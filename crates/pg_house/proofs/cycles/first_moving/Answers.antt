use Rattle.std.proofs.Common.{rules, ◌≡◌, ◌<◌, ◌^◌, ℕ, false, length, None, sym, ap, subst, ◌∙◌, List}
use Rattle.std.specs.List.{list_any}
use Rattle.pg_base.specs.declared.id.FileId.{FileId}
use Rattle.pg_names.specs.Names.{directories}
use Rattle.pg_house.specs.Cycles.{first_moving, is_lost}
use Rattle.pg_house.proofs.Lost.{dirty_moves}
use Rattle.pg_house.proofs.cycles.first_moving.Goals as goal

pub returns-then-not-is_any_lost : goal.returns-then-not-is_any_lost
returns-then-not-is_any_lost c =
    let s = c.args.names.now in
    let ids = c.dirty_things.result.now in
    let none : list_any (is_lost s (length (directories s))) ids ≡ false = sym (c.is_any_lost.ensures ∙ ap (λ n. list_any (is_lost s n) ids) c.directory_count.ensures) ∙ c.if-not-is_any_lost.true in
    sym (dirty_moves s ids none c.dirty_things.ensures.come)

pub is_any_lost-requires : goal.is_any_lost-requires
is_any_lost-requires c = subst (λ (n : ℕ). n < 2 ^ 62) (sym c.directory_count.ensures) c.requires

pub first_of-requires : goal.first_of-requires
first_of-requires c =
    let same : c.as_slice.result.now ≡ directories c.args.names.now = search rules in
    subst (λ (ds : List FileId). length ds < 2 ^ 62) (sym same) c.requires

pub returns : goal.returns
returns c =
    let s = c.args.names.now in
    let same : c.as_slice.result.now ≡ directories s = search rules in
    c.first_of.ensures ∙ ap (λ (ds : List FileId). first_moving s (length ds) None ds) same
