-- What passes: all that is held but the root.
use Rattle.std.proofs.Common.{◌≡◌, not, Bool, true, false, None, Some, refl, sym, ap, ◌∙◌, inl, inr, ◌⊎◌}
use Rattle.std.specs.Map.{keys_of}
use Rattle.std.proofs.lemmas.Bool.{false≢true, not_from_false, not-true}
use Rattle.std.proofs.lemmas.Option.{none-some}
use Rattle.pg_run.specs.pg_base.declared.id.FileId.{FileId}
use Rattle.pg_run.specs.pg_content.Content.{Among}
use Rattle.pg_run.proofs.pg_content.Members.{among_filter}
use Rattle.pg_run.specs.pg_names.declared.attributes.Attributes.{Attributes}
use Rattle.pg_run.specs.pg_names.Names.{NamesValue, own_at, own_of}
use Rattle.pg_run.specs.pg_house.Returning.{is_root}
use Rattle.pg_run.specs.pg_house.House.{movable}
use Rattle.pg_run.specs.pg_house.Facts.{IsHeld, is_among}
use Rattle.pg_run.proofs.pg_house.Counting.{among_kept, kept_dir}
use Rattle.pg_run.proofs.pg_house.Ends.{key_of_held}
use Rattle.pg_run.proofs.pg_house.Settling.{key_found}
use Rattle.law_passing.proofs.Lists.{among_file, file_among}

module _ (s : NamesValue) where
  key_held : (f : FileId) → Among f (keys_of s.held) → IsHeld s f
  key_held f h = let x = key_found f s.held (among_file f (keys_of s.held) h) in (x.0.own, ap own_of x.1)

  movable_are : (f : FileId) → Among f (movable s) → (IsHeld s f) × (is_root f ≡ false)
  movable_are f h =
      let r = among_filter (λ g. not (is_root g)) f (keys_of s.held) h in
      (key_held f r.0, not-true (is_root f) r.1)

  pub is_movable : (f : FileId) (own : Attributes) → own_at s f ≡ Some own → is_root f ≡ false → is_among f (movable s) ≡ true
  is_movable f own h moves = among_kept (λ g. not (is_root g)) (keys_of s.held) f (key_of_held s f own h) (not_from_false (is_root f) moves)

  -- the root, and what is not held, do not pass
  away_by : (f : FileId) → (is_root f ≡ true) ⊎ (own_at s f ≡ None) → (t : Bool) → is_among f (movable s) ≡ t → t ≡ false
  away_by f away false e = refl
  away_by f (inl top) true e = absurd (false≢true (sym (not-true (is_root f) (kept_dir (λ g. not (is_root g)) (keys_of s.held) f e)) ∙ top))
  away_by f (inr none) true e = let held = (movable_are f (file_among f (movable s) e)).0 in absurd (none-some held.0 (sym none ∙ held.1))

  pub not_movable : (f : FileId) → (is_root f ≡ true) ⊎ (own_at s f ≡ None) → is_among f (movable s) ≡ false
  not_movable f away = away_by f away (is_among f (movable s)) refl
