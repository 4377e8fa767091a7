-- At the start servers hold the root, which has no version.
use Rattle.std.proofs.Common.{ℕ, ◌≡◌, Bool, true, false, [], Option, None, Some, refl, sym, ap, subst, ◌∙◌, inl, inr, ◌⊎◌, arith}
use Rattle.std.proofs.lemmas.Option.{same_Some}
use Rattle.std.specs.List.Sorted.{IsStrictlySortedBy}
use Rattle.pg_run.specs.pg_base.declared.id.FileId.{FileId}
use Rattle.pg_run.specs.pg_base.Id.{is_same_file}
use Rattle.pg_run.proofs.pg_base.Orders.{is_same_file-true}
use Rattle.pg_run.specs.pg_register.Place.{root}
use Rattle.pg_run.specs.pg_replica.Root.{first_root}
use Rattle.pg_run.specs.Asking.{nobody_asked}
use Rattle.pg_run.specs.Took.{first_takes}
use Rattle.pg_run.specs.pg_store.Start.{first_flags}
use Rattle.pg_run.specs.pg_store.Store.{new_store}
use Rattle.law_contents.proofs.Agreed.{agrees_start}
use Rattle.law_contents.proofs.Carrying.{policies}
use Rattle.law_contents.proofs.Changes.{Core, IsOrdered, content_in, core_at, core_of}
use Rattle.law_contents.proofs.Cores.{put_elsewhere, put_here, put_order}
use Rattle.law_contents.proofs.Histories.{none_made}
use Rattle.law_contents.proofs.Sending.{none_carry}
use Rattle.law_contents.proofs.Servers.{Stands, came_of, new_stands, stands_same}
use Rattle.law_contents.proofs.Takes.{first_none}
use Rattle.law_contents.proofs.Worlds.{IsNamed, Sound}

abbrev Holds : ℕ → ℕ → FileId → Type 0
Holds n s file = (core_at (new_store n s) file ≡ None)
    ⊎ ((file ≡ root) × (core_at (new_store n s) file ≡ Some (core_of (first_root s n))))

held_by : (n s : ℕ) (file : FileId) (t : Bool) → is_same_file file root ≡ t → Holds n s file
held_by n s file true e =
    let same = is_same_file-true file root e in
    inr (same, ap (core_at (new_store n s)) same ∙ put_here [] root (first_root s n))
held_by n s file false e = inl (put_elsewhere [] root file (first_root s n) e)

-- the root, and nothing else
holds : (n s : ℕ) (file : FileId) → Holds n s file
holds n s file = held_by n s file (is_same_file file root) refl

none_heads : (n s : ℕ) (file : FileId) → (content_in (core_at (new_store n s) file)).heads ≡ []
none_heads n s file = elim (holds n s file) [
  | inl none ↦ ap (λ (o : Option Core). (content_in o).heads) none
  | inr held ↦ ap (λ (o : Option Core). (content_in o).heads) held.1
]

pub only_root : (n s : ℕ) (file : FileId) (k : Core) → core_at (new_store n s) file ≡ Some k
    → (file ≡ root) × (k ≡ core_of (first_root s n))
only_root n s file k e = elim (holds n s file) [
  | inl none ↦ absurd (let z : None ≡ Some k = sym none ∙ e in cc)
  | inr held ↦ (held.0, same_Some k (core_of (first_root s n)) (sym e ∙ held.1))
]

first_stands : (n s : ℕ)
    → Stands s (new_store n s) [] (policies []) (came_of (first_takes (first_flags n)))
first_stands n s =
    stands_same
    (new_stands s (new_store n s) (policies []) (none_heads n s)
    (λ file k e. ap (λ (c : Core). c.content.policy) (only_root n s file k e).1)
    (λ file k e. ap (λ (c : Core). c.kept) (only_root n s file k e).1) refl)
    (came_of (first_takes (first_flags n))) (λ q. first_none q (first_flags n))

none_ordered : IsOrdered []
unfolding IsStrictlySortedBy
none_ordered = tt

pub sound_start : (n : ℕ)
    → Sound (new_store n) [] (policies []) (λ s. first_takes (first_flags n)) (λ s. nobody_asked)
    []
sound_start n = record {
  server = λ s. refl;
  order = λ s. put_order [] root (first_root s n) none_ordered;
  made = none_made;
  stands = first_stands n;
  short = λ f m l. absurd l;
  agreed = λ s. agrees_start (new_store n s) [] (came_of (first_takes (first_flags n))) refl;
  dated = λ u l. absurd l;
  born = λ u l. absurd l;
  named = λ u l. absurd l;
  held = λ s file k e. subst (IsNamed (new_store n)) (sym (only_root n s file k e).0)
      (omega arith);
  bare = λ file none. refl;
  dirs = λ file is. refl;
  carried = none_carry [] (policies []) (IsNamed (new_store n));
}
